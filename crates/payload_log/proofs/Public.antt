-- The lemmas that other crates may cite.
pub use Rattle.payload_log.proofs.Begun.{can_begin}
pub use Rattle.payload_log.proofs.Held.{err_is}
pub use Rattle.payload_log.proofs.Logs.{get_more, get_last, get_split, get_within, take_front, take_whole, done-append, stored-done, stored-doubt}
