-- The lemmas that other crates may cite.
pub use Rattle.converge_round.proofs.Apart.{open_answers}
pub use Rattle.converge_round.proofs.Asked.{asked_here, asked_looks, asked_then, asked_weaker, asked_list, claim_in, fail_in}
pub use Rattle.converge_round.proofs.HeardLaws.{if_ok, name_there, rep_there}
pub use Rattle.converge_round.proofs.JobsApart.{jobs_differ}
pub use Rattle.converge_round.proofs.Lists.{first_or_rest, from_kept}
pub use Rattle.converge_round.proofs.Owns.{own_as, own_called, own_looks, own_none, own_then, own_weaker}
pub use Rattle.converge_round.proofs.StartLaws.{claims_jobs, own_started}
