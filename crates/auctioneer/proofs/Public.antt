-- The lemmas that other crates may cite.
pub use Rattle.auctioneer.proofs.AuctionLaws.{jobs_placed, takes_room, names_answers}
pub use Rattle.auctioneer.proofs.TurnOrder.{IsKeyOrder-turn_order, same_turn}
