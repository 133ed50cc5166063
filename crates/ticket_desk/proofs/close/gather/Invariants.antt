-- The passes behind those that are left were joined.
use Rattle.std.proofs.Common.{◌≡◌, vec_len}
use Rattle.ticket_desk.specs.Ends.{AreOf, HasGathered}
use Rattle.ticket_desk.proofs.close.gather.Given as goal

abbrev pub invariant-loop-pass : goal.invariant-loop-pass
invariant-loop-pass g l = record {
  board : l.first.table_id ≡ l.fn.first.table_id;
  left : AreOf l.top.table_id l.rest.items;
  gathered : HasGathered l.fn.rest.items l.rest.items l.fn.first.me l.first.me;
}

abbrev pub decreases-loop-pass : goal.decreases-loop-pass
decreases-loop-pass g l = vec_len l.rest
