-- So far the numbers below `number` were given, each to a pass of its own.
use Rattle.std.proofs.Common.{◌≡◌, vec_capacity}
use Rattle.ticket_desk.specs.Ends.{AreGiven}
use Rattle.ticket_desk.proofs.start.deal.Given as goal

abbrev pub invariant-loop-number : goal.invariant-loop-number
invariant-loop-number g l = record {
  board : l.first.table_id ≡ l.fn.first.table_id;
  first : l.first.me ≡ (record l.fn.first.me.0 { given = l.number }, l.fn.first.me.1);
  dealt : AreGiven l.top.table_id l.fn.first.me.0 l.number l.passes.items;
  room : vec_capacity l.passes ≡ vec_capacity l.fn.passes;
}
