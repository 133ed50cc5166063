use Rattle.std.proofs.Common.{◌≡◌, ◌+◌, ◌-◌, ◌≤◌, ◌++◌, drop, length, vec_len, vec_capacity}
use Rattle.row_tables.specs.Table.{IsRising}
use Rattle.route_emitter.specs.Entries.{itself, route_order}
use Rattle.route_emitter.specs.Near.{toggle_each}
use Rattle.route_emitter.proofs.changing.merge.Given as goal

abbrev pub invariant-loop-entry : goal.invariant-loop-entry
invariant-loop-entry l = record {
  told : l.next.items ++ toggle_each (drop l.entry-index l.changes) l.rest ≡ toggle_each l.changes l.entries;
  rising : IsRising route_order itself l.rest;
  order : IsRising route_order itself (drop l.entry-index l.changes);
  room : vec_len l.next + length l.rest + (length l.changes - l.entry-index) ≤ vec_capacity l.next;
}
