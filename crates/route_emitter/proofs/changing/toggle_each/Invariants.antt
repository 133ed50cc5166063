use Rattle.std.proofs.Common.{◌≡◌, ◌+◌, ◌-◌, ◌≤◌, drop, length, vec_len, vec_capacity}
use Rattle.row_tables.specs.Table.{IsRising}
use Rattle.route_emitter.specs.Entries.{itself, route_order}
use Rattle.route_emitter.specs.Near.{toggle_each}
use Rattle.route_emitter.proofs.changing.toggle_each.Given as goal

abbrev pub invariant-loop-entry : goal.invariant-loop-entry
invariant-loop-entry l = record {
  rest : toggle_each (drop l.entry-index l.changes) l.entries.items ≡ toggle_each l.changes l.fn.entries.items;
  rising : IsRising route_order itself l.entries.items;
  room : vec_len l.entries + (length l.changes - l.entry-index) ≤ vec_capacity l.entries;
}
