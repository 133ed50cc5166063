use Rattle.std.proofs.Common.{◌≡◌, ◌+◌, ◌≤◌, ◌-◌, ◌++◌, take, length, vec_len, vec_capacity}
use Rattle.route_emitter.specs.Entries.{minus}
use Rattle.route_emitter.proofs.sorted.add_lacking.Given as goal

abbrev pub invariant-loop-entry : goal.invariant-loop-entry
invariant-loop-entry l =
    (l.lacking.items ≡ l.fn.lacking.items ++ minus (take l.entry-index l.entries) l.others)
    × (vec_len l.lacking + (length l.entries - l.entry-index) ≤ vec_capacity l.lacking)
