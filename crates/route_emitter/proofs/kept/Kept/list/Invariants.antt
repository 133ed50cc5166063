use Rattle.std.proofs.Common.{◌≡◌, ◌*◌, ◌≤◌, take, vec_len, vec_capacity}
use Rattle.std.specs.List.{flat_map}
use Rattle.route_emitter.specs.Near.{entries_at}
use Rattle.route_emitter.proofs.kept.Kept.list.Given as goal

abbrev pub invariant-loop-key : goal.invariant-loop-key
invariant-loop-key l = record {
  so_far : l.entries.items ≡ flat_map (entries_at l.self.desired l.self.running) (take l.key-index l.keys);
  few : vec_len l.entries ≤ 3 * l.key-index;
  capacity : vec_capacity l.entries ≡ vec_capacity l.fn.entries;
}
