use Rattle.std.proofs.Common.{◌≡◌, ◌+◌, ◌-◌, ◌≤◌, length, take, drop}
use Rattle.std.specs.Prelude.{vec_len, vec_capacity}
use Rattle.std.specs.Vec.Iter.{into_iter_items, into_iter_len}
use Rattle.phase_threads.specs.Sharing.{AtEach, IsSet}
use Rattle.phase_threads.proofs.dealing.deal.Given as goal

abbrev pub invariant-loop-index : goal.invariant-loop-index
invariant-loop-index g l = record {
  left : into_iter_items l.passes ≡ drop l.index l.fn.passes.items;
  count : into_iter_len l.passes + l.index ≡ length l.fn.actors;
  set : AtEach (IsSet (λ p. p.port.pass) l.shared.desk.table.shared.key.value.start l.shared.desk.table.shared.table_id
      (length l.fn.actors + 1)) (take l.index l.fn.actors) l.all.items;
  same : drop l.index l.actors ≡ drop l.index l.fn.actors;
  room : vec_len l.all + (length l.fn.actors - l.index) ≤ vec_capacity l.all;
}
