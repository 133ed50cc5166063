use Rattle.std.proofs.Common.{◌≡◌, ◌+◌, ◌-◌, ◌++◌, ◌≤◌, length, map, take, drop}
use Rattle.std.specs.Prelude.{vec_len, vec_capacity}
use Rattle.std.specs.Vec.Iter.{into_iter_items, into_iter_len}
use Rattle.phase_threads.proofs.gathering.gather.Given as goal

abbrev pub invariant-loop-index : goal.invariant-loop-index
invariant-loop-index g l = record {
  left : into_iter_items l.all ≡ drop l.index l.fn.all.items;
  count : into_iter_len l.all + l.index ≡ length l.fn.actors;
  actors : take l.index l.actors ≡ map (λ x. x.actor) (take l.index l.fn.all.items);
  passes : l.passes.items ≡ l.initial.passes.items ++ map (λ x. x.port.port.pass) (take l.index l.fn.all.items);
  parts : l.parts.items ≡ l.initial.parts.items ++ map (λ x. x.part.items) (take l.index l.fn.all.items);
  more_passes : vec_len l.passes + (length l.fn.actors - l.index) ≤ vec_capacity l.passes;
  more_parts : vec_len l.parts + (length l.fn.actors - l.index) ≤ vec_capacity l.parts;
}
