use Rattle.std.proofs.Common.{◌≡◌, take, vec_len, vec_capacity}
use Rattle.route_emitter.specs.Near.{exchange_each}
use Rattle.route_emitter.proofs.exchanging.exchange_each.Given as goal

abbrev pub invariant-loop-at : goal.invariant-loop-at
invariant-loop-at l = record {
  so_far : l.entries.items ≡ exchange_each (take l.at l.old) (take l.at l.new) l.fn.entries.items;
  len : vec_len l.entries ≡ vec_len l.fn.entries;
  capacity : vec_capacity l.entries ≡ vec_capacity l.fn.entries;
}
