-- The number of transitions in a board's life is a word's.
use Rattle.std.proofs.Common.{◌≡◌, ℕ, ◌+◌, ◌-◌, ◌^◌, ◌<◌, ◌≤◌, List, [], ◌∷◌, length, sym, subst, arith}
use Rattle.bbs_board.specs.Doubts.{doubts_in}
use Rattle.bbs_laws.proofs.Public.{IsValid-rows_after, next-rows_after}
use Rattle.bbs_model.specs.Replay.{IsLawful, replay_log}
use Rattle.bbs_model.specs.Step.{rows_after}
use Rattle.bbs_model.specs.Valid.{IsValid}
use Rattle.bbs_model.specs.declared.item.Item.{Item}
use Rattle.bbs_model.specs.declared.item.Item.TheVariants.{Done, Doubt}
use Rattle.bbs_model.specs.declared.rows.Rows.{Rows}
use Rattle.pair_top.proofs.Doubts.{few_doubts}

next_behind : (base : Rows) (log : List Item) → IsLawful base log
    → (replay_log base log).next + doubts_in log ≡ base.next + length log
next_behind base [] lawful = omega arith
next_behind base (Done by c ∷ is) lawful =
    omega (arith, next-rows_after base c lawful.0, next_behind (rows_after base c) is lawful.1)
next_behind base (Doubt by c ∷ is) lawful = omega (arith, next_behind base is lawful.1)

valid_behind : (base : Rows) (log : List Item) → IsValid base → IsLawful base log → IsValid (replay_log base log)
valid_behind base [] valid lawful = valid
valid_behind base (Done by c ∷ is) valid lawful =
    valid_behind (rows_after base c) is (IsValid-rows_after base c valid lawful.0) lawful.1
valid_behind base (Doubt by c ∷ is) valid lawful = valid_behind base is valid lawful.1

below : (next doubts start all most : ℕ) → next + doubts ≡ start + all → next ≤ 1099511627776 → doubts ≤ all
    → start + (all - doubts) ≤ 1099511627776
below next doubts start all most is few some = omega (arith, is, few, some)

pub fits : (base : Rows) (log : List Item) → IsValid base → IsLawful base log
    → base.next + (length log - doubts_in log) < 2 ^ 64
fits base log valid lawful =
    let few = below (replay_log base log).next (doubts_in log) base.next (length log) 0 (next_behind base log lawful)
    (valid_behind base log valid lawful).next (few_doubts log) in
    omega (arith, few)

-- the same, of items that are a log behind so many transitions
pub fits_at : (base : Rows) (log items : List Item) (start : ℕ) → IsValid base → IsLawful base log → log ≡ items
    → start ≡ base.next → start + (length items - doubts_in items) < 2 ^ 64
fits_at base log items start valid lawful log_is start_is =
    subst (λ (l : List Item). start + (length l - doubts_in l) < 2 ^ 64) log_is
    (subst (λ (n : ℕ). n + (length log - doubts_in log) < 2 ^ 64) (sym start_is) (fits base log valid lawful))
