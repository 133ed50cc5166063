-- Beginnings of what was done, as places of a log; numbers that never fall, one list behind another.
use Rattle.std.proofs.Common.{◌≡◌, ◌≤◌, ℕ, zero, suc, List, [], ◌∷◌, length, take, refl, sym, ap, inl, ◌∙◌, arith}
use Rattle.std.proofs.Math.Seq.{take-nil}
use Rattle.bbs_model.specs.Replay.{replay_log}
use Rattle.bbs_model.specs.declared.command.Command.{Command}
use Rattle.bbs_model.specs.declared.item.Item.{Item}
use Rattle.bbs_model.specs.declared.item.Item.TheVariants.{Done, Doubt}
use Rattle.board_port.proofs.Public.{rises_then}
use Rattle.standby_board.specs.Laws.{BeginningsAreReached, NumbersRiseOverTakeOvers}
use Rattle.standby_board.specs.Pairs.{dones}
use Rattle.standby_board.proofs.Items.{replay-dones}

pub numbers_rise : NumbersRiseOverTakeOvers
numbers_rise floor next greatest numbers later first second =
    rises_then floor next greatest numbers later first second

-- a place of a log up to which so much was done
record IsDoneBy (log : List Item) (from count : ℕ) : Type 0 where
  pub place : ℕ
  pub low : from ≤ place
  pub high : place ≤ length log
  pub is : dones (take place log) ≡ take count (dones log)

-- behind another item
behind_done : (by : ℕ) (c : Command) (log : List Item) (from from' count : ℕ) → from' ≤ suc from
    → IsDoneBy log from count → IsDoneBy (Done by c ∷ log) from' (suc count)
behind_done by c log from from' count le found =
    let low = found.low in
    let high = found.high in
    record {
      place = suc found.place;
      low = omega (arith, le, low);
      high = omega (arith, high);
      is =
          ap (λ (is : List Item). Done by c ∷ is) found.is;
    }

behind_doubt : (by : ℕ) (c : Command) (log : List Item) (from from' count : ℕ) → from' ≤ suc from
    → IsDoneBy log from count → IsDoneBy (Doubt by c ∷ log) from' count
behind_doubt by c log from from' count le found =
    let low = found.low in
    let high = found.high in
    record { place = suc found.place; low = omega (arith, le, low); high = omega (arith, high); is = found.is }

done_by : (log : List Item) (from count : ℕ) → from ≤ length log → length (dones (take from log)) ≤ count
    → count ≤ length (dones log) → IsDoneBy log from count
done_by [] from count within least most = record {
  place = 0;
  low = within;
  high = omega arith;
  is =
      sym (take-nil count);
}
done_by (Done by c ∷ log) zero zero within least most =
    record { place = 0; low = omega arith; high = omega arith; is = refl }
done_by (Done by c ∷ log) zero (suc count) within least most =
    behind_done by c log zero zero count (omega arith) (done_by log zero count (omega arith) (omega arith)
    (omega (arith, most)))
done_by (Done by c ∷ log) (suc from) zero within least most = absurd (omega (arith, least))
done_by (Done by c ∷ log) (suc from) (suc count) within least most =
    behind_done by c log from (suc from) count (omega arith)
    (done_by log from count (omega (arith, within)) (omega (arith, least)) (omega (arith, most)))
done_by (Doubt by c ∷ log) zero count within least most =
    behind_doubt by c log zero zero count (omega arith) (done_by log zero count (omega arith) least most)
done_by (Doubt by c ∷ log) (suc from) count within least most =
    behind_doubt by c log from (suc from) count (omega arith)
    (done_by log from count (omega (arith, within)) least most)

pub reached : BeginningsAreReached
reached base log from count within least most =
    let found = done_by log from count within least most in
    inl (record {
      place = found.place;
      low = found.low;
      high = found.high;
      rows_are = ap (replay_log base) (sym found.is) ∙ replay-dones base (take found.place log);
    })
