-- Logs that grow by an item.
use Rattle.std.proofs.Common.{◌≡◌, ◌⊎◌, inl, inr, ℕ, zero, suc, ◌<◌, ◌≤◌, List, [], ◌∷◌, ◌++◌, length, take, slice_get, Some, refl, sym, ap, ◌∙◌, arith, length-append}
use Rattle.std.proofs.lemmas.List.{take-append-le}
use Rattle.bbs_model.specs.Replay.{after_item, replay_log, rows_at, IsReached}
use Rattle.bbs_model.specs.Step.{rows_after}
use Rattle.bbs_model.specs.declared.item.Item.{Item}
use Rattle.bbs_model.specs.declared.item.Item.TheVariants.{Doubt}
use Rattle.bbs_model.specs.declared.rows.Rows.{Rows}
use Rattle.bbs_laws.proofs.Public.{replay_log-append, place-within}
use Rattle.bbs_board.specs.Kept.{RiseBetween}

-- ---- places in a list

module _ {X : Type 0} where
  -- what stands at a place stands there in a longer list
  pub get_more : (xs ys : List X) (place : ℕ) (x : X) → slice_get xs place ≡ Some x
      → slice_get (xs ++ ys) place ≡ Some x
  get_more [] ys place x is = cc
  get_more (y ∷ xs) ys zero x is = is
  get_more (y ∷ xs) ys (suc place) x is = get_more xs ys place x is

  pub get_last : (xs : List X) (x : X) → slice_get (xs ++ x ∷ []) (length xs) ≡ Some x
  get_last [] x = refl
  get_last (y ∷ xs) x = get_last xs x

  -- what stands in a list that grew by one stood there before, or is the new one
  pub get_split : (xs : List X) (y : X) (place : ℕ) (x : X) → slice_get (xs ++ y ∷ []) place ≡ Some x
      → ((place < length xs) × (slice_get xs place ≡ Some x)) ⊎ ((place ≡ length xs) × (y ≡ x))
  get_split [] y zero x is = inr (refl, cc)
  get_split [] y (suc place) x is = absurd (cc)
  get_split (z ∷ xs) y zero x is = inl (omega arith, is)
  get_split (z ∷ xs) y (suc place) x is = elim (get_split xs y place x is) [
    | inl here ↦ inl (omega (arith, here.0), here.1)
    | inr last ↦ inr (omega (arith, last.0), last.1)
  ]

  take_all : (xs : List X) → take (length xs) xs ≡ xs
  take_all [] = refl
  take_all (x ∷ xs) = ap (λ (l : List X). x ∷ l) (take_all xs)

-- ---- rows at a place

pub rows_before : (base : Rows) (xs ys : List Item) (place : ℕ) → place ≤ length xs
    → rows_at base (xs ++ ys) place ≡ rows_at base xs place
rows_before base xs ys place le = ap (replay_log base) (take-append-le place xs ys le)

pub rows_end : (base : Rows) (log : List Item) → rows_at base log (length log) ≡ replay_log base log
rows_end base log = ap (replay_log base) (take_all log)

-- the rows behind a log are those at its end, however it goes on
pub rows_behind : (base : Rows) (log more : List Item) → rows_at base (log ++ more) (length log) ≡ replay_log base log
rows_behind base log more = rows_before base log more (length log) (omega arith) ∙ rows_end base log

pub replay_more : (base : Rows) (log : List Item) (item : Item)
    → replay_log base (log ++ item ∷ []) ≡ after_item (replay_log base log) item
replay_more base log item = replay_log-append base log (item ∷ [])

-- ---- what is reached

pub reached_more : (base : Rows) (xs ys : List Item) (from : ℕ) (rows : Rows) → IsReached base xs from rows
    → IsReached base (xs ++ ys) from rows
reached_more base xs ys from rows (inl at) = inl (record {
  place = at.place;
  low = at.low;
  high = let high = at.high in omega (arith, high, length-append xs ys);
  rows_are = at.rows_are ∙ sym (rows_before base xs ys at.place at.high);
})
reached_more base xs ys from rows (inr at) = inr (record {
  place = at.place;
  low = at.low;
  by = at.by;
  command = at.command;
  doubt = get_more xs ys at.place (Doubt at.by at.command) at.doubt;
  rows_are = at.rows_are ∙ ap (λ (r : Rows). rows_after r at.command)
      (sym (rows_before base xs ys at.place (place-within xs at.place (Doubt at.by at.command) at.doubt)));
})

-- the rows at the end of a log, from any place on
pub reached_end : (base : Rows) (log : List Item) (from : ℕ) → from ≤ length log
    → IsReached base log from (replay_log base log)
reached_end base log from le = inl (record {
  place = length log;
  low = le;
  high = omega arith;
  rows_are =
      sym (rows_end base log);
})

-- ---- marks

pub rising_more : (low : ℕ) (marks : List ℕ) (high mark : ℕ) → RiseBetween low marks high → high ≤ mark
    → RiseBetween low (marks ++ mark ∷ []) mark
rising_more low [] high mark rising le = (omega (arith, rising, le), omega arith)
rising_more low (m ∷ marks) high mark rising le = (rising.0, rising_more m marks high mark rising.1 le)
