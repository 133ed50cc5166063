-- What an attempt has passed: its refusals, and that there are the rows that it asks for.
use Rattle.std.proofs.Common.{◌≡◌, ℕ, ◌<◌, ◌≤◌, Bool, true, false, ◌&&◌, cond, [], ◌∷◌, ◌++◌, Option, Some, None, is_some, is_none, nat_le, nat_lt, ◌==◌, refl, arith}
use Rattle.std.specs.List.{AllByRecursion}
use Rattle.std.proofs.lemmas.Bool.Decides.{nat_tests}
use Rattle.cell_records.specs.declared.cell_row.CellRow.{CellRow}
use Rattle.bbs_model.specs.Attempts.{Refusals, unless_refused, if_known, if_joined}
use Rattle.bbs_model.specs.declared.attempt.Attempt.{Attempt}
use Rattle.bbs_model.specs.declared.attempt.Attempt.TheVariants.{Refuse}
use Rattle.bbs_model.specs.declared.verdict.BoardRefusal.{BoardRefusal}
use Rattle.bbs_model.specs.declared.verdict.BoardRefusal.TheVariants.{Unknown, UnknownCell, StaleEpoch}

-- no cause of these holds
abbrev pub ArePassed : Refusals → Type 0
ArePassed cs = AllByRecursion (λ (c : Bool × BoardRefusal). c.0 ≡ false) cs

-- the later ones of these are passed
pub passed_later : (first later : Refusals) → ArePassed (first ++ later) → ArePassed later
passed_later [] later h = h
passed_later (c ∷ first) later h = passed_later first later h.1

pub none_from : {X : Type 0} (o : Option X) → is_some o ≡ false → o ≡ None
none_from None h = refl
none_from (Some x) h = cc

-- a limit that is tested for a row with a new key alone
pub room_from : {X : Type 0} (o : Option X) (most n : ℕ) → is_none o && nat_le most n ≡ false → o ≡ None → n < most
room_from None most n h e = grind (arith, nat_tests)
room_from (Some x) most n h e = cc

pub below_from : (most n : ℕ) → nat_le most n ≡ false → n < most
below_from most n h = grind (arith, nat_tests)

pub within_from : (most n : ℕ) → nat_lt most n ≡ false → n ≤ most
within_from most n h = grind (arith, nat_tests)

pub same_from : (a b : ℕ) → a == b ≡ true → a ≡ b
same_from a b h = grind (arith, nat_tests)

-- what holds of each refusal, and of what comes after them where none is given
module _ (P : Attempt → Type 0) (refused : (why : BoardRefusal) → P (Refuse why)) where
  pub by_test : (b : Bool) (x y : Attempt) → (b ≡ true → P x) → (b ≡ false → P y) → P (cond b x y)
  by_test true x y h g = h refl
  by_test false x y h g = g refl

  pub by_passing : (cs : Refusals) (attempt : Attempt) → (ArePassed cs → P attempt) → P (unless_refused cs attempt)
  by_passing [] attempt h = h tt
  by_passing (c ∷ cs) attempt h =
      by_test c.0 (Refuse c.1) (unless_refused cs attempt) (λ e. refused c.1)
      (λ e. by_passing cs attempt (λ rest. h (e, rest)))

  pub by_knowing : {X : Type 0} (o : Option X) (attempt : X → Attempt) → ((x : X) → o ≡ Some x → P (attempt x))
      → P (if_known o attempt)
  by_knowing None attempt h = refused Unknown
  by_knowing (Some x) attempt h = h x refl

  pub by_joining : (o : Option CellRow) (epoch : ℕ) (attempt : CellRow → Attempt)
      → ((row : CellRow) → o ≡ Some row → row.epoch ≡ epoch → P (attempt row)) → P (if_joined o epoch attempt)
  by_joining None epoch attempt h = refused UnknownCell
  by_joining (Some row) epoch attempt h =
      by_test (row.epoch == epoch) (attempt row) (Refuse (StaleEpoch row.epoch))
      (λ e. h row refl (same_from row.epoch epoch e)) (λ e. refused (StaleEpoch row.epoch))
