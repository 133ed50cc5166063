-- What a device call does to the record, and so to what the disk tells.
use Rattle.std.specs.Prelude.{nat_le}
use Rattle.std.specs.List.{list_all}
use Rattle.std.proofs.Common.{◌≡◌, inl, inr, ℕ, ◌+◌, ◌<◌, ◌≤◌, Bool, true, false, ◌&&◌, List, [], ◌∷◌, ◌++◌, refl, sym, ◌∙◌, ap, subst, arith, append_assoc}
use Rattle.std.proofs.lemmas.Bool.{cases_Bool}
use Rattle.std.proofs.lemmas.Bool.Decides.{nat_tests}
use Rattle.std.proofs.lemmas.List.Folds.{list_all-append}
use Rattle.disk_trait.specs.Held.{Held}
use Rattle.disk_trait.specs.Past.{Past, now, other}
use Rattle.disk_trait.specs.Steps.{Goes, Elapses, ChangesNothing, Changes}
use Rattle.disk_trait.specs.declared.area.Area.{Area}
use Rattle.disk_trait.specs.declared.area.Area.TheVariants.{A, B}
use Rattle.file_calls.specs.Call.{Call, began}
use Rattle.file_calls.specs.Files.{First, same_area, held_by, tick, ticks, up_to}
use Rattle.file_calls.specs.Honest.{agrees, is_honest}
use Rattle.file_calls.specs.Told.{files_past, told_past}
use Rattle.file_calls.specs.Made.{AddsCalls}

-- Truth values.

pub and_first : (a b : Bool) → (a && b) ≡ true → a ≡ true
and_first true b h = refl
and_first false b h = absurd (cc)

pub and_second : (a b : Bool) → (a && b) ≡ true → b ≡ true
and_second true b h = h
and_second false b h = absurd (cc)

pub and_both : (a b : Bool) → a ≡ true → b ≡ true → (a && b) ≡ true
and_both true b h k = k
and_both false b h k = absurd (cc)

pub area_here : (area : Area) → same_area area area ≡ true
area_here A = refl
area_here B = refl

pub area_there : (area : Area) → same_area (other area) area ≡ false
area_there A = refl
area_there B = refl

-- Calls of one kind that were added.

pub adds_none : (kind : Call → Bool) (history : List Call) → AddsCalls kind history history
adds_none kind history = ([], refl, refl)

pub adds_one : (kind : Call → Bool) (old new : List Call) (call : Call) → kind call ≡ true → new ≡ call ∷ old
    → AddsCalls kind old new
adds_one kind old new call is added = (call ∷ [], added, and_both (kind call) true is refl)

pub adds_then : (kind : Call → Bool) (old between new : List Call) → AddsCalls kind old between
    → AddsCalls kind between new → AddsCalls kind old new
adds_then kind old between new first second = (
  second.0 ++ first.0,
  second.1 ∙ ap (λ (l : List Call). second.0 ++ l) first.1 ∙ sym (append_assoc second.0 first.0 old),
  list_all-append kind second.0 first.0 ∙ and_both _ _ second.2 first.2,
)

-- such calls are no beginnings
abbrev pub Works : (Call → Bool) → Type 0
Works kind = (call : Call) → kind call ≡ true → tick call ≡ 0

module _ (kind : Call → Bool) (works : Works kind) (old : List Call) where
  ticks_more : (calls : List Call) → list_all kind calls ≡ true → ticks (calls ++ old) ≡ ticks old
  ticks_more [] all = refl
  ticks_more (call ∷ calls) all = omega (
    arith,
    ticks_more calls (and_second (kind call) _ all),
    works call (and_first (kind call) _ all),
  )

  up_to_more : (moment : ℕ) (calls : List Call) → list_all kind calls ≡ true → moment < ticks old
      → up_to moment (calls ++ old) ≡ up_to moment old
  up_to_more moment [] all early = refl
  up_to_more moment (call ∷ calls) all early =
      let more = ticks_more (call ∷ calls) all in
      let late : nat_le (ticks (calls ++ old) + tick call) moment ≡ false = grind (arith, nat_tests, more) in
      rw late (up_to_more moment calls (and_second (kind call) _ all) early)

honest_more : (first : First) (old calls : List Call) → is_honest first (calls ++ old) ≡ true
    → is_honest first old ≡ true
honest_more first old [] honest = honest
honest_more first old (call ∷ calls) honest = honest_more first old calls
    (and_second (agrees first call (calls ++ old)) _ honest)

-- where it is honest at the end, it was before
pub honest_before : (first : First) (kind : Call → Bool) (old new : List Call) → AddsCalls kind old new
    → is_honest first new ≡ true → is_honest first old ≡ true
honest_before first kind old new adds honest = honest_more first old adds.0
    (subst (λ (l : List Call). is_honest first l ≡ true) adds.1 honest)

pub ticks_same : (kind : Call → Bool) → Works kind → (old new : List Call) → AddsCalls kind old new
    → ticks new ≡ ticks old
ticks_same kind works old new adds = ap ticks adds.1 ∙ ticks_more kind works old adds.0 adds.2

-- The whole record is what there was up to now.
pub up_to_now : (moment : ℕ) (history : List Call) → ticks history ≤ moment → up_to moment history ≡ history
up_to_now moment [] le = refl
up_to_now moment (call ∷ earlier) le = let now : nat_le (ticks earlier + tick call) moment ≡ true =
    grind (arith, nat_tests) in rw now refl

pub now_is : (first : First) (history : List Call) (area : Area)
    → now (files_past first history) area ≡ held_by first area history
now_is first history area = ap (held_by first area) (up_to_now (ticks history) history (omega arith))

-- A device call.
module _ (first : First) (kind : Call → Bool) (works : Works kind) (old new : List Call)
    (adds : AddsCalls kind (began ∷ old) new) where
  pub ticks_on : ticks new ≡ ticks old + 1
  ticks_on = ticks_same kind works (began ∷ old) new adds

  pub honest_was : is_honest first new ≡ true → is_honest first old ≡ true
  honest_was = honest_before first kind (began ∷ old) new adds

  up_to_was : (moment : ℕ) → moment ≤ ticks old → up_to moment new ≡ up_to moment old
  up_to_was moment le =
      let late : nat_le (ticks old + 1) moment ≡ false = grind (arith, nat_tests) in
      let begun : up_to moment (began ∷ old) ≡ up_to moment old = rw late refl in
      ap (up_to moment) adds.1 ∙ up_to_more kind works (began ∷ old) moment adds.0 adds.2 (omega arith) ∙ begun

  elapses : Elapses (files_past first old) (files_past first new)
  elapses = record {
    later = omega (arith, ticks_on);
    by_one = omega (arith, ticks_on);
    before = λ m le. ap {B = Area → Held} (λ (l : List Call) (area : Area). held_by first area l) (up_to_was m le);
  }

  pub looks_on : ((area : Area) → held_by first area new ≡ held_by first area old)
      → ChangesNothing (files_past first old) (files_past first new)
  looks_on same = record {
    time = elapses;
    same = λ area.
        now_is first new area ∙ same area ∙ sym (now_is first old area);
  }

  pub changes_on : (area : Area) (Step : Held → Held → Type 0)
      → held_by first (other area) new ≡ held_by first (other area) old
      → Step (held_by first area old) (held_by first area new)
      → Changes area Step (files_past first old) (files_past first new)
  changes_on area Step there here = record {
    time = elapses;
    here = subst (λ (h : Held). Step h (now (files_past first new) area)) (sym (now_is first old area))
        (subst (Step (held_by first area old)) (sym (now_is first new area)) here);
    there = now_is first new (other area) ∙ there ∙ sym (now_is first old (other area));
  }

-- a device call at the clock's last value
still : (p : Past) → Elapses p p
still p = record { later = omega arith; by_one = omega arith; before = λ m le. refl }

pub looks_still : (p : Past) → ChangesNothing p p
looks_still p = record { time = still p; same = λ area. refl }

pub changes_still : (p : Past) (area : Area) (Step : Held → Held → Type 0) → ((held : Held) → Step held held)
    → Changes area Step p p
changes_still p area Step step = record { time = still p; here = step (now p area); there = refl }

-- what is told goes on as the pasts do, as long as all agrees
pub goes_on : (first : First) (old new : List Call) (Does : Past → Past → Type 0)
    → (is_honest first new ≡ true → is_honest first old ≡ true)
    → (is_honest first new ≡ true → Does (files_past first old) (files_past first new))
    → Goes (told_past first old) (told_past first new) Does
goes_on first old new Does back does = elim (cases_Bool (is_honest first new)) [
  | inl honest ↦ rw (honest, back honest) (does honest)
  | inr silent ↦ elim (cases_Bool (is_honest first old))
      [ inl was ↦ rw (silent, was) tt | inr was ↦ rw (silent, was) tt ]
]
