-- From what a call does to the areas held in memory to what the disk tells.
use Rattle.std.proofs.Common.{◌≡◌, inl, inr, ℕ, ◌+◌, ◌-◌, ◌<◌, ◌≤◌, ◌^◌, Bool, true, false, ◌||◌, ◌==◌, refl, sym, ◌∙◌, ap, subst, arith}
use Rattle.std.proofs.lemmas.Bool.Decides.{leb_tells, nat_tests}
use Rattle.disk_trait.specs.Held.{Held}
use Rattle.disk_trait.specs.Past.{Past, content, other}
use Rattle.disk_trait.specs.Steps.{ChangesNothing, Changes, Ticks}
use Rattle.disk_trait.specs.Deeds.{NumberedTo}
use Rattle.disk_trait.specs.MemoryPast.{held_at, AddsStep}
use Rattle.disk_trait.specs.MemoryAreas.{part, Numbered, Same, Moves, past_of}
use Rattle.disk_trait.specs.declared.area.Area.{Area}
use Rattle.disk_trait.specs.declared.area.Area.TheVariants.{A, B}
use Rattle.disk_trait.specs.declared.areas.Areas.{Areas}
use Rattle.disk_trait.proofs.DeedLemmas.{numbered_later}
use Rattle.disk_trait.proofs.AreaLemmas.{rests, reads_now}

pub moves_a : (clock : ℕ) (area : Area) (Step : Held → Held → Type 0) (old new : Areas) → area ≡ A → Numbered clock old
    → new.b ≡ old.b → AddsStep clock Step old.a new.a → Moves clock area Step old new
moves_a clock area Step old new is numbered same here =
    subst (λ (x : Area). Moves clock x Step old new) (sym is)
    (record {
      here = here;
      there = rests clock old.b new.b Same numbered.1 (ap (λ m. m.entries.items) same)
          (ap (λ m. m.bytes.items) same) (λ held. refl);
    })

pub moves_b : (clock : ℕ) (area : Area) (Step : Held → Held → Type 0) (old new : Areas) → area ≡ B → Numbered clock old
    → new.a ≡ old.a → AddsStep clock Step old.b new.b → Moves clock area Step old new
moves_b clock area Step old new is numbered same here =
    subst (λ (x : Area). Moves clock x Step old new) (sym is)
    (record {
      here = here;
      there = rests clock old.a new.a Same numbered.0 (ap (λ m. m.entries.items) same)
          (ap (λ m. m.bytes.items) same) (λ held. refl);
    })

-- both areas, from that one and the other
each_area : (area : Area) (P : Area → Type 0) → P area → P (other area) → (x : Area) → P x
each_area A P here there A = here
each_area A P here there B = there
each_area B P here there A = there
each_area B P here there B = here

pub moved_numbered : (clock : ℕ) (area : Area) (Step : Held → Held → Type 0) (old new : Areas)
    → Moves clock area Step old new → Numbered (clock + 1) new
moved_numbered clock area Step old new moves =
    let all = each_area area (λ (x : Area). NumberedTo (clock + 1) (part new x).entries.items) moves.here.numbered
    moves.there.numbered in
    (all A, all B)

pub numbered_on : (clock : ℕ) (areas : Areas) → Numbered clock areas → Numbered (clock + 1) areas
numbered_on clock areas numbered = (
  numbered_later clock (clock + 1) _ (omega arith) numbered.0,
  numbered_later clock (clock + 1) _ (omega arith) numbered.1,
)

pub moves_changes : (clock : ℕ) (area : Area) (Step : Held → Held → Type 0) (old new : Areas)
    → Moves clock area Step old new → Changes area Step (past_of old clock) (past_of new (clock + 1))
moves_changes clock area Step old new moves = record {
  time = record {
    later = omega arith;
    by_one = omega arith;
    before = λ m le i x. each_area area (λ (x : Area). held_at (part new x) m ≡ held_at (part old x) m)
        (moves.here.earlier m le) (moves.there.earlier m le) x i;
  };
  here = moves.here.step;
  there = moves.there.step;
}

part_numbered : (clock : ℕ) (areas : Areas) (area : Area) → Numbered clock areas
    → NumberedTo clock (part areas area).entries.items
part_numbered clock areas A numbered = numbered.0
part_numbered clock areas B numbered = numbered.1

-- a moment more, in which nothing changes
pub looks_on : (clock : ℕ) (areas : Areas) → Numbered clock areas
    → ChangesNothing (past_of areas clock) (past_of areas (clock + 1))
looks_on clock areas numbered = record {
  time = record { later = omega arith; by_one = omega arith; before = λ m le. refl };
  same = λ area. (rests clock (part areas area) (part areas area) Same
      (part_numbered clock areas area numbered) refl refl (λ held. refl)).step;
}

pub looks_still : (p : Past) → ChangesNothing p p
looks_still p = record {
  time = record { later = omega arith; by_one = omega arith; before = λ m le. refl };
  same = λ area. refl;
}

pub reads_part : (clock : ℕ) (areas : Areas) (area : Area) → Numbered clock areas
    → content (past_of areas clock) area ≡ (part areas area).bytes.items
reads_part clock areas area numbered = reads_now clock (part areas area) (part_numbered clock areas area numbered)

pub numbered_upto : (m n : ℕ) (areas : Areas) → m ≤ n → Numbered m areas → Numbered n areas
numbered_upto m n areas later numbered = (numbered_later m n _ later numbered.0, numbered_later m n _ later numbered.1)

pub ticked_later : (ok : Bool) (m n : ℕ) → Ticks ok m n → m ≤ n
ticked_later ok m n time = elim (leb_tells (2 ^ 64 - 1) m)
    [ inl last ↦ omega (arith, time.last last.1) | inr goes ↦ omega (arith, time.goes goes.1) ]

-- a call that changes nothing, whether the clock goes on or stands at its last value
pub ticked_looks : (ok : Bool) (m n : ℕ) (areas : Areas) → Ticks ok m n → Numbered m areas
    → ChangesNothing (past_of areas m) (past_of areas n)
ticked_looks ok m n areas time numbered = elim (leb_tells (2 ^ 64 - 1) m) [
  | inl last ↦ subst (λ (k : ℕ). ChangesNothing (past_of areas m) (past_of areas k)) (sym (time.last last.1))
      (looks_still (past_of areas m))
  | inr goes ↦ subst (λ (k : ℕ). ChangesNothing (past_of areas m) (past_of areas k)) (sym (time.goes goes.1))
      (looks_on m areas numbered)
]

or_false : (x y : Bool) → (x || y) ≡ false → x ≡ false
or_false true y h = absurd (cc)
or_false false y h = refl

-- where the next call isn't to fail, the clock isn't at its last value
pub not_last : (clock : ℕ) (rest : Bool) → (clock == 2 ^ 64 - 1 || rest) ≡ false → clock < 2 ^ 64 → clock < 2 ^ 64 - 1
not_last clock rest passes small = let e = or_false (clock == 2 ^ 64 - 1) rest passes in grind (arith, nat_tests)

-- a call of which the disk says later whether there was memory for it
pub tried_changes : (clock moment : ℕ) (area : Area) (ok found : Bool) (Step : Bool → Held → Held → Type 0)
    (old new : Areas) (q : Past) → Moves clock area (Step found) old new → ok ≡ found → q ≡ past_of new moment
    → moment ≡ clock + 1
    → Changes area (Step ok) (past_of old clock) q
tried_changes clock moment area ok found Step old new q moves same is next =
    subst (λ (b : Bool). Changes area (Step b) (past_of old clock) q) (sym same)
    (subst (λ (r : Past). Changes area (Step found) (past_of old clock) r) (sym (is ∙ ap (past_of new) next))
    (moves_changes clock area (Step found) old new moves))
