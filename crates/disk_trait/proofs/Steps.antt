-- What the kinds of device calls do to what is read of an area and what a stop may leave of it, and
-- how their runs join. P stands for what holds of an area whatever a torn write has done to it.
use Rattle.std.proofs.Common.{◌≡◌, ◌⊎◌, inl, inr, ⊎_elim, ℕ, ◌≤◌, Bool, true, false, List, length, refl, sym, ◌∙◌, ap, subst, arith}
use Rattle.std.proofs.lemmas.Bool.Decides.{leb_tells}
use Rattle.disk_trait.proofs.Ranges.{torn_overwritten}
use Rattle.disk_trait.specs.Held.{Held, Range, Torn, Leaves, Has, AreBytes, IsSettledArea}
use Rattle.disk_trait.specs.Past.{Past, now, content, other, Image, ImagesSince, Images}
use Rattle.disk_trait.specs.Steps.{Elapses, ChangesNothing, Changes, Wrote, Synced, pend, settle, range_of, overwritten}
use Rattle.disk_trait.specs.Runs.{Extends, Runs, Turns}
use Rattle.disk_trait.specs.declared.area.Area.{Area}

-- Time.

pub extends_same : (p : Past) → Extends p p
extends_same p = record { later = omega arith; before = λ m le. refl }

pub extends_then : (p q r : Past) → Extends p q → Extends q r → Extends p r
extends_then p q r first second = record {
  later = omega (arith, first.later, second.later);
  before = λ m le. second.before m (omega (arith, le, first.later)) ∙ first.before m le;
}

pub elapses_extends : (p q : Past) → Elapses p q → Extends p q
elapses_extends p q time = record { later = time.later; before = time.before }

-- what an area held at an earlier moment
pub was_held : (p q : Past) → Extends p q → (area : Area) (moment : ℕ) → moment ≤ p.clock
    → q.held moment area ≡ p.held moment area
was_held p q extends area moment le = ap (λ (h : Area → Held). h area) (extends.before moment le)

-- What an area has.

pub has_weaker : (P Q : List ℕ → Type 0) (held : Held) → ((bytes : List ℕ) → P bytes → Q bytes) → Has P held
    → Has Q held
has_weaker P Q held weaker has = record {
  reads = weaker held.reads has.reads;
  leaves = λ left leaves.
      weaker left (has.leaves left leaves);
}

-- whatever has P has it still after such a range was torn
abbrev pub Bears : (List ℕ → Type 0) → Range → Type 0
Bears P range = (old new : List ℕ) → P old → Torn range old new → AreBytes new → P new

module _ (P : List ℕ → Type 0) (area : Area) (at : ℕ) (bytes : List ℕ) (bears : Bears P (range_of at bytes)) where
  pend_has : (held : Held) (reads : List ℕ) → Has P held → P reads → Has P (pend held (range_of at bytes) reads)
  pend_has held reads has here = record {
    reads = here;
    leaves = λ left leaves. bears leaves.torn.0 left (has.leaves leaves.torn.0
        (record { torn = leaves.torn.1; bytes = leaves.torn.2 })) leaves.torn.3 leaves.bytes;
  }

  wrote_held : (ok : Bool) (old new : Held) → Wrote ok at bytes old new → at ≤ length old.reads → AreBytes new.reads
      → Has P old → Has P new
  wrote_held true old new wrote within are_bytes has =
      let reads = overwritten at bytes old.reads in
      let read : AreBytes reads = subst AreBytes (ap (λ (h : Held). h.reads) wrote) are_bytes in
      subst (Has P) (sym wrote) (pend_has old reads has (bears old.reads reads has.reads
      (torn_overwritten at bytes old.reads within) read))
  wrote_held false old new wrote within are_bytes has = ⊎_elim
      (λ same. subst (Has P) (sym same) has)
      (λ torn. subst (Has P) (sym torn.pending) (pend_has old new.reads has
      (bears old.reads new.reads has.reads torn.torn are_bytes)))
      wrote

  -- a write, made or failed, leaves what bears it
  pub wrote_has : (ok : Bool) (p q : Past) → Changes area (Wrote ok at bytes) p q → at ≤ length (content p area)
      → Has P (now p area) → Has P (now q area)
  wrote_has ok p q changes within has = wrote_held ok (now p area) (now q area) changes.here within
      (q.possible q.clock area).bytes has

-- what a read gives after a write that was made
pub wrote_content : (area : Area) (at : ℕ) (bytes : List ℕ) (p q : Past) → Changes area (Wrote true at bytes) p q
    → content q area ≡ overwritten at bytes (content p area)
wrote_content area at bytes p q changes = ap (λ (h : Held). h.reads) changes.here

-- a sync that was made leaves what a read gives
pub synced_content : (ok : Bool) (area : Area) (p q : Past) → Changes area (Synced ok) p q
    → content q area ≡ content p area
synced_content true area p q changes = ap (λ (h : Held). h.reads) changes.here
synced_content false area p q changes = ap (λ (h : Held). h.reads) changes.here

settle_has : (P : List ℕ → Type 0) (held : Held) → P held.reads → Has P (settle held)
settle_has P held here = record { reads = here; leaves = λ left leaves. subst P (sym leaves.torn) here }

pub synced_has : (P : List ℕ → Type 0) (area : Area) (p q : Past) → Changes area (Synced true) p q → P (content p area)
    → Has P (now q area)
synced_has P area p q changes here = subst (Has P) (sym changes.here) (settle_has P (now p area) here)

-- and one that failed leaves all as it was
pub sync_failed_has : (P : List ℕ → Type 0) (area : Area) (p q : Past) → Changes area (Synced false) p q
    → Has P (now p area) → Has P (now q area)
sync_failed_has P area p q changes has = subst (Has P) (sym changes.here) has

-- whether it was made or failed
pub sync_has : (P : List ℕ → Type 0) (ok : Bool) (area : Area) (p q : Past) → Changes area (Synced ok) p q
    → Has P (now p area) → Has P (now q area)
sync_has P true area p q changes has = synced_has P area p q changes has.reads
sync_has P false area p q changes has = sync_failed_has P area p q changes has

pub looks_has : (P : List ℕ → Type 0) (area : Area) (p q : Past) → ChangesNothing p q → Has P (now p area)
    → Has P (now q area)
looks_has P area p q looks has = subst (Has P) (sym (looks.same area)) has

-- the other area has what it had
pub there_has : (P : List ℕ → Type 0) (area : Area) (Step : Held → Held → Type 0) (p q : Past) → Changes area Step p q
    → Has P (now p (other area)) → Has P (now q (other area))
there_has P area Step p q changes has = subst (Has P) (sym changes.there) has

-- a settled area has what a read gives, and nothing else
pub settled_has : (P : List ℕ → Type 0) (held : Held) → IsSettledArea held → P held.reads → Has P held
settled_has P held settled here = record {
  reads = here;
  leaves = λ left leaves.
      subst P (sym (settled left leaves)) here;
}

-- Runs.

-- a moment from p's clock to q's, where the clock rose by one at most, is p's or q's
two_moments : (p q : Past) (area : Area) (R : Held → Type 0) → Elapses p q → R (now p area) → R (now q area)
    → (moment : ℕ) → p.clock ≤ moment → moment ≤ q.clock → R (q.held moment area)
two_moments p q area R time first last moment from to = elim (leb_tells moment p.clock) [
  | inl early ↦
      let e : moment ≡ p.clock = omega (arith, early.1) in
      let same : q.held moment area ≡ now p area = ap (λ (h : Area → Held). h area) (time.before moment early.1) ∙ ap
      (λ (m : ℕ). p.held m area) e in
      subst R (sym same) first
  | inr late ↦ let e : moment ≡ q.clock = omega (arith, late.1, time.by_one) in
      subst (λ (m : ℕ). R (q.held m area)) (sym e) last
]

pub runs_same : (P : List ℕ → Type 0) (area : Area) (p : Past) → Has P (now p area) → Runs area P p p
runs_same P area p has = record {
  extends = extends_same p;
  each = λ m from to left leaves. let e : m ≡ p.clock = omega arith in
      has.leaves left (subst (λ (k : ℕ). Leaves (p.held k area) left) e leaves);
  there = λ m from to. let e : m ≡ p.clock = omega arith in ap (λ (k : ℕ). p.held k (other area)) e;
}

-- a call that changes this area alone
pub runs_change : (P : List ℕ → Type 0) (area : Area) (Step : Held → Held → Type 0) (p q : Past) → Changes area Step p q
    → Has P (now p area) → Has P (now q area) → Runs area P p q
runs_change P area Step p q changes before after = record {
  extends = elapses_extends p q changes.time;
  each = two_moments p q area (λ h. (left : List ℕ) → Leaves h left → P left) changes.time before.leaves after.leaves;
  there = two_moments p q (other area) (λ h. h ≡ now p (other area)) changes.time refl changes.there;
}

-- a call that changes nothing
pub runs_look : (P : List ℕ → Type 0) (area : Area) (p q : Past) → ChangesNothing p q → Has P (now p area)
    → Runs area P p q
runs_look P area p q looks before = record {
  extends = elapses_extends p q looks.time;
  each = two_moments p q area (λ h. (left : List ℕ) → Leaves h left → P left) looks.time before.leaves
      (looks_has P area p q looks before).leaves;
  there = two_moments p q (other area) (λ h. h ≡ now p (other area)) looks.time refl (looks.same (other area));
}

pub runs_weaker : (P Q : List ℕ → Type 0) (area : Area) (p q : Past) → ((bytes : List ℕ) → P bytes → Q bytes)
    → Runs area P p q → Runs area Q p q
runs_weaker P Q area p q weaker runs = record {
  extends = runs.extends;
  each = λ m from to left leaves. weaker left (runs.each m from to left leaves);
  there = runs.there;
}

pub runs_there : (P : List ℕ → Type 0) (area : Area) (p q : Past) → Runs area P p q
    → now q (other area) ≡ now p (other area)
runs_there P area p q runs = runs.there q.clock runs.extends.later (omega arith)

pub runs_then : (P : List ℕ → Type 0) (area : Area) (p q r : Past) → Runs area P p q → Runs area P q r → Runs area P p r
runs_then P area p q r first second = record {
  extends = extends_then p q r first.extends second.extends;
  each = λ m from to left leaves. elim (leb_tells m q.clock) [
    | inl early ↦ first.each m from early.1 left (subst (λ (h : Held). Leaves h left)
        (was_held q r second.extends area m early.1) leaves)
    | inr late ↦ second.each m (omega (arith, late.1)) to left leaves
  ];
  there = λ m from to. elim (leb_tells m q.clock) [
    | inl early ↦ was_held q r second.extends (other area) m early.1 ∙ first.there m from early.1
    | inr late ↦ second.there m (omega (arith, late.1)) to ∙ runs_there P area p q first
  ];
}

-- Turns: a write of these bytes and a sync, of which each may fail.

module _ (P Q : List ℕ → Type 0) (area : Area) (at : ℕ) (bytes : List ℕ) (bears : Bears P (range_of at bytes)) where
  -- the write failed
  pub write_fails : (p q : Past) → Changes area (Wrote false at bytes) p q → at ≤ length (content p area)
      → Has P (now p area) → Turns area false P Q p q
  write_fails p q wrote within has =
      let after = wrote_has P area at bytes bears false p q wrote within has in
      record {
        runs = runs_change P area (Wrote false at bytes) p q wrote has after;
        done = λ h. absurd (cc);
        failed =
            λ h. after;
      }

  -- the write was made, and the sync too or not
  pub write_syncs : (ok : Bool) (p q r : Past) → Changes area (Wrote true at bytes) p q → Changes area (Synced ok) q r
      → at ≤ length (content p area) → Has P (now p area) → Q (overwritten at bytes (content p area))
      → Turns area ok P Q p r
  write_syncs ok p q r wrote synced within has becomes =
      let between = wrote_has P area at bytes bears true p q wrote within has in
      let after = sync_has P ok area q r synced between in
      record {
        runs = runs_then P area p q r (runs_change P area (Wrote true at bytes) p q wrote has between)
            (runs_change P area (Synced ok) q r synced between after);
        done = λ h. synced_has Q area q r (subst (λ (b : Bool). Changes area (Synced b) q r) h synced)
            (subst Q (sym (wrote_content area at bytes p q wrote)) becomes);
        failed = λ h. after;
      }

pub turns_weaker : (P P' Q Q' : List ℕ → Type 0) (area : Area) (ok : Bool) (p q : Past)
    → ((bytes : List ℕ) → P bytes → P' bytes) → ((bytes : List ℕ) → Q bytes → Q' bytes) → Turns area ok P Q p q
    → Turns area ok P' Q' p q
turns_weaker P P' Q Q' area ok p q weaker done_weaker turns = record {
  runs = runs_weaker P P' area p q weaker turns.runs;
  done = λ h. has_weaker Q Q' (now q area) done_weaker (turns.done h);
  failed = λ h. has_weaker P P' (now q area) weaker (turns.failed h);
}

-- one turn that succeeds, and then another, each weakened to what a stop may leave during both
pub turns_then : (P P' Q Q' R : List ℕ → Type 0) (area : Area) (ok : Bool) (p q r : Past)
    → ((bytes : List ℕ) → P bytes → R bytes) → ((bytes : List ℕ) → P' bytes → R bytes) → Turns area true P Q p q
    → Turns area ok P' Q' q r
    → Turns area ok R Q' p r
turns_then P P' Q Q' R area ok p q r first_weaker second_weaker first second = record {
  runs = runs_then R area p q r (runs_weaker P R area p q first_weaker first.runs)
      (runs_weaker P' R area q r second_weaker second.runs);
  done = second.done;
  failed = λ h. has_weaker P' R (now r area) second_weaker (second.failed h);
}

-- Images.

pub images_now : (p : Past) (since : ℕ) (image : Image) → since ≤ p.clock → Images p image → ImagesSince p since image
images_now p since image le images = record { moment = p.clock; from = le; to = omega arith; leaves = images }

-- an image of a longer past is one of the earlier past, or one of the moments since
pub images_split : (p q : Past) (since : ℕ) (image : Image) → Extends p q → ImagesSince q since image
    → ImagesSince p since image ⊎ ImagesSince q p.clock image
images_split p q since image extends images = elim (leb_tells images.moment p.clock) [
  | inl early ↦ inl (record {
    moment = images.moment;
    from = images.from;
    to = early.1;
    leaves = λ area. subst (λ (h : Held). Leaves h (image area)) (was_held p q extends area images.moment early.1)
        (images.leaves area);
  })
  | inr late ↦ inr (record {
    moment = images.moment;
    from = omega (arith, late.1);
    to = images.to;
    leaves =
        images.leaves;
  })
]

-- what a stop in a run leaves: of that area what has P, of the other what it could leave before the run
pub runs_image : (P : List ℕ → Type 0) (area : Area) (p q : Past) (image : Image) → Runs area P p q
    → ImagesSince q p.clock image → P (image area) × Leaves (now p (other area)) (image (other area))
runs_image P area p q image runs images = (
  runs.each images.moment images.from images.to (image area) (images.leaves area),
  subst (λ (h : Held). Leaves h (image (other area))) (runs.there images.moment images.from images.to)
      (images.leaves (other area)),
)

pub has_image : (P : List ℕ → Type 0) (area : Area) (p : Past) (image : Image) → Has P (now p area) → Images p image
    → P (image area)
has_image P area p image has images = has.leaves (image area) (images area)
