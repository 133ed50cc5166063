-- Looking at a disk, and syncing it, step by step.
use Rattle.std.proofs.Common.{◌≡◌, ℕ, Bool, true, false, Option, Some, None, List, refl, Result, Ok, Err, IfOk, IfErr, sym, ap, ◌∙◌, subst, arith, inl, inr}
use Rattle.std.proofs.lemmas.Bool.Decides.{leb_tells}
use Rattle.disk_trait.specs.Held.{Held, Leaves, Has, IsSettledArea}
use Rattle.disk_trait.specs.Past.{Past, Image, now, content, other}
use Rattle.disk_trait.specs.Runs.{Runs}
use Rattle.disk_trait.specs.Steps.{Goes, ChangesNothing, Changes, Synced}
use Rattle.disk_trait.proofs.Public.{extends_same, extends_then, was_held, runs_look, runs_change, synced_content, synced_has, sync_has, goes_then, goes_weaker, goes_same}
use Rattle.disk_trait.specs.declared.area.Area.{Area}
use Rattle.disk_trait.specs.declared.area.Area.TheVariants.{A, B}
use Rattle.disk_trait.specs.Shows.{Shows, KeepsContent, Peeks, Secures, Syncs}

-- each area is this one or the other
pub each_area : (area : Area) (P : Area → Type 0) → P area → P (other area) → (x : Area) → P x
each_area A P here there A = here
each_area A P here there B = there
each_area B P here there A = there
each_area B P here there B = here

-- what an area reads is what a stop may leave of it, among others
may_leave : (p : Past) (area : Area) → Has (Leaves (now p area)) (now p area)
may_leave p area = record { reads = p.possible p.clock area; leaves = λ left leaves. leaves }

pub keeps_then : (p q r : Past) → KeepsContent p q → KeepsContent q r → KeepsContent p r
keeps_then p q r first second = record {
  extends = extends_then p q r first.extends second.extends;
  same = λ area. second.same area ∙ first.same area;
  leaves = λ m from to area left leaves. elim (leb_tells m q.clock) [
    | inl early ↦ first.leaves m from early.1 area left (subst (λ (h : Held). Leaves h left)
        (was_held q r second.extends area m early.1) leaves)
    | inr late ↦
        first.leaves q.clock first.extends.later (omega arith) area left
        (second.leaves m (omega (arith, late.1)) to area left leaves)
  ];
}

peeks_same : (p : Past) → Peeks p p
peeks_same p = record {
  keeps = record {
    extends = extends_same p;
    same = λ area. refl;
    leaves = λ m from to area left leaves. let e : m ≡ p.clock = omega arith in
        subst (λ (k : ℕ). Leaves (p.held k area) left) e leaves;
  };
  still = λ area. refl;
}

pub look_peeks : (p q : Past) → ChangesNothing p q → Peeks p q
look_peeks p q looks = record {
  keeps = record {
    extends = (runs_look (Leaves (now p A)) A p q looks (may_leave p A)).extends;
    same = λ area. ap (λ (h : Held). h.reads) (looks.same area);
    leaves = λ m from to area left leaves. (runs_look (Leaves (now p area)) area p q looks (may_leave p area)).each m
        from to left leaves;
  };
  still = looks.same;
}

sync_keeps : (ok : Bool) (area : Area) (p q : Past) → Changes area (Synced ok) p q → KeepsContent p q
sync_keeps ok area p q changes =
    let runs : Runs area (Leaves (now p area)) p q =
    runs_change (Leaves (now p area)) area (Synced ok) p q changes (may_leave p area)
    (sync_has (Leaves (now p area)) ok area p q changes (may_leave p area)) in
    record {
      extends = runs.extends;
      same = each_area area (λ (x : Area). content q x ≡ content p x) (synced_content ok area p q changes)
          (ap (λ (h : Held). h.reads) changes.there);
      leaves = λ m from to. each_area area (λ (x : Area). (left : List ℕ) → Leaves (q.held m x) left
          → Leaves (now p x) left)
          (runs.each m from to)
          (λ left leaves. subst (λ (h : Held). Leaves h left) (runs.there m from to) leaves);
    }

-- after a sync a stop leaves what a read gives
synced_settled : (area : Area) (p q : Past) → Changes area (Synced true) p q → IsSettledArea (now q area)
synced_settled area p q changes =
    (synced_has (λ left. left ≡ content q area) area p q changes (sym (synced_content true area p q changes))).leaves

both_synced : (p q r : Past) → Changes A (Synced true) p q → Changes B (Synced true) q r → Secures p r
both_synced p q r first second = record {
  keeps = keeps_then p q r (sync_keeps true A p q first) (sync_keeps true B q r second);
  settled = each_area B (λ (x : Area). IsSettledArea (now r x)) (synced_settled B q r second)
      (subst IsSettledArea (sym second.there) (synced_settled A p q first));
}

peeks_after : (p q r : Past) → Peeks p q → Peeks q r → Peeks p r
peeks_after p q r first second = record {
  keeps = keeps_then p q r first.keeps second.keeps;
  still = λ area. second.still area ∙ first.still area;
}

-- ---- the same, where the disk may tell nothing

pub first_sync_fails : (t0 t1 : Option Past) → Goes t0 t1 (Changes A (Synced false)) → Goes t0 t1 KeepsContent
first_sync_fails t0 t1 goes = goes_weaker t0 t1 (Changes A (Synced false)) KeepsContent
    (λ p q i j changes. sync_keeps false A p q changes) goes

pub syncs : (ok : Bool) (t0 t1 t2 : Option Past) → Goes t0 t1 (Changes A (Synced true))
    → Goes t1 t2 (Changes B (Synced ok)) → Goes t0 t2 (Syncs ok)
syncs true t0 t1 t2 first second =
    goes_then t0 t1 t2 (Changes A (Synced true)) (Changes B (Synced true)) Secures
    (λ p q r i j k f s. both_synced p q r f s) first second
syncs false t0 t1 t2 first second =
    goes_then t0 t1 t2 (Changes A (Synced true)) (Changes B (Synced false)) KeepsContent
    (λ p q r i j k f s. keeps_then p q r (sync_keeps true A p q f) (sync_keeps false B q r s)) first second

pub looked : (t0 t1 : Option Past) → Goes t0 t1 ChangesNothing → Goes t0 t1 Peeks
looked t0 t1 goes = goes_weaker t0 t1 ChangesNothing Peeks (λ p q i j looks. look_peeks p q looks) goes

pub peeks_none : (t : Option Past) → Goes t t Peeks
peeks_none t = goes_same t Peeks (λ p is. peeks_same p)

pub peeks_then : (t0 t1 t2 : Option Past) → Goes t0 t1 Peeks → Goes t1 t2 Peeks → Goes t0 t2 Peeks
peeks_then t0 t1 t2 first second = goes_then t0 t1 t2 Peeks Peeks Peeks
    (λ p q r i j k f s. peeks_after p q r f s) first second

-- what is shown after a look was shown before it
pub shows_back : (t0 t1 : Option Past) (c : Image) → Goes t0 t1 Peeks → Shows t1 c → Shows t0 c
shows_back t0 None c goes shows = absurd shows
shows_back None (Some q) c goes shows = absurd goes
shows_back (Some p) (Some q) c goes shows = λ area. sym (goes.keeps.same area) ∙ shows area

-- what is so of a value has this for a consequence
pub if_ok_weaker : {X E : Type 0} (r : Result X E) (P Q : X → Type 0) → ((x : X) → P x → Q x) → IfOk r P → IfOk r Q
if_ok_weaker (Ok x) P Q weaker holds = weaker x holds
if_ok_weaker (Err e) P Q weaker holds = holds

pub if_ok_both : {X E : Type 0} (r : Result X E) (P Q R : X → Type 0) → ((x : X) → P x → Q x → R x) → IfOk r P
    → IfOk r Q → IfOk r R
if_ok_both (Ok x) P Q R both first second = both x first second
if_ok_both (Err e) P Q R both first second = first

pub if_err_weaker : {X E : Type 0} (r : Result X E) (P Q : E → Type 0) → ((e : E) → P e → Q e) → IfErr r P → IfErr r Q
if_err_weaker (Ok x) P Q weaker holds = holds
if_err_weaker (Err e) P Q weaker holds = weaker e holds
