-- What mending and then appending come to together.
use Rattle.std.proofs.Common.{◌≡◌, inl, inr, ⊎_elim, ℕ, ◌+◌, Bool, true, false, Option, Some, None, List, length, refl, sym, ap, subst, ◌∙◌}
use Rattle.std.specs.Prelude.{is_some, not, if◌then◌else◌}
use Rattle.disk_trait.specs.Held.{Held}
use Rattle.disk_trait.specs.Past.{Past, now}
use Rattle.disk_trait.specs.Steps.{Goes}
use Rattle.disk_trait.specs.declared.area.Area.{Area}
use Rattle.disk_trait.proofs.Public.{runs_then, runs_weaker, goes_then, goes_weaker}
use Rattle.bbs_journal.specs.Areas.{BeforeOrAfter, Stands}
use Rattle.bbs_journal.specs.Calls.{Appended, Appends, AddsFrame, Mends, Closes, GrowsBy, Settles, gate_mended, left_of}
use Rattle.bbs_journal.specs.View.{JournalView, is_waiting}
use Rattle.bbs_journal.specs.declared.other_gate.OtherGate.{OtherGate}
use Rattle.bbs_journal.specs.declared.waiting.Waiting.{Waiting}
use Rattle.bbs_journal.specs.declared.waiting.Waiting.TheVariants.{Nothing, Frame, Header}
use Rattle.payload_log.specs.Puts.{OnlyFrameWaits, MayHold, IsLeft, PutsOne, Puts}

module _ (area : Area) (head : List ℕ) (payloads : List (List ℕ)) (payload : List ℕ) (end : ℕ) where
  -- an append leaves the area as a put does
  left_by : (ok waits : Bool) (doubt : Option (List ℕ)) (q : Past) → (ok ≡ true → waits ≡ false)
      → Appended ok waits head payloads payload end (now q area)
      → IsLeft ok waits head payloads doubt payload end (now q area)
  left_by true waits doubt q calm left = (calm refl, left)
  left_by false false doubt q calm left = record {
    left = None;
    waits_is = refl;
    which = λ one is. absurd (cc);
    stands =
        left;
  }
  left_by false true doubt q calm left = record {
    left = Some payload;
    waits_is = refl;
    which = λ one is.
        inr (cc);
    stands = left;
  }

  appended_holds : (doubt : Option (List ℕ)) (bytes : List ℕ) → BeforeOrAfter head payloads payload bytes
      → MayHold head payloads doubt payload bytes
  appended_holds doubt bytes held = ⊎_elim inl (λ more. inr
      (record { one = payload; which = inr refl; area_is = more })) held

  mended_holds : (one : List ℕ) (doubt : Option (List ℕ)) (bytes : List ℕ) → doubt ≡ Some one
      → BeforeOrAfter head payloads one bytes → MayHold head payloads doubt payload bytes
  mended_holds one doubt bytes is held = ⊎_elim inl (λ more. inr (record { one = one; which = inl is; area_is = more }))
      held

  -- an append where nothing waits
  puts_calm : (ok waits : Bool) (doubt : Option (List ℕ)) (p q : Past) → (ok ≡ true → waits ≡ false)
      → Appends area ok waits head payloads payload end p q
      → PutsOne area ok waits head payloads doubt payload end p q
  puts_calm ok waits doubt p q calm appends = record {
    runs = runs_weaker (BeforeOrAfter head payloads payload) (MayHold head payloads doubt payload) area p q
        (appended_holds doubt) appends.runs;
    leaves = left_by ok waits doubt q calm appends.leaves;
  }

  -- a mend, and then an append
  puts_mended : (ok waits : Bool) (one : List ℕ) (doubt : Option (List ℕ)) (p q r : Past) → doubt ≡ Some one
      → (ok ≡ true → waits ≡ false)
      → Mends area true head payloads one end p q → Appends area ok waits head payloads payload end q r
      → PutsOne area ok waits head payloads doubt payload end p r
  puts_mended ok waits one doubt p q r is calm mends appends =
      let second = puts_calm ok waits doubt q r calm appends in
      record {
        runs = runs_then (MayHold head payloads doubt payload) area p q r
            (runs_weaker (BeforeOrAfter head payloads one) (MayHold head payloads doubt payload) area p q
            (λ bytes held. mended_holds one doubt bytes is held) mends.runs) second.runs;
        leaves = second.leaves;
      }

  -- a mend that failed
  puts_failed : (one : List ℕ) (doubt : Option (List ℕ)) (p q : Past) → doubt ≡ Some one
      → Mends area false head payloads one end p q
      → PutsOne area false true head payloads doubt payload end p q
  puts_failed one doubt p q is mends = record {
    runs = runs_weaker (BeforeOrAfter head payloads one) (MayHold head payloads doubt payload) area p q
        (λ bytes held. mended_holds one doubt bytes is held) mends.runs;
    leaves = record { left = Some one; waits_is = refl; which = λ other same. inl (is ∙ same); stands = mends.leaves };
  }

-- what waits is there
waiting : (waits : Bool) (doubt : Option (List ℕ)) → waits ≡ true → waits ≡ is_some doubt
    → (one : List ℕ) × (doubt ≡ Some one)
waiting waits None is same = absurd (cc)
waiting waits (Some one) is same = (one, refl)

-- and where nothing waits there is nothing
calm_none : (waits : Bool) (doubt : Option (List ℕ)) → waits ≡ false → waits ≡ is_some doubt → doubt ≡ None
calm_none waits None is same = refl
calm_none waits (Some one) is same = absurd (cc)

module _ (area : Area) (payload : List ℕ) (end : ℕ) where
  puts_from_calm : (ok waits after : Bool) (p q : Past) → waits ≡ false → (ok ≡ true → after ≡ false)
      → AddsFrame area ok after payload end p q → Puts area ok waits after payload end p q
  puts_from_calm ok waits after p q is calm adds head payloads doubt same stands =
      let none = calm_none waits doubt is same in
      puts_calm area head payloads payload end ok after doubt p q calm
      (adds head payloads (subst (λ (d : Option (List ℕ)). Stands head payloads d end (now p area)) none stands))

  puts_from_mended : (ok waits after : Bool) (p q r : Past) → waits ≡ true → (ok ≡ true → after ≡ false)
      → Closes area true end p q → AddsFrame area ok after payload end q r
      → Puts area ok waits after payload end p r
  puts_from_mended ok waits after p q r is calm closes adds head payloads doubt same stands =
      let one = waiting waits doubt is same in
      let mends = closes head payloads one.0 (subst (λ (d : Option (List ℕ)). Stands head payloads d end (now p area))
      one.1 stands) in
      puts_mended area head payloads payload end ok after one.0 doubt p q r one.1 calm mends
      (adds head payloads mends.leaves)

  puts_from_failed : (waits after : Bool) (p q : Past) → waits ≡ true → after ≡ true → Closes area false end p q
      → Puts area false waits after payload end p q
  puts_from_failed waits after p q is still closes head payloads doubt same stands =
      let one = waiting waits doubt is same in
      let mends = closes head payloads one.0 (subst (λ (d : Option (List ℕ)). Stands head payloads d end (now p area))
      one.1 stands) in
      subst (λ (b : Bool). PutsOne area false b head payloads doubt payload end p q) (sym still)
      (puts_failed area head payloads payload end one.0 doubt p q one.1 mends)

  -- ---- the same, where the disk may tell nothing

  pub puts_both : (t0 t1 t2 : Option Past) (ok waits after : Bool) → (ok ≡ true → after ≡ false)
      → (waits ≡ true → Goes t0 t1 (Closes area true end)) → (waits ≡ false → t1 ≡ t0)
      → Goes t1 t2 (AddsFrame area ok after payload end) → Goes t0 t2 (Puts area ok waits after payload end)
  puts_both t0 t1 t2 ok true after calm mended idle adds =
      goes_then t0 t1 t2 (Closes area true end) (AddsFrame area ok after payload end)
      (Puts area ok true after payload end)
      (λ p q r i j k closes a. puts_from_mended ok true after p q r refl calm closes a) (mended refl) adds
  puts_both t0 t1 t2 ok false after calm mended idle adds =
      goes_weaker t0 t2 (AddsFrame area ok after payload end) (Puts area ok false after payload end)
      (λ p q i j a. puts_from_calm ok false after p q refl calm a)
      (subst (λ (t : Option Past). Goes t t2 (AddsFrame area ok after payload end)) (idle refl) adds)

  pub puts_not : (t0 t1 : Option Past) (waits after : Bool) → waits ≡ true → after ≡ true
      → Goes t0 t1 (Closes area false end) → Goes t0 t1 (Puts area false waits after payload end)
  puts_not t0 t1 waits after is still closes =
      goes_weaker t0 t1 (Closes area false end) (Puts area false waits after payload end)
      (λ p q i j c. puts_from_failed waits after p q is still c) closes

  -- an append that failed, and the mend that closes its gate where that is in doubt
  adds_mended : (ok : Bool) (p q r : Past) → AddsFrame area false true payload end p q → Closes area ok end q r
      → AddsFrame area false (not ok) payload end p r
  adds_mended ok p q r adds closes head payloads ready =
      let appends = adds head payloads ready in
      let mends = closes head payloads payload appends.leaves in
      record {
        runs = runs_then (BeforeOrAfter head payloads payload) area p q r appends.runs mends.runs;
        leaves = mended_so ok head payloads (now r area) mends.leaves;
      }
    where
      mended_so : (ok : Bool) (head : List ℕ) (payloads : List (List ℕ)) (held : Held)
          → Stands head payloads (left_of ok payload) end held → Appended false (not ok) head payloads payload end held
      mended_so true head payloads held stands = stands
      mended_so false head payloads held stands = stands

  pub adds_closed : (t0 t1 t2 : Option Past) (waits ok after : Bool) → after ≡ (if ok then false else true)
      → (waits ≡ true → Goes t1 t2 (Closes area ok end)) → (waits ≡ false → (ok ≡ true) × (t2 ≡ t1))
      → Goes t0 t1 (AddsFrame area false waits payload end) → Goes t0 t2 (AddsFrame area false after payload end)
  adds_closed t0 t1 t2 true true after is closes idle adds =
      subst (λ (b : Bool). Goes t0 t2 (AddsFrame area false b payload end)) (sym is)
      (goes_then t0 t1 t2 (AddsFrame area false true payload end) (Closes area true end)
      (AddsFrame area false false payload end) (λ p q r i j k a c. adds_mended true p q r a c) adds (closes refl))
  adds_closed t0 t1 t2 true false after is closes idle adds =
      subst (λ (b : Bool). Goes t0 t2 (AddsFrame area false b payload end)) (sym is)
      (goes_then t0 t1 t2 (AddsFrame area false true payload end) (Closes area false end)
      (AddsFrame area false true payload end) (λ p q r i j k a c. adds_mended false p q r a c) adds (closes refl))
  adds_closed t0 t1 t2 false true after is closes idle adds =
      subst (λ (b : Bool). Goes t0 t2 (AddsFrame area false b payload end)) (sym is)
      (subst (λ (t : Option Past). Goes t0 t (AddsFrame area false false payload end)) (sym (idle refl).1) adds)
  adds_closed t0 t1 t2 false false after is closes idle adds = absurd (let never = (idle refl).0 in cc)

-- ---- what waits

calm_nothing : (w : Waiting) → is_waiting w ≡ false → w ≡ Nothing
calm_nothing Nothing is = refl
calm_nothing Frame is = absurd (cc)
calm_nothing Header is = absurd (cc)

pub frame_only : (w : Waiting) → OnlyFrameWaits w → is_waiting w ≡ true → w ≡ Frame
frame_only Nothing own is = absurd (cc)
frame_only Frame own is = refl
frame_only Header own is = absurd (cc)

frame_gate : (w : Waiting) (gate : OtherGate) → OnlyFrameWaits w → gate_mended w gate ≡ gate
frame_gate Nothing gate own = refl
frame_gate Frame gate own = refl
frame_gate Header gate own = absurd (cc)

only_settled : (ok : Bool) (w later : Waiting) → OnlyFrameWaits w → later ≡ (if ok then Nothing else w)
    → OnlyFrameWaits later
only_settled true w later own is = subst OnlyFrameWaits (sym is) refl
only_settled false w later own is = subst OnlyFrameWaits (sym is) own

gate_settled : (ok : Bool) (w : Waiting) (gate later : OtherGate) → OnlyFrameWaits w
    → later ≡ (if ok then gate_mended w gate else gate) → later ≡ gate
gate_settled true w gate later own is = is ∙ frame_gate w gate own
gate_settled false w gate later own is = is

-- what a journal knows after a put, by the call that failed or after the last one
module _ {D : Type 0} (v0 v1 : JournalView D) (len : ℕ) (own : OnlyFrameWaits v0.waiting) where
  pub grows_not : Settles false v0 v1 → GrowsBy false len v0 v1
  grows_not settles = record {
    stays = settles.stays;
    gate = settles.gate;
    end = settles.end;
    frames = settles.frames;
    waits = λ never. absurd (cc (never));
    frame = only_settled false v0.waiting v1.waiting own settles.waiting;
  }

  pub grows_on : (ok : Bool) (v2 : JournalView D) → Settles true v0 v1 → GrowsBy ok len v1 v2 → GrowsBy ok len v0 v2
  grows_on ok v2 mended grows = record {
    stays = record {
      area = grows.stays.area ∙ mended.stays.area;
      version = grows.stays.version ∙ mended.stays.version;
      generation = grows.stays.generation ∙ mended.stays.generation;
      broken = grows.stays.broken ∙ mended.stays.broken;
    };
    gate = grows.gate ∙ gate_settled true v0.waiting v0.gate v1.gate own mended.gate;
    end = grows.end ∙ ap (λ (n : ℕ). if ok then n + 3 + len else n) mended.end;
    frames = grows.frames ∙ ap (λ (n : ℕ). if ok then n + 1 else n) mended.frames;
    waits = grows.waits;
    frame = grows.frame;
  }

-- a put that failed at its own gate, after a mend of it
pub grows_closed : {D : Type 0} (v1 v2 v3 : JournalView D) (len : ℕ) (ok : Bool) → GrowsBy false len v1 v2
    → Settles ok v2 v3 → GrowsBy false len v1 v3
grows_closed v1 v2 v3 len ok grows settles = record {
  stays = record {
    area = settles.stays.area ∙ grows.stays.area;
    version = settles.stays.version ∙ grows.stays.version;
    generation = settles.stays.generation ∙ grows.stays.generation;
    broken = settles.stays.broken ∙ grows.stays.broken;
  };
  gate = gate_settled ok v2.waiting v2.gate v3.gate grows.frame settles.gate ∙ grows.gate;
  end = settles.end ∙ grows.end;
  frames = settles.frames ∙ grows.frames;
  waits = λ never. absurd (cc (never));
  frame = only_settled ok v2.waiting v3.waiting grows.frame settles.waiting;
}

-- ---- the calls of a put, each at the journal that the one before it left

module _ {D : Type 0} (told : D → Option Past) (v0 v1 v2 : JournalView D) (payload : List ℕ)
    (mended : Settles true v0 v1) (closes : is_waiting v0.waiting ≡ true
    → Goes (told v0.disk) (told v1.disk) (Closes v0.area true v0.end)) where
  as_before : (ok waits : Bool) (t : Option Past) → Goes (told v1.disk) t (AddsFrame v1.area ok waits payload v1.end)
      → Goes (told v1.disk) t (AddsFrame v0.area ok waits payload v0.end)
  as_before ok waits t adds =
      subst (λ (a : Area). Goes (told v1.disk) t (AddsFrame a ok waits payload v0.end)) mended.stays.area
      (subst (λ (n : ℕ). Goes (told v1.disk) t (AddsFrame v1.area ok waits payload n)) mended.end adds)

  idle_told : is_waiting v0.waiting ≡ false → told v1.disk ≡ told v0.disk
  idle_told idle = let still = mended.idle (calm_nothing v0.waiting idle) in
      ap (λ (v : JournalView D). told v.disk) still.1

  pub put_made : (is_waiting v2.waiting ≡ false) → Goes (told v1.disk) (told v2.disk)
      (AddsFrame v1.area true (is_waiting v2.waiting) payload v1.end)
      → Goes (told v0.disk) (told v2.disk) (Puts v0.area true (is_waiting v0.waiting)
      (is_waiting v2.waiting) payload v0.end)
  put_made calm adds = puts_both v0.area payload v0.end (told v0.disk) (told v1.disk) (told v2.disk) true
      (is_waiting v0.waiting) (is_waiting v2.waiting) (λ is. calm) closes idle_told
      (as_before true (is_waiting v2.waiting) (told v2.disk) adds)

  module _ (v3 : JournalView D) (ok : Bool) (adds : Goes (told v1.disk) (told v2.disk)
      (AddsFrame v1.area false (is_waiting v2.waiting) payload v1.end)) (grows : GrowsBy false (length payload) v1 v2)
      (settles : Settles ok v2 v3)
      (shuts : is_waiting v2.waiting ≡ true → Goes (told v2.disk) (told v3.disk) (Closes v2.area ok v2.end)) where
    shuts_there : is_waiting v2.waiting ≡ true → Goes (told v2.disk) (told v3.disk) (Closes v1.area ok v1.end)
    shuts_there is =
        subst (λ (a : Area). Goes (told v2.disk) (told v3.disk) (Closes a ok v1.end)) grows.stays.area
        (subst (λ (n : ℕ). Goes (told v2.disk) (told v3.disk) (Closes v2.area ok n)) grows.end (shuts is))

    adds_there : Goes (told v1.disk) (told v3.disk) (AddsFrame v0.area false (is_waiting v3.waiting) payload v0.end)
    adds_there = as_before false (is_waiting v3.waiting) (told v3.disk)
        (adds_closed v1.area payload v1.end (told v1.disk) (told v2.disk) (told v3.disk) (is_waiting v2.waiting) ok
        (is_waiting v3.waiting) settles.waits shuts_there
        (λ idle. let still = settles.idle (calm_nothing v2.waiting idle) in
        (still.0, ap (λ (v : JournalView D). told v.disk) still.1)) adds)

    pub put_failed : Goes (told v0.disk) (told v3.disk) (Puts v0.area false (is_waiting v0.waiting)
        (is_waiting v3.waiting) payload v0.end)
    put_failed = puts_both v0.area payload v0.end (told v0.disk) (told v1.disk) (told v3.disk) false
        (is_waiting v0.waiting) (is_waiting v3.waiting) (λ is. absurd (cc)) closes idle_told adds_there

    pub adds_failed : is_waiting v0.waiting ≡ false → Goes (told v0.disk) (told v3.disk)
        (AddsFrame v0.area false (is_waiting v3.waiting) payload v0.end)
    adds_failed idle = subst (λ (t : Option Past). Goes t (told v3.disk)
        (AddsFrame v0.area false (is_waiting v3.waiting) payload v0.end)) (idle_told idle) adds_there

-- ---- said of what was written

module _ (ok done : Bool) (payload text : List ℕ) (done_is : ok ≡ done) (is : payload ≡ text) where
  pub puts_as : (t0 t1 : Option Past) (area : Area) (waits after : Bool) (end : ℕ)
      → Goes t0 t1 (Puts area ok waits after payload end) → Goes t0 t1 (Puts area done waits after text end)
  puts_as t0 t1 area waits after end goes =
      subst (λ (l : List ℕ). Goes t0 t1 (Puts area done waits after l end)) is
      (subst (λ (b : Bool). Goes t0 t1 (Puts area b waits after payload end)) done_is goes)

  pub adds_as : (t0 t1 : Option Past) (area : Area) (after : Bool) (end : ℕ)
      → Goes t0 t1 (AddsFrame area ok after payload end) → Goes t0 t1 (AddsFrame area done after text end)
  adds_as t0 t1 area after end goes =
      subst (λ (l : List ℕ). Goes t0 t1 (AddsFrame area done after l end)) is
      (subst (λ (b : Bool). Goes t0 t1 (AddsFrame area b after payload end)) done_is goes)

  pub grows_as : {D : Type 0} (old new : JournalView D) → GrowsBy ok (length payload) old new
      → GrowsBy done (length text) old new
  grows_as old new grows =
      subst (λ (l : List ℕ). GrowsBy done (length l) old new) is
      (subst (λ (b : Bool). GrowsBy b (length payload) old new) done_is grows)
