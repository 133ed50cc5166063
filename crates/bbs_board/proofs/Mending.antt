-- What the steps of a put come to, each at the journal that the one before it left.
use Rattle.std.proofs.Common.{◌≡◌, ℕ, Bool, true, false, Option, Some, List, [], ◌∷◌, ◌++◌, length, refl, sym, ap, subst, ◌∙◌}
use Rattle.std.specs.Prelude.{not, if◌then◌else◌}
use Rattle.std.specs.Option.{ForSome}
use Rattle.disk_trait.specs.Held.{Held}
use Rattle.disk_trait.specs.Past.{Past, now}
use Rattle.disk_trait.specs.Runs.{Extends}
use Rattle.disk_trait.specs.Steps.{Goes}
use Rattle.disk_trait.specs.declared.area.Area.{Area}
use Rattle.disk_trait.proofs.Public.{runs_then, goes_then, goes_back, goes_weaker, goes_same, extends_same, extends_then}
use Rattle.bbs_codec.specs.Command.{spelled, IsReadIn}
use Rattle.bbs_journal.specs.Areas.{BeforeOrAfter, Stands}
use Rattle.bbs_journal.specs.Calls.{Appended, AddsFrame, Closes, GrowsBy, Settles, gate_mended, left_of}
use Rattle.bbs_journal.specs.Switching.{ClosesHeader}
use Rattle.bbs_journal.specs.View.{JournalView, is_waiting}
use Rattle.bbs_journal.specs.declared.other_gate.OtherGate.{OtherGate}
use Rattle.bbs_journal.specs.declared.waiting.Waiting.{Waiting}
use Rattle.bbs_journal.specs.declared.waiting.Waiting.TheVariants.{Nothing, Frame, Header}
use Rattle.bbs_model.specs.Replay.{IsLawful}
use Rattle.bbs_model.specs.declared.item.Item.{Item}
use Rattle.bbs_model.specs.declared.item.Item.TheVariants.{Doubt}
use Rattle.bbs_model.specs.declared.rows.Rows.{Rows}
use Rattle.bbs_board.specs.Puts.{item_of, StandsWith, StillStands, PutsItem, HasPut}
use Rattle.bbs_board.specs.View.{Holds, StandsOn}
use Rattle.bbs_board.proofs.Beside.{calm_nothing}
use Rattle.bbs_board.proofs.Adding.{holds_doubted, holds_added}
use Rattle.bbs_board.proofs.Steps.{end_of, frames_of, left_waiting, left_known, frame_left, holds_frame, holds_header}

-- a step of a disk that may tell nothing
pub by_step : (t0 t1 : Option Past) (Does : Past → Past → Type 0) (P Q : Past → Type 0)
    → ((p q : Past) → t1 ≡ Some q → Does p q → P p → Extends p q × Q q)
    → Goes t0 t1 Does → ForSome t0 P → Goes t0 t1 Extends × ForSome t1 Q
by_step t0 t1 Does P Q step goes holds = (
  goes_weaker t0 t1 Does Extends (λ p q i j does. (step p q j does (holds p i)).0) goes,
  λ q j. let back = goes_back t0 t1 Does goes q j in (step back.0 q j back.2 (holds back.0 back.1)).1,
)

gate_of_frame : (ok : Bool) (known : OtherGate) → (if ok then gate_mended Frame known else known) ≡ known
gate_of_frame true known = refl
gate_of_frame false known = refl

module _ {D : Type 0} (told : D → Option Past) where
  pub standing : (base : Rows) (log : List Item) (marks : List ℕ) (since : ℕ) (v : JournalView D) (area : Area)
      (version generation end frames : ℕ) (waiting : Waiting) (known : OtherGate)
      → v.area ≡ area → v.version ≡ version → v.generation ≡ generation → v.end ≡ end → v.frames ≡ frames
      → v.waiting ≡ waiting → v.gate ≡ known
      → ForSome (told v.disk) (Holds base log marks since area version generation end frames waiting known)
      → StandsOn told base log marks since v
  standing base log marks since v area version generation end frames waiting known a n g e f w s holds =
      rw (a, n, g, e, f, w, s) holds

  -- ---- a mend

  module _ (v0 v1 : JournalView D) (ok : Bool) (settles : Settles ok v0 v1) (base : Rows) (log : List Item)
      (marks : List ℕ) (since : ℕ) (lawful : IsLawful base log) (stands : StandsOn told base log marks since v0) where
    mended_nothing : v0.waiting ≡ Nothing → StandsWith told base log marks since v0 v1
    mended_nothing is =
        let same : v1 ≡ v0 = (settles.idle is).1 in
        record {
          extends = subst (λ (v : JournalView D). Goes (told v0.disk) (told v.disk) Extends) (sym same)
              (goes_same (told v0.disk) Extends (λ p i. extends_same p));
          stands = subst (StandsOn told base log marks since) (sym same) stands;
        }

    mended_frame : v0.waiting ≡ Frame → Goes (told v0.disk) (told v1.disk) (Closes v0.area ok v0.end)
        → StandsWith told base log marks since v0 v1
    mended_frame is closes =
        let both = by_step (told v0.disk) (told v1.disk) (Closes v0.area ok v0.end)
        (Holds base log marks since v0.area v0.version v0.generation v0.end v0.frames Frame v0.gate)
        (Holds base log marks since v0.area v0.version v0.generation v0.end v0.frames (left_waiting ok Frame) v0.gate)
        (λ p q j c h. holds_frame base log marks since v0.area v0.version v0.generation v0.end v0.frames v0.gate p q h
        lawful ok c) closes
        (subst (λ (w : Waiting). ForSome (told v0.disk) (Holds base log marks since v0.area v0.version v0.generation
        v0.end v0.frames w v0.gate)) is stands) in
        record {
          extends = both.0;
          stands = standing base log marks since v1 v0.area v0.version v0.generation v0.end v0.frames
              (left_waiting ok Frame) v0.gate settles.stays.area settles.stays.version settles.stays.generation
              settles.end settles.frames
              (settles.waiting ∙ ap (left_waiting ok) is)
              (settles.gate ∙ ap (λ (w : Waiting). if ok then gate_mended w v0.gate else v0.gate) is ∙ gate_of_frame ok
              v0.gate) both.1;
        }

    mended_header : v0.waiting ≡ Header → Goes (told v0.disk) (told v1.disk)
        (ClosesHeader v0.area v0.gate v0.generation ok) → StandsWith told base log marks since v0 v1
    mended_header is closes =
        let both = by_step (told v0.disk) (told v1.disk) (ClosesHeader v0.area v0.gate v0.generation ok)
        (Holds base log marks since v0.area v0.version v0.generation v0.end v0.frames Header v0.gate)
        (Holds base log marks since v0.area v0.version v0.generation v0.end v0.frames (left_waiting ok Header)
        (left_known ok v0.gate))
        (λ p q j c h. holds_header base log marks since v0.area v0.version v0.generation v0.end v0.frames v0.gate p q h
        lawful ok c) closes
        (subst (λ (w : Waiting). ForSome (told v0.disk) (Holds base log marks since v0.area v0.version v0.generation
        v0.end v0.frames w v0.gate)) is stands) in
        record {
          extends = both.0;
          stands = standing base log marks since v1 v0.area v0.version v0.generation v0.end v0.frames
              (left_waiting ok Header) (left_known ok v0.gate) settles.stays.area settles.stays.version
              settles.stays.generation settles.end settles.frames
              (settles.waiting ∙ ap (left_waiting ok) is)
              (settles.gate ∙ ap (λ (w : Waiting). if ok then gate_mended w v0.gate else v0.gate) is) both.1;
        }

  pub mended : (v0 v1 : JournalView D) (ok : Bool) → Settles ok v0 v1
      → (v0.waiting ≡ Frame → Goes (told v0.disk) (told v1.disk) (Closes v0.area ok v0.end))
      → (v0.waiting ≡ Header → Goes (told v0.disk) (told v1.disk) (ClosesHeader v0.area v0.gate v0.generation ok))
      → StillStands told v0 v1
  mended v0 v1 ok settles frame header base log marks since lawful stands =
      elim v0.waiting as (λ (w : Waiting). v0.waiting ≡ w → StandsWith told base log marks since v0 v1) [
        | Nothing ↦ λ is. mended_nothing v0 v1 ok settles base log marks since lawful stands is
        | Frame ↦ λ is. mended_frame v0 v1 ok settles base log marks since lawful stands is (frame is)
        | Header ↦ λ is. mended_header v0 v1 ok settles base log marks since lawful stands is (header is)
      ] refl

  -- ---- a put

  -- the mend before it failed
  pub put_unmended : (v0 v1 : JournalView D) (payload : List ℕ) (mark : ℕ)
      → ((q : Past) → told v1.disk ≡ Some q → q.clock ≡ mark) → StillStands told v0 v1
      → PutsItem told false payload mark v0 v1
  put_unmended v0 v1 payload mark timed still base log marks since lawful stands by c fits read legal is =
      let s = still base log marks since lawful stands in
      record {
        extends = s.extends;
        stands = λ q j.
            subst (λ (m : ℕ). Holds base (log ++ Doubt by c ∷ [])
            (marks ++ m ∷ []) since v1.area v1.version v1.generation v1.end v1.frames v1.waiting v1.gate q)
            (timed q j)
            (holds_doubted base log marks since v1.area v1.version v1.generation v1.end v1.frames v1.waiting v1.gate q
            (s.stands q j) by c);
      }

  -- an append where nothing waits
  pub put_added : (v0 v1 : JournalView D) (ok : Bool) (payload : List ℕ) (mark : ℕ)
      → ((q : Past) → told v1.disk ≡ Some q → q.clock ≡ mark) → v0.waiting ≡ Nothing → GrowsBy ok (length payload) v0 v1
      → Goes (told v0.disk) (told v1.disk) (AddsFrame v0.area ok (is_waiting v1.waiting) payload v0.end)
      → PutsItem told ok payload mark v0 v1
  put_added v0 v1 ok payload mark timed calm grows adds base log marks since lawful stands by c fits read legal is =
      let longer : List Item = log ++ item_of ok by c ∷ [] in
      let after : Bool = is_waiting v1.waiting in
      let both = by_step (told v0.disk) (told v1.disk) (AddsFrame v0.area ok after payload v0.end)
      (λ p. Holds base log marks since v0.area v0.version v0.generation v0.end v0.frames Nothing v0.gate p
      × IsReadIn v0.version c)
      (Holds base longer (marks ++ mark ∷ []) since v0.area v0.version v0.generation (end_of ok v0.end (spelled c))
      (frames_of ok v0.frames) (frame_left after) v0.gate)
      (λ p q j a h.
      let step = holds_added base log marks since v0.area v0.version v0.generation v0.end v0.frames v0.gate p q h.0
      lawful by c fits h.1 legal ok after (λ t. ap is_waiting (grows.waits t))
      (subst (λ (l : List ℕ). AddsFrame v0.area ok after l v0.end p q) is a) in (
        step.0,
        subst (λ (m : ℕ). Holds base longer (marks ++ m ∷ []) since v0.area v0.version v0.generation
            (end_of ok v0.end (spelled c)) (frames_of ok v0.frames) (frame_left after) v0.gate q) (timed q j) step.1,
      ))
      adds
      (λ p i. (
        subst (λ (w : Waiting). Holds base log marks since v0.area v0.version v0.generation v0.end v0.frames w
            v0.gate p) calm (stands p i),
        read p i,
      )) in
      record {
        extends = both.0;
        stands = standing base longer (marks ++ mark ∷ []) since v1 v0.area v0.version v0.generation
            (end_of ok v0.end (spelled c)) (frames_of ok v0.frames) (frame_left after) v0.gate
            grows.stays.area grows.stays.version grows.stays.generation
            (grows.end ∙ ap (end_of ok v0.end) is) grows.frames grows.frame grows.gate both.1;
      }

  -- behind a mend
  pub put_then : (v0 v1 v2 : JournalView D) (ok : Bool) (payload : List ℕ) (mark : ℕ) → v1.version ≡ v0.version
      → StillStands told v0 v1 → PutsItem told ok payload mark v1 v2 → PutsItem told ok payload mark v0 v2
  put_then v0 v1 v2 ok payload mark stays still puts base log marks since lawful stands by c fits read legal is =
      let first = still base log marks since lawful stands in
      let second = puts base log marks since lawful first.stands by c fits
      (λ q j. let back = goes_back (told v0.disk) (told v1.disk) Extends first.extends q j in
      subst (λ (n : ℕ). IsReadIn n c) (sym stays) (read back.0 back.1)) legal is in
      record {
        extends = goes_then (told v0.disk) (told v1.disk) (told v2.disk) Extends Extends Extends
            (λ p q r i j k a b. extends_then p q r a b) first.extends second.extends;
        stands = second.stands;
      }

-- ---- an append that failed, and the mend that closes its gate where that is in doubt

module _ (area : Area) (payload : List ℕ) (end : ℕ) where
  adds_mended : (ok : Bool) (p q r : Past) → AddsFrame area false true payload end p q → Closes area ok end q r
      → AddsFrame area false (not ok) payload end p r
  adds_mended ok p q r adds closes head payloads ready =
      let appends = adds head payloads ready in
      let mends = closes head payloads payload appends.leaves in
      record {
        runs = runs_then (BeforeOrAfter head payloads payload) area p q r appends.runs mends.runs;
        leaves = mended_so ok head payloads (now r area) mends.leaves;
      }
    where
      mended_so : (ok : Bool) (head : List ℕ) (payloads : List (List ℕ)) (held : Held)
          → Stands head payloads (left_of ok payload) end held → Appended false (not ok) head payloads payload end held
      mended_so true head payloads held stands = stands
      mended_so false head payloads held stands = stands

  adds_closed : (t0 t1 t2 : Option Past) (waits ok after : Bool) → after ≡ (if ok then false else true)
      → (waits ≡ true → Goes t1 t2 (Closes area ok end)) → (waits ≡ false → (ok ≡ true) × (t2 ≡ t1))
      → Goes t0 t1 (AddsFrame area false waits payload end) → Goes t0 t2 (AddsFrame area false after payload end)
  adds_closed t0 t1 t2 true true after is closes idle adds =
      subst (λ (b : Bool). Goes t0 t2 (AddsFrame area false b payload end)) (sym is)
      (goes_then t0 t1 t2 (AddsFrame area false true payload end) (Closes area true end)
      (AddsFrame area false false payload end) (λ p q r i j k a c. adds_mended true p q r a c) adds (closes refl))
  adds_closed t0 t1 t2 true false after is closes idle adds =
      subst (λ (b : Bool). Goes t0 t2 (AddsFrame area false b payload end)) (sym is)
      (goes_then t0 t1 t2 (AddsFrame area false true payload end) (Closes area false end)
      (AddsFrame area false true payload end) (λ p q r i j k a c. adds_mended false p q r a c) adds (closes refl))
  adds_closed t0 t1 t2 false true after is closes idle adds =
      subst (λ (b : Bool). Goes t0 t2 (AddsFrame area false b payload end)) (sym is)
      (subst (λ (t : Option Past). Goes t0 t (AddsFrame area false false payload end)) (sym (idle refl).1) adds)
  adds_closed t0 t1 t2 false false after is closes idle adds = absurd (let never = (idle refl).0 in cc)

pub frame_only : (w : Waiting) → w ≡ (if is_waiting w then Frame else Nothing) → is_waiting w ≡ true → w ≡ Frame
frame_only Nothing own is = absurd (cc)
frame_only Frame own is = refl
frame_only Header own is = absurd (cc)

frame_gate : (w : Waiting) (gate : OtherGate) → w ≡ (if is_waiting w then Frame else Nothing)
    → gate_mended w gate ≡ gate
frame_gate Nothing gate own = refl
frame_gate Frame gate own = refl
frame_gate Header gate own = absurd (cc)

frame_settled : (ok : Bool) (w later : Waiting) → w ≡ (if is_waiting w then Frame else Nothing)
    → later ≡ (if ok then Nothing else w) → later ≡ (if is_waiting later then Frame else Nothing)
frame_settled true w later own is = subst (λ (x : Waiting). x ≡ (if is_waiting x then Frame else Nothing)) (sym is) refl
frame_settled false w later own is = subst (λ (x : Waiting). x ≡ (if is_waiting x then Frame else Nothing)) (sym is) own

gate_settled : (ok : Bool) (w : Waiting) (gate later : OtherGate) → w ≡ (if is_waiting w then Frame else Nothing)
    → later ≡ (if ok then gate_mended w gate else gate) → later ≡ gate
gate_settled true w gate later own is = is ∙ frame_gate w gate own
gate_settled false w gate later own is = is

-- what a journal knows of an append that failed, after a mend of its gate
pub grows_closed : {D : Type 0} (v1 v2 v3 : JournalView D) (len : ℕ) (ok : Bool) → GrowsBy false len v1 v2
    → Settles ok v2 v3 → GrowsBy false len v1 v3
grows_closed v1 v2 v3 len ok grows settles = record {
  stays = record {
    area = settles.stays.area ∙ grows.stays.area;
    version =
        settles.stays.version ∙ grows.stays.version;
    generation =
        settles.stays.generation ∙ grows.stays.generation;
    broken = settles.stays.broken ∙ grows.stays.broken;
  };
  gate = gate_settled ok v2.waiting v2.gate v3.gate grows.frame settles.gate ∙ grows.gate;
  end = settles.end ∙ grows.end;
  frames = settles.frames ∙ grows.frames;
  waits = λ never. absurd (cc (never));
  frame = frame_settled ok v2.waiting v3.waiting grows.frame settles.waiting;
}

pub adds_shut : {D : Type 0} (told : D → Option Past) (v1 v2 v3 : JournalView D) (payload : List ℕ) (ok : Bool)
    → Goes (told v1.disk) (told v2.disk) (AddsFrame v1.area false (is_waiting v2.waiting) payload v1.end)
    → GrowsBy false (length payload) v1 v2 → Settles ok v2 v3
    → (is_waiting v2.waiting ≡ true → Goes (told v2.disk) (told v3.disk) (Closes v2.area ok v2.end))
    → Goes (told v1.disk) (told v3.disk) (AddsFrame v1.area false (is_waiting v3.waiting) payload v1.end)
adds_shut told v1 v2 v3 payload ok adds grows settles shuts =
    adds_closed v1.area payload v1.end (told v1.disk) (told v2.disk) (told v3.disk) (is_waiting v2.waiting) ok
    (is_waiting v3.waiting) settles.waits
    (λ is.
    subst (λ (a : Area). Goes (told v2.disk) (told v3.disk) (Closes a ok v1.end)) grows.stays.area
    (subst (λ (n : ℕ). Goes (told v2.disk) (told v3.disk) (Closes v2.area ok n)) grows.end (shuts is)))
    (λ idle. let still = settles.idle (calm_nothing v2.waiting idle) in
    (still.0, ap (λ (v : JournalView _). told v.disk) still.1)) adds

-- what a journal knows after a put
module _ {D : Type 0} (v0 v1 v2 : JournalView D) (len : ℕ) where
  pub has_not : Settles false v0 v1 → HasPut false v0 v1
  has_not settles = record { stays = settles.stays; frames = settles.frames; waits = λ never. absurd (cc (never)) }

  pub has_put : (ok : Bool) → Settles true v0 v1 → GrowsBy ok len v1 v2 → HasPut ok v0 v2
  has_put ok mended grows = record {
    stays = record {
      area = grows.stays.area ∙ mended.stays.area;
      version =
          grows.stays.version ∙ mended.stays.version;
      generation =
          grows.stays.generation ∙ mended.stays.generation;
      broken = grows.stays.broken ∙ mended.stays.broken;
    };
    frames = grows.frames ∙ ap (frames_of ok) mended.frames;
    waits = grows.waits;
  }

-- where nothing waited an append is one from the journal that was there
pub adds_calm : {D : Type 0} (told : D → Option Past) (v0 v1 v2 : JournalView D) (ok after : Bool) (payload : List ℕ)
    → Settles true v0 v1 → is_waiting v0.waiting ≡ false → Goes (told v1.disk) (told v2.disk)
    (AddsFrame v1.area ok after payload v1.end)
    → Goes (told v0.disk) (told v2.disk) (AddsFrame v0.area ok after payload v0.end)
adds_calm {D} told v0 v1 v2 ok after payload mended calm adds =
    let same : v1 ≡ v0 = (mended.idle (calm_nothing v0.waiting calm)).1 in
    subst (λ (v : JournalView D). Goes (told v.disk) (told v2.disk) (AddsFrame v.area ok after payload v.end)) same adds

-- ---- said of what was written

pub puts_as : {D : Type 0} (told : D → Option Past) (v0 v1 : JournalView D) (ok done : Bool) (mark : ℕ)
    (payload text : List ℕ) → ok ≡ done → payload ≡ text → PutsItem told ok payload mark v0 v1
    → PutsItem told done text mark v0 v1
puts_as told v0 v1 ok done mark payload text done_is is puts =
    subst (λ (l : List ℕ). PutsItem told done l mark v0 v1) is
    (subst (λ (b : Bool). PutsItem told b payload mark v0 v1) done_is puts)

pub adds_as : (ok done : Bool) (payload text : List ℕ) → ok ≡ done → payload ≡ text
    → (t0 t1 : Option Past) (area : Area) (after : Bool) (end : ℕ) → Goes t0 t1 (AddsFrame area ok after payload end)
    → Goes t0 t1 (AddsFrame area done after text end)
adds_as ok done payload text done_is is t0 t1 area after end goes =
    subst (λ (l : List ℕ). Goes t0 t1 (AddsFrame area done after l end)) is
    (subst (λ (b : Bool). Goes t0 t1 (AddsFrame area b after payload end)) done_is goes)
