-- A switch that failed, and closing the gate of the other area behind it: the two are one switch that failed.
use Rattle.std.proofs.Common.{◌≡◌, ◌⊎◌, inl, inr, ⊎_elim, ℕ, ◌+◌, ◌<◌, Bool, true, false, Option, List, [], ◌∷◌, ◌++◌, refl, sym, ap, subst, ◌∙◌, append_assoc, if◌then◌else◌}
use Rattle.disk_trait.specs.Held.{Held, Has, Leaves}
use Rattle.disk_trait.specs.Past.{Past, Image, ImagesSince, now, other}
use Rattle.disk_trait.specs.Steps.{Goes}
use Rattle.disk_trait.specs.declared.area.Area.{Area}
use Rattle.disk_trait.proofs.Public.{extends_then, goes_then, images_split, runs_image}
use Rattle.bbs_journal.specs.Areas.{Begins, IsArea, Ready}
use Rattle.bbs_journal.specs.Beside.{Beside}
use Rattle.bbs_journal.specs.Calls.{Settles, gate_mended}
use Rattle.bbs_journal.specs.Grammar.{heading, GoesWith}
use Rattle.bbs_journal.specs.Other.{IsLoose}
use Rattle.bbs_journal.specs.Stops.{OpensAs}
use Rattle.bbs_journal.specs.Switching.{ClosesHeader}
use Rattle.bbs_journal.specs.View.{JournalView, is_waiting}
use Rattle.bbs_journal.specs.Header.{newest}
use Rattle.bbs_journal.specs.declared.other_gate.OtherGate.{OtherGate}
use Rattle.bbs_journal.specs.declared.other_gate.OtherGate.TheVariants.{Loose}
use Rattle.bbs_journal.specs.declared.waiting.Waiting.{Waiting}
use Rattle.bbs_journal.specs.declared.waiting.Waiting.TheVariants.{Nothing, Frame, Header}
use Rattle.bbs_journal.proofs.Public.{area_opens, other_other, older_front, own_still}
use Rattle.bbs_snapshot.specs.Switches.{Switches, SwitchesAll, StaysThere}
use Rattle.bbs_board.proofs.Beside.{IsOpenNext, besides, unframed_area}
use Rattle.bbs_board.proofs.Steps.{left_waiting, left_known, ready_area}

-- ---- what an image is opened as, where the other area may be open

module _ (area : Area) (version generation byte : ℕ) (head : List ℕ) (payloads : List (List ℕ)) (gate : OtherGate)
    (new : List ℕ) (is_open : 0 < byte) (goes_with : GoesWith version generation head)
    (next_with : GoesWith newest (generation + 1) new) where
  abbrev front : List ℕ
  front = byte ∷ heading version generation head

  pub opens_newer : (waiting : Waiting) (image : Image) → IsArea front payloads (image area)
      → IsOpenNext waiting gate new generation (image (other area))
      → OpensAs image (other area) newest (generation + 1) new []
  opens_newer waiting image is next =
      let older : IsLoose (generation + 1) (image area) = older_front byte version generation head (is.frames ++ 0 ∷ [])
      (image area) goes_with.version_is goes_with.below
      (record {
        rest = is.begins.rest;
        parts = is.begins.parts ∙ ap (λ (l : List ℕ). l ++ is.begins.rest)
            (append_assoc front is.frames (0 ∷ []));
      }) in
      area_opens image (other area) next.byte newest (generation + 1) new [] Loose next.is_open next_with
      (subst (λ (x : Area). IsLoose (generation + 1) (image x)) (sym (other_other area)) older)
      (unframed_area next.byte (generation + 1) new (image (other area)) next.begins)

  pub opens_either : (waiting : Waiting) (image : Image) → IsArea front payloads (image area)
      → Beside new waiting gate generation (image (other area))
      → OpensAs image area version generation head payloads ⊎ OpensAs image (other area) newest (generation + 1) new []
  opens_either waiting image is beside = ⊎_elim
      (λ yields. inl (area_opens image area byte version generation head payloads gate is_open goes_with yields is))
      (λ next. inr (opens_newer waiting image is next))
      (besides new waiting gate generation (image (other area)) beside)

  -- ---- the switch and the close

  module _ (end : ℕ) (p q s : Past) (ready : Ready front payloads end (now p area))
      (sw : Switches false area version generation head payloads Header gate new p q) (ok : Bool)
      (closes : ClosesHeader area gate generation ok q s) where
    abbrev Left : List ℕ → Type 0
    Left = Beside new Header gate generation

    still : now q area ≡ now p area
    still = (sw.failed refl).still

    late_image : (image : Image) → ImagesSince s q.clock image
        → OpensAs image area version generation head payloads
        ⊎ OpensAs image (other area) newest (generation + 1) new []
    late_image image images =
        let turns = closes new (sw.failed refl).beside in
        let both = runs_image Left (other area) q s image turns.runs images in
        let own : Leaves (now q area) (image area) = subst (λ (x : Area). Leaves (now q x) (image x))
        (other_other area) both.1 in
        opens_either Header image (ready_area front payloads end (now p area) ready (image area)
        (subst (λ (h : Held). Leaves h (image area)) still own)) both.0

    beside_closed : (done : Bool) → (done ≡ true → Has (Begins (0 ∷ [])) (now s (other area)))
        → (done ≡ false → Has Left (now s (other area)))
        → Has (Beside new (left_waiting done Header) (left_known done gate) generation) (now s (other area))
    beside_closed true done failed = done refl
    beside_closed false done failed = failed refl

    switches_closed : Switches false area version generation head payloads (left_waiting ok Header)
        (left_known ok gate) new p s
    switches_closed =
        let turns = closes new (sw.failed refl).beside in
        record {
          extends = extends_then p q s sw.extends turns.runs.extends;
          each = λ image images. ⊎_elim (λ early. sw.each image early) (λ late. late_image image late)
              (images_split q s p.clock image turns.runs.extends images);
          done = λ never. absurd (cc (never));
          made = λ never. absurd (cc (never));
          failed = λ is. record {
            still = own_still Left area q s turns.runs ∙ still;
            beside =
                beside_closed ok turns.done turns.failed;
          };
        }

-- ---- the same, where the disk may tell nothing

all_closed : (t0 t1 t2 : Option Past) (area : Area) (version generation : ℕ) (gate : OtherGate) (new : List ℕ)
    (ok : Bool) → Goes t0 t1 (SwitchesAll false area version generation Header gate new)
    → Goes t1 t2 (ClosesHeader area gate generation ok)
    → Goes t0 t2 (SwitchesAll false area version generation (left_waiting ok Header) (left_known ok gate) new)
all_closed t0 t1 t2 area version generation gate new ok switches closes =
    goes_then t0 t1 t2 (SwitchesAll false area version generation Header gate new)
    (ClosesHeader area gate generation ok) (SwitchesAll false area version generation (left_waiting ok Header)
    (left_known ok gate) new)
    (λ p q s i j k all shuts byte head payloads end is_open goes_with next_with ready.
    switches_closed area version generation byte head payloads gate new is_open goes_with next_with end p q s ready
    (all byte head payloads end is_open goes_with next_with ready) ok shuts)
    switches closes

pub header_only : (w : Waiting) → w ≡ (if is_waiting w then Header else Nothing) → (w ≡ Nothing) ⊎ (w ≡ Header)
header_only Nothing own = inl refl
header_only Frame own = absurd (cc)
header_only Header own = inr refl

header_settled : (ok : Bool) (w later : Waiting) → w ≡ (if is_waiting w then Header else Nothing)
    → later ≡ (if ok then Nothing else w) → later ≡ (if is_waiting later then Header else Nothing)
header_settled true w later own is = subst (λ (x : Waiting). x ≡ (if is_waiting x then Header else Nothing))
    (sym is) refl
header_settled false w later own is = subst (λ (x : Waiting). x ≡ (if is_waiting x then Header else Nothing))
    (sym is) own

module _ {D : Type 0} (told : D → Option Past) (v1 v2 v3 : JournalView D) (ok : Bool) (head : List ℕ)
    (there : StaysThere v1 v2) (settles : Settles ok v2 v3) where
  pub stays_closed : StaysThere v1 v3
  stays_closed = record {
    stays = record {
      area = settles.stays.area ∙ there.stays.area;
      version =
          settles.stays.version ∙ there.stays.version;
      generation =
          settles.stays.generation ∙ there.stays.generation;
      broken = settles.stays.broken ∙ there.stays.broken;
    };
    end = settles.end ∙ there.end;
    frames = settles.frames ∙ there.frames;
    waiting = header_settled ok v2.waiting v3.waiting there.waiting settles.waiting;
  }

  -- the whole is a switch that failed
  pub closed_switch : Goes (told v1.disk) (told v2.disk)
      (SwitchesAll false v1.area v1.version v1.generation v2.waiting v2.gate head)
      → (v2.waiting ≡ Header → Goes (told v2.disk) (told v3.disk) (ClosesHeader v2.area v2.gate v2.generation ok))
      → Goes (told v1.disk) (told v3.disk) (SwitchesAll false v1.area v1.version v1.generation v3.waiting v3.gate head)
  closed_switch switches header = ⊎_elim
      (λ calm.
      let same : v3 ≡ v2 = (settles.idle calm).1 in
      subst (λ (v : JournalView D). Goes (told v1.disk) (told v.disk)
      (SwitchesAll false v1.area v1.version v1.generation v.waiting v.gate head)) (sym same) switches)
      (λ waits.
      let shuts : Goes (told v2.disk) (told v3.disk) (ClosesHeader v1.area v2.gate v1.generation ok) =
      subst (λ (a : Area). Goes (told v2.disk) (told v3.disk) (ClosesHeader a v2.gate v1.generation ok))
      there.stays.area
      (subst (λ (n : ℕ). Goes (told v2.disk) (told v3.disk) (ClosesHeader v2.area v2.gate n ok)) there.stays.generation
      (header waits)) in
      let was : Goes (told v1.disk) (told v2.disk) (SwitchesAll false v1.area v1.version v1.generation Header v2.gate
      head) = subst (λ (w : Waiting). Goes (told v1.disk) (told v2.disk)
      (SwitchesAll false v1.area v1.version v1.generation w v2.gate head)) waits switches in
      let waiting : v3.waiting ≡ left_waiting ok Header = settles.waiting ∙ ap (left_waiting ok) waits in
      let gate : v3.gate ≡ left_known ok v2.gate = settles.gate ∙ ap
      (λ (w : Waiting). if ok then gate_mended w v2.gate else v2.gate) waits in
      rw (waiting, gate) (all_closed (told v1.disk) (told v2.disk)
      (told v3.disk) v1.area v1.version v1.generation v2.gate head ok was shuts))
      (header_only v2.waiting there.waiting)
