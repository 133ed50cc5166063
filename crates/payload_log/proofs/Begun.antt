-- What was loaded is a log that stands.
use Rattle.std.proofs.Common.{◌≡◌, ℕ, ◌+◌, false, List, [], ◌∷◌, ◌++◌, length, Option, Some, None, refl, sym, ap, subst, ◌∙◌, arith, append-nil, length-append}
use Rattle.std.specs.Option.{ForSome}
use Rattle.std.specs.Prelude.{is_some}
use Rattle.std.proofs.lemmas.List.{length-map}
use Rattle.disk_trait.specs.Held.{Has, Leaves}
use Rattle.disk_trait.specs.Past.{Past, Image, Images, ImagesSince, now, other, content, IsSettled}
use Rattle.disk_trait.specs.Shows.{Shows, Secures}
use Rattle.disk_trait.specs.Steps.{Goes}
use Rattle.disk_trait.proofs.Public.{settled_has, goes_back}
use Rattle.bbs_journal.specs.Areas.{Ready}
use Rattle.bbs_journal.specs.Grammar.{heading}
use Rattle.bbs_journal.specs.Other.{Yields}
use Rattle.bbs_journal.specs.Found.{IsJustLoaded}
use Rattle.bbs_journal.specs.Opening.{IsOpening}
use Rattle.bbs_journal.specs.Reading.{bytes_of, payloads_of}
use Rattle.bbs_journal.specs.Stops.{OpensAs}
use Rattle.bbs_journal.specs.View.{is_waiting}
use Rattle.bbs_journal.specs.declared.loading.Loaded.{Loaded}
use Rattle.bbs_journal.specs.declared.waiting.Waiting.{Waiting}
use Rattle.bbs_journal.proofs.Public.{area_opens, length-heading, recovered, ready}
use Rattle.payload_log.specs.Kept.{IsListed, KeptList}
use Rattle.payload_log.specs.Opened.{Opened, OpensBehind, opened_by}
use Rattle.payload_log.specs.Puts.{OnlyFrameWaits}
use Rattle.payload_log.specs.View.{Holds, CanBegin, IsSound}
use Rattle.payload_log.proofs.Logs.{listed_end}

-- a log that just began is kept
module _ {X : Type 0} (spelling : X → List ℕ) (start : Opened) (since : ℕ) (q : Past) (since_is : q.clock ≡ since)
    (opened : (image : Image) → Images q image → OpensBehind start [] image) where
  found_now : (image : Image) → ImagesSince q since image → IsListed {X = X} spelling start [] 0 image
  found_now image images =
      listed_end spelling start [] 0 image (omega arith)
      (opened image (λ a.
      let here : images.moment ≡ q.clock = let from = images.from in let to = images.to in
      omega (arith, from, to, since_is) in
      subst (λ (m : ℕ). Leaves (q.held m a) (image a)) here (images.leaves a)))

  pub kept_now : KeptList {X = X} spelling start [] [] since q
  kept_now = record {
    list_count = refl;
    list_rising = omega (arith, since_is);
    list_found = found_now;
    list_acknowledged = λ place mark x item marked image images. absurd (cc (item));
  }

-- what was loaded stands on the disk, whatever a stop leaves
pub begun_holds : {X : Type 0} (spelling : X → List ℕ) (told : Option Past) (start : Opened) (end since : ℕ)
    → ForSome told IsSettled → ((image : Image) → Shows told image → OpensBehind start [] image)
    → end ≡ 23 + length start.head + bytes_of start.payloads → ((q : Past) → told ≡ Some q → q.clock ≡ since)
    → ForSome told (Holds {X = X} spelling start [] [] since end false)
begun_holds {X} spelling told start end since settled shows place timed q is =
    let shown : Shows told (content q) = subst (λ (t : Option Past). Shows t (content q)) (sym is) (λ a. refl) in
    let all : List (List ℕ) = start.payloads ++ [] in
    let opening = shows (content q) shown in
    let r = recovered (content q) start.area start.version start.generation start.head all _
    (q.possible q.clock start.area).bytes opening in
    let front : List ℕ = r.gate ∷ heading start.version start.generation start.head in
    let there : length front + bytes_of all ≡ end =
    omega (
      arith,
      place,
      length-heading start.version start.generation start.head,
      ap bytes_of (append-nil start.payloads),
    ) in
    let stands : Ready front all end (now q start.area) =
    subst (λ (n : ℕ). Ready front all n (now q start.area)) there
    (ready front all (now q start.area) r.area_is (settled q is start.area)) in
    let beside : Has (Yields r.beside start.generation) (now q (other start.area)) =
    settled_has (Yields r.beside start.generation) (now q (other start.area))
    (settled q is (other start.area)) r.yields in
    record {
      gate = r.gate;
      is_open = r.is_open;
      goes_with = r.goes_with;
      in_doubt = None;
      waits_is = refl;
      may_show = λ bytes never. absurd (cc (never));
      stands = stands;
      beside = r.beside;
      yields = beside;
      kept = kept_now spelling start since q (timed q is) (λ image leaves.
          area_opens image start.area r.gate start.version start.generation start.head all r.beside r.is_open
          r.goes_with
          (beside.leaves (image (other start.area)) (leaves (other start.area)))
          (record {
            frames = stands.frames;
            whole = stands.whole;
            begins =
                stands.has.leaves (image start.area) (leaves start.area);
          }));
    }

-- and so stands the log that begins with it
pub begun_sound : {D X : Type 0} (spelling : X → List ℕ) (told : D → Option Past) (fault_count : D → ℕ)
    (loaded : Loaded D) (since faults : ℕ) → CanBegin told loaded → faults ≡ fault_count loaded.journal.disk
    → ((q : Past) → told loaded.journal.disk ≡ Some q → q.clock ≡ since)
    → IsSound {X = X} spelling told fault_count (opened_by loaded) [] [] since faults loaded.journal
begun_sound {D} {X} spelling told fault_count loaded since faults can faults_are timed = record {
  whole = can.calm.whole;
  own = subst OnlyFrameWaits (sym can.calm.mended) refl;
  counted = let count = can.count in omega (
    arith,
    count,
    length-append (opened_by loaded).payloads [],
    length-map loaded.frames.items (λ v. v.items),
  );
  doubted = omega (arith, faults_are);
  holds = subst (λ (w : Waiting). ForSome (told loaded.journal.disk)
      (Holds {X = X} spelling (opened_by loaded) [] [] since loaded.journal.end (is_waiting w))) (sym can.calm.mended)
      (begun_holds spelling (told loaded.journal.disk) (opened_by loaded) loaded.journal.end since can.settled can.shows
      can.end timed);
}

-- what was loaded without a defect can be begun with
pub can_begin : {D : Type 0} (told : D → Option Past) (fault_count : D → ℕ) (disk : D) (loaded : Loaded D)
    → IsJustLoaded told fault_count disk loaded → loaded.broken ≡ None
    → ((c : Image) → Shows (told loaded.journal.disk) c
    → IsOpening c loaded.journal.area loaded.journal.version loaded.journal.generation loaded.head.items
    (payloads_of loaded.frames.items) loaded.broken loaded.journal.end)
    → Goes (told disk) (told loaded.journal.disk) Secures → CanBegin told loaded
can_begin told fault_count disk loaded fresh none found goes = record {
  calm = record { whole = fresh.broken ∙ ap is_some none; mended = fresh.mended };
  count = fresh.count;
  end = fresh.end;
  shows = λ image shown.
      let payloads : List (List ℕ) = payloads_of loaded.frames.items in
      let same : payloads ≡ payloads ++ [] = sym (append-nil payloads) in
      subst (λ (l : List (List ℕ)). OpensAs image loaded.journal.area loaded.journal.version loaded.journal.generation
      loaded.head.items l) same
      (subst (λ (n : ℕ). IsOpening image loaded.journal.area loaded.journal.version loaded.journal.generation
      loaded.head.items payloads None n) fresh.end
      (subst (λ (b : Option ℕ). IsOpening image loaded.journal.area loaded.journal.version loaded.journal.generation
      loaded.head.items payloads b loaded.journal.end) none (found image shown)));
  settled = λ q is. let back = goes_back (told disk) (told loaded.journal.disk) Secures goes q is in back.2.settled;
}
