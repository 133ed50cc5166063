-- A list of payloads stays kept while an entry is added to its log.
use Rattle.std.proofs.Common.{◌≡◌, inl, inr, ⊎_elim, ℕ, ◌+◌, ◌<◌, ◌≤◌, Bool, true, false, List, [], ◌∷◌, ◌++◌, length, slice_get, Some, sym, subst, arith, length-append, append_assoc}
use Rattle.disk_trait.specs.Held.{Held, Leaves, Has}
use Rattle.disk_trait.specs.Past.{Past, Image, ImagesSince, now, other}
use Rattle.disk_trait.specs.declared.area.Area.{Area}
use Rattle.disk_trait.proofs.Public.{images_split, runs_image, runs_there}
use Rattle.bbs_journal.specs.Areas.{IsArea, Ready}
use Rattle.bbs_journal.specs.Grammar.{heading}
use Rattle.bbs_journal.specs.Other.{Yields}
use Rattle.bbs_journal.proofs.Public.{area_opens}
use Rattle.payload_log.specs.Entries.{entry_of, stored_in}
use Rattle.payload_log.specs.Kept.{IsListed, KeptList}
use Rattle.payload_log.specs.Opened.{Opened, OpensBehind}
use Rattle.payload_log.specs.Puts.{MayHold, IsOneOf, PutsOne}
use Rattle.payload_log.specs.View.{Holds, MayShow}
use Rattle.payload_log.specs.declared.entry.Entry.{Entry}
use Rattle.payload_log.specs.declared.entry.Entry.TheVariants.{Done, Doubt}
use Rattle.payload_log.proofs.Logs.{get_split, get_within, stored-done, listed_more, listed_end, listed_doubt, rising_more}

module _ {X : Type 0} (spelling : X → List ℕ) (start : Opened) (log : List (Entry X)) (marks : List ℕ) (since end : ℕ)
    (waits : Bool) (p : Past) (h : Holds spelling start log marks since end waits p) where
  abbrev pub front : List ℕ
  front = h.gate ∷ heading start.version start.generation start.head

  abbrev pub stored : List (List ℕ)
  stored = stored_in spelling log

  abbrev pub all : List (List ℕ)
  all = start.payloads ++ stored

  -- an area that holds these payloads behind what was opened is opened so
  pub opens : (more : List (List ℕ)) (image : Image) → IsArea front (start.payloads ++ more) (image start.area)
      → Leaves (now p (other start.area)) (image (other start.area)) → OpensBehind start more image
  opens more image is beside =
      area_opens image start.area h.gate start.version start.generation start.head
      (start.payloads ++ more) h.beside h.is_open h.goes_with (h.yields.leaves (image (other start.area)) beside) is

  -- and one that holds one more behind them all
  pub opens_more : (payload : List ℕ) (image : Image) → IsArea front (all ++ payload ∷ []) (image start.area)
      → Leaves (now p (other start.area)) (image (other start.area))
      → OpensBehind start (stored ++ payload ∷ []) image
  opens_more payload image is beside =
      opens (stored ++ payload ∷ []) image (subst (λ (l : List (List ℕ)). IsArea front l (image start.area))
      (append_assoc start.payloads stored (payload ∷ [])) is) beside

  -- a doubt that may show is in the log
  shows_listed : (entry : Entry X) (payload : List ℕ) (shows : MayShow spelling log payload) (from : ℕ) (image : Image)
      → from ≤ shows.place → OpensBehind start (stored ++ payload ∷ []) image
      → IsListed spelling start (log ++ entry ∷ []) from image
  shows_listed entry payload shows from image le opened =
      listed_more spelling start log (entry ∷ []) from image (record {
        place = shows.place;
        low = le;
        high = let within = get_within log shows.place (Doubt shows.payload) shows.doubt in omega (arith, within);
        opens = inr (record {
          payload = shows.payload;
          doubt = shows.doubt;
          shown = subst (λ (l : List (List ℕ)). OpensBehind start (l ++ spelling shows.payload ∷ []) image)
              (sym shows.stored)
              (subst (λ (l : List ℕ). OpensBehind start (stored ++ l ∷ []) image) shows.bytes_are opened);
        });
      })

  -- the new payload is in the log
  new_listed : (done : Bool) (x : X) (from : ℕ) (image : Image) → from ≤ length log
      → OpensBehind start (stored ++ spelling x ∷ []) image
      → IsListed spelling start (log ++ entry_of done x ∷ []) from image
  new_listed true x from image le opened =
      listed_end spelling start (log ++ Done x ∷ []) from image (omega (arith, le, length-append log (Done x ∷ [])))
      (subst (λ (l : List (List ℕ)). OpensBehind start l image) (sym (stored-done spelling log x)) opened)
  new_listed false x from image le opened = listed_doubt spelling start log x from image le opened

  -- one more entry, and what is put with it
  module _ (q : Past) (x : X) (ok after : Bool) (puts : PutsOne start.area ok after front all h.in_doubt
      (spelling x) end p q) where
    abbrev longer : List (Entry X)
    longer = log ++ entry_of ok x ∷ []

    -- what a stop leaves meanwhile, where no doubt is older than the place
    window : (image : Image) → ImagesSince q p.clock image → (from : ℕ) → from ≤ length log
        → ((payload : List ℕ) (shows : MayShow spelling log payload) → from ≤ shows.place)
        → IsListed spelling start longer from image
    window image images from le below =
        let both = runs_image (MayHold front all h.in_doubt (spelling x)) start.area p q image puts.runs images in
        by_bytes both.1 both.0
      where
        by_one : Leaves (now p (other start.area)) (image (other start.area)) → (one : List ℕ)
            → IsOneOf h.in_doubt (spelling x) one → IsArea front (all ++ one ∷ []) (image start.area)
            → IsListed spelling start longer from image
        by_one beside one (inl is) area_is =
            let shows = h.may_show one is in
            shows_listed (entry_of ok x) one shows from image (below one shows) (opens_more one image area_is beside)
        by_one beside one (inr is) area_is =
            new_listed ok x from image le (subst (λ (l : List ℕ). OpensBehind start (stored ++ l ∷ []) image) is
            (opens_more one image area_is beside))

        by_bytes : Leaves (now p (other start.area)) (image (other start.area))
            → MayHold front all h.in_doubt (spelling x) (image start.area) → IsListed spelling start longer from image
        by_bytes beside (inl is) = listed_more spelling start log (entry_of ok x ∷ []) from image
            (listed_end spelling start log from image le (opens stored image is beside))
        by_bytes beside (inr more) = by_one beside more.one more.which more.area_is

    there : now q (other start.area) ≡ now p (other start.area)
    there = runs_there (MayHold front all h.in_doubt (spelling x)) start.area p q puts.runs

    -- what a stop leaves after the acknowledgement
    pub acknowledged_image : Ready front (all ++ spelling x ∷ []) (end + 3 + length (spelling x)) (now q start.area)
        → (image : Image) → ImagesSince q q.clock image
        → IsListed spelling start (log ++ Done x ∷ []) (length log + 1) image
    acknowledged_image ready image images =
        let here : images.moment ≡ q.clock = let from = images.from in let to = images.to in omega (arith, from, to) in
        let leaves : (a : Area) → Leaves (now q a) (image a) = λ a.
        subst (λ (m : ℕ). Leaves (q.held m a) (image a)) here (images.leaves a) in
        let opened = opens_more (spelling x) image (record {
          frames = ready.frames;
          whole = ready.whole;
          begins =
              ready.has.leaves (image start.area) (leaves start.area);
        })
        (subst (λ (held : Held). Leaves held (image (other start.area))) there (leaves (other start.area))) in
        listed_end spelling start (log ++ Done x ∷ []) (length log + 1) image
        (omega (arith, length-append log (Done x ∷ [])))
        (subst (λ (l : List (List ℕ)). OpensBehind start l image) (sym (stored-done spelling log x)) opened)

    -- an entry that was acknowledged before stays so
    still_acknowledged : (place mark : ℕ) (y : X) → slice_get log place ≡ Some (Done y) → place < length log
        → slice_get marks place ≡ Some mark
        → (image : Image) → ImagesSince q mark image → IsListed spelling start longer (place + 1) image
    still_acknowledged place mark y item below marked image images = ⊎_elim
        (λ early. listed_more spelling start log (entry_of ok x ∷ []) (place + 1) image
        (h.kept.list_acknowledged place mark y item marked image early))
        (λ late. window image late (place + 1) (omega (arith, below))
        (λ payload shows. let last = shows.last place y item in omega (arith, last)))
        (images_split p q mark image puts.runs.extends images)

    still_found : (image : Image) → ImagesSince q since image → IsListed spelling start longer 0 image
    still_found image images = ⊎_elim
        (λ early. listed_more spelling start log (entry_of ok x ∷ []) 0 image (h.kept.list_found image early))
        (λ late. window image late 0 (omega arith) (λ payload shows. omega arith))
        (images_split p q since image puts.runs.extends images)

    abbrev Acknowledges : ℕ → Type 0
    Acknowledges place = (mark : ℕ) (y : X) → slice_get longer place ≡ Some (Done y)
        → slice_get (marks ++ q.clock ∷ []) place ≡ Some mark
        → (image : Image) → ImagesSince q mark image → IsListed spelling start longer (place + 1) image

    -- where the new entry is as it should be, so is each
    pub each_acknowledged : ((y : X) → entry_of ok x ≡ Done y → (image : Image) → ImagesSince q q.clock image
        → IsListed spelling start longer (length log + 1) image) → (place : ℕ) → Acknowledges place
    each_acknowledged new place mark y item marked image images = ⊎_elim
        (λ old. elim (get_split marks q.clock place mark marked) [
          | inl there ↦ still_acknowledged place mark y old.1 old.0 there.1 image images
          | inr last ↦ absurd (let count = h.kept.list_count in let low = old.0 in omega (arith, last.0, low, count))
        ])
        (λ last. elim (get_split marks q.clock place mark marked) [
          | inl old ↦ absurd (let count = h.kept.list_count in let low = old.0 in omega (arith, last.0, low, count))
          | inr mine ↦
              subst (λ (n : ℕ). IsListed spelling start longer (n + 1) image) (sym last.0)
              (new y last.1 image (subst (λ (n : ℕ). ImagesSince q n image) (sym mine.1) images))
        ])
        (get_split log (entry_of ok x) place (Done y) item)

    pub kept_by : ((place : ℕ) → Acknowledges place) → KeptList spelling start longer (marks ++ q.clock ∷ []) since q
    kept_by acknowledged = record {
      list_count = let count = h.kept.list_count in omega (
        arith,
        count,
        length-append marks (q.clock ∷ []),
        length-append log (entry_of ok x ∷ []),
      );
      list_rising = rising_more since marks p.clock q.clock h.kept.list_rising puts.runs.extends.later;
      list_found = still_found;
      list_acknowledged = λ place mark y. acknowledged place mark y;
    }

    pub yields_still : Has (Yields h.beside start.generation) (now q (other start.area))
    yields_still = subst (Has (Yields h.beside start.generation)) (sym there) h.yields
