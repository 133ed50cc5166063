-- How many frames whoever opens a board's disk has to do again.
use Rattle.std.proofs.Common.{◌≡◌, ◌⊎◌, inl, inr, ⊎_elim, ℕ, ◌+◌, ◌<◌, ◌≤◌, true, Option, Some, None, List, [], ◌∷◌, ◌++◌, length, refl, ap, ◌∙◌, arith, length-append}
use Rattle.std.specs.Prelude.{is_some}
use Rattle.disk_trait.specs.Held.{Held, Leaves}
use Rattle.disk_trait.specs.Past.{Past, Image, now, other}
use Rattle.disk_trait.specs.declared.area.Area.{Area}
use Rattle.bbs_journal.specs.Areas.{IsArea, Stands}
use Rattle.bbs_journal.specs.Beside.{Beside}
use Rattle.bbs_journal.specs.Grammar.{heading}
use Rattle.bbs_journal.specs.Stops.{OpensAs}
use Rattle.bbs_journal.specs.View.{frame_waits}
use Rattle.bbs_journal.specs.Header.{newest}
use Rattle.bbs_journal.specs.declared.other_gate.OtherGate.{OtherGate}
use Rattle.bbs_journal.specs.declared.waiting.Waiting.{Waiting}
use Rattle.bbs_journal.specs.declared.waiting.Waiting.TheVariants.{Header}
use Rattle.bbs_journal.proofs.Public.{area_opens, before_or_after}
use Rattle.bbs_model.specs.declared.item.Item.{Item}
use Rattle.bbs_model.specs.declared.rows.Rows.{Rows}
use Rattle.bbs_board.specs.KeptIn.{HasAtMost}
use Rattle.bbs_board.specs.View.{Holds}
use Rattle.bbs_board.specs.Written.{Reading, OpensTo}
use Rattle.bbs_board.proofs.Adds.{same_reading}
use Rattle.bbs_board.proofs.Beside.{IsOpenNext, besides}
use Rattle.bbs_board.proofs.Closing.{opens_newer}
use Rattle.bbs_board.proofs.Steps.{ready_area}

-- ---- an area whose last gate is in doubt holds its payloads, or one more

-- the payloads that stand there: those, or where one is in doubt that too
pub stands_area : (head : List ℕ) (payloads : List (List ℕ)) (doubt : Option (List ℕ)) (end : ℕ) (held : Held)
    → Stands head payloads doubt end held → (bytes : List ℕ) → Leaves held bytes
    → IsArea head payloads bytes ⊎ ((one : List ℕ) × (doubt ≡ Some one) × IsArea head (payloads ++ one ∷ []) bytes)
stands_area head payloads None end held ready bytes leaves = inl (ready_area head payloads end held ready bytes leaves)
stands_area head payloads (Some one) end held waits bytes leaves =
    let staged = waits.has.leaves bytes leaves in
    ⊎_elim (λ is. inl is) (λ more. inr (one, refl, more))
    (before_or_after head waits.frames one payloads waits.whole waits.fits bytes staged)

-- ---- so each image has no more payloads than that

module _ (base : Rows) (log : List Item) (marks : List ℕ) (since : ℕ) (area : Area) (version generation end frames : ℕ)
    (waiting : Waiting) (known : OtherGate) (p : Past) (h : Holds base log marks since area version generation end
    frames waiting known p)
    (most : ℕ) (enough : frames ≤ most) (crowded : frame_waits waiting ≡ true → frames < most) where
  abbrev Front : List ℕ
  Front = h.gate ∷ heading version generation h.head

  opened_so : (image : Image) (r : Reading) (payloads : List (List ℕ)) → OpensTo r image
      → OpensAs image area version generation h.head payloads → length payloads ≤ most → length r.payloads ≤ most
  opened_so image r payloads opens really few =
      let same = same_reading image r (record {
        area = area;
        version = version;
        generation = generation;
        head =
            h.head;
        payloads = payloads;
      }) opens really in
      omega (arith, few, ap (λ (x : Reading). length x.payloads) same)

  -- the area behind an open gate has none
  newer_so : (image : Image) (r : Reading) → OpensTo r image → IsArea Front h.payloads (image area)
      → IsOpenNext waiting known h.next generation (image (other area)) → length r.payloads ≤ most
  newer_so image r opens is next =
      let lead = h.leads_on next.size next.waits next.written in
      let really = opens_newer area version generation h.gate h.head h.payloads known h.next h.is_open h.goes_with
      lead.goes_with waiting image is next in
      let same = same_reading image r (record {
        area = other area;
        version = newest;
        generation = generation + 1;
        head =
            h.next;
        payloads = [];
      }) opens really in
      omega (arith, ap (λ (x : Reading). length x.payloads) same)

  own_so : (image : Image) (r : Reading) → OpensTo r image → IsArea Front h.payloads (image area)
      → Beside h.next waiting known generation (image (other area)) → length r.payloads ≤ most
  own_so image r opens is beside = ⊎_elim
      (λ yields. opened_so image r h.payloads opens (area_opens image area h.gate version generation h.head h.payloads
      known h.is_open h.goes_with yields is) (let count = h.count in omega (arith, count, enough)))
      (λ next. newer_so image r opens is next)
      (besides h.next waiting known generation (image (other area)) beside)

  doubt_so : (image : Image) (r : Reading) → OpensTo r image → (one : List ℕ) → h.doubt ≡ Some one
      → IsArea Front (h.payloads ++ one ∷ []) (image area) → Beside h.next waiting known generation (image (other area))
      → length r.payloads ≤ most
  doubt_so image r opens one doubted is beside =
      let frame : frame_waits waiting ≡ true = h.waits_is ∙ ap is_some doubted in
      let below = crowded frame in
      ⊎_elim
      (λ yields.
      opened_so image r (h.payloads ++ one ∷ []) opens (area_opens image area h.gate version generation h.head
      (h.payloads ++ one ∷ []) known h.is_open h.goes_with yields is)
      (let count = h.count in omega (arith, count, below, length-append h.payloads (one ∷ []))))
      (λ next. absurd (let header : waiting ≡ Header = next.waits in cc))
      (besides h.next waiting known generation (image (other area)) beside)

  pub has_at_most : HasAtMost most p
  has_at_most image leaves r opens =
      let beside = h.beside.leaves (image (other area)) (leaves (other area)) in
      ⊎_elim (λ is. own_so image r opens is beside) (λ more. doubt_so image r opens more.0 more.1 more.2 beside)
      (stands_area Front h.payloads h.doubt end (now p area) h.stands (image area) (leaves area))
