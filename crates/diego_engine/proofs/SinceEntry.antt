-- What is kept since the entry, by runs that only look, and by runs that load a board and then call it.
use Rattle.std.proofs.Common.{◌≡◌, ℕ, ◌≤◌, List, [], ◌∷◌, Option, Some, refl, sym, subst, arith, inl, inr}
use Rattle.std.specs.Option.{ForSome}
use Rattle.disk_trait.specs.Past.{Past, Image, content}
use Rattle.disk_trait.specs.Runs.{Extends}
use Rattle.disk_trait.specs.Steps.{Goes}
use Rattle.disk_trait.proofs.Public.{goes_back, images_split}
use Rattle.disk_trait.specs.Shows.{Shows, KeepsContent, Secures}
use Rattle.bbs_model.specs.Replay.{IsLawful}
use Rattle.bbs_model.specs.declared.item.Item.{Item}
use Rattle.bbs_model.specs.declared.rows.Rows.{Rows}
use Rattle.bbs_board.specs.Doubts.{doubts_in, RoseForEach}
use Rattle.bbs_board.specs.Kept.{RiseBetween, Kept}
use Rattle.bbs_board.specs.Opening.{IsBoard}
use Rattle.bbs_board.proofs.Public.{one_board}
use Rattle.diego_engine.specs.Headline.{KeptSince, TakesLog, BoardTakesLog}
use Rattle.program_ends.specs.Ports.{IsTold}

-- numbers that never fall lie above each smaller one
rising_from : (less low high : ℕ) (marks : List ℕ) → less ≤ low → RiseBetween low marks high
    → RiseBetween less marks high
rising_from less low high [] le rising = omega (arith, le, rising)
rising_from less low high (mark ∷ marks) le rising = (omega (arith, le, rising.0), rising.1)

module _ (rows : Rows) (p : Past) where
  -- where nothing was done but to look, a stop leaves what it could leave
  since_rests : (q : Past) → KeepsContent p q → KeptSince rows [] [] p q
  since_rests q keeps = record {
    count = refl;
    rising = keeps.extends.later;
    found = λ image images. inl (λ area. keeps.leaves images.moment images.from images.to area (image area)
        (images.leaves area));
    acknowledged = λ place mark by command item marked image images. absurd (cc (item));
  }

  -- and where a board was loaded, until its load
  since_on : (q r : Past) → KeepsContent p q → Extends q r → (log : List Item) (marks : List ℕ)
      → Kept rows log marks q.clock r → KeptSince rows log marks p r
  since_on q r keeps extends log marks kept = record {
    count = kept.count;
    rising = rising_from p.clock q.clock r.clock marks keeps.extends.later kept.rising;
    found = λ image images. elim (images_split q r p.clock image extends images) [
      | inl early ↦ inl (λ area. keeps.leaves early.moment early.from early.to area (image area) (early.leaves area))
      | inr late ↦ inr (kept.found image late)
    ];
    acknowledged = kept.acknowledged;
  }

  takes_rests : (q : Past) (faults faults' : ℕ) → faults ≤ faults' → KeepsContent p q
      → TakesLog rows [] [] p q faults faults'
  takes_rests q faults faults' le keeps = record { lawful = tt; kept = since_rests q keeps; doubts = omega (arith, le) }

  -- the rows of the board that was loaded are those that the disk held
  takes_on : (found : Rows) (q r : Past) (log : List Item) (marks : List ℕ) (since faults faults' : ℕ)
      → IsBoard rows (content p) → IsBoard found (content p) → KeepsContent p q → Extends q r
      → q.clock ≡ since → IsLawful found log → Kept found log marks since r → RoseForEach (doubts_in log) faults faults'
      → TakesLog rows log marks p r faults faults'
  takes_on found q r log marks since faults faults' here board keeps extends since_is lawful kept doubts =
      let same : found ≡ rows = one_board found rows (content p) board here in
      record {
        lawful = subst (λ (x : Rows). IsLawful x log) same lawful;
        kept = since_on q r keeps extends log marks (subst (λ (n : ℕ). Kept rows log marks n r) (sym since_is)
            (subst (λ (x : Rows). Kept x log marks since r) same kept));
        doubts = doubts;
      }

-- ---- the same, where the disk may tell nothing

pub recovers_resting : (told told' : Option Past) (faults faults' : ℕ) → faults ≤ faults' → Goes told told' KeepsContent
    → BoardTakesLog [] [] told told' faults faults'
recovers_resting told told' faults faults' le goes p is q is' rows here =
    let keeps : Goes told (Some q) KeepsContent = subst (λ (t : Option Past). Goes told t KeepsContent) is' goes in
    takes_rests rows p q faults faults' le (subst (λ (t : Option Past). Goes t (Some q) KeepsContent) is keeps)

pub recovers_on : (told between told' : Option Past) (found : Rows) (log : List Item) (marks : List ℕ)
    (since faults faults' : ℕ)
    → ((image : Image) → Shows told image → IsTold told' → IsBoard found image) → Goes told between Secures
    → Goes between told' Extends → ((q : Past) → between ≡ Some q → q.clock ≡ since)
    → IsLawful found log → ForSome told' (Kept found log marks since) → RoseForEach (doubts_in log) faults faults'
    → BoardTakesLog log marks told told' faults faults'
recovers_on told between told' found log marks since faults faults' opens first second timed lawful kept doubts p is r
    is' rows here =
    let (q, told_is, extends) = goes_back between told' Extends second r is' in
    let secures : Goes told (Some q) Secures = subst (λ (t : Option Past). Goes told t Secures) told_is first in
    let secured : Secures p q = subst (λ (t : Option Past). Goes t (Some q) Secures) is secures in
    let board : IsBoard found (content p) = opens (content p)
    (subst (λ (t : Option Past). Shows t (content p)) (sym is) (λ area. refl)) (subst IsTold (sym is') tt) in
    takes_on rows p found q r log marks since faults faults' here board secured.keeps extends (timed q told_is) lawful
    (kept r is') doubts
