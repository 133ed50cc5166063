-- What a stop leaves of a board that was opened, called and closed: alone, or as the standby of a pair.
use Rattle.std.proofs.Common.{◌≡◌, ◌∙◌, ℕ, ◌+◌, ◌≤◌, List, [], ◌++◌, length, take, drop, Option, Some, refl, sym, ap, subst, arith}
use Rattle.std.specs.Option.{ForSome}
use Rattle.std.proofs.lemmas.Option.{slice_get_within}
use Rattle.bbs_board.specs.Doubts.{doubts_in}
use Rattle.bbs_board.specs.Kept.{IsFound, Kept}
use Rattle.bbs_board.specs.View.{View, rows_of}
use Rattle.bbs_model.specs.declared.item.Item.{Item}
use Rattle.bbs_model.specs.declared.item.Item.TheVariants.{Done}
use Rattle.bbs_model.specs.declared.rows.Rows.{Rows}
use Rattle.disk_trait.specs.Past.{Past, Image, Images}
use Rattle.disk_trait.specs.Runs.{Extends}
use Rattle.disk_trait.specs.Shows.{KeepsContent, Secures}
use Rattle.disk_trait.specs.Steps.{Goes}
use Rattle.disk_trait.proofs.Public.{goes_back}
use Rattle.pair_lines.specs.declared.answered.PairAnswered.{PairAnswered}
use Rattle.pair_runs.specs.Accounts.{Covers, acknowledged_from, items_in}
use Rattle.standby_board.specs.Laws.{BeginningsAreReached}
use Rattle.standby_board.specs.Images.{StandbyShows}
use Rattle.standby_board.specs.Pairs.{PairView, done_on_primary, done_on_standby, dones}
use Rattle.pair_top.specs.Disks.{GaveUp, KeepsLog}
use Rattle.pair_top.proofs.Images.{found_from, reaches_kept, reaches_shown, rising_to}
use Rattle.pair_top.proofs.LogsKept.{IsDoneAt, both_each, done_each, holds_kept, reaches_longer, stands_at_end}
use Rattle.pair_top.proofs.Places.{covered, each_place}

-- from a disk that was opened to what it is at the end
over : (t0 t1 t2 : Option Past) → Goes t0 t1 Secures → Goes t1 t2 Extends → (Q : Past → Past → Type 0)
    → ((p q r : Past) → t1 ≡ Some q → t2 ≡ Some r → KeepsContent p q → Extends q r → Q p r)
    → ForSome t0 (λ p. ForSome t2 (λ r. Q p r))
over t0 t1 t2 opens goes Q f = λ p is r is'.
    let (q, between, extends) = goes_back t1 t2 Extends goes r is' in
    let (first, before, secures) = goes_back t0 t1 Secures opens q between in
    let same : first ≡ p = cc (before, is) in
    subst (λ (x : Past). Q x r) same (f first q r between is' secures.keeps extends)

-- a board that went on from its load
module _ {D : Type 0} (told : D → Option Past) (moment : D → ℕ) (timed : (d : D) (q : Past) → told d ≡ Some q → q.clock ≡ moment d)
    (t0 : Option Past) (start board : View D) (base : Rows) (opens : Goes t0 (told start.disk) Secures)
    (goes : Goes (told start.disk) (told board.disk) Extends)
    (since_is : board.since ≡ moment start.disk) (base_is : board.base ≡ base)
    (kept : ForSome (told board.disk) (Kept board.base board.log board.marks board.since)) where
  at_load : (q r : Past) → told start.disk ≡ Some q → told board.disk ≡ Some r
      → (q.clock ≡ board.since) × Kept base board.log board.marks board.since r
  at_load q r is is' = (
    timed start.disk q is ∙ sym since_is,
    subst (λ (b : Rows). Kept b board.log board.marks board.since r) base_is (kept r is'),
  )

  -- to the end: its disk keeps its log, and what was acknowledged
  pub board_keeps : (answers : List PairAnswered) → board.log ≡ items_in answers
      → ForSome t0 (λ p. ForSome (told board.disk) (λ r. KeepsLog base (items_in answers) (acknowledged_from 0 answers) p r))
  board_keeps answers log_is =
      subst (λ (l : List Item). ForSome t0 (λ p. ForSome (told board.disk)
      (λ r. KeepsLog base l (acknowledged_from 0 answers) p r))) log_is
      (over t0 (told start.disk) (told board.disk) opens goes _ (λ p q r is is' keeps extends.
      let (since, kept_is) = at_load q r is is' in
      record {
        reaches = reaches_kept p q r keeps extends base board.log board.marks board.since since kept_is;
        holds = holds_kept base board.log board.marks board.since r kept_is answers log_is;
      }))

  -- until it was given up, level with its log
  pub board_gave_up : (more : List Item) → doubts_in board.log ≡ 0
      → ForSome t0 (λ p. ForSome (told board.disk) (λ r. GaveUp base (board.log ++ more) board.log p r))
  board_gave_up more calm =
      over t0 (told start.disk) (told board.disk) opens goes _ (λ p q r is is' keeps extends.
      let (since, kept_is) = at_load q r is is' in
      record {
        reaches = reaches_longer base board.log more p r
            (reaches_kept p q r keeps extends base board.log board.marks board.since since kept_is);
        stands = stands_at_end base board.log board.marks board.since r kept_is
            (rising_to board.since r.clock board.marks kept_is.rising) calm;
      })

-- the standby of a pair that was never given up
module _ {D E : Type 0} (law : BeginningsAreReached) (told : E → Option Past) (moment : E → ℕ)
    (timed : (d : E) (q : Past) → told d ≡ Some q → q.clock ≡ moment d) (t0 : Option Past) (v : PairView D E) (base : Rows)
    (opens : Goes t0 (told v.standby_start.disk) Secures) (goes : Goes (told v.standby_start.disk) (told v.standby.disk) Extends)
    (base_is : rows_of v.primary_start ≡ base) (empty : v.primary_start.log ≡ [])
    (shows : ForSome (told v.standby.disk) (StandbyShows (moment v.standby_start.disk) v))
    (answers : List PairAnswered) (log_is : v.primary.log ≡ items_in answers)
    (covers : Covers [] (length (done_on_standby v)) answers) where
  dones_are : done_on_primary v ≡ dones (items_in answers)
  dones_are = ap (λ (l : List Item). dones (drop (length l) v.primary.log)) empty ∙ ap dones log_is

  place_found : (r : Past) → StandbyShows (moment v.standby_start.disk) v r → (place : ℕ)
      → length (dones (take (place + 1) (items_in answers))) ≤ length (done_on_standby v) → IsDoneAt (items_in answers) place
      → (image : Image) → Images r image → IsFound base (items_in answers) (place + 1) image
  place_found r shown place low (by, c, item) image images =
      let within = slice_get_within (items_in answers) place (Done by c) item in
      found_from law v base (items_in answers) (length (done_on_standby v)) (place + 1) image base_is dones_are
      (omega (arith, within)) low (shown.now image images)

  pub standby_keeps : ForSome t0 (λ p. ForSome (told v.standby.disk)
      (λ r. KeepsLog base (items_in answers) (acknowledged_from 0 answers) p r))
  standby_keeps =
      over t0 (told v.standby_start.disk) (told v.standby.disk) opens goes _ (λ p q r is is' keeps extends.
      record {
        reaches = reaches_shown law v base (items_in answers) base_is dones_are p q r keeps extends
            (moment v.standby_start.disk) (timed v.standby_start.disk q is) (shows r is');
        holds = each_place (λ place. (image : Image) → Images r image → IsFound base (items_in answers) (place + 1) image)
            [] answers
            (both_each (λ place. length (dones (take (place + 1) (items_in answers))) ≤ length (done_on_standby v))
            (IsDoneAt (items_in answers))
            (λ place. (image : Image) → Images r image → IsFound base (items_in answers) (place + 1) image)
            (λ place low done image images. place_found r (shows r is') place low done image images)
            [] answers
            (covered (items_in answers) [] (length (done_on_standby v)) answers refl covers)
            (done_each (items_in answers) [] answers refl));
      })
