-- What a stop leaves of the disks of boards that were opened, called and closed.
use Rattle.std.proofs.Common.{◌≡◌, ◌⊎◌, inl, inr, ℕ, zero, suc, ◌+◌, ◌≤◌, List, [], ◌∷◌, length, take, get_or, Some, ap, subst, arith}
use Rattle.std.specs.List.{slice_get}
use Rattle.std.proofs.lemmas.Option.{slice_get-get_or, slice_get_within}
use Rattle.disk_trait.specs.Past.{Past, Image, Images, ImagesSince}
use Rattle.disk_trait.specs.Runs.{Extends}
use Rattle.disk_trait.specs.Shows.{KeepsContent}
use Rattle.disk_trait.proofs.Public.{images_split}
use Rattle.bbs_board.specs.Kept.{IsFound, Kept, RiseBetween}
use Rattle.bbs_board.specs.Opening.{IsBoard}
use Rattle.bbs_board.specs.View.{rows_of}
use Rattle.bbs_model.specs.Replay.{replay_log}
use Rattle.bbs_model.specs.declared.command.Command.{Command}
use Rattle.bbs_model.specs.declared.item.Item.{Item}
use Rattle.bbs_model.specs.declared.item.Item.TheVariants.{Done}
use Rattle.bbs_model.specs.declared.rows.Rows.{Rows}
use Rattle.standby_board.specs.Images.{IsBeginning, StandbyShows}
use Rattle.standby_board.specs.Laws.{BeginningsAreReached}
use Rattle.standby_board.specs.Pairs.{PairView, done_on_primary, dones}
use Rattle.pair_top.specs.Disks.{ReachesLog}

pub rising_to : (low high : ℕ) (marks : List ℕ) → RiseBetween low marks high → low ≤ high
rising_to low high [] rising = rising
rising_to low high (mark ∷ marks) (le, rising) = let rest = rising_to mark high marks rising in omega (arith, le, rest)

-- no mark is later than the end
mark_below : (low high : ℕ) (marks : List ℕ) (place mark : ℕ) → RiseBetween low marks high → slice_get marks place ≡ Some mark
    → mark ≤ high
mark_below low high [] place mark rising is = absurd (cc (is))
mark_below low high (m ∷ marks) zero mark (le, rising) is =
    let same : m ≡ mark = cc (is) in
    let rest = rising_to m high marks rising in omega (arith, same, rest)
mark_below low high (m ∷ marks) (suc place) mark (le, rising) is = mark_below m high marks place mark rising is

-- what a stop leaves at the end has each item that is done
pub has_done : (base : Rows) (log : List Item) (marks : List ℕ) (since : ℕ) (r : Past) → Kept base log marks since r
    → (place by : ℕ) (c : Command) → slice_get log place ≡ Some (Done by c) → (image : Image) → Images r image
    → IsFound base log (place + 1) image
has_done base log marks since r kept place by c item image images =
    let within = slice_get_within log place (Done by c) item in
    let marked : slice_get marks place ≡ Some (get_or marks place 0) =
    slice_get-get_or marks place 0 (omega (arith, within, kept.count)) in
    kept.acknowledged place (get_or marks place 0) by c item marked image (record {
      moment = r.clock;
      from = mark_below since r.clock marks place (get_or marks place 0) kept.rising marked;
      to = omega arith;
      leaves = images;
    })

module _ (p q r : Past) (keeps : KeepsContent p q) (extends : Extends q r) where
  -- what a stop left since the entry could be left at the entry, or was left since the opening
  since_entry : (image : Image) → ImagesSince r p.clock image → Images p image ⊎ ImagesSince r q.clock image
  since_entry image images = elim (images_split q r p.clock image extends images) [
    | inl early ↦ inl (λ area. keeps.leaves early.moment early.from early.to area (image area) (early.leaves area))
    | inr late ↦ inr late
  ]

  -- a board reaches its log
  pub reaches_kept : (base : Rows) (log : List Item) (marks : List ℕ) (since : ℕ) → q.clock ≡ since → Kept base log marks since r
      → ReachesLog base log p r
  reaches_kept base log marks since since_is kept image images = elim (since_entry image images) [
    | inl early ↦ inl early
    | inr late ↦ inr (kept.found image (subst (λ (n : ℕ). ImagesSince r n image) since_is late))
  ]

-- a beginning of what the primary did is what its log reaches
pub found_from : {D E : Type 0} → BeginningsAreReached → (v : PairView D E) (base : Rows) (log : List Item) (least from : ℕ) (image : Image)
    → rows_of v.primary_start ≡ base → done_on_primary v ≡ dones log → from ≤ length log → length (dones (take from log)) ≤ least
    → IsBeginning v least image → IsFound base log from image
found_from law v base log least from image base_is dones_are low covered found = record {
  rows = replay_log base (take found.count (dones log));
  board = subst (λ (rows : Rows). IsBoard (replay_log rows (take found.count (dones log))) image) base_is
      (subst (λ (l : List Item). IsBoard (replay_log (rows_of v.primary_start) (take found.count l)) image) dones_are found.board);
  reached = law base log from found.count low (omega (arith, covered, found.low))
      (omega (arith, found.high, ap length dones_are));
}

module _ {D E : Type 0} (law : BeginningsAreReached) (v : PairView D E) (base : Rows) (log : List Item)
    (base_is : rows_of v.primary_start ≡ base) (dones_are : done_on_primary v ≡ dones log) where
  -- the standby reaches the log, too
  pub reaches_shown : (p q r : Past) → KeepsContent p q → Extends q r → (since : ℕ) → q.clock ≡ since → StandbyShows since v r
      → ReachesLog base log p r
  reaches_shown p q r keeps extends since since_is shows image images =
      elim (since_entry p q r keeps extends image images) [
        | inl early ↦ inl early
        | inr late ↦ inr (found_from law v base log 0 0 image base_is dones_are (omega arith) (omega arith)
            (shows.found image (subst (λ (n : ℕ). ImagesSince r n image) since_is late)))
      ]
