-- What the standby's disk shows is the board after a beginning of what the primary did.
use Rattle.std.proofs.Common.{◌≡◌, ◌≤◌, ◌⊎◌, ℕ, ◌+◌, ◌-◌, List, [], ◌∷◌, ◌++◌, length, take, drop, slice_get, Option, Some, None, refl, sym, ap, subst, inl, inr, ◌∙◌, append_assoc, add-one, arith, length-append}
use Rattle.std.proofs.lemmas.Option.{slice_get_within}
use Rattle.std.proofs.Math.Seq.{drop-append_seam, take-append_seam, take-append-add}
use Rattle.std.specs.Option.{ForSome}
use Rattle.disk_trait.specs.Past.{Past, Image, Images, ImagesSince}
use Rattle.disk_trait.specs.Runs.{Extends}
use Rattle.disk_trait.proofs.Public.{goes_back}
use Rattle.bbs_board.specs.Kept.{Kept, IsFound}
use Rattle.bbs_board.specs.Opening.{IsBoard}
use Rattle.bbs_board.specs.View.{View, rows_of}
use Rattle.bbs_laws.proofs.Public.{replay_log-append}
use Rattle.bbs_model.specs.Replay.{replay_log, rows_at, IsReached, IsAtPlace, IsAtDoubt}
use Rattle.bbs_model.specs.Step.{rows_after}
use Rattle.bbs_model.specs.declared.command.Command.{Command}
use Rattle.bbs_model.specs.declared.item.Item.{Item}
use Rattle.bbs_model.specs.declared.item.Item.TheVariants.{Done, Doubt}
use Rattle.bbs_model.specs.declared.rows.Rows.{Rows}
use Rattle.board_port.proofs.Public.{rows_then}
use Rattle.standby_board.specs.Images.{IsBeginning, StandbyShows}
use Rattle.standby_board.specs.Pairs.{PairView, WentOn, EndsDone, IsCalm, IsPaired, StandsPaired, TriesNext, dones, owed, gained_since, done_on_primary, done_on_standby, FollowsRows}
use Rattle.standby_board.proofs.Places.{low_high, marked_at, get_left, get_right, get_last}
use Rattle.standby_board.proofs.Items.{replay-dones, dones-parts, dones-further, tries-at, first-split, LastDone, last-done}

-- of what is told
pub for_told : (told : Option Past) (P Q : Past → Type 0) → ((p : Past) → told ≡ Some p → P p → Q p) → ForSome told P
    → ForSome told Q
for_told told P Q go holds p is = go p is (holds p is)

-- a stop since a later moment is one since an earlier one
since_before : (p : Past) (since later : ℕ) (image : Image) → since ≤ later → ImagesSince p later image
    → ImagesSince p since image
since_before p since later image le left =
    let from = left.from in
    record { moment = left.moment; from = omega (arith, from, le); to = left.to; leaves = left.leaves }

-- the board at a place where the primary had been
module _ {D E : Type 0} (v : PairView D E) (is : IsPaired v) where
  beginning : (rows : Rows) (image : Image) (first rest : List Item) (least : ℕ) → done_on_primary v ≡ first ++ rest
      → rows ≡ replay_log (rows_of v.primary_start) first → least ≤ length first → IsBoard rows image
      → IsBeginning v least image
  beginning rows image first rest least parts rows_are low board =
      let front : take (length first) (done_on_primary v) ≡ first =
      ap (take (length first)) parts ∙ take-append_seam first rest in
      let long : length (done_on_primary v) ≡ length first + length rest = ap length parts ∙ length-append first rest in
      record {
        count = length first;
        low = low;
        high = omega (arith, long);
        board = subst (λ (r : Rows). IsBoard r image) (rows_are ∙ ap (replay_log (rows_of v.primary_start)) (sym front))
            board;
      }

  module _ (fresh : List Item) (base : v.standby.base ≡ v.standby_start.base)
      (grown : v.standby.log ≡ v.standby_start.log ++ fresh) where
    start : List Item
    start = v.standby_start.log

    -- the rows at a place behind the start
    rows_behind : (j : ℕ) → rows_at v.standby.base v.standby.log (length v.standby_start.log + j)
        ≡ replay_log (rows_of v.primary_start) (dones (take j fresh))
    rows_behind j =
        let part : take (length v.standby_start.log + j) v.standby.log ≡ v.standby_start.log ++ take j fresh =
        ap (take (length v.standby_start.log + j)) grown ∙ take-append-add v.standby_start.log fresh j in
        ap (λ (r : Rows). replay_log r (take (length v.standby_start.log + j) v.standby.log)) base
        ∙ ap (replay_log v.standby_start.base) part
        ∙ replay_log-append v.standby_start.base v.standby_start.log (take j fresh)
        ∙ ap (λ (r : Rows). replay_log r (take j fresh)) (sym is.equal)
        ∙ sym (replay-dones (rows_of v.primary_start) (take j fresh))

    gained_is : gained_since v.standby_start v.standby ≡ fresh
    gained_is = ap (drop (length v.standby_start.log)) grown ∙ drop-append_seam v.standby_start.log fresh

    -- what the primary did, in two parts
    parts_at : (j : ℕ) → done_on_primary v ≡ dones (take j fresh) ++ (dones (drop j fresh) ++ owed v.missing)
    parts_at j =
        is.mirrors ∙ ap (λ (xs : List Item). dones xs ++ owed v.missing) gained_is
        ∙ ap (λ (xs : List Item). xs ++ owed v.missing) (dones-parts fresh j)
        ∙ append_assoc (dones (take j fresh)) (dones (drop j fresh)) (owed v.missing)

    at_place : (k : ℕ) (rows : Rows) (image : Image) → IsAtPlace v.standby.base v.standby.log
        (length v.standby_start.log + k) rows
        → IsBoard rows image → IsBeginning v (length (dones (take k fresh))) image
    at_place k rows image found board =
        let low = found.low in
        let j : ℕ = found.place - (length v.standby_start.log + k) in
        let place : found.place ≡ length v.standby_start.log + (k + j) = omega (arith, low) in
        beginning rows image (dones (take (k + j) fresh)) (dones (drop (k + j) fresh) ++ owed v.missing)
        (length (dones (take k fresh)))
        (parts_at (k + j))
        (found.rows_are ∙ ap (rows_at v.standby.base v.standby.log) place ∙ rows_behind (k + j))
        (dones-further fresh k j) board

    at_doubt : (k : ℕ) (rows : Rows) (image : Image) → IsAtDoubt v.standby.base v.standby.log
        (length v.standby_start.log + k) rows
        → IsBoard rows image → IsBeginning v (length (dones (take k fresh))) image
    at_doubt k rows image found board =
        let low = found.low in
        let j : ℕ = found.place - (length v.standby_start.log + k) in
        let place : found.place ≡ length v.standby_start.log + (k + j) = omega (arith, low) in
        let there : slice_get fresh (k + j) ≡ Some (Doubt found.by found.command) =
        sym (get_right v.standby_start.log fresh (k + j))
        ∙ ap (λ (xs : List Item). slice_get xs (length v.standby_start.log + (k + j))) (sym grown)
        ∙ ap (slice_get v.standby.log) (sym place) ∙ found.doubt in
        let tries : TriesNext fresh (owed v.missing) = subst
        (λ (xs : List Item). TriesNext xs (owed v.missing)) gained_is is.tries in
        let split = first-split (dones (drop (k + j) fresh) ++ owed v.missing) (Done found.by found.command)
        (tries-at fresh (owed v.missing) (k + j) found.by found.command tries there) in
        let first : List Item = dones (take (k + j) fresh) in
        let longer : length (first ++ Done found.by found.command ∷ []) ≡ length first + 1 =
        length-append first (Done found.by found.command ∷ []) in
        let further = dones-further fresh k j in
        beginning rows image (first ++ Done found.by found.command ∷ []) split.0 (length (dones (take k fresh)))
        (parts_at (k + j) ∙ ap (λ (xs : List Item). first ++ xs) split.1 ∙ sym
        (append_assoc first (Done found.by found.command ∷ []) split.0))
        (found.rows_are ∙ ap (λ (n : ℕ). rows_after (rows_at v.standby.base v.standby.log n) found.command) place
        ∙ ap (λ (r : Rows). rows_after r found.command) (rows_behind (k + j))
        ∙ sym (replay_log-append (rows_of v.primary_start) first (Done found.by found.command ∷ [])))
        (omega (arith, further, longer)) board

    -- what is found from a place on is such a board
    begins : (k : ℕ) (image : Image) → IsFound v.standby.base v.standby.log (length v.standby_start.log + k) image
        → IsBeginning v (length (dones (take k fresh))) image
    begins k image found = elim found.reached as (λ _. IsBeginning v (length (dones (take k fresh))) image) [
      | inl at ↦ at_place k found.rows image at found.board
      | inr at ↦ at_doubt k found.rows image at found.board
    ]

    module _ (begun : Past) (p : Past) (later : List ℕ) (since : v.standby.since ≡ v.standby_start.since)
        (kept_then : Kept v.standby_start.base v.standby_start.log v.standby_start.marks v.standby_start.since begun)
        (kept : Kept v.standby.base v.standby.log v.standby.marks v.standby.since p)
        (marked : v.standby.marks ≡ v.standby_start.marks ++ later) (on : begun.clock ≤ p.clock) where
      -- at the end of what had been done at the start
      from_done : EndsDone v.standby_start.log → (image : Image) → ImagesSince p begun.clock image
          → IsFound v.standby.base v.standby.log (length v.standby_start.log) image
      from_done ends image left =
          let place : ℕ = length ends.earlier in
          let size : length v.standby_start.log ≡ place + 1 =
          ap length ends.is ∙ length-append ends.earlier (Done ends.by ends.command ∷ []) in
          let count = kept_then.count in
          let mark = marked_at v.standby_start.since v.standby_start.marks begun.clock place kept_then.rising
          (omega (arith, size, count)) in
          let there : slice_get v.standby.marks place ≡ Some mark.mark =
          ap (λ (xs : List ℕ). slice_get xs place) marked ∙ get_left v.standby_start.marks later place mark.mark mark.at
          in
          let last : slice_get v.standby_start.log place ≡ Some (Done ends.by ends.command) =
          ap (λ (xs : List Item). slice_get xs place) ends.is ∙ get_last ends.earlier (Done ends.by ends.command) in
          let item : slice_get v.standby.log place ≡ Some (Done ends.by ends.command) =
          ap (λ (xs : List Item). slice_get xs place) grown
          ∙ get_left v.standby_start.log fresh place (Done ends.by ends.command) last in
          subst (λ (n : ℕ). IsFound v.standby.base v.standby.log n image) (sym size)
          (kept.acknowledged place mark.mark ends.by ends.command item there image
          (since_before p mark.mark begun.clock image mark.below left))

      found_from : (image : Image) → ImagesSince p begun.clock image
          → IsFound v.standby.base v.standby.log (length v.standby_start.log) image
      found_from image left = elim is.calm as (λ _. IsFound v.standby.base v.standby.log
          (length v.standby_start.log) image) [
            | inl empty ↦
                let low = low_high v.standby_start.since v.standby_start.marks begun.clock kept_then.rising in
                subst (λ (n : ℕ). IsFound v.standby.base v.standby.log n image) (sym (ap length empty))
                (kept.found image (since_before p v.standby.since begun.clock image (omega (arith, low, since)) left))
            | inr ends ↦ from_done ends image left
          ]

      found : (image : Image) → ImagesSince p begun.clock image → IsBeginning v 0 image
      found image left =
          let same : length v.standby_start.log ≡ length v.standby_start.log + 0 = omega arith in
          begins 0 image (subst (λ (n : ℕ). IsFound v.standby.base v.standby.log n image) same (found_from image left))

      acknowledged : (place mark by : ℕ) (c : Command) → slice_get (gained_since v.standby_start v.standby) place
          ≡ Some (Done by c)
          → slice_get v.standby.marks (length v.standby_start.log + place) ≡ Some mark → (image : Image)
          → ImagesSince p mark image
          → IsBeginning v (length (dones (take (place + 1) (gained_since v.standby_start v.standby)))) image
      acknowledged place mark by c item at image left =
          let there : slice_get v.standby.log (length v.standby_start.log + place) ≡ Some (Done by c) =
          ap (λ (xs : List Item). slice_get xs (length v.standby_start.log + place)) grown
          ∙ get_right v.standby_start.log fresh place ∙ ap (λ (xs : List Item). slice_get xs place)
          (sym gained_is) ∙ item in
          let same : length v.standby_start.log + place + 1 ≡ length v.standby_start.log + (place + 1) = omega arith in
          subst (λ (xs : List Item). IsBeginning v (length (dones (take (place + 1) xs))) image) (sym gained_is)
          (begins (place + 1) image (subst (λ (n : ℕ). IsFound v.standby.base v.standby.log n image) same
          (kept.acknowledged (length v.standby_start.log + place) mark by c there at image left)))

      now_last : LastDone (gained_since v.standby_start v.standby) → (image : Image) → Images p image
          → IsBeginning v (length (done_on_standby v)) image
      now_last last image left =
          let within = slice_get_within (gained_since v.standby_start v.standby) last.place
          (Done last.by last.command) last.is in
          let count = kept.count in
          let size : length v.standby.log ≡ length v.standby_start.log + length
          (gained_since v.standby_start v.standby) =
          ap length grown ∙ length-append v.standby_start.log fresh
          ∙ ap (λ (xs : List Item). length v.standby_start.log + length xs) (sym gained_is) in
          let mark = marked_at v.standby.since v.standby.marks p.clock
          (length v.standby_start.log + last.place) kept.rising
          (omega (arith, within, count, size)) in
          let all : dones (take (last.place + 1) (gained_since v.standby_start v.standby)) ≡ done_on_standby v =
          ap (λ (n : ℕ). dones (take n (gained_since v.standby_start v.standby))) (add-one last.place) ∙ last.all in
          subst (λ (xs : List Item). IsBeginning v (length xs) image) all
          (acknowledged last.place mark.mark last.by last.command last.is mark.at image
          (record { moment = p.clock; from = mark.below; to = omega arith; leaves = left }))

      now_left : (image : Image) → Images p image → IsBeginning v (length (done_on_standby v)) image
      now_left image left = elim (last-done (gained_since v.standby_start v.standby)) as
          (λ _. IsBeginning v (length (done_on_standby v)) image) [
            | inl none ↦ subst (λ (xs : List Item). IsBeginning v (length xs) image) (sym none)
                (found image (record { moment = p.clock; from = on; to = omega arith; leaves = left }))
            | inr last ↦ now_last last image left
          ]

      pub shown : StandbyShows begun.clock v p
      shown = record { found = found; acknowledged = acknowledged; now = now_left }

module _ {D E : Type 0} (told : D → Option Past) (told' : E → Option Past) (moment : E → ℕ)
    (timed : (disk : E) (p : Past) → told' disk ≡ Some p → p.clock ≡ moment disk) (v : PairView D E)
    (stands : StandsPaired told told' v) where
  abbrev KeptThen : Past → Type 0
  KeptThen = Kept v.standby_start.base v.standby_start.log v.standby_start.marks v.standby_start.since

  pub standby_shows : ForSome (told' v.standby.disk) (Kept v.standby.base v.standby.log v.standby.marks v.standby.since)
      → ForSome (told' v.standby.disk) (StandbyShows (moment v.standby_start.disk) v)
  standby_shows = for_told (told' v.standby.disk) (Kept v.standby.base v.standby.log v.standby.marks v.standby.since)
      (StandbyShows (moment v.standby_start.disk) v)
      (λ p is kept.
      let goes = stands.standby.goes in
      let back = goes_back (told' v.standby_start.disk) (told' v.standby.disk) Extends goes.disk p is in
      let then : KeptThen back.0 = stands.begun back.0 back.1 in
      subst (λ (n : ℕ). StandbyShows n v p) (timed v.standby_start.disk back.0 back.1)
      (shown v stands.paired stands.standby.fresh goes.base goes.grows back.0 p goes.marks.gained goes.since then kept
      goes.marks.grows back.2.later))

  -- the rows of both boards
  pub follows_rows : FollowsRows v
  follows_rows =
      let is = stands.paired in
      let first = stands.primary in
      let second = stands.standby in
      record {
        primary = rows_then v.primary_start v.primary first.fresh first.goes.base first.goes.grows
            ∙ sym (replay-dones (rows_of v.primary_start) first.fresh)
            ∙ ap (λ (xs : List Item). replay_log (rows_of v.primary_start) (dones xs))
            (sym (ap (drop (length v.primary_start.log)) first.goes.grows ∙ drop-append_seam v.primary_start.log
            first.fresh));
        standby = rows_then v.standby_start v.standby second.fresh second.goes.base second.goes.grows
            ∙ ap (λ (r : Rows). replay_log r second.fresh) (sym is.equal)
            ∙ sym (replay-dones (rows_of v.primary_start) second.fresh)
            ∙ ap (λ (xs : List Item). replay_log (rows_of v.primary_start) (dones xs))
            (sym (ap (drop (length v.standby_start.log)) second.goes.grows ∙ drop-append_seam v.standby_start.log
            second.fresh));
        lacks = is.mirrors;
      }
