-- What a log reaches: from its end on, and with more behind it.
use Rattle.std.proofs.Common.{◌≡◌, ◌⊎◌, inl, inr, ◌∙◌, ℕ, zero, suc, ◌+◌, ◌≤◌, ◌<◌, List, [], ◌∷◌, ◌++◌, length, Some, refl, sym, ap, subst, append_assoc, arith, length-append}
use Rattle.std.specs.List.{slice_get}
use Rattle.std.proofs.lemmas.List.{take-append-le, take_all}
use Rattle.std.proofs.lemmas.Option.{slice_get_within}
use Rattle.bbs_board.specs.Doubts.{doubts_in}
use Rattle.bbs_board.specs.Kept.{IsFound, Kept}
use Rattle.bbs_board.specs.Opening.{IsBoard}
use Rattle.bbs_model.specs.Replay.{IsReached, replay_log, rows_at}
use Rattle.bbs_model.specs.Step.{rows_after}
use Rattle.bbs_model.specs.declared.command.Command.{Command}
use Rattle.bbs_model.specs.declared.item.Item.{Item}
use Rattle.bbs_model.specs.declared.item.Item.TheVariants.{Done, Doubt}
use Rattle.bbs_model.specs.declared.rows.Rows.{Rows}
use Rattle.disk_trait.specs.Past.{Past, Image, Images}
use Rattle.pair_lines.specs.declared.answered.PairAnswered.{PairAnswered}
use Rattle.pair_runs.specs.Accounts.{acknowledged_from, items_in, items_of, outcome_of}
use Rattle.pair_top.proofs.Images.{has_done}
use Rattle.pair_top.proofs.Places.{AtEachOk, each_place, ok_item}
use Rattle.pair_top.specs.Disks.{HoldsPlaces, ReachesLog, StandsAt}

slice_get_seam : {X : Type 0} (xs ys : List X) (x : X) → slice_get (xs ++ x ∷ ys) (length xs) ≡ Some x
slice_get_seam [] ys x = refl
slice_get_seam (w ∷ xs) ys x = slice_get_seam xs ys x

slice_get_front : {X : Type 0} (xs ys : List X) (i : ℕ) (x : X) → slice_get xs i ≡ Some x → slice_get (xs ++ ys) i ≡ Some x
slice_get_front [] ys i x is = absurd (cc (is))
slice_get_front (w ∷ xs) ys zero x is = is
slice_get_front (w ∷ xs) ys (suc i) x is = slice_get_front xs ys i x is

-- the item at a place is done
abbrev pub IsDoneAt : List Item → ℕ → Type 0
IsDoneAt log place = (by : ℕ) × (c : Command) × (slice_get log place ≡ Some (Done by c))

-- ---- a log with more behind it

module _ (base : Rows) (log more : List Item) where
  same_rows : (place : ℕ) → place ≤ length log → rows_at base (log ++ more) place ≡ rows_at base log place
  same_rows place le = ap (replay_log base) (take-append-le place log more le)

  longer : (from : ℕ) (rows : Rows) → IsReached base log from rows → IsReached base (log ++ more) from rows
  longer from rows (inl at) = inl (record {
    place = at.place;
    low = at.low;
    high = omega (arith, at.high, length-append log more);
    rows_are = at.rows_are ∙ sym (same_rows at.place at.high);
  })
  longer from rows (inr at) =
      let within : at.place < length log = slice_get_within log at.place (Doubt at.by at.command) at.doubt in
      inr (record {
        place = at.place;
        low = at.low;
        by = at.by;
        command = at.command;
        doubt = slice_get_front log more at.place (Doubt at.by at.command) at.doubt;
        rows_are = at.rows_are
            ∙ ap (λ (r : Rows). rows_after r at.command) (sym (same_rows at.place (omega (arith, within))));
      })

  found_longer : (from : ℕ) (image : Image) → IsFound base log from image → IsFound base (log ++ more) from image
  found_longer from image found = record {
    rows = found.rows;
    board = found.board;
    reached = longer from found.rows found.reached;
  }

  -- what reaches a log reaches it with more behind it
  pub reaches_longer : (p r : Past) → ReachesLog base log p r → ReachesLog base (log ++ more) p r
  reaches_longer p r reaches image images = elim (reaches image images) [
    | inl early ↦ inl early
    | inr found ↦ inr (found_longer 0 image found)
  ]

-- ---- from its end on

-- from its end on a log reaches its own rows alone
at_end : (base : Rows) (log : List Item) (rows : Rows) → IsReached base log (length log) rows → rows ≡ replay_log base log
at_end base log rows (inl at) = at.rows_are ∙ ap (replay_log base) (take_all at.place log at.low)
at_end base log rows (inr at) =
    let within : at.place < length log = slice_get_within log at.place (Doubt at.by at.command) at.doubt in
    let low = at.low in
    absurd (omega (arith, within, low))

-- the last item of a log without doubts is done
last_done : (log : List Item) → doubts_in log ≡ 0 → (log ≡ []) ⊎ ((place : ℕ) × (place + 1 ≡ length log) × IsDoneAt log place)
last_done [] calm = inl refl
last_done (Doubt by c ∷ log) calm = absurd (omega (arith, calm))
last_done (Done by c ∷ []) calm = inr (0, omega arith, (by, c, refl))
last_done (Done by c ∷ (i ∷ log)) calm = elim (last_done (i ∷ log) calm) [
  | inl none ↦ absurd (cc (none))
  | inr at ↦ inr (suc at.0, omega (arith, at.1), at.2)
]

module _ (base : Rows) (log : List Item) (marks : List ℕ) (since : ℕ) (r : Past) (kept : Kept base log marks since r)
    (begun : since ≤ r.clock) (calm : doubts_in log ≡ 0) where
  found_at_end : (image : Image) → Images r image → IsFound base log (length log) image
  found_at_end image images = elim (last_done log calm) [
    | inl none ↦ subst (λ (n : ℕ). IsFound base log n image) (sym (ap length none)) (kept.found image (record {
      moment = r.clock;
      from = begun;
      to = omega arith;
      leaves = images;
    }))
    | inr at ↦ subst (λ (n : ℕ). IsFound base log n image) at.1
        (has_done base log marks since r kept at.0 at.2.0 at.2.1 at.2.2 image images)
  ]

  -- without doubts what a stop leaves now is the board after the whole log
  pub stands_at_end : StandsAt base log r
  stands_at_end image images =
      let found = found_at_end image images in
      subst (λ (rows : Rows). IsBoard rows image) (at_end base log found.rows found.reached) found.board

-- ---- the places of what was acknowledged

-- each of them is of a done item
pub done_each : (whole log : List Item) (answers : List PairAnswered) → whole ≡ log ++ items_in answers
    → AtEachOk (IsDoneAt whole) log answers
done_each whole log [] is = tt
done_each whole log (a ∷ xs) is = (
  (λ ok. (
    a.actor,
    a.command,
    subst (λ (l : List Item). slice_get l (length log) ≡ Some (Done a.actor a.command))
        (sym (is ∙ ap (λ (own : List Item). log ++ (own ++ items_in xs)) (ok_item (outcome_of a.end) a.actor a.command ok)))
        (slice_get_seam log (items_in xs) (Done a.actor a.command)),
  )),
  done_each whole (log ++ items_of a) xs (is ∙ sym (append_assoc log (items_of a) (items_in xs))),
)

-- what follows of two things holds where both hold
pub both_each : (A B P : ℕ → Type 0) → ((place : ℕ) → A place → B place → P place) → (log : List Item) (answers : List PairAnswered)
    → AtEachOk A log answers → AtEachOk B log answers → AtEachOk P log answers
both_each A B P f log [] one other = tt
both_each A B P f log (a ∷ xs) (own, one) (own', other) =
    (λ ok. f (length log) (own ok) (own' ok), both_each A B P f (log ++ items_of a) xs one other)

-- a board holds what was acknowledged
pub holds_kept : (base : Rows) (log : List Item) (marks : List ℕ) (since : ℕ) (r : Past) → Kept base log marks since r
    → (answers : List PairAnswered) → log ≡ items_in answers → HoldsPlaces base log (acknowledged_from 0 answers) r
holds_kept base log marks since r kept answers is =
    let each = done_each log [] answers is in
    each_place (λ place. (image : Image) → Images r image → IsFound base log (place + 1) image) [] answers
    (both_each (IsDoneAt log) (IsDoneAt log)
    (λ place. (image : Image) → Images r image → IsFound base log (place + 1) image)
    (λ place done same image images. has_done base log marks since r kept place done.0 done.1 done.2 image images)
    [] answers each each)
