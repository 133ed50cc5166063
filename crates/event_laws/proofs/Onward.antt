-- Rows that follow a board, event by event.
use Rattle.std.proofs.Common.{◌≡◌, ℕ, suc, ◌+◌, ◌<◌, List, [], ◌∷◌, length, drop, get_or, refl, ap, sym, ◌∙◌, arith}
use Rattle.std.proofs.Math.Seq.{drop-cons}
use Rattle.bbs_model.specs.declared.event.Change.{Change}
use Rattle.bbs_model.specs.declared.event.Change.TheVariants.{Created, Changed, Removed}
use Rattle.bbs_model.specs.declared.event.Event.{Event}
use Rattle.bbs_model.specs.declared.event.Events.{Events}
use Rattle.bbs_model.specs.declared.event.Row.{Row}
use Rattle.bbs_model.specs.declared.event.Row.TheVariants as row
use Rattle.bbs_model.specs.declared.rows.Rows.{Rows}
use Rattle.event_laws.specs.Told.{with_change, with_event, with_events, both_events, after_events, after_all}

-- the rest of what is told, after one transition more
pub one_transition_more : (rows : Rows) (ts : List Events) (i : ℕ) (t : Events) → i < length ts → t ≡ get_or ts i t
    → after_all (after_events rows t) (drop (i + 1) ts) ≡ after_all rows (drop i ts)
one_transition_more rows ts i t lt is =
    let later : i + 1 ≡ suc i = omega arith in
    ap (λ n. after_all (after_events rows t) (drop n ts)) later
    ∙ ap (λ (e : Events). after_all (after_events rows e) (drop (suc i) ts)) is
    ∙ ap (after_all rows) (sym (drop-cons ts i t lt))

-- an event makes no transition by itself
next-with_change : (change : Change) (r : Row) (rows : Rows) → (with_change change r rows).next ≡ rows.next
next-with_change Created (row.Desired d) rows = refl
next-with_change Created (row.Actual a) rows = refl
next-with_change Created (row.Task t) rows = refl
next-with_change Created (row.Cell c) rows = refl
next-with_change Created (row.Domain d) rows = refl
next-with_change Changed (row.Desired d) rows = refl
next-with_change Changed (row.Actual a) rows = refl
next-with_change Changed (row.Task t) rows = refl
next-with_change Changed (row.Cell c) rows = refl
next-with_change Changed (row.Domain d) rows = refl
next-with_change Removed (row.Desired d) rows = refl
next-with_change Removed (row.Actual a) rows = refl
next-with_change Removed (row.Task t) rows = refl
next-with_change Removed (row.Cell c) rows = refl
next-with_change Removed (row.Domain d) rows = refl

next-with_events : (es : List Event) (rows : Rows) → (with_events es rows).next ≡ rows.next
next-with_events [] rows = refl
next-with_events (e ∷ es) rows = next-with_events es (with_event e rows) ∙ next-with_change e.change e.row rows

pub next-after_events : (rows : Rows) (t : Events) → (after_events rows t).next ≡ rows.next + 1
next-after_events rows t = ap (λ n. n + 1) (next-with_events (both_events t) rows)
