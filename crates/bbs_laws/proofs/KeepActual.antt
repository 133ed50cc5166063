-- What is asked of the instances of processes leaves a valid board.
use Rattle.std.proofs.Common.{◌≡◌, ℕ, ◌<◌, List, Option, Some, None, ap, sym, subst, ◌∙◌, arith}
use Rattle.std.proofs.lemmas.Grind.{common_steps}
use Rattle.crash_backoff.specs.declared.moment.Moment.{Moment}
use Rattle.diego_names.specs.declared.instance.Instance.{Instance}
use Rattle.diego_names.specs.declared.key.Key.{Key}
use Rattle.lrp_records.specs.Laws.{KeepsPlace}
use Rattle.lrp_records.specs.Moves.{lrp_move}
use Rattle.lrp_records.specs.Place.{place_of, place_order}
use Rattle.lrp_records.specs.States.{holder_of}
use Rattle.lrp_records.specs.declared.actual.Actual.{Actual}
use Rattle.lrp_records.specs.declared.lrp_move.LrpMove.{LrpMove}
use Rattle.lrp_records.specs.declared.lrp_move.LrpMove.TheVariants.{Claim, Start, Crash, Unclaim, Restart, Remove, PlaceFail}
use Rattle.lrp_records.specs.declared.move_end.MoveEnd.{MoveEnd}
use Rattle.lrp_records.specs.declared.move_end.MoveEnd.TheVariants as end
use Rattle.lrp_records.specs.declared.presence.Presence.{Presence}
use Rattle.lrp_records.specs.declared.presence.Presence.TheVariants.{Ordinary}
use Rattle.lrp_records.proofs.Public.{IsKeyOrder-place_order}
use Rattle.row_tables.specs.Table.{find_row, put_row, without_row}
use Rattle.row_tables.proofs.Public.{key-find_row}
use Rattle.bbs_model.specs.Lrps.{moved_to}
use Rattle.bbs_model.specs.Limits.{most_transitions}
use Rattle.bbs_model.specs.Step.{changed_by, advanced}
use Rattle.bbs_model.specs.Tables.{find_actual}
use Rattle.bbs_model.specs.Valid.{IsHeldBefore, SuitsPresence, IsActualRow, AreActual, IsValid}
use Rattle.bbs_model.specs.declared.rows.Rows.{Rows}
use Rattle.bbs_laws.proofs.KeepEach.{each-find_row}
use Rattle.bbs_laws.proofs.KeepTables.{AreActual-put, AreActual-without, AreActual-longer, AreTasks-longer, AreCells-longer}

-- the container that a move brings
abbrev pub brought_by : LrpMove → Option Instance
brought_by (Claim instance cell) = Some instance
brought_by (Start instance cell) = Some instance
brought_by (Crash instance) = None
brought_by (Unclaim instance) = None
brought_by Restart = None
brought_by (Remove instance) = None
brought_by PlaceFail = None

-- the row after a move is held by a container that held it before or that the move brings, if by any
abbrev pub KeepsHeld : ℕ → MoveEnd → Type 0
KeepsHeld next (end.Changed new) = IsHeldBefore next (holder_of new.state)
KeepsHeld next end.Gone = Unit {0}
KeepsHeld next end.Same = Unit {0}
KeepsHeld next (end.Refused why) = Unit {0}

pub KeepsHeld-lrp_move : (next : ℕ) (row : Actual) (move : LrpMove) (now : Moment)
    → IsHeldBefore next (holder_of row.state)
    → IsHeldBefore next (brought_by move) → KeepsHeld next (lrp_move row move now)
KeepsHeld-lrp_move next row move now held brought = grind (arith, common_steps)

-- a row that is found stands at the place that was asked, and is one of the board's
pub place-found : (rows : Rows) (key : Key) (presence : Presence) (old : Actual)
    → find_actual rows key presence ≡ Some old → place_of old ≡ (key, presence)
place-found rows key presence old known = key-find_row place_order place_of IsKeyOrder-place_order
    (key, presence) old rows.actual known

pub found-there : (rows : Rows) (key : Key) (presence : Presence) (old : Actual)
    → find_actual rows key presence ≡ Some old
    → find_row place_order place_of (place_of old) rows.actual ≡ Some old
found-there rows key presence old known =
    ap (λ (p : Key × Presence). find_row place_order place_of p rows.actual)
    (place-found rows key presence old known) ∙ known

pub actual-found : (rows : Rows) (key : Key) (presence : Presence) (old : Actual) → IsValid rows
    → find_actual rows key presence ≡ Some old
    → IsActualRow rows.next old
actual-found rows key presence old valid known =
    each-find_row place_order place_of (IsActualRow rows.next) (key, presence) old rows.actual valid.actual.each known

-- an ORDINARY row is suited in any state
pub suits-ordinary : (row : Actual) → row.presence ≡ Ordinary → SuitsPresence row.presence row
suits-ordinary row is = subst (λ p. SuitsPresence p row) (sym is) tt

-- other actual rows, and one transition more
pub with_actual : (rows : Rows) (actual : List Actual) → IsValid rows → rows.next < most_transitions
    → AreActual rows.next actual
    → IsValid (advanced (record rows { actual = actual }))
with_actual rows actual valid room h = record {
  desired = valid.desired;
  actual = AreActual-longer rows.next actual h;
  tasks = AreTasks-longer rows.next rows.tasks valid.tasks;
  cells = AreCells-longer rows.next rows.cells valid.cells;
  domains = valid.domains;
  next = omega arith;
}

-- a row that comes in the place of one that is known
pub AreActual-put_known : (next : ℕ) (new old : Actual) (actual : List Actual) → AreActual next actual
    → IsActualRow next new
    → find_row place_order place_of (place_of new) actual ≡ Some old
    → AreActual next (put_row place_order place_of new actual)
AreActual-put_known next new old actual h fits known = AreActual-put next new actual h fits (λ none. cc)

-- what a move's end comes to
pub IsValid-moved_to : (rows : Rows) (old : Actual) (end : MoveEnd) → IsValid rows → rows.next < most_transitions
    → find_row place_order place_of (place_of old) rows.actual ≡ Some old → old.presence ≡ Ordinary
    → KeepsPlace old end → KeepsHeld rows.next end → IsValid (changed_by rows (moved_to old end))
IsValid-moved_to rows old (end.Changed new) valid room known ordinary place held =
    let known_new : find_row place_order place_of (place_of new) rows.actual ≡ Some old =
    ap (λ (p : Key × Presence). find_row place_order place_of p rows.actual) place ∙ known in
    let ordinary_new : new.presence ≡ Ordinary = ap (λ (p : Key × Presence). p.1) place ∙ ordinary in
    with_actual rows (put_row place_order place_of new rows.actual) valid room
    (AreActual-put_known rows.next new old rows.actual valid.actual
    (record { held = held; suits = suits-ordinary new ordinary_new }) known_new)
IsValid-moved_to rows old end.Gone valid room known ordinary place held =
    with_actual rows (without_row place_order place_of (place_of old) rows.actual) valid room
    (AreActual-without rows.next (place_of old) rows.actual valid.actual)
IsValid-moved_to rows old end.Same valid room known ordinary place held = valid
IsValid-moved_to rows old (end.Refused why) valid room known ordinary place held = valid
