-- What a caller did, by the tables that asked for it.
use Rattle.std.specs.Prelude.{◌≡◌, ◌⊎◌, ℕ, List, [], Result, IfOk}
use Rattle.std.specs.List.{Contains}
use Rattle.cell_records.specs.declared.answer.Answer.{Answer}
use Rattle.cell_records.specs.declared.cell_row.CellRow.{CellRow}
use Rattle.cell_rep.specs.declared.rep.CellRep.{CellRep}
use Rattle.convergence.specs.Plans.{plan_of_answers}
use Rattle.crash_backoff.specs.declared.moment.Moment.{Moment}
use Rattle.bbs_model.specs.Calls.{by_of}
use Rattle.bbs_model.specs.PortView.{PortView, rows_seen, IsLater}
use Rattle.bbs_model.specs.Replay.{command_in}
use Rattle.bbs_model.specs.Work.{work}
use Rattle.bbs_model.specs.declared.command.Command.{Command}
use Rattle.bbs_model.specs.declared.item.Item.{Item}
use Rattle.bbs_model.specs.declared.reply.CallFault.{CallFault}
use Rattle.bbs_model.specs.declared.rows.Rows.{Rows}
use Rattle.converge_round.specs.Askings.{present, IsHeardFrom}
use Rattle.converge_round.specs.Each.{Each}
use Rattle.converge_round.specs.Phases.{AreStopped}
use Rattle.converge_round.specs.Places.{OpensOne, placements, jobs_on, unplaced, fails_of}
use Rattle.converge_round.specs.Reps.{KeepReps}
use Rattle.converge_round.specs.Sendings.{WireAt}
use Rattle.converge_round.specs.Starts.{IsClaimOfOne}
use Rattle.converge_round.specs.Stops.{stops_at}
use Rattle.converge_round.specs.declared.opening.Opening.{Opening}
use Rattle.converge_round.specs.declared.stopping.Stops.{Stops}

-- an item's command is asked by rows that were seen in between, before the item was done
pub record IsAskedBetween (by : ℕ) (Table : Rows → Command → Type 0) (v w : PortView) (i : Item) : Type 0 where
  pub read : PortView
  pub before : IsLater v read
  pub after : IsLater read w
  pub by_is : by_of i ≡ by
  pub asked : Table (rows_seen read) (command_in i)
  pub behind : Contains after.seen.0 i

-- each item that a caller did in between is asked so
pub record AreAsked (by : ℕ) (Table : Rows → Command → Type 0) (v w : PortView) : Type 0 where
  pub later : IsLater v w
  pub each : (i : Item) → Contains later.mine.0 i → IsAskedBetween by Table v w i

-- one of the jobs that go to one of these cells is claimed there
abbrev pub IsClaimIn : Rows → List Answer → Moment → Command → Type 0
IsClaimIn rows roomy now c =
    (x : Answer) × Contains roomy x × IsClaimOfOne now x.cell (jobs_on rows (placements rows roomy) x.cell) c

-- what the rows ask for, or what the answers ask for, or a claim, or a note that there is no room
abbrev pub IsOfTable : List Answer → List Answer → Moment → Rows → Command → Type 0
IsOfTable got roomy now rows c =
    Contains (work rows now) c ⊎ (Contains (plan_of_answers rows got now) c
    ⊎ (IsClaimIn rows roomy now c ⊎ Contains (fails_of rows now (unplaced (placements rows roomy))) c))

-- that holds of rows that were seen in between
pub record WasSeen (Of : Rows → Type 0) (v w : PortView) : Type 0 where
  pub read : PortView
  pub before : IsLater v read
  pub after : IsLater read w
  pub holds : Of (rows_seen read)

-- each answer is that of the rep of a cell that is present by these rows, under the epoch of its row
abbrev pub AreHeard : List CellRep → Moment → List Answer → Rows → Type 0
AreHeard reps now got rows =
    (a : Answer) → Contains got a → (c : CellRow) × Contains (present rows now) c × IsHeardFrom reps c.cell c.epoch a

-- strays that the answers tell by some rows were stopped, and then, by these rows, the cells that answered and aren't
-- being emptied have so much left
pub record AreLeft (reps : List CellRep) (got roomy : List Answer) (stray_rows rows : Rows) : Type 0 where
  pub left : List CellRep
  pub kept : KeepReps reps left
  pub first_wire : WireAt
  pub last_wire : WireAt
  pub stops : Stops
  pub stopped : AreStopped stray_rows got (stops_at first_wire reps) (stops_at last_wire left) stops
  pub opens : Each (OpensOne rows left) got [] roomy

-- the same by rows that were seen in between
abbrev pub WereLeft : List CellRep → List Answer → List Answer → PortView → PortView → Type 0
WereLeft reps got roomy v w = WasSeen (λ stray_rows. WasSeen (AreLeft reps got roomy stray_rows) v w) v w

-- each item up to the claims is asked by rows, or by rows and these answers, which the reps gave
pub record AreFirstItems (by : ℕ) (now : Moment) (reps : List CellRep) (got : List Answer) (v w : PortView) : Type 0 where
  pub heard : WasSeen (AreHeard reps now got) v w
  pub asked : AreAsked by (λ rows c. Contains (work rows now) c ⊎ Contains (plan_of_answers rows got now) c) v w

-- so it is by some answers, and the opening, if there is one, has what these cells have left
pub record HasFirstItems (by : ℕ) (now : Moment) (reps : List CellRep) (v w : PortView)
    (opening : Result Opening CallFault) : Type 0 where
  pub got : List Answer
  pub items : AreFirstItems by now reps got v w
  pub left : IfOk opening (λ o. WereLeft reps got o.places.roomy v w)

-- each item that a round did in between is asked by one of the tables, by the same answers and roomy cells: the answers
-- are those that these reps gave, and the roomy cells, if there are any, are of those that answered
pub record HasItems (by : ℕ) (now : Moment) (reps : List CellRep) (v w : PortView) : Type 0 where
  pub got : List Answer
  pub roomy : List Answer
  pub heard : WasSeen (AreHeard reps now got) v w
  pub left : (roomy ≡ []) ⊎ WereLeft reps got roomy v w
  pub asked : AreAsked by (IsOfTable got roomy now) v w
