-- When the phases of a run ended, on the disk's clock: which of the log's items were done by then.
use Rattle.std.specs.Prelude.{◌≡◌, ℕ, ◌≤◌, List, [], ◌∷◌, take, drop, All, Option}
use Rattle.std.specs.Option.{ForSome}
use Rattle.disk_trait.specs.Held.{Leaves}
use Rattle.disk_trait.specs.Past.{Past, Image}
use Rattle.disk_trait.specs.declared.area.Area.{Area}
use Rattle.bbs_board.specs.Doubts.{doubts_in}
use Rattle.bbs_board.specs.Opening.{IsBoard}
use Rattle.bbs_model.specs.Replay.{rows_at}
use Rattle.bbs_model.specs.declared.item.Item.{Item}
use Rattle.bbs_model.specs.declared.rows.Rows.{Rows}
use Rattle.board_port.specs.Going.{LeavesBoard}
use Rattle.convergence.specs.declared.report.Report.{Report}
use Rattle.converge_round.specs.Each.{Each}
use Rattle.program_ends.specs.declared.ending.Ending.{Ending}
use Rattle.scenario_lines.specs.declared.answered.Answered.{Answered}
use Rattle.scenario_lines.specs.declared.script.Phase.{Phase}
use Rattle.scenario_lines.specs.declared.script.Script.{Script}
use Rattle.run_theorem.specs.Headline.{IsFaithful, outset}
use Rattle.run_theorem.specs.Phases.{PhaseAgrees, Point}

-- a stop at this moment may have left that
abbrev pub ImagesAt : Past → ℕ → Image → Type 0
ImagesAt q moment image = (area : Area) → Leaves (q.held moment area) (image area)

-- at this moment the log had come to this place: no item before it has a later mark, and none behind it an earlier one; and
-- if nothing before it is in doubt, whatever a stop left then is a board with the rows of this very place
pub record CameTo (base : Rows) (log : List Item) (marks : List ℕ) (q : Past) (place moment : ℕ) : Type 0 where
  pub high : moment ≤ q.clock
  pub before : All (λ mark. mark ≤ moment) (take place marks)
  pub behind : All (λ mark. moment ≤ mark) (drop place marks)
  pub leaves : doubts_in (take place log) ≡ 0 → (image : Image) → ImagesAt q moment image → IsBoard (rows_at base log place) image

-- each of these phases, which agree one after another, ended at a moment, not before the one before it did: there the
-- log had come to the end of its stretch
abbrev pub EndInTime : (base : Rows) (log : List Item) (marks : List ℕ) (q : Past) (from : ℕ) (phases : List Phase)
    (s t : Point) → Each (PhaseAgrees base log) phases s t → Type 0
EndInTime base log marks q from [] s t each = from ≤ q.clock
EndInTime base log marks q from (phase ∷ phases) s t each =
    (moment : ℕ) × (from ≤ moment) × CameTo base log marks q each.0.place moment
    × EndInTime base log marks q moment phases each.0 t each.2

-- so it is with the phases of a run that ended
abbrev pub PhasesEndInTime : {script : Script} {how : Ending} {answers : List Answered} {reports : List Report} {base : Rows}
    {log : List Item} → List ℕ → Past → ℕ → IsFaithful script how answers reports base log → Type 0
PhasesEndInTime {script = script} {base = base} {log = log} marks q from run =
    EndInTime base log marks q from run.order.ended (outset script) run.order.last run.order.each

-- a run is faithful; and where the disk tells its past before it and after it, and a stop before it could leave nothing
-- but the board, its phases ended one after another
pub record IsTimely (script : Script) (how : Ending) (answers : List Answered) (reports : List Report) (base : Rows)
    (log : List Item) (marks : List ℕ) (told told' : Option Past) : Type 0 where
  pub faithful : IsFaithful script how answers reports base log
  pub ends : ForSome told (λ p. ForSome told' (λ q. LeavesBoard base p → PhasesEndInTime marks q p.clock faithful))
