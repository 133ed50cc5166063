-- What cells do for their acts where nobody else calls.
use Rattle.std.specs.Prelude.{◌≡◌, ℕ, false, List, Option, Some}
use Rattle.bbs_model.specs.PortView.{PortView}
use Rattle.cell_rep.specs.Follows.{Acts, Stage}
use Rattle.cell_rep.specs.Wires.{WireEnds}
use Rattle.cell_rep.specs.declared.call_end.Called.{Called}
use Rattle.cell_rep.specs.declared.cell_act.CellAct.{CellAct}
use Rattle.cell_rep.specs.declared.rep.CellRep.{CellRep}
use Rattle.crash_backoff.specs.declared.moment.Moment.{Moment}
use Rattle.evacuation.specs.Evacuation.{Evacuates}
use Rattle.phase_actors.specs.Runs.{is_any_starved}
use Rattle.run_function.specs.Acts.{SoleRep, act_alone, evacuate_alone}
use Rattle.run_function.specs.Boards.{board_seen}
use Rattle.run_function.specs.Quiet.{StaysCalm}

-- the rep, what it has seen of the board, what the wire tells and the answers are those of a rep that is alone
pub record IsAsAlone (x : SoleRep) (rep : CellRep) (v : PortView) (ends : Option WireEnds) (out : List Called) : Type 0 where
  pub rep_is : x.rep ≡ rep
  pub board : x.board ≡ board_seen v
  pub ends_are : ends ≡ Some x.ends
  pub out_is : x.out ≡ out

-- so it is at that stage
abbrev pub AgreesWith : Stage → SoleRep → Type 0
AgreesWith s x = IsAsAlone x s.rep s.view s.ends s.out

-- what leads from one stage to another is what that function does, where no call wants memory
abbrev pub LeadsAs : (Stage → Stage → Type 0) → (SoleRep → SoleRep) → Type 0
LeadsAs Does alone = (s s' : Stage) (x : SoleRep) → Does s s' → AgreesWith s x → StaysCalm s.view s'.view →
    is_any_starved s'.out ≡ false → AgreesWith s' (alone x)

-- so does each act
abbrev pub ActsAreAlone : Type 0
ActsAreAlone = (by : ℕ) (a : CellAct) (now : Moment) → LeadsAs (Acts by a now) (act_alone by a now)

-- and each evacuation
abbrev pub EvacuationsAreAlone : Type 0
EvacuationsAreAlone = (by : ℕ) (now : Moment) → LeadsAs (Evacuates by now) (evacuate_alone by now)
