-- Faults that are found beside what is read.
use Rattle.std.proofs.Common.{◌≡◌, List, Option, Some, None, Result, Ok, Err, refl}
use Rattle.dump_lines.specs.Cells.{as_sound, state_with, whole}
use Rattle.dump_lines.specs.Faults.{◌>>=◌, unless, with_fault}
use Rattle.dump_lines.specs.declared.cell.CellHead.{CellHead}
use Rattle.dump_lines.specs.declared.cell_state.InstanceOnCell.{InstanceOnCell}
use Rattle.dump_lines.specs.declared.cell_state.TaskOnCell.{TaskOnCell}
use Rattle.dump_lines.specs.declared.fault.LineFault.{LineFault}

-- the state of a cell, where the faults of its lists are known
pub state_with_faults : (head : Result CellHead LineFault) (a b : Option LineFault) (instances : List InstanceOnCell)
    (tasks : List TaskOnCell) → state_with head (unless a instances) (unless b tasks)
    ≡ (with_fault (with_fault head a) b >>= λ h. as_sound (whole h instances tasks))
unfolding state_with
state_with_faults (Ok head) None None instances tasks = refl
state_with_faults (Ok head) None (Some g) instances tasks = refl
state_with_faults (Ok head) (Some f) None instances tasks = refl
state_with_faults (Ok head) (Some f) (Some g) instances tasks = refl
state_with_faults (Err e) None None instances tasks = refl
state_with_faults (Err e) None (Some g) instances tasks = refl
state_with_faults (Err e) (Some f) None instances tasks = refl
state_with_faults (Err e) (Some f) (Some g) instances tasks = refl
