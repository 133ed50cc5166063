-- Why a command was refused, in words.
use Rattle.std.specs.Prelude.{ℕ, List, ◌++◌, codes}
use Rattle.std.specs.Fmt.{decimal}
use Rattle.diego_names.specs.declared.instance.Instance.{Instance}
use Rattle.diego_names.specs.declared.state_name.StateName.{StateName}
use Rattle.lrp_records.specs.declared.refusal.LrpRefusal.{LrpRefusal}
use Rattle.lrp_records.specs.declared.refusal.LrpRefusal.TheVariants as lrp
use Rattle.task_records.specs.declared.refusal.TaskRefusal.{TaskRefusal}
use Rattle.task_records.specs.declared.refusal.TaskRefusal.TheVariants as task
use Rattle.bbs_model.specs.declared.verdict.BoardRefusal.{BoardRefusal}
use Rattle.bbs_model.specs.declared.verdict.BoardRefusal.TheVariants as board
use Rattle.container_store.specs.declared.refusal.StoreRefusal.{StoreRefusal}
use Rattle.container_store.specs.declared.refusal.StoreRefusal.TheVariants as store
use Rattle.cell_rep.specs.declared.call_end.RepRefusal.{RepRefusal}
use Rattle.cell_rep.specs.declared.call_end.RepRefusal.TheVariants.{Down, Store}
use Rattle.record_print.specs.Words.{state_word}
use Rattle.line_writing.specs.Spelled.{instance_text}

-- that container has the row
abbrev pub held_text : Instance → List ℕ
held_text by = codes "held " ++ instance_text by

-- that container has the row, and not the one that was named
abbrev pub wrong_instance_text : Instance → List ℕ
wrong_instance_text have = codes "wrong instance " ++ instance_text have

-- it may be done from that second on
abbrev pub not_due_text : ℕ → List ℕ
not_due_text at = codes "not due " ++ decimal at

-- nothing of the kind leads from that state
abbrev pub wrong_state_text : StateName → List ℕ
wrong_state_text state = codes "wrong state " ++ state_word state

-- why the row of an instance refuses a move
abbrev pub lrp_why_text : LrpRefusal → List ℕ
lrp_why_text (lrp.Held by) = held_text by
lrp_why_text lrp.NotRunning = codes "not running"
lrp_why_text (lrp.WrongInstance have) = wrong_instance_text have
lrp_why_text (lrp.NotDue at) = not_due_text at
lrp_why_text lrp.GivenUp = codes "given up"
lrp_why_text (lrp.WrongState state) = wrong_state_text state

-- why the row of a task refuses a move
abbrev pub task_why_text : TaskRefusal → List ℕ
task_why_text (task.WrongState state) = wrong_state_text state
task_why_text (task.WrongInstance have) = wrong_instance_text have
task_why_text (task.NotDue at) = not_due_text at

-- why a command was refused
abbrev pub why_text : BoardRefusal → List ℕ
why_text board.Exists = codes "exists"
why_text board.Unknown = codes "unknown"
why_text board.NotWanted = codes "not wanted"
why_text (board.TooMany limit) = codes "too many " ++ decimal limit
why_text board.UnknownCell = codes "unknown cell"
why_text (board.StaleEpoch epoch) = codes "stale epoch " ++ decimal epoch
why_text board.BoardFull = codes "board full"
why_text (board.LeaseHolds until) = codes "lease holds " ++ decimal until
why_text (board.Lrp why) = lrp_why_text why
why_text (board.Task why) = task_why_text why

-- why the store of a cell refuses; no act of a cell meets the last of these
abbrev pub store_why_text : StoreRefusal → List ℕ
store_why_text store.NoMemoryLeft = codes "no memory left"
store_why_text store.NoDiskLeft = codes "no disk left"
store_why_text store.NoSlot = codes "no slot"
store_why_text store.Unknown = codes "no container"
store_why_text store.WrongState = codes "wrong state"

-- why a rep makes no call
abbrev pub rep_why_text : RepRefusal → List ℕ
rep_why_text Down = codes "down"
rep_why_text (Store why) = store_why_text why
