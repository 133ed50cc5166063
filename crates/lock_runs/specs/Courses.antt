-- What lines of lock commands come to, one after another: what each adds to the locket's log, and its answer's text.
use Rattle.std.specs.Prelude.{ℕ, Bool, true, false, List, [], ◌∷◌, ◌++◌, length, Option, Some, None, Ok}
use Rattle.std.specs.List.{fold}
use Rattle.payload_log.specs.Entries.{done_in, doubts_in}
use Rattle.payload_log.specs.declared.entry.Entry.{Entry}
use Rattle.payload_log.specs.declared.entry.Entry.TheVariants.{Done, Doubt}
use Rattle.locket.specs.Calls.{lock_added}
use Rattle.locket.specs.Lives.{LockLog, lived, state_of}
use Rattle.locket.specs.Steps.{lock_step}
use Rattle.locket.specs.declared.command.LockCommand.{LockCommand}
use Rattle.locket.specs.declared.reply.LockReply.{LockReply}
use Rattle.locket.specs.declared.verdict.LockVerdict.{LockVerdict}
use Rattle.locket.specs.declared.verdict.LockVerdict.TheVariants.{Changes, Stays}
use Rattle.lock_lines.specs.Printed.{answer_line, disk_line, summary_line}
use Rattle.lock_lines.specs.declared.lock_line.LockLine.{LockLine}

-- what is answered where a step comes to this verdict, and no disk fails
abbrev pub answer_of : LockVerdict → LockReply
answer_of (Changes next answer) = answer
answer_of (Stays answer) = answer

-- what lines that were answered came to: the items of the locket's log, and the text of the answers
pub record LockCourse : Type 0 where
  pub log : LockLog
  pub text : List ℕ

-- what a command comes to on a locket that had this life and then did this
abbrev pub verdict_behind : List LockCommand → LockLog → LockCommand → LockVerdict
verdict_behind life log command = lock_step (state_of (lived life log)) command

-- one line more was answered: where it changes the state its command is done, and the answer is the lock step's
abbrev pub with_line : List LockCommand → LockCourse → LockLine → LockCourse
with_line life c line =
    let verdict = verdict_behind life c.log line.command in
    record {
      log = c.log ++ lock_added verdict (Ok (answer_of verdict)) line.command;
      text = c.text ++ answer_line line.line (answer_of verdict);
    }

-- these lines were answered behind others, one after another, by a locket that had this life
abbrev pub course_behind : List LockCommand → LockCourse → List LockLine → LockCourse
course_behind life c lines = fold (with_line life) c lines

-- these lines were answered, and none before
abbrev pub lock_course : List LockCommand → List LockLine → LockCourse
lock_course life lines = course_behind life (record { log = []; text = [] }) lines

-- what the line at which the disk failed, if there is one, adds to the log
abbrev pub doubt_at : Option LockLine → LockLog
doubt_at None = []
doubt_at (Some line) = Doubt line.command ∷ []

-- its answer
abbrev pub failed_line : Option LockLine → List ℕ
failed_line None = []
failed_line (Some line) = disk_line line.line

-- the log of lines that were answered, and of one at which the disk failed, if there is one
abbrev pub locks_of_lines : List LockCommand → List LockLine → Option LockLine → LockLog
locks_of_lines life ran failed = (lock_course life ran).log ++ doubt_at failed

-- the text of their answers
abbrev pub answers_of_lines : List LockCommand → List LockLine → Option LockLine → List ℕ
answers_of_lines life ran failed = (lock_course life ran).text ++ failed_line failed

-- an item of a log is done
abbrev pub is_done : Entry LockCommand → Bool
is_done (Done command) = true
is_done (Doubt command) = false

-- what is printed behind the answers: how many items of the log are done and in doubt, and the fence given last
abbrev pub summary_behind : List LockCommand → LockLog → List ℕ
summary_behind life log = summary_line (length (done_in log)) (doubts_in log) (state_of (lived life log)).last

-- the whole text of a script of lock commands
abbrev pub lock_text : List LockCommand → List LockLine → Option LockLine → List ℕ
lock_text life ran failed = answers_of_lines life ran failed ++ summary_behind life (locks_of_lines life ran failed)
