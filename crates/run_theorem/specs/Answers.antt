-- What the answer to a call says of the log: of the log as it was then, and of each longer one.
use Rattle.std.specs.Prelude.{◌≡◌, ℕ, ◌+◌, ◌≤◌, List, [], ◌∷◌, length, Option, Some, None, Result, Ok, Err}
use Rattle.std.specs.List.{slice_get}
use Rattle.bbs_model.specs.Calls.{added}
use Rattle.bbs_model.specs.Replay.{rows_at}
use Rattle.bbs_model.specs.Step.{IsLegal, verdict_of}
use Rattle.bbs_model.specs.declared.command.Command.{Command}
use Rattle.bbs_model.specs.declared.item.Item.{Item}
use Rattle.bbs_model.specs.declared.item.Item.TheVariants.{Done, Doubt}
use Rattle.bbs_model.specs.declared.reply.CallFault.{CallFault}
use Rattle.bbs_model.specs.declared.reply.CallFault.TheVariants as fault
use Rattle.bbs_model.specs.declared.reply.Reply.{Reply}
use Rattle.bbs_model.specs.declared.reply.Reply.TheVariants as reply
use Rattle.bbs_model.specs.declared.rows.Rows.{Rows}
use Rattle.bbs_model.specs.declared.verdict.Verdict.{Verdict}
use Rattle.bbs_model.specs.declared.verdict.Verdict.TheVariants as verdict
use Rattle.cell_rep.specs.declared.call_end.CallEnd.{CallEnd}
use Rattle.cell_rep.specs.declared.call_end.CallEnd.TheVariants.{Got, Fault, CallLost, ReplyLost, Local, Idle}
use Rattle.scenario_lines.specs.declared.answered.Answered.{Answered}

-- the board's answer to a call, whether it was heard or lost; a call that was lost has none
abbrev pub board_answer : CallEnd → Option (Result Reply CallFault)
board_answer (Got r) = Some (Ok r)
board_answer (Fault why) = Some (Err why)
board_answer CallLost = None
board_answer (ReplyLost answer) = Some answer
board_answer (Local why) = None
board_answer Idle = None

-- the step of a command comes to that at this place of the log, which is in it or at its end
pub record ComesTo (base : Rows) (log : List Item) (place : ℕ) (c : Command) (v : Verdict) : Type 0 where
  pub within : place ≤ length log
  pub verdict_is : verdict_of (rows_at base log place) c ≡ v

-- what an answer to a caller's command says: Ok, that its item stands there, that it was legal there, and how many
-- transitions were made before it; Same and a refusal, that the step says so there; a fault of the disk, that it is in
-- doubt there and was legal; want of memory, that it was legal at some place
abbrev pub AnswerTells : Rows → List Item → ℕ → Command → Result Reply CallFault → Type 0
AnswerTells base log by c (Ok (reply.Ok place stamp)) =
    (slice_get log place ≡ Some (Done by c)) × ComesTo base log place c verdict.Ok
    × (stamp ≡ (rows_at base log place).next)
AnswerTells base log by c (Ok (reply.Same place)) = ComesTo base log place c verdict.Same
AnswerTells base log by c (Ok (reply.Refused why place)) = ComesTo base log place c (verdict.Refused why)
AnswerTells base log by c (Err (fault.Disk place)) =
    (slice_get log place ≡ Some (Doubt by c)) × ComesTo base log place c verdict.Ok
AnswerTells base log by c (Err fault.OutOfMemory) = (place : ℕ) × ComesTo base log place c verdict.Ok

-- so it is with the answer to a call, if the board gave one; it gives none where there was no call
abbrev pub TellsIf : Rows → List Item → ℕ → Option Command → Option (Result Reply CallFault) → Type 0
TellsIf base log by command None = Unit {0}
TellsIf base log by None (Some answer) = ⊥
TellsIf base log by (Some c) (Some answer) = AnswerTells base log by c answer

-- an answer of a scenario is true of a log: one that was lost too
abbrev pub IsTrueOf : Rows → List Item → Answered → Type 0
IsTrueOf base log a = TellsIf base log a.actor a.command (board_answer a.end)

-- a legal command was stored, or the disk failed and it is in doubt, or memory ran out; it was not refused
abbrev pub IsServed : List Item → ℕ → Command → Result Reply CallFault → Type 0
IsServed log by c (Ok (reply.Ok place stamp)) = slice_get log place ≡ Some (Done by c)
IsServed log by c (Ok (reply.Same place)) = ⊥
IsServed log by c (Ok (reply.Refused why place)) = ⊥
IsServed log by c (Err (fault.Disk place)) = slice_get log place ≡ Some (Doubt by c)
IsServed log by c (Err fault.OutOfMemory) = Unit {0}

-- the place that the board's answer names; without one, a given place
abbrev pub place_named : ℕ → Option (Result Reply CallFault) → ℕ
place_named from None = from
place_named from (Some (Ok (reply.Ok place stamp))) = place
place_named from (Some (Ok (reply.Same place))) = place
place_named from (Some (Ok (reply.Refused why place))) = place
place_named from (Some (Err (fault.Disk place))) = place
place_named from (Some (Err fault.OutOfMemory)) = from

-- a command that is legal at the place of its answer was served
abbrev pub IsServedIf : Rows → List Item → ℕ → Option Command → Option (Result Reply CallFault) → Type 0
IsServedIf base log by command None = Unit {0}
IsServedIf base log by None (Some answer) = ⊥
IsServedIf base log by (Some c) (Some answer) =
    IsLegal (rows_at base log (place_named 0 (Some answer))) c → IsServed log by c answer

-- so it is with the command of an answer
abbrev pub IsServedWhereLegal : Rows → List Item → Answered → Type 0
IsServedWhereLegal base log a = IsServedIf base log a.actor a.command (board_answer a.end)

-- the items that a call made, by its end: one where the answer was Ok or a fault of the disk, heard or lost
abbrev pub items_if : ℕ → Option Command → Option (Result Reply CallFault) → List Item
items_if by None answer = []
items_if by (Some c) None = []
items_if by (Some c) (Some answer) = added answer by c

-- the items of an answer
abbrev pub answer_items : Answered → List Item
answer_items a = items_if a.actor a.command (board_answer a.end)

-- the places of these answers lie between two places, one after another, and each behind the items of those before it
abbrev pub LieBetween : ℕ → ℕ → List Answered → Type 0
LieBetween from upto [] = from ≤ upto
LieBetween from upto (a ∷ as') =
    (from ≤ place_named from (board_answer a.end))
    × LieBetween (place_named from (board_answer a.end) + length (answer_items a)) upto as'
