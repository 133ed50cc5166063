-- The lines that answer a pair's clients, and the last line: each the compact text of one object, and a newline.
use Rattle.std.specs.Prelude.{ℕ, List, codes}
use Rattle.serde_json.specs.Data.{Data, object, member, no_members}
use Rattle.line_writing.specs.Line.{line_text}
use Rattle.line_writing.specs.Spelled.{whole}
use Rattle.bbs_model.specs.declared.command.Op.{Op}
use Rattle.bbs_model.specs.declared.reply.CallFault.TheVariants as fault
use Rattle.cell_rep.specs.declared.call_end.CallEnd.TheVariants as board
use Rattle.record_print.specs.Printed.{answer_data, answer_members}
use Rattle.record_print.specs.declared.asked.Asked.TheVariants.{Command}
use Rattle.standby_board.specs.declared.answers.PairFault.{PairFault}
use Rattle.standby_board.specs.declared.answers.PairFault.TheVariants as pair_fault
use Rattle.standby_board.specs.declared.answers.PairReply.TheVariants as pair_reply
use Rattle.pair_lines.specs.declared.answer.PairWord.{PairWord}
use Rattle.pair_lines.specs.declared.answer.PairWord.TheVariants as word
use Rattle.pair_lines.specs.declared.answer.Told.{Told}
use Rattle.pair_lines.specs.declared.answer.Told.TheVariants.{Board, Pair}
use Rattle.pair_lines.specs.declared.answered.PairAnswered.{PairAnswered}
use Rattle.pair_lines.specs.declared.answered.PairEnded.{PairEnded}
use Rattle.pair_lines.specs.declared.answered.PairEnded.TheVariants.{Got, Fault, CallLost, ReplyLost}
use Rattle.pair_lines.specs.declared.summary.PairSummary.{PairSummary}

-- how a fault is told
abbrev pub told_of_fault : PairFault → Told
told_of_fault (pair_fault.Disk place) = Board (board.Fault (fault.Disk place))
told_of_fault (pair_fault.StandbyDisk place) = Pair word.Standby
told_of_fault (pair_fault.Behind place) = Pair word.Behind
told_of_fault pair_fault.OutOfMemory = Pair word.OutOfMemory

-- how an end is told: as a board's caller is told it, or in the word for what only a pair answers; of a lost reply nothing
-- more is told than that
abbrev pub told_of : PairEnded → Told
told_of (Got (pair_reply.Reply reply)) = Board (board.Got reply)
told_of (Got (pair_reply.StaleFence greatest)) = Pair word.StaleFence
told_of (Fault fault) = told_of_fault fault
told_of CallLost = Board board.CallLost
told_of (ReplyLost end) = Pair word.LostReply

-- a pair's word
abbrev pub word_of : PairWord → List ℕ
word_of word.StaleFence = codes "stale fence"
word_of word.Standby = codes "standby"
word_of word.Behind = codes "behind"
word_of word.OutOfMemory = codes "out of memory"
word_of word.LostReply = codes "lost reply"

-- the answer that is one word
abbrev pub word_line : List ℕ → ℕ → Op → List ℕ → List ℕ
word_line client line op word = line_text (answer_members client word line (Command op) no_members)

-- the line of an answer that is told so
abbrev pub line_told : List ℕ → ℕ → Op → Told → List ℕ
line_told client line op (Board end) = line_text (answer_data client line (Command op) end)
line_told client line op (Pair word) = word_line client line op (word_of word)

-- the line of an answer to a client of this name
abbrev pub answer_line : List ℕ → PairAnswered → List ℕ
answer_line client a = line_told client a.line a.command.op (told_of a.end)

-- the counts of a run
abbrev pub summary_data : PairSummary → Data
summary_data s =
    object
    (member (codes "acknowledged") (whole s.acknowledged)
    (member (codes "doubts") (whole s.doubts)
    (member (codes "next") (whole s.next)
    (member (codes "phases") (whole s.phases)
    (member (codes "takeover") (whole s.takeover) no_members)))))

-- the last line
abbrev pub summary_line : PairSummary → List ℕ
summary_line s = line_text (summary_data s)
