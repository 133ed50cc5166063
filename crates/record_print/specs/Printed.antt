-- The lines that are printed: each the compact text of one JSON object with its members in byte order, and a newline.
use Rattle.std.specs.Prelude.{ℕ, List, codes}
use Rattle.serde_json.specs.Data.{Data, string, object, member, no_members, Members}
pub use Rattle.line_writing.specs.Line.{line_text}
use Rattle.line_writing.specs.Spelled.{whole}
use Rattle.bbs_model.specs.declared.event.Event.{Event}
use Rattle.bbs_model.specs.declared.event.Row.{Row}
use Rattle.bbs_model.specs.declared.reply.Reply.TheVariants as reply
use Rattle.cell_rep.specs.declared.call_end.CallEnd.{CallEnd}
use Rattle.cell_rep.specs.declared.call_end.CallEnd.TheVariants.{Got, Local}
use Rattle.record_print.specs.declared.asked.Asked.{Asked}
use Rattle.record_print.specs.declared.check.Check.{Check}
use Rattle.record_print.specs.declared.summary.Summary.{Summary}
use Rattle.record_print.specs.Words.{check_area_word, asked_word, change_word, end_word, table_word}
use Rattle.record_print.specs.Spelled.{asked_subject}
use Rattle.record_print.specs.Causes.{why_text, rep_why_text}
use Rattle.record_print.specs.PrintedRows.{row_data}

-- a row, with its table
abbrev pub record_data : Row → Data
record_data row = object (member (codes "row") (row_data row) (member (codes "table") (string (table_word row)) no_members))

-- an event
abbrev pub event_data : Event → Data
event_data e =
    object
    (member (codes "event") (string (change_word e.change))
    (member (codes "row") (row_data e.row)
    (member (codes "table") (string (table_word e.row)) no_members)))

-- the members of an answer, and what stands behind them
abbrev pub answer_members : List ℕ → List ℕ → ℕ → Asked → Members → Data
answer_members actor word line asked rest =
    object
    (member (codes "actor") (string actor)
    (member (codes "answer") (string word)
    (member (codes "call") (string (asked_word asked))
    (member (codes "line") (whole line)
    (member (codes "subject") (string (asked_subject actor asked)) rest)))))

-- the answer that refuses what was asked, with its cause
abbrev pub refused_data : List ℕ → ℕ → Asked → List ℕ → Data
refused_data actor line asked why = answer_members actor (codes "refused") line asked (member (codes "why") (string why) no_members)

-- the answer to an actor
abbrev pub answer_data : List ℕ → ℕ → Asked → CallEnd → Data
answer_data actor line asked (Got (reply.Refused why place)) = refused_data actor line asked (why_text why)
answer_data actor line asked (Local why) = refused_data actor line asked (rep_why_text why)
answer_data actor line asked end = answer_members actor (end_word end) line asked no_members

-- what a check of a board finds
abbrev pub check_data : Check → Data
check_data c =
    object
    (member (codes "area") (string (check_area_word c.area))
    (member (codes "frames") (whole c.frames)
    (member (codes "generation") (whole c.generation)
    (member (codes "next") (whole c.next) no_members))))

-- the last line of a run
abbrev pub summary_data : Summary → Data
summary_data s =
    object
    (member (codes "done") (whole s.done)
    (member (codes "doubts") (whole s.doubts)
    (member (codes "next") (whole s.next)
    (member (codes "phases") (whole s.phases) no_members))))
