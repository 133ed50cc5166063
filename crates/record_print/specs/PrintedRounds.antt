-- The lines that tell of a round.
use Rattle.std.specs.Prelude.{ℕ, Bool, ◌&&◌, ◌==◌, List, map, length, codes}
use Rattle.serde_json.specs.Data.{Data, boolean, string, array, object, member, no_members}
use Rattle.serde_json.specs.View.{items_of}
use Rattle.cell_records.specs.declared.job_name.JobName.{JobName}
use Rattle.convergence.specs.declared.report.Report.{Report}
use Rattle.line_writing.specs.Spelled.{whole}
use Rattle.record_print.specs.Spelled.{job_text}

-- nothing was lost or refused, each job has its place, and nobody else did anything in the meantime
abbrev pub is_complete : Report → Bool
is_complete r = (r.lost == 0) && ((length r.refused == 0) && ((length r.unplaced == 0) && (r.foreign == 0)))

-- the subjects of some jobs, in their order
abbrev pub subjects_data : List JobName → Data
subjects_data jobs = array (items_of (map (λ job. string (job_text job)) jobs))

-- what a round reports
abbrev pub report_data : Report → Data
report_data r =
    object
    (member (codes "asked") (whole r.asked)
    (member (codes "complete") (boolean (is_complete r))
    (member (codes "foreign") (whole r.foreign)
    (member (codes "line") (whole r.line)
    (member (codes "lost") (whole r.lost)
    (member (codes "op") (string (codes "round"))
    (member (codes "own") (whole r.own)
    (member (codes "refused") (whole (length r.refused))
    (member (codes "stopped") (whole (length r.stopped))
    (member (codes "unplaced") (subjects_data r.unplaced) no_members))))))))))

-- a round that a fault of the disk ended
abbrev pub failed_round_data : ℕ → Data
failed_round_data line =
    object
    (member (codes "answer") (string (codes "disk"))
    (member (codes "line") (whole line)
    (member (codes "op") (string (codes "round")) no_members)))
