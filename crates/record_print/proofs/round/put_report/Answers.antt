use Rattle.std.proofs.Common.{ap}
use Rattle.serde_json.specs.Data.{boolean}
use Rattle.record_print.specs.PrintedRounds.{subjects_data}
use Rattle.line_writing.specs.Spelled.{whole}
use Rattle.line_writing.proofs.Public.{closed, more, more_as, opened}
use Rattle.record_print.proofs.round.put_report.Goals as goal

pub returns : goal.returns
returns c =
    closed _ c.end.result
    (more_as (ap (λ it. subjects_data it) c.items.ensures)
    (more_as (ap (λ it. whole it) c.len-2.ensures) (more_as (ap (λ it. whole it) c.len.ensures)
    (more (more (more (more (more (more_as (ap (λ it. boolean it) c.is_complete.ensures)
    (more (opened c.in_ok-begin.ensures) c.in_ok-put_number.ensures) c.in_ok-put_truth.ensures)
    c.in_ok-put_number-2.ensures) c.in_ok-put_number-3.ensures) c.in_ok-put_number-4.ensures)
    c.in_ok-put_text.ensures) c.in_ok-put_number-5.ensures) c.in_ok-put_number-6.ensures)
    c.in_ok-put_number-7.ensures) c.in_ok-put_unplaced.ensures)
    c.end.ensures
