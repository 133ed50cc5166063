use Rattle.std.proofs.Common.{ap}
use Rattle.line_writing.specs.Spelled.{optional_instance_data, optional_name_data, optional_truth_data}
use Rattle.line_writing.proofs.Public.{closed, more, more_as, more_text, opened}
use Rattle.record_print.proofs.rows.task.put_task.Goals as goal

pub returns : goal.returns
returns c =
    closed _ c.end.result
    (more (more_text c.word_of.ensures (more (more_text c.as_str.ensures
    (more (more_as (ap (λ it. optional_instance_data it) c.runner.ensures)
    (more_as (ap (λ it. optional_truth_data it) c.failed_of.ensures)
    (more (more_as (ap (λ it. optional_name_data it) c.cell.ensures)
    (more (opened c.in_ok-begin.ensures) c.in_ok-put_number.ensures) c.in_ok-put_optional_name.ensures)
    c.in_ok-put_number-2.ensures) c.in_ok-put_optional_truth.ensures) c.in_ok-put_optional_instance.ensures)
    c.in_ok-put_number-3.ensures) c.in_ok-put_text.ensures) c.in_ok-put_number-4.ensures)
    c.in_ok-put_text-2.ensures) c.in_ok-put_optional_name-2.ensures)
    c.end.ensures
