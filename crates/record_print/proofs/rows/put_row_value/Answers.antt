use Rattle.std.proofs.Common.{sym, subst}
use Rattle.std.specs.Result.{OnOk}
use Rattle.record_print.specs.PrintedRows.{row_data}
use Rattle.line_writing.specs.Writing.{AddsValue}
use Rattle.record_print.proofs.rows.put_row_value.Goals as goal

pub returns-in-Actual : goal.returns-in-Actual
returns-in-Actual c =
    subst (λ row. OnOk c.put_actual.result (AddsValue c.args.line.now c.put_actual.new.line (row_data row)))
    (sym c.in-Actual.is) c.put_actual.ensures

pub returns-in-Task : goal.returns-in-Task
returns-in-Task c =
    subst (λ row. OnOk c.put_task.result (AddsValue c.args.line.now c.put_task.new.line (row_data row)))
    (sym c.in-Task.is) c.put_task.ensures

pub returns-in-Cell : goal.returns-in-Cell
returns-in-Cell c =
    subst (λ row. OnOk c.put_cell.result (AddsValue c.args.line.now c.put_cell.new.line (row_data row)))
    (sym c.in-Cell.is) c.put_cell.ensures

pub returns-in-Domain : goal.returns-in-Domain
returns-in-Domain c =
    subst (λ row. OnOk c.put_domain.result (AddsValue c.args.line.now c.put_domain.new.line (row_data row)))
    (sym c.in-Domain.is) c.put_domain.ensures
