use Rattle.std.proofs.Common.{◌≡◌, Option, ◌++◌, ap, ◌∙◌, arith}
use Rattle.std.specs.Option.{option_map, option_to_list}
use Rattle.bbs_model.specs.Work.{at}
use Rattle.bbs_model.specs.declared.command.Command.{Command}
use Rattle.bbs_model.specs.declared.rows.Rows.{Rows}
use Rattle.convergence.proofs.Public.{asked_more}
use Rattle.differences.specs.Commands.{command_of_task, task_command}
use Rattle.differences.proofs.commands.add_tasks.Goals as goal

pub loop-name-preserved : goal.loop-name-preserved
loop-name-preserved g c =
    let first = g.C.CountedRows.rows c.args.rows.now in
    let name = c.name-item.result in
    let asked : c.task_command.result ≡ command_of_task first name =
    c.task_command.ensures ∙ ap (task_command name) c.task-row.ensures.row
    ∙ ap (λ (r : Rows). command_of_task r name) c.loop-name.invariant.rows in
    record {
      list = c.in_ok-add.ensures
          ∙ ap (λ (o : Option Command). c.loop-name.list ++ option_to_list o)
          (c.command_at.ensures ∙ ap (option_map (at c.args.now)) asked)
          ∙ asked_more (command_of_task first) (at c.args.now) c.args.names.now c.loop-name.name-index name
          c.args.list.now c.loop-name.list c.loop-name-test.true c.name-item.is c.loop-name.invariant.list;
      keeps = g.met.C.CountedRows.goes_on c.args.rows.now c.loop-name.rows c.task-row.new.self
          c.loop-name.invariant.keeps
          c.task-row.ensures.keeps;
      rows = c.task-row.ensures.same ∙ c.loop-name.invariant.rows;
      steps = omega (arith, c.task-row.ensures.step, c.loop-name.invariant.steps);
    }
