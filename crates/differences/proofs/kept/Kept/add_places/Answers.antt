use Rattle.std.proofs.Common.{◌≡◌, Option, ◌++◌, ap, ◌∙◌, arith}
use Rattle.std.specs.Option.{option_map, option_to_list}
use Rattle.bbs_model.specs.Work.{at}
use Rattle.bbs_model.specs.declared.command.Command.{Command}
use Rattle.bbs_model.specs.declared.rows.Rows.{Rows}
use Rattle.convergence.proofs.Public.{asked_more}
use Rattle.differences.specs.Commands.{command_at_place}
use Rattle.differences.specs.Noted.{noted_of}
use Rattle.differences.proofs.kept.Kept.add_places.Goals as goal

pub loop-place-preserved : goal.loop-place-preserved
loop-place-preserved g c =
    let first = g.C.CountedRows.rows c.args.rows.now in
    let d = noted_of c.args.self.now in
    let place = c.place-item.result in
    let asked : c.op_at-asked.result ≡ command_at_place d first c.args.now place =
    c.op_at-asked.ensures.command
    ∙ ap (λ (r : Rows). command_at_place d r c.args.now place) c.loop-place.invariant.rows in
    record {
      list = c.in_ok-add.ensures
          ∙ ap (λ (o : Option Command). c.loop-place.list ++ option_to_list o)
          (c.command_at.ensures ∙ ap (option_map (at c.args.now)) asked)
          ∙ asked_more (command_at_place d first c.args.now) (at c.args.now) c.args.places.now
          c.loop-place.place-index place c.args.list.now c.loop-place.list c.loop-place-test.true c.place-item.is
          c.loop-place.invariant.list;
      keeps = g.met.C.CountedRows.goes_on c.args.rows.now c.loop-place.rows c.op_at-asked.new.rows
          c.loop-place.invariant.keeps c.op_at-asked.ensures.keeps;
      rows = c.op_at-asked.ensures.rows ∙ c.loop-place.invariant.rows;
      steps = omega (arith, c.op_at-asked.ensures.step, c.loop-place.invariant.steps);
    }
