use Rattle.std.proofs.Common.{◌∙◌, ◌++◌, ap, Option}
use Rattle.std.specs.Option.{option_map, option_to_list}
use Rattle.bbs_model.specs.Work.{at, place_work}
use Rattle.bbs_model.specs.declared.command.Command.{Command}
use Rattle.convergence.proofs.Lists.{asked_more}
use Rattle.convergence.proofs.working.ask_places.Goals as goal

pub loop-place-preserved : goal.loop-place-preserved
loop-place-preserved c =
    c.in_ok-add.ensures
    ∙ ap (λ (o : Option Command). c.loop-place.asked ++ option_to_list o)
    (c.command_at.ensures ∙ ap (option_map (at c.args.now)) c.place_work.ensures)
    ∙ asked_more (place_work c.args.rows.now c.args.now) (at c.args.now) c.args.places.now c.loop-place.place-index
    c.place-item.result c.args.asked.now c.loop-place.asked c.loop-place-test.true c.place-item.is
    c.loop-place.invariant
