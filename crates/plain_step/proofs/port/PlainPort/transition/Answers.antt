use Rattle.std.proofs.Common.{◌∙◌, ap, List, [], ◌∷◌, ◌++◌, Option, Some}
use Rattle.bbs_model.specs.declared.event.Events.{Events}
use Rattle.bbs_model.specs.declared.item.Item.{Item}
use Rattle.bbs_model.specs.declared.item.Item.TheVariants.{Done}
use Rattle.plain_step.proofs.Plains.{plain_more}
use Rattle.plain_step.proofs.port.PlainPort.transition.Goals as goal

pub invariant_of-self-in-Ok : goal.invariant_of-self-in-Ok
invariant_of-self-in-Ok c =
    let p = c.self.inside in
    plain_more p.base p.rows c.apply.new.rows p.log.items c.push_reserved.new.self.items p.told.items
    c.push_reserved-in-Ok.new.self.items
    p.number c.args.command.now c.in-Ok.events c.self.invariant c.in-Ok.ensures.ok c.apply.ensures.valid
    c.in-Ok.ensures.events
    (c.push_reserved.ensures.items ∙ ap (λ (xs : List Item). xs ++ Done p.number c.args.command.now ∷ [])
    c.reserve.ensures.items)
    (c.push_reserved-in-Ok.ensures.items ∙ ap (λ (xs : List (Option Events)). xs ++ Some c.in-Ok.events ∷ [])
    c.reserve-else-is_err.ensures.items)
