use Rattle.std.proofs.Common.{◌≡◌, ◌∙◌, ap, length, arith}
use Rattle.bbs_model.specs.Told.{told_in}
use Rattle.bbs_laws.proofs.Public.{length-told_in, heard_of_told}
use Rattle.plain_step.specs.Plain.{PlainBoard}
use Rattle.plain_step.proofs.port.PlainPortPort.events.Goals as goal

pub hear-requires : goal.hear-requires
hear-requires c =
    let told : length c.as_slice.result.now ≡ length c.self.inside.log.items =
    ap length (c.as_slice.ensures.value ∙ c.self.invariant.told_is) ∙ length-told_in c.self.inside.base
    c.self.inside.log.items in
    let seen : length c.self.inside.log.items ≡ length c.args.self.now.log =
    ap (λ (p : PlainBoard). length p.log) c.self.view_is in
    omega (arith, told, seen, c.requires)

pub returns-clause-heard : goal.returns-clause-heard
returns-clause-heard c =
    heard_of_told c.args.self.now.base c.args.self.now.log c.as_slice.result.now c.args.from c.args.max c.hear.result
    (c.as_slice.ensures.value ∙ c.self.invariant.told_is ∙ ap (λ (p : PlainBoard). told_in p.base p.log) c.self.view_is)
    c.hear.ensures.events c.hear.ensures.upto
