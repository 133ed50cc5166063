use Rattle.std.proofs.Common.{◌≡◌, ◌∙◌, ap, length, arith}
use Rattle.bbs_model.specs.Told.{told_in}
use Rattle.bbs_laws.proofs.Public.{length-told_in, heard_of_told}
use Rattle.cell_tests.specs.Failing.{FailingBoard}
use Rattle.cell_tests.proofs.failing_port.FailingPortPort.events.Goals as goal

pub hear-requires : goal.hear-requires
hear-requires c =
    let told : length c.as_slice.result.now ≡ length c.self.inside.log.items =
    ap length (c.as_slice.ensures.value ∙ c.self.invariant.told_is) ∙ length-told_in c.self.inside.base
    c.self.inside.log.items in
    let seen : length c.self.inside.log.items ≡ length c.args.self.now.board.log =
    ap (λ (p : FailingBoard). length p.board.log) c.self.view_is in
    omega (arith, told, seen, c.requires)

pub returns-clause-heard : goal.returns-clause-heard
returns-clause-heard c =
    heard_of_told c.args.self.now.board.base c.args.self.now.board.log c.as_slice.result.now c.args.from c.args.max
    c.hear.result
    (c.as_slice.ensures.value ∙ c.self.invariant.told_is ∙ ap
    (λ (p : FailingBoard). told_in p.board.base p.board.log) c.self.view_is)
    c.hear.ensures.events c.hear.ensures.upto
