use Rattle.bbs_transitions.proofs.Doable.{legal_by, doable_by, valid_by}
use Rattle.bbs_transitions.proofs.steps.step_in.Goals as goal

pub make-requires-clause-doable : goal.make-requires-clause-doable
make-requires-clause-doable g c =
    let rows = g.T.RowStore.state c.args.store.now in
    let legal = legal_by rows c.args.command.now c.look-found.result c.attempt_at-attempt.result c.look-found.ensures
    c.attempt_at-attempt.ensures c.in-Ok.ensures in
    doable_by rows c.args.command.now c.look-found.result c.attempt_at-attempt.result c.look-found.ensures
    c.attempt_at-attempt.ensures
    c.requires.valid legal

pub returns-in-Ok-clause-valid : goal.returns-in-Ok-clause-valid
returns-in-Ok-clause-valid g c =
    let rows = g.T.RowStore.state c.args.store.now in
    let legal = legal_by rows c.args.command.now c.look-found.result c.attempt_at-attempt.result c.look-found.ensures
    c.attempt_at-attempt.ensures c.in-Ok.ensures in
    valid_by rows c.args.command.now c.look-found.result c.attempt_at-attempt.result c.look-found.ensures
    c.attempt_at-attempt.ensures
    (g.T.RowStore.state c.make.new.store) c.requires.valid legal c.make.ensures.state
