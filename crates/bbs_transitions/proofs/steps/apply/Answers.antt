use Rattle.bbs_transitions.proofs.Doable.{doable_by, valid_by}
use Rattle.bbs_transitions.proofs.steps.apply.Goals as goal

pub make-requires-clause-doable : goal.make-requires-clause-doable
make-requires-clause-doable g c =
    doable_by (g.T.RowStore.state c.args.store.now) c.args.command.now c.look-found.result c.attempt_at.result
    c.look-found.ensures c.attempt_at.ensures
    c.requires.valid c.requires.legal

pub returns-clause-valid : goal.returns-clause-valid
returns-clause-valid g c =
    valid_by (g.T.RowStore.state c.args.store.now) c.args.command.now c.look-found.result c.attempt_at.result
    c.look-found.ensures c.attempt_at.ensures
    (g.T.RowStore.state c.make.new.store) c.requires.valid c.requires.legal c.make.ensures.state
