use Rattle.difference_tests.proofs.Going.{follows_command}
use Rattle.difference_tests.proofs.indexes.do_legal.Goals as goal

pub follow-requires-clause-follows : goal.follow-requires-clause-follows
follow-requires-clause-follows c =
    follows_command c.args.index.now.rows c.apply-events.new.store.rows c.args.command.now c.args.differences.now
    c.apply-events.result _ c.requires.valid c.apply-events.ensures.valid c.requires.stands
    (c.events_tell_all.ensures _ _ c.requires.legal) c.apply-events.ensures.events c.apply-events.ensures.state
    c.as_ref.ensures.value
