use Rattle.std.proofs.Common.{subst, sym}
use Rattle.std.proofs.lemmas.List.Elements.{All-get_or}
use Rattle.dump_reader.specs.Facts.{IsCellState}
use Rattle.what_if.proofs.containers.answers_of.Goals as goal

pub answer_of-requires : goal.answer_of-requires
answer_of-requires c =
    subst IsCellState (sym c.state-item.is) (All-get_or IsCellState c.args.states.now c.loop-state.state-index
    c.state-item.result c.loop-state-test.true c.requires)
