use Rattle.bbs_board.proofs.Again.{valid_again, after_again}
use Rattle.bbs_board.proofs.redoing.redo_command.Goals as goal

pub returns-clause-after : goal.returns-clause-after
returns-clause-after c =
    after_again c.args.index.now.rows c.redo_by_kind.new.index.rows c.args.command.now c.redo_by_kind.result
    c.redo_by_kind.ensures.redone

pub returns-clause-valid : goal.returns-clause-valid
returns-clause-valid c =
    let e = c.redo_by_kind.ensures in
    valid_again c.args.index.now.rows c.redo_by_kind.new.index.rows c.args.command.now c.redo_by_kind.result c.requires
    e.redone e.stays
