use Rattle.bbs_board.proofs.LongHeads.{long_unread, long_blames}
use Rattle.bbs_board.proofs.long_head.fault_in.Goals as goal

pub unreachable-requires : goal.unreachable-requires
unreachable-requires c =
    long_unread c.args.version c.args.area c.args.begin.now c.in-Ok.field-0.rows c.requires.long c.in-Ok.ensures.gives

pub returns-clause-blames : goal.returns-clause-blames
returns-clause-blames c rest =
    long_blames c.args.version c.args.area c.args.begin.now rest c.in-Err.fault c.requires.long c.in-Err.ensures.gives
