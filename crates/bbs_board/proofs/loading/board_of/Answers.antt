use Rattle.std.proofs.Common.{sym, subst}
use Rattle.std.proofs.lemmas.Result.{err_from_is_err_and}
use Rattle.bbs_journal.specs.Reading.{payloads_of}
use Rattle.bbs_journal.specs.declared.load_fault.LoadFault.{LoadFault}
use Rattle.bbs_board.specs.Opening.{Blames, board_of}
use Rattle.bbs_board.proofs.Loaded.{board_blames}
use Rattle.bbs_board.proofs.loading.board_of.Goals as goal

pub returns-in_err-follow-clause-gives : goal.returns-in_err-follow-clause-gives
returns-in_err-follow-clause-gives c =
    let e = err_from_is_err_and c.from_residual-in_err-follow.result c.from_residual-in_err-follow.ensures.1 in
    rw e.1 (subst (λ (f : LoadFault). Blames f (board_of c.args.version c.args.area c.args.head.now
    (payloads_of c.args.frames.now) c.args.broken)) (sym e.2)
    (board_blames c.args.version c.args.area c.args.head.now
    (payloads_of c.args.frames.now) c.args.broken c.in_ok-index.index.rows c.in_err-follow.field-0.0
    c.in_ok-index.ensures.gives
    c.in_err-follow.ensures.tells))
