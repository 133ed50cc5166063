use Rattle.std.proofs.Common.{◌≡◌, ◌∙◌, ap}
use Rattle.bbs_model.specs.Replay.{replay_log}
use Rattle.bbs_model.specs.declared.rows.Rows.{Rows}
use Rattle.bbs_board.specs.View.{rows_of}
use Rattle.program_tools.proofs.Shown.{check_end, ok_has, unopened_check}
use Rattle.program_tools.proofs.showing.show_check.Goals as goal

pub returns : goal.returns
returns g c =
    let board = c.in-Ok.board in
    let rows_are : rows_of board ≡ board.base = ap (replay_log board.base) c.in-Ok.ensures.fresh.log in
    let shown = c.show.ensures in
    rw c.close-disk.ensures.fields.0
    (check_end board.base _ _ c.in-Ok.ensures.opens _ _ c.check_of.result c.check_text-text.result shown.0 c.show.result
    shown.1
    (λ t is. ok_has _ is c.check_text-text.ensures) (c.check_of.ensures.place c.in-Ok.ensures.fresh.calm)
    (c.check_of.ensures.next ∙ ap (λ (r : Rows). r.next) rows_are) shown.2)

pub returns-in-Err : goal.returns-in-Err
returns-in-Err g c = unopened_check _ _ c.in-Err.ended.0 c.in-Err.ensures.ends
