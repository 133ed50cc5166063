use Rattle.std.proofs.Common.{rules, ◌≡◌, Ok}
use Rattle.large_runs.proofs.EmptyBoard.{prepared_board}
use Rattle.large_runs.proofs.prepared.prepared.Goals as goal

pub returns-in-Ok : goal.returns-in-Ok
returns-in-Ok c =
    let ok : c.prepare.result ≡ Ok tt = search rules in
    prepared_board c.what_is_prepared_is_opened.ensures c.prepare.result _ _ ok c.prepare.ensures.does
