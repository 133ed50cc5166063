use Rattle.std.proofs.Common.{is_ok}
use Rattle.file_calls.specs.Made.{syncs}
use Rattle.file_calls.proofs.Records.{adds_then}
use Rattle.file_calls.proofs.SyncLemmas.{adds_wider, sync_adds, still_unsynced, sync_here, sync_none}
use Rattle.file_calls.proofs.syncing.sync_whole.Goals as goal

pub returns-in_err-name_once-clause-adds : goal.returns-in_err-name_once-clause-adds
returns-in_err-name_once-clause-adds g c = adds_wider c.args.area _ _ c.name_once.ensures.adds

pub returns-in_err-name_once-clause-here : goal.returns-in_err-name_once-clause-here
returns-in_err-name_once-clause-here g c =
    sync_none g.C.Calls.first c.args.area c.from_residual.result _ _ c.from_residual.ensures.0 c.name_once.ensures.adds

pub sync_file-requires : goal.sync_file-requires
sync_file-requires g c = still_unsynced c.args.area _ _ c.name_once.ensures.adds c.requires.unsynced

pub returns-clause-adds : goal.returns-clause-adds
returns-clause-adds g c =
    adds_then (syncs c.args.area) _ _ _ (adds_wider c.args.area _ _ c.name_once.ensures.adds)
    (sync_adds c.args.area (is_ok c.sync_file.result) _ _ c.sync_file.ensures)

pub returns-clause-here : goal.returns-clause-here
returns-clause-here g c =
    sync_here g.C.Calls.first c.args.area (is_ok c.sync_file.result) _ _ _ c.name_once.ensures.adds
    (c.in_ok-name_once.ensures.ok c.args.area) c.sync_file.ensures
