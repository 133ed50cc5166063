use Rattle.std.proofs.Common.{is_ok}
use Rattle.disk_trait.specs.declared.area.Area.TheVariants.{A, B}
use Rattle.file_calls.specs.Made.{is_naming}
use Rattle.file_calls.proofs.Records.{adds_then}
use Rattle.file_calls.proofs.SyncLemmas.{name_adds}
use Rattle.file_calls.proofs.syncing.sync_names.Goals as goal

pub returns-in_err-sync_name-clause-adds : goal.returns-in_err-sync_name-clause-adds
returns-in_err-sync_name-clause-adds g c = name_adds A (is_ok c.sync_name.result) _ _ c.sync_name.ensures

pub returns-clause-adds : goal.returns-clause-adds
returns-clause-adds g c =
    adds_then is_naming _ _ _ (name_adds A (is_ok c.sync_name.result) _ _ c.sync_name.ensures)
    (name_adds B (is_ok c.sync_name-2.result) _ _ c.sync_name-2.ensures)
