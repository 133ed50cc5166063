use Rattle.std.proofs.Common.{List, ℕ, Result, Ok, Err, IfOk}
use Rattle.bbs_model.specs.Valid.{IsValid}
use Rattle.bbs_model.specs.declared.rows.Rows.{Rows}
use Rattle.head_codec.specs.Head.{head_reading}
use Rattle.head_codec.specs.Seen.{TellsHead}
use Rattle.head_codec.specs.declared.fault.HeadFault.{HeadFault}
use Rattle.head_codec.proofs.HeadLaws.{head_valid}
use Rattle.head_codec.proofs.reading.read_head.Goals as goal

valid_told : (version : ℕ) (bytes : List ℕ) (r : Result Rows HeadFault) → TellsHead r (head_reading version bytes)
    → IfOk r IsValid
valid_told version bytes (Ok rows) told = head_valid version bytes rows told
valid_told version bytes (Err fault) told = tt

pub returns-clause-valid : goal.returns-clause-valid
returns-clause-valid c = valid_told c.args.version c.args.bytes.now c.read_tables.result c.read_tables.ensures
