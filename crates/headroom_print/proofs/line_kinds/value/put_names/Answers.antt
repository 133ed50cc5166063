use Rattle.std.proofs.Common.{map}
use Rattle.serde_json.specs.Data.{string}
use Rattle.headroom_print.proofs.Enclosed.{listed}
use Rattle.headroom_print.proofs.line_kinds.value.put_names.Goals as goal

pub returns : goal.returns
returns c =
    listed _ (map string c.args.names.now) c.end_list.result c.in_ok-begin_list.ensures c.in_ok-add_names.ensures
    c.end_list.ensures
