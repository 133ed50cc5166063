use Rattle.std.proofs.Common.{map}
use Rattle.line_writing.specs.Spelled.{optional_name_data}
use Rattle.headroom_print.proofs.Enclosed.{listed}
use Rattle.headroom_print.proofs.line_kinds.value.put_tags.Goals as goal

pub returns : goal.returns
returns c =
    listed _ (map optional_name_data c.args.tags.now) c.end_list.result c.in_ok-begin_list.ensures
    c.in_ok-add_tags.ensures c.end_list.ensures
