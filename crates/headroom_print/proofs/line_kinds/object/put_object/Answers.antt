use Rattle.std.proofs.Common.{map}
use Rattle.headroom_print.specs.Members.{named}
use Rattle.headroom_print.proofs.Enclosed.{built}
use Rattle.headroom_print.proofs.line_kinds.object.put_object.Goals as goal

pub returns : goal.returns
returns c =
    built _ (map named c.args.members.now) c.end.result c.in_ok-begin.ensures c.in_ok-add_members.ensures c.end.ensures
