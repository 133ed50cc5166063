use Rattle.std.proofs.Common.{◌∙◌}
use Rattle.wire_fields.proofs.Names.{result_ok-reading}
use Rattle.wire_fields.proofs.reading.name_of.Goals as goal

pub returns : goal.returns
returns c =
    c.ok.ensures.value
    ∙ result_ok-reading c.args.field.now c.read.result c.requires.0 c.requires.1 c.read.ensures.name
    c.read.ensures.whole
