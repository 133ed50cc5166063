use Rattle.std.proofs.Common.{◌∙◌}
use Rattle.dump_lines.specs.Cells.{instance_as, instance_of}
use Rattle.dump_lines.proofs.cell.instance_as.Goals as goal

pub returns : goal.returns
unfolding instance_as
returns c =
    c.instance_of.ensures
    ∙ (λ i. instance_of (c.name_in.ensures i) (c.number_in.ensures i) (c.number_in-2.ensures i)
    (c.number_in-3.ensures i) (c.tag_in.ensures i) (c.is_word_or.ensures i) (c.is_filled_in.ensures i))
