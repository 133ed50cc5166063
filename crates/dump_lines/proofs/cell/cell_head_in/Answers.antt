use Rattle.std.proofs.Common.{◌∙◌}
use Rattle.dump_lines.specs.Cells.{cell_head_in, cell_head_of}
use Rattle.dump_lines.proofs.cell.cell_head_in.Goals as goal

pub returns : goal.returns
unfolding cell_head_in
returns c =
    c.cell_head_of.ensures
    ∙ (λ i. cell_head_of (c.place_in.ensures i) (c.amounts_in.ensures i) (c.amounts_in-2.ensures i) (c.tag_in.ensures i)
    (c.is_filled_in.ensures i) (c.truth_in.ensures i) (c.number_or.ensures i))
