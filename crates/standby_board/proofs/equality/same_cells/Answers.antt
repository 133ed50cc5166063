-- Rows that compare as equal are the same.
use Rattle.std.proofs.Common.{◌≡◌}
use Rattle.std.specs.Bool.{Decides}
use Rattle.std.specs.Cmp.{booleans_Decides}
use Rattle.std.proofs.lemmas.Bool.Decides.{Decides-and, Decides-eqb, Decides-like}
use Rattle.cell_records.specs.contracts.cell_row.CellRowPartialEq.TheImpl as cell_row_eq
use Rattle.cell_records.specs.declared.cell_row.CellRow.{CellRow}
use Rattle.standby_board.proofs.Alike.{alike}
use Rattle.standby_board.proofs.SameParts.{amounts, names, options}
use Rattle.standby_board.proofs.equality.same_cells.Goals as goal

same : (a b : CellRow) → Decides ((cell_row_eq.ghosts).eq a b) (a ≡ b)
same a b = Decides-like _
    (λ h i. record {
      cell = h.0 i;
      zone = h.1.0 i;
      tag = h.1.1.0 i;
      totals = h.1.1.1.0 i;
      epoch = h.1.1.1.1.0 i;
      until = h.1.1.1.1.1.0 i;
      evacuating = h.1.1.1.1.1.1 i;
    })
    (λ e. (cc, (cc, (cc, (cc, (cc, (cc, cc)))))))
    (Decides-and _ _ (names a.cell b.cell)
    (Decides-and _ _ (names a.zone b.zone)
    (Decides-and _ _ (options names a.tag b.tag)
    (Decides-and _ _ (amounts a.totals b.totals)
    (Decides-and _ _ (Decides-eqb a.epoch b.epoch)
    (Decides-and _ _ (Decides-eqb a.until b.until) (booleans_Decides a.evacuating b.evacuating)))))))

pub returns : goal.returns
returns c = alike _ _ _ c.eq.ensures same
