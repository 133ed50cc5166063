-- The lemmas that other crates may cite.
pub use Rattle.row_tables.proofs.Elements.{All-above, All-put_row, Contains-find_row, find_row-Contains}
pub use Rattle.row_tables.proofs.Keyed.{less_from_test, ties_itself, same_from_tie, find_row-keyed}
pub use Rattle.row_tables.proofs.Lengths.{length-put_row_new, length-put_row_known, length-without_row, length-put_row}
pub use Rattle.row_tables.proofs.Lookups.{key-find_row, find_row-put_row_same, find_row-without_row_same, find_row-put_row_other, find_row-without_row_other, same_rows, find_row-put_row, find_row-without_row}
pub use Rattle.row_tables.proofs.Parts.{both_parts, IsRising-push}
pub use Rattle.row_tables.proofs.Rising.{first_of_both, second_of_both, below_rest, IsRising-tail, find_row-below_first, IsRising-put_row, IsRising-without_row}
pub use Rattle.row_tables.proofs.Sums.{sum_by-put_row, sum_by-without_row}
pub use Rattle.row_tables.proofs.Tables.{table-from_sorted, IsRising-table, IsRising-from_pairs, find_row-table}
