-- The count of wanted instances follows a put and a removal.
use Rattle.std.proofs.Common.{◌≡◌, ℕ, ◌+◌, ◌-◌, ◌≤◌, List, arith}
use Rattle.diego_names.specs.Order.{name_order}
use Rattle.diego_names.proofs.Public.{IsKeyOrder-name_order}
use Rattle.lrp_records.specs.declared.desired.Desired.{Desired}
use Rattle.row_tables.specs.Table.{find_row, put_row, without_row, IsRising}
use Rattle.row_tables.proofs.Public.{sum_by-put_row, sum_by-without_row}
use Rattle.bbs_model.specs.Tables.{process_of}
use Rattle.bbs_index.specs.Index.{instances_in, instances_of}

module _ (rows : List Desired) (rising : IsRising name_order process_of rows) where
  removed : (process : List ℕ) → instances_in (without_row name_order process_of process rows) + instances_of
      (find_row name_order process_of process rows) ≡ instances_in rows
  removed process = sum_by-without_row name_order process_of IsKeyOrder-name_order
      (λ d. d.instances) process rows rising

  -- a row wants no more than all
  pub instances_within : (process : List ℕ) → instances_of (find_row name_order process_of process rows)
      ≤ instances_in rows
  instances_within process = omega (arith, removed process)

  -- a put takes the instances of the row in its place, and adds the new ones
  pub instances-put : (row : Desired) → (instances_in rows - instances_of
      (find_row name_order process_of row.process rows)) + row.instances
      ≡ instances_in (put_row name_order process_of row rows)
  instances-put row =
      let put : instances_in (put_row name_order process_of row rows) + instances_of
      (find_row name_order process_of row.process rows) ≡ instances_in rows + row.instances =
      sum_by-put_row name_order process_of IsKeyOrder-name_order (λ d. d.instances) row rows rising in
      omega (arith, put, removed row.process)

  -- a removal takes the instances of the row that it removes
  pub instances-removal : (process : List ℕ) → instances_in rows - instances_of
      (find_row name_order process_of process rows) ≡ instances_in (without_row name_order process_of process rows)
  instances-removal process = omega (arith, removed process)
