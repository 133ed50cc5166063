-- What a loss leaves of the cells that are there, and of the rows that have to stay.
use Rattle.std.proofs.Common.{◌≡◌, ◌≢◌, ◌⊎◌, ⊎_elim, ℕ, ◌≤◌, Bool, true, false, ◌&&◌, ◌==◌, not, nat_lt, List, map, Option, Some, None, refl, sym, ap, ◌∙◌, arith}
use Rattle.std.specs.List.{AllPairs}
use Rattle.std.specs.Option.{option_map_or}
use Rattle.std.proofs.lemmas.Bool.{eqb-true}
use Rattle.std.proofs.lemmas.Bool.Decides.{Decides-eqb, nat_tests}
use Rattle.std.proofs.lemmas.Map.Made.{AllPairs-from_IsDistinct}
use Rattle.bbs_model.specs.Domains.{is_fresh}
use Rattle.bbs_model.specs.Tables.{cell_name_of, find_cell, find_domain}
use Rattle.bbs_model.specs.Valid.{IsValid}
use Rattle.bbs_model.specs.Work.{fresh_in, is_retirable, is_there, may_go, wants}
use Rattle.bbs_model.specs.declared.domain_row.DomainRow.{DomainRow}
use Rattle.bbs_model.specs.declared.rows.Rows.{Rows}
use Rattle.cell_records.specs.Presence.{is_present}
use Rattle.cell_records.specs.declared.cell_row.CellRow.{CellRow}
use Rattle.crash_backoff.specs.declared.moment.Moment.{Moment}
use Rattle.diego_names.proofs.Public.{IsKeyOrder-name_order}
use Rattle.diego_names.specs.Order.{name_order}
use Rattle.diego_names.specs.declared.key.Key.{Key}
use Rattle.lrp_records.specs.declared.actual.Actual.{Actual}
use Rattle.round_theorem.proofs.Public.{differ_pairs, one_of_name}
use Rattle.row_tables.proofs.Public.{Contains-find_row, key-find_row}
use Rattle.what_if.specs.Stays.{is_lost}
use Rattle.forecast_laws.specs.Losses.{OnlyLeasesEnded}
use Rattle.forecast_laws.proofs.CellsRead.{both_true}

pub not_true : (b : Bool) → not b ≡ true → b ≡ false
not_true true e = absurd cc
not_true false e = refl

pub and_false : (b : Bool) → (b && false) ≡ false
and_false true = refl
and_false false = refl

-- the row of a cell that is there
pub record IsRowThere (rows : Rows) (at : Moment) (cell : List ℕ) (epoch : ℕ) : Type 0 where
  pub row : CellRow
  pub found : find_cell rows cell ≡ Some row
  pub epoch_is : row.epoch ≡ epoch
  pub present : is_present row at ≡ true

pub row_there : (rows : Rows) (at : Moment) (cell : List ℕ) (epoch : ℕ) → is_there rows at cell epoch ≡ true
    → IsRowThere rows at cell epoch
row_there rows at cell epoch there =
    elim (find_cell rows cell) as (λ (o : Option CellRow). find_cell rows cell ≡ o
    → option_map_or (λ (c : CellRow). c.epoch == epoch && is_present c at) o false ≡ true
    → IsRowThere rows at cell epoch) [
      | None ↦ λ is e. absurd cc
      | (Some c) ↦ λ is e.
          let parts = both_true (c.epoch == epoch) (is_present c at) e in
          record { row = c; found = is; epoch_is = eqb-true c.epoch epoch parts.0; present = parts.1 }
    ] refl there

-- cells that are there under one epoch are one
pub one_cell : (rows : Rows) (at : Moment) → IsValid rows → (a b : List ℕ) (epoch : ℕ)
    → is_there rows at a epoch ≡ true → is_there rows at b epoch ≡ true → a ≡ b
one_cell rows at valid a b epoch a_there b_there =
    let x = row_there rows at a epoch a_there in
    let y = row_there rows at b epoch b_there in
    let epochs = map (λ (c : CellRow). c.epoch) rows.cells in
    let apart : AllPairs (λ (i j : ℕ). i ≢ j) epochs = AllPairs-from_IsDistinct Decides-eqb epochs valid.cells.epochs in
    let one : x.row ≡ y.row = one_of_name (λ (c : CellRow). c.epoch) rows.cells (differ_pairs epochs apart) x.row y.row
    (Contains-find_row name_order cell_name_of a x.row rows.cells x.found)
    (Contains-find_row name_order cell_name_of b y.row rows.cells y.found) (x.epoch_is ∙ sym y.epoch_is) in
    sym (key-find_row name_order cell_name_of IsKeyOrder-name_order a x.row rows.cells x.found)
    ∙ ap (λ (c : CellRow). c.cell) one
    ∙ key-find_row name_order cell_name_of IsKeyOrder-name_order b y.row rows.cells y.found

module _ (rows : Rows) (lost : List (List ℕ)) (old now : Moment) (ended : OnlyLeasesEnded rows lost old now) where
  -- a cell that is there was there, and isn't lost
  pub was_there : (cell : List ℕ) (epoch : ℕ) → is_there rows now cell epoch ≡ true
      → (is_there rows old cell epoch ≡ true) × (is_lost lost cell ≡ false)
  was_there cell epoch there =
      let both = both_true (is_there rows old cell epoch) (not (is_lost lost cell))
      (sym (ended.there cell epoch) ∙ there) in
      (both.0, not_true (is_lost lost cell) both.1)

  pub still_there : (cell : List ℕ) (epoch : ℕ) → is_there rows old cell epoch ≡ true → is_lost lost cell ≡ false
      → is_there rows now cell epoch ≡ true
  still_there cell epoch there kept =
      ended.there cell epoch ∙ ap (λ (b : Bool). b && not (is_lost lost cell)) there ∙ ap not kept

  pub gone_now : (cell : List ℕ) (epoch : ℕ) → is_lost lost cell ≡ true → is_there rows now cell epoch ≡ false
  gone_now cell epoch is =
      ended.there cell epoch ∙ ap (λ (b : Bool). is_there rows old cell epoch && not b) is
      ∙ and_false (is_there rows old cell epoch)

  passed : (until : ℕ) → nat_lt old.0 until ≡ false → nat_lt now.0 until ≡ false
  passed until e = let later : old.0 ≤ now.0 = ended.later in grind (arith, nat_tests)

  stale_until : (until : Option ℕ) → option_map_or (λ (u : ℕ). nat_lt old.0 u) until true ≡ false
      → option_map_or (λ (u : ℕ). nat_lt now.0 u) until true ≡ false
  stale_until None e = absurd cc
  stale_until (Some until) e = passed until e

  stale_row : (d : Option DomainRow) → is_fresh d old ≡ false → is_fresh d now ≡ false
  stale_row None e = refl
  stale_row (Some d) e = stale_until d.until e

  stale_domain : (domain : Option (List ℕ)) → option_map_or (fresh_in rows old) domain true ≡ false
      → option_map_or (fresh_in rows now) domain true ≡ false
  stale_domain None e = absurd cc
  stale_domain (Some name) e = stale_row (find_domain rows name) e

  -- a row of a wanted instance isn't to be retired, nor is one that had to stay
  pub not_retired : (key : Key) (a : Actual) → ((wants rows key ≡ true) ⊎ (may_go rows old a ≡ false))
      → is_retirable rows now key a ≡ false
  not_retired key a h =
      ⊎_elim
      (λ (wanted : wants rows key ≡ true). ap (λ (b : Bool). not b && may_go rows now a) wanted)
      (λ (stale : may_go rows old a ≡ false).
      ap (λ (b : Bool). not (wants rows key) && b) (stale_domain a.domain stale) ∙ and_false (not (wants rows key)))
      h
