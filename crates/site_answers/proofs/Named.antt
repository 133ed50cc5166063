-- What is looked up of a dump is what the definitions say.
use Rattle.std.proofs.Common.{◌≡◌, ℕ, ◌+◌, ◌≤◌, ◌<◌, Bool, ◌&&◌, ◌||◌, cond, not, List, ◌++◌, length, map, take, get_or, Option, Some, None, ap, refl, sym, ◌∙◌, arith}
use Rattle.std.specs.HashSet.{HashSet, contains}
use Rattle.std.specs.List.{count_by, flat_map, list_any, sum_by}
use Rattle.std.proofs.lemmas.List.Concat.{length-flat_map}
use Rattle.std.proofs.lemmas.List.Folds.{list_any-append}
use Rattle.std.proofs.lemmas.List.Sums.{count_by-le-length, sum_by-append, sum_by-take-le}
use Rattle.auctioneer.specs.Stands.{same_name}
use Rattle.diego_names.specs.declared.key.Key.{Key}
use Rattle.dump_lines.specs.declared.cell_state.CellState.{CellState}
use Rattle.dump_lines.specs.declared.cell_state.InstanceOnCell.{InstanceOnCell}
use Rattle.dump_lines.specs.declared.cell_state.Place.{Place}
use Rattle.dump_lines.specs.declared.rows.ActualRow.{ActualRow}
use Rattle.dump_reader.specs.declared.dump.Dump.{Dump}
use Rattle.site_answers.specs.Notes.{is_named}
use Rattle.site_answers.specs.Noting.{is_named_by, is_of_no_cell_by, is_stray}
use Rattle.what_if.specs.Sites.{has_started, key_of}
use Rattle.what_if.specs.Stays.{is_lost, same_key}
use Rattle.what_if.specs.declared.site.Wanted.{Wanted}
use Rattle.what_if.proofs.Agreeing.{any-map, any-same, told-from_lost}
use Rattle.what_if.proofs.Lists.{flat_next}
use Rattle.what_if.proofs.Names.{keys_turned, names_turned}

pub named-from_cells : (dump : Dump) (cell : List ℕ) → is_lost
    (map (λ (s : CellState). s.place.cell) dump.states ++ map (λ (p : Place). p.cell) dump.listed) cell
    ≡ is_named dump (Some cell)
named-from_cells dump cell =
    list_any-append (λ (name : List ℕ). same_name name cell) (map (λ (s : CellState). s.place.cell) dump.states)
    (map (λ (p : Place). p.cell) dump.listed)
    ∙ (λ i. told-from_lost dump.states cell i || listed i)
  where
    listed : list_any (λ (name : List ℕ). same_name name cell) (map (λ (p : Place). p.cell) dump.listed)
        ≡ list_any (λ p. same_name cell p.cell) dump.listed
    listed =
        any-map (λ (name : List ℕ). same_name name cell) (λ (p : Place). p.cell) dump.listed
        ∙ any-same (λ (p : Place). same_name p.cell cell) (λ p. same_name cell p.cell)
        (λ p. names_turned p.cell cell) dump.listed

-- rows of no cell, where the names are those of the dump
pub no_cell-by : {S : Type 0} (dump : Dump) (named : HashSet (List ℕ) S)
    → ((cell : List ℕ) → contains same_name named cell ≡ is_named dump (Some cell)) → (r : ActualRow)
    → is_of_no_cell_by named r ≡ (has_started r.state && not (is_named dump r.cell))
no_cell-by dump named h r = ap (λ (b : Bool). has_started r.state && not b) (either r.cell)
  where
    either : (cell : Option (List ℕ)) → is_named_by named cell ≡ is_named dump cell
    either None = refl
    either (Some name) = h name

-- strays, where the keys are those of what is wanted
pub stray-by : {S : Type 0} (wanted : List Wanted) (keys : HashSet Key S)
    → ((key : Key) → contains same_key keys key ≡ list_any (λ k. same_key k key) (map (λ w. w.key) wanted))
    → (i : InstanceOnCell) → (not i.ended && not (contains same_key keys (key_of i))) ≡ is_stray wanted i
stray-by wanted keys h i =
    ap (λ (b : Bool). not i.ended && not b)
    (h (key_of i)
    ∙ any-map (λ (k : Key). same_key k (key_of i)) (λ (w : Wanted). w.key) wanted
    ∙ any-same (λ (w : Wanted). same_key w.key (key_of i)) (λ w. same_key (key_of i) w.key)
    (λ w. keys_turned w.key (key_of i)) wanted)

-- one state more
pub noted_next : (p : InstanceOnCell → Bool) (states : List CellState) (i : ℕ) (s : CellState) → i < length states
    → s ≡ get_or states i s → count_by p (flat_map (λ (t : CellState). t.instances) (take i states)) + count_by p
    s.instances ≡ count_by p (flat_map (λ (t : CellState). t.instances) (take (i + 1) states))
noted_next p states i s lt is =
    sym (ap (count_by p) (flat_next (λ (t : CellState). t.instances) states i s lt is)
    ∙ sum_by-append (λ (x : InstanceOnCell). cond (p x) 1 0)
    (flat_map (λ (t : CellState). t.instances) (take i states)) s.instances)

-- what is counted is no more than there is
pub few_noted : (p : InstanceOnCell → Bool) (states : List CellState) (i : ℕ)
    → count_by p (flat_map (λ (t : CellState). t.instances) (take i states))
    ≤ sum_by (λ (t : CellState). length t.instances) states
few_noted p states i =
    omega (
      arith,
      count_by-le-length p (flat_map (λ (t : CellState). t.instances) (take i states)),
      length-flat_map (λ (t : CellState). t.instances) (take i states),
      sum_by-take-le (λ (t : CellState). length t.instances) states i,
    )
