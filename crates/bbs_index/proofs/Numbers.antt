-- Rows by their numbers: what a number finds, and what is put in the place of the row of one.
use Rattle.std.proofs.Common.{◌≡◌, ◌+◌, ℕ, Bool, cond, if◌then◌else◌, List, length, slice_get, Option, Some, None, is_some, refl, sym, ap, subst, ◌∙◌, arith}
use Rattle.std.specs.Prelude.{IfSome}
use Rattle.std.specs.Cmp.{IsEquivalence}
use Rattle.std.specs.declared.cmp.Ordering.{Ordering}
use Rattle.std.specs.Map.{lookup}
use Rattle.std.specs.Option.{option_map, option_and_then}
use Rattle.std.proofs.lemmas.Map.Entries.{lookup_from_place}
use Rattle.std.proofs.lemmas.Option.{slice_get-map}
use Rattle.indexmap.proofs.CallerLemmas.{updates-with_value_at, index_map_len-with_value_at}
use Rattle.indexmap.specs.IndexMap.{IndexMap, values, with_value_at, IsUnique}
use Rattle.bbs_index.specs.Shelf.{IsShelf}

-- a number that is known exactly where the row is gives that row
pub numbered_found : {X : Type 0} (rows : List X) (number : Option ℕ) (known : Option X)
    → is_some number ≡ is_some known → IfSome number (λ n. slice_get rows n ≡ known)
    → option_and_then (slice_get rows) number ≡ known
numbered_found rows None None same at = refl
numbered_found rows None (Some row) same at = cc
numbered_found rows (Some n) known same at = at

module _ {K X S : Type 0} {R : K → K → Ordering} {eq : K → K → Bool} {key : X → K} (laws : IsEquivalence eq)
    (m n : IndexMap K X S) (shelf : IsShelf R eq key m.entries) (unique : IsUnique eq m)
    (number : ℕ) (row : X) (at : option_map key (slice_get (values m) number) ≡ Some (key row))
    (is : n ≡ with_value_at m number row) where
  -- the entry of the number stands at the row's key
  entry_there : (entry : Option (K × X)) → slice_get m.entries number ≡ entry
      → option_map key (option_map (λ e. e.1) entry) ≡ Some (key row)
      → (old : X) × (slice_get m.entries number ≡ Some (key row, old)) × (lookup (eq (key row)) m.entries ≡ Some old)
  entry_there None there same = cc
  entry_there (Some e) there same =
      let found : lookup (eq e.0) m.entries ≡ Some e.1 = lookup_from_place laws m.entries number e.0 e.1 unique there in
      let own : e.0 ≡ key row = sym (shelf.at_key e.0 e.1 found) ∙ cc (same) in
      (e.1, there ∙ ap (λ q. Some (q, e.1)) own, subst (λ q. lookup (eq q) m.entries ≡ Some e.1) own found)

  there : (old : X) × (slice_get m.entries number ≡ Some (key row, old)) × (lookup (eq (key row)) m.entries ≡ Some old)
  there = entry_there (slice_get m.entries number) refl (ap (option_map key)
      (sym (slice_get-map (λ e. e.1) m.entries number)) ∙ at)

  -- the row comes to its key, and all others stay
  pub updates_there : (q : K) → lookup (eq q) n.entries ≡ cond (eq (key row) q) (Some row) (lookup (eq q) m.entries)
  updates_there q =
      ap (λ (w : IndexMap K X S). lookup (eq q) w.entries) is ∙
      (updates-with_value_at m number row laws unique (key row) there.0 there.1).0 q

  -- and there are as many
  pub length_there : length n.entries ≡ length m.entries + (if is_some (lookup (eq (key row)) m.entries) then 0 else 1)
  length_there =
      let same : length n.entries ≡ length m.entries = ap (λ (w : IndexMap K X S). length w.entries) is ∙
      index_map_len-with_value_at m number row in
      same ∙ sym (ap (λ (o : Option X). length m.entries + (if is_some o then 0 else 1)) there.2 ∙ omega arith)
