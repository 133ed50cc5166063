-- Names that are keys, and items that are listed.
use Rattle.std.proofs.Common.{◌≡◌, ℕ, Bool, List, [], ◌∷◌, ◌&&◌, map, refl, ap, String, string_bytes}
use Rattle.std.specs.List.{list_all}
use Rattle.std.specs.declared.alloc.Global.{Global}
use Rattle.serde_json.specs.Data.{Data}
use Rattle.serde_json.specs.declared.value.Value.{Value}
use Rattle.serde_json.specs.View.{items_of, members_view}
use Rattle.scenario_lines.specs.Kinds.{items_in}
use Rattle.scenario_lines.specs.Shapes.{names_given}

-- a test of each key is one of each member's name
pub list_all-member_names : (test : List ℕ → Bool) (entries : List (String Global × Value))
    → list_all (λ name. test (string_bytes name)) (map (λ e. e.0) entries)
    ≡ list_all test (names_given (members_view entries))
list_all-member_names test [] = refl
list_all-member_names test (entry ∷ entries) = ap (λ b. test (string_bytes entry.0) && b)
    (list_all-member_names test entries)

-- the items of an array are those that it was made of
pub items_in-items_of : (ds : List Data) → items_in (items_of ds) ≡ ds
items_in-items_of [] = refl
items_in-items_of (d ∷ ds) = ap (λ more. d ∷ more) (items_in-items_of ds)
