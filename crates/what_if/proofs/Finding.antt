-- The first that is found, going back from behind it.
use Rattle.std.proofs.Common.{◌≡◌, ℕ, ◌+◌, ◌-◌, ◌<◌, ◌≤◌, Bool, cond, List, length, drop, get_or, Some, sym, ap, ◌∙◌, arith}
use Rattle.std.specs.List.{find}
use Rattle.auctioneer.specs.Stands.{same_name}
use Rattle.dump_lines.specs.declared.cell_state.Place.{Place}
use Rattle.what_if.specs.Sites.{place_in}
use Rattle.what_if.proofs.Lists.{drop_next}
use Rattle.what_if.proofs.Names.{names_turned}

pub find_back : {X : Type 0} (p : X → Bool) (xs : List X) (n : ℕ) (x : X) → 0 < n → n ≤ length xs
    → x ≡ get_or xs (n - 1) x → cond (p x) (Some x) (find p (drop n xs)) ≡ find p (drop (n - 1) xs)
find_back {X} p xs n x some within e =
    let back : n ≡ n - 1 + 1 = omega arith in
    ap (λ (m : ℕ). cond (p x) (Some x) (find p (drop m xs))) back
    ∙ sym (ap (find p) (drop_next xs (n - 1) x (omega arith) e))

pub place_back : (ps : List Place) (n : ℕ) (p : Place) → 0 < n → n ≤ length ps → p ≡ get_or ps (n - 1) p
    → (cell : List ℕ) → cond (same_name p.cell cell) (Some p) (place_in (drop n ps) cell)
    ≡ place_in (drop (n - 1) ps) cell
place_back ps n p some within e cell =
    ap (λ (b : Bool). cond b (Some p) (place_in (drop n ps) cell)) (names_turned p.cell cell)
    ∙ find_back (λ (q : Place). same_name cell q.cell) ps n p some within e
