-- Parts of what nobody disturbed, and lists of which nothing wanted memory.
use Rattle.std.proofs.Common.{◌≡◌, Bool, true, false, ◌||◌, List, [], ◌∷◌, ◌++◌, map, refl, sym, ap, ◌∙◌, arith}
use Rattle.std.specs.List.{list_any}
use Rattle.bbs_model.specs.PortView.{IsLater, PortView}
use Rattle.bbs_model.proofs.Public.{quiet_first, quiet_second}
use Rattle.run_function.specs.Quiet.{StaysCalm}
use Rattle.bbs_board.specs.Doubts.{doubts_in}
use Rattle.run_function.proofs.Calls.{doubts_both}

pub alone_first : (u v w : PortView) → IsLater u v → IsLater v w → StaysCalm u w → StaysCalm u v
alone_first u v w f g alone = record {
  quiet = quiet_first u v w f g alone.quiet;
  calm = omega (arith, doubts_both v.seen g.seen.0, ap doubts_in g.seen.1, alone.calm);
}

pub alone_second : (u v w : PortView) → IsLater u v → IsLater v w → StaysCalm u w → StaysCalm v w
alone_second u v w f g alone = record { quiet = quiet_second u v w f g alone.quiet; calm = alone.calm }

pub neither_first : (a b : Bool) → (a || b) ≡ false → a ≡ false
neither_first true b e = e
neither_first false b e = refl

pub neither_second : (a b : Bool) → (a || b) ≡ false → b ≡ false
neither_second true b e = let bad : true ≡ false = e in absurd cc
neither_second false b e = e

-- of none in both lists, none in the first, and none in the second
any_both : {X : Type 0} (test : X → Bool) (xs ys : List X)
    → list_any test (xs ++ ys) ≡ (list_any test xs || list_any test ys)
any_both test [] ys = refl
any_both test (x ∷ xs) ys = ap (λ (b : Bool). test x || b) (any_both test xs ys) ∙ sym
    (or_assoc (test x) (list_any test xs) (list_any test ys))
  where
    or_assoc : (a b c : Bool) → ((a || b) || c) ≡ (a || (b || c))
    or_assoc true b c = refl
    or_assoc false b c = refl

pub none_first : {X : Type 0} (test : X → Bool) (xs ys : List X) → list_any test (xs ++ ys) ≡ false
    → list_any test xs ≡ false
none_first test xs ys e = neither_first (list_any test xs) (list_any test ys) (sym (any_both test xs ys) ∙ e)

pub none_second : {X : Type 0} (test : X → Bool) (xs ys : List X) → list_any test (xs ++ ys) ≡ false
    → list_any test ys ≡ false
none_second test xs ys e = neither_second (list_any test xs) (list_any test ys) (sym (any_both test xs ys) ∙ e)

-- of none in a list that is made from another, none in that one
pub none_mapped : {X Y : Type 0} (f : X → Y) (test : Y → Bool) (xs : List X)
    → list_any test (map f xs) ≡ list_any (λ x. test (f x)) xs
none_mapped f test [] = refl
none_mapped f test (x ∷ xs) = ap (λ (b : Bool). test (f x) || b) (none_mapped f test xs)
