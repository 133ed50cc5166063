-- What holds of each row of a table.
use Rattle.std.specs.Prelude.{List, [], ◌∷◌}
use Rattle.std.specs.List.{AllByRecursion}

-- what follows of each row
pub each_weaker : {X : Type 0} (P Q : X → Type 0) → ((x : X) → P x → Q x) → (xs : List X) → AllByRecursion P xs
    → AllByRecursion Q xs
each_weaker P Q more [] h = tt
each_weaker P Q more (x ∷ xs) h = (more x h.0, each_weaker P Q more xs h.1)
