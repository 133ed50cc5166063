-- A table of some rows is a table of those that they are.
use Rattle.std.proofs.Common.{◌≡◌, ℕ, List, ◌++◌, Result, subst}
use Rattle.std.specs.Result.{OnOk}
use Rattle.headroom_tables.specs.Layout.{Column, section}

pub rows_told : {E : Type 0} (r : Result (Unit {0}) E) (old new : List ℕ) (columns : List Column)
    (rows all : List (List (List ℕ)))
    → rows ≡ all → OnOk r (new ≡ old ++ section columns rows) → OnOk r (new ≡ old ++ section columns all)
rows_told r old new columns rows all same added = subst (λ rs. OnOk r (new ≡ old ++ section columns rs)) same added
