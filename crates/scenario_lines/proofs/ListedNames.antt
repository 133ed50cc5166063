-- Names that are read one after another.
use Rattle.std.proofs.Common.{◌≡◌, ℕ, List, [], ◌∷◌, ◌++◌, Result, Ok, Err, refl, sym, ap, append_assoc}
use Rattle.scenario_lines.specs.Flaws.{◌>>=◌}
use Rattle.scenario_lines.specs.declared.flaw.Flaw.{Flaw}

-- the names so far and those to come
abbrev pub onto : List (List ℕ) → Result (List (List ℕ)) Flaw → Result (List (List ℕ)) Flaw
onto names (Ok more) = Ok (names ++ more)
onto names (Err flaw) = Err flaw

-- a name goes from those to come to those so far
pub onto-next : (names : List (List ℕ)) (name : List ℕ) (rest : Result (List (List ℕ)) Flaw)
    → onto names (rest >>= λ more. Ok (name ∷ more)) ≡ onto (names ++ name ∷ []) rest
onto-next names name (Ok more) = ap Ok (sym (append_assoc names (name ∷ []) more))
onto-next names name (Err flaw) = refl
