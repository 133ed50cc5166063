-- What is done for each of a list in turn.
use Rattle.std.specs.Prelude.{◌≡◌, List, [], ◌∷◌}

-- a step for each of a list, one after another, from one state to another
abbrev pub Each : {X S : Type 0} → (X → S → S → Type 0) → List X → S → S → Type 0
Each {S = S} Step [] s s' = s' ≡ s
Each {S = S} Step (x ∷ xs) s s' = (m : S) × Step x s m × Each Step xs m s'
