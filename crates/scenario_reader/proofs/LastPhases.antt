-- Phases, as those behind which another stands and the last.
use Rattle.std.proofs.Common.{◌≡◌, List, [], ◌∷◌, ◌++◌, Some, option_to_list, refl, ap}
use Rattle.scenario_reader.specs.Order.{last_from, last_phase}
use Rattle.scenario_lines.specs.declared.script.Phase.{Phase}

-- the phases before the last, where this one stands before them
abbrev pub front_from : Phase → List Phase → List Phase
front_from phase [] = []
front_from phase (next ∷ more) = phase ∷ front_from next more

-- the phases before the last
abbrev pub front_of : List Phase → List Phase
front_of [] = []
front_of (phase ∷ more) = front_from phase more

from-split : (phase : Phase) (more : List Phase) → front_from phase more ++ last_from phase more ∷ [] ≡ phase ∷ more
from-split phase [] = refl
from-split phase (next ∷ more) = ap (λ ps. phase ∷ ps) (from-split next more)

-- all phases are those before the last and the last
pub front_of-last_phase : (phases : List Phase) → front_of phases ++ option_to_list (last_phase phases) ≡ phases
front_of-last_phase [] = refl
front_of-last_phase (phase ∷ more) = from-split phase more

last-pushed : (first : Phase) (phases : List Phase) (phase : Phase) → last_from first (phases ++ phase ∷ []) ≡ phase
last-pushed first [] phase = refl
last-pushed first (next ∷ more) phase = last-pushed next more phase

front-pushed : (first : Phase) (phases : List Phase) (phase : Phase)
    → front_from first (phases ++ phase ∷ []) ≡ first ∷ phases
front-pushed first [] phase = refl
front-pushed first (next ∷ more) phase = ap (λ ps. first ∷ ps) (front-pushed next more phase)

-- a phase at the end is the last
pub last_phase-push : (phases : List Phase) (phase : Phase) → last_phase (phases ++ phase ∷ []) ≡ Some phase
last_phase-push [] phase = refl
last_phase-push (first ∷ more) phase = ap Some (last-pushed first more phase)

-- and the others stand before it
pub front_of-push : (phases : List Phase) (phase : Phase) → front_of (phases ++ phase ∷ []) ≡ phases
front_of-push [] phase = refl
front_of-push (first ∷ more) phase = front-pushed first more phase
