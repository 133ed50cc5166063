-- What a loss takes.
use Rattle.std.specs.Prelude.{ℕ, Bool, ◌&&◌, not, List, [], filter}
use Rattle.std.specs.List.Sorted.{IsPermutation}
use Rattle.what_if.specs.Stays.{is_held}
use Rattle.what_if.specs.declared.site.Site.{Site}
use Rattle.what_if.specs.declared.site.Wanted.{Wanted}

-- whether a cell holds the instance while nothing is lost, and none does with these cells lost
abbrev pub is_taken : Site → List (List ℕ) → Wanted → Bool
is_taken site lost w = is_held site [] w.key && not (is_held site lost w.key)

-- the wanted instances that the loss takes
abbrev pub all_taken : Site → List (List ℕ) → List Wanted
all_taken site lost = filter (is_taken site lost) site.wanted

-- these are the instances that the loss takes, in whatever order, and whichever of them are asked about
abbrev pub AreTaken : Site → List (List ℕ) → List Wanted → Type 0
AreTaken site lost taken = (p : Wanted → Bool) → IsPermutation (filter p (all_taken site lost)) (filter p taken)
