-- What is looked up of a site for one loss after another.
use Rattle.std.specs.Prelude.{◌≡◌, ℕ, Bool, not, List, [], map, filter, Option, Some, unwrap_or}
use Rattle.std.specs.HashMap.{get}
use Rattle.std.specs.HashSet.{contains, HashSet}
use Rattle.std.specs.List.{list_any}
use Rattle.std.specs.Option.{option_eq, option_map}
use Rattle.diego_names.specs.declared.key.Key.{Key}
use Rattle.auctioneer.specs.Stands.{same_name}
use Rattle.what_if.specs.Holders.{found, IsHolders}
use Rattle.what_if.specs.Sites.{IsSite}
use Rattle.what_if.specs.Stays.{holder, same_key, stays}
use Rattle.what_if.specs.Waiting.{waits}
use Rattle.what_if.specs.declared.baseline.Baseline.{Baseline}
use Rattle.what_if.specs.declared.site.Site.{Site}
use Rattle.what_if.specs.declared.site.Stay.{Stay}
use Rattle.what_if.specs.declared.site.Wanted.{Wanted}
use Rattle.what_if.specs.declared.standing.Holders.{Holders}

-- the cells on which the instance stands, in their order
abbrev pub cells_in : List Stay → Key → List (List ℕ)
cells_in stays key = map (λ s. s.cell) (filter (λ s. same_key s.key key) stays)

-- whether the cell holds the instance while nothing is lost
abbrev pub does_hold : Site → List ℕ → Wanted → Bool
does_hold site cell w = option_eq same_name (holder site [] w.key) (Some cell)

-- the cells on which the instance stands while nothing is lost, as they are looked up
abbrev pub cells_by : Baseline → Key → List (List ℕ)
cells_by base key = unwrap_or (get same_key base.cells key) []

-- the wanted instances that the cell holds, as they are looked up
abbrev pub held_by : Baseline → List ℕ → List Wanted
held_by base cell = unwrap_or (get same_name base.held cell) []

-- an instance beside the cell that holds it, as it is looked up
abbrev pub beside_holder : Holders → Wanted → Option (List ℕ × Wanted)
beside_holder holders w = option_map (λ cell. (cell, w)) (found holders w.key)

-- whether the instance stands on a cell outside the set, as its cells are looked up
abbrev pub stands_outside : {S : Type 0} → Baseline → HashSet (List ℕ) S → Wanted → Bool
stands_outside base gone w = list_any (λ cell. not (contains same_name gone cell)) (cells_by base w.key)

-- all that is looked up is that of the site
pub record IsBaseline (base : Baseline) : Type 0 where
  pub sound : IsSite base.site.now
  pub before : IsHolders (stays base.site.now []) base.before
  pub waiting : base.waiting.items ≡ waits base.site.now []
  pub cells : (key : Key) → cells_by base key ≡ cells_in (stays base.site.now []) key
  pub held : (cell : List ℕ) → held_by base cell ≡ filter (does_hold base.site.now cell) base.site.now.wanted
