-- What is looked up of the processes of a site for one loss after another.
use Rattle.std.specs.Prelude.{◌≡◌, ℕ, ◌==◌, Bool, ◌&&◌, not, nat_lt, List, [], map, filter, unwrap_or}
use Rattle.std.specs.HashMap.{get}
use Rattle.auctioneer.specs.Stands.{same_name}
use Rattle.site_answers.specs.Losses.{held_processes, is_of_many, process_of, times}
use Rattle.site_answers.specs.declared.going_dark.Processes.{Processes}
use Rattle.site_answers.specs.declared.going_dark.Counts.{Counts}
use Rattle.site_spread.specs.Spread.{processes}
use Rattle.what_if.specs.declared.site.Site.{Site}
use Rattle.what_if.specs.declared.site.Wanted.{Wanted}

-- how many instances of the process are held while nothing is lost, as it is looked up
abbrev pub held_without : Processes → List ℕ → ℕ
held_without processes process = unwrap_or (get same_name processes.held process) 0

-- they are the processes of two instances or more, and of each is looked up how many instances are held
pub record AreProcesses (site : Site) (p : Processes) : Type 0 where
  pub many : p.many.items ≡ filter (is_of_many site.wanted) (map process_of (processes site))
  pub held : (process : List ℕ) → held_without p process ≡ times process (held_processes site [])

-- how many instances of the process a loss displaces, and how many it takes with those that have crashed
abbrev pub displaced_in : Counts → List ℕ → ℕ
displaced_in counts process = unwrap_or (get same_name counts.displaced process) 0

abbrev pub taken_in : Counts → List ℕ → ℕ
taken_in counts process = unwrap_or (get same_name counts.taken process) 0

-- these are counted of these instances
pub record AreCounts (instances : List Wanted) (counts : Counts) : Type 0 where
  pub displaced : (process : List ℕ) →
      displaced_in counts process ≡ times process (map process_of (filter (λ w. not w.crashed) instances))
  pub taken : (process : List ℕ) → taken_in counts process ≡ times process (map process_of instances)

-- whether the process has displaced instances and none that is held, as it is looked up
abbrev pub goes_dark : Processes → Counts → List ℕ → Bool
goes_dark processes counts process =
    nat_lt 0 (displaced_in counts process) && (taken_in counts process == held_without processes process)
