-- How it is looked up which processes run nowhere in the meantime.
use Rattle.std.specs.Prelude.{◌≡◌, ℕ, ◌==◌, Bool, ◌&&◌, nat_lt, is_some, List, unwrap_or}
use Rattle.std.specs.HashMap.{get}
use Rattle.auctioneer.specs.Stands.{same_name}
use Rattle.site_answers.specs.Losses.{displaced_processes, held_processes, times}
use Rattle.site_answers.specs.declared.dark.Shares.{Shares}
use Rattle.what_if.specs.Holders.{does_wait_by, found}
use Rattle.what_if.specs.declared.planning.Scene.{Scene}
use Rattle.what_if.specs.declared.site.Site.{Site}
use Rattle.what_if.specs.declared.site.Wanted.{Wanted}

-- whether the instance waits with the loss and a cell holds it without, as cells are looked up
abbrev pub was_displaced : Scene → Wanted → Bool
was_displaced s w = does_wait_by s.after.now w && is_some (found s.before.now w.key)

-- how many instances of the process are displaced, and how many are held
abbrev pub displaced_by : Shares → List ℕ → ℕ
displaced_by shares process = unwrap_or (get same_name shares.displaced process) 0

abbrev pub held_by : Shares → List ℕ → ℕ
held_by shares process = unwrap_or (get same_name shares.held process) 0

-- the shares are those of the loss
pub record AreShares (site : Site) (lost : List (List ℕ)) (shares : Shares) : Type 0 where
  pub displaced : (process : List ℕ) → displaced_by shares process ≡ times process (displaced_processes site lost)
  pub held : (process : List ℕ) → held_by shares process ≡ times process (held_processes site lost)

-- whether the process has displaced instances and none that is held, as it is looked up
abbrev pub is_dark_by : Shares → List ℕ → Bool
is_dark_by shares process = nat_lt 0 (displaced_by shares process) && (held_by shares process == 0)
