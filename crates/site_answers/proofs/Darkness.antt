-- What is looked up of processes that run nowhere is what the definitions say.
use Rattle.std.proofs.Common.{◌≡◌, ℕ, ◌==◌, ◌&&◌, not, nat_lt, List, [], map, filter, is_some, Option, ap}
use Rattle.site_answers.specs.Dark.{AreShares, is_dark_by, was_displaced}
use Rattle.site_answers.specs.Losses.{displaced_processes, held_processes, is_dark, process_of}
use Rattle.what_if.specs.Holders.{IsHolders, found}
use Rattle.what_if.specs.Scenes.{IsScene}
use Rattle.what_if.specs.Stays.{is_held, stays}
use Rattle.what_if.specs.Waiting.{does_wait}
use Rattle.what_if.specs.declared.planning.Scene.{Scene}
use Rattle.what_if.specs.declared.site.Site.{Site}
use Rattle.what_if.specs.declared.site.Wanted.{Wanted}
use Rattle.what_if.specs.declared.standing.Holders.{Holders}
use Rattle.what_if.proofs.Agreeing.{filter-same}
use Rattle.site_answers.specs.declared.dark.Shares.{Shares}

-- the instances that a loss displaces
pub displaced-by_scene : (s : Scene) → IsScene s → map process_of (filter (was_displaced s) s.site.now.wanted)
    ≡ displaced_processes s.site.now s.lost.now
displaced-by_scene s h =
    ap (map process_of)
    (filter-same (was_displaced s) (λ (w : Wanted). does_wait s.site.now s.lost.now w && is_held s.site.now [] w.key)
    (λ w i. (not (is_some (h.after w.key i)) && not w.crashed) && is_some (h.before w.key i)) s.site.now.wanted)

-- the instances that are held
pub held-by_holders : (site : Site) (lost : List (List ℕ)) (holders : Holders) → IsHolders (stays site lost) holders
    → map process_of (filter (λ (w : Wanted). is_some (found holders w.key)) site.wanted) ≡ held_processes site lost
held-by_holders site lost holders h =
    ap (map process_of)
    (filter-same (λ (w : Wanted). is_some (found holders w.key)) (λ w. is_held site lost w.key)
    (λ w. ap (λ (o : Option (List ℕ)). is_some o) (h w.key)) site.wanted)

pub dark-by_shares : {site : Site} {lost : List (List ℕ)} {shares : Shares} → AreShares site lost shares
    → (process : List ℕ) → is_dark_by shares process ≡ is_dark site lost process
dark-by_shares h process = λ i. nat_lt 0 (h.displaced process i) && (h.held process i == 0)
