-- The first instance of a process that is found, going back from behind it.
use Rattle.std.proofs.Common.{◌≡◌, ℕ, ◌-◌, ◌<◌, ◌≤◌, Bool, cond, List, length, drop, get_or, Option, Some, true, false, refl, ap, ◌∙◌}
use Rattle.std.specs.List.{find}
use Rattle.std.specs.Option.{option_map}
use Rattle.auctioneer.specs.Stands.{same_name}
use Rattle.site_spread.specs.Together.{first_place, place_of}
use Rattle.site_spread.specs.Spread.{is_of_process}
use Rattle.what_if.specs.declared.site.Stay.{Stay}
use Rattle.what_if.proofs.Finding.{find_back}
use Rattle.what_if.proofs.Names.{names_turned}

pub stay_back : (ss : List Stay) (n : ℕ) (s : Stay) → 0 < n → n ≤ length ss → s ≡ get_or ss (n - 1) s
    → (process : List ℕ) → cond (same_name s.key.process process) (Some s) (find (is_of_process process) (drop n ss))
    ≡ find (is_of_process process) (drop (n - 1) ss)
stay_back ss n s some within e process =
    ap (λ (b : Bool). cond b (Some s) (find (is_of_process process) (drop n ss))) (names_turned s.key.process process)
    ∙ find_back (is_of_process process) ss n s some within e

-- the same of its place
pub place_back : (ss : List Stay) (n : ℕ) (s : Stay) → 0 < n → n ≤ length ss → s ≡ get_or ss (n - 1) s
    → (process : List ℕ) → cond (same_name s.key.process process) (Some (place_of s)) (first_place (drop n ss) process)
    ≡ first_place (drop (n - 1) ss) process
place_back ss n s some within e process =
    either (same_name s.key.process process) (find (is_of_process process) (drop n ss))
    ∙ ap (option_map place_of) (stay_back ss n s some within e process)
  where
    either : (b : Bool) (o : Option Stay) → cond b (Some (place_of s)) (option_map place_of o)
        ≡ option_map place_of (cond b (Some s) o)
    either true o = refl
    either false o = refl
