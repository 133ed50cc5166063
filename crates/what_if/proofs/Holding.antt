-- How cells that hold instances are looked up.
use Rattle.std.proofs.Common.{◌≡◌, ℕ, ◌+◌, ◌-◌, ◌<◌, ◌≤◌, arith, cond, ◌&&◌, not, List, [], length, map, drop, get_or, is_some, Option, Some, refl, sym, ap, ◌∙◌, ◌++◌}
use Rattle.std.proofs.lemmas.List.Elements.{filter_agree}
use Rattle.diego_names.specs.declared.key.Key.{Key}
use Rattle.cell_records.specs.declared.job_name.JobName.{JobName}
use Rattle.cell_records.specs.declared.job_name.JobName.TheVariants.{Lrp, Task}
use Rattle.what_if.specs.Holders.{found_before, does_wait_by, waits_by, IsHolders}
use Rattle.what_if.specs.Stays.{holder_in, same_key, stays}
use Rattle.what_if.specs.Waiting.{does_wait, instance_job, is_displaced, held_before, waits}
use Rattle.what_if.specs.declared.site.Site.{Site}
use Rattle.what_if.specs.declared.site.Stay.{Stay}
use Rattle.what_if.specs.declared.site.Wanted.{Wanted}
use Rattle.what_if.specs.declared.standing.Holders.{Holders}
use Rattle.what_if.proofs.Lists.{drop_next}

-- of the instances from one on, the first that is the one
pub holder_next : (ss : List Stay) (i : ℕ) (s : Stay) → i < length ss → s ≡ get_or ss i s → (key : Key)
    → cond (same_key s.key key) (Some s.cell) (holder_in (drop (i + 1) ss) key) ≡ holder_in (drop i ss) key
holder_next ss i s lt e key = sym (ap (λ (xs : List Stay). holder_in xs key) (drop_next ss i s lt e))

-- what waits is what waits by the holders of that time
pub waits-by_holders : (site : Site) (lost : List (List ℕ)) (h : Holders) → IsHolders (stays site lost) h
    → waits_by site h ≡ waits site lost
waits-by_holders site lost h holds =
    ap (λ (ws : List Wanted). map instance_job ws ++ site.pending)
    (filter_agree (does_wait_by h) (does_wait site lost) (λ w.
    ap (λ (o : Option (List ℕ)). not (is_some o) && not w.crashed) (holds w.key)) site.wanted)

-- a job is displaced if the holders from before the loss have it
pub displaced-by_holders : (site : Site) (h : Holders) → IsHolders (stays site []) h → (j : JobName)
    → is_some (found_before h j) ≡ is_displaced site j
displaced-by_holders site h holds (Lrp key) = ap (λ (o : Option (List ℕ)). is_some o) (holds key)
displaced-by_holders site h holds (Task task) = refl

-- and the cell that held it is theirs
pub held-by_holders : (site : Site) (h : Holders) → IsHolders (stays site []) h → (j : JobName)
    → found_before h j ≡ held_before site j
held-by_holders site h holds (Lrp key) = holds key
held-by_holders site h holds (Task task) = refl

-- the same, going back from behind it
pub holder_back : (ss : List Stay) (n : ℕ) (s : Stay) → 0 < n → n ≤ length ss → s ≡ get_or ss (n - 1) s → (key : Key)
    → cond (same_key s.key key) (Some s.cell) (holder_in (drop n ss) key) ≡ holder_in (drop (n - 1) ss) key
holder_back ss n s some within e key =
    let back : n ≡ n - 1 + 1 = omega arith in
    ap (λ (m : ℕ). cond (same_key s.key key) (Some s.cell) (holder_in (drop m ss) key)) back
    ∙ holder_next ss (n - 1) s (omega arith) e key
