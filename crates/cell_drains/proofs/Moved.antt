-- A job that waits is put on one cell, or is left over.
use Rattle.std.proofs.Common.{◌≡◌, ℕ, zero, suc, ◌+◌, Bool, true, false, cond, List, [], ◌∷◌, map, Option, Some, None, refl, ap, subst, ◌∙◌, arith}
use Rattle.std.specs.List.{All, Contains, sum_by}
use Rattle.std.proofs.lemmas.List.Elements.{All-head, All-tail}
use Rattle.std.proofs.lemmas.List.Sums.{sum_by-append, sum_by-cons}
use Rattle.diego_names.specs.declared.key.Key.{Key}
use Rattle.cell_records.specs.declared.answer.Answer.{Answer}
use Rattle.cell_records.specs.declared.job.Job.{Job}
use Rattle.auctioneer.specs.Auction.{auction_from, placement_on, stands_with}
use Rattle.auctioneer.specs.Laws.{NamesAnswer}
use Rattle.auctioneer.specs.Least.{best}
use Rattle.auctioneer.specs.Stands.{same_name}
use Rattle.auctioneer.specs.declared.placement.Placement.{Placement}
use Rattle.auctioneer.specs.declared.stand.Stand.{Stand}
use Rattle.room_facts.proofs.Lists.{later, sum_by-none, sum_by-plus, sum_by-same}
use Rattle.what_if.specs.Plans.{if_none, jobs_left}
use Rattle.what_if.proofs.Differing.{Differ}
use Rattle.cell_drains.specs.Laws.{is_instance, times_in}
use Rattle.cell_drains.specs.Steps.{is_on, jobs_on}
use Rattle.cell_drains.proofs.Grouping.{on_next}
use Rattle.cell_drains.proofs.Sums.{sum_at}

-- what is made of an element comes from one
contains_source : {X Y : Type 0} (f : X → Y) (xs : List X) (y : Y) → Contains (map f xs) y
    → (x : X) × Contains xs x × (f x ≡ y)
contains_source f [] y (k, lt, at) = absurd (omega arith)
contains_source f (x ∷ xs) y (zero, lt, at) = (x, (0, omega arith, refl), at)
contains_source f (x ∷ xs) y (suc k, lt, at) =
    let rest = contains_source f xs y (k, omega arith, at) in
    (rest.0, later x xs rest.0 rest.1, rest.2)

module _ (key : Key) where
  -- whether the job is the instance, as a number
  abbrev one : Job → ℕ
  one j = cond (is_instance key j.job) 1 0

  times_first : (j : Job) (js : List Job) → times_in key (j ∷ js) ≡ one j + times_in key js
  times_first j js = sum_by-cons one j js

  times_alone : (b : Bool) (j : Job) → times_in key (cond b (j ∷ []) []) ≡ cond b (one j) 0
  times_alone true j = omega (arith, times_first j [])
  times_alone false j = refl

  times_on : (cell : List ℕ) (j : Job) (p : Placement) (js : List Job) (ps : List Placement)
      → times_in key (jobs_on cell (j ∷ js) (p ∷ ps)) ≡ cond (is_on cell p) (one j) 0 + times_in key
      (jobs_on cell js ps)
  times_on cell j p js ps =
      ap (times_in key) (on_next cell j p js ps)
      ∙ sum_by-append one (cond (is_on cell p) (j ∷ []) []) (jobs_on cell js ps)
      ∙ ap (λ (n : ℕ). n + times_in key (jobs_on cell js ps)) (times_alone (is_on cell p) j)

  module _ (cs : List Answer) (differ : Differ (map (λ (c : Answer). c.cell) cs)) where
    -- how often the placements put the instance on the cells
    abbrev put : List Job → List Placement → ℕ
    put js ps = sum_by (λ c. times_in key (jobs_on c.cell js ps)) cs

    put_next : (j : Job) (p : Placement) (js : List Job) (ps : List Placement)
        → put (j ∷ js) (p ∷ ps) ≡ sum_by (λ c. cond (is_on c.cell p) (one j) 0) cs + put js ps
    put_next j p js ps =
        sum_by-same (λ (c : Answer). times_in key (jobs_on c.cell (j ∷ js) (p ∷ ps)))
        (λ c. cond (is_on c.cell p) (one j) 0 + times_in key (jobs_on c.cell js ps)) cs
        (λ c inside. times_on c.cell j p js ps)
        ∙ sum_by-plus (λ (c : Answer). cond (is_on c.cell p) (one j) 0) (λ c. times_in key (jobs_on c.cell js ps)) cs

    -- on the one cell of that name
    put_once : (cell : List ℕ) (n : ℕ) → Contains (map (λ (c : Answer). c.cell) cs) cell
        → sum_by (λ c. cond (same_name c.cell cell) n 0) cs ≡ n
    put_once cell n inside =
        let at = contains_source (λ (c : Answer). c.cell) cs cell inside in
        subst (λ (name : List ℕ). sum_by (λ c. cond (same_name c.cell name) n 0) cs ≡ n) at.2
        (sum_at (λ (c : Answer). c.cell) (λ c. n) cs at.0 differ at.1)

    put_or_left : (found : Option Stand) (j : Job) (left : List Job) → NamesAnswer cs (placement_on j found)
        → sum_by (λ c. cond (is_on c.cell (placement_on j found)) (one j) 0) cs + times_in key (if_none found j left)
        ≡ one j + times_in key left
    put_or_left None j left named =
        let none : sum_by (λ (c : Answer). 0) cs ≡ 0 = sum_by-none (λ (c : Answer). 0) cs (λ c inside. refl) in
        omega (arith, none, times_first j left)
    put_or_left (Some s) j left named = ap (λ (n : ℕ). n + times_in key left) (put_once s.cell (one j) named)

    pub put_and_left : (ss : List Stand) (js : List Job) → All (NamesAnswer cs) (auction_from ss js)
        → put js (auction_from ss js) + times_in key (jobs_left ss js) ≡ times_in key js
    put_and_left ss [] named = omega (
      arith,
      sum_by-none (λ (c : Answer). times_in key (jobs_on c.cell [] [])) cs
          (λ c inside. refl),
    )
    put_and_left ss (j ∷ js) named =
        let p : Placement = placement_on j (best ss j) in
        let next : List Stand = stands_with j (best ss j) ss in
        let ps : List Placement = auction_from next js in
        let here : sum_by (λ c. cond (is_on c.cell (placement_on j (best ss j))) (one j) 0) cs + times_in key
        (if_none (best ss j) j (jobs_left next js)) ≡ one j + times_in key (jobs_left next js) =
        put_or_left (best ss j) j (jobs_left next js) (All-head (NamesAnswer cs) p ps named) in
        let rest : put js ps + times_in key (jobs_left next js) ≡ times_in key js =
        put_and_left next js (All-tail (NamesAnswer cs) p ps named) in
        let more : put (j ∷ js) (p ∷ ps) ≡ sum_by (λ c. cond (is_on c.cell p) (one j) 0) cs + put js ps =
        put_next j p js ps in
        let whole : times_in key (j ∷ js) ≡ one j + times_in key js = times_first j js in
        omega (arith, here, rest, more, whole)
