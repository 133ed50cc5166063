-- A cell takes no more than all jobs, so that what cells take may be summed.
use Rattle.std.proofs.Common.{◌≡◌, ℕ, ◌+◌, ◌*◌, ◌^◌, ◌<◌, ◌≤◌, Bool, true, false, cond, not, List, [], ◌∷◌, length, map, filter, zip, Option, Some, None, refl, sym, ap, subst, arith}
use Rattle.std.specs.List.{All, sum_by}
use Rattle.std.specs.Prelude.{nat_lt}
use Rattle.std.proofs.lemmas.List.{length-append, length-map}
use Rattle.std.proofs.lemmas.List.FromFn.{length-map-range_with_len}
use Rattle.std.proofs.lemmas.List.Elements.{All-cons, All-head, All-nil, All-tail}
use Rattle.std.proofs.lemmas.List.Filters.{sum_by-filter_both}
use Rattle.std.proofs.lemmas.List.Sums.{sum_by-le}
use Rattle.std.proofs.lemmas.Nat.{mul-le}
use Rattle.row_tables.specs.Table.{table}
use Rattle.diego_names.specs.Order.{name_order}
use Rattle.diego_names.proofs.Public.{IsKeyOrder-name_order}
use Rattle.cell_records.specs.declared.answer.Answer.{Answer}
use Rattle.cell_records.specs.declared.job.Job.{Job}
use Rattle.auctioneer.specs.Asked.{AreAnswers}
use Rattle.auctioneer.specs.Auction.{stands_with}
use Rattle.auctioneer.specs.Least.{best}
use Rattle.auctioneer.specs.Stands.{placed, same_name, stand_of, stands_of, with_job}
use Rattle.auctioneer.specs.declared.stand.Stand.{Stand}
use Rattle.forecast_records.specs.declared.fits.Filled.{Filled}
use Rattle.what_if.specs.Plans.{stands_from}
use Rattle.what_if.proofs.Differing.{Differ, length-table, sum-table}
use Rattle.loss_cases.specs.Fits.{each_filled, filled_cells, filled_of, jobs_more, place_of, place_order}

-- at most so many jobs stand there more
abbrev HasAtMost : ℕ → Stand × Stand → Type 0
HasAtMost n p = length p.1.jobs ≤ length p.0.jobs + n

-- no more of some than of all
pub sum_some : {X : Type 0} (f : X → ℕ) (p : X → Bool) (xs : List X) → sum_by f (filter p xs) ≤ sum_by f xs
sum_some f p xs = let both = sum_by-filter_both p (λ x. not (p x)) (λ x. refl) f xs in omega (arith, both)

none_more : (ss : List Stand) → All (HasAtMost 0) (zip ss ss)
none_more [] = All-nil (HasAtMost 0)
none_more (s ∷ ss) = All-cons (HasAtMost 0) (s, s) (zip ss ss) (omega arith) (none_more ss)

one_there : (n : ℕ) (before after : Stand) (job : Job) (b : Bool) → HasAtMost n (before, after)
    → HasAtMost (n + 1) (before, cond b (with_job job after) after)
one_there n before after job true h = let more = length-append after.jobs (job.job ∷ []) in omega (arith, h, more)
one_there n before after job false h = omega (arith, h)

one_more : (n : ℕ) (job : Job) (cell : List ℕ) (befores afters : List Stand) → All (HasAtMost n) (zip befores afters)
    → All (HasAtMost (n + 1)) (zip befores (placed job cell afters))
one_more n job cell [] afters h = All-nil (HasAtMost (n + 1))
one_more n job cell (b ∷ bs) [] h = All-nil (HasAtMost (n + 1))
one_more n job cell (b ∷ bs) (a ∷ as_) h =
    All-cons (HasAtMost (n + 1)) (b, cond (same_name a.cell cell) (with_job job a) a) (zip bs (placed job cell as_))
    (one_there n b a job (same_name a.cell cell) (All-head (HasAtMost n) (b, a) (zip bs as_) h))
    (one_more n job cell bs as_ (All-tail (HasAtMost n) (b, a) (zip bs as_) h))

weaker : (n : ℕ) (ps : List (Stand × Stand)) → All (HasAtMost n) ps → All (HasAtMost (n + 1)) ps
weaker n [] h = All-nil (HasAtMost (n + 1))
weaker n (p ∷ ps) h =
    All-cons (HasAtMost (n + 1)) p ps (let one = All-head (HasAtMost n) p ps h in omega (arith, one))
    (weaker n ps (All-tail (HasAtMost n) p ps h))

one_turn : (n : ℕ) (job : Job) (o : Option Stand) (befores afters : List Stand) → All (HasAtMost n) (zip befores afters)
    → All (HasAtMost (n + 1)) (zip befores (stands_with job o afters))
one_turn n job None befores afters h = weaker n (zip befores afters) h
one_turn n job (Some s) befores afters h = one_more n job s.cell befores afters h

all_turns : (n : ℕ) (jobs : List Job) (befores afters : List Stand) → All (HasAtMost n) (zip befores afters)
    → All (HasAtMost (n + length jobs)) (zip befores (stands_from afters jobs))
all_turns n [] befores afters h = subst (λ k. All (HasAtMost k) (zip befores afters)) (omega arith) h
all_turns n (job ∷ jobs) befores afters h =
    subst (λ k. All (HasAtMost k) (zip befores (stands_from afters (job ∷ jobs)))) (omega arith)
    (all_turns (n + 1) jobs befores (stands_with job (best afters job) afters)
    (one_turn n job (best afters job) befores afters h))

takes_few : (n : ℕ) (ps : List (Stand × Stand)) → All (HasAtMost n) ps
    → All (λ (f : Filled). f.instances ≤ n) (map (λ p. filled_of p.0 p.1) ps)
takes_few n [] h = All-nil (λ (f : Filled). f.instances ≤ n)
takes_few n (p ∷ ps) h =
    All-cons (λ (f : Filled). f.instances ≤ n) (filled_of p.0 p.1) (map (λ q. filled_of q.0 q.1) ps)
    (let one = All-head (HasAtMost n) p ps h in omega (arith, one))
    (takes_few n ps (All-tail (HasAtMost n) p ps h))

few_pairs : (befores afters : List Stand) → length (zip befores afters) ≤ length befores
few_pairs [] afters = omega arith
few_pairs (b ∷ bs) [] = omega arith
few_pairs (b ∷ bs) (a ∷ as_) = let rest = few_pairs bs as_ in omega (arith, rest)

same_cells : (cells : List Answer) → map (λ (s : Stand). s.cell) (map stand_of cells)
    ≡ map (λ (a : Answer). a.cell) cells
same_cells [] = refl
same_cells (a ∷ as_) = ap (λ (ns : List (List ℕ)). a.cell ∷ ns) (same_cells as_)

-- an auction has few cells
pub few_cells : (cells : List Answer) → AreAnswers cells → length (stands_of cells) ≤ 1000
few_cells cells h =
    let all = length-table name_order (λ (s : Stand). s.cell) IsKeyOrder-name_order (map stand_of cells)
    (subst Differ (sym (same_cells cells)) h.differ) in
    omega (arith, h.few, all, length-map cells stand_of)

-- so many instances more are so many
pub jobs_counted : (job : ℕ → Job) (index n : ℕ) → length (jobs_more job index n) ≡ n
jobs_counted job index n = length-map-range_with_len (λ (k : ℕ). job (index + k)) 0 n

-- what all cells take may be summed
pub sum_fits : (befores : List Stand) (jobs : List Job) → length befores ≤ 1000 → length jobs < 2 ^ 32
    → sum_by (λ (f : Filled). f.instances) (filled_cells befores (stands_from befores jobs)) ≤ 2 ^ 63
sum_fits befores jobs few many =
    let taken : Filled → ℕ = λ f. f.instances in
    let each : List Filled = each_filled befores (stands_from befores jobs) in
    let some : List Filled = filter (λ (f : Filled). nat_lt 0 f.instances) each in
    let pairs : List (Stand × Stand) = zip befores (stands_from befores jobs) in
    let told : sum_by taken (table place_order place_of some) ≤ sum_by taken some =
    sum-table place_order place_of taken some in
    let kept : sum_by taken some ≤ sum_by taken each = sum_some taken (λ (f : Filled). nat_lt 0 f.instances) each in
    let whole : 0 + length jobs ≡ length jobs = omega arith in
    let within : All (HasAtMost (length jobs)) pairs = subst (λ k. All (HasAtMost k) pairs) whole
    (all_turns 0 jobs befores befores (none_more befores)) in
    let most : sum_by taken each ≤ length each * length jobs =
    sum_by-le taken (length jobs) each (takes_few (length jobs) pairs within) in
    let cells : length each ≤ length befores = subst (λ n. n ≤ length befores)
    (sym (length-map pairs (λ (p : Stand × Stand). filled_of p.0 p.1)))
    (few_pairs befores (stands_from befores jobs)) in
    let bound : length each * length jobs ≤ 1000 * 2 ^ 32 =
    mul-le (length each) (length jobs) 1000 (2 ^ 32) (omega (arith, cells, few)) (omega (arith, many)) in
    omega (arith, told, kept, most, bound)
