-- Cells of which an auction reads the same for these jobs take the same ones.
use Rattle.std.proofs.Common.{◌≡◌, ℕ, ◌+◌, Bool, true, false, cond, List, [], ◌∷◌, map, Option, Some, None, refl, sym, ap, subst, ◌∙◌}
use Rattle.std.specs.FinMap.Entries.{by_order}
use Rattle.std.specs.List.{All, AllZip, count_by}
use Rattle.std.specs.declared.cmp.Ordering.{Ordering}
use Rattle.std.specs.declared.cmp.Ordering.TheVariants.{Less, Equal, Greater}
use Rattle.std.proofs.lemmas.List.Elements.{All-head, All-tail}
use Rattle.std.proofs.lemmas.List.Sums.{sum_by-append, sum_by-cons}
use Rattle.auction_scoring.specs.Order.{is_better}
use Rattle.auction_scoring.specs.Score.{score_of}
use Rattle.auctioneer.specs.Auction.{auction_from, placement_on, stands_with}
use Rattle.auctioneer.specs.Least.{best, best_in, better_one}
use Rattle.auctioneer.specs.Stands.{can_take, held_in, held_of, in_zone, is_of, less, placed, same_name, score_in, with_job}
use Rattle.auctioneer.specs.declared.placement.Placement.TheVariants.{On}
use Rattle.auctioneer.specs.declared.stand.Stand.{Stand}
use Rattle.cell_records.specs.declared.job.Job.{Job}
use Rattle.cell_records.specs.declared.job_name.JobName.{JobName}
use Rattle.diego_names.specs.Order.{name_order}
use Rattle.row_tables.specs.Table.{put_row, table}
use Rattle.what_if.specs.Plans.{if_none, left_over, stands_from, without_jobs}

-- an auction reads the same of both cells for each of these jobs
pub record IsReadAlike (P : JobName → Type 0) (s t : Stand) : Type 0 where
  pub bare : without_jobs s ≡ without_jobs t
  pub held : (job : JobName) → P job → held_of job s ≡ held_of job t

-- a choice between what is alike, by tests that agree
chosen : {X : Type 0} (A : X → X → Type 0) (b d : Bool) (x x' y y' : X) → b ≡ d → A x y → A x' y'
    → A (cond b x x') (cond d y y')
chosen A true true x x' y y' e f g = f
chosen A false false x x' y y' e f g = g
chosen A true false x x' y y' e f g = absurd cc
chosen A false true x x' y y' e f g = absurd cc

module _ (P : JobName → Type 0) where
  abbrev pub AreAlike : List Stand → List Stand → Type 0
  AreAlike ss ts = AllZip (IsReadAlike P) ss ts

  -- both are there and alike, or neither is
  abbrev AlikeIf : Option Stand → Option Stand → Type 0
  AlikeIf None None = Unit {0}
  AlikeIf None (Some t) = ⊥
  AlikeIf (Some s) None = ⊥
  AlikeIf (Some s) (Some t) = IsReadAlike P s t

  zone_alike : (job : JobName) → P job → (zone : List ℕ) (ss ts : List Stand) → AreAlike ss ts
      → in_zone ss job zone ≡ in_zone ts job zone
  zone_alike job p zone [] [] h = refl
  zone_alike job p zone [] (t ∷ ts) h = absurd h
  zone_alike job p zone (s ∷ ss) [] h = absurd h
  zone_alike job p zone (s ∷ ss) (t ∷ ts) h =
      let first : held_in job zone s ≡ held_in job zone t =
      λ i. cond (same_name (h.0.bare i).zone zone) (h.0.held job p i) 0 in
      let rest = zone_alike job p zone ss ts h.1 in
      sum_by-cons (held_in job zone) s ss ∙ (λ i. first i + rest i) ∙ sym (sum_by-cons (held_in job zone) t ts)

  module _ (job : Job) (p : P job.job) (ss ts : List Stand) (all : AreAlike ss ts) where
    score_alike : (s t : Stand) → IsReadAlike P s t → score_in ss job.job s ≡ score_in ts job.job t
    score_alike s t h =
        let zone : in_zone ss job.job s.zone ≡ in_zone ts job.job t.zone =
        zone_alike job.job p s.zone ss ts all ∙ ap (λ (u : Stand). in_zone ts job.job u.zone) h.bare in
        λ i. score_of (record {
          cell = (h.bare i).cell;
          tag = (h.bare i).tag;
          totals = (h.bare i).totals;
          free = (h.bare i).free;
          in_zone = zone i;
          on_cell = h.held job.job p i;
        })

    better_alike : (s t : Stand) (x y : Option Stand) → IsReadAlike P s t → AlikeIf x y
        → AlikeIf (better_one ss job s x) (better_one ts job t y)
    better_alike s t None None h f = h
    better_alike s t None (Some y) h f = absurd f
    better_alike s t (Some x) None h f = absurd f
    better_alike s t (Some x) (Some y) h f =
        chosen AlikeIf (is_better (score_in ss job.job x) (score_in ss job.job s))
        (is_better (score_in ts job.job y) (score_in ts job.job t)) (Some x) (Some s) (Some y) (Some t)
        (λ i. is_better (score_alike x y f i) (score_alike s t h i)) f h

    best_alike : (xs ys : List Stand) → AreAlike xs ys → AlikeIf (best_in ss job xs) (best_in ts job ys)
    best_alike [] [] h = tt
    best_alike [] (y ∷ ys) h = absurd h
    best_alike (x ∷ xs) [] h = absurd h
    best_alike (x ∷ xs) (y ∷ ys) h =
        let rest = best_alike xs ys h.1 in
        chosen AlikeIf (can_take job x) (can_take job y) (better_one ss job x (best_in ss job xs)) (best_in ss job xs)
        (better_one ts job y (best_in ts job ys)) (best_in ts job ys) (ap (can_take job) h.0.bare)
        (better_alike x y (best_in ss job xs) (best_in ts job ys) h.0 rest) rest

  -- with one job more
  with_alike : (job : Job) (s t : Stand) → IsReadAlike P s t → IsReadAlike P (with_job job s) (with_job job t)
  with_alike job s t h = record {
    bare = ap (λ (u : Stand). record u { free = less u.free job }) h.bare;
    held = λ other p.
        sum_by-append (λ x. cond (is_of other x) 1 0) s.jobs (job.job ∷ [])
        ∙ ap (λ (n : ℕ). n + count_by (is_of other) (job.job ∷ [])) (h.held other p)
        ∙ sym (sum_by-append (λ x. cond (is_of other x) 1 0) t.jobs (job.job ∷ []));
  }

  placed_alike : (job : Job) (cell other : List ℕ) → cell ≡ other → (ss ts : List Stand) → AreAlike ss ts
      → AreAlike (placed job cell ss) (placed job other ts)
  placed_alike job cell other e [] [] h = tt
  placed_alike job cell other e [] (t ∷ ts) h = absurd h
  placed_alike job cell other e (s ∷ ss) [] h = absurd h
  placed_alike job cell other e (s ∷ ss) (t ∷ ts) h = (
    chosen (IsReadAlike P) (same_name s.cell cell) (same_name t.cell other) (with_job job s) s (with_job job t) t
        (λ i. same_name (h.0.bare i).cell (e i)) (with_alike job s t h.0) h.0,
    placed_alike job cell other e ss ts h.1,
  )

  next_alike : (job : Job) (x y : Option Stand) (ss ts : List Stand) → AlikeIf x y → AreAlike ss ts
      → AreAlike (stands_with job x ss) (stands_with job y ts)
  next_alike job None None ss ts f h = h
  next_alike job None (Some y) ss ts f h = absurd f
  next_alike job (Some x) None ss ts f h = absurd f
  next_alike job (Some x) (Some y) ss ts f h =
      placed_alike job x.cell y.cell (ap (λ (u : Stand). u.cell) f.bare) ss ts h

  goes_alike : (job : Job) (x y : Option Stand) → AlikeIf x y → placement_on job x ≡ placement_on job y
  goes_alike job None None f = refl
  goes_alike job None (Some y) f = absurd f
  goes_alike job (Some x) None f = absurd f
  goes_alike job (Some x) (Some y) f = ap (λ (u : Stand). On job.job u.cell) f.bare

  -- one job more goes to cells of one name, and leaves cells that are alike
  step_alike : (ss ts : List Stand) (job : Job) → P job.job → AreAlike ss ts
      → AreAlike (stands_with job (best ss job) ss) (stands_with job (best ts job) ts)
  step_alike ss ts job p h =
      next_alike job (best ss job) (best ts job) ss ts (best_alike job p ss ts h ss ts h) h

  pub auction_alike : (ss ts : List Stand) (jobs : List Job) → All (λ j. P j.job) jobs → AreAlike ss ts
      → auction_from ss jobs ≡ auction_from ts jobs
  auction_alike ss ts [] all h = refl
  auction_alike ss ts (job ∷ jobs) all h =
      let p : P job.job = All-head (λ (j : Job). P j.job) job jobs all in
      let here = goes_alike job (best ss job) (best ts job) (best_alike job p ss ts h ss ts h) in
      let rest = auction_alike (stands_with job (best ss job) ss) (stands_with job (best ts job) ts) jobs
      (All-tail (λ (j : Job). P j.job) job jobs all) (step_alike ss ts job p h) in
      λ i. here i ∷ rest i

  pub then_alike : (ss ts : List Stand) (jobs : List Job) → All (λ j. P j.job) jobs → AreAlike ss ts
      → AreAlike (stands_from ss jobs) (stands_from ts jobs)
  then_alike ss ts [] all h = h
  then_alike ss ts (job ∷ jobs) all h =
      then_alike (stands_with job (best ss job) ss) (stands_with job (best ts job) ts) jobs
      (All-tail (λ (j : Job). P j.job) job jobs all)
      (step_alike ss ts job (All-head (λ (j : Job). P j.job) job jobs all) h)

  -- without their jobs they are the same
  pub bare_alike : (ss ts : List Stand) → AreAlike ss ts → map without_jobs ss ≡ map without_jobs ts
  bare_alike [] [] h = refl
  bare_alike [] (t ∷ ts) h = absurd h
  bare_alike (s ∷ ss) [] h = absurd h
  bare_alike (s ∷ ss) (t ∷ ts) h = let rest = bare_alike ss ts h.1 in λ i. h.0.bare i ∷ rest i

  none_alike : {X : Type 0} (x y : Option Stand) → AlikeIf x y → (a : X) (rest : List X)
      → if_none x a rest ≡ if_none y a rest
  none_alike None None f a rest = refl
  none_alike None (Some y) f a rest = absurd f
  none_alike (Some x) None f a rest = absurd f
  none_alike (Some x) (Some y) f a rest = refl

  -- what is told alike of cells without their jobs is told alike of the jobs left over
  pub left_alike : {X : Type 0} (tell : List Stand → Job → X)
      → ((ss ts : List Stand) (job : Job) → map without_jobs ss ≡ map without_jobs ts → tell ss job ≡ tell ts job)
      → (ss ts : List Stand) (jobs : List Job) → All (λ j. P j.job) jobs → AreAlike ss ts
      → left_over tell ss jobs ≡ left_over tell ts jobs
  left_alike tell same ss ts [] all h = refl
  left_alike {X} tell same ss ts (job ∷ jobs) all h =
      let p : P job.job = All-head (λ (j : Job). P j.job) job jobs all in
      let rest = left_alike tell same (stands_with job (best ss job) ss) (stands_with job (best ts job) ts) jobs
      (All-tail (λ (j : Job). P j.job) job jobs all) (step_alike ss ts job p h) in
      let more : List X = left_over tell (stands_with job (best ts job) ts) jobs in
      (λ i. if_none (best ss job) (same ss ts job (bare_alike ss ts h) i) (rest i))
      ∙ none_alike (best ss job) (best ts job) (best_alike job p ss ts h ss ts h) (tell ts job) more

  ordered_alike : (o p : Ordering) (a b c a' b' c' : List Stand) → o ≡ p → AreAlike a a' → AreAlike b b' → AreAlike c c'
      → AreAlike (by_order o a b c) (by_order p a' b' c')
  ordered_alike o p a b c a' b' c' e f g h =
      subst (λ q. AreAlike (by_order o a b c) (by_order q a' b' c')) e
      (elim o as (λ q. AreAlike (by_order q a b c) (by_order q a' b' c')) [
        | Less ↦ f
        | Equal ↦ g
        | Greater ↦ h
      ])

  put_alike : (s t : Stand) (ss ts : List Stand) → IsReadAlike P s t → AreAlike ss ts
      → AreAlike (put_row name_order (λ x. x.cell) s ss) (put_row name_order (λ x. x.cell) t ts)
  put_alike s t [] [] h all = (h, tt)
  put_alike s t [] (y ∷ ts) h all = absurd all
  put_alike s t (x ∷ ss) [] h all = absurd all
  put_alike s t (x ∷ ss) (y ∷ ts) h all =
      ordered_alike (name_order s.cell x.cell) (name_order t.cell y.cell)
      (s ∷ x ∷ ss) (s ∷ ss) (x ∷ put_row name_order (λ z. z.cell) s ss)
      (t ∷ y ∷ ts) (t ∷ ts) (y ∷ put_row name_order (λ z. z.cell) t ts)
      (λ i. name_order (h.bare i).cell (all.0.bare i).cell) (h, all) (h, all.1) (all.0, put_alike s t ss ts h all.1)

  pub table_alike : (ss ts : List Stand) → AreAlike ss ts
      → AreAlike (table name_order (λ x. x.cell) ss) (table name_order (λ x. x.cell) ts)
  table_alike [] [] h = tt
  table_alike [] (t ∷ ts) h = absurd h
  table_alike (s ∷ ss) [] h = absurd h
  table_alike (s ∷ ss) (t ∷ ts) h =
      put_alike s t (table name_order (λ x. x.cell) ss) (table name_order (λ x. x.cell) ts) h.0 (table_alike ss ts h.1)
