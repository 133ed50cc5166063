-- Cells of which an auction reads the same are given the same jobs.
use Rattle.std.proofs.Common.{◌≡◌, ℕ, ◌+◌, Bool, true, false, cond, List, [], ◌∷◌, map, Option, Some, None, refl, sym, ap, subst, ◌∙◌}
use Rattle.std.specs.FinMap.Entries.{by_order}
use Rattle.std.specs.List.{AllZip, count_by}
use Rattle.std.specs.declared.cmp.Ordering.{Ordering}
use Rattle.std.specs.declared.cmp.Ordering.TheVariants.{Less, Equal, Greater}
use Rattle.std.proofs.lemmas.List.Sums.{sum_by-append, sum_by-cons}
use Rattle.auction_scoring.specs.Fits.{fits}
use Rattle.auction_scoring.specs.Order.{is_better}
use Rattle.auction_scoring.specs.Score.{score_of}
use Rattle.auctioneer.specs.Auction.{auction_from, placement_on, stands_with}
use Rattle.auctioneer.specs.Least.{best, best_in, better_one}
use Rattle.auctioneer.specs.Stands.{can_take, held_in, in_zone, is_of, less, placed, same_name, score_in, stand_of, with_job}
use Rattle.auctioneer.specs.declared.placement.Placement.TheVariants.{On}
use Rattle.auctioneer.specs.declared.stand.Stand.{Stand}
use Rattle.cell_records.specs.declared.answer.Answer.{Answer}
use Rattle.cell_records.specs.declared.job.Job.{Job}
use Rattle.cell_records.specs.declared.job_name.JobName.{JobName}
use Rattle.diego_names.specs.Order.{name_order}
use Rattle.row_tables.specs.Table.{put_row, table}
use Rattle.forecast_laws.specs.Plans.{IsReadAlike, IsReadAs}

abbrev pub AreAlike : List Stand → List Stand → Type 0
AreAlike ss ts = AllZip IsReadAlike ss ts

-- both are there and alike, or neither is
abbrev AlikeIf : Option Stand → Option Stand → Type 0
AlikeIf None None = Unit {0}
AlikeIf None (Some t) = ⊥
AlikeIf (Some s) None = ⊥
AlikeIf (Some s) (Some t) = IsReadAlike s t

can_alike : (job : Job) (s t : Stand) → IsReadAlike s t → can_take job s ≡ can_take job t
can_alike job s t h = λ i. fits job (record {
  cell = h.cell i;
  tag = h.tag i;
  totals = h.totals i;
  free = h.free i;
  in_zone = 0;
  on_cell = 0;
})

zone_alike : (job : JobName) (zone : List ℕ) (ss ts : List Stand) → AreAlike ss ts
    → in_zone ss job zone ≡ in_zone ts job zone
zone_alike job zone [] [] h = refl
zone_alike job zone [] (t ∷ ts) h = absurd h
zone_alike job zone (s ∷ ss) [] h = absurd h
zone_alike job zone (s ∷ ss) (t ∷ ts) h =
    let first : held_in job zone s ≡ held_in job zone t = λ i. cond (same_name (h.0.zone i) zone) (h.0.held job i) 0 in
    let rest = zone_alike job zone ss ts h.1 in
    sum_by-cons (held_in job zone) s ss ∙ (λ i. first i + rest i) ∙ sym (sum_by-cons (held_in job zone) t ts)

-- a choice between what is alike, by tests that agree
chosen_alike : (b d : Bool) (x x' y y' : Option Stand) → b ≡ d → AlikeIf x y → AlikeIf x' y'
    → AlikeIf (cond b x x') (cond d y y')
chosen_alike true true x x' y y' e f g = f
chosen_alike false false x x' y y' e f g = g
chosen_alike true false x x' y y' e f g = absurd cc
chosen_alike false true x x' y y' e f g = absurd cc

module _ (job : Job) (ss ts : List Stand) (all : AreAlike ss ts) where
  score_alike : (s t : Stand) → IsReadAlike s t → score_in ss job.job s ≡ score_in ts job.job t
  score_alike s t h =
      let zone : in_zone ss job.job s.zone ≡ in_zone ts job.job t.zone =
      zone_alike job.job s.zone ss ts all ∙ ap (in_zone ts job.job) h.zone in
      λ i. score_of (record {
        cell = h.cell i;
        tag = h.tag i;
        totals = h.totals i;
        free = h.free i;
        in_zone = zone i;
        on_cell = h.held job.job i;
      })

  better_alike : (s t : Stand) (x y : Option Stand) → IsReadAlike s t → AlikeIf x y
      → AlikeIf (better_one ss job s x) (better_one ts job t y)
  better_alike s t None None h f = h
  better_alike s t None (Some y) h f = absurd f
  better_alike s t (Some x) None h f = absurd f
  better_alike s t (Some x) (Some y) h f =
      chosen_alike (is_better (score_in ss job.job x) (score_in ss job.job s))
      (is_better (score_in ts job.job y) (score_in ts job.job t)) (Some x) (Some s) (Some y) (Some t)
      (λ i. is_better (score_alike x y f i) (score_alike s t h i)) f h

  best_alike : (xs ys : List Stand) → AreAlike xs ys → AlikeIf (best_in ss job xs) (best_in ts job ys)
  best_alike [] [] h = tt
  best_alike [] (y ∷ ys) h = absurd h
  best_alike (x ∷ xs) [] h = absurd h
  best_alike (x ∷ xs) (y ∷ ys) h =
      let rest = best_alike xs ys h.1 in
      chosen_alike (can_take job x) (can_take job y) (better_one ss job x (best_in ss job xs)) (best_in ss job xs)
      (better_one ts job y (best_in ts job ys)) (best_in ts job ys)
      (can_alike job x y h.0) (better_alike x y (best_in ss job xs) (best_in ts job ys) h.0 rest) rest

-- with one job more
with_alike : (job : Job) (s t : Stand) → IsReadAlike s t → IsReadAlike (with_job job s) (with_job job t)
with_alike job s t h = record {
  cell = h.cell;
  zone = h.zone;
  tag = h.tag;
  totals = h.totals;
  free = ap (λ f. less f job) h.free;
  held = λ other.
      sum_by-append (λ x. cond (is_of other x) 1 0) s.jobs (job.job ∷ [])
      ∙ ap (λ (n : ℕ). n + count_by (is_of other) (job.job ∷ [])) (h.held other)
      ∙ sym (sum_by-append (λ x. cond (is_of other x) 1 0) t.jobs (job.job ∷ []));
}

placed_there : (job : Job) (s t : Stand) (b d : Bool) → b ≡ d → IsReadAlike s t
    → IsReadAlike (cond b (with_job job s) s) (cond d (with_job job t) t)
placed_there job s t true true e h = with_alike job s t h
placed_there job s t false false e h = h
placed_there job s t true false e h = absurd cc
placed_there job s t false true e h = absurd cc

placed_alike : (job : Job) (cell other : List ℕ) → cell ≡ other → (ss ts : List Stand) → AreAlike ss ts
    → AreAlike (placed job cell ss) (placed job other ts)
placed_alike job cell other e [] [] h = tt
placed_alike job cell other e [] (t ∷ ts) h = absurd h
placed_alike job cell other e (s ∷ ss) [] h = absurd h
placed_alike job cell other e (s ∷ ss) (t ∷ ts) h = (
  placed_there job s t (same_name s.cell cell) (same_name t.cell other) (λ i. same_name (h.0.cell i) (e i)) h.0,
  placed_alike job cell other e ss ts h.1,
)

next_alike : (job : Job) (x y : Option Stand) (ss ts : List Stand) → AlikeIf x y → AreAlike ss ts
    → AreAlike (stands_with job x ss) (stands_with job y ts)
next_alike job None None ss ts f h = h
next_alike job None (Some y) ss ts f h = absurd f
next_alike job (Some x) None ss ts f h = absurd f
next_alike job (Some x) (Some y) ss ts f h = placed_alike job x.cell y.cell f.cell ss ts h

goes_alike : (job : Job) (x y : Option Stand) → AlikeIf x y → placement_on job x ≡ placement_on job y
goes_alike job None None f = refl
goes_alike job None (Some y) f = absurd f
goes_alike job (Some x) None f = absurd f
goes_alike job (Some x) (Some y) f = ap (On job.job) f.cell

-- the same jobs go to cells of the same names
pub auction_alike : (ss ts : List Stand) (jobs : List Job) → AreAlike ss ts
    → auction_from ss jobs ≡ auction_from ts jobs
auction_alike ss ts [] h = refl
auction_alike ss ts (job ∷ jobs) h =
    let found : AlikeIf (best ss job) (best ts job) = best_alike job ss ts h ss ts h in
    let here = goes_alike job (best ss job) (best ts job) found in
    let rest = auction_alike (stands_with job (best ss job) ss) (stands_with job (best ts job) ts) jobs
    (next_alike job (best ss job) (best ts job) ss ts found h) in
    λ i. here i ∷ rest i

ordered_alike : (o p : Ordering) (a b c a' b' c' : List Stand) → o ≡ p → AreAlike a a' → AreAlike b b' → AreAlike c c'
    → AreAlike (by_order o a b c) (by_order p a' b' c')
ordered_alike o p a b c a' b' c' e f g h =
    subst (λ q. AreAlike (by_order o a b c) (by_order q a' b' c')) e
    (elim o as (λ q. AreAlike (by_order q a b c) (by_order q a' b' c')) [
      | Less ↦ f
      | Equal ↦ g
      | Greater ↦ h
    ])

put_alike : (s t : Stand) (ss ts : List Stand) → IsReadAlike s t → AreAlike ss ts
    → AreAlike (put_row name_order (λ x. x.cell) s ss) (put_row name_order (λ x. x.cell) t ts)
put_alike s t [] [] h all = (h, tt)
put_alike s t [] (y ∷ ts) h all = absurd all
put_alike s t (x ∷ ss) [] h all = absurd all
put_alike s t (x ∷ ss) (y ∷ ts) h all =
    ordered_alike (name_order s.cell x.cell) (name_order t.cell y.cell)
    (s ∷ x ∷ ss) (s ∷ ss) (x ∷ put_row name_order (λ z. z.cell) s ss)
    (t ∷ y ∷ ts) (t ∷ ts) (y ∷ put_row name_order (λ z. z.cell) t ts)
    (λ i. name_order (h.cell i) (all.0.cell i)) (h, all) (h, all.1) (all.0, put_alike s t ss ts h all.1)

pub table_alike : (ss ts : List Stand) → AreAlike ss ts
    → AreAlike (table name_order (λ x. x.cell) ss) (table name_order (λ x. x.cell) ts)
table_alike [] [] h = tt
table_alike [] (t ∷ ts) h = absurd h
table_alike (s ∷ ss) [] h = absurd h
table_alike (s ∷ ss) (t ∷ ts) h =
    put_alike s t (table name_order (λ x. x.cell) ss) (table name_order (λ x. x.cell) ts) h.0 (table_alike ss ts h.1)

pub stands_alike : (cs xs : List Answer) → AllZip IsReadAs cs xs → AreAlike (map stand_of cs) (map stand_of xs)
stands_alike [] [] h = tt
stands_alike [] (x ∷ xs) h = absurd h
stands_alike (c ∷ cs) [] h = absurd h
stands_alike (c ∷ cs) (x ∷ xs) h = (h.0, stands_alike cs xs h.1)

-- their names are the same
pub names_alike : (cs xs : List Answer) → AllZip IsReadAs cs xs
    → map (λ (a : Answer). a.cell) xs ≡ map (λ (s : Stand). s.cell) (map stand_of cs)
names_alike [] [] h = refl
names_alike [] (x ∷ xs) h = absurd h
names_alike (c ∷ cs) [] h = absurd h
names_alike (c ∷ cs) (x ∷ xs) h = let rest = names_alike cs xs h.1 in λ i. sym h.0.cell i ∷ rest i
