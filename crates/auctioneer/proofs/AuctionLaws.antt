-- What holds of every auction.
use Rattle.std.proofs.Common.{◌≡◌, ℕ, ◌<◌, ◌≤◌, true, false, cond, eqb, List, [], ◌∷◌, length, map, get_or, Option, Some, None, inl, inr, refl, sym, ap, subst, ◌∙◌, arith}
use Rattle.std.specs.List.{All, Contains}
use Rattle.std.specs.Ordering.{is_lt, ordering_then}
use Rattle.std.specs.declared.cmp.Ordering.TheVariants.{Less, Equal, Greater}
use Rattle.std.proofs.lemmas.Bool.{cases_lt, lt-ltb}
use Rattle.std.proofs.lemmas.List.{length-map, get_or-map}
use Rattle.std.proofs.lemmas.List.Elements.{All-nil, All-cons, All-map, All-contains, All-head, All-tail}
use Rattle.row_tables.specs.Table.{IsRising, table}
use Rattle.row_tables.proofs.Public.{All-put_row, IsRising-table, IsRising-from_pairs}
use Rattle.diego_names.specs.Order.{name_order}
use Rattle.diego_names.proofs.Public.{IsKeyOrder-name_order}
use Rattle.cell_records.specs.declared.answer.Answer.{Answer}
use Rattle.cell_records.specs.declared.job.Job.{Job}
use Rattle.auction_scoring.specs.Order.{score_order, is_better}
use Rattle.auction_scoring.specs.declared.scores.Score.{Score}
use Rattle.auctioneer.specs.Auction.{placement_on, stands_with, auction_from, auction}
use Rattle.auctioneer.specs.Laws.{job_in, stands_after, AtEachTurn, UsesRoom, Spreads, NamesAnswer}
use Rattle.auctioneer.specs.Least.{IsLeastOrNone, best}
use Rattle.auctioneer.specs.Stands.{same_name, score_in, in_zone, with_job, placed, stand_of, stands_of}
use Rattle.auctioneer.specs.declared.placement.Placement.{Placement}
use Rattle.auctioneer.specs.declared.stand.Stand.{Stand}
use Rattle.auctioneer.proofs.Leasts.{best_in-IsLeast, same_stand}
use Rattle.auctioneer.proofs.Placings.{pairs-from_rising}

job_in-placement_on : (job : Job) (o : Option Stand) → job_in (placement_on job o) ≡ job.job
job_in-placement_on job None = refl
job_in-placement_on job (Some s) = refl

pub jobs_placed : (stands : List Stand) (jobs : List Job)
    → map job_in (auction_from stands jobs) ≡ map (λ j. j.job) jobs
jobs_placed stands [] = refl
jobs_placed stands (job ∷ jobs) =
    ap (λ x. x ∷ map job_in (auction_from (stands_with job (best stands job) stands) jobs))
    (job_in-placement_on job (best stands job))
    ∙ ap (λ xs. job.job ∷ xs) (jobs_placed (stands_with job (best stands job) stands) jobs)

-- the placement tells what it changes
after_placement : (job : Job) (o : Option Stand) (stands : List Stand)
    → stands_with job o stands ≡ stands_after job (placement_on job o) stands
after_placement job None stands = refl
after_placement job (Some s) stands = refl

-- what holds of the least cell, at cells that are kept so, holds at each turn
module _ (P : List Stand → Job → Placement → Type 0) (K : List Stand → Type 0)
    (right : (stands : List Stand) (job : Job) → K stands → (o : Option Stand) → IsLeastOrNone stands job stands o
    → P stands job (placement_on job o)) (keeps : (stands : List Stand) (job : Job) (o : Option Stand) → K stands
    → K (stands_with job o stands)) where
  at_each_turn : (stands : List Stand) (jobs : List Job) → K stands
      → AtEachTurn P stands jobs (auction_from stands jobs)
  at_each_turn stands [] k = tt
  at_each_turn stands (job ∷ jobs) k = (
    right stands job k (best stands job) (best_in-IsLeast stands job stands),
    subst (λ ss. AtEachTurn P ss jobs (auction_from (stands_with job (best stands job) stands) jobs))
        (after_placement job (best stands job) stands)
        (at_each_turn (stands_with job (best stands job) stands) jobs (keeps stands job (best stands job) k)),
  )

room_is_taken : (stands : List Stand) (job : Job) (o : Option Stand) → IsLeastOrNone stands job stands o
    → UsesRoom stands job (placement_on job o)
room_is_taken stands job None h = h
room_is_taken stands job (Some s) h = (s, h.inside, refl, h.fits)

pub takes_room : (stands : List Stand) (jobs : List Job) → AtEachTurn UsesRoom stands jobs (auction_from stands jobs)
takes_room stands jobs = at_each_turn UsesRoom (λ ss. Unit {0}) (λ ss job k. room_is_taken ss job)
    (λ ss job o k. tt) stands jobs tt

-- a score that is no better has no emptier zone
pub emptier_zone : (x y : Score) → is_better x y ≡ false → y.in_zone ≤ x.in_zone
emptier_zone x y e =
    elim (cases_lt x.in_zone y.in_zone) [
      | (inl below) ↦
          let rest = score_order (record x { in_zone = 0 }) (record y { in_zone = 0 }) in
          let better : is_better x y ≡ true = ap (λ b. is_lt
          (ordering_then (cond b Less (cond (eqb x.in_zone y.in_zone) Equal Greater)) rest))
          (lt-ltb x.in_zone y.in_zone below) in
          cc
      | (inr above) ↦ above
    ]

zone_is_emptiest : (stands : List Stand) (job : Job) → IsRising name_order (λ s. s.cell) stands → (o : Option Stand)
    → IsLeastOrNone stands job stands o → Spreads stands job (placement_on job o)
zone_is_emptiest stands job rising None h = tt
zone_is_emptiest stands job rising (Some s) h = λ a b there name inside fits.
    let one : a ≡ s = same_stand stands rising a s there h.inside name in
    subst (λ (x : Stand). in_zone stands job.job x.zone ≤ in_zone stands job.job b.zone) (sym one)
    (emptier_zone (score_in stands job.job b) (score_in stands job.job s) (h.least b inside fits))

-- a placed job changes no name
name_kept : (job : Job) (cell : List ℕ) (s : Stand) → (cond (same_name s.cell cell) (with_job job s) s).cell ≡ s.cell
name_kept job cell s =
    elim (same_name s.cell cell) as (λ b. (cond b (with_job job s) s).cell ≡ s.cell) [ true ↦ refl | false ↦ refl ]

rising-placed : (job : Job) (cell : List ℕ) (ss : List Stand) → IsRising name_order (λ s. s.cell) ss
    → IsRising name_order (λ s. s.cell) (placed job cell ss)
rising-placed job cell ss h =
    let pairs = pairs-from_rising ss h in
    IsRising-from_pairs name_order (λ s. s.cell) (placed job cell ss) (λ i j d lt below.
    let here : j < length ss = simp length-map at below in
    let name = λ (k : ℕ) (inside : k < length ss). ap (λ (x : Stand). x.cell)
    (get_or-map (λ (s : Stand). cond (same_name s.cell cell) (with_job job s) s) ss k d d inside) ∙ name_kept job
    cell (get_or ss k d) in
    rw (name i (omega arith), name j here) (pairs i j d lt here))

rising_kept : (ss : List Stand) (job : Job) (o : Option Stand) → IsRising name_order (λ s. s.cell) ss
    → IsRising name_order (λ s. s.cell) (stands_with job o ss)
rising_kept ss job None h = h
rising_kept ss job (Some s) h = rising-placed job s.cell ss h

pub spreads : (answers : List Answer) (jobs : List Job)
    → AtEachTurn Spreads (stands_of answers) jobs (auction answers jobs)
spreads answers jobs =
    at_each_turn Spreads (IsRising name_order (λ s. s.cell)) zone_is_emptiest rising_kept (stands_of answers) jobs
    (IsRising-table name_order (λ s. s.cell) IsKeyOrder-name_order (map stand_of answers))

-- the cells keep their names, so that each is one of those that answered
module _ (answers : List Answer) where
  All-placed : (job : Job) (cell : List ℕ) (ss : List Stand) → All (λ s. Contains (map (λ a. a.cell) answers) s.cell) ss
      → All (λ s. Contains (map (λ a. a.cell) answers) s.cell) (placed job cell ss)
  All-placed job cell [] h = All-nil (λ s. Contains (map (λ a. a.cell) answers) s.cell)
  All-placed job cell (s ∷ ss) h =
      All-cons (λ s. Contains (map (λ a. a.cell) answers) s.cell) (cond (same_name s.cell cell) (with_job job s) s)
      (placed job cell ss)
      (subst (Contains (map (λ a. a.cell) answers)) (sym (name_kept job cell s))
      (All-head (λ s. Contains (map (λ a. a.cell) answers) s.cell) s ss h))
      (All-placed job cell ss (All-tail (λ s. Contains (map (λ a. a.cell) answers) s.cell) s ss h))

  All-table : (xs : List Stand) → All (λ s. Contains (map (λ a. a.cell) answers) s.cell) xs
      → All (λ s. Contains (map (λ a. a.cell) answers) s.cell) (table name_order (λ s. s.cell) xs)
  All-table [] h = h
  All-table (x ∷ xs) h =
      All-put_row name_order (λ s. s.cell) (λ s. Contains (map (λ a. a.cell) answers) s.cell) x
      (table name_order (λ s. s.cell) xs)
      (All-head (λ s. Contains (map (λ a. a.cell) answers) s.cell) x xs h)
      (All-table xs (All-tail (λ s. Contains (map (λ a. a.cell) answers) s.cell) x xs h))

  -- at first they are the names of the answers
  named_at_first : All (λ s. Contains (map (λ a. a.cell) answers) s.cell) (stands_of answers)
  named_at_first =
      All-table (map stand_of answers)
      (All-map (λ s. Contains (map (λ a. a.cell) answers) s.cell) stand_of answers (λ k d below.
      (k, simp length-map below, get_or-map (λ (a : Answer). a.cell) answers k d (get_or answers k d).cell below)))

  named_after : (ss : List Stand) (job : Job) (o : Option Stand)
      → All (λ s. Contains (map (λ a. a.cell) answers) s.cell) ss
      → All (λ s. Contains (map (λ a. a.cell) answers) s.cell) (stands_with job o ss)
  named_after ss job None h = h
  named_after ss job (Some s) h = All-placed job s.cell ss h

  name_placed : (ss : List Stand) (job : Job) (o : Option Stand)
      → All (λ s. Contains (map (λ a. a.cell) answers) s.cell) ss → IsLeastOrNone ss job ss o
      → NamesAnswer answers (placement_on job o)
  name_placed ss job None k h = tt
  name_placed ss job (Some s) k h = All-contains (λ s. Contains (map (λ a. a.cell) answers) s.cell) ss s k h.inside

  names_from : (ss : List Stand) (jobs : List Job) → All (λ s. Contains (map (λ a. a.cell) answers) s.cell) ss
      → All (NamesAnswer answers) (auction_from ss jobs)
  names_from ss [] k = All-nil (NamesAnswer answers)
  names_from ss (job ∷ jobs) k =
      All-cons (NamesAnswer answers) (placement_on job (best ss job))
      (auction_from (stands_with job (best ss job) ss) jobs)
      (name_placed ss job (best ss job) k (best_in-IsLeast ss job ss))
      (names_from (stands_with job (best ss job) ss) jobs (named_after ss job (best ss job) k))

  pub names_answers : (jobs : List Job) → All (NamesAnswer answers) (auction answers jobs)
  names_answers jobs = names_from (stands_of answers) jobs named_at_first
