-- One more instance is tried, and the first one that finds no room is kept.
use Rattle.std.proofs.Common.{◌≡◌, ◌≤◌, ◌^◌, List, [], ◌∷◌, ◌++◌, cond, not, length, if◌then◌else◌, Option, Some, None, refl, ap, ◌∙◌}
use Rattle.std.proofs.lemmas.List.{append-nil, append_assoc, length-map}
use Rattle.std.specs.Option.{option_or}
use Rattle.cell_records.specs.declared.job.Job.{Job}
use Rattle.auctioneer.specs.Auction.{auction_from, placement_on, stands_with}
use Rattle.auctioneer.specs.Least.{best}
use Rattle.auctioneer.specs.Stands.{same_name, with_job}
use Rattle.auctioneer.specs.declared.placement.Placement.{Placement}
use Rattle.auctioneer.specs.declared.placement.Placement.TheVariants.{On, NoRoom}
use Rattle.auctioneer.specs.declared.stand.Stand.{Stand}
use Rattle.forecast_records.specs.declared.unplaced.Unplaced.{Unplaced}
use Rattle.room_facts.specs.Placings.{is_placed}
use Rattle.what_if.specs.Plans.{if_none, is_left, left_over}
use Rattle.loss_cases.specs.Fits.{first_of}

-- a job without a cell is left over
pub not_placed : (p : Placement) → not (is_placed p) ≡ is_left p
not_placed (On job cell) = refl
not_placed (NoRoom job) = refl

-- what is told of a job with the cells behind its turn is told at its turn, since it takes no room
pub first_at_turn : (tell : List Stand → Job → Unplaced) (old : Option Unplaced) (found : Option Stand)
    (ss : List Stand) (job : Job) → cond (is_left (placement_on job found))
    (option_or old (Some (tell (stands_with job found ss) job))) old
    ≡ option_or old (first_of (if_none found (tell ss job) []))
first_at_turn tell None None ss job = refl
first_at_turn tell (Some u) None ss job = refl
first_at_turn tell None (Some s) ss job = refl
first_at_turn tell (Some u) (Some s) ss job = refl

-- what is told of a job stands behind what was told before
moved_over : {X : Type 0} (found : Option Stand) (x : X) (told rest : List X)
    → (told ++ if_none found x []) ++ rest ≡ told ++ if_none found x rest
moved_over None x told rest = append_assoc told (x ∷ []) rest
moved_over {X} (Some s) x told rest = ap (λ (xs : List X). xs ++ rest) (append-nil told)

-- what is told of the jobs left over, with one job more
pub left_next : {X : Type 0} (tell : List Stand → Job → X) (stands next : List Stand) (job : Job) (rest : List Job)
    (told more : List X) → next ≡ stands_with job (best stands job) stands
    → more ≡ told ++ if_none (best stands job) (tell stands job) []
    → more ++ left_over tell next rest ≡ told ++ left_over tell stands (job ∷ rest)
left_next {X} tell stands next job rest told more stood is =
    ap (λ (xs : List X). xs ++ left_over tell next rest) is
    ∙ moved_over (best stands job) (tell stands job) told (left_over tell next rest)
    ∙ ap (λ (ss : List Stand). told ++ if_none (best stands job) (tell stands job) (left_over tell ss rest)) stood

-- the placements, with one job more
pub placed_next : (stands next : List Stand) (job : Job) (rest : List Job) (told more : List Placement)
    → next ≡ stands_with job (best stands job) stands → more ≡ told ++ placement_on job (best stands job) ∷ []
    → more ++ auction_from next rest ≡ told ++ auction_from stands (job ∷ rest)
placed_next stands next job rest told more stood is =
    ap (λ (xs : List Placement). xs ++ auction_from next rest) is
    ∙ append_assoc told (placement_on job (best stands job) ∷ []) (auction_from next rest)
    ∙ ap (λ (ss : List Stand). told ++ placement_on job (best stands job) ∷ auction_from ss rest) stood

-- placing a job leaves as many cells
pub few_next : (stands next : List Stand) (job : Job) → next ≡ stands_with job (best stands job) stands
    → length stands ≤ 2 ^ 32 → length next ≤ 2 ^ 32
few_next stands next job stood few = rw (stood, as_many (best stands job) stands job) few
  where
    as_many : (found : Option Stand) (ss : List Stand) (j : Job) → length (stands_with j found ss) ≡ length ss
    as_many None ss j = refl
    as_many (Some s) ss j = length-map ss (λ (t : Stand). if same_name t.cell s.cell then with_job j t else t)

-- what is told if there is no best cell is told if the job is left over
pub if_left : {X : Type 0} (found : Option Stand) (job : Job) (x : X)
    → cond (is_left (placement_on job found)) (x ∷ []) [] ≡ if_none found x []
if_left None job x = refl
if_left (Some s) job x = refl

-- the first one of those before, of one job and of the rest
moved_first : (old : Option Unplaced) (found : Option Stand) (x : Unplaced) (rest : List Unplaced)
    → option_or (option_or old (first_of (if_none found x []))) (first_of rest)
    ≡ option_or old (first_of (if_none found x rest))
moved_first None None x rest = refl
moved_first (Some u) None x rest = refl
moved_first None (Some s) x rest = refl
moved_first (Some u) (Some s) x rest = refl

-- the first one that is told, with one job more
pub first_next : (tell : List Stand → Job → Unplaced) (stands next : List Stand) (job : Job) (rest : List Job)
    (old new : Option Unplaced) → next ≡ stands_with job (best stands job) stands
    → new ≡ option_or old (first_of (if_none (best stands job) (tell stands job) []))
    → option_or new (first_of (left_over tell next rest))
    ≡ option_or old (first_of (left_over tell stands (job ∷ rest)))
first_next tell stands next job rest old new stood is =
    ap (λ (u : Option Unplaced). option_or u (first_of (left_over tell next rest))) is
    ∙ moved_first old (best stands job) (tell stands job) (left_over tell next rest)
    ∙ ap (λ (ss : List Stand). option_or old (first_of (if_none (best stands job) (tell stands job)
    (left_over tell ss rest)))) stood
