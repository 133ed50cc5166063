-- What a plan that finds room promises of the round.
use Rattle.std.proofs.Common.{◌≡◌, Bool, true, false, List, [], ◌∷◌, map, Option, Some, None, refl, ap, subst, ◌∙◌, arith}
use Rattle.std.specs.List.{Contains}
use Rattle.auctioneer.specs.Auction.{auction_from, placement_on, stands_with}
use Rattle.auctioneer.specs.Least.{best}
use Rattle.auctioneer.specs.declared.placement.Placement.{Placement}
use Rattle.auctioneer.specs.declared.stand.Stand.{Stand}
use Rattle.cell_records.specs.declared.job.Job.{Job}
use Rattle.cell_records.specs.declared.job_name.JobName.{JobName}
use Rattle.converge_laws.proofs.Public.{from_filter, from_map, inside_filter}
use Rattle.converge_round.specs.Places.{unplaced}
use Rattle.forecast_records.specs.declared.verdict.Verdict.TheVariants.{Room}
use Rattle.round_completeness.specs.Completeness.{RoundsThatNothingDisturbsAreComplete}
use Rattle.round_theorem.specs.Complete.{CompleteRoundsConverge}
use Rattle.what_if.specs.Plans.{displaced_left, if_none, jobs_left, jobs_of_loss, left_of, stands_before}
use Rattle.what_if.specs.Verdicts.{short_if, verdict_of}
use Rattle.what_if.specs.Waiting.{is_displaced, waits}
use Rattle.forecast_laws.specs.Rooms.{DisplacedJobsFindRoom, RoomLeavesNothingWaiting, RoomMakesRoundsComplete, RoundsLeaveWhatPlansLeave}
use Rattle.forecast_laws.proofs.Foretold.{plan_is_round}

-- one job more
leaves_one : (job : Job) (found : Option Stand) (ps : List Placement) (js : List Job)
    → unplaced ps ≡ map (λ (j : Job). j.job) js → unplaced (placement_on job found ∷ ps)
    ≡ map (λ (j : Job). j.job) (if_none found job js)
leaves_one job None ps js e = ap (λ (ns : List JobName). job.job ∷ ns) e
leaves_one job (Some s) ps js e = e

-- an auction has no place for just the jobs that are left over
leaves_as : (stands : List Stand) (jobs : List Job) → unplaced (auction_from stands jobs)
    ≡ map (λ (j : Job). j.job) (jobs_left stands jobs)
leaves_as stands [] = refl
leaves_as stands (job ∷ jobs) =
    let next = stands_with job (best stands job) stands in
    leaves_one job (best stands job) (auction_from next jobs) (jobs_left next jobs) (leaves_as next jobs)

pub round_leaves : RoundsLeaveWhatPlansLeave
round_leaves by now line s s' r h site lost reads =
    h.reports.without_room ∙ ap unplaced (plan_is_round by now line s s' r h site lost reads)
    ∙ leaves_as (stands_before site lost) (jobs_of_loss site lost)

pub nothing_waits : RoomLeavesNothingWaiting
nothing_waits by now line s s' r h site lost reads none =
    round_leaves by now line s s' r h site lost reads ∙ ap (map (λ (j : Job). j.job)) none

not_room : (b : Bool) → short_if b ≡ Room → ⊥
not_room true e = cc
not_room false e = cc

-- where the verdict is room, none of these jobs is left
none_left : (stands : List Stand) (jobs left : List Job) → verdict_of stands jobs left ≡ Room → left ≡ []
none_left stands jobs [] e = refl
none_left stands jobs (job ∷ left) e = absurd (not_room _ e)

nothing_inside : (x : Job) → Contains [] x → ⊥
nothing_inside x (k, lt, at) = omega arith

pub displaced_found : DisplacedJobsFindRoom
displaced_found by now line s s' r h site lost reads room j moved inside =
    let none : displaced_left site lost ≡ [] = none_left (stands_before site lost) (jobs_of_loss site lost)
    (displaced_left site lost) room in
    let among : Contains (map (λ (x : Job). x.job) (left_of site lost)) j.job =
    subst (λ (ns : List JobName). Contains ns j.job) (round_leaves by now line s s' r h site lost reads) inside in
    let l = from_map (λ (x : Job). x.job) (left_of site lost) j.job among in
    let is : is_displaced site j.job ≡ true = (from_filter (λ (x : Job). is_displaced site x.job)
    (waits site lost) j moved).1 in
    let left : Contains (displaced_left site lost) l.0 =
    inside_filter (λ (x : Job). is_displaced site x.job) (left_of site lost) l.0 l.1
    (ap (is_displaced site) l.2 ∙ is) in
    nothing_inside l.0 (subst (λ (js : List Job). Contains js l.0) none left)

pub ends_well : RoundsThatNothingDisturbsAreComplete → CompleteRoundsConverge → RoomMakesRoundsComplete
ends_well completes converges by now line s s' r h site lost reads none u =
    let complete = completes by now line s s' r h (record {
      names = u.names;
      answer = u.answer;
      wire = u.wire;
      alone = u.alone;
      placed = nothing_waits by now line s s' r h site lost reads none;
      room = u.room;
    }) in
    record { complete = complete; converged = converges by now line s s' r h u.names complete }
