use Rattle.std.proofs.Common.{◌≤◌, ◌^◌, Bool, cond, List, [], ◌∷◌, ◌++◌, length, sym, ap, subst, ◌∙◌}
use Rattle.cell_records.specs.declared.job.Job.{Job}
use Rattle.auctioneer.specs.Auction.{placement_on}
use Rattle.auctioneer.specs.Least.{best}
use Rattle.auctioneer.specs.declared.placement.Placement.{Placement}
use Rattle.auctioneer.specs.declared.stand.Stand.{Stand}
use Rattle.forecast_records.specs.declared.unplaced.Unplaced.{Unplaced}
use Rattle.what_if.specs.Holders.{unplaced_by}
use Rattle.what_if.specs.Plans.{is_left}
use Rattle.what_if.proofs.Turns.{few_next, if_left, told_at_turn}
use Rattle.what_if.proofs.placing.place_one.Goals as goal

pub note_left-requires-clause-turn : goal.note_left-requires-clause-turn
note_left-requires-clause-turn c =
    subst (λ (ss : List Stand). length ss ≤ 2 ^ 32) (sym c.stands.ensures)
    (few_next c.args.auction.now _ c.args.job.now c.in_ok-placement.ensures.ok c.requires.turn)

pub returns-clause-placed : goal.returns-clause-placed
returns-clause-placed c =
    let setting = c.args.setting.now in
    let stands = c.args.auction.now in
    let job = c.args.job.now in
    let old = c.args.outcome.now in
    let tell = unplaced_by setting.holders.now setting.before.now setting.jobs.now in
    let found = best stands job in
    let is = c.is_left-left.ensures ∙ ap is_left c.in_ok-placement.ensures.placement in
    record {
      placements =
          c.in_ok-note_left.ensures.placements ∙ c.in_ok-push.ensures.ok
          ∙ ap (λ (p : Placement). old.placements ++ p ∷ []) c.in_ok-placement.ensures.placement;
      left =
          c.in_ok-note_left.ensures.left
          ∙ ap (λ (b : Bool). old.left ++ cond b (job ∷ []) []) is
          ∙ ap (λ (js : List Job). old.left ++ js) (if_left found job job);
      without_room =
          c.in_ok-note_left.ensures.without_room
          ∙ ap (λ (b : Bool). old.without_room ++ cond b (tell c.stands.result.now job ∷ []) []) is
          ∙ ap (λ (ss : List Stand). old.without_room ++ cond (is_left (placement_on job found)) (tell ss job ∷ []) [])
          (c.stands.ensures ∙ c.in_ok-placement.ensures.ok)
          ∙ ap (λ (us : List Unplaced). old.without_room ++ us) (told_at_turn tell found stands job);
    }
