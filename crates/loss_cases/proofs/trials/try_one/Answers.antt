use Rattle.std.proofs.Common.{◌≤◌, ◌^◌, Bool, cond, not, List, [], ◌∷◌, ◌++◌, Some, length, sym, ap, subst, ◌∙◌}
use Rattle.std.specs.Option.{option_or}
use Rattle.cell_records.specs.declared.job.Job.{Job}
use Rattle.auctioneer.specs.Auction.{placement_on}
use Rattle.auctioneer.specs.Least.{best}
use Rattle.auctioneer.specs.declared.placement.Placement.{Placement}
use Rattle.auctioneer.specs.declared.stand.Stand.{Stand}
use Rattle.what_if.specs.Plans.{is_left}
use Rattle.loss_cases.specs.Fits.{told_at}
use Rattle.loss_cases.proofs.Tries.{few_next, first_at_turn, if_left, not_placed}
use Rattle.loss_cases.proofs.trials.try_one.Goals as goal

pub note_left-requires-clause-turn : goal.note_left-requires-clause-turn
note_left-requires-clause-turn c =
    subst (λ (ss : List Stand). length ss ≤ 2 ^ 32) (sym c.stands.ensures)
    (few_next c.args.auction.now _ c.args.job.now c.in_ok-placement.ensures.ok c.requires.turn)

pub returns-clause-tried : goal.returns-clause-tried
returns-clause-tried c =
    let field = c.args.field.now in
    let stands = c.args.auction.now in
    let job = c.args.job.now in
    let old = c.args.trial.now in
    let tell = told_at field.before.now field.jobs.now in
    let found = best stands job in
    let is = ap not c.is_placed-left.ensures ∙ not_placed c.in_ok-placement.placement ∙ ap is_left
    c.in_ok-placement.ensures.placement in
    record {
      placements =
          c.in_ok-note_left.ensures.placements ∙ c.in_ok-push.ensures.ok
          ∙ ap (λ (p : Placement). old.placements ++ p ∷ []) c.in_ok-placement.ensures.placement;
      left =
          c.in_ok-note_left.ensures.left
          ∙ ap (λ (b : Bool). old.left ++ cond b (job ∷ []) []) is
          ∙ ap (λ (js : List Job). old.left ++ js) (if_left found job job);
      first =
          c.in_ok-note_left.ensures.first
          ∙ ap (λ (b : Bool). cond b (option_or old.first (Some (tell c.stands.result.now job))) old.first) is
          ∙ ap (λ (ss : List Stand). cond (is_left (placement_on job found))
          (option_or old.first (Some (tell ss job))) old.first) (c.stands.ensures ∙ c.in_ok-placement.ensures.ok)
          ∙ first_at_turn tell old.first found stands job;
    }
