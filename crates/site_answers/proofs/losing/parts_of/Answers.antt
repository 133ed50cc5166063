use Rattle.std.proofs.Common.{◌≡◌, filter, is_some, ap, ◌∙◌}
use Rattle.std.specs.List.{filter_map}
use Rattle.cell_records.specs.declared.job.Job.{Job}
use Rattle.site_answers.specs.Losses.{is_of_many, move_of}
use Rattle.site_answers.specs.Parts.{move_by}
use Rattle.site_answers.specs.Tags.{tag_rooms}
use Rattle.site_answers.specs.Zones.{zones_then}
use Rattle.site_answers.proofs.Answered.{move-by_holders}
use Rattle.site_answers.proofs.Told.{few_then}
use Rattle.what_if.specs.Holders.{found_before}
use Rattle.what_if.specs.Plans.{displaced_left, left_of, plan}
use Rattle.what_if.specs.Waiting.{is_displaced}
use Rattle.what_if.specs.declared.plan.Plan.{Plan}
use Rattle.what_if.proofs.Agreeing.{filter-same, filter_map-same}
use Rattle.what_if.proofs.Holding.{displaced-by_holders}
use Rattle.site_answers.proofs.losing.parts_of.Goals as goal

pub zones_then-requires-clause-few : goal.zones_then-requires-clause-few
zones_then-requires-clause-few c =
    few_then c.args.scene.now.site.now c.args.scene.now.lost.now c.stands-stands.result.now c.requires.site
    (c.stands-stands.ensures ∙ ap (λ (p : Plan). p.stands) c.requires.plan)

pub returns : goal.returns
returns c =
    let scene = c.args.scene.now in
    let site = scene.site.now in
    let lost = scene.lost.now in
    let before = scene.before.now in
    let counting : c.in_ok-counting.counting.items ≡ displaced_left site lost =
    c.in_ok-counting.ensures
    ∙ ap (filter (λ (j : Job). is_some (found_before before j.job)))
    (c.items-left.ensures ∙ ap (λ (p : Plan). p.left) c.requires.plan)
    ∙ filter-same (λ (j : Job). is_some (found_before before j.job)) (λ j. is_displaced site j.job)
    (λ j. displaced-by_holders site before c.requires.scene.before j.job) (left_of site lost) in
    record {
      counting = counting;
      tasks = c.tasks_lost-tasks.ensures;
      dark = c.in_ok-dark.ensures;
      dark_of_many = c.in_ok-dark_of_many.ensures ∙ ap (filter (is_of_many site.wanted))
          (c.deref-2.ensures.value ∙ c.in_ok-dark.ensures);
      uneven = c.in_ok-uneven.ensures;
      tags = c.in_ok-tags.ensures ∙ ap (tag_rooms site lost) (c.deref.ensures.value ∙ counting);
      zones = c.in_ok-zones.ensures ∙ ap (zones_then site)
          (c.stands-stands.ensures ∙ ap (λ (p : Plan). p.stands) c.requires.plan);
      moves =
          c.in_ok-moves.ensures
          ∙ ap (filter_map (move_by before)) (c.items-placements.ensures ∙ ap
          (λ (p : Plan). p.placements) c.requires.plan)
          ∙ filter_map-same (move_by before) (move_of site) (move-by_holders site before c.requires.scene.before)
          (plan site lost);
    }
