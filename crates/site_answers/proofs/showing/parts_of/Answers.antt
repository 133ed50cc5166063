use Rattle.std.proofs.Common.{◌≡◌, [], ap, ◌∙◌}
use Rattle.site_answers.specs.Tags.{tag_rooms}
use Rattle.site_answers.proofs.Told.{few_before, few_waiting}
use Rattle.site_spread.specs.Spread.{by_spread}
use Rattle.what_if.specs.Plans.{jobs_of_loss, left_of, planned, stands_before}
use Rattle.what_if.specs.Verdicts.{verdict_of}
use Rattle.what_if.specs.declared.plan.Plan.{Plan}
use Rattle.what_if.proofs.Bare.{verdict_of-bare}
use Rattle.site_answers.proofs.showing.parts_of.Goals as goal

pub verdict_of-verdict-requires-clause-stands : goal.verdict_of-verdict-requires-clause-stands
verdict_of-verdict-requires-clause-stands c =
    few_before c.args.scene.now.site.now c.args.scene.now.lost.now c.items-before.result.now c.requires.site
    (c.items-before.ensures ∙ ap (λ (p : Plan). p.before) c.requires.plan)

pub verdict_of-verdict-requires-clause-jobs : goal.verdict_of-verdict-requires-clause-jobs
verdict_of-verdict-requires-clause-jobs c =
    few_waiting c.args.scene.now.site.now c.args.scene.now.lost.now c.items-jobs.result.now c.requires.site
    (c.items-jobs.ensures ∙ ap (λ (p : Plan). p.jobs) c.requires.plan)

pub returns : goal.returns
returns c =
    let scene = c.args.scene.now in
    let site = scene.site.now in
    let plan : c.args.plan.now ≡ planned site [] = c.requires.plan ∙ ap (planned site) c.requires.none in
    let left : c.items-left.result.now ≡ left_of site [] = c.items-left.ensures ∙ ap (λ (p : Plan). p.left) plan in
    record {
      instances = c.instances_there-instances.ensures;
      processes = c.in_ok-processes.ensures;
      tasks = c.tasks_there-tasks.ensures;
      tags = c.in_ok-tags.ensures ∙ (λ i. tag_rooms site (c.requires.none i) (left i));
      zones = c.in_ok-zones.ensures;
      uneven = c.by_spread-uneven.ensures ∙ ap by_spread c.in_ok-list.ensures.value;
      one_cell = c.in_ok-together.ensures.on_cell;
      one_zone = c.in_ok-together.ensures.in_zone;
      verdict =
          c.verdict_of-verdict.ensures
          ∙ (λ i. verdict_of ((c.items-before.ensures ∙ ap (λ (p : Plan). p.before) plan) i)
          ((c.items-jobs.ensures ∙ ap (λ (p : Plan). p.jobs) plan) i) (left i))
          ∙ verdict_of-bare (stands_before site []) (jobs_of_loss site []) (left_of site []);
    }
