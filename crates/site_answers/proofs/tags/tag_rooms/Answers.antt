use Rattle.std.proofs.Common.{List, map, ap, ◌∙◌}
use Rattle.cell_records.specs.declared.answer.Answer.{Answer}
use Rattle.site_answers.specs.Tags.{tag_room, tags_of}
use Rattle.site_answers.proofs.Told.{few_before, few_left, few_waiting, rooms-of_plan}
use Rattle.what_if.specs.declared.plan.Plan.{Plan}
use Rattle.site_answers.proofs.tags.tag_rooms.Goals as goal

pub rooms_of-requires : goal.rooms_of-requires
rooms_of-requires c =
    let site = c.args.scene.now.site.now in
    let lost = c.args.scene.now.lost.now in
    record {
      before = few_before site lost c.items-before.result.now c.requires.site
          (c.items-before.ensures ∙ ap (λ (p : Plan). p.before) c.requires.plan);
      jobs = few_waiting site lost c.items-jobs.result.now c.requires.site
          (c.items-jobs.ensures ∙ ap (λ (p : Plan). p.jobs) c.requires.plan);
      left = few_left site lost c.items-left.result.now c.requires.site
          (c.items-left.ensures ∙ ap (λ (p : Plan). p.left) c.requires.plan);
    }

pub returns : goal.returns
returns c =
    let site = c.args.scene.now.site.now in
    let lost = c.args.scene.now.lost.now in
    let before = c.items-before.result.now in
    let jobs = c.items-jobs.result.now in
    let left = c.items-left.result.now in
    let counting = c.args.counting.now in
    c.in_ok-rooms.ensures
    ∙ ap (λ (cs : List Answer). map (tag_room before jobs left counting) (tags_of cs jobs)) c.items-cells.ensures
    ∙ rooms-of_plan site lost counting before jobs left
    (c.items-before.ensures ∙ ap (λ (p : Plan). p.before) c.requires.plan)
    (c.items-jobs.ensures ∙ ap (λ (p : Plan). p.jobs) c.requires.plan)
    (c.items-left.ensures ∙ ap (λ (p : Plan). p.left) c.requires.plan)
