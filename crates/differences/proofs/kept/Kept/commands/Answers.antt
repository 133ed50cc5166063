use Rattle.std.proofs.Common.{◌≡◌, true, false, ap, length, ◌∙◌, arith}
use Rattle.differences.proofs.Emptiness.{none_due, readings_within}
use Rattle.differences.proofs.kept.Kept.commands.Goals as goal

pub returns-in_err-add_vanish-clause-free : goal.returns-in_err-add_vanish-clause-free
returns-in_err-add_vanish-clause-free g c none =
    let never : false ≡ true = c.in_err-add_vanish.ensures.free
    (c.cells.ensures ∙ (none_due c.args.due.now none).cells) in
    absurd cc

pub returns-in_err-add_forget-clause-free : goal.returns-in_err-add_forget-clause-free
returns-in_err-add_forget-clause-free g c none =
    let never : false ≡ true = c.in_err-add_forget.ensures.free
    (c.domains.ensures ∙ (none_due c.args.due.now none).domains) in
    absurd cc

pub returns-in_err-add_places-clause-free : goal.returns-in_err-add_places-clause-free
returns-in_err-add_places-clause-free g c none =
    let never : false ≡ true = c.in_err-add_places.ensures.free
    (c.places.ensures ∙ (none_due c.args.due.now none).places) in
    absurd cc

pub returns-in_err-add_tasks-clause-free : goal.returns-in_err-add_tasks-clause-free
returns-in_err-add_tasks-clause-free g c none =
    let never : false ≡ true = c.in_err-add_tasks.ensures.free
    (c.tasks.ensures ∙ (none_due c.args.due.now none).tasks) in
    absurd cc

pub returns-clause-steps : goal.returns-clause-steps
returns-clause-steps g c =
    let places : length c.places.result.now ≡ length c.args.due.now.places = ap length c.places.ensures in
    let tasks : length c.tasks.result.now ≡ length c.args.due.now.tasks = ap length c.tasks.ensures in
    omega (arith, c.add_places.ensures.steps, c.add_tasks.ensures.steps, readings_within c.args.due.now, places, tasks)

pub returns-in_err-add_tasks-clause-steps : goal.returns-in_err-add_tasks-clause-steps
returns-in_err-add_tasks-clause-steps g c =
    let places : length c.places.result.now ≡ length c.args.due.now.places = ap length c.places.ensures in
    let tasks : length c.tasks.result.now ≡ length c.args.due.now.tasks = ap length c.tasks.ensures in
    omega (arith, c.add_places.ensures.steps, c.add_tasks.ensures.steps, readings_within c.args.due.now, places, tasks)
