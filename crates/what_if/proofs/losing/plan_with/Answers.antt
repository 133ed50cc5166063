use Rattle.std.proofs.Common.{◌≡◌, ℕ, List, map, ap, subst, sym, ◌∙◌}
use Rattle.std.specs.HashSet.{contains}
use Rattle.std.specs.List.Sorted.{IsPermutation}
use Rattle.cell_records.specs.declared.answer.Answer.{Answer}
use Rattle.cell_records.specs.declared.job.Job.{Job}
use Rattle.auctioneer.specs.Order.{in_order, turn_of, turn_order}
use Rattle.auctioneer.specs.Stands.{same_name, stands_of}
use Rattle.what_if.specs.Kept.{kept_cell, processes_of}
use Rattle.what_if.specs.Placed.{bare_plan, planned_on}
use Rattle.what_if.specs.Stays.{is_lost, open_cells}
use Rattle.what_if.specs.Waiting.{does_wait, waits}
use Rattle.what_if.proofs.AlikePlans.{plans_alike}
use Rattle.what_if.proofs.Differing.{All-table}
use Rattle.what_if.proofs.KeptCells.{all_covered, kept_alike, IsCovered}
use Rattle.what_if.proofs.Parts.{plan_of_loss}
use Rattle.what_if.proofs.losing.plan_with.Goals as goal

pub returns : goal.returns
returns c =
    let base = c.args.base.now in
    let site = base.site.now in
    let lost = c.args.lost.now in
    let processes = c.in_ok-processes.processes in
    let waiting : List Job = c.deref-3.result.now in
    let cells : List Answer = open_cells site lost in
    let named : (name : List ℕ) → contains same_name processes name ≡ is_lost (processes_of waiting) name =
    λ name. c.in_ok-processes.ensures name
    ∙ ap (λ (js : List Job). is_lost (processes_of js) name) (c.deref.ensures.value ∙ sym c.deref-3.ensures.value) in
    ap bare_plan
    (c.in_ok-plan.ensures
    ∙ ap (λ (cs : List Answer). planned_on base.before cs waiting) (c.deref-2.ensures.value
    ∙ c.in_ok-cells.ensures.value))
    ∙ plans_alike (IsCovered processes) base.before waiting (in_order waiting)
    (All-table turn_order turn_of (λ (j : Job). IsCovered processes j.job) waiting
    (all_covered processes waiting named))
    (stands_of (map (kept_cell processes) cells)) (stands_of cells) (kept_alike processes cells)
    ∙ ap bare_plan
    (plan_of_loss site lost base.before c.requires.base.before waiting
    (subst (IsPermutation (waits site lost)) (sym c.deref-3.ensures.value) c.in_ok-waiting.ensures.same)
    (c.requires.base.sound.jobs (does_wait site lost)))
