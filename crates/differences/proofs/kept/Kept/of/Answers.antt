use Rattle.std.proofs.Common.{List, ap, ◌∙◌}
use Rattle.std.specs.Option.{option_map}
use Rattle.diego_names.specs.Order.{name_order}
use Rattle.lrp_records.specs.declared.desired.Desired.{Desired}
use Rattle.row_tables.specs.Table.{find_row}
use Rattle.task_records.specs.declared.task.Task.{Task}
use Rattle.bbs_model.specs.Tables.{process_of, task_name_of}
use Rattle.work_causes.specs.Causes.{task_cause}
use Rattle.differences.proofs.Gathered.{all_stand}
use Rattle.differences.proofs.kept.Kept.of.Goals as goal

pub returns : goal.returns
returns c =
    all_stand c.args.rows.now _ c.in_ok-places_of.ensures
    (λ q. c.in_ok-told_of_all.ensures q
    ∙ ap (λ (xs : List Task). option_map task_cause (find_row name_order task_name_of q xs)) c.items.ensures)
    c.in_ok-leases_of.ensures.cells c.in_ok-leases_of.ensures.domains
    (λ q. c.in_ok-told_of_all-2.ensures q
    ∙ ap (λ (xs : List Desired). option_map (λ (x : Desired). x.instances) (find_row name_order process_of q xs))
    c.items-2.ensures)
