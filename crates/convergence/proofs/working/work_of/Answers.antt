use Rattle.std.proofs.Common.{◌∙◌, ◌++◌, ap, map, List}
use Rattle.std.specs.List.{filter_map}
use Rattle.cell_records.specs.declared.cell_row.CellRow.{CellRow}
use Rattle.diego_names.specs.declared.key.Key.{Key}
use Rattle.lrp_records.specs.declared.presence.Presence.{Presence}
use Rattle.task_records.specs.declared.task.Task.{Task}
use Rattle.bbs_model.specs.Work.{at, cell_work, domain_work, place_work, places, task_work}
use Rattle.bbs_model.specs.declared.command.Command.{Command}
use Rattle.bbs_model.specs.declared.domain_row.DomainRow.{DomainRow}
use Rattle.convergence.proofs.Lists.{gathered}
use Rattle.convergence.proofs.working.work_of.Goals as goal

pub returns : goal.returns
returns c =
    let rows = c.args.rows.now in
    let now = c.args.now in
    let of_cells = λ (xs : List CellRow). map (at now) (filter_map (λ (r : CellRow). cell_work r now) xs) in
    let of_domains = λ (xs : List DomainRow). map (at now) (filter_map (λ (r : DomainRow). domain_work r now) xs) in
    let of_places = λ (xs : List (Key × Presence)). map (at now) (filter_map (place_work rows now) xs) in
    let of_tasks = λ (xs : List Task). map (at now) (filter_map (task_work rows now) xs) in
    c.in_ok-ask_tasks.ensures
    ∙ ap (λ (xs : List Task). c.ask_places.new.asked ++ of_tasks xs) c.items-3.ensures
    ∙ ap (λ (xs : List Command). xs ++ of_tasks rows.tasks)
    (c.in_ok-ask_places.ensures
    ∙ ap (λ (xs : List (Key × Presence)). c.ask_domains.new.asked ++ of_places xs)
    (c.as_slice.ensures.value ∙ c.in_ok-places.ensures)
    ∙ ap (λ (xs : List Command). xs ++ of_places (places rows))
    (c.in_ok-ask_domains.ensures
    ∙ ap (λ (xs : List DomainRow). c.ask_cells.new.asked ++ of_domains xs) c.items-2.ensures
    ∙ ap (λ (xs : List Command). xs ++ of_domains rows.domains)
    (c.in_ok-ask_cells.ensures
    ∙ ap (λ (xs : List Command). xs ++ of_cells c.items.result.now) c.new-asked.ensures
    ∙ ap of_cells c.items.ensures)))
    ∙ gathered (at now) (filter_map (λ (r : CellRow). cell_work r now) rows.cells)
    (filter_map (λ (r : DomainRow). domain_work r now) rows.domains)
    (filter_map (place_work rows now) (places rows)) (filter_map (task_work rows now) rows.tasks)
