use Rattle.std.proofs.Common.{◌+◌, ◌≤◌, ◌&&◌, ◌||◌, cond, not, List, length, subst, sym, ap, ◌∙◌}
use Rattle.std.specs.List.{count_by, flat_map, sum_by}
use Rattle.dump_lines.specs.declared.cell_state.CellState.{CellState}
use Rattle.dump_lines.specs.declared.cell_state.InstanceOnCell.{InstanceOnCell}
use Rattle.dump_lines.specs.declared.cell_state.Place.{Place}
use Rattle.dump_lines.specs.declared.rows.ActualRow.{ActualRow}
use Rattle.dump_lines.specs.declared.rows.DesiredRow.{DesiredRow}
use Rattle.site_answers.specs.Notes.{is_named}
use Rattle.site_answers.specs.Noting.{is_of_no_cell_by, strays_of}
use Rattle.site_answers.proofs.Named.{no_cell-by}
use Rattle.what_if.specs.Sites.{has_started, is_some_row}
use Rattle.what_if.specs.declared.site.Wanted.{Wanted}
use Rattle.what_if.proofs.Agreeing.{count-same}
use Rattle.site_answers.proofs.notes.notes_of.Goals as goal

pub noted_in-drivers-requires : goal.noted_in-drivers-requires
noted_in-drivers-requires c =
    subst (λ (ss : List CellState). sum_by (λ (s : CellState). length s.instances) ss ≤ 250000)
    (sym c.items-states.ensures) c.requires.limits.told

pub returns : goal.returns
returns c =
    let dump = c.args.dump.now in
    let named = c.in_ok-named.named in
    let wanted = c.deref-2.ensures.value ∙ c.in_ok-wanted.ensures in
    λ i. record {
      instances_from_containers = (c.from_containers-from.ensures ∙
          (λ j. cond (is_some_row (c.items-desired.ensures j)) 0 (length (wanted j)))) i;
      optional_tags = (c.cells_with_optional_tags-optional.ensures ∙ ap
          (count_by (λ (s : CellState). s.has_optional_tags)) c.items-states.ensures) i;
      proxy_memory = c.proxy_of-proxy.ensures i;
      rows_of_no_cell =
          (c.rows_of_no_cell-rows.ensures
          ∙ ap (count_by (λ (r : ActualRow). is_of_no_cell_by named r)) c.items-actual.ensures
          ∙ count-same (λ (r : ActualRow). is_of_no_cell_by named r)
          (λ r. has_started r.state && not (is_named dump r.cell))
          (no_cell-by dump named c.in_ok-named.ensures) dump.actual) i;
      silent_cells = (c.number_of-silent_cells.ensures ∙ ap (λ (ps : List Place). length ps)
          (c.deref-3.ensures.value ∙ c.in_ok-silent.ensures)) i;
      strays = (c.in_ok-strays.ensures ∙ ap (λ (ws : List Wanted). strays_of dump ws)
          (c.deref.ensures.value ∙ c.in_ok-wanted.ensures)) i;
      volume_drivers =
          (c.noted_in-drivers.ensures.value
          ∙ ap (λ (ss : List CellState). count_by (λ (x : InstanceOnCell). x.has_volume_drivers)
          (flat_map (λ (s : CellState). s.instances) ss)) c.items-states.ensures) i
          + (c.rows_with_volumes-volumes.ensures ∙ ap (count_by
          (λ (d : DesiredRow). d.has_volume_drivers || d.has_volume_mounts)) c.items-desired.ensures) i;
    }
