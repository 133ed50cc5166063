-- The containers that cells keep for nobody.
use Rattle.std.specs.Prelude.{ℕ, ◌||◌, Bool, not, List, map, filter}
use Rattle.std.specs.List.{flat_map}
use Rattle.std.specs.Ordering.{nat_cmp, on, then_cmp}
use Rattle.std.specs.declared.cmp.Ordering.{Ordering}
use Rattle.cell_records.specs.declared.answer.Answer.{Answer}
use Rattle.cell_records.specs.declared.container.Container.{Container}
use Rattle.container_store.specs.Changes.{is_uncompleted}
use Rattle.diego_names.specs.Order.{name_order}
use Rattle.diego_names.specs.declared.instance.Instance.{Instance}
use Rattle.row_tables.specs.Table.{table}
use Rattle.bbs_model.specs.declared.rows.Rows.{Rows}
use Rattle.convergence.specs.Containers.{is_named}

-- the container is of no use: it has ended, or no row names it
abbrev pub is_stray : Rows → Container → Bool
is_stray rows c = not (is_uncompleted c.state) || not (is_named rows c)

-- the strays of one answer, each with its cell
abbrev pub strays_in : Rows → Answer → List (List ℕ × Instance)
strays_in rows x = map (λ (c : Container). (x.cell, c.instance)) (filter (is_stray rows) x.containers)

-- by cell and then by the container's number; what still ties differs by epoch
abbrev pub stray_order : List ℕ × Instance → List ℕ × Instance → Ordering
stray_order =
    then_cmp (then_cmp (on (λ s. s.0) name_order) (on (λ s. s.1.number) nat_cmp)) (on (λ s. s.1.epoch) nat_cmp)

-- the strays of all answers, each once and in order
abbrev pub strays : Rows → List Answer → List (List ℕ × Instance)
strays rows answers = table stray_order (λ s. s) (flat_map (strays_in rows) answers)
