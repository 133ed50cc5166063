-- Entries: their order, and what two lists of them differ in.
use Rattle.std.specs.Prelude.{Bool, not, List, is_some, filter}
use Rattle.std.specs.Ordering.{nat_cmp, on, then_cmp}
use Rattle.std.specs.declared.cmp.Ordering.{Ordering}
use Rattle.diego_names.specs.Instance.{instance_order}
use Rattle.diego_names.specs.Order.{name_order}
use Rattle.row_tables.specs.Table.{find_row}
use Rattle.route_emitter.specs.declared.entry.RouteEntry.{RouteEntry}

-- by the fields, one after another
abbrev pub route_order : RouteEntry → RouteEntry → Ordering
route_order =
    then_cmp (on (λ e. e.route) name_order)
    (then_cmp (on (λ e. e.process) name_order)
    (then_cmp (on (λ e. e.index) nat_cmp)
    (then_cmp (on (λ e. e.instance) instance_order)
    (then_cmp (on (λ e. e.cell) name_order)
    (on (λ e. e.port) nat_cmp)))))

-- an entry is its own key
abbrev pub itself : RouteEntry → RouteEntry
itself entry = entry

-- the entry is one of these
abbrev pub has : List RouteEntry → RouteEntry → Bool
has entries entry = is_some (find_row route_order itself entry entries)

-- those that the others haven't
abbrev pub minus : List RouteEntry → List RouteEntry → List RouteEntry
minus entries others = filter (λ entry. not (has others entry)) entries
