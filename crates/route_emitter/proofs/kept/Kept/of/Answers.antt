use Rattle.std.proofs.Common.{subst, sym, ◌∙◌}
use Rattle.diego_names.specs.Order.{name_order}
use Rattle.lrp_records.specs.Place.{place_of, place_order}
use Rattle.row_tables.specs.Table.{IsRising}
use Rattle.bbs_model.specs.Tables.{process_of}
use Rattle.route_emitter.specs.Routes.{has_route, is_running}
use Rattle.route_emitter.proofs.Filters.{IsRising-filter}
use Rattle.route_emitter.proofs.kept.Kept.of.Goals as goal

pub of-requires : goal.of-requires
of-requires c =
    subst (λ rows. IsRising name_order process_of rows) (sym (c.as_slice.ensures.value ∙ c.in_ok-desired.ensures))
    (IsRising-filter name_order process_of has_route c.args.desired.now c.requires.desired)

pub of-requires-2 : goal.of-requires-2
of-requires-2 c =
    subst (λ rows. IsRising place_order place_of rows) (sym (c.as_slice-2.ensures.value ∙ c.in_ok-running.ensures))
    (IsRising-filter place_order place_of is_running c.args.actual.now c.requires.actual)
