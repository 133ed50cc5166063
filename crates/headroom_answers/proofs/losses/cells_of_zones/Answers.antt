use Rattle.std.proofs.Common.{ap, ◌∙◌}
use Rattle.std.specs.List.{flat_map}
use Rattle.diego_names.proofs.Public.{IsKeyOrder-name_order}
use Rattle.site_answers.specs.Losses.{cells_of_zone}
use Rattle.headroom_answers.proofs.losses.cells_of_zones.Goals as goal

pub keys_in_order-requires : goal.keys_in_order-requires
keys_in_order-requires c = IsKeyOrder-name_order.exact

pub returns : goal.returns
returns c =
    c.in_ok-cells.ensures
    ∙ ap (flat_map (cells_of_zone c.args.site.now)) (c.deref.ensures.value ∙ c.in_ok-once.ensures)
