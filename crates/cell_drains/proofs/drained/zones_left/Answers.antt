use Rattle.std.proofs.Common.{ap, ◌∙◌}
use Rattle.auctioneer.specs.Stands.{stands_of}
use Rattle.site_answers.specs.Zones.{zones_then}
use Rattle.what_if.proofs.Few.{few_stands}
use Rattle.cell_drains.proofs.drained.zones_left.Goals as goal

pub zones_then-requires-clause-few : goal.zones_then-requires-clause-few
zones_then-requires-clause-few c =
    few_stands _ c.in_ok-cells.cells.items c.in_ok-cells.ensures.sound
    (c.stands.ensures ∙ c.in_ok-auction.ensures ∙ ap stands_of c.deref.ensures.value)

pub returns : goal.returns
returns c =
    c.in_ok-zones.ensures
    ∙ ap (zones_then c.args.site.now) (c.stands.ensures ∙ c.in_ok-auction.ensures ∙ ap stands_of
    (c.deref.ensures.value ∙ c.in_ok-cells.ensures.value))
