use Rattle.std.proofs.Common.{◌∙◌}
use Rattle.route_emitter.proofs.Searching.{found_is_has}
use Rattle.route_emitter.proofs.sorted.has.Goals as goal

pub returns : goal.returns
returns c = c.is_ok.ensures.value ∙ found_is_has c.args.entries.now c.args.entry.now c.binary_search.result c.requires
    c.binary_search.ensures.bound c.binary_search.ensures.position
