use Rattle.std.proofs.Common.{rules}
use Rattle.std.proofs.lemmas.Iterator.{YieldsList-from_map, YieldsList-from_slice, YieldsList-from_zip, items_from_collect}
use Rattle.std.proofs.lemmas.Iterator.Consumers.{YieldsList-at}
use Rattle.std.proofs.lemmas.Result.{IfOk-at_ok}
use Rattle.loss_cases.specs.Fits.{filled_of}
use Rattle.loss_cases.proofs.fillings.each_filled.Goals as goal

pub returns : goal.returns
returns c =
    let pairs =
    YieldsList-from_zip (YieldsList-at c.zip.ensures.first
    (YieldsList-from_slice c.args.before.now c.iter.ensures.rest))
    (YieldsList-at c.zip.ensures.second (YieldsList-from_slice c.args.after.now c.iter-2.ensures.rest)) in
    IfOk-at_ok _ c.in_ok-filled.was
    (items_from_collect _ c.collect.ensures.ran
    (YieldsList-from_map _ (λ p. filled_of p.0 p.1) (YieldsList-at c.map.ensures.source pairs) c.map.ensures.closure
    (λ x r q k. search rules)))
