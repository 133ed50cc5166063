use Rattle.std.proofs.Common.{◌∙◌}
use Rattle.what_if.specs.Places.{silent_stay_by}
use Rattle.what_if.specs.Sites.{silent_stay}
use Rattle.what_if.proofs.Agreeing.{filter_map-same, silent_stays-by_places}
use Rattle.what_if.proofs.silence.silent_stays.Goals as goal

pub returns : goal.returns
returns c =
    c.in_ok-stays.ensures
    ∙ filter_map-same (silent_stay_by c.in_ok-places.places) (silent_stay c.args.silent.now)
    (silent_stays-by_places c.args.silent.now c.in_ok-places.places c.in_ok-places.ensures) c.args.rows.now
