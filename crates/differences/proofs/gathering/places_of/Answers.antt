use Rattle.std.proofs.Common.{List, ap, inr, subst}
use Rattle.lrp_records.specs.declared.actual.Actual.{Actual}
use Rattle.lrp_records.specs.declared.desired.Desired.{Desired}
use Rattle.lrp_records.specs.declared.presence.Presence.TheVariants.{Ordinary}
use Rattle.differences.specs.Gathering.{AreRowsSettled, AreWantedSettled}
use Rattle.differences.specs.Noted.{causes_at}
use Rattle.differences.proofs.Gathered.{all_settled}
use Rattle.differences.proofs.Touched.{Entries}
use Rattle.differences.proofs.gathering.places_of.Goals as goal

pub returns : goal.returns
returns c p =
    let rows = c.args.rows.now in
    let on = c.in_ok-settle_rows.ensures.goes_on in
    let wanted : AreWantedSettled rows c.settle_wanted.new.places.entries rows.desired =
    subst (λ (xs : List Desired). AreWantedSettled rows c.settle_wanted.new.places.entries xs) c.items.ensures
    c.in_ok-settle_wanted.ensures.here in
    let actual : AreRowsSettled rows c.settle_rows.new.places.entries rows.actual =
    subst (λ (xs : List Actual). AreRowsSettled rows c.settle_rows.new.places.entries xs) c.items-2.ensures
    c.in_ok-settle_rows.ensures.here in
    all_settled rows c.requires c.settle_rows.new.places.entries
    (λ d inside i lt. on.settled (record { process = d.process; index = i }, Ordinary) (wanted d inside i lt)) actual
    p (on.begun p (c.in_ok-settle_wanted.ensures.goes_on.begun p
    (inr (ap (λ (es : Entries). causes_at es p) c.new-places.ensures.empty))))
