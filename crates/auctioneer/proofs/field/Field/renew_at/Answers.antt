use Rattle.std.proofs.Common.{◌≡◌, Option, sym, subst, ◌∙◌, arith}
use Rattle.std.specs.Option.{IfSome}
use Rattle.cell_records.specs.declared.job_name.JobName.{JobName}
use Rattle.cell_records.specs.declared.job_name.JobName.TheVariants.{Lrp}
use Rattle.auctioneer.specs.Fields.{ServesOwn}
use Rattle.auctioneer.specs.Spots.{IsSpotOf}
use Rattle.auctioneer.specs.declared.field.Own.{Own}
use Rattle.auctioneer.proofs.Placings.{same_from_test}
use Rattle.auctioneer.proofs.SpotLists.{IsSpotOf-process}
use Rattle.auctioneer.proofs.field.Field.renew_at.Goals as goal

pub move_cell-requires : goal.move_cell-requires
move_cell-requires c =
    let f = c.args.self.now in
    let own = c.in-Some.own in
    let serves : ServesOwn f.groups.items f.stands.items own =
    subst (λ (o : Option Own). IfSome o (ServesOwn f.groups.items f.stands.items)) c.in-Some.is c.requires.field.own
    in
    let key = c.in-Lrp.key in
    let same : own.process ≡ key.process = same_from_test own.process key.process (sym c.eq.ensures ∙ c.if-eq.true) in
    record { inside = omega (arith, c.requires.inside, (serves key (sym same)).spots.all) }

pub returns-then-eq-clause-field : goal.returns-then-eq-clause-field
returns-then-eq-clause-field c =
    let f = c.args.self.now in
    let field = c.requires.field in
    let own = c.in-Some.own in
    let key = c.in-Lrp.key in
    let serves : ServesOwn f.groups.items f.stands.items own =
    subst (λ (o : Option Own). IfSome o (ServesOwn f.groups.items f.stands.items)) c.in-Some.is field.own in
    let same : own.process ≡ key.process = same_from_test own.process key.process (sym c.eq.ensures ∙ c.if-eq.true) in
    let spot : IsSpotOf (Lrp key) f.groups.items f.stands.items c.args.at c.spot_for-spot.result =
    subst (λ (j : JobName). IsSpotOf j f.groups.items f.stands.items c.args.at c.spot_for-spot.result) c.in-Lrp.is
    c.spot_for-spot.ensures in
    record {
      sound = field.sound;
      common = field.common;
      whole = field.whole;
      lean = field.lean;
      own = λ other is.
          c.move_cell.ensures.ranking (Lrp other) f.groups.items f.stands.items
          (IsSpotOf-process key other f.groups.items f.stands.items c.args.at c.spot_for-spot.result
          (sym same ∙ sym is) spot)
          (serves other is);
      zones = field.zones;
      cells = field.cells;
      refused = field.refused;
    }
