use Rattle.std.proofs.Common.{◌≡◌, ◌+◌, ◌<◌, None, MatchOption, sym, subst, ◌∙◌, arith, rules}
use Rattle.auctioneer.specs.Fields.{IsBestOf}
use Rattle.auctioneer.specs.Least.{best, IsBestAt}
use Rattle.auctioneer.proofs.Walks.{best_other_tag, found_best}
use Rattle.auctioneer.proofs.field.Field.best_of_groups.Goals.{then-eq, else-eq}
use Rattle.auctioneer.proofs.field.Field.best_of_groups.Goals as goal

pub loop-group-init : goal.loop-group-init
loop-group-init c = record { fitting = tt; no_worse = λ k s p below seen. absurd (omega arith) }

pub best_in-best-requires-clause-found : goal.best_in-best-requires-clause-found
best_in-best-requires-clause-found c = c.loop-group.invariant

pub loop-group-preserved : goal.loop-group-preserved
loop-group-preserved c =
    let f = c.args.self.now in
    let spots = c.args.spots.now in
    elim c.if-eq.branch [
      | then-eq w ↦ subst (IsBestOf f.stands.items spots.all.items c.args.job.now
          (λ p. p.group < c.loop-group.group + 1)) (sym w.best-is) w.best_in-best.ensures
      | else-eq w ↦
          subst (IsBestOf f.stands.items spots.all.items c.args.job.now (λ p. p.group < c.loop-group.group + 1))
          (sym w.best-is)
          (best_other_tag f c.requires.field c.args.job.now spots c.requires.spots c.loop-group.group c.index.result.now
          c.index.ensures (sym c.eq.ensures ∙ w.if-eq.false) c.loop-group.best c.loop-group.invariant)
    ]

pub returns : goal.returns
returns c =
    let f = c.args.self.now in
    let h : MatchOption c.loop-group.best (best f.stands.items c.args.job.now ≡ None)
    (λ x. IsBestAt f.stands.items c.args.job.now x.at) =
    found_best f c.requires.field c.args.job.now c.args.spots.now c.requires.spots c.loop-group.group c.loop-group.best
    (omega (arith, c.loop-group-test.false, c.len-group-end.ensures)) c.loop-group.invariant in
    search (rules, h)
