use Rattle.std.proofs.Common.{◌+◌, take, filter, sym, subst, ap, ◌∙◌}
use Rattle.std.specs.BTreeSet.{contains}
use Rattle.std.proofs.lemmas.Bool.{false≢true}
use Rattle.diego_names.specs.Key.{key_order}
use Rattle.lrp_records.specs.declared.actual.Actual.{Actual}
use Rattle.route_emitter.specs.Near.{Covers, IsIndexed}
use Rattle.route_emitter.specs.Routes.{is_running}
use Rattle.route_emitter.specs.declared.instances.Instances.{Instances}
use Rattle.route_emitter.proofs.Covering.{covers-more, covers-next}
use Rattle.route_emitter.proofs.instances.Instances.of.Goals.{then-is_running+in_ok-add, else-is_running}
use Rattle.route_emitter.proofs.instances.Instances.of.Goals as goal

pub loop-row-preserved : goal.loop-row-preserved
loop-row-preserved c =
    let rows = c.args.rows.now in
    let i = c.loop-row.row-index in
    let row = c.row-item.result in
    let was = contains key_order c.loop-row.instances.set in
    let cover = λ (x : Instances). Covers (contains key_order x.set) (filter is_running (take (i + 1) rows)) in
    elim c.if-is_running.branch [
      | then-is_running+in_ok-add w ↦
          let now = contains key_order w.add.new.self.set in
          let there = subst (λ (r : Actual). IsIndexed now r.key) c.row-item.is w.in_ok-add.ensures.there in
          subst cover (sym w.instances-is)
          (covers-next now rows i row c.loop-row-test.true (λ _. there)
          (covers-more was now (filter is_running (take i rows)) w.in_ok-add.ensures.more c.loop-row.invariant))
      | else-is_running w ↦
          subst cover (sym w.instances-is)
          (covers-next was rows i row c.loop-row-test.true
          (λ is. absurd (false≢true (sym w.if-is_running.false ∙ c.is_running.ensures ∙ ap
          (λ (r : Actual). is_running r) c.row-item.is ∙ is))) c.loop-row.invariant)
    ]
