use Rattle.std.proofs.Common.{◌≡◌, ◌+◌, true, Option, take, sym, subst, ap, ◌∙◌, arith}
use Rattle.std.specs.Prelude.{IfSome}
use Rattle.std.specs.BTreeSet.{contains}
use Rattle.diego_names.specs.Key.{key_order}
use Rattle.diego_names.specs.declared.key.Key.{Key}
use Rattle.bbs_model.specs.declared.event.Event.{Event}
use Rattle.route_emitter.specs.Near.{IsIndexed, WillCover, key_put}
use Rattle.route_emitter.specs.declared.instances.Instances.{Instances}
use Rattle.route_emitter.proofs.Covering.{will-all, will-next}
use Rattle.route_emitter.proofs.instances.Instances.add_all.Goals.{in-Some+in_ok-add, in_default}
use Rattle.route_emitter.proofs.instances.Instances.add_all.Goals as goal

pub loop-event-preserved : goal.loop-event-preserved
loop-event-preserved c =
    let es = c.args.events.now in
    let i = c.loop-event.event-index in
    let e = c.event-item.result in
    let was = contains key_order c.loop-event.self.set in
    let put = c.key_put.ensures ∙ ap (λ (x : Event). key_put x.change x.row) c.event-item.is in
    elim c.match-key_put.branch [
      | in-Some+in_ok-add w ↦
          let now = contains key_order w.add.new.self.set in
          let at = subst (λ (o : Option Key). IfSome o (IsIndexed now)) (sym w.in-Some.is) w.in_ok-add.ensures.there in
          record {
            more = λ k h. subst (λ (x : Instances). contains key_order x.set k ≡ true) (sym w.self-is)
                (w.in_ok-add.ensures.more k (c.loop-event.invariant.more k h));
            covered = subst (λ (x : Instances). WillCover (contains key_order x.set) (take (i + 1) es)) (sym w.self-is)
                (will-next was now es i e c.key_put.result c.loop-event-test.true w.in_ok-add.ensures.more put at
                c.loop-event.invariant.covered);
          }
      | in_default w ↦
          let at = subst (λ (o : Option Key). IfSome o (IsIndexed was)) (sym w.in_default.is) tt in
          record {
            more = λ k h. subst (λ (x : Instances). contains key_order x.set k ≡ true) (sym w.self-is)
                (c.loop-event.invariant.more k h);
            covered = subst (λ (x : Instances). WillCover (contains key_order x.set) (take (i + 1) es)) (sym w.self-is)
                (will-next was was es i e c.key_put.result c.loop-event-test.true
                (λ k h. h) put at c.loop-event.invariant.covered);
          }
    ]

pub returns-clause-all : goal.returns-clause-all
returns-clause-all c = will-all (contains key_order c.loop-event.self.set) c.args.events.now c.loop-event.event-index
    (omega arith) c.loop-event.invariant.covered
