-- Each pass is dealt to the actor of its number.
use Rattle.std.proofs.Common.{◌<◌, suc, ◌+◌, length, take, sym, ◌∙◌, subst, arith}
use Rattle.std.specs.Vec.Iter.{into_iter_items}
use Rattle.phase_threads.specs.Sharing.{AtEach, IsOwn, IsSet}
use Rattle.phase_threads.proofs.Pairs.{behind_set, each_more, next_is, next_same}
use Rattle.phase_threads.proofs.dealing.deal.Goals as goal

pub set_out-acting-requires : goal.set_out-acting-requires
set_out-acting-requires g c =
    let i = c.loop-index.index in let pass = c.in-Some.pass in
    let next = next_is c.args.passes.items i pass (into_iter_items c.next.new.self)
    (sym c.loop-index.invariant.left ∙ c.in-Some.ensures.items) in
    record { board = (c.requires.passes.own i pass next.0).pass.desk }

pub loop-index-preserved : goal.loop-index-preserved
loop-index-preserved g c =
    let i = c.loop-index.index in let pass = c.in-Some.pass in let olds = c.args.actors.now in let d =
    c.index-actors-index.result in
    let next = next_is c.args.passes.items i pass (into_iter_items c.next.new.self)
    (sym c.loop-index.invariant.left ∙ c.in-Some.ensures.items) in
    let own = c.requires.passes.own i pass next.0 in let y = c.set_out-acting.result in
    let within : i < length c.loop-index.actors = omega (arith, c.loop-index-test.true, c.loop-index.auto.actors) in
    let same = next_same c.loop-index.actors olds i d within c.loop-index-test.true c.loop-index.invariant.same in
    let board = c.args.shared.now.desk.table.shared.key.value.start in let z =
    c.args.shared.now.desk.table.shared.table_id in
    record {
      left = sym next.1;
      count = omega (arith, c.in-Some.ensures.len, c.loop-index.invariant.count);
      set = subst (λ xs. AtEach (IsSet (λ p. p.port.pass) board z (length olds + 1)) (take (i + 1) olds) xs)
          (sym c.push_reserved.ensures.items)
          (each_more (IsSet (λ p. p.port.pass) board z (length olds + 1)) olds c.loop-index.all.items i d y
          c.loop-index-test.true
          c.loop-index.invariant.set (record {
            by = c.set_out-acting.ensures.by ∙ own.pass.number;
            own = subst (IsOwn board z (length olds + 1) (suc i)) (sym c.set_out-acting.ensures.pass) own;
            actor = c.set_out-acting.ensures.actor.0 ∙ same;
            none = c.set_out-acting.ensures.actor.1;
          }));
      same = behind_set c.loop-index.actors olds i c.set_out-acting.new.actor c.loop-index.invariant.same;
      room = omega (
        arith,
        c.push_reserved.ensures.len,
        c.push_reserved.ensures.capacity,
        c.loop-index.invariant.room,
        c.loop-index-test.true,
      );
    }
