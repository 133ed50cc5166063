-- One more of the actors is back.
use Rattle.std.proofs.Common.{◌<◌, ◌++◌, ◌∷◌, [], length, map, take, ap, sym, ◌∙◌, append_assoc, arith}
use Rattle.std.specs.Vec.Iter.{into_iter_items}
use Rattle.phase_threads.proofs.Pairs.{first_set, images_more, next_is}
use Rattle.phase_threads.proofs.gathering.gather.Goals as goal

pub loop-index-preserved : goal.loop-index-preserved
loop-index-preserved g c =
    let i = c.loop-index.index in let x = c.in-Some.acting in let all = c.args.all.items in let at =
    c.loop-index.invariant in
    let next = next_is all i x (into_iter_items c.next.new.self) (sym at.left ∙ c.in-Some.ensures.items) in
    let within : i < length c.loop-index.actors = omega (arith, c.loop-index-test.true, c.loop-index.auto.actors) in
    record {
      left = sym next.1;
      count = omega (arith, c.in-Some.ensures.len, at.count);
      actors = first_set c.loop-index.actors i c.gather_one.new.slot within
          ∙ ap (λ l. l ++ c.gather_one.new.slot ∷ []) at.actors
          ∙ ap (λ a. map (λ y. y.actor) (take i all) ++ a ∷ []) c.gather_one.ensures.actor
          ∙ sym (images_more all (λ y. y.actor) i x next.0);
      passes = c.gather_one.ensures.passes
          ∙ ap (λ l. l ++ x.port.port.pass ∷ []) at.passes
          ∙ append_assoc c.args.passes.now.items (map (λ y. y.port.port.pass) (take i all)) (x.port.port.pass ∷ [])
          ∙ ap (λ l. c.args.passes.now.items ++ l) (sym (images_more all (λ y. y.port.port.pass) i x next.0));
      parts = c.gather_one.ensures.parts
          ∙ ap (λ l. l ++ x.part.items ∷ []) at.parts
          ∙ append_assoc c.args.parts.now.items (map (λ y. y.part.items) (take i all)) (x.part.items ∷ [])
          ∙ ap (λ l. c.args.parts.now.items ++ l) (sym (images_more all (λ y. y.part.items) i x next.0));
      more_passes = omega (
        arith,
        c.gather_one.ensures.more_passes.0,
        c.gather_one.ensures.more_passes.1,
        at.more_passes,
        c.loop-index-test.true,
      );
      more_parts = omega (
        arith,
        c.gather_one.ensures.more_parts.0,
        c.gather_one.ensures.more_parts.1,
        at.more_parts,
        c.loop-index-test.true,
      );
    }
