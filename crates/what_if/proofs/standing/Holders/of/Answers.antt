use Rattle.std.proofs.Common.{◌≡◌, ℕ, cond, List, drop, length, Option, Some, None, ap, ◌∙◌, arith}
use Rattle.std.proofs.Math.Seq.{drop-length}
use Rattle.std.proofs.lemmas.Grind.{common_steps}
use Rattle.what_if.specs.Stays.{holder_in, same_key}
use Rattle.what_if.specs.declared.site.Stay.{Stay}
use Rattle.what_if.proofs.Holding.{holder_back}
use Rattle.what_if.proofs.standing.Holders.of.Goals as goal

pub loop-at-init : goal.loop-at-init
loop-at-init c = record {
  within = omega arith;
  found = λ key.
      let none : holder_in (drop (length c.args.stays.now) c.args.stays.now) key ≡ None =
      ap (λ (ss : List Stay). holder_in ss key) (drop-length c.args.stays.now) in
      grind (arith, common_steps, none);
}

pub loop-at-preserved : goal.loop-at-preserved
loop-at-preserved c =
    let s = c.index-stays-at.result in
    record {
      within = omega arith;
      found = λ key.
          c.in_ok-insert.ensures.updates.0 key
          ∙ ap (λ (o : Option (List ℕ)). cond (same_key s.key key) (Some s.cell) o) (c.loop-at.invariant.found key)
          ∙ holder_back c.args.stays.now c.loop-at.at s (omega arith) c.loop-at.invariant.within c.index-stays-at.is
          key;
    }
