-- The causes of the new value are watched, and those of all others still are.
use Rattle.std.proofs.Common.{◌≡◌, Bool, true, false, cond, Some, refl, sym, subst, ◌∙◌}
use Rattle.std.specs.Map.{lookup}
use Rattle.work_causes.specs.contracts.cause.CausePartialEq.TheImpl.{eq-value}
use Rattle.watch_lists.specs.Groups.{is_in}
use Rattle.watch_lists.proofs.Apart.{TellsApart, differ}
use Rattle.watch_lists.proofs.watched.Watched.renew.Goals as goal

pub invariant_of-self : goal.invariant_of-self
invariant_of-self g c k v at d inside =
    let t : TellsApart g.K.PartialEq.eq = record { exact = g.met.K.Tag.exact; itself = g.met.K.Eq.laws.refl } in
    elim (g.K.PartialEq.eq c.args.key k) as (λ (b : Bool). g.K.PartialEq.eq c.args.key k ≡ b
    → cond b c.args.value (lookup (g.K.PartialEq.eq k) c.self.inside.map.entries) ≡ Some v
    → is_in eq-value.it g.K.PartialEq.eq c.enter_value.new.watch.keys d k ≡ true) [
      | true ↦ λ is now. subst (λ j. is_in eq-value.it g.K.PartialEq.eq c.enter_value.new.watch.keys d j ≡ true)
          (t.exact c.args.key k is) (c.enter_value.ensures.here v now d inside)
      | false ↦ λ is was. c.enter_value.ensures.others d k (c.leave_value.ensures.others d k
          (differ t c.args.key k is) (c.self.invariant k v was d inside))
    ] refl (sym (c.set.ensures.updates k) ∙ at)
