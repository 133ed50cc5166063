-- The key is noted under the second at which the new value ends, and all others still are.
use Rattle.std.proofs.Common.{◌≡◌, Bool, true, false, cond, Some, refl, ap, sym, subst, ◌∙◌}
use Rattle.std.specs.Prelude.{nat_eq}
use Rattle.std.specs.Map.{lookup}
use Rattle.std.specs.Option.{option_and_then}
use Rattle.watch_lists.specs.Groups.{is_in}
use Rattle.watch_lists.proofs.Apart.{TellsApart, differ}
use Rattle.watch_lists.proofs.endings.Endings.renew.Goals as goal

pub invariant_of-self : goal.invariant_of-self
invariant_of-self g c k v m at ends =
    let t : TellsApart g.K.PartialEq.eq = record { exact = g.met.K.Tag.exact; itself = g.met.K.Eq.laws.refl } in
    elim (g.K.PartialEq.eq c.args.key k) as (λ (b : Bool). g.K.PartialEq.eq c.args.key k ≡ b
    → cond b c.args.value (lookup (g.K.PartialEq.eq k) c.self.inside.map.entries) ≡ Some v
    → is_in nat_eq g.K.PartialEq.eq c.note.new.calendar.items m k ≡ true) [
      | true ↦ λ is now. subst (λ j. is_in nat_eq g.K.PartialEq.eq c.note.new.calendar.items m j ≡ true)
          (t.exact c.args.key k is) (c.note.ensures.items.here m
          (c.ending_of-2.ensures ∙ ap (option_and_then g.V.Ending.ending) now ∙ ends))
      | false ↦ λ is was. c.note.ensures.items.others m k (c.forget.ensures.items m k
          (differ t c.args.key k is) (c.self.invariant k v m was ends))
    ] refl (sym (c.set.ensures.updates k) ∙ at)
