-- The item gets the number behind the others of its group.
use Rattle.std.proofs.Common.{◌≡◌, ◌||◌, None, sym, ap, ◌∙◌}
use Rattle.watch_lists.proofs.Apart.{TellsApart}
use Rattle.watch_lists.proofs.Keeping.{is_in-put, none_from, IsNumbered-come}
use Rattle.watch_lists.specs.Groups.{count_by, number_by, Grouped, is_in, is_pair}
use Rattle.watch_lists.proofs.groups.Groups.enter.Goals as goal

pub invariant_of-self : goal.invariant_of-self
invariant_of-self g c =
    let t : TellsApart g.C.PartialEq.eq = record { exact = g.met.C.Tag.exact; itself = g.met.C.Eq.laws.refl } in
    let u : TellsApart g.S.PartialEq.eq = record { exact = g.met.S.Tag.exact; itself = g.met.S.Eq.laws.refl } in
    let last : c.len-number.result ≡ count_by g.C.PartialEq.eq c.self.inside.counts.entries c.args.group =
    c.len-number.ensures.len
    ∙ sym (ap (λ (s : Grouped _ _). count_by g.C.PartialEq.eq s.counts c.args.group) c.self.view_is) in
    let new : number_by g.C.PartialEq.eq g.S.PartialEq.eq c.self.inside.numbers.entries c.args.group c.args.item ≡ None =
    none_from _ (sym c.contains_key.ensures ∙ c.if-contains_key.false) in
    IsNumbered-come t u c.self.inside.counts.entries c.self.inside.items.entries c.self.inside.numbers.entries
    c.self.invariant c.put-3.new.map.entries c.put.new.map.entries c.put-2.new.map.entries c.args.group c.args.item
    c.len-number.result last new c.put.ensures.updates.0 c.put-2.ensures.updates.0 c.put-3.ensures.updates.0

pub returns-clause-items : goal.returns-clause-items
returns-clause-items g c d s =
    is_in-put (is_pair g.C.PartialEq.eq g.S.PartialEq.eq) (c.args.group, c.args.item) c.len-number.result
    c.self.inside.numbers.entries c.put-2.new.map.entries c.put-2.ensures.updates.0 (d, s)
    ∙ ap (λ (w : Grouped _ _). is_pair g.C.PartialEq.eq g.S.PartialEq.eq (c.args.group, c.args.item) (d, s)
    || is_in g.C.PartialEq.eq g.S.PartialEq.eq w d s) c.self.view_is
