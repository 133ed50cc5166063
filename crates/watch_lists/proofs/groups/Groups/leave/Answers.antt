-- The last of the group gets the number of the item.
use Rattle.std.proofs.Common.{◌≡◌, ◌-◌, ◌<◌, ◌&&◌, not, true, false, is_some, subst, sym, ap, ◌∙◌, arith}
use Rattle.watch_lists.proofs.Apart.{TellsApart, TellsApart-pairs}
use Rattle.watch_lists.proofs.Keeping.{count_is, counted, is_in-taken, last_there, numbered_below, IsNumbered-moved}
use Rattle.watch_lists.specs.Groups.{count_by, number_by, Grouped, is_in, is_pair}
use Rattle.watch_lists.proofs.groups.Groups.leave.Goals as goal

pub overflow_sub-last : goal.overflow_sub-last
overflow_sub-last g c =
    let t : TellsApart g.C.PartialEq.eq = record { exact = g.met.C.Tag.exact; itself = g.met.C.Eq.laws.refl } in
    let u : TellsApart g.S.PartialEq.eq = record { exact = g.met.S.Tag.exact; itself = g.met.S.Eq.laws.refl } in
    let count : c.len-count.result ≡ count_by g.C.PartialEq.eq c.self.inside.counts.entries c.args.group =
    c.len-count.ensures.len
    ∙ sym (ap (λ (s : Grouped _ _). count_by g.C.PartialEq.eq s.counts c.args.group) c.self.view_is) in
    let below : c.in-Some.number < count_by g.C.PartialEq.eq c.self.inside.counts.entries c.args.group =
    numbered_below t u c.self.inside.counts.entries c.self.inside.items.entries c.self.inside.numbers.entries
    c.self.invariant c.args.group c.args.item c.in-Some.number
    (sym c.get.ensures.value ∙ sym c.copied.ensures ∙ c.in-Some.is) in
    omega (arith, count, below)

pub unreachable-requires : goal.unreachable-requires
unreachable-requires g c =
    let t : TellsApart g.C.PartialEq.eq = record { exact = g.met.C.Tag.exact; itself = g.met.C.Eq.laws.refl } in
    let u : TellsApart g.S.PartialEq.eq = record { exact = g.met.S.Tag.exact; itself = g.met.S.Eq.laws.refl } in
    let there = last_there t u c.self.inside.counts.entries c.self.inside.items.entries c.self.inside.numbers.entries
    c.self.invariant c.args.group c.args.item c.in-Some.number (c.len-count.result - 1)
    (sym c.get.ensures.value ∙ sym c.copied.ensures ∙ c.in-Some.is)
    (count_is t u c.self.inside.counts.entries c.self.inside.items.entries c.self.inside.numbers.entries
    c.self.invariant c.args.group c.args.item c.in-Some.number c.len-count.result
    (sym c.get.ensures.value ∙ sym c.copied.ensures ∙ c.in-Some.is) (c.len-count.ensures.len
    ∙ sym (ap (λ (s : Grouped _ _). count_by g.C.PartialEq.eq s.counts c.args.group) c.self.view_is))) in
    let no : true ≡ false = sym there
    ∙ ap is_some (sym c.get-2.ensures.value ∙ sym c.copied-2.ensures ∙ c.in-None-copied.is) in
    absurd cc

pub write-requires : goal.write-requires
write-requires g c =
    ap is_some (c.self.invariant.told c.args.group c.args.item c.in-Some.number
    (sym c.get.ensures.value ∙ sym c.copied.ensures ∙ c.in-Some.is))

pub write-requires-in-Some-copied : goal.write-requires-in-Some-copied
write-requires-in-Some-copied g c =
    ap is_some (c.self.invariant.back c.args.group (c.len-count.result - 1) c.in-Some-copied.moved
    (sym c.get-2.ensures.value ∙ sym c.copied-2.ensures ∙ c.in-Some-copied.is))

pub lower-requires : goal.lower-requires
lower-requires g c =
    let t : TellsApart g.C.PartialEq.eq = record { exact = g.met.C.Tag.exact; itself = g.met.C.Eq.laws.refl } in
    let u : TellsApart g.S.PartialEq.eq = record { exact = g.met.S.Tag.exact; itself = g.met.S.Eq.laws.refl } in
    counted _ (c.len-count.result - 1)
    (count_is t u c.self.inside.counts.entries c.self.inside.items.entries c.self.inside.numbers.entries
    c.self.invariant c.args.group c.args.item c.in-Some.number c.len-count.result
    (sym c.get.ensures.value ∙ sym c.copied.ensures ∙ c.in-Some.is) (c.len-count.ensures.len
    ∙ sym (ap (λ (s : Grouped _ _). count_by g.C.PartialEq.eq s.counts c.args.group) c.self.view_is)))

pub invariant_of-self : goal.invariant_of-self
invariant_of-self g c =
    let t : TellsApart g.C.PartialEq.eq = record { exact = g.met.C.Tag.exact; itself = g.met.C.Eq.laws.refl } in
    let u : TellsApart g.S.PartialEq.eq = record { exact = g.met.S.Tag.exact; itself = g.met.S.Eq.laws.refl } in
    IsNumbered-moved t u c.self.inside.counts.entries c.self.inside.items.entries c.self.inside.numbers.entries
    c.self.invariant c.lower.new.counts.entries c.write.new.map.entries c.take.new.map.entries
    c.write-in-Some-copied.new.map.entries c.take-in-Some-copied.new.map.entries c.args.group c.args.item
    c.in-Some-copied.moved c.in-Some.number (c.len-count.result - 1)
    (count_is t u c.self.inside.counts.entries c.self.inside.items.entries c.self.inside.numbers.entries
    c.self.invariant c.args.group c.args.item c.in-Some.number c.len-count.result
    (sym c.get.ensures.value ∙ sym c.copied.ensures ∙ c.in-Some.is) (c.len-count.ensures.len
    ∙ sym (ap (λ (s : Grouped _ _). count_by g.C.PartialEq.eq s.counts c.args.group) c.self.view_is)))
    (sym c.get.ensures.value ∙ sym c.copied.ensures ∙ c.in-Some.is)
    (sym c.get-2.ensures.value ∙ sym c.copied-2.ensures ∙ c.in-Some-copied.is)
    c.write.ensures.updates.0 c.take.ensures.updates.0 c.write-in-Some-copied.ensures.updates.0
    c.take-in-Some-copied.ensures.updates.0 c.lower.ensures.counts

pub returns-clause-items : goal.returns-clause-items
returns-clause-items g c d s =
    let t : TellsApart g.C.PartialEq.eq = record { exact = g.met.C.Tag.exact; itself = g.met.C.Eq.laws.refl } in
    let u : TellsApart g.S.PartialEq.eq = record { exact = g.met.S.Tag.exact; itself = g.met.S.Eq.laws.refl } in
    is_in-taken (is_pair g.C.PartialEq.eq g.S.PartialEq.eq) (c.args.group, c.args.item)
    (c.args.group, c.in-Some-copied.moved) c.in-Some.number c.self.inside.numbers.entries
    c.write-in-Some-copied.new.map.entries c.take-in-Some-copied.new.map.entries
    (λ q is. subst (λ (k : _ × _). is_some (number_by g.C.PartialEq.eq g.S.PartialEq.eq c.self.inside.numbers.entries k.0 k.1)
    ≡ true) ((TellsApart-pairs t u).exact _ q is)
    (ap is_some (c.self.invariant.back c.args.group (c.len-count.result - 1) c.in-Some-copied.moved
    (sym c.get-2.ensures.value ∙ sym c.copied-2.ensures ∙ c.in-Some-copied.is))))
    c.write-in-Some-copied.ensures.updates.0 c.take-in-Some-copied.ensures.updates.0 (d, s)
    ∙ ap (λ (w : Grouped _ _). not (is_pair g.C.PartialEq.eq g.S.PartialEq.eq (c.args.group, c.args.item) (d, s))
    && is_in g.C.PartialEq.eq g.S.PartialEq.eq w d s) c.self.view_is
