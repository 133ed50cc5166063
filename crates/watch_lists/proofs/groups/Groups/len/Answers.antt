-- What the numbers say of a group, and that a count fits.
use Rattle.std.proofs.Common.{◌≡◌, ◌^◌, ◌<◌, ◌≤◌, length, subst, ap, ◌∙◌, arith}
use Rattle.std.specs.Option.{unwrap_or}
use Rattle.watch_lists.proofs.Apart.{TellsApart}
use Rattle.watch_lists.proofs.Keeping.{few, listed_from}
use Rattle.watch_lists.specs.Groups.{count_by, Grouped, IsListed}
use Rattle.watch_lists.proofs.groups.Groups.len.Goals as goal

pub returns-clause-listed : goal.returns-clause-listed
returns-clause-listed g c =
    let t : TellsApart g.C.PartialEq.eq = record { exact = g.met.C.Tag.exact; itself = g.met.C.Eq.laws.refl } in
    let u : TellsApart g.S.PartialEq.eq = record { exact = g.met.S.Tag.exact; itself = g.met.S.Eq.laws.refl } in
    subst (λ (s : Grouped _ _). IsListed g.C.PartialEq.eq g.S.PartialEq.eq s c.args.group.now) c.self.view_is
    (listed_from t u c.self.inside.counts.entries c.self.inside.items.entries c.self.inside.numbers.entries
    c.self.invariant c.args.group.now)

pub returns-clause-small : goal.returns-clause-small
returns-clause-small g c =
    let t : TellsApart g.C.PartialEq.eq = record { exact = g.met.C.Tag.exact; itself = g.met.C.Eq.laws.refl } in
    let u : TellsApart g.S.PartialEq.eq = record { exact = g.met.S.Tag.exact; itself = g.met.S.Eq.laws.refl } in
    let count : c.unwrap_or.result ≡ count_by g.C.PartialEq.eq c.self.inside.counts.entries c.args.group.now =
    c.unwrap_or.ensures ∙ ap (λ o. unwrap_or o 0) (c.copied.ensures ∙ c.get.ensures.value) in
    let below : count_by g.C.PartialEq.eq c.self.inside.counts.entries c.args.group.now
    ≤ length c.self.inside.items.entries =
    few t u c.self.inside.counts.entries c.self.inside.items.entries c.self.inside.numbers.entries c.self.invariant
    c.args.group.now in
    let all : length c.self.inside.items.entries < 2 ^ 63 = subst (λ n. n < 2 ^ 63) c.len-all.ensures.len c.len-all.ensures.small in
    omega (arith, count, below, all)
