-- A key that is found stays where it is, and one that isn't goes to the place where the search ended.
use Rattle.std.proofs.Common.{◌≡◌, List, insert, sym, ap, subst, ◌∙◌}
use Rattle.row_tables.specs.Table.{IsRising, put_row}
use Rattle.row_tables.proofs.Public.{IsRising-put_row}
use Rattle.agendas.specs.Agendas.{Planned}
use Rattle.agendas.proofs.Places.{put_absent, put_known}
use Rattle.agendas.proofs.Sorted.{searchable}
use Rattle.agendas.proofs.agenda.Agenda.put.Given as given
use Rattle.agendas.proofs.agenda.Agenda.put.Goals as goal

-- the key stands in its place among the keys that the search went over
put : (g : given.Over) (c : goal.In-Ok-insert g)
    → c.insert.new.self.items ≡ put_row g.K.Ord.cmp (λ k. k) c.args.key c.self.inside.keys.items
put g c =
    let R = g.K.Ord.cmp in
    let q = c.args.key in
    let xs = c.as_slice.result.now in
    let rising = subst (λ (ys : List _). IsRising R (λ k. k) ys) (sym c.as_slice.ensures.value) c.self.invariant in
    let parts = c.in-Err.ensures.position (searchable R c.requires.order q xs rising) in
    c.in-Ok-insert.ensures.items ∙ subst (λ (ys : List _). insert ys c.in-Err.at q ≡ put_row R (λ k. k) q ys)
    c.as_slice.ensures.value (put_absent R c.requires.order q xs c.in-Err.at c.in-Err.ensures.bound parts.0 parts.1)

pub invariant_of-self : goal.invariant_of-self
invariant_of-self g c =
    subst (λ (ys : List _). IsRising g.K.Ord.cmp (λ k. k) ys) (sym (put g c))
    (IsRising-put_row g.K.Ord.cmp (λ k. k) c.requires.order c.args.key c.self.inside.keys.items c.self.invariant)

pub returns-in-Ok-clause-keys : goal.returns-in-Ok-clause-keys
returns-in-Ok-clause-keys g c =
    let R = g.K.Ord.cmp in
    let q = c.args.key in
    let xs = c.as_slice.result.now in
    let rising = subst (λ (ys : List _). IsRising R (λ k. k) ys) (sym c.as_slice.ensures.value) c.self.invariant in
    let seen : xs ≡ c.args.self.now.keys = c.as_slice.ensures.value ∙ ap (λ (s : Planned _). s.keys) c.self.view_is in
    subst (λ (ys : List _). ys ≡ put_row R (λ k. k) q ys) seen
    (put_known R c.requires.order q xs c.in-Ok.field-0 rising c.in-Ok.ensures.bound
    (c.requires.order.exact _ _ (c.in-Ok.ensures.ok q)))

pub returns-in-Ok-insert-clause-keys : goal.returns-in-Ok-insert-clause-keys
returns-in-Ok-insert-clause-keys g c =
    put g c ∙ ap (λ (s : Planned _). put_row g.K.Ord.cmp (λ k. k) c.args.key s.keys) c.self.view_is
