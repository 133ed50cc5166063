-- A key that is found is taken from its place.
use Rattle.std.proofs.Common.{◌≡◌, List, sym, ap, subst, ◌∙◌}
use Rattle.row_tables.specs.Table.{IsRising, without_row}
use Rattle.row_tables.proofs.Public.{IsRising-without_row}
use Rattle.agendas.specs.Agendas.{Planned}
use Rattle.agendas.proofs.Places.{absent_at, taken_at, without_unknown}
use Rattle.agendas.proofs.Sorted.{searchable}
use Rattle.agendas.proofs.agenda.Agenda.remove.Goals as goal

pub invariant_of-self : goal.invariant_of-self
invariant_of-self g c =
    let R = g.K.Ord.cmp in
    let q = c.args.key.now in
    let ys = c.self.inside.keys.items in
    subst (λ (zs : List _). IsRising R (λ k. k) zs)
    (sym (taken_at R c.requires q c.as_slice.result.now ys c.remove.new.self.items c.in-Ok.at c.as_slice.ensures.value
    c.self.invariant c.in-Ok.ensures.bound (c.in-Ok.ensures.ok q) c.remove.ensures.items))
    (IsRising-without_row R (λ k. k) q ys c.self.invariant)

pub returns-in-Ok-clause-keys : goal.returns-in-Ok-clause-keys
returns-in-Ok-clause-keys g c =
    taken_at g.K.Ord.cmp c.requires c.args.key.now c.as_slice.result.now c.self.inside.keys.items
    c.remove.new.self.items c.in-Ok.at c.as_slice.ensures.value c.self.invariant c.in-Ok.ensures.bound
    (c.in-Ok.ensures.ok c.args.key.now) c.remove.ensures.items
    ∙ ap (λ (s : Planned _). without_row g.K.Ord.cmp (λ k. k) c.args.key.now s.keys) c.self.view_is

pub returns-in-Err-clause-keys : goal.returns-in-Err-clause-keys
returns-in-Err-clause-keys g c =
    let R = g.K.Ord.cmp in
    let q = c.args.key.now in
    let xs = c.as_slice.result.now in
    let rising = subst (λ (ys : List _). IsRising R (λ k. k) ys) (sym c.as_slice.ensures.value) c.self.invariant in
    let seen : xs ≡ c.args.self.now.keys = c.as_slice.ensures.value ∙ ap (λ (s : Planned _). s.keys) c.self.view_is in
    let parts = c.in-Err.ensures.position (searchable R c.requires q xs rising) in
    subst (λ (ys : List _). ys ≡ without_row R (λ k. k) q ys) seen
    (without_unknown R c.requires q xs rising (absent_at R c.requires q xs c.in-Err.field-0 parts.0 parts.1))
