-- The place is where the binary search ends, with the key or without it.
use Rattle.std.proofs.Common.{◌≡◌, List, sym, ap, subst, ◌∙◌}
use Rattle.row_tables.specs.Table.{IsRising}
use Rattle.agendas.specs.Agendas.{IsPlace, Planned}
use Rattle.agendas.proofs.Places.{place_absent, place_known}
use Rattle.agendas.proofs.Sorted.{searchable}
use Rattle.agendas.proofs.agenda.Agenda.place.Goals as goal

pub returns-in-Ok-clause-place : goal.returns-in-Ok-clause-place
returns-in-Ok-clause-place g c =
    let R = g.K.Ord.cmp in
    let q = c.args.key.now in
    let xs = c.as_slice.result.now in
    let rising = subst (λ (ys : List _). IsRising R (λ k. k) ys) (sym c.as_slice.ensures.value) c.self.invariant in
    let seen : xs ≡ c.args.self.now.keys = c.as_slice.ensures.value ∙ ap (λ (s : Planned _). s.keys) c.self.view_is in
    subst (λ (ys : List _). IsPlace R q ys c.in-Ok.at) seen
    (place_known R c.requires q xs c.in-Ok.at rising c.in-Ok.ensures.bound
    (c.requires.exact _ _ (c.in-Ok.ensures.ok q)))

pub returns-in-Err-clause-place : goal.returns-in-Err-clause-place
returns-in-Err-clause-place g c =
    let R = g.K.Ord.cmp in
    let q = c.args.key.now in
    let xs = c.as_slice.result.now in
    let rising = subst (λ (ys : List _). IsRising R (λ k. k) ys) (sym c.as_slice.ensures.value) c.self.invariant in
    let seen : xs ≡ c.args.self.now.keys = c.as_slice.ensures.value ∙ ap (λ (s : Planned _). s.keys) c.self.view_is in
    let parts = c.in-Err.ensures.position (searchable R c.requires q xs rising) in
    subst (λ (ys : List _). IsPlace R q ys c.in-Err.at) seen (place_absent R c.requires q xs c.in-Err.at parts.0 parts.1)
