-- What holds is noted, before the next moment or from it on.
use Rattle.std.proofs.Common.{◌≡◌, ◌+◌, ◌<◌, ◌≤◌, true, List, [], Some, inl, inr, sym, ap, subst, ◌∙◌, arith}
use Rattle.std.specs.Prelude.{nat_eq}
use Rattle.std.specs.List.{Contains}
use Rattle.std.specs.Map.{lookup}
use Rattle.work_causes.specs.Causes.{holds_by}
use Rattle.work_causes.specs.contracts.cause.CausePartialEq.TheImpl.{eq-value}
use Rattle.watch_lists.specs.Groups.{Grouped, is_in}
use Rattle.watch_lists.specs.Watched.{Watched, ends_in}
use Rattle.watch_lists.specs.declared.watched.Watched.TheInside.{Inside}
use Rattle.watch_lists.proofs.Holding.{any_in, holds_at}
use Rattle.watch_lists.proofs.watched.Watched.due.Goals as goal

pub returns-clause-found : goal.returns-clause-found
returns-clause-found g c =
    let ends = ends_in c.args.leases.now in
    let first = c.in_ok-pick_moments.ensures.found in
    let second = c.in_ok-pick_moments-2.ensures.found in
    record {
      only = λ k inside. elim (second.only k inside) [
        | (inl was) ↦ elim (first.only k was) [
          | (inl none) ↦
              let empty : Contains [] k = subst (λ (ks : List _). Contains ks k) c.new-found.ensures.items none in
              absurd (omega (arith, empty.1))
          | (inr wanted) ↦ wanted
        ]
        | (inr wanted) ↦ wanted
      ];
      all = λ k wanted.
          let held = any_in (holds_by ends c.args.now) (g.V.Timed.causes wanted.0) wanted.2 in
          let inside : lookup (g.K.PartialEq.eq k) c.self.inside.map.entries ≡ Some wanted.0 =
          ap (λ (s : Watched _ _). lookup (g.K.PartialEq.eq k) s.entries) c.self.view_is ∙ wanted.1 in
          let watched : is_in eq-value.it g.K.PartialEq.eq c.args.self.now.watch.keys held.0 k ≡ true =
          subst (λ (s : Watched _ _). is_in eq-value.it g.K.PartialEq.eq s.watch.keys held.0 k ≡ true) c.self.view_is
          (c.self.invariant k wanted.0 inside held.0 held.1) in
          elim (holds_at ends c.args.now held.0 held.2) [
            | (inl t) ↦
                let noted : is_in nat_eq eq-value.it c.self-inside.inside.0.1.0.starts.items t.0 held.0 ≡ true =
                subst (λ (i : Grouped _ _). is_in nat_eq eq-value.it i t.0 held.0 ≡ true)
                (sym (ap (λ (s : Inside _ _). s.watch.starts) c.self-inside.view_is
                ∙ ap (λ (s : Watched _ _). s.watch.starts) c.self.view_is))
                (c.requires.starts held.0 k watched t.0 t.1) in
                let before : t.0 < c.from-next.result + 1 = omega (arith, t.2, c.from-next.ensures) in
                second.kept k (first.all k (t.0, c.before-2.ensures t.0 held.0 noted before, (held.0, noted, watched)) wanted)
            | (inr t) ↦
                let noted : is_in nat_eq eq-value.it c.self-inside.inside.0.1.0.stops.items t.0 held.0 ≡ true =
                subst (λ (i : Grouped _ _). is_in nat_eq eq-value.it i t.0 held.0 ≡ true)
                (sym (ap (λ (s : Inside _ _). s.watch.stops) c.self-inside.view_is
                ∙ ap (λ (s : Watched _ _). s.watch.stops) c.self.view_is))
                (c.requires.stops held.0 k watched t.0 t.1) in
                let since : c.from-next.result + 1 ≤ t.0 = omega (arith, t.2, c.from-next.ensures) in
                second.all k (t.0, c.since.ensures t.0 held.0 noted since, (held.0, noted, watched)) wanted
          ];
    }
