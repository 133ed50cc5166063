-- What has ended is noted before the next second.
use Rattle.std.proofs.Common.{◌≡◌, ◌+◌, ◌<◌, true, List, [], inl, inr, ap, subst, ◌∙◌, arith}
use Rattle.std.specs.Prelude.{nat_eq}
use Rattle.std.specs.List.{Contains}
use Rattle.std.specs.Map.{lookup}
use Rattle.watch_lists.specs.Endings.{Ended}
use Rattle.watch_lists.specs.Groups.{is_in}
use Rattle.watch_lists.proofs.Holding.{reached}
use Rattle.watch_lists.proofs.endings.Endings.due.Goals as goal

pub returns-clause-found : goal.returns-clause-found
returns-clause-found g c =
    let picked = c.in_ok-pick_seconds.ensures.found in
    record {
      only = λ k inside. elim (picked.only k inside) [
        | (inl none) ↦
            let empty : Contains [] k = subst (λ (ks : List _). Contains ks k) c.new-found.ensures.items none in
            absurd (omega (arith, empty.1))
        | (inr wanted) ↦ wanted
      ];
      all = λ k wanted.
          let t = reached c.args.now.0 (g.V.Ending.ending wanted.0) wanted.2 in
          let inside : lookup (g.K.PartialEq.eq k) c.self.inside.map.entries ≡ _ =
          ap (λ (s : Ended _ _). lookup (g.K.PartialEq.eq k) s.entries) c.self.view_is ∙ wanted.1 in
          let noted : is_in nat_eq g.K.PartialEq.eq c.self.inside.ends.items t.0 k ≡ true =
          c.self.invariant k wanted.0 t.0 inside t.1 in
          let before : t.0 < c.from-next.result + 1 = omega (arith, t.2, c.from-next.ensures) in
          picked.all k (
            t.0,
            c.before-2.ensures t.0 k noted before,
            subst (λ (s : Ended _ _). is_in nat_eq g.K.PartialEq.eq s.ends t.0 k ≡ true) c.self.view_is noted,
          ) wanted;
    }
