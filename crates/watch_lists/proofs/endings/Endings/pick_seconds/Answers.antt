-- One second more each time.
use Rattle.std.proofs.Common.{◌≡◌, ℕ, ◌+◌, true, List, inl, inr, sym, subst, take}
use Rattle.std.specs.Prelude.{nat_eq}
use Rattle.std.specs.List.{Contains}
use Rattle.watch_lists.specs.Endings.{HasEnded}
use Rattle.watch_lists.specs.Groups.{is_in}
use Rattle.watch_lists.proofs.Finding.{finds_both, finds_less, take_whole, taken_more}
use Rattle.watch_lists.proofs.endings.Endings.pick_seconds.Goals as goal

pub loop-second-preserved : goal.loop-second-preserved
loop-second-preserved g c =
    finds_both (HasEnded g.K.PartialEq.eq g.V.Ending.ending c.args.now c.args.self.now.entries)
    _ _ (λ k. (m : ℕ) × Contains (take (c.loop-second.second-index + 1) c.args.seconds.now) m
    × (is_in nat_eq g.K.PartialEq.eq c.args.self.now.ends m k ≡ true)) _ _ _
    c.loop-second.invariant c.in_ok-pick_second.ensures.found
    (λ k asked. elim (taken_more c.args.seconds.now c.loop-second.second-index asked.0 c.loop-second-test.true asked.1) [
      | (inl before) ↦ inl (asked.0, before, asked.2)
      | (inr here) ↦ inr (subst (λ m. is_in nat_eq g.K.PartialEq.eq c.args.self.now.ends m k ≡ true) (sym here) asked.2)
    ])

pub returns-clause-found : goal.returns-clause-found
returns-clause-found g c =
    finds_less (HasEnded g.K.PartialEq.eq g.V.Ending.ending c.args.now c.args.self.now.entries)
    _ (λ k. (m : ℕ) × Contains c.args.seconds.now m × (is_in nat_eq g.K.PartialEq.eq c.args.self.now.ends m k ≡ true)) _ _
    c.loop-second.invariant
    (λ k asked. (
      asked.0,
      subst (λ (ms : List _). Contains ms asked.0)
          (sym (take_whole c.args.seconds.now c.loop-second.second-index c.loop-second-test.false)) asked.1,
      asked.2,
    ))
