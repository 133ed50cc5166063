-- A key whose value has a cause that holds is wanted.
use Rattle.std.proofs.Common.{sym, ap, ◌∙◌}
use Rattle.std.specs.Map.{lookup}
use Rattle.std.specs.Option.{option_copied}
use Rattle.work_causes.specs.Causes.{any_holds_by}
use Rattle.watch_lists.specs.Watched.{IsDue, Watched, ends_in}
use Rattle.watch_lists.proofs.Finding.{finds_pushed}
use Rattle.watch_lists.proofs.watched.Watched.pick.Goals as goal

pub returns-in_err-push-clause-free : goal.returns-in_err-push-clause-free
returns-in_err-push-clause-free g c none =
    absurd (none c.args.key (
      c.in-Some.value.now,
      sym (ap (λ (s : Watched _ _). lookup (g.K.PartialEq.eq c.args.key) s.entries) c.self.view_is)
          ∙ sym c.get.ensures.value ∙ ap option_copied c.in-Some.is,
      ap (any_holds_by (ends_in c.args.leases.now) c.args.now) (sym c.causes.ensures) ∙ sym c.any_holds.ensures
          ∙ c.if-any_holds.true,
    ))

pub returns-in_ok-push-clause-found : goal.returns-in_ok-push-clause-found
returns-in_ok-push-clause-found g c =
    finds_pushed (IsDue g.K.PartialEq.eq g.V.Timed.causes (ends_in c.args.leases.now) c.args.now c.args.self.now.entries)
    c.args.found.now.items c.push.new.self.items c.args.key c.in_ok-push.ensures.items (
      c.in-Some.value.now,
      sym (ap (λ (s : Watched _ _). lookup (g.K.PartialEq.eq c.args.key) s.entries) c.self.view_is)
          ∙ sym c.get.ensures.value ∙ ap option_copied c.in-Some.is,
      ap (any_holds_by (ends_in c.args.leases.now) c.args.now) (sym c.causes.ensures) ∙ sym c.any_holds.ensures
          ∙ c.if-any_holds.true,
    )
