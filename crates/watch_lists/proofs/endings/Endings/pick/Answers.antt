-- A key whose value has ended is wanted.
use Rattle.std.proofs.Common.{sym, ap, ◌∙◌}
use Rattle.std.specs.Map.{lookup}
use Rattle.std.specs.Option.{option_copied}
use Rattle.work_causes.specs.Causes.{is_reached}
use Rattle.watch_lists.specs.Endings.{Ended, HasEnded}
use Rattle.watch_lists.proofs.Finding.{finds_pushed}
use Rattle.watch_lists.proofs.endings.Endings.pick.Goals as goal

pub returns-in_err-push-clause-free : goal.returns-in_err-push-clause-free
returns-in_err-push-clause-free g c none =
    absurd (none c.args.key (
      c.in-Some.value.now,
      sym (ap (λ (s : Ended _ _). lookup (g.K.PartialEq.eq c.args.key) s.entries) c.self.view_is)
          ∙ sym c.get.ensures.value ∙ ap option_copied c.in-Some.is,
      ap (is_reached c.args.now) (sym c.ending.ensures) ∙ sym c.is_reached.ensures ∙ c.if-is_reached.true,
    ))

pub returns-in_ok-push-clause-found : goal.returns-in_ok-push-clause-found
returns-in_ok-push-clause-found g c =
    finds_pushed (HasEnded g.K.PartialEq.eq g.V.Ending.ending c.args.now c.args.self.now.entries)
    c.args.found.now.items c.push.new.self.items c.args.key c.in_ok-push.ensures.items (
      c.in-Some.value.now,
      sym (ap (λ (s : Ended _ _). lookup (g.K.PartialEq.eq c.args.key) s.entries) c.self.view_is)
          ∙ sym c.get.ensures.value ∙ ap option_copied c.in-Some.is,
      ap (is_reached c.args.now) (sym c.ending.ensures) ∙ sym c.is_reached.ensures ∙ c.if-is_reached.true,
    )
