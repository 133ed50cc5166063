use Rattle.std.proofs.Common.{◌∙◌, ℕ, inl, inr, subst, sym, Some}
use Rattle.std.specs.Prelude.{◌==◌}
use Rattle.byte_ports.specs.Cause.{HasCause}
use Rattle.headroom_engine.proofs.EndLaws.{asked_as, room_from, no_room_from, part_from, usage_from, usage_to, fault_from, starved_from, too_long_from, read_from}
use Rattle.headroom_engine.proofs.Telling.{told_from, no_dump_from, too_much_from}
use Rattle.headroom_engine.proofs.top.headroom_top.Goals as goal

pub returns-clause-ends : goal.returns-clause-ends
returns-clause-ends g c = (
  c.run-ending.result,
  c.number_of.ensures,
  asked_as g.P.Planner.text g.P.Planner.verdict _ _ c.run-ending.result _ _
      c.read_words.ensures c.run-ending.ensures.ends,
)

pub returns-clause-room : goal.returns-clause-room
returns-clause-room g c n =
    room_from g.P.Planner.text g.P.Planner.verdict _ _ c.run-ending.result _ (sym c.number_of.ensures ∙ n)
    (asked_as g.P.Planner.text g.P.Planner.verdict _ _ c.run-ending.result _ _ c.read_words.ensures
    c.run-ending.ensures.ends)

pub returns-clause-no_room : goal.returns-clause-no_room
returns-clause-no_room g c n =
    no_room_from g.P.Planner.text g.P.Planner.verdict _ _ c.run-ending.result _ (sym c.number_of.ensures ∙ n)
    (asked_as g.P.Planner.text g.P.Planner.verdict _ _ c.run-ending.result _ _ c.read_words.ensures
    c.run-ending.ensures.ends)

pub returns-clause-unwritten : goal.returns-clause-unwritten
returns-clause-unwritten g c n =
    part_from g.P.Planner.text g.P.Planner.verdict _ _ c.run-ending.result _ (sym c.number_of.ensures ∙ n)
    (asked_as g.P.Planner.text g.P.Planner.verdict _ _ c.run-ending.result _ _ c.read_words.ensures
    c.run-ending.ensures.ends)

pub returns-clause-usage : goal.returns-clause-usage
returns-clause-usage g c = (
  λ n. sym c.read_words.ensures ∙ usage_from g.P.Planner.text g.P.Planner.verdict _ _ c.run-ending.result _
      (sym c.number_of.ensures ∙ n) c.run-ending.ensures.ends,
  λ is. c.number_of.ensures ∙ usage_to g.P.Planner.text g.P.Planner.verdict _ _ c.run-ending.result _
      (c.read_words.ensures ∙ is) c.run-ending.ensures.ends,
)

pub returns-clause-faulty : goal.returns-clause-faulty
returns-clause-faulty g c n =
    fault_from g.P.Planner.text g.P.Planner.verdict _ _ c.run-ending.result _
    (sym c.number_of.ensures ∙ n) c.run-ending.ensures.ends

pub returns-clause-starved : goal.returns-clause-starved
returns-clause-starved g c n =
    starved_from g.P.Planner.text g.P.Planner.verdict _ _ c.run-ending.result _
    (sym c.number_of.ensures ∙ n) c.run-ending.ensures.ends

pub returns-clause-too_long : goal.returns-clause-too_long
returns-clause-too_long g c n =
    too_long_from g.P.Planner.text g.P.Planner.verdict _ _ c.run-ending.result _
    (sym c.number_of.ensures ∙ n) c.run-ending.ensures.ends

pub returns-clause-read : goal.returns-clause-read
returns-clause-read g c =
    subst (λ (n : ℕ). HasCause (n == 3) (g.S.Source.faults c.args.source) (g.S.Source.faults c.run-ending.new.source))
    (sym c.number_of.ensures)
    (read_from g.P.Planner.text g.P.Planner.verdict _ _ c.run-ending.result _ c.run-ending.ensures.ends)

pub returns-clause-told : goal.returns-clause-told
returns-clause-told g c asked bytes is few source sink =
    elim (told_from g.P.Planner.text g.P.Planner.verdict asked _ _ bytes few c.run-ending.result
    (asked_as g.P.Planner.text g.P.Planner.verdict _ _ c.run-ending.result _ (Some asked)
    (c.read_words.ensures ∙ is) c.run-ending.ensures.ends) source sink) [
      | inl starved ↦ inl (c.number_of.ensures ∙ starved)
      | inr told ↦ inr (record { status_is = c.number_of.ensures ∙ told.status_is; all = told.all })
    ]

pub returns-clause-no_dump : goal.returns-clause-no_dump
returns-clause-no_dump g c asked bytes fault is few none source =
    elim (no_dump_from g.P.Planner.text g.P.Planner.verdict asked _ _ bytes few c.run-ending.result fault
    (asked_as g.P.Planner.text g.P.Planner.verdict _ _ c.run-ending.result _ (Some asked)
    (c.read_words.ensures ∙ is) c.run-ending.ensures.ends) none source) [
      | inl n ↦ inl (c.number_of.ensures ∙ n)
      | inr n ↦ inr (c.number_of.ensures ∙ n)
    ]

pub returns-clause-too_much : goal.returns-clause-too_much
returns-clause-too_much g c asked bytes is many source =
    elim (too_much_from g.P.Planner.text g.P.Planner.verdict asked _ _ bytes many c.run-ending.result
    (asked_as g.P.Planner.text g.P.Planner.verdict _ _ c.run-ending.result _ (Some asked)
    (c.read_words.ensures ∙ is) c.run-ending.ensures.ends) source) [
      | inl n ↦ inl (c.number_of.ensures ∙ n)
      | inr n ↦ inr (c.number_of.ensures ∙ n)
    ]
