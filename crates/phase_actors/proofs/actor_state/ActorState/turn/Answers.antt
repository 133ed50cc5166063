use Rattle.std.proofs.Common.{ℕ, ap, sym, ◌∙◌, ◌++◌, List, map}
use Rattle.cell_rep.specs.declared.call_end.Called.{Called}
use Rattle.scenario_lines.specs.declared.script.Line.{Line}
use Rattle.phase_actors.specs.Runs.{is_any_starved}
use Rattle.phase_actors.specs.Turns.{line_answer, line_turn}
use Rattle.phase_actors.proofs.Taking.{one_taken, cut_behind, unfed_answers}
use Rattle.phase_actors.proofs.actor_state.ActorState.turn.Goals as goal

pub returns-then-is_any_starved-clause-cut : goal.returns-then-is_any_starved-clause-cut
returns-then-is_any_starved-clause-cut g c =
    cut_behind _ _ (line_turn c.args.line.now c.args.mark) _ _ _ _ _ c.in-Ok.ensures.ran

pub returns-in-Err-add_all-clause-cut : goal.returns-in-Err-add_all-clause-cut
returns-in-Err-add_all-clause-cut g c =
    cut_behind _ _ (line_turn c.args.line.now c.args.mark) _ _ _ _ _ c.in-Ok.ensures.ran

pub returns-in-Ok-add_all-clause-taken : goal.returns-in-Ok-add_all-clause-taken
returns-in-Ok-add_all-clause-taken g c = record {
  new = map (line_answer by line.line) calls;
  out_is = c.in-Ok-add_all.ensures
      ∙ ap (λ (xs : List Called). c.args.out.now.items ++ map (line_answer line.actor line.line) xs)
      c.deref-2.ensures.value
      ∙ ap (λ n. c.args.out.now.items ++ map (line_answer n line.line) calls) (sym c.requires.number);
  taken = one_taken by c.args.now (line_turn line c.args.mark) _ _ _ _ calls c.in-Ok.ensures.ran;
  fed = unfed_answers by line.line calls
      ∙ ap is_any_starved (sym c.deref.ensures.value) ∙ sym c.is_any_starved.ensures ∙ c.if-is_any_starved.false;
}
  where
    by : ℕ
    by = g.P.Port.number c.args.port.now

    line : Line
    line = c.args.line.now

    calls : List Called
    calls = c.run.new.out.items
