-- A phase that ran, and what is told of it.
use Rattle.std.proofs.Common.{◌≡◌, ℕ, ◌≤◌, List, [], ◌++◌, length, map, drop, Result, Ok, Err, sym, ap, subst, ◌∙◌, arith, length-append}
use Rattle.std.specs.Result.{IfOk}
use Rattle.std.specs.declared.vec.Vec.{Vec}
use Rattle.std.proofs.Math.Seq.{drop-append_seam}
use Rattle.std.proofs.lemmas.List.{append-nil}
use Rattle.diego_names.specs.declared.memory.OutOfMemory.{OutOfMemory as Want}
use Rattle.pair_lines.specs.declared.answered.PairAnswered.{PairAnswered}
use Rattle.scenario_lines.specs.declared.script.Phase.{Phase}
use Rattle.scenario_lines.specs.declared.script.Script.{Script}
use Rattle.pair_runs.specs.Phases.{PhaseRuns}
use Rattle.pair_runs.specs.Served.{ServerView}
use Rattle.pair_runs.specs.Telling.{IsTextOf}
use Rattle.pair_runs.specs.Turns.{PairTurn, RunsSome, RunsTurns, phase_turns, turn_of}

-- what stands behind answers is what was added
pub behind_is : (before after new : List PairAnswered) → after ≡ before ++ new → drop (length before) after ≡ new
behind_is before after new is = ap (drop (length before)) is ∙ drop-append_seam before new

pub not_less : (before after new : List PairAnswered) → after ≡ before ++ new → length before ≤ length after
not_less before after new is = omega (arith, ap length is ∙ length-append before new)

module _ {Z : Type 0} (script : Script) (phase : Phase) (v w : ServerView) (before after : List PairAnswered) where
  -- all its calls were made
  pub told : RunsTurns (phase_turns (length script.actors) phase) v w before after → (from : ℕ) → from ≡ length before
      → (answers : List PairAnswered) → answers ≡ drop from after → (end : Result (Vec ℕ Z) Want)
      → IfOk end (λ text. IsTextOf script.actors answers text.items) → PhaseRuns script phase end v w before after
  told runs from from_is answers answers_are (Ok text) is_text = record {
    new = runs.new;
    after_is = runs.after_is;
    served = runs.served;
    tells = record {
      turns = runs.turns_are;
      text_is = subst (λ (l : List PairAnswered). IsTextOf script.actors l text.items)
          (answers_are ∙ ap (λ (n : ℕ). drop n after) from_is ∙ behind_is before after runs.new runs.after_is) is_text;
    };
  }
  told runs from from_is answers answers_are (Err want) is_text = record {
    new = runs.new;
    after_is = runs.after_is;
    served = runs.served;
    tells = record {
      left = [];
      turns = sym (append-nil (map turn_of runs.new) ∙ runs.turns_are);
    };
  }

  -- some of its calls were made
  pub cut : (want : Want) → RunsSome (phase_turns (length script.actors) phase) v w before after
      → PhaseRuns {Z = Z} script phase (Err want) v w before after
  cut want some = record {
    new = some.runs.new;
    after_is = some.runs.after_is;
    served = some.runs.served;
    tells = record {
      left = some.rest;
      turns = some.split ∙ ap (λ (l : List PairTurn). l ++ some.rest) (sym some.runs.turns_are);
    };
  }
