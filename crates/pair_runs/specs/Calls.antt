-- What one call of a client does, by what is lost of it.
use Rattle.std.specs.Prelude.{◌≡◌, ℕ, false, [], ◌∷◌, Option, Some}
use Rattle.bbs_model.specs.declared.command.Command.{Command}
use Rattle.scenario_lines.specs.declared.act.Loss.{Loss}
use Rattle.pair_lines.specs.declared.answered.PairAnswered.{PairAnswered}
use Rattle.pair_lines.specs.declared.answered.PairEnded.{PairEnded}
use Rattle.standby_board.specs.Calls.{End}
use Rattle.pair_runs.specs.Accounts.{Serves, outcome_of}
use Rattle.pair_runs.specs.Served.{ServerView, is_starved}
use Rattle.pair_runs.specs.Turns.{mark_of}

-- the answer of a call that ended so, whatever its line
abbrev pub answer_by : ℕ → ℕ → Command → PairEnded → PairAnswered
answer_by by line command end = record { actor = by; line = line; command = command; end = end }

-- a call was made, or lost, as the mark says
pub record CallsUnder (by : ℕ) (command : Command) (mark : Option Loss) (v : ServerView) (end : PairEnded)
    (w : ServerView) : Type 0 where
  pub mark_is : mark_of end ≡ mark
  pub served : (line : ℕ) → Serves v w (answer_by by line command end ∷ [])

-- a call came to this end, which its client hears or not, as the mark says; it didn't want memory
pub record EndsUnder (mark : Option Loss) (end : End) (ended : PairEnded) : Type 0 where
  pub mark_is : mark_of ended ≡ mark
  pub outcome : outcome_of ended ≡ Some end
  pub fed : is_starved end ≡ false
