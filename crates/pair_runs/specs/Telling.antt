-- The text of a phase: its answers by line.
use Rattle.std.specs.Prelude.{◌≡◌, ℕ, ◌-◌, List, [], slice_get}
use Rattle.std.specs.List.{flat_map}
use Rattle.std.specs.List.Sorted.{IsSortedByKey, IsStableByKey}
use Rattle.std.specs.Option.{option_map_or}
use Rattle.std.specs.Ordering.{nat_cmp}
use Rattle.pair_lines.specs.Answers.{answer_line}
use Rattle.pair_lines.specs.declared.answered.PairAnswered.{PairAnswered}
use Rattle.scenario_lines.specs.declared.actor.Actor.{Actor}

-- what is told of an answer to one of these actors, which count from 1; nothing of one to none of them
abbrev pub answer_words : List Actor → PairAnswered → List ℕ
answer_words actors a = option_map_or (λ actor. answer_line actor.name a) (slice_get actors (a.actor - 1)) []

-- what is told of answers, each in its turn
abbrev pub answers_words : List Actor → List PairAnswered → List ℕ
answers_words actors answers = flat_map (answer_words actors) answers

-- the answers by the line that they are to; those to one line stay in their order
pub record IsByLine (answers sorted : List PairAnswered) : Type 0 where
  pub sorted_is : IsSortedByKey (λ (a : PairAnswered). a.line) nat_cmp sorted
  pub stable : IsStableByKey (λ (a : PairAnswered). a.line) nat_cmp answers sorted

-- the text of answers is that of them by line
pub record IsTextOf (actors : List Actor) (answers : List PairAnswered) (text : List ℕ) : Type 0 where
  pub sorted : List PairAnswered
  pub by_line : IsByLine answers sorted
  pub text_is : text ≡ answers_words actors sorted
