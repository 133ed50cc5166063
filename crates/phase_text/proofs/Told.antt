-- What is told of answers, of some of them, and of one more.
use Rattle.std.proofs.Common.{◌≡◌, ℕ, ◌+◌, ◌<◌, List, [], ◌∷◌, ◌++◌, length, take, get_or, filter, Option, Some, Bool, nat_lt, not, sym, subst, ap, ◌∙◌, append_assoc}
use Rattle.std.specs.List.{flat_map, All}
use Rattle.std.specs.Option.{option_map_or}
use Rattle.std.proofs.lemmas.List.{flat_map_more, take_more}
use Rattle.std.proofs.lemmas.List.Elements.{All-filter}
use Rattle.bbs_model.specs.declared.event.Event.{Event}
use Rattle.convergence.specs.declared.report.Report.{Report}
use Rattle.record_print.specs.Printed.{line_text, answer_data}
use Rattle.record_print.specs.declared.asked.Asked.{Asked}
use Rattle.scenario_lines.specs.declared.actor.Actor.{Actor}
use Rattle.scenario_lines.specs.declared.answered.Answered.{Answered}
use Rattle.scenario_lines.specs.declared.script.Line.{Line}
use Rattle.scenario_lines.specs.declared.script.Phase.{Phase}
use Rattle.scenario_lines.specs.declared.script.RoundLine.{RoundLine}
use Rattle.scenario_lines.specs.declared.script.Script.{Script}
use Rattle.phase_text.specs.Answers.{AreActorAnswers, IsActorAnswer}
use Rattle.phase_text.specs.Asking.{asked_at}
use Rattle.phase_text.specs.Texts.{actor_name, answer_at, answer_words, answers_before, answers_behind, answers_words, events_words, line_numbered, lines_words, phase_words, round_words}

-- what is told of an answer, by its actor's name, what it is about and its line
pub told_as : (actors : List Actor) (lines : List Line) (a : Answered) (line : Line) (name : List ℕ) (asked : Asked)
    → name ≡ actor_name actors a.actor → asked ≡ asked_at line a.command → line_numbered lines a.line ≡ Some line
    → line_text (answer_data name a.line asked a.end) ≡ answer_words actors lines a
told_as actors lines a line name asked named about at =
    (λ i. line_text (answer_data (named i) a.line (about i) a.end))
    ∙ ap (λ (o : Option Line). option_map_or (answer_at (actor_name actors a.actor) a) o []) (sym at)

-- one more is told behind the others
pub told_more : {X : Type 0} (words : X → List ℕ) (start : List ℕ) (xs : List X) (i : ℕ) (x : X) → i < length xs
    → x ≡ get_or xs i x → (start ++ flat_map words (take i xs)) ++ words x ≡ start ++ flat_map words (take (i + 1) xs)
told_more words start xs i x l at =
    flat_map_more words start (take i xs) x
    ∙ ap (λ y. start ++ flat_map words (take i xs ++ y ∷ [])) at
    ∙ ap (λ ys. start ++ flat_map words ys) (sym (take_more xs i x l))

-- some of them are answers too
some_answers : (actors : List Actor) (lines : List Line) (answers some : List Answered) (p : Answered → Bool)
    → some ≡ filter p answers → AreActorAnswers actors lines answers → AreActorAnswers actors lines some
some_answers actors lines answers some p is h = record {
  rising = h.rising;
  each = subst (λ (ones : List Answered). All (IsActorAnswer actors lines) ones) (sym is)
      (All-filter p (IsActorAnswer actors lines) answers h.each);
}

pub some_before : (actors : List Actor) (lines : List Line) (answers some : List Answered) (number : ℕ)
    → some ≡ answers_before number answers → AreActorAnswers actors lines answers → AreActorAnswers actors lines some
some_before actors lines answers some number is h = some_answers actors lines answers some
    (λ a. nat_lt a.line number) is h

pub some_behind : (actors : List Actor) (lines : List Line) (answers some : List Answered) (number : ℕ)
    → some ≡ answers_behind number answers → AreActorAnswers actors lines answers → AreActorAnswers actors lines some
some_behind actors lines answers some number is h = some_answers actors lines answers some
    (λ a. not (nat_lt a.line number)) is h

-- the answers before a round, the round, and the answers behind it
pub around_told : (actors : List Actor) (lines : List Line) (round : RoundLine) (answers before behind : List Answered)
    (report : Option Report) (start first second third : List ℕ) → third ≡ second ++ answers_words actors lines behind
    → second ≡ first ++ round_words round report → first ≡ start ++ answers_words actors lines before
    → before ≡ answers_before round.line answers → behind ≡ answers_behind round.line answers
    → third ≡ start ++ lines_words actors lines (Some round) answers report
around_told actors lines round answers before behind report start first second third c b a is_before is_behind =
    c
    ∙ ap (λ t. t ++ answers_words actors lines behind) (b ∙ ap (λ t. t ++ round_words round report) a)
    ∙ append_assoc (start ++ answers_words actors lines before) (round_words round report)
    (answers_words actors lines behind)
    ∙ append_assoc start (answers_words actors lines before)
    (round_words round report ++ answers_words actors lines behind)
    ∙ (λ i. start ++ (answers_words actors lines (is_before i)
    ++ (round_words round report ++ answers_words actors lines (is_behind i))))

-- the lines of a phase, and its events behind them
pub phase_told : (script : Script) (phase : Phase) (actors : List Actor) (lines : List Line) (answers : List Answered)
    (report : Option Report) (events : List Event) (start first second : List ℕ) → second ≡ first ++ events_words events
    → first ≡ start ++ lines_words actors lines phase.round answers report → start ≡ [] → actors ≡ script.actors
    → lines ≡ phase.lines → second ≡ phase_words script phase answers report events
phase_told script phase actors lines answers report events start first second b a none same_actors same_lines =
    b
    ∙ ap (λ t. t ++ events_words events) a
    ∙ (λ i. (none i ++ lines_words (same_actors i) (same_lines i) phase.round answers report) ++ events_words events)
