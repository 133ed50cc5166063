-- Answers that were looked at one by one are those of a phase.
use Rattle.std.proofs.Common.{◌≡◌, ℕ, ◌+◌, ◌<◌, ◌≤◌, List, length, take, get_or, sym, ap, ◌∙◌, arith, [], ◌∷◌, ◌++◌, subst, take_all}
use Rattle.std.specs.List.{All}
use Rattle.std.proofs.lemmas.List.{take_more}
use Rattle.std.proofs.lemmas.List.Elements.{All-more, All-nil, All-push, All-weaker}
use Rattle.std.proofs.lemmas.List.Quantifiers.{all_pairs_push}
use Rattle.scenario_lines.specs.declared.actor.Actor.{Actor}
use Rattle.scenario_lines.specs.declared.answered.Answered.{Answered}
use Rattle.scenario_lines.specs.declared.script.Line.{Line}
use Rattle.phase_text.specs.Answers.{AreActorAnswers, IsActorAnswer, IsToLine, LineNumbersRise}

pub to_line_at : (lines : List Line) (a : Answered) (i : ℕ) (l : Line) → i < length lines → l ≡ get_or lines i l
    → l.line ≡ a.line → l.actor ≡ a.actor → IsToLine lines a
to_line_at lines a i l within at number actor = record
    { line = l; among = (i, within, sym at); number = number; actor = actor }

-- the numbers of the lines rise, and are at most a number
pub record RisesTo (last : ℕ) (lines : List Line) : Type 0 where
  pub rising : LineNumbersRise lines
  pub most : All (λ l. l.line ≤ last) lines

pub rises_to_more : (last i : ℕ) (lines : List Line) (l : Line) → i < length lines → l ≡ get_or lines i l
    → RisesTo last (take i lines) → last < l.line → RisesTo l.line (take (i + 1) lines)
rises_to_more last i lines l within at h above =
    let more : take (i + 1) lines ≡ take i lines ++ l ∷ [] =
    take_more lines i l within ∙ ap (λ y. take i lines ++ y ∷ []) (sym at) in
    subst (λ ls. RisesTo l.line ls) (sym more) (record {
      rising = all_pairs_push (λ (a b : Line). a.line < b.line) (take i lines) l h.rising
          (λ k d lt. let most : (get_or (take i lines) k d).line ≤ last = h.most k d lt in omega arith);
      most = All-push (λ (a : Line). a.line ≤ l.line) (take i lines) l
          (All-weaker (λ (a : Line). a.line ≤ last) (λ (a : Line). a.line ≤ l.line) (λ a le. omega arith)
          (take i lines) h.most) (omega arith);
    })

pub rises_at_end : (last i : ℕ) (lines : List Line) → length lines ≤ i → RisesTo last (take i lines)
    → LineNumbersRise lines
rises_at_end last i lines end h = subst LineNumbersRise (take_all i lines end) h.rising

rises_to_nil : RisesTo 0 []
rises_to_nil = record { rising = λ i j d lt l. absurd (omega arith); most = λ k d l. absurd (omega arith) }

pub rises_to_none : (lines : List Line) → RisesTo 0 (take 0 lines)
rises_to_none [] = rises_to_nil
rises_to_none (l ∷ lines) = rises_to_nil

-- no answers are answers of a phase
pub fits_none : (actors : List Actor) (lines : List Line) (answers : List Answered) → LineNumbersRise lines
    → AreActorAnswers actors lines (take 0 answers)
fits_none actors lines [] h = record { rising = h; each = All-nil (IsActorAnswer actors lines) }
fits_none actors lines (a ∷ answers) h = record { rising = h; each = All-nil (IsActorAnswer actors lines) }

-- one more is one
pub fits_more : (actors : List Actor) (lines : List Line) (answers : List Answered) (i : ℕ) (a : Answered)
    → IsActorAnswer actors lines a → a ≡ get_or answers i a → i < length answers
    → AreActorAnswers actors lines (take i answers) → AreActorAnswers actors lines (take (i + 1) answers)
fits_more actors lines answers i a one at within h = record {
  rising = h.rising;
  each = All-more (IsActorAnswer actors lines) answers i a within h.each (subst (IsActorAnswer actors lines) at one);
}

-- all were looked at
pub fits_at_end : (actors : List Actor) (lines : List Line) (answers : List Answered) (i : ℕ) → length answers ≤ i
    → AreActorAnswers actors lines (take i answers) → AreActorAnswers actors lines answers
fits_at_end actors lines answers i end h = subst (AreActorAnswers actors lines) (take_all i answers end) h

-- they are, by whatever names
pub fits_same : (actors actors' : List Actor) (lines lines' : List Line) (answers answers' : List Answered)
    → AreActorAnswers actors lines answers → actors ≡ actors' → lines ≡ lines' → answers ≡ answers'
    → AreActorAnswers actors' lines' answers'
fits_same actors actors' lines lines' answers answers' h a l s =
    subst (λ (ones : List Actor). AreActorAnswers ones lines' answers') a
    (subst (λ (ls : List Line). AreActorAnswers actors ls answers') l (subst (AreActorAnswers actors lines) s h))
