-- Phases one after another, up to one of them and with the next.
use Rattle.std.proofs.Common.{◌≡◌, ℕ, ◌+◌, ◌<◌, ◌≤◌, true, false, Bool, List, [], ◌∷◌, ◌++◌, Option, length, take, drop, get_or, refl, sym, ap, subst, ◌∙◌, append_assoc, arith}
use Rattle.std.specs.Prelude.{◌||◌}
use Rattle.std.proofs.lemmas.List.{append-nil, length-take, take_all, take-append-drop, take_more}
use Rattle.std.proofs.lemmas.List.Folds.{list_any-append}
use Rattle.program_ends.specs.Ports.{PrintsTo}
use Rattle.pair_lines.specs.declared.answered.PairAnswered.{PairAnswered}
use Rattle.scenario_lines.specs.declared.script.Phase.{Phase}
use Rattle.scenario_lines.specs.declared.script.Script.{Script}
use Rattle.pair_runs.specs.Accounts.{Serves, is_any_disk}
use Rattle.pair_runs.specs.Phases.{PhaseEnds, PhasesEnd, PlaysPhase, PlaysPhases, StopsIn}
use Rattle.pair_runs.specs.Served.{ServerView}
use Rattle.pair_runs.specs.declared.phases.PhasesEnded.{PhasesEnded}
use Rattle.pair_runs.specs.declared.phases.PhasesEnded.TheVariants.{Done, Doubt, Unwritten, OutOfMemory}
use Rattle.pair_runs.proofs.Prints.{prints_as, prints_none, prints_then}
use Rattle.pair_runs.proofs.Serving.{serves_none, serves_then}

-- phases behind phases
pub plays_then : (script : Script) (ps qs : List Phase) (xs ys : List PairAnswered) (text more : List ℕ)
    → PlaysPhases script ps xs text → PlaysPhases script qs ys more
    → PlaysPhases script (ps ++ qs) (xs ++ ys) (text ++ more)
plays_then script [] qs xs ys text more (none, blank) behind =
    subst (λ (l : List PairAnswered). PlaysPhases script qs (l ++ ys) (text ++ more)) (sym none)
    (subst (λ (t : List ℕ). PlaysPhases script qs ys (t ++ more)) (sym blank) behind)
plays_then script (p ∷ ps) qs xs ys text more plays behind = record {
  first = plays.first;
  rest = plays.rest ++ ys;
  words = plays.words;
  more = plays.more ++ more;
  answers_are = ap (λ (l : List PairAnswered). l ++ ys) plays.answers_are ∙ append_assoc plays.first plays.rest ys;
  text_is = ap (λ (t : List ℕ). t ++ more) plays.text_is ∙ append_assoc plays.words plays.more more;
  phase = plays.phase;
  behind = plays_then script ps qs plays.rest ys plays.more more plays.behind behind;
}

-- one phase
pub plays_one : (script : Script) (p : Phase) (xs : List PairAnswered) (text : List ℕ) → PlaysPhase script p xs text
    → PlaysPhases script (p ∷ []) xs text
plays_one script p xs text plays = record {
  first = xs;
  rest = [];
  words = text;
  more = [];
  answers_are = sym (append-nil xs);
  text_is = sym (append-nil text);
  phase = plays;
  behind = (refl, refl);
}

both_calm : (xs ys : List PairAnswered) → is_any_disk xs ≡ false → is_any_disk ys ≡ false
    → is_any_disk (xs ++ ys) ≡ false
both_calm xs ys one two = list_any-append _ xs ys ∙ ap (λ (b : Bool). b || is_any_disk ys) one ∙ two

-- the first phases ran, no disk failed, and their text is printed
pub record IsSoFar (script : Script) (phases : List Phase) (i : ℕ) (v w : ServerView)
    (answers answers' : List PairAnswered) (told : ℕ) (held held' : Option (List ℕ)) (faults faults' : ℕ) : Type 0 where
  pub first : List PairAnswered
  pub text : List ℕ
  pub plays : PlaysPhases script (take i phases) first text
  pub calm : is_any_disk first ≡ false
  pub answers_are : answers' ≡ answers ++ first
  pub served : Serves v w first
  pub prints : PrintsTo true text held held' faults faults'
  pub told_is : told ≡ i

pub none_so_far : (script : Script) (phases : List Phase) (v : ServerView) (answers : List PairAnswered)
    (held : Option (List ℕ)) (faults : ℕ) → IsSoFar script phases 0 v v answers answers 0 held held faults faults
none_so_far script phases v answers held faults = record {
  first = [];
  text = [];
  plays = (refl, refl);
  calm = refl;
  answers_are = sym (append-nil answers);
  served = serves_none v;
  prints = prints_none held faults;
  told_is = refl;
}

module _ (script : Script) (phases : List Phase) (i : ℕ) (v m w : ServerView)
    (answers mid answers' : List PairAnswered) (told : ℕ) (held between held' : Option (List ℕ))
    (faults some faults' : ℕ)
    (so : IsSoFar script phases i v m answers mid told held between faults some) where
  module _ (phase : Phase) (within : i < length phases) (is : phase ≡ get_or phases i phase) where
    with_next : take (i + 1) phases ≡ take i phases ++ phase ∷ []
    with_next = take_more phases i phase within ∙ ap (λ (x : Phase). take i phases ++ x ∷ []) (sym is)

    behind_next : phases ≡ take i phases ++ phase ∷ drop (i + 1) phases
    behind_next = sym (take-append-drop (i + 1) phases)
        ∙ ap (λ (l : List Phase). l ++ drop (i + 1) phases) with_next
        ∙ append_assoc (take i phases) (phase ∷ []) (drop (i + 1) phases)

    counted : told ≡ length (take i phases)
    counted = so.told_is ∙ sym (length-take i phases ∙ omega (arith, within))

    module _ (how : PhasesEnded) (ends : PhaseEnds script phase how m w mid answers' between held' some faults') where
      answers_then : answers' ≡ answers ++ so.first ++ ends.new
      answers_then = ends.after_is ∙ ap (λ (l : List PairAnswered). l ++ ends.new) so.answers_are

      -- that is how the phases end, where they stop so
      pub stopped : (extra : ℕ) → StopsIn how script (phase ∷ drop (i + 1) phases) ends.new so.text extra held held'
          faults faults'
          → (count : ℕ) → count ≡ told + extra → PhasesEnd script phases how count v w answers answers' held held'
          faults faults'
      stopped extra stops count count_is = record {
        ran = take i phases;
        rest = phase ∷ drop (i + 1) phases;
        split = behind_next;
        first = so.first;
        text = so.text;
        plays = so.plays;
        calm = so.calm;
        last = ends.new;
        answers_are = answers_then;
        served = serves_then v m w so.first ends.new so.served ends.served;
        extra = extra;
        stops = stops;
        told_is = count_is ∙ ap (λ (n : ℕ). n + extra) counted;
      }

    -- one phase more
    pub so_far_more : PhaseEnds script phase Done m w mid answers' between held' some faults'
        → IsSoFar script phases (i + 1) v w answers answers' (told + 1) held held' faults faults'
    so_far_more ends = record {
      first = so.first ++ ends.new;
      text = so.text ++ ends.stops.0;
      plays = subst (λ (ps : List Phase). PlaysPhases script ps (so.first ++ ends.new) (so.text ++ ends.stops.0))
          (sym with_next)
          (plays_then script (take i phases) (phase ∷ []) so.first ends.new so.text ends.stops.0 so.plays
          (plays_one script phase ends.new ends.stops.0 ends.stops.1));
      calm = both_calm so.first ends.new so.calm ends.stops.2;
      answers_are = answers_then Done ends ∙ append_assoc answers so.first ends.new;
      served = serves_then v m w so.first ends.new so.served ends.served;
      prints = prints_then true so.text ends.stops.0 held between held' faults some faults' so.prints ends.stops.3;
      told_is = ap (λ (n : ℕ). n + 1) so.told_is;
    }

    -- a disk failed in the next one
    pub doubted : PhaseEnds script phase Doubt m w mid answers' between held' some faults'
        → PhasesEnd script phases Doubt (told + 1) v w answers answers' held held' faults faults'
    doubted ends = stopped Doubt ends 1 (
      ends.stops.0,
      record { phase = phase; later = drop (i + 1) phases; split = refl; plays = ends.stops.1 },
      ends.stops.2,
      refl,
      prints_then true so.text ends.stops.0 held between held' faults some faults' so.prints ends.stops.3,
    )
        (told + 1) refl

    -- the next one came to another end
    pub stopped_by : (how : PhasesEnded) → (how ≡ Done → ⊥) → (how ≡ Doubt → ⊥)
        → PhaseEnds script phase how m w mid answers' between held' some faults'
        → PhasesEnd script phases how told v w answers answers' held held' faults faults'
    stopped_by Done not_done not_doubt ends = absurd (not_done refl)
    stopped_by Doubt not_done not_doubt ends = absurd (not_doubt refl)
    stopped_by Unwritten not_done not_doubt ends = stopped Unwritten ends 0 (
      ends.stops.0,
      record { phase = phase; later = drop (i + 1) phases; split = refl; plays = ends.stops.1 },
      prints_then false so.text ends.stops.0 held between held' faults some faults' so.prints ends.stops.2,
    )
        told (omega arith)
    stopped_by OutOfMemory not_done not_doubt ends = stopped OutOfMemory ends 0 (
      record { phase = phase; later = drop (i + 1) phases; split = refl; cuts = ends.stops.0 },
      prints_as true so.text held between held' faults some faults' so.prints ends.stops.1 ends.stops.2,
    )
        told (omega arith)

-- all phases ran
pub all_ran : (script : Script) (phases : List Phase) (i : ℕ) (v w : ServerView) (answers answers' : List PairAnswered)
    (told : ℕ) (held held' : Option (List ℕ)) (faults faults' : ℕ) → length phases ≤ i → i ≤ length phases
    → IsSoFar script phases i v w answers answers' told held held' faults faults'
    → PhasesEnd script phases Done told v w answers answers' held held' faults faults'
all_ran script phases i v w answers answers' told held held' faults faults' above below so = record {
  ran = phases;
  rest = [];
  split = sym (append-nil phases);
  first = so.first;
  text = so.text;
  plays = subst (λ (ps : List Phase). PlaysPhases script ps so.first so.text) (take_all i phases above) so.plays;
  calm = so.calm;
  last = [];
  answers_are = so.answers_are ∙ sym (append-nil (answers ++ so.first));
  served = subst (λ (l : List PairAnswered). Serves v w l) (sym (append-nil so.first)) so.served;
  extra = 0;
  stops = (refl, refl, refl, so.prints);
  told_is = so.told_is ∙ omega (arith, above, below);
}
