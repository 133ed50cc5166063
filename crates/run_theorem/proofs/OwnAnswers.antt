-- The answers of an actor among those of a phase.
use Rattle.std.proofs.Common.{◌≡◌, ◌≢◌, ℕ, zero, suc, ◌+◌, ◌<◌, ◌≤◌, Bool, true, false, cond, List, [], ◌∷◌, ◌++◌, length, get_or, map, Some, refl, sym, ap, subst, ◌∙◌, arith}
use Rattle.std.specs.Prelude.{◌==◌, AllPairs, filter}
use Rattle.std.specs.List.{AllByRecursion, flat_map, range_with_len, slice_get}
use Rattle.std.proofs.lemmas.Bool.{eq-eqb, ne_eqb}
use Rattle.std.proofs.lemmas.List.{append-nil}
use Rattle.std.proofs.lemmas.List.Elements.{All-contains, filter-append}
use Rattle.std.proofs.lemmas.Option.{slice_get-get_or, slice_get_within}
use Rattle.cell_rep.specs.declared.call_end.Called.{Called}
use Rattle.crash_backoff.specs.declared.moment.Moment.{Moment}
use Rattle.scenario_lines.specs.declared.answered.Answered.{Answered}
use Rattle.scenario_lines.specs.declared.script.Line.{Line}
use Rattle.scenario_lines.specs.declared.script.Phase.{Phase}
use Rattle.scenario_reader.specs.Facts.{IsPhase}
use Rattle.phase_actors.specs.Turns.{line_answer, lines_by, Turn, turn_at, turns_in, turns_of}
use Rattle.phase_actors.specs.declared.actor_state.ActorState.{ActorState}
use Rattle.phase_text.specs.Sorting.{is_earlier_line, joined_parts, sorted_by}
use Rattle.run_theorem.specs.Actors.{DoesTurns}
use Rattle.run_theorem.specs.Laws.{ActorsAnswersStand, answers_by}
use Rattle.run_theorem.proofs.ItemsAnswered.{Bears, bears, some_actor}
use Rattle.run_theorem.proofs.ByLine.{kept_sorted, Rises, rises_from, sorted_same}

-- the lines of runs don't fall
abbrev RunsRise : ℕ → List Turn → Type 0
RunsRise low [] = Unit {0}
RunsRise low (t ∷ ts) = (low ≤ t.line) × RunsRise t.line ts

runs_from : (low mid : ℕ) (ts : List Turn) → low ≤ mid → RunsRise mid ts → RunsRise low ts
runs_from low mid [] le f = tt
runs_from low mid (t ∷ ts) le f = (omega (arith, le, f.0), f.1)

calls_rise : (by line low : ℕ) (calls : List Called) (rest : List Answered) → low ≤ line → Rises line rest
    → Rises low (map (line_answer by line) calls ++ rest)
calls_rise by line low [] rest le f = rises_from low line rest le f
calls_rise by line low (c ∷ calls) rest le f = (le, calls_rise by line line calls rest (omega arith) f)

-- so the lines of their answers don't
answers_rise : (by : ℕ) (now : Moment) (ts : List Turn) (low : ℕ) (a : ActorState) (answers : List Answered)
    (a' : ActorState) → RunsRise low ts
    → DoesTurns by now ts a answers a' → Rises low answers
answers_rise by now [] low a answers a' f did = subst (Rises low) (sym did.0) tt
answers_rise by now (t ∷ ts) low a answers a' f (calls, rest, mid, is, one, others) =
    subst (Rises low) (sym is) (calls_rise by t.line low calls rest f.0
    (answers_rise by now ts t.line mid rest a' f.1 others))

-- the runs of one line, with others behind
line_runs : (l : Line) (ns : List ℕ) (low : ℕ) (more : List Turn) → low ≤ l.line → RunsRise l.line more
    → RunsRise low (map (turn_at l) ns ++ more)
line_runs l [] low more le f = runs_from low l.line more le f
line_runs l (n ∷ ns) low more le f = (le, line_runs l ns l.line more (omega arith) f)

-- lines whose numbers rise
abbrev LinesRise : ℕ → List Line → Type 0
LinesRise low [] = Unit {0}
LinesRise low (l ∷ ls) = (low ≤ l.line) × LinesRise l.line ls

lines_from : (low mid : ℕ) (ls : List Line) → low ≤ mid → LinesRise mid ls → LinesRise low ls
lines_from low mid [] le f = tt
lines_from low mid (l ∷ ls) le f = (omega (arith, le, f.0), f.1)

lines_kept : (P : Line → Bool) (low : ℕ) (ls : List Line) → LinesRise low ls → LinesRise low (filter P ls)
lines_kept P low [] f = tt
lines_kept P low (l ∷ ls) f =
    elim (P l) as (λ b. LinesRise low (cond b (l ∷ filter P ls) (filter P ls))) [
      | true ↦ (f.0, lines_kept P l.line ls f.1)
      | false ↦ lines_from low l.line (filter P ls) f.0 (lines_kept P l.line ls f.1)
    ]

lines_rise : (low : ℕ) (ls : List Line) → ((k : ℕ) (d : Line) → k < length ls → low ≤ (get_or ls k d).line)
    → AllPairs (λ a b. a.line < b.line) ls → LinesRise low ls
lines_rise low [] least pairs = tt
lines_rise low (l ∷ ls) least pairs = (
  least 0 l (omega arith),
  lines_rise l.line ls (λ k d within. let h : l.line < (get_or ls k d).line =
      pairs 0 (suc k) d (omega arith) (omega (arith, within)) in omega (arith, h))
      (λ i j d before within. pairs (suc i) (suc j) d (omega (arith, before)) (omega (arith, within))),
)

runs_rise : (low : ℕ) (ls : List Line) → LinesRise low ls → RunsRise low (flat_map turns_of ls)
runs_rise low [] f = tt
runs_rise low (l ∷ ls) f = line_runs l (range_with_len 0 l.times) low (flat_map turns_of ls) f.0
    (runs_rise l.line ls f.1)

-- the answers with a number among those that bear one
all_by : (by : ℕ) (as' : List Answered) → AllByRecursion (Bears by) as' → answers_by by as' ≡ as'
all_by by [] f = refl
all_by by (a ∷ as') f =
    ap (λ (b : Bool). cond b (a ∷ answers_by by as') (answers_by by as')) (eq-eqb a.actor by f.0) ∙ ap
    (λ (l : List Answered). a ∷ l) (all_by by as' f.1)

none_by : (by other : ℕ) (as' : List Answered) → other ≢ by → AllByRecursion (Bears other) as' → answers_by by as' ≡ []
none_by by other [] ne f = refl
none_by by other (a ∷ as') ne f =
    ap (λ (b : Bool). cond b (a ∷ answers_by by as') (answers_by by as'))
    (ne_eqb a.actor by (λ is. ne (sym f.0 ∙ is))) ∙ none_by by other as' ne f.1

-- parts that bear their numbers
abbrev BearNumbers : ℕ → List (List Answered) → Type 0
BearNumbers n [] = Unit {0}
BearNumbers n (p ∷ parts) = AllByRecursion (Bears n) p × BearNumbers (suc n) parts

none_of : (by n : ℕ) (parts : List (List Answered)) → by < n → BearNumbers n parts
    → answers_by by (joined_parts parts) ≡ []
none_of by n [] less f = refl
none_of by n (p ∷ parts) less f =
    filter-append (λ (a : Answered). a.actor == by) p (joined_parts parts)
    ∙ ap (λ (l : List Answered). l ++ answers_by by (joined_parts parts))
    (none_by by n p (λ is. absurd (omega (arith, less, is))) f.0)
    ∙ none_of by (suc n) parts (omega (arith, less)) f.1

one_of : (n : ℕ) (parts : List (List Answered)) → BearNumbers n parts → (k : ℕ) (part : List Answered)
    → slice_get parts k ≡ Some part → (by : ℕ) → by ≡ n + k
    → answers_by by (joined_parts parts) ≡ part
one_of n [] f k part is by at = cc (is)
one_of n (p ∷ parts) f zero part is by at =
    let same : p ≡ part = cc (is) in
    let number : n ≡ by = omega (arith, at) in
    filter-append (λ (a : Answered). a.actor == by) p (joined_parts parts)
    ∙ ap (λ (l : List Answered). answers_by by p ++ l) (none_of by (suc n) parts (omega (arith, at)) f.1)
    ∙ append-nil (answers_by by p)
    ∙ all_by by p (subst (λ m. AllByRecursion (Bears m) p) number f.0)
    ∙ same
one_of n (p ∷ parts) f (suc k) part is by at =
    filter-append (λ (a : Answered). a.actor == by) p (joined_parts parts)
    ∙ ap (λ (l : List Answered). l ++ answers_by by (joined_parts parts))
    (none_by by n p (λ e. absurd (omega (arith, at, e))) f.0)
    ∙ one_of (suc n) parts f.1 k part is by (omega (arith, at))

bear_numbers : (n : ℕ) (parts : List (List Answered)) →
    ((k : ℕ) (p : List Answered) → slice_get parts k ≡ Some p → AllByRecursion (Bears (n + k)) p) → BearNumbers n parts
bear_numbers n [] each = tt
bear_numbers n (p ∷ parts) each = (
  subst (λ m. AllByRecursion (Bears m) p) (here n) (each 0 p refl),
  bear_numbers (suc n) parts (λ k q is. subst (λ m. AllByRecursion (Bears m) q) (later n k) (each (suc k) q is)),
)
  where
    here : (n : ℕ) → n + 0 ≡ n
    here n = omega arith

    later : (n k : ℕ) → n + suc k ≡ suc n + k
    later n k = omega arith

-- an actor did all of its lines with these answers
record SomeTurns (phase : Phase) (by : ℕ) (answers : List Answered) : Type 0 where
  old : ActorState
  new : ActorState
  turns : DoesTurns by phase.at (turns_in by phase.lines) old answers new

pub answers_stand : ActorsAnswersStand
answers_stand script phase base log s s' agrees is_script among k part is =
    kept_sorted (λ (a : Answered). a.actor == suc k) (joined_parts agrees.parts)
    ∙ ap (sorted_by is_earlier_line) (one_of 1 agrees.parts numbers k part is (suc k) (omega arith))
    ∙ sorted_same 0 part rising
  where
    a : (k : ℕ) → k < length s.actors → ActorState
    a k within = some_actor s.actors k within

    inside : (k : ℕ) (p : List Answered) → slice_get agrees.parts k ≡ Some p → k < length s.actors
    inside k p there = omega (arith, slice_get_within agrees.parts k p there, agrees.count_is)

    did : (k : ℕ) (p : List Answered) (there : slice_get agrees.parts k ≡ Some p) → SomeTurns phase (suc k) p
    did k p there =
        let within = inside k p there in
        let d = some_actor s.actors k within in
        record {
          old = get_or s.actors k d;
          new = get_or agrees.mids k d;
          turns = (agrees.actors k (get_or s.actors k d) (get_or agrees.mids k d) p
              (slice_get-get_or s.actors k d within)
              (slice_get-get_or agrees.mids k d (omega (arith, within, agrees.same.length_is))) there).did;
        }

    up : (j : ℕ) → suc j ≡ 1 + j
    up j = omega arith

    numbers : BearNumbers 1 agrees.parts
    numbers = bear_numbers 1 agrees.parts (λ j p there.
        let h = did j p there in
        subst (λ m. AllByRecursion (Bears m) p) (up j) (bears (suc j) phase.at
        (turns_in (suc j) phase.lines) h.old p h.new h.turns))

    is_phase : IsPhase script.actors phase
    is_phase = All-contains (IsPhase script.actors) script.phases phase is_script.phases among

    rising : Rises 0 part
    rising =
        let h = did k part is in
        answers_rise (suc k) phase.at (turns_in (suc k) phase.lines) 0 h.old part h.new
        (runs_rise 0 (lines_by (suc k) phase.lines) (lines_kept (λ (l : Line). l.actor == suc k) 0 phase.lines
        (lines_rise 0 phase.lines (λ i d within. omega arith) is_phase.rising)))
        h.turns
