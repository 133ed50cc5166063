-- Each item of the phases that ended is that of an answer, unless it has the number of rounds.
use Rattle.std.proofs.Common.{◌≡◌, ◌≢◌, ℕ, zero, suc, ◌<◌, ◌≤◌, Bool, true, false, cond, List, [], ◌∷◌, ◌++◌, length, get_or, map, take, Some, refl, sym, ap, subst, ◌∙◌, arith, ⊎_elim}
use Rattle.std.specs.List.{AllByRecursion, Contains, flat_map, slice_get}
use Rattle.std.proofs.lemmas.Bool.{cases_lt}
use Rattle.std.proofs.lemmas.List.Elements.{Contains-append_left, Contains-append_right, recursion_from_All}
use Rattle.std.proofs.lemmas.Option.{slice_get-get_or}
use Rattle.bbs_model.specs.Calls.{by_of}
use Rattle.bbs_model.specs.declared.item.Item.{Item}
use Rattle.bbs_model.specs.declared.rows.Rows.{Rows}
use Rattle.cell_rep.specs.declared.call_end.Called.{Called}
use Rattle.converge_laws.proofs.Public.{first_or_rest, inside_first, inside_rest}
use Rattle.converge_round.specs.Each.{Each}
use Rattle.crash_backoff.specs.declared.moment.Moment.{Moment}
use Rattle.scenario_lines.specs.declared.answered.Answered.{Answered}
use Rattle.scenario_lines.specs.declared.script.Phase.{Phase}
use Rattle.phase_actors.specs.Turns.{line_answer, Turn, turns_in}
use Rattle.phase_actors.specs.declared.actor_state.ActorState.{ActorState}
use Rattle.phase_text.specs.Sorting.{by_line, is_earlier_line, joined_parts, sorted_by, with_placed}
use Rattle.run_theorem.specs.Actors.{DoesTurns}
use Rattle.run_theorem.specs.Answers.{IsTrueOf}
use Rattle.run_theorem.specs.Headline.{outset}
use Rattle.run_theorem.specs.Laws.{IsAnswered, ItemsAreAnswered}
use Rattle.run_theorem.specs.Phases.{ActorAgrees, PhaseAgrees, Point}
use Rattle.run_theorem.proofs.Counted.{answered_there, fewer, IsOwn, one_there, there_taken}

module _ {X : Type 0} (before : X → X → Bool) where
  -- one stays inside where it is put in order
  inside_placed : (x y : X) (ys : List X) → Contains (y ∷ ys) x → Contains (with_placed before y ys) x
  inside_placed x y [] inside = inside
  inside_placed x y (z ∷ ys) inside =
      elim (before z y) as (λ b. Contains (cond b (z ∷ with_placed before y ys) (y ∷ z ∷ ys)) x) [
        | true ↦
            ⊎_elim
            (λ (is : y ≡ x). inside_rest x z (with_placed before y ys)
            (inside_placed x y ys (subst (Contains (y ∷ ys)) is (inside_first y ys))))
            (λ (other : Contains (z ∷ ys) x).
            ⊎_elim
            (λ (is : z ≡ x). subst (Contains (z ∷ with_placed before y ys)) is
            (inside_first z (with_placed before y ys)))
            (λ (later : Contains ys x). inside_rest x z (with_placed before y ys)
            (inside_placed x y ys (inside_rest x y ys later)))
            (first_or_rest x z ys other))
            (first_or_rest x y (z ∷ ys) inside)
        | false ↦ inside
      ]

  inside_sorted : (xs : List X) (x : X) → Contains xs x → Contains (sorted_by before xs) x
  inside_sorted [] x inside = inside
  inside_sorted (y ∷ ys) x inside =
      ⊎_elim
      (λ (is : y ≡ x). inside_placed x y (sorted_by before ys)
      (subst (Contains (y ∷ sorted_by before ys)) is (inside_first y (sorted_by before ys))))
      (λ (later : Contains ys x). inside_placed x y (sorted_by before ys)
      (inside_rest x y (sorted_by before ys) (inside_sorted ys x later)))
      (first_or_rest x y ys inside)

inside_joined : {X : Type 0} (parts : List (List X)) (k : ℕ) (p : List X) (x : X) → slice_get parts k ≡ Some p
    → Contains p x
    → Contains (flat_map (λ (part : List X). part) parts) x
inside_joined [] k p x is inside = cc (is)
inside_joined {X = X} (q ∷ parts) zero p x is inside =
    let same : p ≡ q = cc (is) in
    Contains-append_left q (flat_map (λ (part : List X). part) parts) x
    (subst (λ (l : List X). Contains l x) same inside)
inside_joined {X = X} (q ∷ parts) (suc k) p x is inside =
    Contains-append_right q (flat_map (λ (part : List X). part) parts) x (inside_joined parts k p x is inside)

-- what an actor answered bears its number
module _ (by : ℕ) where
  abbrev pub Bears : Answered → Type 0
  Bears a = a.actor ≡ by

  bears_both : (xs ys : List Answered) → AllByRecursion Bears xs → AllByRecursion Bears ys
      → AllByRecursion Bears (xs ++ ys)
  bears_both [] ys f g = g
  bears_both (x ∷ xs) ys f g = (f.0, bears_both xs ys f.1 g)

  bears_run : (line : ℕ) (calls : List Called) → AllByRecursion Bears (map (line_answer by line) calls)
  bears_run line [] = tt
  bears_run line (c ∷ calls) = (refl, bears_run line calls)

  pub bears : (now : Moment) (ts : List Turn) (a : ActorState) (answers : List Answered) (a' : ActorState)
      → DoesTurns by now ts a answers a'
      → AllByRecursion Bears answers
  bears now [] a answers a' did = subst (AllByRecursion Bears) (sym did.0) tt
  bears now (t ∷ ts) a answers a' (calls, rest, mid, is, one, others) =
      subst (AllByRecursion Bears) (sym is) (bears_both (map (line_answer by t.line) calls) rest
      (bears_run t.line calls) (bears now ts mid rest a' others))

  own_true : (base : Rows) (log : List Item) (as' : List Answered) → AllByRecursion (IsTrueOf base log) as'
      → AllByRecursion Bears as'
      → AllByRecursion (IsOwn base log by) as'
  own_true base log [] f g = tt
  own_true base log (a ∷ as') f g = ((f.0, g.0), own_true base log as' f.1 g.1)

before_it : (n : ℕ) → n ≢ 0 → (k : ℕ) × (n ≡ suc k)
before_it zero ne = absurd (ne refl)
before_it (suc k) ne = (k, refl)

pub some_actor : (xs : List ActorState) (k : ℕ) → k < length xs → ActorState
some_actor [] k within = absurd (omega (arith, within))
some_actor (x ∷ xs) k within = x

more_answers : (xs ys : List Answered) (p : ℕ) (i : Item) → ((a : Answered) → Contains xs a → Contains ys a)
    → IsAnswered xs p i → IsAnswered ys p i
more_answers xs ys p i more is = record {
  answer = is.answer;
  among = more is.answer is.among;
  item =
      is.item;
  place_is = is.place_is;
}

module _ (base : Rows) (log : List Item) where
  -- by an actor
  in_part : (phase : Phase) (from upto by : ℕ) (a a' : ActorState) (answers : List Answered)
      → ActorAgrees base log phase from upto by a a' answers
      → (p : ℕ) (i : Item) → from ≤ p → p < upto → slice_get log p ≡ Some i → by_of i ≡ by → IsAnswered answers p i
  in_part phase from upto by a a' answers agrees p i low high is own =
      answered_there base log by upto answers from agrees.places
      (own_true by base log answers (recursion_from_All (IsTrueOf base log) answers agrees.replies)
      (bears by phase.at (turns_in by phase.lines) a answers a' agrees.did))
      agrees.items p i low (there_taken log upto p high ∙ is) own

  module _ (phase : Phase) (s t : Point) (agrees : PhaseAgrees base log phase s t) (p : ℕ) (i : Item)
      (low : s.place ≤ p) (high : p < t.place)
      (is : slice_get log p ≡ Some i) where
    -- nobody has a higher number
    no_other : length s.actors < by_of i → ⊥
    no_other behind =
        let its = take t.place log in
        omega (
          arith,
          fewer (take t.place log) (by_of i) s.place p low,
          ap length (one_there (take t.place log) (by_of i) p i (there_taken log t.place p high ∙ is) refl),
          ap length (agrees.others (by_of i) behind),
        )

    of_actor : (k : ℕ) → by_of i ≡ suc k → k < length s.actors → IsAnswered t.answers p i
    of_actor k own within =
        more_answers part t.answers p i
        (λ x inside.
        subst (λ (xs : List Answered). Contains xs x) (sym agrees.answers)
        (Contains-append_right s.answers (by_line agrees.parts) x
        (inside_sorted is_earlier_line (joined_parts agrees.parts) x
        (inside_joined agrees.parts k part x there inside))))
        (in_part phase s.place t.place (suc k) (get_or s.actors k a) (get_or agrees.mids k a) part
        (agrees.actors k (get_or s.actors k a) (get_or agrees.mids k a) part (slice_get-get_or s.actors k a within)
        (slice_get-get_or agrees.mids k a (omega (arith, within, agrees.same.length_is))) there)
        p i low high is own)
      where
        a : ActorState
        a = some_actor s.actors k within

        nothing : List Answered
        nothing = []

        part : List Answered
        part = get_or agrees.parts k []

        there : slice_get agrees.parts k ≡ Some (get_or agrees.parts k [])
        there = slice_get-get_or agrees.parts k [] (omega (arith, within, agrees.count_is))

    in_phase : by_of i ≢ 0 → IsAnswered t.answers p i
    in_phase ne =
        let before = before_it (by_of i) ne in
        ⊎_elim
        (λ (behind : length s.actors < by_of i). absurd (no_other behind))
        (λ (within : by_of i ≤ length s.actors). of_actor before.0 before.1 (omega (arith, within, before.1)))
        (cases_lt (length s.actors) (by_of i))

  -- answers stay
  answers_stay : (phases : List Phase) (s t : Point) → Each (PhaseAgrees base log) phases s t → (a : Answered)
      → Contains s.answers a → Contains t.answers a
  answers_stay [] s t same a inside = subst (λ (m : Point). Contains m.answers a) (sym same) inside
  answers_stay (phase ∷ phases) s t (m, agrees, others) a inside =
      answers_stay phases m t others a
      (subst (λ (xs : List Answered). Contains xs a) (sym agrees.answers)
      (Contains-append_left s.answers (by_line agrees.parts) a inside))

  in_phases : (phases : List Phase) (s t : Point) → Each (PhaseAgrees base log) phases s t → (p : ℕ) (i : Item)
      → s.place ≤ p → p < t.place
      → slice_get log p ≡ Some i → by_of i ≢ 0 → IsAnswered t.answers p i
  in_phases [] s t same p i low high is ne = absurd (omega (arith, low, high, ap (λ (m : Point). m.place) same))
  in_phases (phase ∷ phases) s t (m, agrees, others) p i low high is ne =
      ⊎_elim
      (λ (here : p < m.place).
      more_answers m.answers t.answers p i (answers_stay phases m t others)
      (in_phase phase s m agrees p i low here is ne))
      (λ (later : m.place ≤ p). in_phases phases m t others p i later high is ne)
      (cases_lt p m.place)

pub items_answered : ItemsAreAnswered
items_answered script how answers reports base log run p i within is ne =
    more_answers run.order.last.answers answers p i (λ a inside.
    subst (λ (xs : List Answered). Contains xs a) (sym run.order.answers_are) inside)
    (in_phases base log run.order.ended (outset script) run.order.last run.order.each p i (omega arith) within is ne)
