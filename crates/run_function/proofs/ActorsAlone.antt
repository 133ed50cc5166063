-- The actors of a phase in which one alone has lines, or none.
use Rattle.std.proofs.Common.{◌≡◌, ◌≢◌, ℕ, zero, suc, ◌+◌, ◌<◌, ◌≤◌, Bool, cond, List, [], ◌∷◌, ◌++◌, length, Some, refl, sym, ap, subst, ◌∙◌, arith, ⊎_elim, length-append}
use Rattle.std.specs.List.{flat_map, slice_get}
use Rattle.std.proofs.lemmas.Bool.{cases_eq, ne_eqb}
use Rattle.bbs_board.specs.Doubts.{doubts_in}
use Rattle.bbs_model.specs.Calls.{by_number}
use Rattle.bbs_model.specs.PortView.{PortView}
use Rattle.bbs_model.specs.declared.item.Item.{Item}
use Rattle.bbs_model.specs.declared.rows.Rows.{Rows}
use Rattle.converge_laws.proofs.Public.{inside_first, inside_rest}
use Rattle.crash_backoff.specs.declared.moment.Moment.{Moment}
use Rattle.scenario_lines.specs.declared.answered.Answered.{Answered}
use Rattle.scenario_lines.specs.declared.script.Line.{Line}
use Rattle.phase_actors.specs.Turns.{TakesTurns, Turn, lines_by, turns_in, turns_of}
use Rattle.phase_actors.specs.declared.actor_state.ActorState.{ActorState}
use Rattle.phase_runs.specs.Actors.{PartRan}
use Rattle.run_function.specs.Boards.{SoleBoard}
use Rattle.run_function.specs.Phases.{AreLinesOf, SoleActors, actors_alone, in_front, sole_actors}
use Rattle.run_function.specs.Turns.{SoleActor, actor_alone, sole_actor, turns_alone}
use Rattle.run_function.proofs.ByNumber.{NoOthers, all_by}
use Rattle.run_function.proofs.PhaseViews.{sees_all, sole_board, undisturbed}
use Rattle.run_function.proofs.TurnsAlone.{later_turns, turns_are_alone}

-- no line is another actor's
no_lines : (by n : ℕ) (lines : List Line) → AreLinesOf by lines → by ≢ n → lines_by n lines ≡ []
no_lines by n [] are ne = refl
no_lines by n (l ∷ ls) are ne =
    ap (λ (b : Bool). cond b (l ∷ lines_by n ls) (lines_by n ls))
    (ne_eqb l.actor n (λ e. ne (sym (are l (inside_first l ls)) ∙ e)))
    ∙ no_lines by n ls (λ x inside. are x (inside_rest x l ls inside)) ne

pub no_turns : (by n : ℕ) (lines : List Line) → AreLinesOf by lines → by ≢ n → turns_in n lines ≡ []
no_turns by n lines are ne = ap (flat_map turns_of) (no_lines by n lines are ne)

-- a list is no longer where nothing is put behind it
none_behind : (xs ys zs : List Item) → zs ≡ xs → zs ≡ xs ++ ys → ys ≡ []
none_behind xs [] zs same more = refl
none_behind xs (y ∷ ys) zs same more = absurd (omega (arith, ap length same, ap length more, length-append xs (y ∷ ys)))

module _ (base : Rows) (now : Moment) (lines : List Line) (before fresh : List Item) where
  -- what an actor without lines did
  pub record IsIdle (n : ℕ) (a a' : ActorState) (answers : List Answered) : Type 0 where
    pub same : a' ≡ a
    pub none : answers ≡ []
    pub items : by_number n fresh ≡ []

  pub idle_part : (n : ℕ) (a a' : ActorState) (answers : List Answered) → turns_in n lines ≡ []
      → PartRan base now lines before fresh n a a' answers → IsIdle n a a' answers
  idle_part n a a' answers none ran =
      let taken = subst (λ (ts : List Turn). TakesTurns n now ts a ran.first answers a' ran.last) none ran.taken in
      record {
        same = taken.1.0;
        none = taken.0;
        items = none_behind ran.first.mine (by_number n fresh) ran.last.mine
            (ap (λ (x : PortView). x.mine) taken.1.1) ran.sees.own;
      }

  -- each actor from that number on ran
  abbrev pub Each_ran : ℕ → List ActorState → List ActorState → List (List Answered) → Type 0
  Each_ran from olds mids parts = (k n : ℕ) (a a' : ActorState) (answers : List Answered) → n ≡ from + k
      → slice_get olds k ≡ Some a
      → slice_get mids k ≡ Some a' → slice_get parts k ≡ Some answers
      → PartRan base now lines before fresh n a a' answers

  ran_rest : (from : ℕ) (a a' : ActorState) (part : List Answered) (olds mids : List ActorState)
      (parts : List (List Answered))
      → Each_ran from (a ∷ olds) (a' ∷ mids) (part ∷ parts) → Each_ran (suc from) olds mids parts
  ran_rest from a a' part olds mids parts ran = λ k n x x' answers is old mid there.
      ran (suc k) n x x' answers (omega (arith, is)) old mid there

  -- none of these has lines: nothing is done
  pub record AreIdle (from : ℕ) (olds mids : List ActorState) (parts : List (List Answered)) : Type 0 where
    pub same : mids ≡ olds
    pub alone : (b : SoleBoard) → actors_alone from now lines olds b ≡ sole_actors mids b parts
    pub items : (k : ℕ) → k < length olds → by_number (from + k) fresh ≡ []

  idle_before : (from : ℕ) (a a' : ActorState) (part : List Answered) (olds mids : List ActorState)
      (parts : List (List Answered)) → turns_in from lines ≡ []
      → IsIdle from a a' part → AreIdle (suc from) olds mids parts → AreIdle from (a ∷ olds) (a' ∷ mids) (part ∷ parts)
  idle_before from a a' part olds mids parts none idle rest = record {
    same = λ i. idle.same i ∷ rest.same i;
    alone = λ b.
        let first : actor_alone from now lines a b ≡ sole_actor a' b part =
        ap (λ (ts : List Turn). turns_alone from now ts (sole_actor a b [])) none ∙
        (λ i. sole_actor (sym idle.same i) b (sym idle.none i)) in
        ap (λ (x : SoleActor). in_front x (actors_alone (suc from) now lines olds x.board)) first
        ∙ ap (λ (x : SoleActors). in_front (sole_actor a' b part) x) (rest.alone b);
    items = items_at;
  }
    where
      items_at : (k : ℕ) → k < length (a ∷ olds) → by_number (from + k) fresh ≡ []
      items_at zero lt = let same : from + 0 ≡ from = omega arith in ap (λ (n : ℕ). by_number n fresh) same ∙ idle.items
      items_at (suc k) lt = let same : from + suc k ≡ suc from + k = omega arith in
          ap (λ (n : ℕ). by_number n fresh) same ∙ rest.items k (omega arith)

  pub all_idle : (from : ℕ) (olds mids : List ActorState) (parts : List (List Answered)) → length mids ≡ length olds
      → length parts ≡ length olds
      → Each_ran from olds mids parts → ((n : ℕ) → from ≤ n → n < from + length olds → turns_in n lines ≡ [])
      → AreIdle from olds mids parts
  all_idle from [] [] [] m p ran none = record {
    same = refl;
    alone = λ b. refl;
    items = λ k lt.
        absurd (omega (arith, lt));
  }
  all_idle from [] [] (part ∷ parts) m p ran none = absurd (omega (arith, p))
  all_idle from [] (a' ∷ mids) parts m p ran none = absurd (omega (arith, m))
  all_idle from (a ∷ olds) [] parts m p ran none = absurd (omega (arith, m))
  all_idle from (a ∷ olds) (a' ∷ mids) [] m p ran none = absurd (omega (arith, p))
  all_idle from (a ∷ olds) (a' ∷ mids) (part ∷ parts) m p ran none =
      let here = none from (omega arith) (omega arith) in
      idle_before from a a' part olds mids parts here
      (idle_part from a a' part here (ran 0 from a a' part (omega arith) refl refl refl))
      (all_idle (suc from) olds mids parts (omega (arith, m)) (omega (arith, p))
      (ran_rest from a a' part olds mids parts ran) (λ n le lt. none n (omega (arith, le)) (omega (arith, lt))))

  -- one of these has lines, and did them alone
  pub one_busy : (by : ℕ) → AreLinesOf by lines → NoOthers by fresh → doubts_in (before ++ fresh) ≡ 0
      → (from : ℕ) (olds mids : List ActorState) (parts : List (List Answered)) → length mids ≡ length olds
      → length parts ≡ length olds
      → Each_ran from olds mids parts → from ≤ by → by < from + length olds
      → actors_alone from now lines olds (sole_board base before)
      ≡ sole_actors mids (sole_board base (before ++ fresh)) parts
  one_busy by are none calm from [] mids parts m p ran low high = absurd (omega (arith, low, high))
  one_busy by are none calm from (a ∷ olds) [] parts m p ran low high = absurd (omega (arith, m))
  one_busy by are none calm from (a ∷ olds) (a' ∷ mids) [] m p ran low high = absurd (omega (arith, p))
  one_busy by are none calm from (a ∷ olds) (a' ∷ mids) (part ∷ parts) m p ran low high =
      let one = ran 0 from a a' part (omega arith) refl refl refl in
      let rest_ran = ran_rest from a a' part olds mids parts ran in
      ⊎_elim
      (λ (same : from ≡ by).
      let all = subst (λ (n : ℕ). by_number n fresh ≡ fresh) (sym same) (all_by by fresh none) in
      let sees = sees_all base before fresh from one.first one.last one.sees
      (later_turns from now (turns_in from lines) a a' one.first one.last part one.taken) all in
      let turn = turns_are_alone from now (turns_in from lines) a a' one.first one.last part one.taken
      (undisturbed base before fresh one.first one.last sees calm) one.fed in
      let first : actor_alone from now lines a (sole_board base before)
      ≡ sole_actor a' (sole_board base (before ++ fresh)) part =
      ap (λ (b : SoleBoard). actor_alone from now lines a b) (sym sees.first) ∙ turn ∙ ap
      (λ (b : SoleBoard). sole_actor a' b part) sees.last in
      let rest = all_idle (suc from) olds mids parts (omega (arith, m)) (omega (arith, p)) rest_ran
      (λ n le lt. no_turns by n lines are (λ e. absurd (omega (arith, le, same, e)))) in
      ap (λ (x : SoleActor). in_front x (actors_alone (suc from) now lines olds x.board)) first
      ∙ ap (λ (x : SoleActors). in_front (sole_actor a' (sole_board base (before ++ fresh)) part) x)
      (rest.alone (sole_board base (before ++ fresh))))
      (λ (other : from ≢ by).
      let here = no_turns by from lines are (λ e. other (sym e)) in
      let idle = idle_part from a a' part here one in
      let first : actor_alone from now lines a (sole_board base before) ≡ sole_actor a' (sole_board base before) part =
      ap (λ (ts : List Turn). turns_alone from now ts (sole_actor a (sole_board base before) [])) here ∙
      (λ i. sole_actor (sym idle.same i) (sole_board base before) (sym idle.none i)) in
      ap (λ (x : SoleActor). in_front x (actors_alone (suc from) now lines olds x.board)) first
      ∙ ap (λ (x : SoleActors). in_front (sole_actor a' (sole_board base before) part) x)
      (one_busy by are none calm (suc from) olds mids parts (omega (arith, m)) (omega (arith, p)) rest_ran
      (omega (arith, low, other)) (omega (arith, high))))
      (cases_eq from by)
