-- The reps of the first actors are away.
use Rattle.std.proofs.Common.{◌≡◌, ℕ, zero, suc, ◌+◌, ◌<◌, ◌≤◌, List, [], ◌∷◌, ◌++◌, length, map, take, drop, get_or, set, Option, Some, None, refl, sym, ap, ◌∙◌, arith, append_assoc, subst, take_all}
use Rattle.std.specs.Option.{option_to_list}
use Rattle.std.proofs.lemmas.List.{append-nil, take_more}
use Rattle.std.proofs.lemmas.List.Elements.{filter_map-append}
use Rattle.phase_actors.specs.declared.actor_state.ActorState.{ActorState}
use Rattle.cell_rep.specs.declared.rep.CellRep.{CellRep}
use Rattle.phase_runs.specs.Reps.{bare, rep_of, reps_of, with_reps, PutsNext}

of_one : (o : Option CellRep) (a : ActorState) → rep_of a ≡ o → reps_of (a ∷ []) ≡ option_to_list o
of_one None a is = rw is refl
of_one (Some r) a is = rw is refl

-- the reps of one actor more
pub more_reps : (actors : List ActorState) (i : ℕ) (d : ActorState) → i < length actors
    → reps_of (take (i + 1) actors) ≡ reps_of (take i actors) ++ option_to_list (rep_of (get_or actors i d))
more_reps actors i d within =
    ap reps_of (take_more actors i d within) ∙ filter_map-append rep_of (take i actors) (get_or actors i d ∷ [])
    ∙ ap (λ (rs : List CellRep). reps_of (take i actors) ++ rs)
    (of_one (rep_of (get_or actors i d)) (get_or actors i d) refl)

-- the first actors are bare, and the others as they were
abbrev pub bare_first : ℕ → List ActorState → List ActorState
bare_first i actors = map bare (take i actors) ++ drop i actors

still_there : (actors : List ActorState) (i : ℕ) (d : ActorState) → get_or (bare_first i actors) i d ≡ get_or actors i d
still_there [] zero d = refl
still_there [] (suc i) d = refl
still_there (a ∷ rest) zero d = refl
still_there (a ∷ rest) (suc i) d = still_there rest i d

bare_next : (actors : List ActorState) (i : ℕ) (d : ActorState) → i < length actors
    → set (bare_first i actors) i (bare (get_or actors i d)) ≡ bare_first (suc i) actors
bare_next [] i d within = absurd (omega (arith, within))
bare_next (a ∷ rest) zero d within = refl
bare_next (a ∷ rest) (suc i) d within = ap (λ (l : List ActorState). bare a ∷ l)
    (bare_next rest i d (omega (arith, within)))

module _ (actors now : List ActorState) (i : ℕ) (d new : ActorState) (within : i < length actors)
    (now_is : now ≡ bare_first i actors) where
  -- the next actor is as it was
  pub next_is : get_or now i d ≡ get_or actors i d
  next_is = ap (λ (l : List ActorState). get_or l i d) now_is ∙ still_there actors i d

  -- one more of the actors is bare
  pub more_bare : new ≡ bare (get_or now i d) → set now i new ≡ bare_first (i + 1) actors
  more_bare new_is =
      ap (set now i) (new_is ∙ ap bare next_is)
      ∙ ap (λ (l : List ActorState). set l i (bare (get_or actors i d))) now_is
      ∙ bare_next actors i d within
      ∙ ap (λ n. bare_first n actors) (sym more)
    where
      more : i + 1 ≡ suc i
      more = omega arith

one_up : (i : ℕ) → suc i ≡ i + 1
one_up i = omega arith

-- the actors from one on have that one first
from_there : (actors : List ActorState) (i : ℕ) (d : ActorState) → i < length actors
    → drop i actors ≡ get_or actors i d ∷ drop (suc i) actors
from_there [] i d within = absurd (omega (arith, within))
from_there (a ∷ rest) zero d within = refl
from_there (a ∷ rest) (suc i) d within = from_there rest i d (omega (arith, within))

up_to : (actors : List ActorState) (i : ℕ) (new : ActorState) → i < length actors
    → take (suc i) (set actors i new) ≡ take i actors ++ new ∷ []
up_to [] i new within = absurd (omega (arith, within))
up_to (a ∷ rest) zero new within = refl
up_to (a ∷ rest) (suc i) new within = ap (λ (l : List ActorState). a ∷ l) (up_to rest i new (omega (arith, within)))

behind_it : (actors : List ActorState) (i : ℕ) (new : ActorState)
    → drop (suc i) (set actors i new) ≡ drop (suc i) actors
behind_it [] i new = refl
behind_it (a ∷ rest) zero new = refl
behind_it (a ∷ rest) (suc i) new = behind_it rest i new

module _ (olds now : List ActorState) (all reps reps' : List CellRep) (i : ℕ) (d new : ActorState)
    (within : i < length now) (inside : i < length olds)
    (whole : with_reps olds all ≡ take i now ++ with_reps (drop i olds) reps) (same : drop i now ≡ drop i olds)
    (puts : PutsNext (get_or now i d) reps new reps') where
  heads : get_or now i d ∷ drop (suc i) now ≡ get_or olds i d ∷ drop (suc i) olds
  heads = sym (from_there now i d within) ∙ same ∙ from_there olds i d inside

  -- the actors behind it are as they were
  pub behind_put : drop (i + 1) (set now i new) ≡ drop (i + 1) olds
  behind_put = subst (λ n. drop n (set now i new) ≡ drop n olds) (one_up i) (behind_it now i new ∙ cc (heads))

  -- one actor more has its rep
  pub more_put : with_reps olds all ≡ take (i + 1) (set now i new) ++ with_reps (drop (i + 1) olds) reps'
  more_put = subst (λ n. with_reps olds all ≡ take n (set now i new) ++ with_reps (drop n olds) reps') (one_up i) (
      whole
      ∙ ap (λ (l : List ActorState). take i now ++ with_reps l reps) (from_there olds i d inside ∙ sym heads)
      ∙ ap (λ (l : List ActorState). take i now ++ l) (puts (drop (suc i) now))
      ∙ ap (λ (l : List ActorState). take i now ++ new ∷ with_reps l reps') (cc (heads))
      ∙ sym (append_assoc (take i now) (new ∷ []) (with_reps (drop (suc i) olds) reps'))
      ∙ ap (λ (l : List ActorState). l ++ with_reps (drop (suc i) olds) reps') (sym (up_to now i new within)))

nothing_left : (actors : List ActorState) (i : ℕ) → length actors ≤ i → drop i actors ≡ []
nothing_left [] zero past = refl
nothing_left [] (suc i) past = refl
nothing_left (a ∷ rest) zero past = absurd (omega (arith, past))
nothing_left (a ∷ rest) (suc i) past = nothing_left rest i (omega (arith, past))

-- all actors have their reps
pub all_put : (olds now : List ActorState) (all reps : List CellRep) (i : ℕ) → length now ≤ i → length olds ≤ i
    → with_reps olds all ≡ take i now ++ with_reps (drop i olds) reps → now ≡ with_reps olds all
all_put olds now all reps i past beyond whole =
    sym (whole
    ∙ ap (λ (l : List ActorState). take i now ++ with_reps l reps) (nothing_left olds i beyond)
    ∙ append-nil (take i now)
    ∙ take_all i now past)
