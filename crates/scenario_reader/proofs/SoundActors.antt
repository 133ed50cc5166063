-- Actors differ, and each line's actor is one of them.
use Rattle.std.proofs.Common.{◌≡◌, ◌≢◌, ◌∙◌, ℕ, zero, suc, ◌+◌, ◌-◌, ◌<◌, Bool, true, false, ◌||◌, ◌&&◌, not, cond, if◌then◌else◌, List, [], ◌∷◌, ◌++◌, length, get_or, refl, sym, subst, nat_eq, arith, length-append}
use Rattle.std.specs.Bool.{beq}
use Rattle.std.specs.Cmp.Lexicographic.{pointwise}
use Rattle.std.specs.List.{All, AllPairs, HoldsAt, list_any, position_or_len}
use Rattle.std.proofs.Math.ListN.{get_or-append}
use Rattle.std.proofs.lemmas.List.Quantifiers.{all_pairs_push}
use Rattle.scenario_lines.specs.Acts.{is_of_cell}
use Rattle.scenario_lines.specs.Laws.{IsActLine}
use Rattle.scenario_lines.specs.declared.actor.Actor.{Actor}
use Rattle.scenario_lines.specs.declared.content.ActLine.{ActLine}
use Rattle.scenario_reader.specs.Actors.{actor_number, is_same_actor, with_actor}
use Rattle.scenario_reader.specs.Facts.{IsLine, IsPhase}
use Rattle.scenario_reader.specs.Phases.{act_line}
use Rattle.scenario_lines.specs.declared.script.Line.{Line}
use Rattle.scenario_lines.specs.declared.script.Phase.{Phase}
use Rattle.scenario_reader.proofs.ActorNumbers.{is_same_actor-itself, actor_number-own, with_actor-has}

-- where one of two tests is false
pub first_false : (a b : Bool) → (a || b) ≡ false → a ≡ false
first_false true b h = h
first_false false b h = refl

pub second_false : (a b : Bool) → (a || b) ≡ false → b ≡ false
second_false true b h = cc
second_false false b h = h

-- where no item passes, each fails
pub none_pass : {X : Type 0} (p : X → Bool) (xs : List X) → list_any p xs ≡ false → All (λ x. p x ≡ false) xs
none_pass p [] none k d h = absurd (omega arith)
none_pass p (x ∷ xs) none zero d h = first_false (p x) (list_any p xs) none
none_pass p (x ∷ xs) none (suc k) d h = none_pass p xs (second_false (p x) (list_any p xs) none) k d (omega arith)

differs : (a b : Actor) → is_same_actor b a ≡ false → a ≢ b
differs a b isnt same = let itself : is_same_actor b a ≡ true =
    subst (λ (x : Actor). is_same_actor b x ≡ true) (sym same) (is_same_actor-itself b) in cc

distinct-added : (actors : List Actor) (a : Actor) (b : Bool) → list_any (is_same_actor a) actors ≡ b
    → AllPairs (λ x y. x ≢ y) actors → AllPairs (λ x y. x ≢ y) (if b then actors else actors ++ a ∷ [])
distinct-added actors a true is distinct = distinct
distinct-added actors a false is distinct =
    all_pairs_push (λ x y. x ≢ y) actors a distinct (λ k d h.
    differs (get_or actors k d) a (none_pass (is_same_actor a) actors is k d h))

-- actors differ when another acts
pub with_actor-distinct : (actors : List Actor) (a : Actor) → AllPairs (λ x y. x ≢ y) actors
    → AllPairs (λ x y. x ≢ y) (with_actor actors a)
unfolding with_actor
with_actor-distinct actors a distinct = distinct-added actors a (list_any (is_same_actor a) actors) refl distinct

line-chosen : (b : Bool) (actors : List Actor) (a : Actor) (line : Line) → IsLine actors line
    → IsLine (if b then actors else actors ++ a ∷ []) line
line-chosen true actors a line is = is
line-chosen false actors a line is =
    let longer = length-append actors (a ∷ []) in
    let low = is.actor.0 in
    let high = is.actor.1 in
    record {
      actor = (low, omega arith);
      whose = λ d. subst (λ (x : Actor). x.cell ≡ is_of_cell line.act)
          (sym (get_or-append actors (a ∷ []) d (line.actor - 1) (omega arith))) (is.whose d);
      times = is.times;
    }

-- a line stays one when another actor comes
pub line-kept : (actors : List Actor) (a : Actor) (line : Line) → IsLine actors line → IsLine (with_actor actors a) line
unfolding with_actor
line-kept actors a line is = line-chosen (list_any (is_same_actor a) actors) actors a line is

-- the first that passes
place-found : (p : Actor → Bool) (xs : List Actor) → list_any p xs ≡ true
    → (position_or_len p xs < length xs) × HoldsAt (λ x. p x ≡ true) xs (position_or_len p xs)
place-found p [] any = cc
place-found p (x ∷ xs) any =
    elim (p x) as (λ b. p x ≡ b → (b || list_any p xs) ≡ true
    → (cond (not b) (1 + position_or_len p xs) 0 < length (x ∷ xs))
    × HoldsAt (λ y. p y ≡ true) (x ∷ xs) (cond (not b) (1 + position_or_len p xs) 0)) [
      | true ↦ λ passes h. (omega arith, λ d. passes)
      | false ↦ λ fails h.
          let found = place-found p xs h in
          let below = found.0 in
          let one : suc (position_or_len p xs) ≡ 1 + position_or_len p xs = omega arith in
          (omega arith, λ d. subst (λ (n : ℕ). p (get_or (x ∷ xs) n d) ≡ true) one (found.1 d))
    ] refl any

same-cell : (a b : Bool) (c : Bool) → (beq a b && c) ≡ true → b ≡ a
same-cell true true c h = refl
same-cell false false c h = refl
same-cell true false c h = cc
same-cell false true c h = cc

line-made : (all : List Actor) (l : Line) (act : ActLine) → IsActLine act
    → list_any (is_same_actor act.actor) all ≡ true → l.actor ≡ actor_number all act.actor → l.act ≡ act.act
    → l.times ≡ act.times → IsLine all l
unfolding actor_number
line-made all l act is any number same often =
    let p = is_same_actor act.actor in
    let found = place-found p all any in
    let below = found.0 in
    let back : l.actor - 1 ≡ position_or_len p all = omega (arith, number) in
    let whose : HoldsAt (λ a. a.cell ≡ is_of_cell act.act) all (position_or_len p all) = λ d.
    (same-cell act.actor.cell (get_or all (position_or_len p all) d).cell
    (pointwise nat_eq act.actor.name (get_or all (position_or_len p all) d).name) (found.1 d) ∙ is.whose) in
    record {
      actor = (omega (arith, number), omega (arith, number));
      whose = rw (back, same) whose;
      times = rw often is.times;
    }

-- the line of an actor that acts is a line
pub act_line-is : (actors : List Actor) (line : ℕ) (act : ActLine) → IsActLine act
    → IsLine (with_actor actors act.actor) (act_line actors line act)
act_line-is actors line act is = line-made (with_actor actors act.actor) (act_line actors line act) act is
    (with_actor-has actors act.actor) (sym (actor_number-own actors act.actor)) refl refl

-- a phase stays one when another actor comes
pub phase-kept : (actors : List Actor) (a : Actor) (phase : Phase) → IsPhase actors phase
    → IsPhase (with_actor actors a) phase
phase-kept actors a phase is = record {
  lines = λ k d h. line-kept actors a (get_or phase.lines k d) (is.lines k d h);
  rising = is.rising;
  round = is.round;
}
