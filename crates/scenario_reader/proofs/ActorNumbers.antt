-- The actors of lines keep their numbers when more lines come.
use Rattle.std.proofs.Common.{◌≡◌, ◌∙◌, ◌+◌, Bool, true, false, ◌||◌, ◌&&◌, not, cond, if◌then◌else◌, List, [], ◌∷◌, ◌++◌, refl, ap, nat_eq}
use Rattle.std.specs.Bool.{beq}
use Rattle.std.specs.Cmp.Lexicographic.{pointwise}
use Rattle.std.specs.List.{list_any, position_or_len}
use Rattle.std.proofs.lemmas.Cmp.{nat_list_eq_equiv}
use Rattle.std.proofs.lemmas.List.Folds.{list_any-append}
use Rattle.scenario_lines.specs.declared.actor.Actor.{Actor}
use Rattle.scenario_lines.specs.declared.content.Content.{Content}
use Rattle.scenario_lines.specs.declared.content.Content.TheVariants.{Phase, Acts, Round}
use Rattle.scenario_reader.specs.Actors.{actor_number, actors_from, is_same_actor, with_acting, with_actor}
use Rattle.scenario_reader.specs.Said.{SaidLine}

same-beq : (b : Bool) → beq b b ≡ true
same-beq true = refl
same-beq false = refl

-- an actor is itself
pub is_same_actor-itself : (a : Actor) → is_same_actor a a ≡ true
is_same_actor-itself a = ap (λ b. b && pointwise nat_eq a.name a.name) (same-beq a.cell) ∙ nat_list_eq_equiv.refl a.name

-- an actor is among these
abbrev pub IsAmong : List Actor → Actor → Type 0
IsAmong actors a = list_any (is_same_actor a) actors ≡ true

-- the actor of a line, if it has one, is among these
abbrev pub IsKnown : List Actor → Content → Type 0
IsKnown actors (Phase at) = Unit {0}
IsKnown actors (Acts act) = IsAmong actors act.actor
IsKnown actors (Round losses) = Unit {0}

-- the actors of these lines are among these
abbrev pub AreKnown : List Actor → List SaidLine → Type 0
AreKnown actors [] = Unit {0}
AreKnown actors (said ∷ more) = IsKnown actors said.content × AreKnown actors more

any-front : (p : Actor → Bool) (xs ys : List Actor) → list_any p xs ≡ true → list_any p (xs ++ ys) ≡ true
any-front p xs ys any = list_any-append p xs ys ∙ ap (λ b. b || list_any p ys) any

-- what is at the end
any-end : (p : Actor → Bool) (xs : List Actor) (x : Actor) → p x ≡ true → list_any p (xs ++ x ∷ []) ≡ true
any-end p [] x passes = ap (λ b. b || false) passes
any-end p (y ∷ ys) x passes = elim (p y) as (λ b. (b || list_any p (ys ++ x ∷ [])) ≡ true)
    [ true ↦ refl | false ↦ any-end p ys x passes ]

among-chosen : (b : Bool) (actors : List Actor) (a other : Actor) → IsAmong actors a
    → IsAmong (if b then actors else actors ++ other ∷ []) a
among-chosen true actors a other is = is
among-chosen false actors a other is = any-front (is_same_actor a) actors (other ∷ []) is

-- an actor stays among the actors when another acts
pub with_actor-keeps : (actors : List Actor) (a other : Actor) → IsAmong actors a → IsAmong (with_actor actors other) a
unfolding with_actor
with_actor-keeps actors a other is = among-chosen (list_any (is_same_actor other) actors) actors a other is

added : (actors : List Actor) (a : Actor) (b : Bool) → list_any (is_same_actor a) actors ≡ b
    → IsAmong (if b then actors else actors ++ a ∷ []) a
added actors a true is = is
added actors a false is = any-end (is_same_actor a) actors a (is_same_actor-itself a)

-- who acts is among the actors from then on
pub with_actor-has : (actors : List Actor) (a : Actor) → IsAmong (with_actor actors a) a
unfolding with_actor
with_actor-has actors a = added actors a (list_any (is_same_actor a) actors) refl

acting-keeps : (actors : List Actor) (c : Content) (a : Actor) → IsAmong actors a → IsAmong (with_acting actors c) a
acting-keeps actors (Phase at) a is = is
acting-keeps actors (Acts act) a is = with_actor-keeps actors a act.actor is
acting-keeps actors (Round losses) a is = is

from-keeps : (actors : List Actor) (lines : List SaidLine) (a : Actor) → IsAmong actors a
    → IsAmong (actors_from actors lines) a
from-keeps actors [] a is = is
from-keeps actors (said ∷ more) a is = from-keeps (with_acting actors said.content) more a
    (acting-keeps actors said.content a is)

known-on : (actors : List Actor) (c : Content) (more : List SaidLine)
    → IsKnown (actors_from (with_acting actors c) more) c
known-on actors (Phase at) more = tt
known-on actors (Acts act) more = from-keeps (with_actor actors act.actor) more act.actor
    (with_actor-has actors act.actor)
known-on actors (Round losses) more = tt

-- the actors of lines have those that act on them
pub actors_from-known : (actors : List Actor) (lines : List SaidLine) → AreKnown (actors_from actors lines) lines
actors_from-known actors [] = tt
actors_from-known actors (said ∷ more) =
    (known-on actors said.content more, actors_from-known (with_acting actors said.content) more)

-- one more line
pub actors_from-push : (actors : List Actor) (lines : List SaidLine) (said : SaidLine)
    → actors_from actors (lines ++ said ∷ []) ≡ with_acting (actors_from actors lines) said.content
actors_from-push actors [] said = refl
actors_from-push actors (first ∷ more) said = actors_from-push (with_acting actors first.content) more said

place-kept : (p : Actor → Bool) (xs ys : List Actor) → list_any p xs ≡ true
    → position_or_len p (xs ++ ys) ≡ position_or_len p xs
place-kept p [] ys any = cc
place-kept p (x ∷ xs) ys any =
    elim (p x) as (λ b. (b || list_any p xs) ≡ true → cond (not b) (1 + position_or_len p (xs ++ ys)) 0
    ≡ cond (not b) (1 + position_or_len p xs) 0) [
      | true ↦ λ h. refl
      | false ↦ λ h. ap (λ n. 1 + n) (place-kept p xs ys h)
    ] any

place-chosen : (p : Actor → Bool) (b : Bool) (actors : List Actor) (other : Actor) → list_any p actors ≡ true
    → position_or_len p (if b then actors else actors ++ other ∷ []) ≡ position_or_len p actors
place-chosen p true actors other is = refl
place-chosen p false actors other is = place-kept p actors (other ∷ []) is

-- who is among the actors keeps its number when another acts
pub actor_number-kept : (actors : List Actor) (a other : Actor) → IsAmong actors a
    → actor_number (with_actor actors other) a ≡ actor_number actors a
unfolding with_actor actor_number
actor_number-kept actors a other is = ap (λ n. n + 1) (place-chosen (is_same_actor a)
    (list_any (is_same_actor other) actors) actors other is)

place-end : (p : Actor → Bool) (xs : List Actor) (x : Actor) → p x ≡ true
    → position_or_len p (xs ++ x ∷ []) ≡ position_or_len p xs
place-end p [] x passes = ap (λ b. cond (not b) (1 + 0) 0) passes
place-end p (y ∷ ys) x passes = ap (λ n. cond (not (p y)) (1 + n) 0) (place-end p ys x passes)

place-new : (p : Actor → Bool) (b : Bool) (actors : List Actor) (a : Actor) → p a ≡ true
    → position_or_len p (if b then actors else actors ++ a ∷ []) ≡ position_or_len p actors
place-new p true actors a is = refl
place-new p false actors a is = place-end p actors a is

-- who acts has the number that is next, or the one that it had
pub actor_number-own : (actors : List Actor) (a : Actor) → actor_number (with_actor actors a) a ≡ actor_number actors a
unfolding with_actor actor_number
actor_number-own actors a = ap (λ n. n + 1) (place-new (is_same_actor a) (list_any (is_same_actor a) actors) actors a
    (is_same_actor-itself a))
