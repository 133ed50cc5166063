-- The phases of lines stay when another actor comes.
use Rattle.std.proofs.Common.{◌≡◌, ℕ, if◌then◌else◌, List, [], ◌∷◌, ◌++◌, Some, refl, ap}
use Rattle.std.specs.List.{cons_option}
use Rattle.scenario_lines.specs.declared.actor.Actor.{Actor}
use Rattle.scenario_lines.specs.declared.content.Content.{Content}
use Rattle.scenario_lines.specs.declared.content.Content.TheVariants.{Phase as At, Acts, Round}
use Rattle.scenario_reader.specs.Actors.{with_acting}
use Rattle.scenario_reader.specs.Phases.{act_on, acts_in, begun_by, phases_of, round_in, until_at}
use Rattle.scenario_reader.specs.Said.{SaidLine, is_at}
use Rattle.scenario_reader.proofs.ActorNumbers.{AreKnown, IsKnown, actor_number-kept}

-- the numbers of known actors are the same among these and those
abbrev pub SameNumbers : List Actor → List Actor → Type 0
SameNumbers actors others = (c : Content) (line : ℕ) → IsKnown actors c → act_on others line c ≡ act_on actors line c

same-acting : (actors : List Actor) (c : Content) → SameNumbers actors (with_acting actors c)
same-acting actors (At at) c line known = refl
same-acting actors (Acts act) (At at) line known = refl
same-acting actors (Acts act) (Acts other) line known =
    ap (λ (n : ℕ). Some (record { line = line; actor = n; act = other.act; lost = other.lost; times = other.times }))
    (actor_number-kept actors other.actor act.actor known)
same-acting actors (Acts act) (Round losses) line known = refl
same-acting actors (Round losses) c line known = refl

known-until : (actors : List Actor) (lines : List SaidLine) → AreKnown actors lines → AreKnown actors (until_at lines)
known-until actors [] known = tt
known-until actors (said ∷ more) known =
    elim said.content as (λ c. AreKnown actors (if is_at c then [] else said ∷ until_at more)) [
      | At at ↦ tt
      | Acts act ↦ (known.0, known-until actors more known.1)
      | Round losses ↦ (known.0, known-until actors more known.1)
    ]

acts-kept : (actors others : List Actor) (lines : List SaidLine) → SameNumbers actors others → AreKnown actors lines
    → acts_in others lines ≡ acts_in actors lines
acts-kept actors others [] same known = refl
acts-kept actors others (said ∷ more) same known =
    λ i. cons_option (same said.content said.line known.0 i) (acts-kept actors others more same known.1 i)

kept : (actors others : List Actor) (lines : List SaidLine) → SameNumbers actors others → AreKnown actors lines
    → phases_of others lines ≡ phases_of actors lines
kept actors others [] same known = refl
kept actors others (said ∷ more) same known =
    elim said.content as (λ c. begun_by others c more ++ phases_of others more ≡ begun_by actors c more
    ++ phases_of actors more) [
      | At at ↦ λ i. record {
        at = at;
        lines = acts-kept actors others (until_at more) same
            (known-until actors more known.1) i;
        round = round_in (until_at more);
      }
          ∷ kept actors others more same known.1 i
      | Acts act ↦ kept actors others more same known.1
      | Round losses ↦ kept actors others more same known.1
    ]

-- the phases of lines stay when an actor acts on one more
pub phases_of-kept : (actors : List Actor) (lines : List SaidLine) (c : Content) → AreKnown actors lines
    → phases_of (with_acting actors c) lines ≡ phases_of actors lines
phases_of-kept actors lines c known = kept actors (with_acting actors c) lines (same-acting actors c) known
