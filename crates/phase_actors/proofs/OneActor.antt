-- An actor stays the client or the cell that it is.
use Rattle.std.proofs.Common.{refl, ◌∙◌}
use Rattle.scenario_lines.specs.declared.act.Act.{Act}
use Rattle.scenario_lines.specs.declared.act.Act.TheVariants as act
use Rattle.phase_actors.specs.Runs.{IsActOf, IsOneActor}
use Rattle.phase_actors.specs.declared.actor_state.ActorState.{ActorState}
use Rattle.phase_actors.specs.declared.actor_state.ActorState.TheVariants as actor

pub one_same : (a : ActorState) → IsOneActor a a
one_same (actor.Client name) = refl
one_same (actor.Cell rep) = refl

pub one_then : (a b c : ActorState) → IsOneActor a b → IsOneActor b c → IsOneActor a c
one_then (actor.Client name) (actor.Client n') (actor.Client n'') p q = q ∙ p
one_then (actor.Client name) (actor.Client n') (actor.Cell rep) p q = q
one_then (actor.Client name) (actor.Cell rep) c p q = absurd p
one_then (actor.Cell rep) (actor.Client name) c p q = absurd p
one_then (actor.Cell rep) (actor.Cell r') (actor.Client name) p q = q
one_then (actor.Cell rep) (actor.Cell r') (actor.Cell r'') p q = q ∙ p

pub fits_on : (d : Act) (a b : ActorState) → IsOneActor a b → IsActOf d a → IsActOf d b
fits_on (act.Client op) (actor.Client name) (actor.Client n') p f = f
fits_on (act.Client op) (actor.Client name) (actor.Cell rep) p f = absurd p
fits_on (act.Client op) (actor.Cell rep) b p f = absurd f
fits_on (act.Cell done) (actor.Client name) b p f = absurd f
fits_on (act.Cell done) (actor.Cell rep) (actor.Client name) p f = absurd p
fits_on (act.Cell done) (actor.Cell rep) (actor.Cell r') p f = f
fits_on act.Evacuate (actor.Client name) b p f = absurd f
fits_on act.Evacuate (actor.Cell rep) (actor.Client name) p f = absurd p
fits_on act.Evacuate (actor.Cell rep) (actor.Cell r') p f = f
