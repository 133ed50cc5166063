-- Two clients can do the lines of clients.
use Rattle.std.proofs.Common.{◌≡◌, ℕ, zero, suc, ◌==◌, not, true, List, [], ◌∷◌, Some, refl, sym, subst, ◌∙◌}
use Rattle.std.specs.List.{Contains}
use Rattle.std.proofs.lemmas.List.Elements.{All-contains, All-filter}
use Rattle.std.proofs.lemmas.List.Sums.{AllPass-from_list_all}
use Rattle.scenario_lines.specs.Acts.{is_of_cell}
use Rattle.scenario_lines.specs.declared.act.Act.{Act}
use Rattle.scenario_lines.specs.declared.act.Act.TheVariants as act
use Rattle.scenario_lines.specs.declared.script.Line.{Line}
use Rattle.phase_actors.specs.Runs.{IsActOf}
use Rattle.phase_actors.specs.Turns.{lines_by}
use Rattle.phase_actors.specs.declared.actor_state.ActorState.TheVariants.{Client}
use Rattle.phase_runs.specs.Actors.{CanAllDo}
use Rattle.phase_runs.proofs.Public.{one_of}
use Rattle.phase_threads.specs.Clients.{are_of_clients}
use Rattle.phase_tests.proofs.tests.running.run_two.Goals as goal

client_can : (a : Act) (name : List ℕ) → not (is_of_cell a) ≡ true → IsActOf a (Client name)
client_can (act.Client op) name clients = tt
client_can (act.Cell c) name clients = cc (clients)
client_can act.Evacuate name clients = cc (clients)

of_client : (lines : List Line) → are_of_clients lines ≡ true → (by : ℕ) (l : Line) → Contains (lines_by by lines) l
    → not (is_of_cell l.act) ≡ true
of_client lines clients by l inside =
    All-contains (λ x. not (is_of_cell x.act) ≡ true) (lines_by by lines) l
    (All-filter (λ x. x.actor == by) (λ x. not (is_of_cell x.act) ≡ true) lines
    (AllPass-from_list_all (λ x. not (is_of_cell x.act)) lines clients)) inside

both_can : (lines : List Line) (n m : List ℕ) → are_of_clients lines ≡ true → CanAllDo lines (Client n ∷ Client m ∷ [])
both_can lines n m clients zero a is l inside =
    subst (IsActOf l.act) (one_of (Some (Client n)) (Client n) a refl is)
    (client_can l.act n (of_client lines clients 1 l inside))
both_can lines n m clients (suc zero) a is l inside =
    subst (IsActOf l.act) (one_of (Some (Client m)) (Client m) a refl is)
    (client_can l.act m (of_client lines clients 2 l inside))
both_can lines n m clients (suc (suc k)) a is l inside = cc (is)

pub run_phase-board-requires-clause-can : goal.run_phase-board-requires-clause-can
run_phase-board-requires-clause-can g c κs within =
    both_can c.args.phase.now.lines c.args.name c.args.name c.requires
