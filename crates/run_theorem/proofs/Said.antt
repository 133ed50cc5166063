-- What all answers and all reports of phases say.
use Rattle.std.proofs.Common.{◌≡◌, ℕ, suc, ◌<◌, Bool, true, false, ◌||◌, cond, List, [], ◌∷◌, length, get_or, Option, Some, None, Result, Ok, Err, refl, sym, subst, arith, ⊎_elim}
use Rattle.std.proofs.lemmas.Bool.{false≢true}
use Rattle.std.specs.Prelude.{All}
use Rattle.std.specs.List.{Contains, flat_map, slice_get}
use Rattle.std.specs.Option.{option_to_list}
use Rattle.std.proofs.lemmas.List.Elements.{All-append, All-cons, All-head, All-nil, All-tail, Contains-append_cases}
use Rattle.std.proofs.lemmas.Option.{slice_get-get_or, slice_get_within}
use Rattle.bbs_model.specs.declared.command.Command.{Command}
use Rattle.bbs_model.specs.declared.item.Item.{Item}
use Rattle.bbs_model.specs.declared.reply.CallFault.{CallFault}
use Rattle.bbs_model.specs.declared.reply.CallFault.TheVariants as fault
use Rattle.bbs_model.specs.declared.reply.Reply.{Reply}
use Rattle.bbs_model.specs.declared.reply.Reply.TheVariants as reply
use Rattle.bbs_model.specs.declared.rows.Rows.{Rows}
use Rattle.converge_laws.proofs.Public.{first_or_rest, inside_first, inside_rest}
use Rattle.convergence.specs.declared.report.Report.{Report}
use Rattle.converge_round.specs.Each.{Each}
use Rattle.round_theorem.specs.Complete.{IsComplete}
use Rattle.scenario_lines.specs.declared.answered.Answered.{Answered}
use Rattle.scenario_lines.specs.declared.script.Phase.{Phase}
use Rattle.scenario_lines.specs.declared.script.RoundLine.{RoundLine}
use Rattle.scenario_lines.specs.declared.script.Script.{Script}
use Rattle.phase_actors.specs.Runs.{is_starved_end}
use Rattle.phase_actors.specs.Turns.{is_any_unfed}
use Rattle.phase_actors.specs.declared.actor_state.ActorState.{ActorState}
use Rattle.phase_text.specs.Sorting.{by_line, is_earlier_line, joined_parts, sorted_by, with_placed}
use Rattle.run_theorem.specs.Answers.{board_answer, IsServedIf, IsServedWhereLegal, IsTrueOf, TellsIf}
use Rattle.run_theorem.specs.Headline.{HasConverged}
use Rattle.run_theorem.specs.Phases.{ActorAgrees, Point, PhaseAgrees, RoundAgreesIf}

module _ {X : Type 0} (P : X → Type 0) (before : X → X → Bool) where
  all_placed : (x : X) (ys : List X) → P x → All P ys → All P (with_placed before x ys)
  all_placed x [] p all = All-cons P x [] p all
  all_placed x (y ∷ ys) p all =
      elim (before y x) as (λ b. All P (cond b (y ∷ with_placed before x ys) (x ∷ y ∷ ys))) [
        | true ↦ All-cons P y (with_placed before x ys) (All-head P y ys all) (all_placed x ys p (All-tail P y ys all))
        | false ↦ All-cons P x (y ∷ ys) p all
      ]

  -- what holds of each holds of each in order
  all_sorted : (xs : List X) → All P xs → All P (sorted_by before xs)
  all_sorted [] all = all
  all_sorted (x ∷ xs) all = all_placed x (sorted_by before xs) (All-head P x xs all)
      (all_sorted xs (All-tail P x xs all))

  all_joined : (parts : List (List X)) → ((k : ℕ) (p : List X) → slice_get parts k ≡ Some p → All P p)
      → All P (flat_map (λ (part : List X). part) parts)
  all_joined [] each = All-nil P
  all_joined (p ∷ parts) each =
      All-append P p (flat_map (λ (part : List X). part) parts) (each 0 p refl)
      (all_joined parts (λ k q is. each (suc k) q is))

some_actor : (xs : List ActorState) (k : ℕ) → k < length xs → ActorState
some_actor [] k within = absurd (omega (arith, within))
some_actor (x ∷ xs) k within = x

module _ (base : Rows) (log : List Item) where
  -- what holds of each answer of each actor holds of each answer of the phase
  pub all_parts : (P : Answered → Type 0) (phase : Phase) (s t : Point) (agrees : PhaseAgrees base log phase s t)
      → ((by : ℕ) (a a' : ActorState) (answers : List Answered)
      → ActorAgrees base log phase s.place t.place by a a' answers → All P answers)
      → All P (by_line agrees.parts)
  all_parts P phase s t agrees each_part =
      all_sorted P is_earlier_line (joined_parts agrees.parts) (all_joined P is_earlier_line agrees.parts of_part)
    where
      of_part : (k : ℕ) (p : List Answered) → slice_get agrees.parts k ≡ Some p → All P p
      of_part k p is =
          let within : k < length s.actors = omega (arith, slice_get_within agrees.parts k p is, agrees.count_is) in
          let a : ActorState = some_actor s.actors k within in
          each_part (suc k) (get_or s.actors k a) (get_or agrees.mids k a) p
          (agrees.actors k (get_or s.actors k a) (get_or agrees.mids k a) p (slice_get-get_or s.actors k a within)
          (slice_get-get_or agrees.mids k a (omega (arith, within, agrees.same.length_is))) is)

  -- what holds of each answer of a phase, if it holds of each of those before it
  module _ (P : Answered → Type 0)
      (each_part : (phase : Phase) (from upto by : ℕ) (a a' : ActorState) (answers : List Answered)
      → ActorAgrees base log phase from upto by a a' answers → All P answers) where
    all_phase : (phase : Phase) (s t : Point) → PhaseAgrees base log phase s t → All P s.answers → All P t.answers
    all_phase phase s t agrees all =
        subst (All P) (sym agrees.answers)
        (All-append P s.answers (by_line agrees.parts) all
        (all_parts P phase s t agrees (each_part phase s.place t.place)))

    all_phases : (phases : List Phase) (s t : Point) → Each (PhaseAgrees base log) phases s t → All P s.answers
        → All P t.answers
    all_phases [] s t same all = subst (λ (m : Point). All P m.answers) (sym same) all
    all_phases (phase ∷ phases) s t (m, agrees, others) all =
        all_phases phases m t others (all_phase phase s m agrees all)

  -- the answers are true
  pub true_phases : (phases : List Phase) (s t : Point) → Each (PhaseAgrees base log) phases s t
      → All (IsTrueOf base log) s.answers
      → All (IsTrueOf base log) t.answers
  true_phases phases s t each all = all_phases (IsTrueOf base log)
      (λ phase from upto by a a' answers agrees. agrees.replies) phases s t each all

  all_fed : (answers : List Answered) → is_any_unfed answers ≡ false
      → All (λ (a : Answered). is_starved_end a.end ≡ false) answers
  all_fed [] none = All-nil (λ (a : Answered). is_starved_end a.end ≡ false)
  all_fed (a ∷ answers) none =
      elim (is_starved_end a.end) as (λ b. is_starved_end a.end ≡ b → (b || is_any_unfed answers) ≡ false
      → All (λ (x : Answered). is_starved_end x.end ≡ false) (a ∷ answers)) [
        | true ↦ λ is no. absurd (false≢true (sym no))
        | false ↦ λ is no. All-cons (λ (x : Answered). is_starved_end x.end ≡ false) a answers is (all_fed answers no)
      ] refl none

  -- and none wants memory
  pub fed_phases : (phases : List Phase) (s t : Point) → Each (PhaseAgrees base log) phases s t
      → All (λ (a : Answered). is_starved_end a.end ≡ false) s.answers
      → All (λ (a : Answered). is_starved_end a.end ≡ false) t.answers
  fed_phases phases s t each all =
      all_phases (λ (a : Answered). is_starved_end a.end ≡ false)
      (λ phase from upto by a a' answers agrees. all_fed answers agrees.fed) phases s t each all

  -- a command that was legal was served where the answer is true
  served : (by : ℕ) (command : Option Command) (answer : Option (Result Reply CallFault))
      → TellsIf base log by command answer → IsServedIf base log by command answer
  served by None None tells = tt
  served by (Some c) None tells = tt
  served by None (Some answer) tells = absurd tells
  served by (Some c) (Some (Ok (reply.Ok place stamp))) tells = λ legal. tells.0
  served by (Some c) (Some (Ok (reply.Same place))) tells = λ legal. cc (legal, tells.verdict_is)
  served by (Some c) (Some (Ok (reply.Refused why place))) tells = λ legal. cc (legal, tells.verdict_is)
  served by (Some c) (Some (Err (fault.Disk place))) tells = λ legal. tells.0
  served by (Some c) (Some (Err fault.OutOfMemory)) tells = λ legal. tt

  pub served_where_legal : (a : Answered) → IsTrueOf base log a → IsServedWhereLegal base log a
  served_where_legal a tells = served a.actor a.command (board_answer a.end) tells

  module _ (script : Script) where
    -- the report of a phase
    new_report : (phase : Phase) → Contains script.phases phase → (round : Option RoundLine) → phase.round ≡ round
        → (from upto : ℕ) (mids news : List ActorState) (report : Option Report)
        → RoundAgreesIf round base log phase.at from upto mids news report
        → (r : Report) → Contains (option_to_list report) r → IsComplete r → HasConverged script base log r
    new_report phase among None is from upto mids news report agrees r inside complete =
        absurd (nobody (subst (λ (o : Option Report). Contains (option_to_list o) r) agrees.2 inside))
      where
        nobody : Contains [] r → ⊥
        nobody h = omega (arith, h.1)
    new_report phase among (Some line) is from upto mids news None agrees r inside complete =
        absurd (omega (arith, inside.1))
    new_report phase among (Some line) is from upto mids news (Some q) agrees r inside complete =
        ⊎_elim
        (λ (same : q ≡ r).
        subst (HasConverged script base log) same
        (record {
          phase = phase;
          among = among;
          line = line;
          round = is;
          line_is = agrees.reported.line_is;
          converged = agrees.reported.complete (subst IsComplete (sym same) complete);
        }))
        (λ (none : Contains [] r). absurd (omega (arith, none.1)))
        (first_or_rest r q [] inside)

    pub reports_converge : (phases : List Phase) (s t : Point)
        → ((p : Phase) → Contains phases p → Contains script.phases p)
        → Each (PhaseAgrees base log) phases s t → ((r : Report) → Contains s.reports r → IsComplete r
        → HasConverged script base log r)
        → (r : Report) → Contains t.reports r → IsComplete r → HasConverged script base log r
    reports_converge [] s t among same all = λ r inside. all r (subst (λ (m : Point). Contains m.reports r) same inside)
    reports_converge (phase ∷ phases) s t among (m, agrees, others) all =
        reports_converge phases m t (λ p inside. among p (inside_rest p phase phases inside)) others
        (λ r inside complete.
        ⊎_elim
        (λ (old : Contains s.reports r). all r old complete)
        (λ (new : Contains (option_to_list agrees.report) r).
        new_report phase (among phase (inside_first phase phases)) phase.round refl s.place m.place agrees.mids m.actors
        agrees.report agrees.round r new complete)
        (Contains-append_cases s.reports (option_to_list agrees.report) r
        (subst (λ (xs : List Report). Contains xs r) agrees.reports inside)))
