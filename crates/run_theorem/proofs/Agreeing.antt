-- A phase, by the log at its end and each longer one.
use Rattle.std.proofs.Common.{◌≡◌, ℕ, List, [], ◌++◌, length, refl, sym, subst, ◌∙◌}
use Rattle.std.specs.Prelude.{All}
use Rattle.std.specs.List.{flat_map}
use Rattle.std.proofs.lemmas.List.{append-nil, append_cancel_left}
use Rattle.bbs_model.specs.Calls.{by_number}
use Rattle.bbs_model.specs.PortView.{PortView}
use Rattle.bbs_model.specs.declared.item.Item.{Item}
use Rattle.bbs_model.specs.declared.rows.Rows.{Rows}
use Rattle.scenario_lines.specs.declared.answered.Answered.{Answered}
use Rattle.scenario_lines.specs.declared.script.Phase.{Phase}
use Rattle.phase_actors.specs.Turns.{turns_in}
use Rattle.phase_actors.specs.declared.actor_state.ActorState.{ActorState}
use Rattle.phase_runs.specs.Actors.{LogBegins, PartCut, PartRan, SeesPhase}
use Rattle.run_theorem.specs.Answers.{answer_items, IsTrueOf, LieBetween}
use Rattle.run_theorem.specs.Cuts.{ActorCut}
use Rattle.run_theorem.specs.Phases.{ActorAgrees, between}
use Rattle.run_theorem.proofs.Calls.{lie_wider, Says}
use Rattle.run_theorem.proofs.Turns.{did_first, did_turns}
use Rattle.run_theorem.proofs.Logs.{begins_then, begins_within}
use Rattle.run_theorem.proofs.Rounds.{its_items}

module _ (base : Rows) (before fresh log : List Item) (goes : LogBegins (before ++ fresh) log) (by : ℕ) where
  -- what an actor says of the phase's stretch
  record Fits (answers : List Answered) : Type 0 where
    items : by_number by (between (length before) (length (before ++ fresh)) log) ≡ flat_map answer_items answers
    places : LieBetween (length before) (length (before ++ fresh)) answers
    replies : All (IsTrueOf base log) answers

  fits : (answers : List Answered) (v w : PortView) → SeesPhase base before fresh by v w → Says answers v w
      → Fits answers
  fits answers v w sees says = record {
    items = its_items base before fresh log goes by ∙ append_cancel_left v.mine (by_number by fresh)
        (flat_map answer_items answers) (sym sees.own ∙ says.items);
    places =
        lie_wider (length before) (length v.seen) (length w.seen) (length (before ++ fresh)) answers
        (begins_within before v.seen sees.from)
        (begins_within w.seen (before ++ fresh) sees.upto) says.places;
    replies = subst (λ (r : Rows). All (IsTrueOf r log) answers) sees.base_is
        (says.replies log (begins_then w.seen (before ++ fresh) log sees.upto goes));
  }

  module _ (phase : Phase) (a : ActorState) where
    -- an actor that did all of its lines
    pub actor_agrees : (a' : ActorState) (answers : List Answered)
        → PartRan base phase.at phase.lines before fresh by a a' answers
        → ActorAgrees base log phase (length before) (length (before ++ fresh)) by a a' answers
    actor_agrees a' answers part =
        let did = did_turns by phase.at (turns_in by phase.lines) a part.first answers a' part.last part.taken in
        let it = fits answers part.first part.last part.sees did.says in
        record { did = did.does; fed = part.fed; items = it.items; places = it.places; replies = it.replies }

    -- one that did the first of them
    pub actor_cut : (a' : ActorState) → PartCut base phase.at phase.lines before fresh by a a'
        → ActorCut base log phase (length before) (length (before ++ fresh)) by a a'
    actor_cut a' part =
        let did = did_first by phase.at (turns_in by phase.lines) a part.first a' part.last part.cut in
        let it = fits did.answers part.first part.last part.sees did.says in
        record { answers = did.answers; did = did.does; items = it.items; places = it.places; replies = it.replies }

    -- one that did all of them may be one that was cut off
    pub actor_as_cut : (a' : ActorState) (answers : List Answered)
        → PartRan base phase.at phase.lines before fresh by a a' answers
        → ActorCut base log phase (length before) (length (before ++ fresh)) by a a'
    actor_as_cut a' answers part =
        let did = did_turns by phase.at (turns_in by phase.lines) a part.first answers a' part.last part.taken in
        let it = fits answers part.first part.last part.sees did.says in
        record {
          answers = answers;
          did = record {
            done = turns_in by phase.lines;
            rest = [];
            split = sym (append-nil (turns_in by phase.lines));
            first = answers;
            behind = [];
            answers_are = sym (append-nil answers);
            mid = a';
            did = did.does;
            cut = (refl, refl);
          };
          items = it.items;
          places = it.places;
          replies = it.replies;
        }
