-- The phases so far, each of which ran whole and met no fault of the disk or the sink.
use Rattle.std.proofs.Common.{◌≡◌, ◌≢◌, ℕ, ◌+◌, ◌<◌, ◌≤◌, true, List, [], ◌∷◌, ◌++◌}
use Rattle.std.proofs.Common.{length, take, drop, get_or, Option, refl, sym, ap, ◌∙◌, arith}
use Rattle.std.proofs.lemmas.List.{append-nil, drop_more, length-take-le, take-append-drop, take_all}
use Rattle.disk_trait.specs.Past.{Past}
use Rattle.bbs_board.specs.Doubts.{doubts_in}
use Rattle.bbs_board.specs.View.{View}
use Rattle.scenario_lines.specs.declared.script.Phase.{Phase}
use Rattle.scenario_lines.specs.declared.script.Script.{Script}
use Rattle.phase_actors.specs.declared.actor_state.ActorState.{ActorState}
use Rattle.converge_round.specs.Each.{Each}
use Rattle.phase_runs.specs.Actors.{AreSameActors}
use Rattle.phase_runs.proofs.Public.{same_as, same_then}
use Rattle.program_ends.specs.Ports.{PrintsTo}
use Rattle.program_ends.specs.declared.ending.Ending.{Ending}
use Rattle.program_ends.specs.declared.ending.Ending.TheVariants as ending
use Rattle.scenario_player.specs.Actors.{starting_actors}
use Rattle.scenario_player.specs.Courses.{beginning, PlaysPhase}
use Rattle.scenario_player.specs.Kept.{KeptSoFar, nothing_kept}
use Rattle.scenario_player.specs.Plays.{PlaysPart, RanFirst}
use Rattle.scenario_player.specs.Wordings.{Wording}
use Rattle.scenario_player.specs.Tellings.{run_course, KeepsCourse, PhaseEnds, PhasesEnd, PhasesStop, TellsPhase}
use Rattle.scenario_player.proofs.Prints.{part_behind, prints_as, prints_none, prints_then}
use Rattle.scenario_player.proofs.Steps.{each_more}

-- so many phases ran, and their text was printed whole
pub record RanSo {D : Type 0} (told : D → Option Past) (wording : Wording) (script : Script) (count : ℕ)
    (actors : List ActorState) (v w : View D) (kept : KeptSoFar)
    (held held' : Option (List ℕ)) (faults faults' : ℕ) : Type 0 where
  pub text : List ℕ
  pub each : Each (PlaysPhase told wording script) (take count script.phases) (beginning script v)
      (run_course actors w kept text)
  pub prints : PrintsTo true text held held' faults faults'
  pub same : AreSameActors (starting_actors script.actors) actors
  pub counted : kept.phases ≡ count

-- and the next one may run
pub record IsSoFar {D : Type 0} (told : D → Option Past) (wording : Wording) (script : Script) (count : ℕ)
    (actors : List ActorState) (v w : View D) (kept : KeptSoFar)
    (held held' : Option (List ℕ)) (faults faults' : ℕ) : Type 0 where
  pub ran : RanSo told wording script count actors v w kept held held' faults faults'
  pub calm : doubts_in w.log ≡ 0

module _ {D : Type 0} (told : D → Option Past) (wording : Wording) (script : Script) (v : View D)
    (held : Option (List ℕ)) (faults : ℕ) where
  -- none ran
  pub none_so_far : (actors : List ActorState) (kept : KeptSoFar) → actors ≡ starting_actors script.actors
      → kept ≡ nothing_kept → v.log ≡ []
      → IsSoFar told wording script 0 actors v v kept held held faults faults
  none_so_far actors kept begin none fresh = record {
    ran = record {
      text = [];
      each =
          ap (λ (a : List ActorState). run_course a v kept []) begin
          ∙ ap (λ (k : KeptSoFar). run_course (starting_actors script.actors) v k []) none;
      prints = prints_none held faults;
      same = same_as (starting_actors script.actors) actors begin;
      counted = ap (λ (k : KeptSoFar). k.phases) none;
    };
    calm = ap doubts_in fresh;
  }

  module _ (count : ℕ) (olds : List ActorState) (m : View D) (kept : KeptSoFar) (mid : Option (List ℕ)) (more : ℕ)
      (so_far : IsSoFar told wording script count olds v m kept held mid faults more)
      (phase : Phase) (within : count < length script.phases) (is : phase ≡ get_or script.phases count phase)
      (news : List ActorState) (w : View D) (kept' : KeptSoFar) (held' : Option (List ℕ)) (faults' : ℕ) where
    -- one more
    one_more : TellsPhase told wording script phase true olds news m w kept kept' mid held' more faults'
        → RanSo told wording script (count + 1) news v w kept' held held' faults faults'
    one_more tells = record {
      text = so_far.ran.text ++ tells.text;
      each = each_more (PlaysPhase told wording script) script.phases count phase (beginning script v)
          (run_course olds m kept so_far.ran.text)
          (run_course news w kept' (so_far.ran.text ++ tells.text)) within is so_far.ran.each
          (tells.is_told so_far.ran.text);
      prints = prints_then true so_far.ran.text tells.text held mid held' faults more faults' so_far.ran.prints
          tells.prints;
      same = same_then (starting_actors script.actors) olds news so_far.ran.same (tells.is_told []).ran.kept;
      counted = tells.counted ∙ ap (λ (n : ℕ). n + 1) so_far.ran.counted;
    }

    -- it ran and met no fault
    pub so_far_more : PhaseEnds told wording script phase ending.Done olds news m w kept kept' mid held' more faults'
        → IsSoFar told wording script (count + 1) news v w kept' held held' faults faults'
    so_far_more ends = record { ran = one_more ends.1; calm = ends.0 }

    first_of : (ran : RanSo told wording script (count + 1) news v w kept' held held' faults faults')
        → RanFirst told wording script v (take (count + 1) script.phases) (drop (count + 1) script.phases)
        (run_course news w kept' ran.text)
    first_of ran = record { split = sym (take-append-drop (count + 1) script.phases); each = ran.each }

    kept_of : (ran : RanSo told wording script (count + 1) news v w kept' held held' faults faults')
        → KeepsCourse kept' (run_course news w kept' ran.text) (length (take (count + 1) script.phases))
    kept_of ran = record {
      answers = refl;
      reports = refl;
      phases = ran.counted ∙ sym (length-take-le (count + 1) script.phases (omega (arith, within)));
    }

    -- it ran and the disk failed in it
    doubt_ends : PhaseEnds told wording script phase ending.Doubt olds news m w kept kept' mid held' more faults'
        → PhasesStop told wording script ending.Doubt v w kept' held held' faults faults'
    doubt_ends ends = record {
      ran = take (count + 1) script.phases;
      rest = drop (count + 1) script.phases;
      last = run_course news w kept' (one_more ends.1).text;
      first = first_of (one_more ends.1);
      kept_is = kept_of (one_more ends.1);
      stops = (refl, (ends.0, (one_more ends.1).prints));
    }

    next : drop count script.phases ≡ phase ∷ drop (count + 1) script.phases
    next = drop_more script.phases count phase within ∙ ap (λ (p : Phase). p ∷ drop (count + 1) script.phases) (sym is)

    -- it ran and its text was printed in part
    part_ends : PhaseEnds told wording script phase ending.Unwritten olds news m w kept kept' mid held' more faults'
        → PlaysPart told wording script kept'.answers kept'.reports v w held held' faults faults'
    part_ends ends = record {
      ran = take count script.phases;
      phase = phase;
      rest = drop (count + 1) script.phases;
      before = run_course olds m kept so_far.ran.text;
      last = run_course news w kept' (so_far.ran.text ++ ends.text);
      first = record {
        split = sym (take-append-drop count script.phases) ∙ ap
            (λ (xs : List Phase). take count script.phases ++ xs) next;
        each = so_far.ran.each;
      };
      plays = ends.is_told so_far.ran.text;
      board = refl;
      answers_are = refl;
      reports_are = refl;
      words = ends.text;
      words_are = refl;
      prints = part_behind so_far.ran.text ends.text held mid held' faults more faults' so_far.ran.prints ends.prints;
    }

    -- it is untold
    untold_ends : PhaseEnds told wording script phase ending.OutOfMemory olds news m w kept kept' mid held' more faults'
        → PhasesStop told wording script ending.OutOfMemory v w kept' held held' faults faults'
    untold_ends ends = record {
      ran = take count script.phases;
      rest = drop count script.phases;
      last = run_course olds m kept so_far.ran.text;
      first = record { split = sym (take-append-drop count script.phases); each = so_far.ran.each };
      kept_is = record {
        answers = ap (λ (k : KeptSoFar). k.answers) ends.0;
        reports = ap (λ (k : KeptSoFar). k.reports) ends.0;
        phases = ap (λ (k : KeptSoFar). k.phases) ends.0 ∙ so_far.ran.counted ∙ sym
            (length-take-le count script.phases (omega (arith, within)));
      };
      stops = (
        record {
          calm = so_far.calm;
          phase = phase;
          more = drop (count + 1) script.phases;
          split = next;
          untold = ends.1.1.1;
        },
        prints_as true so_far.ran.text held mid held' faults more faults' so_far.ran.prints ends.1.0 ends.1.1.0,
      );
    }

    -- so the phases end, where the next one may not run
    pub phases_end : (how : Ending) → how ≢ ending.Done → PhaseEnds told wording script phase how olds news m w kept
        kept' mid held' more faults'
        → PhasesEnd told wording script how v w kept' held held' faults faults'
    phases_end ending.Done other ends = absurd (other refl)
    phases_end ending.Doubt other ends = doubt_ends ends
    phases_end ending.Unwritten other ends = part_ends ends
    phases_end ending.OutOfMemory other ends = untold_ends ends
    phases_end ending.Usage other ends = absurd ends
    phases_end (ending.Script why) other ends = absurd ends
    phases_end ending.Read other ends = absurd ends
    phases_end ending.Unopened other ends = absurd ends
    phases_end (ending.NotABoard area) other ends = absurd ends
    phases_end (ending.Damaged area at) other ends = absurd ends
    phases_end ending.TooLong other ends = absurd ends
    phases_end ending.Exists other ends = absurd ends

  -- all phases ran
  pub all_ran : (count : ℕ) (news : List ActorState) (w : View D) (kept : KeptSoFar) (held' : Option (List ℕ))
      (faults' : ℕ)
      → length script.phases ≤ count
      → count ≤ length script.phases → IsSoFar told wording script count news v w kept held held' faults faults'
      → PhasesEnd told wording script ending.Done v w kept held held' faults faults'
  all_ran count news w kept held' faults' end within so_far = record {
    ran = take count script.phases;
    rest = [];
    last = run_course news w kept so_far.ran.text;
    first = record {
      split = sym (take_all count script.phases end) ∙ sym (append-nil (take count script.phases));
      each = so_far.ran.each;
    };
    kept_is = record {
      answers = refl;
      reports = refl;
      phases = so_far.ran.counted ∙ sym (length-take-le count script.phases within);
    };
    stops = (refl, (refl, (so_far.calm, so_far.ran.prints)));
  }
