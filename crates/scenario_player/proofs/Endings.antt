-- A whole run, by where its phases stop and what came of its summary.
use Rattle.std.proofs.Common.{◌≡◌, ◌⊎◌, inl, inr, ℕ, true, false, List, [], ◌++◌, length, Option, refl, sym, ap, subst, ◌∙◌}
use Rattle.disk_trait.specs.Past.{Past}
use Rattle.bbs_board.specs.Doubts.{doubts_in}
use Rattle.bbs_board.specs.View.{View}
use Rattle.convergence.specs.declared.report.Report.{Report}
use Rattle.record_print.specs.Printed.{line_text, summary_data}
use Rattle.scenario_lines.specs.declared.answered.Answered.{Answered}
use Rattle.scenario_lines.specs.declared.script.Script.{Script}
use Rattle.program_ends.specs.Ports.{PrintsTo}
use Rattle.program_ends.specs.declared.ending.Ending.{Ending}
use Rattle.program_ends.specs.declared.ending.Ending.TheVariants as ending
use Rattle.scenario_player.specs.Courses.{beginning}
use Rattle.scenario_player.specs.Kept.{KeptSoFar}
use Rattle.scenario_player.specs.Plays.{EndsAt, IsPlayedOut, Plays, PlaysCut, PlaysPart}
use Rattle.scenario_player.specs.Plays.{PlaysUnsummed, PlaysWhole, PrintsPart, summary_of, summary_words}
use Rattle.scenario_player.specs.Wordings.{Wording}
use Rattle.scenario_player.specs.Tellings.{EndsBehind, Finishes, PhasesEnd, PhasesStop}
use Rattle.scenario_player.proofs.Prints.{part_behind, prints_as, prints_none, prints_then}

module _ {D : Type 0} (told : D → Option Past) (wording : Wording) (script : Script) (v w : View D) (kept : KeptSoFar)
    (held : Option (List ℕ)) (faults : ℕ) where
  module _ (how : Ending) (mid : Option (List ℕ)) (more : ℕ)
      (stops : PhasesStop told wording script how v w kept held mid faults more)
      (same : w ≡ stops.last.board) (printed : PrintsTo true stops.last.text held mid faults more)
      (held' : Option (List ℕ)) (faults' : ℕ) where
    abbrev line : List ℕ
    line = line_text (summary_data (summary_of w kept.phases))

    line_is : line ≡ summary_words stops.last (length stops.ran)
    line_is =
        ap (λ (u : View D). line_text (summary_data (summary_of u kept.phases))) same
        ∙ ap (λ (n : ℕ). line_text (summary_data (summary_of stops.last.board n))) stops.kept_is.phases

    ends : EndsAt told wording script kept.answers kept.reports v w stops.ran stops.rest stops.last
    ends = record {
      first = stops.first;
      board = same;
      answers_are = stops.kept_is.answers;
      reports_are = stops.kept_is.reports;
    }

    -- the summary was printed
    whole : IsPlayedOut how stops.rest (doubts_in w.log) → PrintsTo true line mid held' more faults'
        → PlaysWhole told wording script how kept.answers kept.reports v w held held' faults faults'
    whole over last = record {
      ran = stops.ran;
      rest = stops.rest;
      last = stops.last;
      ends = ends;
      over = over;
      prints = subst (λ (xs : List ℕ). PrintsTo true (stops.last.text ++ xs) held held' faults faults') line_is
          (prints_then true stops.last.text line held mid held' faults more faults' printed last);
    }

    -- the sink failed in it
    unsummed : IsPlayedOut ending.Done stops.rest (doubts_in w.log)
        ⊎ IsPlayedOut ending.Doubt stops.rest (doubts_in w.log)
        → PrintsTo false line mid held' more faults'
        → PlaysUnsummed told wording script kept.answers kept.reports v w held held' faults faults'
    unsummed over last = record {
      ran = stops.ran;
      rest = stops.rest;
      last = stops.last;
      ends = ends;
      over = over;
      prints = subst (λ (xs : List ℕ). PrintsPart stops.last.text xs held held' faults faults') line_is
          (part_behind stops.last.text line held mid held' faults more faults' printed last);
    }

    -- it wanted memory
    wanting : held' ≡ mid → faults' ≡ more → PlaysCut told wording script kept.answers kept.reports v w held held'
        faults faults'
    wanting same_held same_faults = record {
      ran = stops.ran;
      rest = stops.rest;
      last = stops.last;
      first = stops.first;
      board = inl same;
      answers_are = stops.kept_is.answers;
      reports_are = stops.kept_is.reports;
      prints = prints_as true stops.last.text held mid held' faults more faults' printed same_held same_faults;
    }

    -- so the run ends, where its text up to the summary was printed whole
    behind_text : (how' : Ending) → IsPlayedOut ending.Done stops.rest (doubts_in w.log)
        ⊎ IsPlayedOut ending.Doubt stops.rest (doubts_in w.log)
        → (PrintsTo true line mid held' more faults' → Plays told wording script how kept.answers kept.reports v w held
        held' faults faults')
        → EndsBehind how how' line mid held' more faults' → Plays told wording script how' kept.answers kept.reports v w
        held held' faults faults'
    behind_text how' over done (inl (is, last)) =
        subst (λ (e : Ending). Plays told wording script e kept.answers kept.reports v w held held' faults faults')
        (sym is) (done last)
    behind_text how' over done (inr (inl (is, last))) =
        subst (λ (e : Ending). Plays told wording script e kept.answers kept.reports v w held held' faults faults')
        (sym is) (inr (unsummed over last))
    behind_text how' over done (inr (inr (is, still))) =
        subst (λ (e : Ending). Plays told wording script e kept.answers kept.reports v w held held' faults faults')
        (sym is) (wanting still.0 still.1)

  module _ (mid : Option (List ℕ)) (more : ℕ) (how' : Ending) (held' : Option (List ℕ)) (faults' : ℕ) where
    done_plays : PhasesStop told wording script ending.Done v w kept held mid faults more
        → Finishes ending.Done how' w kept.phases mid held' more faults'
        → Plays told wording script how' kept.answers kept.reports v w held held' faults faults'
    done_plays stops last =
        behind_text ending.Done mid more stops stops.stops.0 stops.stops.1.1.1 held' faults' how'
        (inl (stops.stops.1.0, stops.stops.1.1.0))
        (whole ending.Done mid more stops stops.stops.0 stops.stops.1.1.1 held' faults'
        (stops.stops.1.0, stops.stops.1.1.0)) last

    doubt_plays : PhasesStop told wording script ending.Doubt v w kept held mid faults more
        → Finishes ending.Doubt how' w kept.phases mid held' more faults'
        → Plays told wording script how' kept.answers kept.reports v w held held' faults faults'
    doubt_plays stops last =
        behind_text ending.Doubt mid more stops stops.stops.0 stops.stops.1.1 held' faults' how' (inr stops.stops.1.0)
        (whole ending.Doubt mid more stops stops.stops.0 stops.stops.1.1 held' faults' stops.stops.1.0) last

    part_plays : PlaysPart told wording script kept.answers kept.reports v w held mid faults more
        → Finishes ending.Unwritten how' w kept.phases mid held' more faults'
        → Plays told wording script how' kept.answers kept.reports v w held held' faults faults'
    part_plays part last =
        subst (λ (e : Ending). Plays told wording script e kept.answers kept.reports v w held held' faults faults')
        (sym last.0)
        (inl (subst (λ (h : Option (List ℕ)). PlaysPart told wording script kept.answers kept.reports v w held h faults
        faults') (sym last.1.0)
        (subst (λ (n : ℕ). PlaysPart told wording script kept.answers kept.reports v w held mid faults n)
        (sym last.1.1) part)))

    cut_plays : PhasesStop told wording script ending.OutOfMemory v w kept held mid faults more
        → Finishes ending.OutOfMemory how' w kept.phases mid held' more faults'
        → Plays told wording script how' kept.answers kept.reports v w held held' faults faults'
    cut_plays stops last =
        subst (λ (e : Ending). Plays told wording script e kept.answers kept.reports v w held held' faults faults')
        (sym last.0)
        (record {
          ran = stops.ran;
          rest = stops.rest;
          last = stops.last;
          first = stops.first;
          board = inr stops.stops.0;
          answers_are = stops.kept_is.answers;
          reports_are = stops.kept_is.reports;
          prints = prints_as true stops.last.text held mid held' faults more faults' stops.stops.1 last.1.0 last.1.1;
        })

    -- how the whole run ends
    pub plays : (how : Ending) → PhasesEnd told wording script how v w kept held mid faults more
        → Finishes how how' w kept.phases mid held' more faults'
        → Plays told wording script how' kept.answers kept.reports v w held held' faults faults'
    plays ending.Done ends last = done_plays ends last
    plays ending.Doubt ends last = doubt_plays ends last
    plays ending.Unwritten ends last = part_plays ends last
    plays ending.OutOfMemory ends last = cut_plays ends last
    plays ending.Usage ends last = absurd ends.stops
    plays (ending.Script why) ends last = absurd ends.stops
    plays ending.Read ends last = absurd ends.stops
    plays ending.Unopened ends last = absurd ends.stops
    plays (ending.NotABoard area) ends last = absurd ends.stops
    plays (ending.Damaged area at) ends last = absurd ends.stops
    plays ending.TooLong ends last = absurd ends.stops
    plays ending.Exists ends last = absurd ends.stops

-- there was no memory for the actors
pub no_actors : {D : Type 0} (told : D → Option Past) (wording : Wording) (script : Script) (v : View D)
    (answers : List Answered) (reports : List Report)
    (held : Option (List ℕ)) (faults : ℕ) → answers ≡ [] → reports ≡ []
    → Plays told wording script ending.OutOfMemory answers reports v v held held faults faults
no_actors told wording script v answers reports held faults no_answers no_reports = record {
  ran = [];
  rest = script.phases;
  last = beginning script v;
  first = record { split = refl; each = refl };
  board = inl refl;
  answers_are = no_answers;
  reports_are = no_reports;
  prints = prints_none held faults;
}

-- the same of what is equal
pub plays_as : {D : Type 0} (told : D → Option Past) (wording : Wording) (script : Script) (how how' : Ending)
    (answers answers' : List Answered)
    (reports reports' : List Report) (v w w' : View D) (held held' mid : Option (List ℕ)) (faults faults' more : ℕ)
    → how ≡ how'
    → answers ≡ answers' → reports ≡ reports' → w ≡ w' → held' ≡ mid → faults' ≡ more
    → Plays told wording script how' answers' reports' v w' held mid faults more
    → Plays told wording script how answers reports v w held held' faults faults'
plays_as {D = D} told wording script how how' answers answers' reports reports' v w w' held held' mid faults faults'
    more a b c d e f is =
    subst (λ (x : Ending). Plays told wording script x answers reports v w held held' faults faults') (sym a)
    (subst (λ (x : List Answered). Plays told wording script how' x reports v w held held' faults faults') (sym b)
    (subst (λ (x : List Report). Plays told wording script how' answers' x v w held held' faults faults') (sym c)
    (subst (λ (x : View D). Plays told wording script how' answers' reports' v x held held' faults faults') (sym d)
    (subst (λ (x : Option (List ℕ)). Plays told wording script how' answers' reports' v w' held x faults faults')
    (sym e)
    (subst (λ (x : ℕ). Plays told wording script how' answers' reports' v w' held mid faults x) (sym f) is)))))
