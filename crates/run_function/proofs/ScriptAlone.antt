-- The run of a scenario whose phases are serial.
use Rattle.std.proofs.Common.{◌≡◌, ℕ, List, [], ◌∷◌, ◌++◌, length, true, Option, sym, ap, subst, ◌∙◌, arith, drop, ◌⊎◌, inl, inr, ⊎_elim, refl}
use Rattle.std.specs.List.{Contains}
use Rattle.std.proofs.lemmas.List.{append-nil}
use Rattle.byte_ports.specs.Cause.{Rose}
use Rattle.program_ends.specs.declared.ending.Ending.{Ending}
use Rattle.run_function.specs.Boards.{SoleBoard}
use Rattle.disk_trait.specs.Past.{Past}
use Rattle.bbs_board.specs.Doubts.{doubts_in}
use Rattle.bbs_board.specs.View.{View}
use Rattle.bbs_model.specs.declared.item.Item.{Item}
use Rattle.converge_laws.proofs.Public.{inside_first, inside_rest, first_or_rest}
use Rattle.converge_round.specs.Each.{Each}
use Rattle.convergence.specs.declared.report.Report.{Report}
use Rattle.phase_runs.specs.Boards.{BoardGoesOn}
use Rattle.phase_runs.specs.Reps.{reps_of}
use Rattle.phase_runs.proofs.Public.{goes_further, goes_nowhere}
use Rattle.program_ends.specs.Ports.{PrintsTo}
use Rattle.program_ends.specs.declared.ending.Ending.TheVariants as ending
use Rattle.record_print.specs.Printed.{line_text, summary_data}
use Rattle.scenario_lines.specs.declared.answered.Answered.{Answered}
use Rattle.scenario_lines.specs.declared.script.Phase.{Phase}
use Rattle.scenario_lines.specs.declared.script.Script.{Script}
use Rattle.scenario_reader.specs.Facts.{IsScript}
use Rattle.scenario_player.specs.Courses.{PlaysPhase, RunCourse, beginning}
use Rattle.scenario_player.specs.Wordings.{Wording}
use Rattle.scenario_player.specs.Plays.{PlaysWhole, run_words, Plays, PlaysCut, PlaysPart, PlaysUnsummed}
use Rattle.run_function.specs.ScriptLaws.{EndsAlone, IsCutAlone, IsRunAlone}
use Rattle.run_function.specs.Phases.{IsSerial, SolePhase, phase_alone}
use Rattle.run_function.specs.RoundLaws.{AreReps}
use Rattle.run_function.specs.Scripts.{IsSerialScript, SoleCourse, behind_phase, begun_alone, board_at, phases_alone, script_alone, summary_alone, words_alone, first_alone, items_alone}
use Rattle.run_function.proofs.Calls.{doubts_both}
use Rattle.run_function.proofs.PhaseAlone.{phase_is_alone}
use Rattle.run_function.proofs.PhaseReps.{phase_reps, script_reps}

drop_front : (xs ys : List Item) → drop (length xs) (xs ++ ys) ≡ ys
drop_front [] ys = refl
drop_front (x ∷ xs) ys = drop_front xs ys

inside_front : (p : Phase) (xs ys : List Phase) → Contains xs p → Contains (xs ++ ys) p
inside_front p [] ys inside = absurd (omega (arith, inside.1))
inside_front p (x ∷ xs) ys inside = ⊎_elim
    (λ (same : x ≡ p). subst (Contains (x ∷ (xs ++ ys))) same (inside_first x (xs ++ ys)))
    (λ (rest : Contains xs p). inside_rest p x (xs ++ ys) (inside_front p xs ys rest))
    (first_or_rest p x xs inside)

module _ {D : Type 0} (told : D → Option Past) (wording : Wording) (script : Script) where
  -- a course as that of a run that is alone
  abbrev pub course_alone : RunCourse D → SoleCourse
  course_alone s = record {
    actors = s.actors;
    board = board_at s.board;
    answers = s.answers;
    reports =
        s.reports;
    text = s.text;
  }

  pub goes_all : (ps : List Phase) (s s' : RunCourse D) → Each (PlaysPhase told wording script) ps s s'
      → (fresh : List Item) × BoardGoesOn told fresh s.board s'.board
  goes_all [] s s' f = (
    [],
    subst (λ (x : RunCourse D). BoardGoesOn told [] s.board x.board) (sym f)
        (goes_nowhere told s.board),
  )
  goes_all (p ∷ ps) s s' f =
      let rest = goes_all ps f.0 s' f.2 in
      (f.1.ran.fresh ++ rest.0, goes_further told s.board f.0.board s'.board f.1.ran.fresh rest.0 f.1.ran.goes rest.1)

  calm_before : (fresh : List Item) (m w : View D) → BoardGoesOn told fresh m w → doubts_in w.log ≡ 0
      → doubts_in m.log ≡ 0
  calm_before fresh m w goes calm = omega (arith, doubts_both m.log fresh, ap doubts_in goes.grows, calm)

  one_phase : (p : Phase) (s m : RunCourse D) → PlaysPhase told wording script p s m → IsSerial p
      → doubts_in m.board.log ≡ 0 → AreReps (reps_of s.actors)
      → course_alone m ≡ behind_phase wording script p (course_alone s) (phase_alone p s.actors (board_at s.board))
  one_phase p s m h serial calm are =
      let one = phase_is_alone told p s.actors m.actors h.parts h.report s.board m.board serial h.ran calm are in
      let answers = h.answers in
      let reports = h.reports in
      let text = h.text in
      (λ i. record {
        actors = m.actors;
        board = board_at m.board;
        answers = answers i;
        reports = reports i;
        text =
            text i;
      })
      ∙ ap (λ (x : SolePhase). behind_phase wording script p (course_alone s) x) (sym one)

  pub phases_all : (ps : List Phase) (s s' : RunCourse D) → Each (PlaysPhase told wording script) ps s s'
      → ((p : Phase) → Contains ps p → IsSerial p)
      → doubts_in s'.board.log ≡ 0 → AreReps (reps_of s.actors)
      → course_alone s' ≡ phases_alone wording script ps (course_alone s)
  phases_all [] s s' f serial calm are = ap course_alone f
  phases_all (p ∷ ps) s s' f serial calm are =
      let goes = goes_all ps f.0 s' f.2 in
      let calm_m = calm_before goes.0 f.0.board s'.board goes.1 calm in
      let one = one_phase p s f.0 f.1 (serial p (inside_first p ps)) calm_m are in
      let are_m = phase_reps told p s.actors f.0.actors f.1.parts f.1.report s.board f.0.board f.1.ran calm_m are in
      phases_all ps f.0 s' f.2 (λ q inside. serial q (inside_rest q p ps inside)) calm are_m
      ∙ ap (λ (x : SoleCourse). phases_alone wording script ps x) one

  -- the text of a course, and the summary
  abbrev all_words : SoleCourse → ℕ → List ℕ
  all_words c n = c.text ++ line_text (summary_data (summary_alone c.board n))

  module _ (answers : List Answered) (reports : List Report) (v w : View D) (held held' : Option (List ℕ))
      (faults faults' : ℕ)
      (is : IsScript script) (serial : IsSerialScript script)
      (h : PlaysWhole told wording script ending.Done answers reports v w held held' faults faults') where
    all_ran : script.phases ≡ h.ran
    all_ran = h.ends.first.split ∙ ap (λ (ps : List Phase). h.ran ++ ps) h.over.0 ∙ append-nil h.ran

    last_is : course_alone h.last ≡ script_alone wording script (board_at v)
    last_is =
        phases_all h.ran (beginning script v) h.last h.ends.first.each
        (λ p inside. serial p (subst (λ (ps : List Phase). Contains ps p) (sym all_ran) inside))
        (sym (ap (λ (x : View D). doubts_in x.log) h.ends.board) ∙ h.over.1) (script_reps script is)
        ∙ ap (λ (ps : List Phase). phases_alone wording script ps (begun_alone script (board_at v))) (sym all_ran)

    words_are : run_words h.last (length h.ran) ≡ words_alone wording script (board_at v)
    words_are =
        ap (λ (c : SoleCourse). all_words c (length h.ran)) last_is
        ∙ ap (λ (ps : List Phase). all_words (script_alone wording script (board_at v)) (length ps)) (sym all_ran)

    goes : (fresh : List Item) × BoardGoesOn told fresh v w
    goes =
        let g = goes_all h.ran (beginning script v) h.last h.ends.first.each in
        (g.0, subst (λ (x : View D). BoardGoesOn told g.0 v x) (sym h.ends.board) g.1)

    board_is : board_at w ≡ (script_alone wording script (board_at v)).board
    board_is = ap board_at h.ends.board ∙ ap (λ (c : SoleCourse). c.board) last_is

    items_are : goes.0 ≡ items_alone wording script (board_at v)
    items_are =
        sym (ap (drop (length v.log)) goes.1.grows ∙ drop_front v.log goes.0)
        ∙ ap (λ (b : SoleBoard). drop (length v.log) b.log) board_is

    pub whole_run : IsRunAlone told wording script answers reports v w held held' faults faults'
    whole_run =
        let g = subst (λ (xs : List Item). BoardGoesOn told xs v w) items_are goes.1 in
        record {
          answers_are = h.ends.answers_are ∙ ap (λ (c : SoleCourse). c.answers) last_is;
          reports_are = h.ends.reports_are ∙ ap (λ (c : SoleCourse). c.reports) last_is;
          prints = subst (λ (words : List ℕ). PrintsTo true words held held' faults faults') words_are h.prints;
          board = board_is;
          grows = g.grows;
          writes = λ waits. g.writes waits (omega (
            arith,
            doubts_both v.log (items_alone wording script (board_at v)),
            ap doubts_in g.grows,
            h.over.1,
          ));
        }

  -- memory ran out behind some phases
  pub cut_alone : (answers : List Answered) (reports : List Report) (v w : View D) (held held' : Option (List ℕ))
      (faults faults' : ℕ)
      → IsScript script → IsSerialScript script → PlaysCut told wording script answers reports v w held held' faults
      faults' → doubts_in w.log ≡ 0
      → IsCutAlone wording script answers reports v held held' faults faults'
  cut_alone answers reports v w held held' faults faults' is serial h calm =
      let calm_last : doubts_in h.last.board.log ≡ 0 =
      ⊎_elim (λ (same : w ≡ h.last.board). sym (ap (λ (x : View D). doubts_in x.log) same) ∙ calm)
      (λ cut. cut.calm) h.board in
      let last_is : course_alone h.last ≡ first_alone wording script h.ran (board_at v) =
      phases_all h.ran (beginning script v) h.last h.first.each
      (λ p inside. serial p (subst (λ (ps : List Phase). Contains ps p) (sym h.first.split)
      (inside_front p h.ran h.rest inside)))
      calm_last (script_reps script is) in
      record {
        ran = h.ran;
        rest = h.rest;
        split = h.first.split;
        answers_are = h.answers_are ∙ ap (λ (c : SoleCourse). c.answers) last_is;
        reports_are = h.reports_are ∙ ap (λ (c : SoleCourse). c.reports) last_is;
        prints = subst (λ (words : List ℕ). PrintsTo true words held held' faults faults')
            (ap (λ (c : SoleCourse). c.text) last_is) h.prints;
      }

pub whole_is_alone : {D : Type 0} (told : D → Option Past) (wording : Wording) (script : Script)
    (answers : List Answered) (reports : List Report) (v w : View D)
    (held held' : Option (List ℕ)) (faults faults' : ℕ) → IsScript script → IsSerialScript script
    → PlaysWhole told wording script ending.Done answers reports v w held held' faults faults'
    → IsRunAlone told wording script answers reports v w held held' faults faults'
whole_is_alone told wording script answers reports v w held held' faults faults' is serial h =
    whole_run told wording script answers reports v w held held' faults faults' is serial h

-- the sink failed
unwritten : {D : Type 0} (told : D → Option Past) (wording : Wording) (script : Script) (answers : List Answered)
    (reports : List Report) (v w : View D)
    (held held' : Option (List ℕ)) (faults faults' : ℕ)
    → PlaysPart told wording script answers reports v w held held' faults faults'
    ⊎ PlaysUnsummed told wording script answers reports v w held held' faults faults'
    → Rose faults faults'
unwritten told wording script answers reports v w held held' faults faults' h =
    ⊎_elim (λ p. p.prints.part.cause.rose refl) (λ u. u.prints.part.cause.rose refl) h

pub ends_alone : {D : Type 0} (told : D → Option Past) (wording : Wording) (script : Script) (how : Ending)
    (answers : List Answered) (reports : List Report) (v w : View D)
    (held held' : Option (List ℕ)) (faults faults' : ℕ) → IsScript script → IsSerialScript script
    → Plays told wording script how answers reports v w held held' faults faults' → doubts_in w.log ≡ 0
    → (Rose faults faults' → ⊥)
    → EndsAlone told wording script how answers reports v w held held' faults faults'
ends_alone told wording script ending.Done answers reports v w held held' faults faults' is serial h calm stood =
    inl (refl, whole_is_alone told wording script answers reports v w held held' faults faults' is serial h)
ends_alone told wording script ending.Doubt answers reports v w held held' faults faults' is serial h calm stood =
    let doubts = h.over in absurd (omega (arith, calm, doubts))
ends_alone told wording script ending.Unwritten answers reports v w held held' faults faults' is serial h calm stood =
    absurd (stood (unwritten told wording script answers reports v w held held' faults faults' h))
ends_alone told wording script ending.OutOfMemory answers reports v w held held' faults faults' is serial h calm stood =
    inr (refl, cut_alone told wording script answers reports v w held held' faults faults' is serial h calm)
ends_alone told wording script other answers reports v w held held' faults faults' is serial h calm stood = absurd h
