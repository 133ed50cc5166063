-- One phase, told and printed.
use Rattle.std.proofs.Common.{◌≡◌, ◌⊎◌, inl, inr, ℕ, ◌+◌, ◌-◌, ◌<◌, ◌≤◌, Bool, true, List}
use Rattle.std.proofs.Common.{[], ◌++◌, length, take, drop, Option, sym, ap, subst, ◌∙◌, arith}
use Rattle.std.specs.Prelude.{not}
use Rattle.std.specs.List.Sorted.{IsPermutation}
use Rattle.std.specs.Option.{option_to_list}
use Rattle.std.specs.Io.KnownBytes.{Appends}
use Rattle.std.proofs.lemmas.List.Sorted.{All-permutation}
use Rattle.std.proofs.lemmas.List.{length-append, length-drop, take_all}
use Rattle.byte_ports.specs.Cause.{HasCause}
use Rattle.byte_ports.specs.Content.{HoldsFront}
use Rattle.disk_trait.specs.Past.{Past}
use Rattle.bbs_board.specs.Doubts.{doubts_in}
use Rattle.bbs_board.specs.View.{View}
use Rattle.bbs_model.specs.declared.item.Item.{Item}
use Rattle.bbs_model.specs.declared.rows.Rows.{Rows}
use Rattle.convergence.specs.declared.report.Report.{Report}
use Rattle.scenario_lines.specs.declared.actor.Actor.{Actor}
use Rattle.scenario_lines.specs.declared.answered.Answered.{Answered}
use Rattle.scenario_lines.specs.declared.script.Line.{Line}
use Rattle.scenario_lines.specs.declared.script.Phase.{Phase}
use Rattle.scenario_lines.specs.declared.script.Script.{Script}
use Rattle.phase_actors.specs.declared.actor_state.ActorState.{ActorState}
use Rattle.phase_runs.specs.Phases.{PhaseRan}
use Rattle.phase_text.specs.Answers.{AreActorAnswers, IsActorAnswer}
use Rattle.phase_text.specs.Sorting.{by_line}
use Rattle.program_ends.specs.Ports.{PrintsTo}
use Rattle.program_ends.specs.declared.ending.Ending.{Ending}
use Rattle.program_ends.specs.declared.ending.Ending.TheVariants as ending
use Rattle.scenario_player.specs.Wordings.{Wording}
use Rattle.scenario_player.specs.Kept.{KeptSoFar}
use Rattle.scenario_player.specs.Tellings.{IsPhaseTold, PhaseEnds, TellsPhase}
use Rattle.scenario_player.proofs.Behind.{doubts_since, log_before}

-- answers to lines, in another order
pub in_order : (actors : List Actor) (lines : List Line) (xs ys : List Answered) → AreActorAnswers actors lines xs
    → IsPermutation xs ys
    → AreActorAnswers actors lines ys
in_order actors lines xs ys are same = record {
  rising = are.rising;
  each = All-permutation (IsActorAnswer actors lines) xs ys same are.each;
}

-- what is kept of a phase more
abbrev pub kept_with : KeptSoFar → List Answered → Option Report → KeptSoFar
kept_with kept answers report = record {
  answers = kept.answers ++ answers;
  reports = kept.reports ++ option_to_list report;
  phases = kept.phases + 1;
}

module _ {D : Type 0} (told : D → Option Past) (wording : Wording) (script : Script) (phase : Phase)
    (olds news : List ActorState) (parts : List (List Answered))
    (report : Option Report) (v w : View D) (kept kept' : KeptSoFar) (answers : List Answered) (text : List ℕ) where
  -- a phase that ran is told
  pub is_told : doubts_in v.log ≡ 0 → PhaseRan told phase olds news parts report v w → answers ≡ by_line parts
      → kept' ≡ kept_with kept answers report → (from : ℕ) → from ≡ length v.log
      → text ≡ wording script phase answers report w.base (take from w.log) w.log
      → IsPhaseTold told wording script phase olds news v w kept kept' text
  is_told calm ran in_lines added from begin words before = record {
    calm = calm;
    parts = parts;
    report = report;
    ran = ran;
    answers = ap (λ (k : KeptSoFar). k.answers) added ∙ ap (λ (xs : List Answered). kept.answers ++ xs) in_lines;
    reports = ap (λ (k : KeptSoFar). k.reports) added;
    text = ap (λ (xs : List ℕ). before ++ xs)
        (words ∙ ap (λ (xs : List Answered). wording script phase xs report w.base (take from w.log) w.log) in_lines
        ∙ ap (λ (xs : List Item). wording script phase (by_line parts) report w.base xs w.log)
        (log_before v.log w.log ran.fresh from begin ran.goes.grows));
  }

  -- what was told up to the place at which the phase began was told of the log before it
  pub told_before : (PhaseRan told phase olds news parts report v w) → (Told : Rows → List Item → Type 0)
      → Told v.base v.log
      → (from : ℕ) → from ≡ length v.log → Told w.base (take from w.log)
  told_before ran Told before from begin =
      subst (λ (rows : Rows). Told rows (take from w.log)) (sym ran.goes.base)
      (subst (Told v.base) (sym (log_before v.log w.log ran.fresh from begin ran.goes.grows)) before)

-- the doubts of the log are those of the items that a phase added, which was told
pub phase_doubts : {D : Type 0} (told : D → Option Past) (wording : Wording) (script : Script) (phase : Phase)
    (olds news : List ActorState) (v w : View D)
    (kept kept' : KeptSoFar) (text : List ℕ) → IsPhaseTold told wording script phase olds news v w kept kept' text
    → (from : ℕ) (log : List Item) → from ≡ length v.log → log ≡ w.log
    → (count : ℕ) → count ≡ doubts_in (take (length log - from) (drop from log)) → count ≡ doubts_in w.log
phase_doubts told wording script phase olds news v w kept kept' text is_told from log begin same count is =
    is ∙ ap doubts_in (take_all (length log - from) (drop from log) (omega (arith, length-drop from log)))
    ∙ ap (λ (n : ℕ). doubts_in (drop n log)) begin ∙ ap (λ (xs : List Item). doubts_in (drop (length v.log) xs)) same
    ∙ doubts_since v.log w.log (is_told []).ran.fresh (is_told []).calm (is_told []).ran.goes.grows

-- a phase that was told only added to the log, so the place at which it began stands in it
pub place_within : {D : Type 0} (told : D → Option Past) (wording : Wording) (script : Script) (phase : Phase)
    (olds news : List ActorState) (v w : View D)
    (kept kept' : KeptSoFar) (text : List ℕ) → IsPhaseTold told wording script phase olds news v w kept kept' text
    → (from : ℕ) (log : List Item) → from ≡ length v.log → log ≡ w.log → from ≤ length log
place_within told wording script phase olds news v w kept kept' text is_told from log begin same =
    let ran = (is_told []).ran in
    omega (arith, begin, ap length same, ap length ran.goes.grows, length-append v.log ran.fresh)

-- what was written, whole or not
pub prints_by : (whole is : Bool) (shown text : List ℕ) (held held' : Option (List ℕ)) (faults faults' : ℕ)
    → HasCause (not whole) faults faults' → HoldsFront held held' shown → (whole ≡ true → Appends held held' shown)
    → whole ≡ is → shown ≡ text → PrintsTo is text held held' faults faults'
prints_by whole is shown text held held' faults faults' cause front all same shows =
    subst (λ (xs : List ℕ). PrintsTo is xs held held' faults faults') shows
    (subst (λ (b : Bool). PrintsTo b shown held held' faults faults') same
    (record { cause = cause; front = front; all = all }))

-- how a phase ends whose text was printed whole
pub phase_ends : {D : Type 0} (told : D → Option Past) (wording : Wording) (script : Script) (phase : Phase)
    (olds news : List ActorState) (v w : View D)
    (kept kept' : KeptSoFar) (held held' : Option (List ℕ)) (faults faults' count : ℕ) (how : Ending)
    → count ≡ doubts_in w.log
    → ((count ≡ 0) × (how ≡ ending.Done)) ⊎ ((0 < count) × (how ≡ ending.Doubt))
    → TellsPhase told wording script phase true olds news v w kept kept' held held' faults faults'
    → PhaseEnds told wording script phase how olds news v w kept kept' held held' faults faults'
phase_ends told wording script phase olds news v w kept kept' held held' faults faults' count how is
    (inl (none, done)) tells =
    subst (λ (e : Ending). PhaseEnds told wording script phase e olds news v w kept kept' held held' faults faults')
    (sym done) (sym is ∙ none, tells)
phase_ends told wording script phase olds news v w kept kept' held held' faults faults' count how is
    (inr (some, doubt)) tells =
    subst (λ (e : Ending). PhaseEnds told wording script phase e olds news v w kept kept' held held' faults faults')
    (sym doubt)
    (subst (λ (n : ℕ). 0 < n) is some, tells)
