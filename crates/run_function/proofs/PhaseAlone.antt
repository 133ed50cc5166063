-- A phase with one actor, or with a round alone, is one that is alone.
use Rattle.std.proofs.Common.{◌≡◌, ◌≢◌, ℕ, zero, suc, ◌+◌, ◌<◌, ◌≤◌, List, [], ◌∷◌, ◌++◌, length, Option, Some, None, refl, sym, ap, subst, ◌∙◌, arith, ⊎_elim}
use Rattle.std.specs.List.{Contains}
use Rattle.std.proofs.lemmas.Bool.{cases_lt}
use Rattle.std.proofs.lemmas.List.{append-nil}
use Rattle.disk_trait.specs.Past.{Past}
use Rattle.bbs_board.specs.Doubts.{doubts_in}
use Rattle.bbs_board.specs.View.{View}
use Rattle.bbs_model.specs.Calls.{by_number}
use Rattle.bbs_model.specs.declared.command.Command.{Command}
use Rattle.bbs_model.specs.declared.item.Item.{Item}
use Rattle.bbs_model.specs.declared.item.Item.TheVariants.{Done, Doubt}
use Rattle.bbs_model.specs.declared.rows.Rows.{Rows}
use Rattle.crash_backoff.specs.declared.moment.Moment.{Moment}
use Rattle.convergence.specs.declared.report.Report.{Report}
use Rattle.scenario_lines.specs.declared.answered.Answered.{Answered}
use Rattle.scenario_lines.specs.declared.script.Line.{Line}
use Rattle.scenario_lines.specs.declared.script.Phase.{Phase}
use Rattle.scenario_lines.specs.declared.script.RoundLine.{RoundLine}
use Rattle.phase_actors.specs.Turns.{turns_in}
use Rattle.phase_actors.specs.declared.actor_state.ActorState.{ActorState}
use Rattle.phase_runs.specs.Actors.{PartRan}
use Rattle.phase_runs.specs.Phases.{HasRound, PhaseRan, RoundRan}
use Rattle.phase_runs.specs.Reps.{reps_of}
use Rattle.run_function.specs.Boards.{SoleBoard}
use Rattle.run_function.specs.Phases.{AreLinesOf, IsSerial, actors_alone, behind_round, phase_alone, phase_round, sole_actors, sole_phase}
use Rattle.run_function.specs.RoundLaws.{AreReps}
use Rattle.run_function.specs.Scripts.{board_at}
use Rattle.run_function.specs.WholeRounds.{SoleRound, round_alone}
use Rattle.run_function.proofs.ActorsAlone.{AreIdle, Each_ran, all_idle, idle_part, no_turns, one_busy}
use Rattle.run_function.proofs.ByNumber.{NoOthers, all_by, at_there, none_at_all}
use Rattle.run_function.proofs.Calls.{doubts_both}
use Rattle.run_function.proofs.PhaseViews.{sees_all, sole_board}
use Rattle.run_function.proofs.RoundAlone.{later_round, round_is_alone}

-- a doubt is in doubt
pub doubted : (xs : List Item) (by : ℕ) (c : Command) → Contains xs (Doubt by c) → doubts_in xs ≡ 0 → ⊥
doubted [] by c inside calm = omega (arith, inside.1)
doubted (Done n d ∷ xs) by c (zero, lt, at) calm = absurd cc
doubted (Doubt n d ∷ xs) by c (zero, lt, at) calm = omega (arith, calm)
doubted (Done n d ∷ xs) by c (suc k, lt, at) calm = doubted xs by c (k, omega (arith, lt), at) calm
doubted (Doubt n d ∷ xs) by c (suc k, lt, at) calm = omega (arith, calm)

-- the round of a phase in which nobody else did anything
round_at : (base : Rows) (before fresh : List Item) (now : Moment) (line : RoundLine) (mids news : List ActorState)
    (parts : List (List Answered)) (o : Option Report)
    → HasRound base before fresh now line mids news o → by_number 0 fresh ≡ fresh → doubts_in (before ++ fresh) ≡ 0
    → AreReps (reps_of mids)
    → phase_round (Some line) now (sole_actors mids (sole_board base before) parts)
    ≡ sole_phase news (sole_board base (before ++ fresh)) parts o
round_at base before fresh now line mids news parts None h all calm are =
    absurd (doubted fresh 0 h.told.0 h.told.1 (omega (arith, doubts_both before fresh, calm)))
round_at base before fresh now line mids news parts (Some r) h all calm are =
    let later = later_round now line (reps_of mids) h.reps h.first h.last r h.told are in
    let sees = sees_all base before fresh 0 h.first h.last h.sees later all in
    let one = ap (round_alone line 0 now (reps_of mids)) (sym sees.first) ∙ round_is_alone now line
    (reps_of mids) h.reps h.first h.last r h.told sees.quiet are in
    let news_are = sym h.news_are in
    let board = sees.last in
    ap (λ (x : SoleRound). behind_round (sole_actors mids (sole_board base before) parts) x) one
    ∙ (λ i. sole_phase (news_are i) (board i) parts (Some r))

module _ {D : Type 0} (told : D → Option Past) (phase : Phase) (olds news : List ActorState)
    (parts : List (List Answered)) (report : Option Report)
    (v w : View D) (h : PhaseRan told phase olds news parts report v w) (calm : doubts_in w.log ≡ 0) where
  abbrev fresh : List Item
  fresh = h.fresh

  abbrev b : SoleBoard
  b = sole_board v.base v.log

  abbrev b' : SoleBoard
  b' = sole_board v.base (v.log ++ fresh)

  after_is : b' ≡ board_at w
  after_is = let base = h.goes.base in let log = h.goes.grows in λ i. sole_board (sym base i) (sym log i)

  calm_all : doubts_in (v.log ++ fresh) ≡ 0
  calm_all = sym (ap doubts_in h.goes.grows) ∙ calm

  many_mids : length h.mids ≡ length olds
  many_mids = h.same.length_is

  ran_from : Each_ran v.base phase.at phase.lines v.log fresh 1 olds h.mids parts
  ran_from = λ k n a a' answers is old mid there.
      let same : suc k ≡ n = omega (arith, is) in
      subst (λ (m : ℕ). PartRan v.base phase.at phase.lines v.log fresh m a a' answers) same
      (h.ran k a a' answers old mid there)

  -- the items of an actor that has no lines
  no_items : (k : ℕ) → turns_in (suc k) phase.lines ≡ [] → by_number (suc k) fresh ≡ []
  no_items k none = ⊎_elim
      (λ (lt : k < length olds).
      let old = at_there olds k lt in
      let mid = at_there h.mids k (omega (arith, lt, many_mids)) in
      let part = at_there parts k (omega (arith, lt, h.count_is)) in
      (idle_part v.base phase.at phase.lines v.log fresh (suc k) old.0 mid.0 part.0 none
      (h.ran k old.0 mid.0 part.0 old.1 mid.1 part.1)).items)
      (λ (ge : length olds ≤ k). h.others (suc k) (omega (arith, ge)))
      (cases_lt k (length olds))

  others_none : (by : ℕ) → AreLinesOf by phase.lines → (0 ≢ by → by_number 0 fresh ≡ []) → NoOthers by fresh
  others_none by are round zero ne = round ne
  others_none by are round (suc k) ne = no_items k (no_turns by (suc k) phase.lines are (λ e. ne (sym e)))

  -- without a round
  abbrev NoRound : Type 0
  NoRound = (by_number 0 fresh ≡ []) × ((news ≡ h.mids) × (report ≡ None))

  idle_but : (by : ℕ) → AreLinesOf by phase.lines → ((n : ℕ) → 1 ≤ n → n < 1 + length olds → by ≢ n)
      → AreIdle v.base phase.at phase.lines v.log fresh 1 olds h.mids parts
  idle_but by are out = all_idle v.base phase.at phase.lines v.log fresh 1 olds h.mids parts many_mids h.count_is
      ran_from
      (λ n low high. no_turns by n phase.lines are (out n low high))

  -- nobody did anything
  nothing_done : (by : ℕ) → AreLinesOf by phase.lines → NoRound → by_number by fresh ≡ []
      → ((n : ℕ) → 1 ≤ n → n < 1 + length olds → by ≢ n)
      → actors_alone 1 phase.at phase.lines olds b ≡ sole_actors h.mids b' parts
  nothing_done by are none own out =
      let empty = none_at_all by fresh (others_none by are (λ ne. none.0)) own in
      let same : b ≡ b' = ap (λ (xs : List Item). sole_board v.base xs) (sym (append-nil v.log)) ∙ ap
      (λ (xs : List Item). sole_board v.base (v.log ++ xs)) (sym empty) in
      (idle_but by are out).alone b ∙ ap (λ (x : SoleBoard). sole_actors h.mids x parts) same

  -- one actor did its lines, or there is none with that number
  actors_are : (by : ℕ) → AreLinesOf by phase.lines → NoRound
      → actors_alone 1 phase.at phase.lines olds b ≡ sole_actors h.mids b' parts
  actors_are by are none = ⊎_elim
      (λ (low : 0 < by). ⊎_elim
      (λ (high : length olds < by). nothing_done by are none (h.others by high)
      (λ n l k e. absurd (omega (arith, high, k, e))))
      (λ (high : by ≤ length olds). one_busy v.base phase.at phase.lines v.log fresh by are
      (others_none by are (λ ne. none.0)) calm_all 1 olds h.mids parts
      many_mids h.count_is ran_from (omega (arith, low)) (omega (arith, high)))
      (cases_lt (length olds) by))
      (λ (low : by ≤ 0).
      let zero : 0 ≡ by = omega (arith, low) in
      nothing_done by are none (subst (λ (n : ℕ). by_number n fresh ≡ []) zero none.0)
      (λ n l k e. absurd (omega (arith, low, l, e))))
      (cases_lt 0 by)

  without_round : (by : ℕ) → AreLinesOf by phase.lines → phase.round ≡ None
      → phase_alone phase olds (board_at v) ≡ sole_phase news (board_at w) parts report
  without_round by are is =
      let none : NoRound = subst (λ (o : Option RoundLine). RoundRan o v.base v.log fresh phase.at h.mids news report)
      is h.round in
      let news_are = sym none.1.0 in
      let report_is = sym none.1.1 in
      ap (λ (o : Option RoundLine). phase_round o phase.at (actors_alone 1 phase.at phase.lines olds b)) is
      ∙ ap (phase_round None phase.at) (actors_are by are none)
      ∙ (λ i. sole_phase (news_are i) (after_is i) parts (report_is i))

  nobodys : phase.lines ≡ [] → AreLinesOf 0 phase.lines
  nobodys empty = λ l inside. let there = subst (λ (ls : List Line). Contains ls l) empty inside in
      absurd (omega (arith, there.1))

  round_only : phase.lines ≡ [] → (line : RoundLine) → phase.round ≡ Some line → AreReps (reps_of olds)
      → phase_alone phase olds (board_at v) ≡ sole_phase news (board_at w) parts report
  round_only empty line is are =
      let nobody = nobodys empty in
      let round : HasRound v.base v.log fresh phase.at line h.mids news report =
      subst (λ (o : Option RoundLine). RoundRan o v.base v.log fresh phase.at h.mids news report) is h.round in
      let idle = idle_but 0 nobody (λ n low high e. absurd (omega (arith, low, e))) in
      let all = all_by 0 fresh (others_none 0 nobody (λ ne. absurd (ne refl))) in
      let are_mids = subst (λ (xs : List ActorState). AreReps (reps_of xs)) (sym idle.same) are in
      ap (λ (o : Option RoundLine). phase_round o phase.at (actors_alone 1 phase.at phase.lines olds b)) is
      ∙ ap (phase_round (Some line) phase.at) (idle.alone b)
      ∙ round_at v.base v.log fresh phase.at line h.mids news parts report round all calm_all are_mids
      ∙ ap (λ (x : SoleBoard). sole_phase news x parts report) after_is

  by_round : phase.lines ≡ [] → AreReps (reps_of olds) → (o : Option RoundLine) → phase.round ≡ o
      → phase_alone phase olds (board_at v) ≡ sole_phase news (board_at w) parts report
  by_round empty are None is = without_round 0 (nobodys empty) is
  by_round empty are (Some line) is = round_only empty line is are

  pub serial_phase : IsSerial phase → AreReps (reps_of olds)
      → phase_alone phase olds (board_at v) ≡ sole_phase news (board_at w) parts report
  serial_phase serial are = ⊎_elim (λ one. without_round one.1 one.2 one.0)
      (λ empty. by_round empty are phase.round refl) serial

pub phase_is_alone : {D : Type 0} (told : D → Option Past) (phase : Phase) (olds news : List ActorState)
    (parts : List (List Answered)) (report : Option Report)
    (v w : View D) → IsSerial phase → PhaseRan told phase olds news parts report v w → doubts_in w.log ≡ 0
    → AreReps (reps_of olds)
    → phase_alone phase olds (board_at v) ≡ sole_phase news (board_at w) parts report
phase_is_alone told phase olds news parts report v w serial h calm are =
    serial_phase told phase olds news parts report v w h calm serial are
