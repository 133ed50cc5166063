-- The actors of a phase, and the round behind them.
use Rattle.std.proofs.Common.{◌≡◌, ◌≢◌, inl, inr, ℕ, suc, ◌<◌, List, [], ◌++◌, length, get_or, Option, Some, None, refl, sym, ap, subst, ◌∙◌, arith}
use Rattle.std.specs.List.{slice_get}
use Rattle.std.proofs.lemmas.List.Elements.{Contains-append_right}
use Rattle.std.proofs.lemmas.Option.{slice_get-get_or, slice_get_within}
use Rattle.disk_trait.specs.Past.{Past}
use Rattle.bbs_board.specs.View.{View}
use Rattle.bbs_model.specs.Calls.{by_number}
use Rattle.bbs_model.specs.PortView.{PortView}
use Rattle.bbs_model.specs.declared.item.Item.{Item}
use Rattle.bbs_model.specs.declared.item.Item.TheVariants.{Doubt}
use Rattle.bbs_model.specs.declared.rows.Rows.{Rows}
use Rattle.cell_rep.specs.declared.rep.CellRep.{CellRep}
use Rattle.convergence.specs.declared.report.Report.{Report}
use Rattle.crash_backoff.specs.declared.moment.Moment.{Moment}
use Rattle.scenario_lines.specs.declared.answered.Answered.{Answered}
use Rattle.scenario_lines.specs.declared.script.Phase.{Phase}
use Rattle.scenario_lines.specs.declared.script.RoundLine.{RoundLine}
use Rattle.phase_actors.specs.declared.actor_state.ActorState.{ActorState}
use Rattle.phase_runs.specs.Actors.{ActorsCut, ActorsRan, AreSameActors, PartCut, PartRan}
use Rattle.phase_runs.specs.Boards.{BoardGoesOn}
use Rattle.phase_runs.specs.Phases.{CutAlone, IsRoundCut, IsToldBy, PhaseCut, PhaseRan, RoundAlone, RoundRan}
use Rattle.phase_runs.specs.Reps.{reps_of}
use Rattle.board_port.proofs.Public.{goes_further}
use Rattle.phase_runs.proofs.Parts.{by_both, ran_on, ran_whole, sees_behind}
use Rattle.phase_runs.proofs.PutBack.{same_as, same_put, same_then}

-- each is the client or the cell that it was
pub same_held : (round : Option RoundLine) (base : Rows) (before fresh : List Item) (now : Moment)
    (mids news : List ActorState)
    (report : Option Report) → RoundRan round base before fresh now mids news report → AreSameActors mids news
same_held None base before fresh now mids news report ran = same_as mids news ran.1.0
same_held (Some line) base before fresh now mids news report ran =
    subst (AreSameActors mids) (sym ran.news_are) (same_put mids ran.reps ran.kept)

pub not_begun_round : (round : Option RoundLine) (base : Rows) (before fresh : List Item) (now : Moment)
    (reps : List CellRep) → by_number 0 fresh ≡ []
    → IsRoundCut round base before fresh now reps
not_begun_round None base before fresh now reps none = none
not_begun_round (Some line) base before fresh now reps none = inl none

module _ {D : Type 0} (told : D → Option Past) (v m : View D) (fresh more : List Item)
    (goes : BoardGoesOn told fresh v m) where
  -- items by a caller that did none of the first ones
  none_then : (by : ℕ) → by_number by fresh ≡ [] → by_number by more ≡ [] → by_number by (fresh ++ more) ≡ []
  none_then by none nor = by_both by fresh more ∙ ap (λ (xs : List Item). xs ++ by_number by more) none ∙ nor

  module _ (none : by_number 0 fresh ≡ []) (now : Moment) where
    told_behind : (line : RoundLine) (reps reps' : List CellRep) (first last : PortView) (report : Option Report)
        → IsToldBy now line reps reps' first last more report
        → IsToldBy now line reps reps' first last (fresh ++ more) report
    told_behind line reps reps' first last None (c, inside) = (c, Contains-append_right fresh more (Doubt 0 c) inside)
    told_behind line reps reps' first last (Some r) is = is

    -- the round behind the actors is the round of the phase
    round_behind : (round : Option RoundLine) (mids news : List ActorState) (report : Option Report)
        → RoundRan round m.base m.log more now mids news report
        → RoundRan round v.base v.log (fresh ++ more) now mids news report
    round_behind None mids news report ran = (none_then 0 none ran.0, ran.1)
    round_behind (Some line) mids news report ran = record {
      first = ran.first;
      last = ran.last;
      sees = sees_behind told 0 v m fresh more goes none ran.first ran.last ran.sees;
      reps = ran.reps;
      news_are = ran.news_are;
      kept = ran.kept;
      items = ran.items;
      told = told_behind line (reps_of mids) ran.reps ran.first ran.last report ran.told;
    }

    cut_behind : (round : Option RoundLine) (reps : List CellRep) → IsRoundCut round m.base m.log more now reps
        → IsRoundCut round v.base v.log (fresh ++ more) now reps
    cut_behind None reps nor = none_then 0 none nor
    cut_behind (Some line) reps (inl nor) = inl (none_then 0 none nor)
    cut_behind (Some line) reps (inr cut) = inr (record {
      first = cut.first;
      last = cut.last;
      sees = sees_behind told 0 v m fresh more goes none cut.first cut.last cut.sees;
      items = cut.items;
    })

module _ {D : Type 0} (told : D → Option Past) (phase : Phase) (olds mids : List ActorState) (v m : View D) where
  -- the actors were cut off, and no round was begun
  pub actors_cut : ActorsCut told phase.at phase.lines olds mids v m → PhaseCut told phase olds v m
  actors_cut cut = record {
    fresh = cut.fresh;
    goes = cut.goes;
    mids = mids;
    cut = cut.cut;
    others = λ by behind. cut.others by (inr behind);
    same = cut.same;
    round = not_begun_round phase.round v.base v.log cut.fresh phase.at (reps_of mids) (cut.others 0 (inl refl));
  }

  module _ (parts : List (List Answered)) (acted : ActorsRan told phase.at phase.lines olds mids parts v m) (w : View D)
      (more : List Item)
      (goes : BoardGoesOn told more m w) (others : (by : ℕ) → by ≢ 0 → by_number by more ≡ []) where
    abbrev all : List Item
    all = acted.fresh ++ more

    goes_all : BoardGoesOn told all v w
    goes_all = goes_further told v m w acted.fresh more acted.goes goes

    none_behind : (by : ℕ) → length olds < by → by_number by all ≡ []
    none_behind by behind =
        none_then told v m acted.fresh more acted.goes by (acted.others by (inr behind))
        (others by (λ e. absurd (omega (arith, behind, e))))

    by_no_actor : (k : ℕ) → by_number (suc k) more ≡ []
    by_no_actor k = others (suc k) (λ e. absurd (omega (arith, e)))

    -- each actor did all of its lines
    all_ran : (k : ℕ) (a a' : ActorState) (answers : List Answered) → slice_get olds k ≡ Some a
        → slice_get mids k ≡ Some a'
        → slice_get parts k ≡ Some answers → PartRan v.base phase.at phase.lines v.log all (suc k) a a' answers
    all_ran k a a' answers old new part =
        ran_on v.base v.log acted.fresh more (suc k) (by_no_actor k) phase.at phase.lines a a' answers
        (acted.ran k a a' answers old new part)

    all_cut : (k : ℕ) (a a' : ActorState) → slice_get olds k ≡ Some a → slice_get mids k ≡ Some a'
        → PartCut v.base phase.at phase.lines v.log all (suc k) a a'
    all_cut k a a' old new =
        ran_whole v.base phase.at phase.lines v.log all (suc k) a a' answers
        (all_ran k a a' answers old new (slice_get-get_or parts k none
        (omega (arith, slice_get_within olds k a old, acted.count_is))))
      where
        none : List Answered
        none = []

        answers : List Answered
        answers = get_or parts k none

module _ {D : Type 0} (told : D → Option Past) (phase : Phase) (olds mids : List ActorState)
    (parts : List (List Answered)) (v m w : View D)
    (acted : ActorsRan told phase.at phase.lines olds mids parts v m) where
  -- the round was held behind them
  pub then_held : (news : List ActorState) (report : Option Report)
      → RoundAlone told phase.at phase.round mids news report m w
      → PhaseRan told phase olds news parts report v w
  then_held news report held = record {
    fresh = acted.fresh ++ held.fresh;
    goes = goes_all told phase olds mids v m parts acted w held.fresh held.goes held.others;
    mids = mids;
    count_is = acted.count_is;
    ran = all_ran told phase olds mids v m parts acted w held.fresh held.goes held.others;
    others = none_behind told phase olds mids v m parts acted w held.fresh held.goes held.others;
    same = acted.same;
    round =
        round_behind told v m acted.fresh held.fresh acted.goes
        (acted.others 0 (inl refl)) phase.at phase.round mids news report
        held.ran;
    kept = same_then olds mids news acted.same (same_held phase.round m.base m.log held.fresh phase.at mids news report
        held.ran);
  }

  -- the round was cut off
  pub then_cut : CutAlone told phase.at phase.round mids m w → PhaseCut told phase olds v w
  then_cut cut = record {
    fresh = acted.fresh ++ cut.fresh;
    goes = goes_all told phase olds mids v m parts acted w cut.fresh cut.goes cut.others;
    mids = mids;
    cut = all_cut told phase olds mids v m parts acted w cut.fresh cut.goes cut.others;
    others = none_behind told phase olds mids v m parts acted w cut.fresh cut.goes cut.others;
    same = acted.same;
    round = cut_behind told v m acted.fresh cut.fresh acted.goes (acted.others 0 (inl refl)) phase.at phase.round
        (reps_of mids) cut.cut;
  }
