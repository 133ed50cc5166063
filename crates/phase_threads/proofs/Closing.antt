-- The board has come back, and all that was done there is told.
use Rattle.std.proofs.Common.{◌≡◌, ◌⊎◌, inl, inr, ℕ, suc, ◌<◌, true, List, [], length, map, Option, Some, None, refl, sym, ap, subst, ◌∙◌, arith}
use Rattle.std.specs.List.{slice_get, Contains}
use Rattle.std.proofs.lemmas.List.{append-nil, length-map}
use Rattle.std.proofs.lemmas.Option.{slice_get_within}
use Rattle.atomic_table.specs.Seated.{TableId}
use Rattle.disk_trait.specs.Past.{Past}
use Rattle.bbs_board.specs.View.{View}
use Rattle.bbs_model.specs.Calls.{by_number}
use Rattle.bbs_model.specs.PortView.{PortView}
use Rattle.bbs_model.specs.declared.command.Command.{Command}
use Rattle.bbs_model.specs.declared.item.Item.{Item}
use Rattle.bbs_model.specs.declared.item.Item.TheVariants.{Doubt}
use Rattle.bbs_shared.specs.Passes.{seen_by}
use Rattle.bbs_shared.specs.Sharings.{whole_view, CameBack}
use Rattle.bbs_shared.specs.declared.origin.Origin.{Origin}
use Rattle.cell_rep.specs.declared.rep.CellRep.{CellRep}
use Rattle.convergence.specs.declared.report.Report.{Report}
use Rattle.converge_round.specs.Faults.{IsDoubtedAt}
use Rattle.converge_round.specs.Items.{HasItems}
use Rattle.converge_round.specs.Reps.{KeepReps}
use Rattle.scenario_lines.specs.declared.answered.Answered.{Answered}
use Rattle.scenario_lines.specs.declared.script.Phase.{Phase}
use Rattle.scenario_lines.specs.declared.script.RoundLine.{RoundLine}
use Rattle.ticket_desk.specs.declared.pass.Pass.{Pass}
use Rattle.phase_actors.specs.Turns.{is_any_unfed, TakesTurns, turns_in}
use Rattle.phase_actors.specs.declared.actor_state.ActorState.{ActorState}
use Rattle.phase_runs.specs.Actors.{AreSameActors, CanAllDo, PartCut, PartRan, SeesPhase}
use Rattle.phase_runs.specs.Phases.{HasRound, IsRoundCut, IsToldBy, PhaseCut, PhaseRan, RoundCut, RoundRan}
use Rattle.phase_runs.specs.Reps.{bare, reps_of, with_reps}
use Rattle.phase_runs.proofs.Public.{goes_nowhere, not_begun, not_begun_round, one_of, same_as, same_held, same_then}
use Rattle.phase_threads.specs.Clients.{are_of_clients}
use Rattle.phase_threads.specs.Holding.{ReportsRound, WasBegun, WasHeld}
use Rattle.phase_threads.specs.Sharing.{AreBack, HaveRun, IsUnused, WereCut}
use Rattle.phase_threads.proofs.Away.{cut_with, reps_back, same_bare, same_with, takes_with, with_at, with_twice}
use Rattle.phase_threads.proofs.Pairs.{as_elem, image_of, stands}
use Rattle.phase_threads.proofs.Together.{among_all}

module _ {V S D : Type 0} (told : D → Option Past) (v w : View D) (z : TableId) (actors : ℕ)
    (passes : List (Pass V Item (Origin S)))
    (are : AreBack z actors passes) (back : CameBack told v w passes) where
  -- what the holder of a pass has seen lies within the phase
  pub pass_sees : (k : ℕ) (p : Pass V Item (Origin S)) → slice_get passes k ≡ Some p
      → SeesPhase v.base v.log back.fresh k (whole_view v) (seen_by p)
  pass_sees k p is = record {
    base_is = refl;
    from = ([], sym (append-nil v.log));
    upto = let seen = back.seen k p (as_elem passes k p is) in (seen.0, sym back.goes.grows ∙ seen.1);
    own = back.own k p (as_elem passes k p is);
  }

  pub no_others : (by : ℕ) → actors < by → by_number by back.fresh ≡ []
  no_others by behind = back.no_others by (omega (arith, behind, are.count_is))

  pub pass_at : (k : ℕ) → k < actors → (p : Pass V Item (Origin S)) × (slice_get passes (suc k) ≡ Some p)
  pass_at k within = stands passes (suc k) (omega (arith, within, are.count_is))

  -- where the round's pass has seen nothing more, the round did nothing
  none_seen : (p : Pass V Item (Origin S)) → slice_get passes 0 ≡ Some p → seen_by p ≡ whole_view v
      → by_number 0 back.fresh ≡ []
  none_seen p is unused = sym (back.own 0 p (as_elem passes 0 p is)) ∙ ap (λ (x : PortView). x.mine) unused

  pub none_by_round : IsUnused v passes → by_number 0 back.fresh ≡ []
  none_by_round unused =
      let first = stands passes 0 (omega (arith, are.count_is)) in none_seen first.0 first.1 (unused first.0 first.1)

  -- a doubt that the round sees is among the items of the phase
  doubt_there : (p : Pass V Item (Origin S)) → slice_get passes 0 ≡ Some p → (place : ℕ)
      → IsDoubtedAt 0 place (whole_view v) (seen_by p)
      → (c : Command) × Contains back.fresh (Doubt 0 c)
  doubt_there p is place doubt = (
    doubt.command,
    among_all 0 back.fresh (Doubt 0 doubt.command)
        (subst (λ (l : List Item). Contains l (Doubt 0 doubt.command))
        (sym doubt.later.mine.1 ∙ back.own 0 p (as_elem passes 0 p is)) doubt.own),
  )

  module _ (phase : Phase) (olds : List ActorState) (count : length olds ≡ actors) where
    pub part_ran : (news : List ActorState) (parts : List (List Answered))
        → HaveRun v phase.at phase.lines olds news parts passes
        → (k : ℕ) (a a' : ActorState) (answers : List Answered) → slice_get olds k ≡ Some a → slice_get news k ≡ Some a'
        → slice_get parts k ≡ Some answers → PartRan v.base phase.at phase.lines v.log back.fresh (suc k) a a' answers
    part_ran news parts run k a a' answers is new part =
        let has = pass_at k (omega (arith, slice_get_within olds k a is, count)) in
        let takes = run.ran k a a' answers has.0 is new part has.1 in
        record {
          first = whole_view v;
          last = seen_by has.0;
          sees = pass_sees (suc k) has.0 has.1;
          taken =
              subst (λ (l : List Answered). TakesTurns (suc k) phase.at (turns_in (suc k) phase.lines) a
              (whole_view v) l a' (seen_by has.0))
              (sym takes.out_is) takes.taken;
          fed = ap is_any_unfed takes.out_is ∙ takes.fed;
        }

    pub part_cut : (cut : WereCut v phase.at phase.lines olds passes) → (k : ℕ) (a a' : ActorState)
        → slice_get olds k ≡ Some a
        → slice_get cut.news k ≡ Some a' → PartCut v.base phase.at phase.lines v.log back.fresh (suc k) a a'
    part_cut cut k a a' is new =
        let has = pass_at k (omega (arith, slice_get_within olds k a is, count)) in
        record {
          first = whole_view v;
          last = seen_by has.0;
          sees = pass_sees (suc k) has.0 has.1;
          cut = cut.cut k a a' has.0 is new has.1;
        }

    -- a phase without a round
    pub whole_without_round : phase.round ≡ None → IsUnused v passes
        → (news : List ActorState) (parts : List (List Answered))
        → HaveRun v phase.at phase.lines olds news parts passes → PhaseRan told phase olds news parts None v w
    whole_without_round none unused news parts run = record {
      fresh = back.fresh;
      goes = back.goes;
      mids = news;
      count_is = run.parts_are;
      ran = part_ran news parts run;
      others = λ by behind. no_others by (omega (arith, behind, count));
      same = run.same;
      round =
          subst (λ r. RoundRan r v.base v.log back.fresh phase.at news news None) (sym none)
          (none_by_round unused, (refl, refl));
      kept = run.same;
    }

    -- a phase whose round had done nothing, if it has one
    pub cut_before_round : IsUnused v passes → WereCut v phase.at phase.lines olds passes → PhaseCut told phase olds v w
    cut_before_round unused cut = record {
      fresh = back.fresh;
      goes = back.goes;
      mids = cut.news;
      cut = part_cut cut;
      others = λ by behind. no_others by (omega (arith, behind, count));
      same = cut.same;
      round = not_begun_round phase.round v.base v.log back.fresh phase.at (reps_of cut.news) (none_by_round unused);
    }

    module _ (line : RoundLine) (is_round : phase.round ≡ Some line) (clients : are_of_clients phase.lines ≡ true)
        (can : CanAllDo phase.lines olds) where
      module _ (news : List ActorState) (same : AreSameActors (map bare olds) news) where
        -- the actors between their turns and the round
        abbrev mids : List ActorState
        mids = with_reps news (reps_of olds)

        same_mids : AreSameActors olds mids
        same_mids = same_with olds news (same_bare olds news same)

        their_reps : reps_of mids ≡ reps_of olds
        their_reps = reps_back olds news (same_bare olds news same)

      -- a phase with a round
      pub whole_with_round : (news finals : List ActorState) (parts : List (List Answered)) (report : Option Report)
          (reps : List CellRep)
          → HaveRun v phase.at phase.lines (map bare olds) news parts passes
          → WasHeld v phase.at line (reps_of olds) reps report passes → finals ≡ with_reps news reps
          → PhaseRan told phase olds finals parts report v w
      whole_with_round news finals parts report reps run held finals_are = record {
        fresh = back.fresh;
        goes = back.goes;
        mids = mids news run.same;
        count_is = run.parts_are ∙ length-map olds bare;
        ran = λ k a mid answers is between part.
            let new = with_at olds news (same_bare olds news run.same) k a mid is between in
            let has = pass_at k (omega (arith, slice_get_within olds k a is, count)) in
            let takes = takes_with (suc k) phase.at phase.lines clients (whole_view v)
            (seen_by has.0) a new.0 mid answers (can k a is) new.2
            (run.ran k (bare a) new.0 answers has.0 (image_of olds bare k a is) new.1 part has.1) in
            record {
              first = whole_view v;
              last = seen_by has.0;
              sees = pass_sees (suc k) has.0 has.1;
              taken =
                  subst (λ (l : List Answered). TakesTurns (suc k) phase.at (turns_in (suc k) phase.lines) a
                  (whole_view v) l mid (seen_by has.0))
                  (sym takes.out_is) takes.taken;
              fed = ap is_any_unfed takes.out_is ∙ takes.fed;
            };
        others = λ by behind. no_others by (omega (arith, behind, count));
        same = same_mids news run.same;
        round = subst (λ r. RoundRan r v.base v.log back.fresh phase.at (mids news run.same) finals report)
            (sym is_round) the_round;
        kept = same_then olds (mids news run.same) finals (same_mids news run.same)
            (same_held (Some line) v.base v.log back.fresh phase.at (mids news run.same) finals report the_round);
      }
        where
          its : (p : Pass V Item (Origin S)) × (slice_get passes 0 ≡ Some p)
          its = stands passes 0 (omega (arith, are.count_is))

          mids_reps : reps_of (mids news run.same) ≡ reps_of olds
          mids_reps = their_reps news run.same

          told_by : (r : Option Report) → ReportsRound phase.at line (reps_of olds) reps (whole_view v)
              (seen_by its.0) r
              → IsToldBy phase.at line (reps_of olds) reps (whole_view v) (seen_by its.0) back.fresh r
          told_by None is = doubt_there its.0 its.1 is.0 is.1
          told_by (Some r) is = is

          the_round : HasRound v.base v.log back.fresh phase.at line (mids news run.same) finals report
          the_round = record {
            first = whole_view v;
            last = seen_by its.0;
            sees = pass_sees 0 its.0 its.1;
            reps = reps;
            news_are = finals_are ∙ sym (with_twice news (reps_of olds) reps held.same);
            kept = subst (λ l. KeepReps l reps) (sym mids_reps) held.same;
            items = subst (λ l. HasItems 0 phase.at l (whole_view v) (seen_by its.0)) (sym mids_reps)
                (held.items its.0 its.1);
            told = subst (λ l. IsToldBy phase.at line l reps (whole_view v) (seen_by its.0) back.fresh report)
                (sym mids_reps)
                (told_by report (held.reported its.0 its.1));
          }

      -- a phase with a round, cut off
      pub cut_with_round : WereCut v phase.at phase.lines (map bare olds) passes
          → WasBegun v phase.at (reps_of olds) passes
          → PhaseCut told phase olds v w
      cut_with_round cut begun = record {
        fresh = back.fresh;
        goes = back.goes;
        mids = mids cut.news cut.same;
        cut = λ k a mid is between.
            let new = with_at olds cut.news (same_bare olds cut.news cut.same) k a mid is between in
            let has = pass_at k (omega (arith, slice_get_within olds k a is, count)) in
            record {
              first = whole_view v;
              last = seen_by has.0;
              sees = pass_sees (suc k) has.0 has.1;
              cut = cut_with (suc k) phase.at phase.lines clients (whole_view v) (seen_by has.0) a new.0 mid
                  (can k a is) new.2
                  (cut.cut k (bare a) new.0 has.0 (image_of olds bare k a is) new.1 has.1);
            };
        others = λ by behind. no_others by (omega (arith, behind, count));
        same = same_mids cut.news cut.same;
        round = subst (λ r. IsRoundCut r v.base v.log back.fresh phase.at (reps_of (mids cut.news cut.same)))
            (sym is_round)
            (as_far (begun its.0 its.1));
      }
        where
          its : (p : Pass V Item (Origin S)) × (slice_get passes 0 ≡ Some p)
          its = stands passes 0 (omega (arith, are.count_is))

          as_far : (seen_by its.0 ≡ whole_view v) ⊎ HasItems 0 phase.at (reps_of olds) (whole_view v) (seen_by its.0)
              → (by_number 0 back.fresh ≡ []) ⊎ RoundCut v.base v.log back.fresh phase.at
              (reps_of (mids cut.news cut.same))
          as_far (inl unused) = inl (none_seen its.0 its.1 unused)
          as_far (inr items) = inr (record {
            first = whole_view v;
            last = seen_by its.0;
            sees = pass_sees 0 its.0 its.1;
            items = subst (λ l. HasItems 0 phase.at l (whole_view v) (seen_by its.0))
                (sym (their_reps cut.news cut.same)) items;
          })

-- nothing of a phase was done
pub nothing_done : {D : Type 0} (told : D → Option Past) (phase : Phase) (olds : List ActorState) (v : View D)
    → PhaseCut told phase olds v v
nothing_done told phase olds v = record {
  fresh = [];
  goes = goes_nowhere told v;
  mids = olds;
  cut = λ k a a' is is'.
      subst (PartCut v.base phase.at phase.lines v.log [] (suc k) a) (one_of (slice_get olds k) a a' is is')
      (not_begun v.base phase.at phase.lines v.log [] (suc k) a refl);
  others = λ by behind. refl;
  same = same_as olds olds refl;
  round = not_begun_round phase.round v.base v.log [] phase.at (reps_of olds) refl;
}
