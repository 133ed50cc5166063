-- Phases, one after another, by the log at their end and each longer one.
use Rattle.std.proofs.Common.{◌≡◌, ℕ, suc, List, [], ◌∷◌, ◌++◌, length, get_or, take, Option, Some, refl, sym, ap, subst, ◌∙◌, arith, inl, inr}
use Rattle.std.proofs.lemmas.Option.{slice_get-get_or, slice_get_within}
use Rattle.disk_trait.specs.Past.{Past}
use Rattle.disk_trait.specs.Runs.{Extends}
use Rattle.disk_trait.proofs.Public.{goes_back}
use Rattle.bbs_board.specs.Doubts.{doubts_in}
use Rattle.bbs_board.specs.View.{View}
use Rattle.bbs_model.specs.declared.item.Item.{Item}
use Rattle.bbs_model.specs.declared.rows.Rows.{Rows}
use Rattle.convergence.specs.declared.report.Report.{Report}
use Rattle.converge_round.specs.Askings.{StandApart}
use Rattle.converge_round.specs.Each.{Each}
use Rattle.round_theorem.specs.Accounts.{RoundsHaveAccounts}
use Rattle.round_theorem.specs.Complete.{CompleteRoundsConverge}
use Rattle.scenario_lines.specs.declared.answered.Answered.{Answered}
use Rattle.scenario_lines.specs.declared.script.Phase.{Phase}
use Rattle.scenario_lines.specs.declared.script.Script.{Script}
use Rattle.phase_actors.specs.declared.actor_state.ActorState.{ActorState}
use Rattle.phase_runs.specs.Actors.{LogBegins, PartCut, PartRan}
use Rattle.phase_runs.specs.Boards.{BoardGoesOn}
use Rattle.phase_runs.specs.Phases.{IsRoundCut, PhaseCut, PhaseRan, RoundRan}
use Rattle.phase_runs.specs.Reps.{reps_of}
use Rattle.phase_runs.proofs.Public.{goes_further, goes_nowhere}
use Rattle.scenario_player.specs.Courses.{RunCourse, PlaysPhase}
use Rattle.scenario_player.specs.Plays.{IsUntold}
use Rattle.scenario_player.specs.Wordings.{Wording}
use Rattle.run_theorem.specs.Cuts.{PhaseIsCut}
use Rattle.run_theorem.specs.Ends.{CameTo, EndInTime}
use Rattle.run_theorem.specs.Phases.{Point, PhaseAgrees}
use Rattle.run_theorem.proofs.Agreeing.{actor_agrees, actor_as_cut, actor_cut}
use Rattle.run_theorem.proofs.Logs.{begins_same, begins_taken, begins_then, begins_within}
use Rattle.run_theorem.proofs.Moments.{Stands, between_told, came_to, stands_on}
use Rattle.run_theorem.proofs.Names.{cell_names, names_same}
use Rattle.run_theorem.proofs.Rounds.{its_items, round_agrees, round_as_cut, round_cut}

-- where a course stands, by the length of its log
abbrev pub point_of : {D : Type 0} → RunCourse D → Point
point_of s = record { actors = s.actors; place = length s.board.log; answers = s.answers; reports = s.reports }

module _ {D : Type 0} (told : D → Option Past) (base : Rows) where
  -- phases agree, and they ended one after another, on a board that went on from this one to that one
  pub record AgreesInTime (x w : View D) (phases : List Phase) (s t : Point) : Type 0 where
    pub each : Each (PhaseAgrees base w.log) phases s t
    pub ends : (since : ℕ) (m q : Past) → Stands told since x → told x.disk ≡ Some m → told w.disk ≡ Some q
        → EndInTime base w.log w.marks q m.clock phases s t each

  module _ (converges : CompleteRoundsConverge) (accounts : RoundsHaveAccounts) (wording : Wording)
      (script : Script) where
    -- one phase that was played
    agrees_upto : (phase : Phase) (s t : RunCourse D) (p : PlaysPhase told wording script phase s t) (log : List Item)
        → s.board.base ≡ base
        → StandApart (cell_names s.actors) → LogBegins (s.board.log ++ p.ran.fresh) log
        → PhaseAgrees base log phase (point_of s) (record (point_of t) { place = length (s.board.log ++ p.ran.fresh) })
    agrees_upto phase s t p log base_is apart goes = record {
      calm = ap doubts_in (begins_taken s.board.log log first) ∙ p.calm;
      rises = begins_within s.board.log (s.board.log ++ p.ran.fresh) (p.ran.fresh, refl);
      within = begins_within (s.board.log ++ p.ran.fresh) log goes;
      parts = p.parts;
      report = p.report;
      mids = p.ran.mids;
      count_is = p.ran.count_is;
      same = p.ran.same;
      actors = λ k a a' answers old new part.
          actor_agrees base s.board.log p.ran.fresh log goes (suc k) phase a a' answers
          (subst (λ (r : Rows). PartRan r phase.at phase.lines s.board.log p.ran.fresh (suc k) a a' answers) base_is
          (p.ran.ran k a a' answers old new part));
      round =
          round_agrees base s.board.log p.ran.fresh log goes converges accounts phase.round phase.at p.ran.mids t.actors
          p.report
          (subst StandApart (sym (names_same s.actors p.ran.mids p.ran.same)) apart)
          (subst (λ (r : Rows). RoundRan phase.round r s.board.log p.ran.fresh phase.at p.ran.mids t.actors p.report)
          base_is p.ran.round);
      others = λ by behind. its_items base s.board.log p.ran.fresh log goes by ∙ p.ran.others by behind;
      answers = p.answers;
      reports = p.reports;
    }
      where
        first : LogBegins s.board.log log
        first = begins_then s.board.log (s.board.log ++ p.ran.fresh) log (p.ran.fresh, refl) goes

    phase_agrees : (phase : Phase) (s t : RunCourse D) (p : PlaysPhase told wording script phase s t) (log : List Item)
        → s.board.base ≡ base
        → StandApart (cell_names s.actors) → LogBegins t.board.log log
        → PhaseAgrees base log phase (point_of s) (point_of t)
    phase_agrees phase s t p log base_is apart goes =
        subst (λ (xs : List Item). PhaseAgrees base log phase (point_of s) (record (point_of t) { place = length xs }))
        (sym p.ran.goes.grows)
        (agrees_upto phase s t p log base_is apart (subst (λ (xs : List Item). LogBegins xs log) p.ran.goes.grows goes))

    -- all that were played, one after another
    pub record Agreed (phases : List Phase) (s t : RunCourse D) : Type 0 where
      pub base_is : t.board.base ≡ base
      pub fresh : List Item
      pub goes : BoardGoesOn told fresh s.board t.board
      pub apart : StandApart (cell_names t.actors)
      pub each : (w : View D) (more : List Item) → BoardGoesOn told more t.board w
          → AgreesInTime s.board w phases (point_of s) (point_of t)

    -- one more before others
    one_more : (phase : Phase) (phases : List Phase) (s m t : RunCourse D) (p : PlaysPhase told wording script phase s m)
        → s.board.base ≡ base → StandApart (cell_names s.actors) → Agreed phases m t → (w : View D) (more : List Item)
        → BoardGoesOn told more t.board w
        → AgreesInTime s.board w (phase ∷ phases) (point_of s) (point_of t)
    one_more phase phases s m t p base_is apart rest w more goes =
        let behind : List Item = rest.fresh ++ more in
        let later : BoardGoesOn told behind m.board w = goes_further told m.board t.board w rest.fresh more rest.goes goes in
        let others = rest.each w more goes in
        record {
          each = (point_of m, phase_agrees phase s m p w.log base_is apart (behind, later.grows), others.each);
          ends = λ since a q stands a_is q_is.
              let (b, b_is, on) = goes_back (told m.board.disk) (told w.disk) Extends later.disk q q_is in
              let now = stands_on told since s.board m.board p.ran.fresh p.ran.goes stands in (
                b.clock,
                (between_told (told s.board.disk) (told m.board.disk) Extends a b a_is b_is p.ran.goes.disk).later,
                subst (λ (r : Rows). CameTo r w.log w.marks q (length m.board.log) b.clock) (p.ran.goes.base ∙ base_is)
                    (came_to told since m.board w behind later now b q b_is q_is),
                others.ends since b q now b_is q_is,
              );
        }

    pub phases_agree : (phases : List Phase) (s t : RunCourse D) → Each (PlaysPhase told wording script) phases s t
        → s.board.base ≡ base
        → StandApart (cell_names s.actors) → Agreed phases s t
    phases_agree [] s t same base_is apart = subst (Agreed [] s) (sym same) (record {
      base_is = base_is;
      fresh = [];
      goes = goes_nowhere told s.board;
      apart = apart;
      each = λ w more goes. record {
        each = refl;
        ends = λ since m q stands m_is q_is.
            (between_told (told s.board.disk) (told w.disk) Extends m q m_is q_is goes.disk).later;
      };
    })
    phases_agree (phase ∷ phases) s t (m, plays, others) base_is apart =
        let rest =
        phases_agree phases m t others (plays.ran.goes.base ∙ base_is)
        (subst StandApart (sym (names_same s.actors m.actors plays.ran.kept)) apart) in
        record {
          base_is = rest.base_is;
          fresh = plays.ran.fresh ++ rest.fresh;
          goes = goes_further told s.board m.board t.board plays.ran.fresh rest.fresh plays.ran.goes rest.goes;
          apart = rest.apart;
          each = one_more phase phases s m t plays base_is apart rest;
        }

  -- a phase that was cut off is the last of the log
  module _ (phase : Phase) (s : RunCourse D) (calm : doubts_in s.board.log ≡ 0) (base_is : s.board.base ≡ base) where
    calm_there : (fresh : List Item) → doubts_in (take (length s.board.log) (s.board.log ++ fresh)) ≡ 0
    calm_there fresh = ap doubts_in (begins_taken s.board.log (s.board.log ++ fresh) (fresh, refl)) ∙ calm

    was_cut : (w : View D) (cut : PhaseCut told phase s.actors s.board w)
        → PhaseIsCut base (s.board.log ++ cut.fresh) phase (point_of s)
    was_cut w cut = record {
      calm = calm_there cut.fresh;
      mids = cut.mids;
      same = cut.same;
      actors = λ k a a' old new.
          actor_cut base s.board.log cut.fresh (s.board.log ++ cut.fresh) (begins_same (s.board.log ++ cut.fresh))
          (suc k) phase a a'
          (subst (λ (r : Rows). PartCut r phase.at phase.lines s.board.log cut.fresh (suc k) a a') base_is
          (cut.cut k a a' old new));
      round =
          round_cut base s.board.log cut.fresh (s.board.log ++ cut.fresh)
          (begins_same (s.board.log ++ cut.fresh)) phase.round phase.at (reps_of cut.mids)
          (subst (λ (r : Rows). IsRoundCut phase.round r s.board.log cut.fresh phase.at (reps_of cut.mids)) base_is
          cut.round);
      others = λ by behind.
          its_items base s.board.log cut.fresh (s.board.log ++ cut.fresh)
          (begins_same (s.board.log ++ cut.fresh)) by ∙ cut.others by behind;
    }

    was_untold : (w : View D) (news : List ActorState) (parts : List (List Answered)) (report : Option Report)
        (ran : PhaseRan told phase s.actors news parts report s.board w)
        → PhaseIsCut base (s.board.log ++ ran.fresh) phase (point_of s)
    was_untold w news parts report ran = record {
      calm = calm_there ran.fresh;
      mids = ran.mids;
      same = ran.same;
      actors = λ k a a' old new.
          actor_as_cut base s.board.log ran.fresh (s.board.log ++ ran.fresh) (begins_same (s.board.log ++ ran.fresh))
          (suc k) phase a
          a' (get_or parts k [])
          (subst (λ (r : Rows). PartRan r phase.at phase.lines s.board.log ran.fresh (suc k) a a' (get_or parts k []))
          base_is
          (ran.ran k a a' (get_or parts k []) old new
          (slice_get-get_or parts k [] (omega (arith, slice_get_within s.actors k a old, ran.count_is)))));
      round =
          round_as_cut base s.board.log ran.fresh (s.board.log ++ ran.fresh)
          (begins_same (s.board.log ++ ran.fresh)) phase.round phase.at ran.mids news report
          (subst (λ (r : Rows). RoundRan phase.round r s.board.log ran.fresh phase.at ran.mids news report) base_is
          ran.round);
      others = λ by behind.
          its_items base s.board.log ran.fresh (s.board.log ++ ran.fresh)
          (begins_same (s.board.log ++ ran.fresh)) by ∙ ran.others by behind;
    }

    -- so is one of which nothing was told
    pub is_cut : (w : View D) → IsUntold told phase s.actors s.board w → PhaseIsCut base w.log phase (point_of s)
    is_cut w (inl cut) = subst (λ (xs : List Item). PhaseIsCut base xs phase (point_of s)) (sym cut.goes.grows)
        (was_cut w cut)
    is_cut w (inr (news, parts, report, ran)) =
        subst (λ (xs : List Item). PhaseIsCut base xs phase (point_of s)) (sym ran.goes.grows)
        (was_untold w news parts report ran)
