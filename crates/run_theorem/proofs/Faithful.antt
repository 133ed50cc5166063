-- A scenario that was played is faithful, in each of its ends.
use Rattle.std.proofs.Common.{◌≡◌, ◌⊎◌, ℕ, false, List, [], ◌∷◌, ◌++◌, length, Option, Some, refl, sym, ap, subst, ◌∙◌, append_assoc, arith, inl, inr}
use Rattle.std.specs.List.{Contains}
use Rattle.std.proofs.lemmas.List.Elements.{All-contains, All-nil, Contains-append_left}
use Rattle.disk_trait.specs.Past.{Past}
use Rattle.bbs_board.specs.View.{IsFresh, View}
use Rattle.bbs_laws.specs.Laws.{CompletesOnce}
use Rattle.bbs_model.specs.Replay.{IsLawful}
use Rattle.bbs_model.specs.Valid.{IsValid}
use Rattle.bbs_model.specs.declared.item.Item.{Item}
use Rattle.bbs_model.specs.declared.rows.Rows.{Rows}
use Rattle.board_port.specs.Going.{BoardGoesOn, LeavesBoard}
use Rattle.convergence.specs.declared.report.Report.{Report}
use Rattle.converge_round.specs.Each.{Each}
use Rattle.program_ends.specs.declared.ending.Ending.{Ending}
use Rattle.program_ends.specs.declared.ending.Ending.TheVariants as ending
use Rattle.round_theorem.specs.Accounts.{RoundsHaveAccounts}
use Rattle.round_theorem.specs.Complete.{CompleteRoundsConverge}
use Rattle.scenario_lines.specs.declared.answered.Answered.{Answered}
use Rattle.scenario_lines.specs.declared.script.Phase.{Phase}
use Rattle.scenario_lines.specs.declared.script.Script.{Script}
use Rattle.scenario_reader.specs.Facts.{IsScript}
use Rattle.phase_actors.specs.Runs.{is_starved_end}
use Rattle.phase_runs.proofs.Public.{goes_nowhere}
use Rattle.scenario_player.specs.Courses.{beginning, PlaysPhase, RunCourse}
use Rattle.scenario_player.specs.Plays.{IsCutIn, IsUntold, Plays, PlaysCut, PlaysPart, PlaysUnsummed, PlaysWhole, RanFirst}
use Rattle.scenario_player.specs.Wordings.{Wording}
use Rattle.run_theorem.specs.Answers.{IsTrueOf}
use Rattle.run_theorem.specs.Ends.{PhasesEndInTime}
use Rattle.run_theorem.specs.Headline.{RunEndsAt, IsFaithful, outset}
use Rattle.run_theorem.specs.Laws.{PlayedPhasesEndInTime, PlayedRunsAreFaithful}
use Rattle.run_theorem.proofs.Moments.{stands_first}
use Rattle.run_theorem.proofs.Names.{names_apart}
use Rattle.run_theorem.proofs.PhasesAgree.{Agreed, AgreesInTime, is_cut, point_of, phases_agree}
use Rattle.run_theorem.proofs.Said.{fed_phases, reports_converge, served_where_legal, true_phases}

-- one step more behind others
each_last : {X S : Type 0} (Step : X → S → S → Type 0) (xs : List X) (x : X) (s m t : S) → Each Step xs s m → Step x m t
    → Each Step (xs ++ x ∷ []) s t
each_last Step [] x s m t same step = (t, subst (λ a. Step x a t) same step, refl)
each_last Step (y ∷ xs) x s m t each step = (each.0, each.1, each_last Step xs x each.0 m t each.2 step)

-- no task gets its outcome twice
abbrev pub TasksCompleteOnce : Type 0
TasksCompleteOnce = (base : Rows) (log : List Item) (birth : ℕ) → IsValid base → IsLawful base log
    → CompletesOnce base log birth

module _ {D : Type 0} (told : D → Option Past) (once : TasksCompleteOnce) (converges : CompleteRoundsConverge)
    (accounts : RoundsHaveAccounts) (wording : Wording) (script : Script)
    (is_script : IsScript script) (v : View D) (fresh : v.log ≡ []) (valid : IsValid v.base) where
  -- a run up to this board is faithful; and if the first one had done nothing, its phases ended one after another
  record IsPlayed (how : Ending) (answers : List Answered) (reports : List Report) (w : View D) : Type 0 where
    pub run : IsFaithful script how answers reports v.base w.log
    pub ended : IsFresh v → (p q : Past) → told v.disk ≡ Some p → told w.disk ≡ Some q → LeavesBoard v.base p
        → PhasesEndInTime w.marks q p.clock run

  agreed : (ran rest : List Phase) (s : RunCourse D) → RanFirst told wording script v ran rest s
      → Agreed told v.base converges accounts wording script ran (beginning script v) s
  agreed ran rest s first =
      phases_agree told v.base converges accounts wording script ran (beginning script v) s first.each refl
      (names_apart script.actors is_script.distinct)

  -- the first phases ran, and the board went on from theirs
  faithful : (how : Ending) (answers : List Answered) (reports : List Report) (w : View D) (ran rest : List Phase)
      (s : RunCourse D)
      → RanFirst told wording script v ran rest s → IsLawful v.base w.log → answers ≡ s.answers → reports ≡ s.reports
      → (more : List Item) → BoardGoesOn told more s.board w
      → RunEndsAt how v.base w.log rest (point_of s) → IsPlayed how answers reports w
  faithful how answers reports w ran rest s first lawful answers_are reports_are more goes ends = record {
    run = record {
      replies = λ a inside. its_true a inside;
      refused = λ a inside. served_where_legal v.base w.log a (its_true a inside);
      fed = λ a inside.
          All-contains (λ (x : Answered). is_starved_end x.end ≡ false) s.answers a
          (fed_phases v.base w.log ran (outset script) (point_of s) in_time.each
          (All-nil (λ (x : Answered). is_starved_end x.end ≡ false)))
          (subst (λ (xs : List Answered). Contains xs a) answers_are inside);
      order = record {
        ended = ran;
        rest = rest;
        split = first.split;
        last = point_of s;
        each = in_time.each;
        answers_are = answers_are;
        reports_are = reports_are;
        ends = ends;
      };
      once = λ birth. once v.base w.log birth valid lawful;
      rounds = λ r inside.
          reports_converge v.base w.log script ran (outset script) (point_of s) among in_time.each
          (λ q none complete. absurd (omega (arith, none.1))) r
          (subst (λ (xs : List Report). Contains xs r) reports_are inside);
    };
    ended = λ begun p q p_is q_is leaves. in_time.ends p.clock p q (stands_first told v p p_is begun leaves) p_is q_is;
  }
    where
      in_time : AgreesInTime told v.base v w ran (outset script) (point_of s)
      in_time =
          subst (λ (n : ℕ). AgreesInTime told v.base v w ran
          (record (outset script) { place = n }) (point_of s)) (ap length fresh)
          ((agreed ran rest s first).each w more goes)

      its_true : (a : Answered) → Contains answers a → IsTrueOf v.base w.log a
      its_true a inside =
          All-contains (IsTrueOf v.base w.log) s.answers a
          (true_phases v.base w.log ran (outset script) (point_of s) in_time.each (All-nil (IsTrueOf v.base w.log)))
          (subst (λ (xs : List Answered). Contains xs a) answers_are inside)

      among : (p : Phase) → Contains ran p → Contains script.phases p
      among p inside = subst (λ (xs : List Phase). Contains xs p) (sym first.split)
          (Contains-append_left ran rest p inside)

  module _ (answers : List Answered) (reports : List Report) (w : View D) (lawful : IsLawful v.base w.log) where
    -- the board is as the last phase left it
    at_last : (how : Ending) (ran rest : List Phase) (s : RunCourse D) → RanFirst told wording script v ran rest s
        → answers ≡ s.answers → reports ≡ s.reports
        → w ≡ s.board → (length s.board.log ≡ length w.log → RunEndsAt how v.base w.log rest (point_of s))
        → IsPlayed how answers reports w
    at_last how ran rest s first answers_are reports_are board ends =
        faithful how answers reports w ran rest s first lawful answers_are reports_are []
        (subst (λ (x : View D). BoardGoesOn told [] s.board x) (sym board) (goes_nowhere told s.board))
        (ends (ap (λ (x : View D). length x.log) (sym board)))

    module _ (held held' : Option (List ℕ)) (faults faults' : ℕ) where
      whole_done : PlaysWhole told wording script ending.Done answers reports v w held held' faults faults'
          → IsPlayed ending.Done answers reports w
      whole_done p =
          at_last ending.Done p.ran p.rest p.last p.ends.first p.ends.answers_are p.ends.reports_are p.ends.board
          (λ e. (e, p.over.0, p.over.1))

      whole_doubt : PlaysWhole told wording script ending.Doubt answers reports v w held held' faults faults'
          → IsPlayed ending.Doubt answers reports w
      whole_doubt p =
          at_last ending.Doubt p.ran p.rest p.last p.ends.first p.ends.answers_are p.ends.reports_are p.ends.board
          (λ e. (e, p.over))

      unsummed : PlaysUnsummed told wording script answers reports v w held held' faults faults'
          → IsPlayed ending.Unwritten answers reports w
      unsummed p =
          at_last ending.Unwritten p.ran p.rest p.last p.ends.first p.ends.answers_are p.ends.reports_are p.ends.board
          (λ e. e)

      part : PlaysPart told wording script answers reports v w held held' faults faults'
          → IsPlayed ending.Unwritten answers reports w
      part p =
          at_last ending.Unwritten (p.ran ++ p.phase ∷ []) p.rest p.last
          (record {
            split = p.first.split ∙ sym (append_assoc p.ran (p.phase ∷ []) p.rest);
            each = each_last (PlaysPhase told wording script) p.ran p.phase
                (beginning script v) p.before p.last p.first.each p.plays;
          })
          p.answers_are p.reports_are p.board (λ e. e)

      untold_goes : (phase : Phase) (s : RunCourse D) → IsUntold told phase s.actors s.board w
          → (more : List Item) × BoardGoesOn told more s.board w
      untold_goes phase s (inl cut) = (cut.fresh, cut.goes)
      untold_goes phase s (inr (news, parts, report, ran)) = (ran.fresh, ran.goes)

      cut_off : (p : PlaysCut told wording script answers reports v w held held' faults faults')
          → IsCutIn told p.last p.rest w
          → IsPlayed ending.OutOfMemory answers reports w
      cut_off p cut =
          let on = untold_goes cut.phase p.last cut.untold in
          faithful ending.OutOfMemory answers reports w p.ran p.rest p.last p.first lawful p.answers_are
          p.reports_are on.0 on.1
          (inr (record {
            phase = cut.phase;
            more = cut.more;
            split = cut.split;
            cut = is_cut told v.base cut.phase p.last cut.calm
                (agreed p.ran p.rest p.last p.first).base_is w cut.untold;
          }))

      starved : (p : PlaysCut told wording script answers reports v w held held' faults faults')
          → (w ≡ p.last.board) ⊎ IsCutIn told p.last p.rest w
          → IsPlayed ending.OutOfMemory answers reports w
      starved p (inl board) = at_last ending.OutOfMemory p.ran p.rest p.last p.first p.answers_are p.reports_are board
          (λ e. inl e)
      starved p (inr cut) = cut_off p cut

      unwritten : PlaysPart told wording script answers reports v w held held' faults faults'
          ⊎ PlaysUnsummed told wording script answers reports v w held held' faults faults'
          → IsPlayed ending.Unwritten answers reports w
      unwritten (inl p) = part p
      unwritten (inr p) = unsummed p

      played : (how : Ending) → Plays told wording script how answers reports v w held held' faults faults'
          → IsPlayed how answers reports w
      played ending.Done p = whole_done p
      played ending.Doubt p = whole_doubt p
      played ending.Unwritten p = unwritten p
      played ending.OutOfMemory p = starved p p.board
      played ending.Usage p = absurd p
      played (ending.Script fault) p = absurd p
      played ending.Read p = absurd p
      played ending.Unopened p = absurd p
      played (ending.NotABoard area) p = absurd p
      played (ending.Damaged area at) p = absurd p
      played ending.TooLong p = absurd p
      played ending.Exists p = absurd p

-- the law of runs
pub played_faithful : {D : Type 0} (told : D → Option Past) → TasksCompleteOnce → CompleteRoundsConverge
    → RoundsHaveAccounts → PlayedRunsAreFaithful told
played_faithful told once converges accounts wording script how answers reports v w held held' faults faults' is_script
    fresh valid lawful plays =
    (played told once converges accounts wording script is_script v fresh valid answers reports w lawful held held'
    faults faults' how plays).run

pub played_in_time : {D : Type 0} (told : D → Option Past) → TasksCompleteOnce → CompleteRoundsConverge
    → RoundsHaveAccounts → PlayedPhasesEndInTime told
played_in_time told once converges accounts wording script how answers reports v w held held' faults faults' is_script
    fresh valid lawful plays =
    let it =
    played told once converges accounts wording script is_script v fresh.log valid answers reports w lawful held held'
    faults faults' how plays in
    record { faithful = it.run; ends = λ p p_is q q_is leaves. it.ended fresh p q p_is q_is leaves }
