-- A round, alone on its board.
use Rattle.std.proofs.Common.{◌≡◌, inl, inr, ℕ, List, [], Option, Some, None, refl, sym, subst, ◌∙◌}
use Rattle.std.specs.List.{Contains}
use Rattle.std.proofs.lemmas.List.{append_cancel_left}
use Rattle.disk_trait.specs.Past.{Past}
use Rattle.bbs_board.specs.View.{View}
use Rattle.bbs_model.specs.Calls.{by_number}
use Rattle.bbs_model.specs.PortView.{IsLater}
use Rattle.bbs_model.specs.declared.item.Item.{Item}
use Rattle.bbs_model.specs.declared.item.Item.TheVariants.{Doubt}
use Rattle.bbs_model.specs.declared.reply.CallFault.{CallFault}
use Rattle.bbs_model.specs.declared.reply.CallFault.TheVariants as fault
use Rattle.cell_rep.specs.declared.rep.CellRep.{CellRep}
use Rattle.convergence.specs.declared.report.Report.{Report}
use Rattle.converge_round.specs.Faults.{IsCausedBy, IsDoubtedAt}
use Rattle.converge_round.specs.Items.{HasItems}
use Rattle.converge_round.specs.Reps.{KeepReps}
use Rattle.crash_backoff.specs.declared.moment.Moment.{Moment}
use Rattle.scenario_lines.specs.declared.script.RoundLine.{RoundLine}
use Rattle.phase_actors.specs.declared.actor_state.ActorState.{ActorState}
use Rattle.board_port.specs.Went.{seen_of}
use Rattle.phase_runs.specs.Boards.{IsCalledByOne}
use Rattle.phase_runs.specs.Phases.{CutAlone, IsToldBy, RoundAlone}
use Rattle.phase_runs.specs.Reps.{reps_of, with_reps}
use Rattle.board_port.proofs.Public.{goes_nowhere}
use Rattle.phase_runs.proofs.Parts.{own_sees}

module _ {D : Type 0} (told : D → Option Past) (now : Moment) (v : View D) where
  -- the phase has none
  pub no_round : (round : Option RoundLine) (actors : List ActorState) → round ≡ None
      → RoundAlone told now round actors actors None v v
  no_round round actors none = subst (λ r. RoundAlone told now r actors actors None v v) (sym none) (record {
    fresh = [];
    goes = goes_nowhere told v;
    others = λ by ne. refl;
    ran = (refl, (refl, refl));
  })

  -- it was not begun
  pub no_begin : (line : RoundLine) (mids : List ActorState) → CutAlone told now (Some line) mids v v
  no_begin line mids = record { fresh = []; goes = goes_nowhere told v; others = λ by ne. refl; cut = inl refl }

  module _ (w : View D) (alone : IsCalledByOne told 0 v w) where
    abbrev its : List Item
    its = alone.went.more

    -- an own item of it is one of those that came
    pub own_came : (later : IsLater (seen_of 0 v) (seen_of 0 w)) (i : Item) → Contains later.mine.0 i → Contains its i
    own_came later i inside = subst (λ (xs : List Item). Contains xs i) (same_own ∙ alone.went.own) inside
      where
        same_own : later.mine.0 ≡ by_number 0 its
        same_own = append_cancel_left (by_number 0 v.log) later.mine.0 (by_number 0 its)
            (sym later.mine.1 ∙ (own_sees told 0 alone.name alone.name' v w alone.went).own)

    -- the doubt of a disk fault is one of those that came
    pub tells_fault : (line : RoundLine) (reps reps' : List CellRep) (why : CallFault) (place : ℕ)
        → why ≡ fault.Disk place
        → IsCausedBy 0 (seen_of 0 v) (seen_of 0 w) why → IsToldBy now line reps reps' (seen_of 0 v)
        (seen_of 0 w) its None
    tells_fault line reps reps' why place is cause =
        let doubt : IsDoubtedAt 0 place (seen_of 0 v) (seen_of 0 w) = cause.disk place is in
        (doubt.command, own_came doubt.later (Doubt 0 doubt.command) doubt.own)

    module _ (line : RoundLine) (mids : List ActorState) (items : HasItems 0 now (reps_of mids) (seen_of 0 v)
        (seen_of 0 w)) where
      -- it was held
      pub was_held : (news : List ActorState) (reps : List CellRep) → news ≡ with_reps mids reps
          → KeepReps (reps_of mids) reps
          → (report : Option Report) → IsToldBy now line (reps_of mids) reps (seen_of 0 v) (seen_of 0 w) its report
          → RoundAlone told now (Some line) mids news report v w
      was_held news reps news_are kept report is_told = record {
        fresh = its;
        goes = alone.went.goes;
        others = alone.went.others;
        ran = record {
          first = seen_of 0 v;
          last = seen_of 0 w;
          sees = own_sees told 0 alone.name alone.name' v w alone.went;
          reps = reps;
          news_are = news_are;
          kept = kept;
          items = items;
          told = is_told;
        };
      }

      -- it was cut off
      pub was_cut : CutAlone told now (Some line) mids v w
      was_cut = record {
        fresh = its;
        goes = alone.went.goes;
        others = alone.went.others;
        cut = inr (record {
          first = seen_of 0 v;
          last = seen_of 0 w;
          sees = own_sees told 0 alone.name alone.name' v w alone.went;
          items = items;
        });
      }
