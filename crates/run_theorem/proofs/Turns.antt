-- The runs of lines over a port, one after another.
use Rattle.std.proofs.Common.{◌≡◌, ℕ, List, [], ◌∷◌, ◌++◌, map, refl, sym, ap, subst, ◌⊎◌, inl, inr}
use Rattle.bbs_model.specs.PortView.{PortView}
use Rattle.cell_rep.specs.declared.call_end.Called.{Called}
use Rattle.crash_backoff.specs.declared.moment.Moment.{Moment}
use Rattle.scenario_lines.specs.declared.answered.Answered.{Answered}
use Rattle.phase_actors.specs.Turns.{line_answer, IsCutAt, IsCutShort, TakesTurns, Turn}
use Rattle.phase_actors.specs.declared.actor_state.ActorState.{ActorState}
use Rattle.run_theorem.specs.Actors.{DoesFirst, DoesNoneWhole, DoesTurns, DrainsAlone}
use Rattle.run_theorem.proofs.Calls.{Says, says_none, says_then}
use Rattle.run_theorem.proofs.Doings.{cut_run, did_run}

module _ (by : ℕ) (now : Moment) where
  -- the runs of lines, one after another
  pub record DidTurns (ts : List Turn) (a : ActorState) (v : PortView) (answers : List Answered) (a' : ActorState)
      (w : PortView) : Type 0 where
    pub does : DoesTurns by now ts a answers a'
    pub says : Says answers v w

  pub did_turns : (ts : List Turn) (a : ActorState) (v : PortView) (answers : List Answered) (a' : ActorState)
      (w : PortView)
      → TakesTurns by now ts a v answers a' w → DidTurns ts a v answers a' w
  did_turns [] a v answers a' w h = record {
    does = (h.0, h.1.0);
    says = subst (λ (xs : List Answered). Says xs v w) (sym h.0)
        (subst (λ (x : PortView). Says [] v x) (sym h.1.1) (says_none v));
  }
  did_turns (t ∷ ts) a v answers a' w (first, rest, mid, m, answers_are, run, others) =
      let one = did_run by t.line now t.act t.mark a mid v m first run in
      let more = did_turns ts mid m rest a' w others in
      record {
        does = (first, rest, mid, answers_are, one.does, more.does);
        says = subst (λ (xs : List Answered). Says xs v w) (sym answers_are)
            (says_then (map (line_answer by t.line) first) rest v m w one.says more.says);
      }

  -- the first of them, and perhaps the drain of the next
  pub record DidFirst (ts : List Turn) (a : ActorState) (v : PortView) (a' : ActorState) (w : PortView) : Type 0 where
    pub answers : List Answered
    pub does : DoesFirst by now ts a answers a'
    pub says : Says answers v w

  record Behind (rest : List Turn) (a : ActorState) (v : PortView) (a' : ActorState) (w : PortView) : Type 0 where
    answers : List Answered
    does : DoesNoneWhole by now rest a answers a'
    says : Says answers v w

  none_whole : (t : Turn) (a a' : ActorState) (calls : List Called)
      → ((calls ≡ []) × (a' ≡ a)) ⊎ ((drain : Called) × (calls ≡ drain ∷ []) × DrainsAlone now t.act t.mark a drain a')
      → (ts : List Turn) → DoesNoneWhole by now (t ∷ ts) a (map (line_answer by t.line) calls) a'
  none_whole t a a' calls (inl h) ts = inl (ap (map (line_answer by t.line)) h.0, h.1)
  none_whole t a a' calls (inr h) ts = inr (h.0, ap (map (line_answer by t.line)) h.1, h.2)

  behind_cut : (rest : List Turn) (a : ActorState) (v : PortView) (a' : ActorState) (w : PortView)
      → IsCutAt by now rest a v a' w → Behind rest a v a' w
  behind_cut [] a v a' w h = record {
    answers = [];
    does = (refl, h.0);
    says = subst (λ (x : PortView). Says [] v x) (sym h.1) (says_none v);
  }
  behind_cut (t ∷ ts) a v a' w (inl h) = record {
    answers = [];
    does = inl (refl, h.0);
    says = subst (λ (x : PortView). Says [] v x) (sym h.1) (says_none v);
  }
  behind_cut (t ∷ ts) a v a' w (inr h) =
      let cut = cut_run by t.line now t.act t.mark a a' v w h.0 h.1 in
      record {
        answers = map (line_answer by t.line) h.0;
        does = none_whole t a a' h.0 cut.does ts;
        says = cut.says;
      }

  pub did_first : (ts : List Turn) (a : ActorState) (v : PortView) (a' : ActorState) (w : PortView)
      → IsCutShort by now ts a v a' w → DidFirst ts a v a' w
  did_first ts a v a' w h =
      let whole = did_turns h.done a v h.new h.mid h.middle h.taken in
      let behind = behind_cut h.rest h.mid h.middle a' w h.cut in
      record {
        answers = h.new ++ behind.answers;
        does = record {
          done = h.done;
          rest = h.rest;
          split = h.split;
          first = h.new;
          behind = behind.answers;
          answers_are = refl;
          mid = h.mid;
          did = whole.does;
          cut = behind.does;
        };
        says = says_then h.new behind.answers v h.middle w whole.says behind.says;
      }
