-- What an actor did over a port: which calls it made, and what they say.
use Rattle.std.proofs.Common.{◌≡◌, ℕ, Bool, true, false, List, [], ◌∷◌, ◌++◌, map, Option, None, refl, sym, ap, subst, ◌∙◌, ◌⊎◌, inl, inr}
use Rattle.std.specs.Prelude.{MatchBool}
use Rattle.bbs_model.specs.PortView.{PortView}
use Rattle.bbs_model.specs.Work.{at}
use Rattle.cell_rep.specs.Acts.{begun, drain_todo, plan}
use Rattle.cell_rep.specs.Follows.{Acts, after_todo, EndsOf, Follows, IsAnswer, moved_by, Stage, stage}
use Rattle.cell_rep.specs.Wires.{WireEnds}
use Rattle.cell_rep.specs.declared.call_end.CallEnd.TheVariants as end
use Rattle.cell_rep.specs.declared.call_end.Called.{Called}
use Rattle.cell_rep.specs.declared.cell_act.CellAct.{CellAct}
use Rattle.cell_rep.specs.declared.cell_act.CellAct.TheVariants as cell
use Rattle.cell_rep.specs.declared.rep.CellRep.{CellRep}
use Rattle.cell_rep.specs.declared.todo.Todo.{Todo}
use Rattle.cell_rep.specs.declared.todo.Todo.TheVariants.{Call, Idle, Local}
use Rattle.crash_backoff.specs.declared.moment.Moment.{Moment}
use Rattle.evacuation.specs.Evacuation.{Evacuates, HasDrained as DrainMade, is_agreed}
use Rattle.scenario_lines.specs.declared.act.Act.{Act}
use Rattle.scenario_lines.specs.declared.act.Act.TheVariants as act
use Rattle.scenario_lines.specs.declared.act.Loss.{Loss}
use Rattle.phase_actors.specs.Marks.{ends_under}
use Rattle.phase_actors.specs.Runs.{HasActed, HasRun, IsCutRun}
use Rattle.phase_actors.specs.Turns.{line_answer}
use Rattle.phase_actors.specs.declared.actor_state.ActorState.{ActorState}
use Rattle.phase_actors.specs.declared.actor_state.ActorState.TheVariants as actor
use Rattle.run_theorem.specs.Actors.{DoesOnce, DrainsAlone, FitsWire, HasDone, HasEmptied}
use Rattle.run_theorem.proofs.Calls.{Says, says_delivered, says_none, says_nothing, says_then}

-- what was done over a port was done
has_done : (by : ℕ) (cell : List ℕ) (ends : Option WireEnds) (ts : List Todo) (rep : CellRep) (v : PortView)
    (as' : List Called)
    (rep' : CellRep) (w : PortView) → Follows by cell ends ts rep v as' rep' w → HasDone cell ends ts rep as' rep'
has_done by cell ends [] rep v [] rep' w f = f.0
has_done by cell ends [] rep v (a ∷ as') rep' w f = absurd f
has_done by cell ends (t ∷ ts) rep v [] rep' w f = absurd f
has_done by cell ends (t ∷ ts) rep v (a ∷ as') rep' w f = (
  f.1,
  fits_wire by cell ends t v a f.0 f.2,
  has_done by cell (moved_by t ends) ts
      (after_todo t a.end rep) f.0 as' rep' w f.3,
)
  where
    fits_wire : (by : ℕ) (cell : List ℕ) (ends : Option WireEnds) (t : Todo) (v : PortView) (a : Called) (m : PortView)
        → EndsOf by cell ends t v a m
        → FitsWire cell ends t a.end
    fits_wire by cell ends (Call c) v a m e = e.0
    fits_wire by cell ends Idle v a m e = tt
    fits_wire by cell ends (Local why) v a m e = tt

module _ (by line : ℕ) where
  -- one thing that was to be done
  says_todo : (cell : List ℕ) (ends : Option WireEnds) (t : Todo) (v : PortView) (a : Called) (m : PortView)
      → IsAnswer t a → EndsOf by cell ends t v a m
      → Says (line_answer by line a ∷ []) v m
  says_todo cell ends (Call c) v a m is e =
      subst (λ k. Says (record { actor = by; line = line; command = k; end = a.end } ∷ []) v m) (sym is)
      (says_delivered by line v c a.end m e.1)
  says_todo cell ends Idle v a m is e =
      subst (λ (x : PortView). Says (line_answer by line a ∷ []) v x) (sym e)
      (subst (λ (x : Called). Says (line_answer by line x ∷ []) v v) (sym is)
      (says_nothing (record { actor = by; line = line; command = None; end = end.Idle }) v refl refl))
  says_todo cell ends (Local why) v a m is e =
      subst (λ (x : PortView). Says (line_answer by line a ∷ []) v x) (sym e)
      (subst (λ (x : Called). Says (line_answer by line x ∷ []) v v) (sym is)
      (says_nothing (record { actor = by; line = line; command = None; end = end.Local why }) v refl refl))

  -- all of it
  says_follows : (cell : List ℕ) (ends : Option WireEnds) (ts : List Todo) (rep : CellRep) (v : PortView)
      (as' : List Called) (rep' : CellRep) (w : PortView)
      → Follows by cell ends ts rep v as' rep' w → Says (map (line_answer by line) as') v w
  says_follows cell ends [] rep v [] rep' w f = subst (Says [] v) (sym f.1) (says_none v)
  says_follows cell ends [] rep v (a ∷ as') rep' w f = absurd f
  says_follows cell ends (t ∷ ts) rep v [] rep' w f = absurd f
  says_follows cell ends (t ∷ ts) rep v (a ∷ as') rep' w f =
      says_then (line_answer by line a ∷ []) (map (line_answer by line) as') v f.0 w
      (says_todo cell ends t v a f.0 f.1 f.2)
      (says_follows cell (moved_by t ends) ts (after_todo t a.end rep) f.0 as' rep' w f.3)

  -- what was done once, and what was said
  pub record Did (Does : List Called → Type 0) (calls : List Called) (v w : PortView) : Type 0 where
    pub does : Does calls
    pub says : Says (map (line_answer by line) calls) v w

  module _ (now : Moment) (mark : Option Loss) (rep : CellRep) (v : PortView) where
    -- an act of a cell
    did_act : (c : CellAct) (rep' : CellRep) (w : PortView) (calls : List Called)
        → HasActed (Acts by c now) mark rep rep' v w calls
        → Did (λ (xs : List Called). HasDone rep.cell (ends_under mark) (plan c now rep) (begun c rep) xs rep') calls v
        w
    did_act c rep' w calls h =
        subst (λ (xs : List Called). Did (λ (ys : List Called).
        HasDone rep.cell (ends_under mark) (plan c now rep) (begun c rep) ys rep') xs v w) (sym h.does.out_is)
        (record {
          does = has_done by rep.cell (ends_under mark) (plan c now rep)
              (begun c rep) v h.does.new rep' w h.does.follows;
          says = says_follows rep.cell (ends_under mark) (plan c now rep)
              (begun c rep) v h.does.new rep' w h.does.follows;
        })

    -- the drain
    did_drain : (m : Stage) (a : Called) → DrainMade by now (stage rep v (ends_under mark) 0 []) m a
        → Did (λ (xs : List Called). HasDone rep.cell (ends_under mark)
        (drain_todo now rep.cell rep.joined ∷ []) rep xs m.rep) (a ∷ []) v m.view
    did_drain m a h =
        subst (λ (xs : List Called). Did (λ (ys : List Called).
        HasDone rep.cell (ends_under mark) (drain_todo now rep.cell rep.joined ∷ []) rep ys m.rep) xs v m.view)
        (sym h.performs.out_is ∙ h.out_is)
        (record {
          does = has_done by rep.cell (ends_under mark) (drain_todo now rep.cell rep.joined ∷ []) rep v h.performs.new
              m.rep m.view h.performs.follows;
          says = says_follows rep.cell (ends_under mark) (drain_todo now rep.cell rep.joined ∷ []) rep v h.performs.new
              m.rep m.view h.performs.follows;
        })

    -- what followed it
    record Settled (agreed : Bool) (m w : Stage) (a : Called) : Type 0 where
      behind : List Called
      calls_are : w.out ≡ m.out ++ behind
      does : MatchBool agreed (HasDone m.rep.cell m.ends (plan cell.Settle now m.rep)
          (begun cell.Settle m.rep) behind w.rep)
          ((behind ≡ []) × (w.rep ≡ m.rep))
      says : Says (map (line_answer by line) behind) m.view w.view

    settled : (agreed : Bool) (m w : Stage) (a : Called) → MatchBool agreed (Acts by cell.Settle now m w) (w ≡ m)
        → Settled agreed m w a
    settled true m w a h = record {
      behind = h.new;
      calls_are = h.out_is;
      does = has_done by m.rep.cell m.ends (plan cell.Settle now m.rep)
          (begun cell.Settle m.rep) m.view h.new w.rep w.view h.follows;
      says = says_follows m.rep.cell m.ends (plan cell.Settle now m.rep)
          (begun cell.Settle m.rep) m.view h.new w.rep w.view h.follows;
    }
    settled false m w a h = record {
      behind = [];
      calls_are = ap (λ (s : Stage). s.out) h ∙ sym (nothing_behind m.out);
      does = (refl, ap (λ (s : Stage). s.rep) h);
      says = subst (λ (s : Stage). Says [] m.view s.view) (sym h) (says_none m.view);
    }
      where
        nothing_behind : (xs : List Called) → xs ++ [] ≡ xs
        nothing_behind [] = refl
        nothing_behind (x ∷ xs) = ap (λ (ys : List Called). x ∷ ys) (nothing_behind xs)

    -- an evacuation
    did_empty : (rep' : CellRep) (w : PortView) (calls : List Called)
        → HasActed (Evacuates by now) mark rep rep' v w calls
        → Did (λ (xs : List Called). HasEmptied now mark rep xs rep') calls v w
    did_empty rep' w calls h = record {
      does = record {
        drain = a;
        mid = m.rep;
        drained = drained.does;
        behind = rest.behind;
        calls_are = calls_are;
        settled = subst (λ (e : Option WireEnds). MatchBool (is_agreed a.end)
            (HasDone m.rep.cell e (plan cell.Settle now m.rep) (begun cell.Settle m.rep) rest.behind rep')
            ((rest.behind ≡ []) × (rep' ≡ m.rep))) h.does.drained.performs.ends_are rest.does;
      };
      says = subst (λ (xs : List Called). Says (map (line_answer by line) xs) v w) (sym calls_are)
          (says_then (line_answer by line a ∷ []) (map (line_answer by line) rest.behind) v m.view w drained.says
          rest.says);
    }
      where
        m : Stage
        m = h.does.middle

        a : Called
        a = h.does.answer

        drained : Did (λ (xs : List Called). HasDone rep.cell (ends_under mark)
            (drain_todo now rep.cell rep.joined ∷ []) rep xs h.does.middle.rep)
            (h.does.answer ∷ []) v h.does.middle.view
        drained = did_drain h.does.middle h.does.answer h.does.drained

        rest : Settled (is_agreed h.does.answer.end) h.does.middle (stage rep' w h.ends h.losses calls) h.does.answer
        rest = settled (is_agreed h.does.answer.end) h.does.middle
            (stage rep' w h.ends h.losses calls) h.does.answer h.does.settled

        calls_are : calls ≡ h.does.answer ∷ rest.behind
        calls_are = rest.calls_are ∙ ap (λ (xs : List Called). xs ++ rest.behind) h.does.drained.out_is

  -- one run of a line
  pub did_run : (now : Moment) (d : Act) (mark : Option Loss) (a a' : ActorState) (v w : PortView) (calls : List Called)
      → HasRun by now d mark a a' v w calls
      → Did (λ (xs : List Called). DoesOnce now d mark a xs a') calls v w
  did_run now (act.Client op) mark (actor.Client name) a' v w calls (same, h) = record {
    does = (same, record { end = h.end; fits = h.fits_mark; calls_are = h.new_is });
    says = subst (λ (xs : List Called). Says (map (line_answer by line) xs) v w) (sym h.new_is)
        (says_delivered by line v (at now op) h.end w h.delivered);
  }
  did_run now (act.Client op) mark (actor.Cell rep) a' v w calls h = absurd h
  did_run now (act.Cell c) mark (actor.Client name) a' v w calls h = absurd h
  did_run now (act.Cell c) mark (actor.Cell rep) (actor.Client name) v w calls h = absurd h
  did_run now (act.Cell c) mark (actor.Cell rep) (actor.Cell rep') v w calls h =
      let d = did_act now mark rep v c rep' w calls h in record { does = d.does; says = d.says }
  did_run now act.Evacuate mark (actor.Client name) a' v w calls h = absurd h
  did_run now act.Evacuate mark (actor.Cell rep) (actor.Client name) v w calls h = absurd h
  did_run now act.Evacuate mark (actor.Cell rep) (actor.Cell rep') v w calls h =
      let d = did_empty now mark rep v rep' w calls h in record { does = d.does; says = d.says }

  -- a run that was cut off
  pub record CutOff (now : Moment) (d : Act) (mark : Option Loss) (a a' : ActorState) (v w : PortView)
      (calls : List Called) : Type 0 where
    pub does : ((calls ≡ []) × (a' ≡ a)) ⊎ ((drain : Called) × (calls ≡ drain ∷ []) × DrainsAlone now d mark a drain a')
    pub says : Says (map (line_answer by line) calls) v w

  cut_nothing : (now : Moment) (d : Act) (mark : Option Loss) (a a' : ActorState) (v w : PortView) (calls : List Called)
      → a' ≡ a → w ≡ v → calls ≡ []
      → CutOff now d mark a a' v w calls
  cut_nothing now d mark a a' v w calls same still none = record {
    does = inl (none, same);
    says = subst (λ (x : PortView). Says (map (line_answer by line) calls) v x) (sym still)
        (subst (λ (xs : List Called). Says (map (line_answer by line) xs) v v) (sym none) (says_none v));
  }

  pub cut_run : (now : Moment) (d : Act) (mark : Option Loss) (a a' : ActorState) (v w : PortView) (calls : List Called)
      → IsCutRun by now d mark a a' v w calls
      → CutOff now d mark a a' v w calls
  cut_run now (act.Client op) mark a a' v w calls h = cut_nothing now
      (act.Client op) mark a a' v w calls h.0 h.1.0 h.1.1
  cut_run now (act.Cell c) mark a a' v w calls h = cut_nothing now (act.Cell c) mark a a' v w calls h.0 h.1.0 h.1.1
  cut_run now act.Evacuate mark (actor.Client name) a' v w calls h = absurd h
  cut_run now act.Evacuate mark (actor.Cell rep) (actor.Client name) v w calls h = absurd h
  cut_run now act.Evacuate mark (actor.Cell rep) (actor.Cell rep') v w calls (inl h) =
      cut_nothing now act.Evacuate mark (actor.Cell rep) (actor.Cell rep') v w calls (ap actor.Cell h.0) h.1.0 h.1.1
  cut_run now act.Evacuate mark (actor.Cell rep) (actor.Cell rep') v w calls (inr h) =
      let drained = did_drain now mark rep v (stage rep' w h.ends h.losses calls) h.does.answer h.does.drained in
      record {
        does = inr (h.does.answer, h.does.drained.out_is, drained.does);
        says = subst (λ (xs : List Called). Says (map (line_answer by line) xs) v w)
            (sym h.does.drained.out_is) drained.says;
      }
