-- Runs one after another, and where they are cut off.
use Rattle.std.proofs.Common.{◌≡◌, inl, ◌||◌, ℕ, Bool, List, [], ◌∷◌, ◌++◌, map, refl, sym, ap, subst, ◌∙◌, append_assoc}
use Rattle.std.proofs.lemmas.List.{append-nil}
use Rattle.std.proofs.lemmas.List.Folds.{list_any-append}
use Rattle.bbs_model.specs.PortView.{PortView}
use Rattle.cell_rep.specs.declared.call_end.Called.{Called}
use Rattle.crash_backoff.specs.declared.moment.Moment.{Moment}
use Rattle.scenario_lines.specs.declared.answered.Answered.{Answered}
use Rattle.phase_actors.specs.Runs.{is_any_starved, is_starved_end, HasRun}
use Rattle.phase_actors.specs.Turns.{is_any_unfed, line_answer, ActorStanding, IsCutAt, IsCutShort, Takes, TakesTurns, Turn}
use Rattle.phase_actors.specs.declared.actor_state.ActorState.{ActorState}

-- the answers want memory where the calls did
pub unfed_answers : (by line : ℕ) (calls : List Called)
    → is_any_unfed (map (line_answer by line) calls) ≡ is_any_starved calls
unfed_answers by line [] = refl
unfed_answers by line (x ∷ xs) = ap (λ (b : Bool). is_starved_end x.end || b) (unfed_answers by line xs)

module _ (by : ℕ) (now : Moment) where
  -- a run that was made
  pub one_taken : (t : Turn) (a a' : ActorState) (v w : PortView) (first : List Called)
      → HasRun by now t.act t.mark a a' v w first
      → TakesTurns by now (t ∷ []) a v (map (line_answer by t.line) first) a' w
  one_taken t a a' v w first run =
      (first, [], a', w, sym (append-nil (map (line_answer by t.line) first)), run, (refl, (refl, refl)))

  -- of one run that was made, nothing is left
  pub cut_behind : (t : Turn) (a a' : ActorState) (v w : PortView) (first : List Called)
      → HasRun by now t.act t.mark a a' v w first
      → IsCutShort by now (t ∷ []) a v a' w
  cut_behind t a a' v w first run = record {
    done = t ∷ [];
    rest = [];
    split = refl;
    new = map (line_answer by t.line) first;
    mid = a';
    middle = w;
    taken = one_taken t a a' v w first run;
    cut = (refl, refl);
  }

  -- runs behind runs
  pub taken_then : (ts us : List Turn) (a m b : ActorState) (v x w : PortView) (new more : List Answered)
      → TakesTurns by now ts a v new m x → TakesTurns by now us m x more b w
      → TakesTurns by now (ts ++ us) a v (new ++ more) b w
  taken_then [] us a m b v x w new more (none, (m_is, x_is)) then =
      subst (λ (l : List Answered). TakesTurns by now us a v (l ++ more) b w) (sym none)
      (subst (λ (y : ActorState). TakesTurns by now us y v more b w) m_is
      (subst (λ (y : PortView). TakesTurns by now us m y more b w) x_is then))
  taken_then (t ∷ ts) us a m b v x w new more (first, rest, mid, y, new_is, run, others) then = (
    first,
    rest ++ more,
    mid,
    y,
    ap (λ (l : List Answered). l ++ more) new_is ∙ append_assoc (map (line_answer by t.line) first) rest more,
    run,
    taken_then ts us mid m b y x w rest more others then,
  )

  module _ (ts us : List Turn) (s m s' : ActorStanding) (taken : Takes by now ts s m) where
    -- all of both
    pub takes_then : Takes by now us m s' → Takes by now (ts ++ us) s s'
    takes_then more = record {
      new = taken.new ++ more.new;
      out_is = more.out_is ∙ ap (λ (l : List Answered). l ++ more.new) taken.out_is ∙ append_assoc s.out taken.new
          more.new;
      taken = taken_then ts us s.actor m.actor s'.actor s.view m.view s'.view taken.new more.new taken.taken more.taken;
      fed = list_any-append (λ (a : Answered). is_starved_end a.end) taken.new more.new
          ∙ ap (λ (b : Bool). b || is_any_unfed more.new) taken.fed ∙ more.fed;
    }

    -- all of the first, and the second cut off
    pub cut_then : (a' : ActorState) (w : PortView) → IsCutShort by now us m.actor m.view a' w
        → IsCutShort by now (ts ++ us) s.actor s.view a' w
    cut_then a' w cut = record {
      done = ts ++ cut.done;
      rest = cut.rest;
      split = ap (λ (l : List Turn). ts ++ l) cut.split ∙ sym (append_assoc ts cut.done cut.rest);
      new = taken.new ++ cut.new;
      mid = cut.mid;
      middle = cut.middle;
      taken = taken_then ts cut.done s.actor m.actor cut.mid s.view m.view cut.middle taken.new cut.new taken.taken
          cut.taken;
      cut = cut.cut;
    }

  -- what was cut off among the first is cut off among more
  pub cut_before : (ts us : List Turn) (a a' : ActorState) (v w : PortView) → IsCutShort by now ts a v a' w
      → IsCutShort by now (ts ++ us) a v a' w
  cut_before ts us a a' v w cut = record {
    done = cut.done;
    rest = cut.rest ++ us;
    split = ap (λ (l : List Turn). l ++ us) cut.split ∙ append_assoc cut.done cut.rest us;
    new = cut.new;
    mid = cut.mid;
    middle = cut.middle;
    taken = cut.taken;
    cut = begun cut.rest us cut.cut;
  }
    where
      begun_nothing : (us : List Turn) → (a' ≡ cut.mid) × (w ≡ cut.middle) → IsCutAt by now us cut.mid cut.middle a' w
      begun_nothing [] same = same
      begun_nothing (u ∷ us) same = inl same

      begun : (rest us : List Turn) → IsCutAt by now rest cut.mid cut.middle a' w
          → IsCutAt by now (rest ++ us) cut.mid cut.middle a' w
      begun [] us same = begun_nothing us same
      begun (t ∷ rest) us is = is

  -- nothing was to be done
  pub takes_none : (s : ActorStanding) → Takes by now [] s s
  takes_none s = record {
    new = [];
    out_is = sym (append-nil s.out);
    taken = (refl, (refl, refl));
    fed = refl;
  }
