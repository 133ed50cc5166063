-- Turns one after another, each with its answers behind those that were there.
use Rattle.std.proofs.Common.{◌≡◌, inl, inr, ℕ, ◌+◌, ◌<◌, List, [], ◌∷◌, ◌++◌, length, take, get_or, Option, Some, false, refl, sym, ap, subst, ◌∙◌}
use Rattle.std.proofs.lemmas.List.{take_more}
use Rattle.bbs_model.specs.PortView.{PortView}
use Rattle.bbs_model.specs.declared.command.Op.{Op}
use Rattle.cell_rep.specs.Deliveries.{is_call_lost, IsDelivered}
use Rattle.cell_rep.specs.Follows.{Stage, stage, Performs}
use Rattle.cell_rep.specs.Reps.{stopping}
use Rattle.cell_rep.specs.Wires.{WireEnds}
use Rattle.cell_rep.specs.declared.call_end.Called.{Called}
use Rattle.cell_rep.specs.declared.rep.CellRep.{CellRep}
use Rattle.cell_rep.specs.declared.todo.Todo.{Todo}
use Rattle.cell_tests.specs.Turns.{IsStopAnswer, IsTaken, HasOneAnswer, ArePlayed}
use Rattle.cell_tests.specs.declared.playing.Turn.{Turn}
use Rattle.cell_tests.specs.declared.playing.Turn.TheVariants as turn
use Rattle.crash_backoff.specs.declared.moment.Moment.{Moment}
use Rattle.diego_names.specs.declared.instance.Instance.{Instance}

-- what was done with one answer, which comes behind the others
performs_behind : (by : ℕ) (actor : List ℕ) (ts : List Todo) (rep rep' : CellRep) (v w : PortView)
    (e e' : Option WireEnds) (l l' : ℕ) (out out' : List Called) (a : Called)
    → Performs by actor ts (stage rep v e l []) (stage rep' w e' l' (a ∷ [])) → out' ≡ out ++ a ∷ []
    → Performs by actor ts (stage rep v e l out) (stage rep' w e' l' out')
performs_behind by actor ts rep rep' v w e e' l l' out out' a h is = record {
  new = h.new;
  out_is = subst (λ xs. out' ≡ out ++ xs) h.out_is is;
  follows = h.follows;
  ends_are = h.ends_are;
  cause = h.cause;
}

-- a stage with other answers before it
behind : (out out' : List Called) (s : Stage) (rep' : CellRep) (w : PortView) (e' : Option WireEnds) (l' : ℕ)
    (a : Called)
    → stage rep' w e' l' (a ∷ []) ≡ s → out' ≡ out ++ a ∷ [] → stage rep' w e' l' out' ≡ record s { out = out ++ s.out }
behind out out' s rep' w e' l' a h is =
    ap (λ (xs : List Called). stage rep' w e' l' xs) is ∙ ap (λ (x : Stage). record x { out = out ++ x.out }) h

pub taken_behind : (by : ℕ) (t : Turn) (now : Moment) (rep rep' : CellRep) (v w : PortView) (e e' : Option WireEnds)
    (l l' : ℕ) (out out' : List Called) (a : Called)
    → HasOneAnswer t → IsTaken by t now (stage rep v e l []) (stage rep' w e' l' (a ∷ [])) → out' ≡ out ++ a ∷ []
    → IsTaken by t now (stage rep v e l out) (stage rep' w e' l' out')
taken_behind by (turn.Board o) now rep rep' v w e e' l l' out out' a one h is = record {
  answer = h.answer;
  command = h.command;
  heard = h.heard;
  called = h.called;
  stays = behind out out' _ rep' w e' l' a h.stays is;
}
taken_behind by (turn.Act act) now rep rep' v w e e' l l' out out' a one h is = absurd one
taken_behind by turn.Drain now rep rep' v w e e' l l' out out' a one h is =
    performs_behind by _ _ rep rep' v w e e' l l' out out' a h is
taken_behind by turn.Evacuate now rep rep' v w e e' l l' out out' a one h is = absurd one
taken_behind by (turn.Start job) now rep rep' v w e e' l l' out out' a one (inl h) is =
    inl (performs_behind by _ _ _ rep' v w e e' l l' out out' a h is)
taken_behind by (turn.Start job) now rep rep' v w e e' l l' out out' a one (inr h) is =
    inr (behind out out' _ rep' w e' l' a h is)
taken_behind by (turn.Stop i) now rep rep' v w e e' l l' out out' a one h is = record {
  answer = h.answer;
  stopped = h.stopped;
  stays = behind out out' _ rep' w e' l' a h.stays is;
}

-- a call of the board, as a turn
pub call_is_taken : (by : ℕ) (now : Moment) (o : Op) (rep : CellRep) (v w : PortView) (e : Option WireEnds) (l : ℕ)
    (a : Called)
    → a.command ≡ Some (record { now = now; op = o }) → IsDelivered by v (record { now = now; op = o }) a.end w
    → is_call_lost a.end ≡ false
    → IsTaken by (turn.Board o) now (stage rep v e l []) (stage rep w e l (a ∷ []))
call_is_taken by now o rep v w e l a command called heard =
    record { answer = a; command = command; heard = heard; called = called; stays = refl }

-- a stop, as a turn
pub stop_is_taken : (by : ℕ) (now : Moment) (i : Instance) (rep rep' : CellRep) (v : PortView) (e : Option WireEnds)
    (l : ℕ) (a : Called)
    → IsStopAnswer (stopping rep i) rep rep' a → IsTaken by (turn.Stop i) now (stage rep v e l [])
    (stage rep' v e l (a ∷ []))
stop_is_taken by now i rep rep' v e l a h = record { answer = a; stopped = h; stays = refl }

-- one turn more
played_more : (by : ℕ) (ts : List Turn) (t : Turn) (now : Moment) (s m w : Stage) → ArePlayed by ts now s m
    → IsTaken by t now m w → ArePlayed by (ts ++ t ∷ []) now s w
played_more by [] t now s m w f h = (w, subst (λ (x : Stage). IsTaken by t now x w) f h, refl)
played_more by (u ∷ ts) t now s m w f h = (f.0, f.1, played_more by ts t now f.0 m w f.2 h)

pub played_next : (by by' : ℕ) (ts : List Turn) (k : ℕ) (t : Turn) (now : Moment) (s m w : Stage) → by' ≡ by
    → k < length ts → t ≡ get_or ts k t
    → ArePlayed by (take k ts) now s m → IsTaken by' t now m w → ArePlayed by (take (k + 1) ts) now s w
played_next by by' ts k t now s m w same within read f h =
    subst (λ (us : List Turn). ArePlayed by us now s w) (sym
    (take_more ts k t within ∙ ap (λ (x : Turn). take k ts ++ x ∷ []) (sym read)))
    (played_more by (take k ts) t now s m w f (subst (λ n. IsTaken n t now m w) same h))
