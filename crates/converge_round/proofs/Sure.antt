-- Want of memory hides no doubt.
use Rattle.std.proofs.Common.{◌≡◌, ℕ, Bool, true, false, ◌&&◌, List, [], ◌∷◌, ◌++◌, Option, Some, Result, Ok, Err, refl, sym, ap, subst, ◌∙◌, append_assoc, inl, inr, ◌⊎◌, ⊎_elim}
use Rattle.std.specs.List.{list_all}
use Rattle.std.proofs.lemmas.List.{append-nil}
use Rattle.std.proofs.lemmas.List.Folds.{list_all-append}
use Rattle.bbs_model.specs.Calls.{added}
use Rattle.bbs_model.specs.PortView.{PortView, Looks, IsCalled}
use Rattle.bbs_model.specs.declared.command.Command.{Command}
use Rattle.bbs_model.specs.declared.reply.CallFault.{CallFault}
use Rattle.bbs_model.specs.declared.reply.CallFault.TheVariants as fault
use Rattle.bbs_model.specs.declared.reply.Reply.{Reply}
use Rattle.bbs_model.specs.declared.reply.Reply.TheVariants as reply
use Rattle.cell_records.specs.declared.job.Job.{Job}
use Rattle.cell_rep.specs.Acts.{job_todo}
use Rattle.cell_rep.specs.Deliveries.{IsDelivered}
use Rattle.cell_rep.specs.Follows.{Stage, stage, Follows, EndsOf, IsStarted}
use Rattle.cell_rep.specs.Wires.{WireEnds}
use Rattle.cell_rep.specs.declared.call_end.CallEnd.{CallEnd}
use Rattle.cell_rep.specs.declared.call_end.CallEnd.TheVariants as end
use Rattle.cell_rep.specs.declared.call_end.Called.{Called}
use Rattle.cell_rep.specs.declared.rep.CellRep.{CellRep}
use Rattle.cell_rep.specs.declared.todo.Todo.{Todo}
use Rattle.cell_rep.specs.declared.todo.Todo.TheVariants as todo
use Rattle.crash_backoff.specs.declared.moment.Moment.{Moment}
use Rattle.converge_round.specs.Faults.{is_sure, HasNoDoubt, IsSureFault, IsSure, IsTold}
use Rattle.converge_round.specs.Sendings.{WireAt}
use Rattle.converge_round.specs.Starts.{Claiming, TakesIf, StartsOne, fault_of}
use Rattle.converge_round.specs.declared.claims.Claimed.{Claimed}
use Rattle.converge_round.specs.declared.claims.StartEnd.{StartEnd}

pub sure_none : (v : PortView) → HasNoDoubt v v
sure_none v = record { items = []; mine_is = sym (append-nil v.mine); all_sure = refl }

pub sure_as : (v w : PortView) → w ≡ v → HasNoDoubt v w
sure_as v w e = subst (HasNoDoubt v) (sym e) (sure_none v)

pub sure_looks : (v w : PortView) → Looks v w → HasNoDoubt v w
sure_looks v w h = record {
  items = [];
  mine_is = ap (λ (x : PortView). x.mine) h.is ∙ sym (append-nil v.mine);
  all_sure = refl;
}

pub sure_then : (u v w : PortView) → HasNoDoubt u v → HasNoDoubt v w → HasNoDoubt u w
sure_then u v w f g = record {
  items = f.items ++ g.items;
  mine_is = g.mine_is ∙ ap (λ xs. xs ++ g.items) f.mine_is ∙ append_assoc u.mine f.items g.items;
  all_sure = list_all-append is_sure f.items g.items ∙ ap (λ (b : Bool). b && list_all is_sure g.items) f.all_sure
      ∙ g.all_sure;
}

-- what has no doubt is sure whatever it came to
pub sure_any : {X : Type 0} (r : Result X CallFault) (v w : PortView) → HasNoDoubt v w → IsSure r v w
sure_any (Ok x) v w h = h
sure_any (Err (fault.Disk place)) v w h = tt
sure_any (Err fault.OutOfMemory) v w h = h

-- behind what has no doubt
pub sure_behind : {X : Type 0} (r : Result X CallFault) (u v w : PortView) → HasNoDoubt u v → IsSure r v w → IsSure r u w
sure_behind (Ok x) u v w f g = sure_then u v w f g
sure_behind (Err (fault.Disk place)) u v w f g = tt
sure_behind (Err fault.OutOfMemory) u v w f g = sure_then u v w f g

pub sure_fault : (why : CallFault) (u v w : PortView) → HasNoDoubt u v → IsSureFault why v w → IsSureFault why u w
sure_fault (fault.Disk place) u v w f g = tt
sure_fault fault.OutOfMemory u v w f g = sure_then u v w f g

sure_added : (by : ℕ) (c : Command) (answer : Result Reply CallFault) (v w : PortView)
    → w.mine ≡ v.mine ++ added answer by c → IsSure answer v w
sure_added by c (Ok (reply.Ok place stamp)) v w e = record { items = _; mine_is = e; all_sure = refl }
sure_added by c (Ok (reply.Same place)) v w e = record { items = []; mine_is = e; all_sure = refl }
sure_added by c (Ok (reply.Refused why place)) v w e = record { items = []; mine_is = e; all_sure = refl }
sure_added by c (Err (fault.Disk place)) v w e = tt
sure_added by c (Err fault.OutOfMemory) v w e = record { items = []; mine_is = e; all_sure = refl }

-- one call
pub sure_called : (by : ℕ) (v : PortView) (c : Command) (answer : Result Reply CallFault) (w : PortView)
    → IsCalled by v c answer w → IsSure answer v w
sure_called by v c answer w h = sure_added by c answer v w (ap (λ (x : PortView). x.mine) h.is)

-- ---- a start

-- what the call of a start ended with, and what was told of it
sure_answer : (by : ℕ) (v : PortView) (c : Command) (answer : Result Reply CallFault) (w : PortView)
    (told : Result (Unit {0}) CallFault) → IsCalled by v c answer w
    → ((place : ℕ) → answer ≡ Err (fault.Disk place) → told ≡ Err (fault.Disk place)) → IsSure told v w
sure_answer by v c (Ok x) w told h is = sure_any told v w (sure_called by v c (Ok x) w h)
sure_answer by v c (Err (fault.Disk place)) w told h is =
    subst (λ (r : Result (Unit {0}) CallFault). IsSure r v w) (sym (is place refl)) tt
sure_answer by v c (Err fault.OutOfMemory) w told h is =
    sure_any told v w (sure_called by v c (Err fault.OutOfMemory) w h)

-- if its end is a fault, that is the one told
abbrev TellsEnd : CallEnd → Result (Unit {0}) CallFault → Type 0
TellsEnd e told = (why : CallFault) → fault_of e ≡ Some why → told ≡ Err why

sure_delivered : (by : ℕ) (v : PortView) (c : Command) (e : CallEnd) (w : PortView) (told : Result (Unit {0}) CallFault)
    → IsDelivered by v c e w → TellsEnd e told → IsSure told v w
sure_delivered by v c (end.Got r) w told h is = sure_answer by v c (Ok r) w told h (λ place e. absurd cc)
sure_delivered by v c (end.Fault why) w told h is =
    sure_answer by v c (Err why) w told h (λ place e. is (fault.Disk place) (let same : why ≡ fault.Disk place = cc in
    ap (λ (x : CallFault). Some x) same))
sure_delivered by v c end.CallLost w told h is = sure_any told v w (sure_as v w h)
sure_delivered by v c (end.ReplyLost (Ok r)) w told h is =
    sure_answer by v c (Ok r) w told h (λ place e. absurd cc)
sure_delivered by v c (end.ReplyLost (Err why)) w told h is =
    sure_answer by v c (Err why) w told h (λ place e. is (fault.Disk place) (let same : why ≡ fault.Disk place = cc in
    ap (λ (x : CallFault). Some x) same))
sure_delivered by v c (end.Local why) w told h is = absurd h
sure_delivered by v c end.Idle w told h is = absurd h

sure_todo : (by : ℕ) (cell : List ℕ) (ends : Option WireEnds) (t : Todo) (v : PortView) (a : Called) (w : PortView)
    (told : Result (Unit {0}) CallFault) → EndsOf by cell ends t v a w → TellsEnd a.end told → IsSure told v w
sure_todo by cell ends (todo.Call c) v a w told h is = sure_delivered by v c a.end w told h.1 is
sure_todo by cell ends todo.Idle v a w told h is = sure_any told v w (sure_as v w h)
sure_todo by cell ends (todo.Local why) v a w told h is = sure_any told v w (sure_as v w h)

sure_follows : (by : ℕ) (cell : List ℕ) (ends : Option WireEnds) (t : Todo) (rep rep' : CellRep) (v w : PortView)
    (a : Called) (told : Result (Unit {0}) CallFault)
    → Follows by cell ends (t ∷ []) rep v (a ∷ []) rep' w → TellsEnd a.end told → IsSure told v w
sure_follows by cell ends t rep rep' v w a told h is =
    subst (λ (x : PortView). IsSure told v x) (sym h.3.1) (sure_todo by cell ends t v a h.0 told h.2 is)

sure_started : (by : ℕ) (job : Job) (now : Moment) (rep rep' : CellRep) (v w : PortView)
    (ends ends' : Option WireEnds) (losses losses' : ℕ) (a : Called) (told : Result (Unit {0}) CallFault)
    → IsStarted by job now (stage rep v ends losses []) (stage rep' w ends' losses' (a ∷ [])) → TellsEnd a.end told
    → IsSure told v w
sure_started by job now rep rep' v w ends ends' losses losses' a told h is = ⊎_elim
    (λ p.
    let todo : Todo = job_todo job now rep.cell rep.joined in
    sure_follows by rep.cell ends todo _ rep' v w a told
    (subst (λ xs. Follows by rep.cell ends (todo ∷ []) _ v xs rep' w) (sym p.out_is) p.follows) is)
    (λ e. sure_any told v w (sure_as v w (ap (λ (x : Stage). x.view) e)))
    h

sure_if : (b : Bool) (by : ℕ) (now : Moment) (job : Job) (wire : WireAt) (s s' : Claiming) (e : StartEnd)
    (told : Result (Unit {0}) CallFault) → TakesIf b by now job wire s s' e → IsTold e told
    → IsSure told s.view s'.view
sure_if true by now job wire s s' e told h is =
    sure_started by job now s.rep s'.rep s.view s'.view wire.ends s'.wire.ends wire.losses s'.wire.losses h.answer told
    h.started (subst (λ (x : StartEnd). IsTold x told) h.end_is is)
sure_if false by now job wire s s' e told h is = sure_any told s.view s'.view (sure_as s.view s'.view h.view)

-- a start, of which a fault that came of it is told
pub sure_one : (by : ℕ) (now : Moment) (x : Claimed) (s s' : Claiming) (told : Result (Unit {0}) CallFault)
    → StartsOne by now x s s' → IsTold x.end told → IsSure told s.view s'.view
sure_one by now x s s' told h is = sure_if h.reached by now x.start.job h.wire s s' x.end told h.takes is
