-- Why a round ended with a fault.
use Rattle.std.proofs.Common.{◌≡◌, ℕ, Bool, true, false, List, [], ◌∷◌, ◌++◌, length, get_or, Option, Some, None, Result, Ok, Err, refl, sym, ap, subst, ◌∙◌, append_assoc, arith, length-append, inl, inr, ◌⊎◌, ⊎_elim}
use Rattle.std.specs.Prelude.{slice_get, IfErr, IsOkUnless}
use Rattle.std.proofs.lemmas.List.Elements.{Contains-append_right}
use Rattle.std.proofs.lemmas.Result.{IfErr-weaker}
use Rattle.bbs_model.specs.Calls.{Ends}
use Rattle.bbs_model.specs.PortView.{PortView, IsCalled, IsLater}
use Rattle.bbs_model.specs.declared.command.Command.{Command}
use Rattle.bbs_model.specs.declared.item.Item.{Item}
use Rattle.bbs_model.specs.declared.item.Item.TheVariants.{Doubt}
use Rattle.bbs_model.specs.declared.reply.CallFault.{CallFault}
use Rattle.bbs_model.specs.declared.reply.CallFault.TheVariants as fault
use Rattle.bbs_model.specs.declared.verdict.Verdict.{Verdict}
use Rattle.bbs_model.specs.declared.verdict.Verdict.TheVariants as verdict
use Rattle.bbs_model.proofs.Public.{later_then, later_called}
use Rattle.cell_records.specs.declared.job.Job.{Job}
use Rattle.cell_rep.specs.Acts.{job_todo}
use Rattle.cell_rep.specs.Deliveries.{IsDelivered}
use Rattle.cell_rep.specs.Follows.{Stage, stage, Follows, IsAnswer, IsStarted, EndsOf, starved}
use Rattle.cell_rep.specs.Wires.{WireEnds}
use Rattle.cell_rep.specs.declared.call_end.CallEnd.{CallEnd}
use Rattle.cell_rep.specs.declared.call_end.CallEnd.TheVariants.{Got, Fault, CallLost, ReplyLost, Local, Idle}
use Rattle.cell_rep.specs.declared.call_end.Called.{Called}
use Rattle.cell_rep.specs.declared.rep.CellRep.{CellRep}
use Rattle.cell_rep.specs.declared.todo.Todo.{Todo}
use Rattle.cell_rep.specs.declared.todo.Todo.TheVariants as todo
use Rattle.crash_backoff.specs.declared.moment.Moment.{Moment}
use Rattle.converge_round.specs.Faults.{IsDoubtedAt, IsCausedBy, IsFaultOf}
use Rattle.converge_round.specs.Sendings.{WireAt}
use Rattle.converge_round.specs.Starts.{Claiming, TakesIf, StartsOne, fault_of, fault_in}
use Rattle.converge_round.specs.declared.claims.Claimed.{Claimed}
use Rattle.converge_round.specs.declared.claims.StartEnd.{StartEnd}
use Rattle.converge_round.specs.declared.claims.StartEnd.TheVariants.{Made}

-- the item behind a list stands at the list's length
last_stands : (xs : List Item) (x : Item) → slice_get (xs ++ x ∷ []) (length xs) ≡ Some x
last_stands [] x = refl
last_stands (y ∷ ys) x = last_stands ys x

-- a fault of the disk tells the place of its turn
place_of_fault : (turn : Verdict) (here stamp place : ℕ) → Ends turn here stamp (Err (fault.Disk place)) → place ≡ here
place_of_fault verdict.Ok here stamp place h = ⊎_elim (λ e. absurd cc) (λ r. ⊎_elim (λ e. cc) (λ e. absurd cc) r) h
place_of_fault verdict.Same here stamp place h = absurd cc
place_of_fault (verdict.Refused why) here stamp place h = absurd cc

doubted_at_once : (by : ℕ) (v : PortView) (c : Command) (place : ℕ) (w : PortView)
    → IsCalled by v c (Err (fault.Disk place)) w → IsDoubtedAt by place v w
doubted_at_once by v c place w h =
    let before = v.seen ++ h.others in
    let here : place ≡ length before = place_of_fault _ (length before) _ place h.ends in
    let seen : w.seen ≡ before ++ Doubt by c ∷ [] = ap (λ (x : PortView). x.seen) h.is in
    let mine : w.mine ≡ v.mine ++ Doubt by c ∷ [] = ap (λ (x : PortView). x.mine) h.is in
    record {
      command = c;
      later = record {
        base = ap (λ (x : PortView). x.base) h.is;
        seen = (later_called by v c (Err (fault.Disk place)) w h).seen;
        mine = (Doubt by c ∷ [], mine);
        counts = (later_called by v c (Err (fault.Disk place)) w h).counts;
      };
      behind = omega (arith, here, length-append v.seen h.others);
      stands = subst (λ n. slice_get w.seen n ≡ Some (Doubt by c)) (sym here)
          (ap (λ xs. slice_get xs (length before)) seen ∙ last_stands before (Doubt by c));
      own = (0, omega arith, refl);
    }

-- the fault of a call
pub caused_at_once : (by : ℕ) (v : PortView) (c : Command) (why : CallFault) (w : PortView)
    → IsCalled by v c (Err why) w → IsCausedBy by v w why
caused_at_once by v c why w h = record {
  disk = λ place e. doubted_at_once by v c place w (subst (λ f. IsCalled by v c (Err f) w) e h);
}

-- want of memory
pub caused_by_want : (by : ℕ) (v w : PortView) → IsCausedBy by v w fault.OutOfMemory
caused_by_want by v w = record { disk = λ place e. absurd cc }

pub caused_by_nothing_else : {X : Type 0} (r : Result X CallFault) (by : ℕ) (v w : PortView)
    → IsOkUnless r fault.OutOfMemory → IfErr r (IsCausedBy by v w)
caused_by_nothing_else (Ok x) by v w h = tt
caused_by_nothing_else (Err why) by v w h = subst (IsCausedBy by v w) (sym h) (caused_by_want by v w)

-- a view behind a later one, with the items of both parts
abbrev joined : (u v w : PortView) → IsLater u v → IsLater v w → IsLater u w
joined u v w f g = record {
  base = (later_then u v w f g).base;
  seen = (later_then u v w f g).seen;
  mine = (f.mine.0 ++ g.mine.0, g.mine.1 ∙ ap (λ xs. xs ++ g.mine.0) f.mine.1 ∙ append_assoc u.mine f.mine.0 g.mine.0);
  counts = (later_then u v w f g).counts;
}

doubted_before : (by place : ℕ) (u v w : PortView) → IsLater u v → IsDoubtedAt by place v w → IsDoubtedAt by place u w
doubted_before by place u v w f d = record {
  command = d.command;
  later = joined u v w f d.later;
  behind = omega (arith, ap length f.seen.1, length-append u.seen f.seen.0, d.behind);
  stands = d.stands;
  own = Contains-append_right f.mine.0 d.later.mine.0 (Doubt by d.command) d.own;
}

-- the fault of what was done from a later view on, by a caller of that number
pub caused_before : (by by' : ℕ) (u v w : PortView) (why : CallFault) → by' ≡ by → IsLater u v
    → IsCausedBy by' v w why → IsCausedBy by u w why
caused_before by by' u v w why same f h = record {
  disk = λ place e. doubted_before by place u v w f (subst (λ n. IsDoubtedAt n place v w) same (h.disk place e));
}

-- the same of a call that comes to an end with it
pub causes_before : {X : Type 0} (r : Result X CallFault) (by by' : ℕ) (u v w : PortView) → by' ≡ by → IsLater u v
    → IfErr r (IsCausedBy by' v w) → IfErr r (IsCausedBy by u w)
causes_before r by by' u v w same f h =
    IfErr-weaker r (IsCausedBy by' v w) (IsCausedBy by u w) (λ why. caused_before by by' u v w why same f) h

-- want of memory is the only fault of what came to none
only_want : (by : ℕ) (v w : PortView) (why : CallFault) (o : Option CallFault) → o ≡ None
    → (o ≡ Some why) ⊎ (why ≡ fault.OutOfMemory) → IsCausedBy by v w why
only_want by v w why o none h = ⊎_elim
    (λ e. let bad : None ≡ Some why = sym none ∙ e in absurd cc)
    (λ e. subst (IsCausedBy by v w) (sym e) (caused_by_want by v w))
    h

-- the fault that a call of a start ended with
caused_delivered : (by : ℕ) (v : PortView) (c : Command) (e : CallEnd) (w : PortView) (why : CallFault)
    → IsDelivered by v c e w → fault_of e ≡ Some why → IsCausedBy by v w why
caused_delivered by v c (Got r) w why h f = absurd cc
caused_delivered by v c (Fault x) w why h f =
    let same : x ≡ why = cc in caused_at_once by v c why w (subst (λ y. IsCalled by v c (Err y) w) same h)
caused_delivered by v c CallLost w why h f = absurd cc
caused_delivered by v c (ReplyLost (Ok r)) w why h f = absurd cc
caused_delivered by v c (ReplyLost (Err x)) w why h f =
    let same : x ≡ why = cc in caused_at_once by v c why w (subst (λ y. IsCalled by v c (Err y) w) same h)
caused_delivered by v c (Local x) w why h f = absurd cc
caused_delivered by v c Idle w why h f = absurd cc

-- the fault of what was to be done at a start
caused_todo : (by : ℕ) (cell : List ℕ) (ends : Option WireEnds) (t : Todo) (v : PortView) (a : Called) (w : PortView)
    (why : CallFault)
    → IsAnswer t a → EndsOf by cell ends t v a w → IsFaultOf (Made a) why → IsCausedBy by v w why
caused_todo by cell ends (todo.Call c) v a w why is h f = ⊎_elim
    (λ e. caused_delivered by v c a.end w why h.1 e)
    (λ e. subst (IsCausedBy by v w) (sym e) (caused_by_want by v w))
    f
caused_todo by cell ends todo.Idle v a w why is h f =
    only_want by v w why (fault_of a.end) (ap (λ (x : Called). fault_of x.end) is) f
caused_todo by cell ends (todo.Local refusal) v a w why is h f =
    only_want by v w why (fault_of a.end) (ap (λ (x : Called). fault_of x.end) is) f

caused_follows : (by : ℕ) (cell : List ℕ) (ends : Option WireEnds) (t : Todo) (rep rep' : CellRep) (v w : PortView)
    (a : Called) (why : CallFault) → Follows by cell ends (t ∷ []) rep v (a ∷ []) rep' w → IsFaultOf (Made a) why
    → IsCausedBy by v w why
caused_follows by cell ends t rep rep' v w a why h f =
    subst (λ x. IsCausedBy by v x why) (sym h.3.1) (caused_todo by cell ends t v a h.0 why h.1 h.2 f)

-- the fault of a start that reached the rep
caused_started : (by : ℕ) (job : Job) (now : Moment) (rep rep' : CellRep) (v w : PortView)
    (ends ends' : Option WireEnds)
    (losses losses' : ℕ) (a : Called) (why : CallFault)
    → IsStarted by job now (stage rep v ends losses []) (stage rep' w ends' losses' (a ∷ [])) → IsFaultOf (Made a) why
    → IsCausedBy by v w why
caused_started by job now rep rep' v w ends ends' losses losses' a why h f = ⊎_elim
    (λ p.
    let todo : Todo = job_todo job now rep.cell rep.joined in
    caused_follows by rep.cell ends todo _ rep' v w a why
    (subst (λ xs. Follows by rep.cell ends (todo ∷ []) _ v xs rep' w) (sym p.out_is) p.follows) f)
    (λ e.
    let same : a ∷ [] ≡ starved ∷ [] = ap (λ (x : Stage). x.out) e in
    let end : fault_of a.end ≡ Some fault.OutOfMemory = ap (λ xs. fault_of (get_or xs 0 a).end) same in
    subst (IsCausedBy by v w) (sym (⊎_elim
    (λ g. let is : Some why ≡ Some fault.OutOfMemory = sym g ∙ end in cc)
    (λ g. g) f)) (caused_by_want by v w))
    h

caused_if : (b : Bool) (by : ℕ) (now : Moment) (job : Job) (wire : WireAt) (s s' : Claiming) (e : StartEnd)
    (why : CallFault) → TakesIf b by now job wire s s' e → IsFaultOf e why → IsCausedBy by s.view s'.view why
caused_if true by now job wire s s' e why h f =
    caused_started by job now s.rep s'.rep s.view s'.view wire.ends s'.wire.ends wire.losses s'.wire.losses h.answer why
    h.started (subst (λ (x : StartEnd). IsFaultOf x why) h.end_is f)
caused_if false by now job wire s s' e why h f =
    only_want by s.view s'.view why (fault_in e) (ap fault_in h.end_is) f

-- the fault that came of a start
pub caused_one : (by : ℕ) (now : Moment) (x : Claimed) (s s' : Claiming) (why : CallFault) → StartsOne by now x s s'
    → IsFaultOf x.end why → IsCausedBy by s.view s'.view why
caused_one by now x s s' why h f = caused_if h.reached by now x.start.job h.wire s s' x.end why h.takes f
