-- What is counted of the starts of jobs.
use Rattle.std.proofs.Common.{◌≡◌, ℕ, Bool, true, false, List, [], ◌∷◌, sym, ap, subst, arith, Option, Some, Ok, Err, ⊎_elim}
use Rattle.bbs_model.specs.PortView.{PortView, IsCalled}
use Rattle.bbs_model.specs.declared.command.Command.{Command}
use Rattle.bbs_model.specs.declared.reply.CallFault.{CallFault}
use Rattle.bbs_model.proofs.Public.{later_same, later_called}
use Rattle.cell_records.specs.declared.answer.Answer.{Answer}
use Rattle.cell_records.specs.declared.job.Job.{Job}
use Rattle.cell_rep.specs.Acts.{job_todo, job_begun}
use Rattle.cell_rep.specs.Deliveries.{IsDelivered}
use Rattle.cell_rep.specs.Follows.{Stage, stage, Follows, IsStarted, IsAnswer, EndsOf, starved}
use Rattle.cell_rep.specs.Wires.{WireEnds}
use Rattle.cell_rep.specs.declared.call_end.CallEnd.{CallEnd}
use Rattle.cell_rep.specs.declared.call_end.CallEnd.TheVariants.{Got, Fault, CallLost, ReplyLost, Local, Idle}
use Rattle.cell_rep.specs.declared.call_end.Called.{Called}
use Rattle.cell_rep.specs.declared.rep.CellRep.{CellRep}
use Rattle.cell_rep.specs.declared.todo.Todo.{Todo}
use Rattle.cell_rep.specs.declared.todo.Todo.TheVariants as todo
use Rattle.crash_backoff.specs.declared.moment.Moment.{Moment}
use Rattle.converge_round.specs.Callings.{Calling, calling}
use Rattle.converge_round.specs.Each.{Each}
use Rattle.converge_round.specs.Phases.{Course, ServesOne}
use Rattle.converge_round.specs.Sendings.{WireAt}
use Rattle.converge_round.specs.Starts.{Claiming, claiming, counted, counted_end, counted_all, TakesIf, StartsOne}
use Rattle.converge_round.specs.Tallies.{lost_one}
use Rattle.converge_round.specs.declared.claims.Claimed.{Claimed}
use Rattle.converge_round.specs.declared.claims.StartEnd.{StartEnd}
use Rattle.converge_round.specs.declared.placing.Places.{Places}
use Rattle.converge_round.specs.declared.tally.Tally.{Tally}
use Rattle.round_theorem.proofs.Tallied.{IsTallied, mine_more, tallied-as, tallied-reply, tallied-then}

-- a call that failed is counted as none
failed : (by : ℕ) (v : PortView) (c : Command) (why : CallFault) (w : PortView) (t : Tally)
    → IsCalled by v c (Err why) w → IsTallied (calling v t) (calling w t)
failed by v c why w t h = record {
  later = later_called by v c (Err why) w h;
  own = omega (arith, mine_more by v c (Err why) w h);
  refused = λ e. e;
}

-- what was lost moved nothing
lost : (v w : PortView) (t : Tally) → w ≡ v → IsTallied (calling v t) (calling w (lost_one t))
lost v w t e = subst (λ (x : PortView). IsTallied (calling v t) (calling x (lost_one t))) (sym e)
    (record { later = later_same v; own = omega arith; refused = λ x. x })

delivered : (by : ℕ) (v : PortView) (c : Command) (e : CallEnd) (w : PortView) (t : Tally) → IsDelivered by v c e w
    → IsTallied (calling v t) (calling w (counted (Some c) e t))
delivered by v c (Got r) w t h = tallied-reply by v c r w t h
delivered by v c (Fault why) w t h = failed by v c why w t h
delivered by v c CallLost w t h = lost v w t h
delivered by v c (ReplyLost (Ok r)) w t h =
    let f = tallied-reply by v c r w (lost_one t) h in record { later = f.later; own = f.own; refused = f.refused }
delivered by v c (ReplyLost (Err why)) w t h = failed by v c why w t h
delivered by v c (Local why) w t h = absurd h
delivered by v c Idle w t h = absurd h

done : (by : ℕ) (cell : List ℕ) (ends : Option WireEnds) (x : Todo) (v w : PortView) (a : Called) (t : Tally)
    → IsAnswer x a → EndsOf by cell ends x v a w
    → IsTallied (calling v t) (calling w (counted a.command a.end t))
done by cell ends (todo.Call c) v w a t is h =
    subst (λ o. IsTallied (calling v t) (calling w (counted o a.end t))) (sym is) (delivered by v c a.end w t h.1)
done by cell ends todo.Idle v w a t is h =
    subst (λ (x : Called). IsTallied (calling v t) (calling w (counted x.command x.end t))) (sym is) (lost v w t h)
done by cell ends (todo.Local why) v w a t is h =
    subst (λ (x : Called). IsTallied (calling v t) (calling w (counted x.command x.end t))) (sym is) (lost v w t h)

follows : (by : ℕ) (cell : List ℕ) (ends : Option WireEnds) (x : Todo) (rep rep' : CellRep) (v w : PortView)
    (a : Called) (t : Tally)
    → Follows by cell ends (x ∷ []) rep v (a ∷ []) rep' w
    → IsTallied (calling v t) (calling w (counted a.command a.end t))
follows by cell ends x rep rep' v w a t h =
    subst (λ (y : PortView). IsTallied (calling v t) (calling y (counted a.command a.end t))) (sym h.3.1)
    (done by cell ends x v h.0 a t h.1 h.2)

first_of : (a b : Called) → a ∷ [] ≡ b ∷ [] → a ≡ b
first_of a b e = cc

started : (by : ℕ) (job : Job) (now : Moment) (s s' : Claiming) (wire : WireAt) (a : Called) (t : Tally)
    → IsStarted by job now (stage s.rep s.view wire.ends wire.losses [])
    (stage s'.rep s'.view s'.wire.ends s'.wire.losses (a ∷ []))
    → IsTallied (calling s.view t) (calling s'.view (counted a.command a.end t))
started by job now s s' wire a t h = ⊎_elim
    (λ p. follows by s.rep.cell wire.ends (job_todo job now s.rep.cell s.rep.joined)
    (job_begun job s.rep s.rep.joined) s'.rep s.view s'.view a t
    (subst (λ out. Follows by s.rep.cell wire.ends (job_todo job now s.rep.cell s.rep.joined ∷ [])
    (job_begun job s.rep s.rep.joined) s.view out s'.rep s'.view) (sym p.out_is) p.follows))
    (λ e. let is : a ≡ starved = first_of a starved (ap (λ (x : Stage). x.out) e) in
    subst (λ (x : Called). IsTallied (calling s.view t) (calling s'.view (counted x.command x.end t))) (sym is)
    (tallied-as (calling s.view t) (calling s'.view t) (ap (λ (x : Stage). calling x.view t) e)))
    h

taken : (b : Bool) (by : ℕ) (now : Moment) (job : Job) (wire : WireAt) (s s' : Claiming) (e : StartEnd) (t : Tally)
    → TakesIf b by now job wire s s' e → IsTallied (calling s.view t) (calling s'.view (counted_end e t))
taken true by now job wire s s' e t h =
    subst (λ (x : StartEnd). IsTallied (calling s.view t) (calling s'.view (counted_end x t))) (sym h.end_is)
    (started by job now s s' wire h.answer t h.started)
taken false by now job wire s s' e t h =
    subst (λ (x : StartEnd). IsTallied (calling s.view t) (calling s'.view (counted_end x t))) (sym h.end_is)
    (lost s.view s'.view t h.view)

starts : (by : ℕ) (now : Moment) (ends : List Claimed) (s s' : Claiming) (t : Tally) → Each (StartsOne by now) ends s s'
    → IsTallied (calling s.view t) (calling s'.view (counted_all ends t))
starts by now [] s s' t f =
    tallied-as (calling s.view t) (calling s'.view t) (ap (λ (x : Claiming). calling x.view t) f)
starts by now (x ∷ ends) s s' t f =
    tallied-then (calling s.view t) (calling f.0.view (counted_end x.end t))
    (calling s'.view (counted_all ends (counted_end x.end t)))
    (taken f.1.reached by now x.start.job f.1.wire s f.0 x.end t f.1.takes)
    (starts by now ends f.0 s' (counted_end x.end t) f.2)

abbrev pub in_course : Course → Calling
in_course s = calling s.view s.tally

-- what is counted where each cell is served
pub tallied-serves : (by : ℕ) (now : Moment) (p : Places) (xs : List Answer) (s s' : Course)
    → Each (ServesOne by now p) xs s s' → IsTallied (in_course s) (in_course s')
tallied-serves by now p [] s s' f = tallied-as (in_course s) (in_course s') (ap in_course f)
tallied-serves by now p (x ∷ xs) s s' f =
    tallied-then (in_course s) (in_course f.0) (in_course s')
    (⊎_elim
    (λ c. subst (λ (t : Tally). IsTallied (in_course s) (calling f.0.view t)) (sym c.counts)
    (starts by now c.ends (claiming c.rep s.view s.wire) (claiming c.after f.0.view f.0.wire) s.tally c.claims.each))
    (λ e. tallied-as (in_course s) (in_course f.0) (ap in_course e.1))
    f.1)
    (tallied-serves by now p xs f.0 s' f.2)
