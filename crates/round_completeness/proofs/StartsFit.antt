-- A start that finds room makes its call.
use Rattle.std.proofs.Common.{◌≡◌, ℕ, Bool, true, false, List, [], ◌∷◌, map, Option, Some, None, Result, refl, sym, ap, subst, ◌∙◌, arith, ⊎_elim}
use Rattle.auctioneer.specs.Stands.{less}
use Rattle.bbs_model.specs.PortView.{PortView}
use Rattle.bbs_model.specs.Work.{at}
use Rattle.bbs_model.specs.declared.command.Command.{Command}
use Rattle.bbs_model.specs.declared.reply.Reply.TheVariants as reply
use Rattle.cell_records.specs.declared.amounts.Amounts.{Amounts}
use Rattle.cell_records.specs.declared.job.Job.{Job}
use Rattle.cell_records.specs.declared.job_name.JobName.{JobName}
use Rattle.cell_records.specs.declared.job_name.JobName.TheVariants as name
use Rattle.cell_rep.specs.Acts.{claim_op, claim_todo, job_todo, job_begun}
use Rattle.cell_rep.specs.Claims.{claimed_next, store_claimed}
use Rattle.cell_rep.specs.Deliveries.{IsDelivered, end_now, EndFits}
use Rattle.cell_rep.specs.Ends.{without, left}
use Rattle.cell_rep.specs.Follows.{Stage, stage, Follows, IsStarted, starved}
use Rattle.cell_rep.specs.Reps.{with_store}
use Rattle.cell_rep.specs.declared.call_end.CallEnd.{CallEnd}
use Rattle.cell_rep.specs.declared.call_end.CallEnd.TheVariants.{Got, Fault, CallLost, ReplyLost, Local, Idle}
use Rattle.cell_rep.specs.declared.call_end.Called.{Called}
use Rattle.cell_rep.specs.declared.joined.Joined.{Joined}
use Rattle.cell_rep.specs.declared.rep.CellRep.{CellRep}
use Rattle.container_store.specs.Changes.{next_of, next_container, reserved}
use Rattle.container_store.specs.Store.{StoreView}
use Rattle.container_store.specs.declared.refusal.StoreRefusal.{StoreRefusal}
use Rattle.converge_round.specs.Each.{Each}
use Rattle.converge_round.specs.Sendings.{WireAt}
use Rattle.converge_round.specs.Starts.{AreFine, Claiming, Claims, HasNoFault, IsFine, TakesIf, StartsOne, job_of}
use Rattle.converge_round.specs.declared.claims.Claimed.{Claimed}
use Rattle.converge_round.specs.declared.claims.StartEnd.{StartEnd}
use Rattle.converge_round.proofs.Public.{claims_jobs}
use Rattle.crash_backoff.specs.declared.moment.Moment.{Moment}
use Rattle.diego_names.specs.declared.instance.Instance.{Instance}
use Rattle.round_theorem.specs.Losses.{declined_end, declined_in, declined_on}
use Rattle.round_theorem.proofs.Public.{cell_stays}
use Rattle.round_completeness.specs.Rooms.{FindsRoom, AllFindRoom}
use Rattle.round_completeness.proofs.Stores.{IsFree, weaker_free, room_made, held_free, gone_free}

-- a rep of that cell has so much free
pub record IsFreeOn (free : Amounts) (cell : List ℕ) (rep : CellRep) : Type 0 where
  pub cell_is : rep.cell ≡ cell
  pub free_is : IsFree free rep.joined

-- the end of a claim leaves the rep as it is, or without the container
by_end : (P : CellRep → Type 0) (n : JobName) (cell : List ℕ) (i : Instance) (e : CallEnd) (rep : CellRep) → P rep
    → P (without rep i)
    → P (left (claim_op cell n i) e rep)
by_end P (name.Lrp key) cell i (Got (reply.Ok place stamp)) rep h g = h
by_end P (name.Lrp key) cell i (Got (reply.Same place)) rep h g = h
by_end P (name.Lrp key) cell i (Got (reply.Refused why place)) rep h g = g
by_end P (name.Task n) cell i (Got (reply.Ok place stamp)) rep h g = h
by_end P (name.Task n) cell i (Got (reply.Same place)) rep h g = h
by_end P (name.Task n) cell i (Got (reply.Refused why place)) rep h g = g
by_end P n cell i (Fault why) rep h g = h
by_end P n cell i CallLost rep h g = h
by_end P n cell i (ReplyLost answer) rep h g = h
by_end P n cell i (Local why) rep h g = h
by_end P n cell i Idle rep h g = h

was_called : (by : ℕ) (v w : PortView) (c : Command) (e : CallEnd) → IsDelivered by v c e w → declined_end e ≡ 0
was_called by v w c (Got r) h = refl
was_called by v w c (Fault why) h = refl
was_called by v w c CallLost h = refl
was_called by v w c (ReplyLost answer) h = refl
was_called by v w c (Local why) h = absurd h
was_called by v w c Idle h = absurd h

-- the start wasn't declined, its call ended as the wire tells, and it left the rest
pub record IsFitted (free : Amounts) (job : Job) (rep : CellRep) (wire : WireAt) (a : Called)
    (rep' : CellRep) : Type 0 where
  pub calls : declined_end a.end ≡ 0
  pub fits : EndFits (end_now wire.ends rep.cell) a.end
  pub rest : IsFreeOn (less free job) rep.cell rep'

module _ (by : ℕ) (now : Moment) (job : Job) (s s' : Claiming) (wire : WireAt) (a : Called) (ended : HasNoFault a.end)
    (free : Amounts)
    (room : FindsRoom free job) where
  fits_joined : (o : Option Joined) → IsFree free o
      → Follows by s.rep.cell wire.ends (job_todo job now s.rep.cell o ∷ []) (job_begun job s.rep o) s.view
      (a ∷ []) s'.rep s'.view
      → IsFitted free job s.rep wire a s'.rep
  fits_joined None is h = absurd is
  fits_joined (Some j) is h =
      let n = next_container j.store job.job job.memory job.disk in
      let c = at now (claim_op s.rep.cell job.job (next_of j.store)) in
      let rep = with_store s.rep j (reserved j.store job.job job.memory job.disk) in
      let made = subst (λ (x : Result StoreView StoreRefusal).
      Follows by s.rep.cell wire.ends (claim_todo now (λ d. claim_op s.rep.cell job.job d.instance) (claimed_next n x)
      ∷ [])
      (with_store s.rep j (store_claimed j.store (claimed_next n x))) s.view (a ∷ []) s'.rep s'.view)
      (room_made free job j.store is room) h in
      record {
        calls = was_called by s.view made.0 c a.end made.2.1;
        fits = made.2.0;
        rest = subst (IsFreeOn (less free job) s.rep.cell) (sym made.3.0)
            (by_end (IsFreeOn (less free job) s.rep.cell) job.job s.rep.cell (next_of j.store) a.end rep
            (record { cell_is = refl; free_is = held_free free job j.store is })
            (record {
              cell_is = cell_stays s.rep.cell (next_of j.store) rep.joined;
              free_is = gone_free free job s.rep j (next_of j.store) is;
            }));
      }

  first_of : (x y : Called) → x ∷ [] ≡ y ∷ [] → x ≡ y
  first_of x y e = cc

  pub fits_started : IsFree free s.rep.joined
      → IsStarted by job now (stage s.rep s.view wire.ends wire.losses [])
      (stage s'.rep s'.view s'.wire.ends s'.wire.losses (a ∷ []))
      → IsFitted free job s.rep wire a s'.rep
  fits_started is h = ⊎_elim
      (λ p. fits_joined s.rep.joined is
      (subst (λ out. Follows by s.rep.cell wire.ends (job_todo job now s.rep.cell s.rep.joined ∷ [])
      (job_begun job s.rep s.rep.joined)
      s.view out s'.rep s'.view) (sym p.out_is) p.follows))
      (λ e. absurd (subst (λ (x : Called). HasNoFault x.end) (first_of a starved (ap (λ (x : Stage). x.out) e)) ended))
      h

pub fits_if : (b : Bool) (by : ℕ) (now : Moment) (job : Job) (wire : WireAt) (s s' : Claiming) (e : StartEnd)
    → IsFine e → TakesIf b by now job wire s s' e → (free : Amounts) → FindsRoom free job → IsFree free s.rep.joined
    → (declined_in e ≡ 0) × IsFreeOn (less free job) s.rep.cell s'.rep
fits_if true by now job wire s s' e fine h free room is =
    let f = fits_started by now job s s' wire h.answer (subst IsFine h.end_is fine) free room is h.started in
    (ap declined_in h.end_is ∙ f.calls, f.rest)
fits_if false by now job wire s s' e fine h free room is = (
  ap declined_in h.end_is,
  subst (IsFreeOn (less free job) s.rep.cell) (sym h.rep)
      (record { cell_is = refl; free_is = weaker_free free job s.rep.joined is }),
)

starts_fit : (by : ℕ) (now : Moment) (ends : List Claimed) (s s' : Claiming) → AreFine ends
    → Each (StartsOne by now) ends s s' → (free : Amounts) → AllFindRoom free (map job_of ends)
    → IsFree free s.rep.joined → (declined_on ends ≡ 0) × (s'.rep.cell ≡ s.rep.cell)
starts_fit by now [] s s' fine f free room is = (refl, ap (λ (x : Claiming). x.rep.cell) f)
starts_fit by now (x ∷ ends) s s' fine f free room is =
    let one = fits_if f.1.reached by now x.start.job f.1.wire s f.0 x.end fine.0 f.1.takes free room.0 is in
    let rest = starts_fit by now ends f.0 s' fine.1 f.2 (less free x.start.job) room.1 one.1.free_is in
    (omega (arith, one.0, rest.0), rest.1 ∙ one.1.cell_is)

-- starts that find room, one after another
pub starts-fit : (by : ℕ) (now : Moment) (jobs : List Job) (s s' : Claiming) (ends : List Claimed)
    → Claims by now jobs s s' ends → AreFine ends → (free : Amounts) → AllFindRoom free jobs
    → IsFree free s.rep.joined → (declined_on ends ≡ 0) × (s'.rep.cell ≡ s.rep.cell)
starts-fit by now jobs s s' ends f fine free room is =
    starts_fit by now ends s s' fine f.each free
    (subst (AllFindRoom free) (sym (claims_jobs s.rep.cell ends jobs f.starts)) room) is
