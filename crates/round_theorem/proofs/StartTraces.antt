-- What one start left: its claim had a reply, heard or lost, or nothing was done.
use Rattle.std.proofs.Common.{◌≡◌, ◌⊎◌, ℕ, ◌+◌, ◌-◌, ◌≤◌, ◌^◌, min, Bool, true, false, List, [], ◌∷◌, ◌++◌, Option, Some, None, Result, Ok, Err, refl, sym, ap, subst, ◌∙◌, arith, inl, inr, ⊎_elim}
use Rattle.cell_records.specs.declared.job.Job.{Job}
use Rattle.cell_records.specs.declared.job_name.JobName.{JobName}
use Rattle.cell_records.specs.declared.job_name.JobName.TheVariants as name
use Rattle.cell_rep.specs.Acts.{claim_op, claim_todo, job_todo, job_begun}
use Rattle.cell_rep.specs.Claims.{claimed_next}
use Rattle.cell_rep.specs.Deliveries.{IsDelivered}
use Rattle.cell_rep.specs.Ends.{after_reply, left}
use Rattle.cell_rep.specs.Follows.{Stage, stage, after_todo, Follows, IsStarted, starved}
use Rattle.cell_rep.specs.Laws.{SameJoined}
use Rattle.cell_rep.specs.Wires.{WireEnds}
use Rattle.cell_rep.proofs.Public.{keeps_started}
use Rattle.container_store.specs.Changes.{next_of, next_container, reserving}
use Rattle.container_store.specs.Store.{StoreView}
use Rattle.cell_rep.specs.declared.call_end.CallEnd.{CallEnd}
use Rattle.cell_rep.specs.declared.call_end.CallEnd.TheVariants.{Got, Fault, CallLost, ReplyLost, Local, Idle}
use Rattle.cell_rep.specs.declared.call_end.Called.{Called}
use Rattle.cell_rep.specs.declared.joined.Joined.{Joined}
use Rattle.cell_rep.specs.declared.rep.CellRep.{CellRep}
use Rattle.cell_rep.specs.declared.todo.Todo.{Todo}
use Rattle.cell_rep.specs.declared.todo.Todo.TheVariants as todo
use Rattle.container_store.specs.declared.refusal.StoreRefusal.{StoreRefusal}
use Rattle.crash_backoff.specs.declared.moment.Moment.{Moment}
use Rattle.bbs_model.specs.PortView.{PortView, IsCalled}
use Rattle.bbs_model.specs.Work.{at}
use Rattle.bbs_model.specs.declared.command.Command.{Command}
use Rattle.bbs_model.specs.declared.reply.Reply.{Reply}
use Rattle.bbs_model.specs.declared.reply.Reply.TheVariants as reply
use Rattle.diego_names.specs.declared.instance.Instance.{Instance}
use Rattle.converge_round.specs.Callings.{calling}
use Rattle.converge_round.specs.Sendings.{WireAt}
use Rattle.converge_round.specs.Starts.{Claiming, counted, counted_end, HasNoFault, IsFine, TakesIf}
use Rattle.converge_round.specs.Tallies.{noted, lost_one}
use Rattle.converge_round.specs.declared.claims.StartEnd.{StartEnd}
use Rattle.converge_round.specs.declared.tally.Tally.{Tally}
use Rattle.round_theorem.proofs.Had.{had, IsHad, own_after, refusal_in, own_noted, refused_noted}
use Rattle.round_theorem.proofs.Losses.{lost_noted}
use Rattle.round_theorem.proofs.StopsDone.{cell_stays}

-- the epoch of a cell, where it has joined
abbrev pub HasEpoch : ℕ → Option Joined → Type 0
HasEpoch e None = Unit {0}
HasEpoch e (Some j) = j.store.epoch ≡ e

pub epoch_kept : (e : ℕ) (a b : Option Joined) → SameJoined a b → HasEpoch e a → HasEpoch e b
epoch_kept e None None f h = tt
epoch_kept e None (Some k) f h = absurd f
epoch_kept e (Some j) None f h = tt
epoch_kept e (Some j) (Some k) f h = f.epoch ∙ h

pub joined_itself : (a : Option Joined) → SameJoined a a
joined_itself None = tt
joined_itself (Some j) = record { zone = refl; tag = refl; draining = refl; totals = refl; epoch = refl }

pub joined_then : (a b c : Option Joined) → SameJoined a b → SameJoined b c → SameJoined a c
joined_then None None c f g = g
joined_then None (Some k) c f g = absurd f
joined_then (Some j) None c f g = absurd f
joined_then (Some j) (Some k) None f g = absurd g
joined_then (Some j) (Some k) (Some l) f g = record {
  zone = g.zone ∙ f.zone;
  tag = g.tag ∙ f.tag;
  draining = g.draining ∙ f.draining;
  totals = g.totals ∙ f.totals;
  epoch = g.epoch ∙ f.epoch;
}

-- the claim of a container for a job, of the epoch of the cell
abbrev pub IsOwnClaim : Moment → List ℕ → Option Joined → Job → Command → Type 0
IsOwnClaim now cell o job c = (i : Instance) × (c ≡ at now (claim_op cell job.job i))
    × ((e : ℕ) → HasEpoch e o → i.epoch ≡ e)

-- a claim of that epoch
abbrev pub IsClaimUnder : Moment → List ℕ → ℕ → Command → Type 0
IsClaimUnder now cell e c = (n : JobName) × (i : Instance) × (c ≡ at now (claim_op cell n i)) × (i.epoch ≡ e)

-- what is to be done for a start is its claim, or nothing at all
abbrev IsJobTodo : Moment → List ℕ → Option Joined → Job → Todo → Type 0
IsJobTodo now cell o job (todo.Call c) = IsOwnClaim now cell o job c
IsJobTodo now cell o job todo.Idle = Unit {0}
IsJobTodo now cell o job (todo.Local why) = Unit {0}

claimed_todo : (now : Moment) (cell : List ℕ) (job : Job) (j : Joined) (x : Result StoreView StoreRefusal)
    → IsJobTodo now cell (Some j) job (claim_todo now (λ d. claim_op cell job.job d.instance)
    (claimed_next (next_container j.store job.job job.memory job.disk) x))
claimed_todo now cell job j (Ok store) = (next_of j.store, refl, λ e h. h)
claimed_todo now cell job j (Err why) = tt

todo_of : (now : Moment) (cell : List ℕ) (job : Job) (o : Option Joined)
    → IsJobTodo now cell o job (job_todo job now cell o)
todo_of now cell job None = tt
todo_of now cell job (Some j) = claimed_todo now cell job j (reserving j.store job.job job.memory job.disk)

-- the cell keeps its name
cell_replied : (n : JobName) (cell : List ℕ) (i : Instance) (r : Reply) (rep : CellRep)
    → (after_reply (claim_op cell n i) r rep).cell ≡ rep.cell
cell_replied (name.Lrp key) cell i (reply.Ok place stamp) rep = refl
cell_replied (name.Lrp key) cell i (reply.Same place) rep = refl
cell_replied (name.Lrp key) cell i (reply.Refused why place) rep = cell_stays rep.cell i rep.joined
cell_replied (name.Task t) cell i (reply.Ok place stamp) rep = refl
cell_replied (name.Task t) cell i (reply.Same place) rep = refl
cell_replied (name.Task t) cell i (reply.Refused why place) rep = cell_stays rep.cell i rep.joined

cell_left : (n : JobName) (cell : List ℕ) (i : Instance) (e : CallEnd) (rep : CellRep)
    → (left (claim_op cell n i) e rep).cell ≡ rep.cell
cell_left n cell i (Got r) rep = cell_replied n cell i r rep
cell_left n cell i (Fault why) rep = refl
cell_left n cell i CallLost rep = refl
cell_left n cell i (ReplyLost answer) rep = refl
cell_left n cell i (Local why) rep = refl
cell_left n cell i Idle rep = refl

cell_begun : (job : Job) (rep : CellRep) (o : Option Joined) → (job_begun job rep o).cell ≡ rep.cell
cell_begun job rep None = refl
cell_begun job rep (Some j) = refl

cell_done : (now : Moment) (cell : List ℕ) (o : Option Joined) (job : Job) (x : Todo) (e : CallEnd) (rep : CellRep)
    → IsJobTodo now cell o job x → (after_todo x e rep).cell ≡ rep.cell
cell_done now cell o job (todo.Call c) e rep claim = ap
    (λ (d : Command). (left d.op e rep).cell) claim.1 ∙ cell_left job.job cell claim.0 e rep
cell_done now cell o job todo.Idle e rep claim = refl
cell_done now cell o job (todo.Local why) e rep claim = refl

-- a start left a trace: its claim had a reply, or nothing was done and a loss was counted
abbrev pub IsTraced : ℕ → Moment → List ℕ → Option Joined → Job → Claiming → Claiming → Tally → Tally → Type 0
IsTraced by now cell o job s s' u u' =
    ((c : Command) × IsOwnClaim now cell o job c × IsHad by c (had (calling s.view u)) (had (calling s'.view u'))
    × (min u.lost (2 ^ 64 - 1) ≤ u'.lost))
    ⊎ ((s'.view ≡ s.view) × (u' ≡ lost_one u))

module _ (by : ℕ) (now : Moment) (cell : List ℕ) (o : Option Joined) (job : Job) (s s' : Claiming) (u u' : Tally)
    (a : Called) (ended : HasNoFault a.end) (counts : u' ≡ counted a.command a.end u) where
  counts_as : (b : Called) → a ≡ b → u' ≡ counted b.command b.end u
  counts_as b e = counts ∙ ap (λ (x : Called). counted x.command x.end u) e

  -- a reply that counts on a tally with the same own and refused
  replied : (c : Command) (r : Reply) (t : Tally) → t.own ≡ u.own → t.refused ≡ u.refused
      → min u.lost (2 ^ 64 - 1) ≤ t.lost → IsOwnClaim now cell o job c → u' ≡ noted c r t
      → IsCalled by s.view c (Ok r) s'.view
      → IsTraced by now cell o job s s' u u'
  replied c r t own refused lost claim is h = inl (
    c,
    claim,
    record {
      reply = r;
      called = h;
      own = ap (λ (x : Tally). x.own) is ∙ own_noted c r t ∙ ap (own_after r) own;
      refused = ap (λ (x : Tally). x.refused) is ∙ refused_noted c r t ∙ ap (λ xs. xs ++ refusal_in c r) refused;
    },
    omega (arith, lost, ap (λ (x : Tally). x.lost) is, lost_noted c r t),
  )

  by_end : (c : Command) (e : CallEnd) → a.end ≡ e → a.command ≡ Some c → IsOwnClaim now cell o job c
      → IsDelivered by s.view c e s'.view → IsTraced by now cell o job s s' u u'
  by_end c (Got r) is called claim h =
      replied c r u refl refl (omega arith) claim (counts_as (record { command = Some c; end = Got r })
      (λ i. record { command = called i; end = is i })) h
  by_end c (Fault why) is called claim h = absurd (subst HasNoFault is ended)
  by_end c CallLost is called claim h = inr (
    h,
    counts_as (record { command = Some c; end = CallLost })
        (λ i. record { command = called i; end = is i }),
  )
  by_end c (ReplyLost (Ok r)) is called claim h =
      replied c r (lost_one u) refl refl (omega arith) claim
      (counts_as (record { command = Some c; end = ReplyLost (Ok r) })
      (λ i. record { command = called i; end = is i })) h
  by_end c (ReplyLost (Err why)) is called claim h = absurd (subst HasNoFault is ended)
  by_end c (Local why) is called claim h = absurd h
  by_end c Idle is called claim h = absurd h

  by_todo : (x : Todo) (rep rep' : CellRep) (ends : Option WireEnds) → IsJobTodo now cell o job x
      → Follows by cell ends (x ∷ []) rep s.view (a ∷ []) rep' s'.view → IsTraced by now cell o job s s' u u'
  by_todo (todo.Call c) rep rep' ends claim h = by_end c a.end refl h.1 claim
      (subst (λ (v : PortView). IsDelivered by s.view c a.end v) (sym h.3.1) h.2.1)
  by_todo todo.Idle rep rep' ends claim h = inr (h.3.1 ∙ h.2, counts_as _ h.1)
  by_todo (todo.Local why) rep rep' ends claim h = inr (h.3.1 ∙ h.2, counts_as _ h.1)

first_of : (x y : Called) → x ∷ [] ≡ y ∷ [] → x ≡ y
first_of x y e = cc

-- what a start left, and that its cell kept its name and its epoch
abbrev pub IsLeft : ℕ → Moment → Job → Claiming → Claiming → Tally → Tally → Type 0
IsLeft by now job s s' u u' = IsTraced by now s.rep.cell s.rep.joined job s s' u u' × (s'.rep.cell ≡ s.rep.cell)
    × SameJoined s.rep.joined s'.rep.joined

module _ (by : ℕ) (now : Moment) (job : Job) (s s' : Claiming) (u u' : Tally) (wire : WireAt) (a : Called)
    (ended : HasNoFault a.end) (counts : u' ≡ counted a.command a.end u) where
  left_by : (out : List Called) → a ∷ [] ≡ out
      → Follows by s.rep.cell wire.ends (job_todo job now s.rep.cell s.rep.joined ∷ [])
      (job_begun job s.rep s.rep.joined) s.view out s'.rep s'.view → SameJoined s.rep.joined s'.rep.joined
      → IsLeft by now job s s' u u'
  left_by out is follows same =
      let h = subst (λ xs. Follows by s.rep.cell wire.ends (job_todo job now s.rep.cell s.rep.joined ∷ [])
      (job_begun job s.rep s.rep.joined) s.view xs s'.rep s'.view) (sym is) follows in
      let x : Todo = job_todo job now s.rep.cell s.rep.joined in
      let claim : IsJobTodo now s.rep.cell s.rep.joined job x = todo_of now s.rep.cell job s.rep.joined in (
        by_todo by now s.rep.cell s.rep.joined job s s' u u' a ended counts x
            (job_begun job s.rep s.rep.joined) s'.rep wire.ends claim h,
        ap (λ (r : CellRep). r.cell) h.3.0 ∙ cell_done now s.rep.cell s.rep.joined job x a.end
            (job_begun job s.rep s.rep.joined) claim ∙ cell_begun job s.rep s.rep.joined,
        same,
      )

  left_started : IsStarted by job now (stage s.rep s.view wire.ends wire.losses [])
      (stage s'.rep s'.view s'.wire.ends s'.wire.losses (a ∷ [])) → IsLeft by now job s s' u u'
  left_started h = ⊎_elim
      (λ p. left_by p.new p.out_is p.follows (keeps_started by job now (stage s.rep s.view wire.ends wire.losses [])
      (stage s'.rep s'.view s'.wire.ends s'.wire.losses (a ∷ [])) h))
      (λ e. absurd (subst (λ (x : Called). HasNoFault x.end) (first_of a starved (ap (λ (x : Stage). x.out) e)) ended))
      h

pub left_if : (b : Bool) (by : ℕ) (now : Moment) (job : Job) (wire : WireAt) (s s' : Claiming) (e : StartEnd) (u : Tally)
    → IsFine e → TakesIf b by now job wire s s' e → IsLeft by now job s s' u (counted_end e u)
left_if true by now job wire s s' e u fine h =
    left_started by now job s s' u (counted_end e u) wire h.answer (subst IsFine h.end_is fine)
    (ap (λ (x : StartEnd). counted_end x u) h.end_is) h.started
left_if false by now job wire s s' e u fine h = (
  inr (h.view, ap (λ (x : StartEnd). counted_end x u) h.end_is),
  ap (λ (r : CellRep). r.cell) h.rep,
  subst (λ (r : CellRep). SameJoined s.rep.joined r.joined) (sym h.rep) (joined_itself s.rep.joined),
)
