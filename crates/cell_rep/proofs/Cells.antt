-- What a stop and the start of a job leave of a cell.
use Rattle.std.proofs.Common.{◌≡◌, ℕ, true, false, cond, List, [], ◌∷◌, Option, Some, None, Result, Ok, Err, refl, sym, subst, ◌∙◌, ⊎_elim}
use Rattle.std.specs.Prelude.{◌==◌, nat_lt}
use Rattle.std.specs.Result.{result_unwrap_or}
use Rattle.bbs_model.specs.declared.reply.Reply.TheVariants as reply
use Rattle.cell_records.specs.declared.container.Container.{Container}
use Rattle.cell_records.specs.declared.job.Job.{Job}
use Rattle.cell_records.specs.declared.job_name.JobName.{JobName}
use Rattle.cell_records.specs.declared.job_name.JobName.TheVariants.{Lrp, Task}
use Rattle.container_store.specs.Changes.{removing, reserving, reserved, without_container, if_held, next_container}
use Rattle.container_store.specs.Store.{StoreView, free_of, find_container}
use Rattle.container_store.specs.declared.refusal.StoreRefusal.{StoreRefusal}
use Rattle.container_store.specs.declared.refusal.StoreRefusal.TheVariants.{NoMemoryLeft, NoDiskLeft, NoSlot}
use Rattle.crash_backoff.specs.declared.moment.Moment.{Moment}
use Rattle.diego_names.specs.declared.instance.Instance.{Instance}
use Rattle.cell_rep.specs.Acts.{claim_op, claim_todo, job_begun, job_claim, job_todo}
use Rattle.cell_rep.specs.Claims.{Claimed, claimed_next, store_claimed}
use Rattle.cell_rep.specs.Ends.{without, left}
use Rattle.cell_rep.specs.Follows.{Stage, Follows, IsStarted, after_todo}
use Rattle.cell_rep.specs.Laws.{SameJoined}
use Rattle.cell_rep.specs.Reps.{asking, store_result}
use Rattle.cell_rep.specs.Wires.{WireEnds}
use Rattle.cell_rep.specs.declared.call_end.CallEnd.{CallEnd}
use Rattle.cell_rep.specs.declared.call_end.CallEnd.TheVariants.{Got, Fault, CallLost, ReplyLost, Local, Idle}
use Rattle.cell_rep.specs.declared.call_end.Called.{Called}
use Rattle.cell_rep.specs.declared.joined.Joined.{Joined}
use Rattle.cell_rep.specs.declared.rep.CellRep.{CellRep}
use Rattle.cell_rep.specs.declared.todo.Todo.{Todo}
use Rattle.bbs_model.specs.PortView.{PortView}

same : (o : Option Joined) → SameJoined o o
same None = tt
same (Some j) = record { zone = refl; tag = refl; draining = refl; totals = refl; epoch = refl }

same_then : (a b c : Option Joined) → SameJoined a b → SameJoined b c → SameJoined a c
same_then None None c f g = g
same_then None (Some k) c f g = absurd f
same_then (Some j) None c f g = absurd f
same_then (Some j) (Some k) None f g = absurd g
same_then (Some j) (Some k) (Some l) f g = record {
  zone = g.zone ∙ f.zone;
  tag = g.tag ∙ f.tag;
  draining = g.draining ∙ f.draining;
  totals = g.totals ∙ f.totals;
  epoch = g.epoch ∙ f.epoch;
}

as_it_was : (rep : CellRep) (o : Option Joined) → rep.joined ≡ o → SameJoined o rep.joined
as_it_was rep o e = subst (SameJoined o) (sym e) (same o)

stopped : (rep : CellRep) (i : Instance) (o : Option Joined) → rep.joined ≡ o
    → SameJoined o (result_unwrap_or (asking rep o (λ s. removing s i)) rep).joined
stopped rep i None e = as_it_was rep None e
stopped rep i (Some j) e =
    elim (find_container i j.store.containers) as (λ f. SameJoined (Some j)
    (result_unwrap_or (store_result rep j (if_held f (λ c. Ok (without_container j.store i)))) rep).joined) [
      | None ↦ as_it_was rep (Some j) e
      | Some c ↦ record { zone = refl; tag = refl; draining = refl; totals = refl; epoch = refl }
    ]

pub keeps_stopped : (rep : CellRep) (i : Instance) → SameJoined rep.joined (without rep i).joined
keeps_stopped rep i = stopped rep i rep.joined refl

-- a store after a claim has the totals and the epoch that it had
record SameStore (s t : StoreView) : Type 0 where
  totals : t.totals ≡ s.totals
  epoch : t.epoch ≡ s.epoch

claimed_same : (s : StoreView) (c : Container) (job : JobName) (memory disk : ℕ)
    → SameStore s (store_claimed s (claimed_next c (reserving s job memory disk)))
claimed_same s c job memory disk =
    let P : Result StoreView StoreRefusal → Type 0 = λ r. SameStore s (store_claimed s (claimed_next c r)) in
    let done : SameStore s s = record { totals = refl; epoch = refl } in
    elim (nat_lt (free_of s).memory memory) as (λ x. P (cond x (Err NoMemoryLeft)
    (cond (nat_lt (free_of s).disk disk) (Err NoDiskLeft)
    (cond ((free_of s).containers == 0) (Err NoSlot) (Ok (reserved s job memory disk)))))) [
      | true ↦ done
      | false ↦ elim (nat_lt (free_of s).disk disk) as (λ x.
          P (cond x (Err NoDiskLeft) (cond ((free_of s).containers == 0) (Err NoSlot)
          (Ok (reserved s job memory disk))))) [
            | true ↦ done
            | false ↦ elim ((free_of s).containers == 0) as (λ x. P (cond x (Err NoSlot) (Ok (reserved s job memory disk))))
                [ true ↦ done | false ↦ record { totals = refl; epoch = refl } ]
          ]
    ]

begun_same : (job : Job) (rep : CellRep) (o : Option Joined) → rep.joined ≡ o
    → SameJoined o (job_begun job rep o).joined
begun_same job rep None e = as_it_was rep None e
begun_same job rep (Some j) e =
    let h = claimed_same j.store (next_container j.store job.job job.memory job.disk) job.job job.memory job.disk in
    record { zone = refl; tag = refl; draining = refl; totals = h.totals; epoch = h.epoch }

told_same : (job : JobName) (cell : List ℕ) (i : Instance) (e : CallEnd) (rep : CellRep)
    → SameJoined rep.joined (left (claim_op cell job i) e rep).joined
told_same (Lrp key) cell i (Got (reply.Ok place stamp)) rep = same rep.joined
told_same (Lrp key) cell i (Got (reply.Same place)) rep = same rep.joined
told_same (Lrp key) cell i (Got (reply.Refused why place)) rep = keeps_stopped rep i
told_same (Task name) cell i (Got (reply.Ok place stamp)) rep = same rep.joined
told_same (Task name) cell i (Got (reply.Same place)) rep = same rep.joined
told_same (Task name) cell i (Got (reply.Refused why place)) rep = keeps_stopped rep i
told_same job cell i (Fault why) rep = same rep.joined
told_same job cell i CallLost rep = same rep.joined
told_same job cell i (ReplyLost answer) rep = same rep.joined
told_same job cell i (Local why) rep = same rep.joined
told_same job cell i Idle rep = same rep.joined

claim_same : (job : Job) (now : Moment) (cell : List ℕ) (r : Result Claimed StoreRefusal) (e : CallEnd) (rep : CellRep)
    → SameJoined rep.joined (after_todo (claim_todo now (λ c. claim_op cell job.job c.instance) r) e rep).joined
claim_same job now cell (Ok p) e rep = told_same job.job cell p.1.instance e rep
claim_same job now cell (Err why) e rep = same rep.joined

ended_same : (job : Job) (now : Moment) (cell : List ℕ) (o : Option Joined) (e : CallEnd) (rep : CellRep)
    → SameJoined rep.joined (after_todo (job_todo job now cell o) e rep).joined
ended_same job now cell None e rep = same rep.joined
ended_same job now cell (Some j) e rep = claim_same job now cell (job_claim job j.store) e rep

one_same : (by : ℕ) (actor : List ℕ) (ends : Option WireEnds) (t : Todo) (rep : CellRep) (v : PortView)
    (as' : List Called) (rep' : CellRep) (w : PortView)
    → ((e : CallEnd) → SameJoined rep.joined (after_todo t e rep).joined)
    → Follows by actor ends (t ∷ []) rep v as' rep' w → SameJoined rep.joined rep'.joined
one_same by actor ends t rep v [] rep' w h f = absurd f
one_same by actor ends t rep v (a ∷ []) rep' w h f = subst (λ (r : CellRep). SameJoined rep.joined r.joined) (sym f.3.0)
    (h a.end)
one_same by actor ends t rep v (a ∷ b ∷ bs) rep' w h f = absurd f.3

pub keeps_started : (by : ℕ) (job : Job) (now : Moment) (s s' : Stage) → IsStarted by job now s s'
    → SameJoined s.rep.joined s'.rep.joined
keeps_started by job now s s' h =
    let rep = job_begun job s.rep s.rep.joined in
    ⊎_elim
    (λ p. same_then s.rep.joined rep.joined s'.rep.joined (begun_same job s.rep s.rep.joined refl)
    (one_same by s.rep.cell s.ends (job_todo job now s.rep.cell s.rep.joined) rep s.view p.new s'.rep s'.view
    (λ e. ended_same job now s.rep.cell s.rep.joined e rep) p.follows))
    (λ e. subst (λ (t : Stage). SameJoined s.rep.joined t.rep.joined) (sym e) (same s.rep.joined)) h
