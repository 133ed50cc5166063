-- What becomes of a cell leaves it with a store, if it has joined.
use Rattle.std.proofs.Common.{◌≡◌, ℕ, Bool, true, false, cond, not, ◌&&◌, ◌==◌, Option, Some, None, Result, Ok, Err, refl, arith}
use Rattle.std.specs.Prelude.{nat_lt}
use Rattle.std.specs.Result.{result_unwrap_or}
use Rattle.std.proofs.lemmas.Bool.{eqb-false, ltb-false}
use Rattle.bbs_model.specs.declared.command.Op.{Op}
use Rattle.bbs_model.specs.declared.command.Op.TheVariants as op
use Rattle.bbs_model.specs.declared.reply.Reply.{Reply}
use Rattle.bbs_model.specs.declared.reply.Reply.TheVariants as reply
use Rattle.cell_records.specs.declared.amounts.Amounts.{Amounts}
use Rattle.cell_records.specs.declared.container.Container.{Container}
use Rattle.cell_records.specs.declared.container_state.ContainerState.{ContainerState}
use Rattle.cell_records.specs.declared.container_state.ContainerState.TheVariants.{Completed, Running}
use Rattle.cell_records.specs.declared.job.Job.{Job}
use Rattle.cell_records.specs.declared.job_name.JobName.{JobName}
use Rattle.cell_records.specs.declared.job_name.JobName.TheVariants.{Lrp, Task}
use Rattle.cell_rep.specs.Acts.{begun, begun_in, begun_joined, job_begun}
use Rattle.cell_rep.specs.Claims.{Claimed, claimed_next, claimed_or_next, claiming, first_of, store_claimed, store_ended, store_run, uncompleted_of}
use Rattle.cell_rep.specs.Ends.{after_ok, after_refusal, after_reply, after_same, draining_from, left, without}
use Rattle.cell_rep.specs.Follows.{after_todo}
use Rattle.cell_rep.specs.Laws.{HasStore}
use Rattle.cell_rep.specs.Reps.{asking, store_result}
use Rattle.cell_rep.specs.declared.call_end.CallEnd.{CallEnd}
use Rattle.cell_rep.specs.declared.call_end.CallEnd.TheVariants.{Got, Fault, CallLost, ReplyLost, Local, Idle}
use Rattle.cell_rep.specs.declared.cell_act.CellAct.{CellAct}
use Rattle.cell_rep.specs.declared.cell_act.CellAct.TheVariants as act
use Rattle.cell_rep.specs.declared.joined.Joined.{Joined}
use Rattle.cell_rep.specs.declared.rep.CellRep.{CellRep}
use Rattle.cell_rep.specs.declared.todo.Todo.{Todo}
use Rattle.cell_rep.specs.declared.todo.Todo.TheVariants as todo
use Rattle.container_store.specs.Changes.{completing, if_held, in_state, is_reserved, is_uncompleted, next_container, removing, reserved, reserving, run_if_named, running, running_each, with_state, without_container}
use Rattle.container_store.specs.Jobs.{is_job_in}
use Rattle.container_store.specs.Store.{IsStore, StoreView, find_container, free_of, new_store}
use Rattle.container_store.specs.declared.refusal.StoreRefusal.{StoreRefusal}
use Rattle.container_store.specs.declared.refusal.StoreRefusal.TheVariants.{NoDiskLeft, NoMemoryLeft, NoSlot, WrongState}
use Rattle.diego_names.specs.declared.instance.Instance.{Instance}
use Rattle.lrp_records.specs.States.{is_same_instance}
use Rattle.run_function.proofs.StoresKept.{IsStore-filter, IsStore-reserved, IsStore-turn}

-- what comes of it, if it isn't refused, is a store
abbrev StoreIf : Result StoreView StoreRefusal → Type 0
StoreIf (Ok s) = IsStore s
StoreIf (Err why) = Unit {0}

store_or : (r : Result StoreView StoreRefusal) (s : StoreView) → StoreIf r → IsStore s → IsStore (result_unwrap_or r s)
store_or (Ok t) s h k = h
store_or (Err why) s h k = k

new_stored : (totals : Amounts) (epoch : ℕ) → IsStore (new_store totals epoch)
new_stored totals epoch = record {
  rising = tt;
  given = λ k d lt. absurd (omega (arith, lt));
  memory = omega arith;
  disk = omega arith;
  slots = omega arith;
  fits = omega arith;
}

module _ (s : StoreView) (h : IsStore s) where
  reserving_stored : (job : JobName) (memory disk : ℕ) → StoreIf (reserving s job memory disk)
  reserving_stored job memory disk =
      elim (nat_lt (free_of s).memory memory) as (λ x. nat_lt (free_of s).memory memory ≡ x
      → StoreIf (cond x (Err NoMemoryLeft) (cond (nat_lt (free_of s).disk disk) (Err NoDiskLeft)
      (cond ((free_of s).containers == 0) (Err NoSlot) (Ok (reserved s job memory disk)))))) [
        | true ↦ λ e. tt
        | false ↦ λ some_memory. elim (nat_lt (free_of s).disk disk) as
            (λ x. nat_lt (free_of s).disk disk ≡ x → StoreIf (cond x (Err NoDiskLeft)
            (cond ((free_of s).containers == 0) (Err NoSlot) (Ok (reserved s job memory disk))))) [
              | true ↦ λ e. tt
              | false ↦ λ some_disk. elim ((free_of s).containers == 0) as
                  (λ x. (free_of s).containers == 0 ≡ x → StoreIf (cond x (Err NoSlot) (Ok (reserved s job memory disk)))) [
                    | true ↦ λ e. tt
                    | false ↦ λ some_slot.
                        let m = ltb-false (free_of s).memory memory some_memory in
                        let d = ltb-false (free_of s).disk disk some_disk in
                        let n = eqb-false (free_of s).containers 0 some_slot in
                        IsStore-reserved s job memory disk h (omega (arith, m, h.memory)) (omega (arith, d, h.disk))
                        (omega (arith, n)) (omega (arith, n))
                  ] refl
            ] refl
      ] refl

  state_stored : (i : Instance) (state : ContainerState) → IsStore (with_state s i state)
  state_stored i state = IsStore-turn (λ c. cond (is_same_instance i c.instance) (in_state c state) c) s
      (record {
        instance = λ c. elim (is_same_instance i c.instance) as
            (λ b. (cond b (in_state c state) c).instance ≡ c.instance) [ true ↦ refl | false ↦ refl ];
        memory = λ c. elim (is_same_instance i c.instance) as
            (λ b. (cond b (in_state c state) c).memory ≡ c.memory) [ true ↦ refl | false ↦ refl ];
        disk = λ c. elim (is_same_instance i c.instance) as
            (λ b. (cond b (in_state c state) c).disk ≡ c.disk) [ true ↦ refl | false ↦ refl ];
      }) h

  held_stored : (o : Option Container) (ask : Container → Result StoreView StoreRefusal)
      → ((c : Container) → StoreIf (ask c)) → StoreIf (if_held o ask)
  held_stored None ask each = tt
  held_stored (Some c) ask each = each c

  running_stored : (i : Instance) → StoreIf (running s i)
  running_stored i = held_stored (find_container i s.containers)
      (λ c. cond (is_reserved c.state) (Ok (with_state s i Running)) (Err WrongState))
      (λ c. elim (is_reserved c.state) as (λ b. StoreIf (cond b (Ok (with_state s i Running)) (Err WrongState)))
      [ true ↦ state_stored i Running | false ↦ tt ])

  completing_stored : (i : Instance) (failed : Bool) → StoreIf (completing s i failed)
  completing_stored i failed = held_stored (find_container i s.containers)
      (λ c. cond (is_uncompleted c.state) (Ok (with_state s i (Completed failed))) (Err WrongState))
      (λ c. elim (is_uncompleted c.state) as (λ b. StoreIf
      (cond b (Ok (with_state s i (Completed failed))) (Err WrongState)))
      [ true ↦ state_stored i (Completed failed) | false ↦ tt ])

  removing_stored : (i : Instance) → StoreIf (removing s i)
  removing_stored i = held_stored (find_container i s.containers) (λ c. Ok (without_container s i))
      (λ c. IsStore-filter (λ d. not (is_same_instance i d.instance)) s h)

  each_stored : (job : Option JobName) → IsStore (running_each s job)
  each_stored job = IsStore-turn (run_if_named job) s
      (record {
        instance = λ c. named_same c (is_reserved c.state) (is_job_in job c.job);
        memory = λ c.
            named_memory c (is_reserved c.state) (is_job_in job c.job);
        disk = λ c.
            named_disk c (is_reserved c.state) (is_job_in job c.job);
      }) h
    where
      named_same : (c : Container) (a b : Bool) → (cond (a && b) (in_state c Running) c).instance ≡ c.instance
      named_same c true true = refl
      named_same c true false = refl
      named_same c false b = refl

      named_memory : (c : Container) (a b : Bool) → (cond (a && b) (in_state c Running) c).memory ≡ c.memory
      named_memory c true true = refl
      named_memory c true false = refl
      named_memory c false b = refl

      named_disk : (c : Container) (a b : Bool) → (cond (a && b) (in_state c Running) c).disk ≡ c.disk
      named_disk c true true = refl
      named_disk c true false = refl
      named_disk c false b = refl

  next_stored : (c : Container) (r : Result StoreView StoreRefusal) → StoreIf r
      → IsStore (store_claimed s (claimed_next c r))
  next_stored c (Ok t) k = k
  next_stored c (Err why) k = h

  claimed_stored : (job : JobName) (memory disk : ℕ) (o : Option Container)
      → IsStore (store_claimed s (claimed_or_next s job memory disk o))
  claimed_stored job memory disk None = next_stored (next_container s job memory disk) (reserving s job memory disk)
      (reserving_stored job memory disk)
  claimed_stored job memory disk (Some c) = h

-- a claim whose container runs
run_stored : (s : StoreView) → IsStore s → (r : Result Claimed StoreRefusal) → IsStore (store_claimed s r)
    → IsStore (store_run s r)
run_stored s h (Ok p) k = store_or (running p.0 p.1.instance) p.0 (running_stored p.0 k p.1.instance) k
run_stored s h (Err why) k = h

ended_stored : (s : StoreView) → IsStore s → (failed : Bool) (o : Option Container) → IsStore (store_ended s failed o)
ended_stored s h failed None = h
ended_stored s h failed (Some c) = store_or (completing s c.instance failed) s
    (completing_stored s h c.instance failed) h

begun_stored : (a : CellAct) (s : StoreView) → IsStore s → IsStore (begun_in a s)
begun_stored (act.Join zone tag totals ttl) s h = h
begun_stored (act.Renew ttl) s h = h
begun_stored (act.Claim job memory disk) s h = claimed_stored s h job memory disk (uncompleted_of job s.containers)
begun_stored (act.Run key memory disk) s h = run_stored s h (claiming s (Lrp key) memory disk)
    (claimed_stored s h (Lrp key) memory disk (uncompleted_of (Lrp key) s.containers))
begun_stored (act.Up job) s h = each_stored s h job
begun_stored (act.Crash key) s h = ended_stored s h true (first_of (Lrp key) s.containers)
begun_stored (act.Finish name failed) s h = ended_stored s h failed (first_of (Task name) s.containers)
begun_stored act.Settle s h = h
begun_stored act.Die s h = h

begun_if : (a : CellAct) (rep : CellRep) (o : Option Joined) → HasStore o → HasStore rep.joined
    → HasStore (begun_joined a rep o).joined
begun_if a rep None h k = k
begun_if a rep (Some j) h k = begun_stored a j.store h

-- what an act does at once
pub begun_keeps : (a : CellAct) (rep : CellRep) → HasStore rep.joined → HasStore (begun a rep).joined
begun_keeps (act.Join zone tag totals ttl) rep h = tt
begun_keeps (act.Renew ttl) rep h = begun_if (act.Renew ttl) rep rep.joined h h
begun_keeps (act.Claim job memory disk) rep h = begun_if (act.Claim job memory disk) rep rep.joined h h
begun_keeps (act.Run key memory disk) rep h = begun_if (act.Run key memory disk) rep rep.joined h h
begun_keeps (act.Up job) rep h = begun_if (act.Up job) rep rep.joined h h
begun_keeps (act.Crash key) rep h = begun_if (act.Crash key) rep rep.joined h h
begun_keeps (act.Finish name failed) rep h = begun_if (act.Finish name failed) rep rep.joined h h
begun_keeps act.Settle rep h = begun_if act.Settle rep rep.joined h h
begun_keeps act.Die rep h = tt

result_keeps : (rep : CellRep) (j : Joined) (r : Result StoreView StoreRefusal) → StoreIf r → HasStore rep.joined
    → HasStore (result_unwrap_or (store_result rep j r) rep).joined
result_keeps rep j (Ok s) h k = h
result_keeps rep j (Err why) h k = k

asked_keeps : (rep : CellRep) (o : Option Joined) (i : Instance) → HasStore o → HasStore rep.joined
    → HasStore (result_unwrap_or (asking rep o (λ s. removing s i)) rep).joined
asked_keeps rep None i h k = k
asked_keeps rep (Some j) i h k = result_keeps rep j (removing j.store i) (removing_stored j.store h i) k

-- a container is given up
pub without_keeps : (rep : CellRep) (i : Instance) → HasStore rep.joined → HasStore (without rep i).joined
without_keeps rep i h = asked_keeps rep rep.joined i h h

-- room is made for a job
pub job_keeps : (job : Job) (rep : CellRep) (o : Option Joined) → HasStore o → HasStore rep.joined
    → HasStore (job_begun job rep o).joined
job_keeps job rep None h k = k
job_keeps job rep (Some j) h k = next_stored j.store h (next_container j.store job.job job.memory job.disk)
    (reserving j.store job.job job.memory job.disk) (reserving_stored j.store h job.job job.memory job.disk)

draining_keeps : (rep : CellRep) (o : Option Joined) → HasStore o → HasStore rep.joined
    → HasStore (draining_from rep o).joined
draining_keeps rep None h k = k
draining_keeps rep (Some j) h k = h

ok_keeps : (o : Op) (stamp : ℕ) (rep : CellRep) → HasStore rep.joined → HasStore (after_ok o stamp rep).joined
ok_keeps (op.Crash key i) stamp rep h = without_keeps rep i h
ok_keeps (op.Unclaim key i) stamp rep h = without_keeps rep i h
ok_keeps (op.CompleteTask name i failed) stamp rep h = without_keeps rep i h
ok_keeps (op.Join cell zone tag totals ttl) stamp rep h = new_stored totals stamp
ok_keeps (op.Drain cell epoch) stamp rep h = draining_keeps rep rep.joined h h
ok_keeps o stamp rep h = h

same_keeps : (o : Op) (rep : CellRep) → HasStore rep.joined → HasStore (after_same o rep).joined
same_keeps (op.Drain cell epoch) rep h = draining_keeps rep rep.joined h h
same_keeps o rep h = h

refusal_keeps : (o : Op) (rep : CellRep) → HasStore rep.joined → HasStore (after_refusal o rep).joined
refusal_keeps (op.Claim key i cell) rep h = without_keeps rep i h
refusal_keeps (op.Start key i cell) rep h = without_keeps rep i h
refusal_keeps (op.StartTask name i cell) rep h = without_keeps rep i h
refusal_keeps (op.Evacuate key i) rep h = without_keeps rep i h
refusal_keeps (op.Crash key i) rep h = without_keeps rep i h
refusal_keeps (op.Unclaim key i) rep h = without_keeps rep i h
refusal_keeps (op.CompleteTask name i failed) rep h = without_keeps rep i h
refusal_keeps (op.Join cell zone tag totals ttl) rep h = tt
refusal_keeps o rep h = h

reply_keeps : (o : Op) (r : Reply) (rep : CellRep) → HasStore rep.joined → HasStore (after_reply o r rep).joined
reply_keeps o (reply.Ok place stamp) rep h = ok_keeps o stamp rep h
reply_keeps o (reply.Same place) rep h = same_keeps o rep h
reply_keeps o (reply.Refused why place) rep h = refusal_keeps o rep h

left_keeps : (o : Op) (e : CallEnd) (rep : CellRep) → HasStore rep.joined → HasStore (left o e rep).joined
left_keeps o (Got r) rep h = reply_keeps o r rep h
left_keeps o (Fault why) rep h = h
left_keeps o CallLost rep h = h
left_keeps o (ReplyLost answer) rep h = h
left_keeps o (Local why) rep h = h
left_keeps o Idle rep h = h

-- what was to be done was done
pub todo_keeps : (t : Todo) (e : CallEnd) (rep : CellRep) → HasStore rep.joined → HasStore (after_todo t e rep).joined
todo_keeps (todo.Call c) e rep h = left_keeps c.op e rep h
todo_keeps todo.Idle e rep h = h
todo_keeps (todo.Local why) e rep h = h
