-- What the start of a job leaves of a cell, and what a cell answers.
use Rattle.std.proofs.Common.{◌≡◌, ℕ, ◌+◌, Bool, true, false, cond, List, [], ◌∷◌, ◌++◌, Option, Some, None, Result, Ok, Err, refl, sym, ap, subst, ◌∙◌, ⊎_elim, arith}
use Rattle.std.specs.Prelude.{◌==◌, nat_lt}
use Rattle.std.specs.Option.{option_map}
use Rattle.std.specs.Result.{result_unwrap_or}
use Rattle.std.proofs.lemmas.List.{append_cancel_left}
use Rattle.bbs_model.specs.PortView.{PortView}
use Rattle.bbs_model.specs.declared.command.Command.{Command}
use Rattle.bbs_model.specs.declared.reply.Reply.TheVariants as reply
use Rattle.cell_records.specs.declared.answer.Answer.{Answer}
use Rattle.cell_records.specs.declared.job.Job.{Job}
use Rattle.cell_records.specs.declared.job_name.JobName.{JobName}
use Rattle.cell_records.specs.declared.job_name.JobName.TheVariants.{Lrp, Task}
use Rattle.container_store.proofs.Public.{gives_up}
use Rattle.container_store.specs.Changes.{next_of, next_container, reserved, reserving}
use Rattle.container_store.specs.Store.{StoreView, IsStore, free_of}
use Rattle.container_store.specs.declared.refusal.StoreRefusal.{StoreRefusal}
use Rattle.container_store.specs.declared.refusal.StoreRefusal.TheVariants.{NoMemoryLeft, NoDiskLeft, NoSlot}
use Rattle.crash_backoff.specs.declared.moment.Moment.{Moment}
use Rattle.cell_rep.specs.Acts.{claim_op, claim_todo, job_begun, job_todo}
use Rattle.cell_rep.specs.Claims.{claimed_next, store_claimed}
use Rattle.cell_rep.specs.Ends.{without, left}
use Rattle.cell_rep.specs.Follows.{Stage, Follows, IsAnswer, after_todo, starved}
use Rattle.cell_rep.specs.Laws.{HasStore, IsAnswerOf, RepsAnswer, StartsStand, IsLeftByStart, after_start, last_after, last_of, is_refusal}
use Rattle.cell_rep.specs.Reps.{answer_in, containers_of, store_result, with_store}
use Rattle.cell_rep.specs.Wires.{WireEnds}
use Rattle.cell_rep.specs.declared.call_end.CallEnd.{CallEnd}
use Rattle.cell_rep.specs.declared.call_end.CallEnd.TheVariants.{Got, Fault, CallLost, ReplyLost, Local, Idle}
use Rattle.cell_rep.specs.declared.call_end.Called.{Called}
use Rattle.cell_rep.specs.declared.joined.Joined.{Joined}
use Rattle.cell_rep.specs.declared.rep.CellRep.{CellRep}
use Rattle.cell_rep.specs.declared.todo.Todo.{Todo}

-- the cell made room for a job: what stands there once the board was called
module _ (job : Job) (rep : CellRep) (j : Joined) (h : IsStore j.store) where
  abbrev room : StoreView
  room = reserved j.store job.job job.memory job.disk

  abbrev new : CellRep
  new = with_store rep j room

  record Stood (refused : Bool) (rep' : CellRep) : Type 0 where
    containers : containers_of rep' ≡ cond refused j.store.containers
        (j.store.containers ++ next_container j.store job.job job.memory job.disk ∷ [])
    last : last_of rep'.joined ≡ j.store.last + 1

  given_up : Stood true (without new (next_of j.store))
  given_up =
      let after : Result StoreView StoreRefusal → CellRep = λ r.
      result_unwrap_or (store_result new (record j { store = room }) r) new in
      let e = gives_up j.store job.job job.memory job.disk h in
      record { containers = ap (λ r. containers_of (after r)) e; last = ap (λ r. last_of (after r).joined) e }

  stood : Stood false new
  stood = record { containers = refl; last = refl }

  told_stands : (name : JobName) (cell : List ℕ) (e : CallEnd)
      → Stood (is_refusal e) (left (claim_op cell name (next_of j.store)) e new)
  told_stands (Lrp key) cell (Got (reply.Ok place stamp)) = stood
  told_stands (Lrp key) cell (Got (reply.Same place)) = stood
  told_stands (Lrp key) cell (Got (reply.Refused why place)) = given_up
  told_stands (Task name) cell (Got (reply.Ok place stamp)) = stood
  told_stands (Task name) cell (Got (reply.Same place)) = stood
  told_stands (Task name) cell (Got (reply.Refused why place)) = given_up
  told_stands name cell (Fault why) = stood
  told_stands name cell CallLost = stood
  told_stands name cell (ReplyLost answer) = stood
  told_stands name cell (Local why) = stood
  told_stands name cell Idle = stood

  abbrev After : Moment → Called → Result StoreView StoreRefusal → Type 0
  After now a r =
      let claimed = claimed_next (next_container j.store job.job job.memory job.disk) r in
      let todo = claim_todo now (λ c. claim_op rep.cell job.job c.instance) claimed in
      IsAnswer todo a → IsLeftByStart job (Some j) a (after_todo todo a.end
      (with_store rep j (store_claimed j.store claimed)))

  refused_stands : (now : Moment) (a : Called) (why : StoreRefusal) → After now a (Err why)
  refused_stands now a why answer = record {
    containers = ap (λ (b : Called). after_start job (Some j) b.command b.end) (sym answer);
    last = ap (λ (b : Called). last_after (Some j) b.command) (sym answer);
  }

  called_stands : (now : Moment) (a : Called) → After now a (Ok room)
  called_stands now a answer =
      let t = told_stands job.job rep.cell a.end in
      record {
        containers = t.containers ∙ ap (λ (m : Option Command). after_start job (Some j) m a.end) (sym answer);
        last = t.last ∙ ap (λ (m : Option Command). last_after (Some j) m) (sym answer);
      }

  job_stands : (now : Moment) (a : Called) → After now a (reserving j.store job.job job.memory job.disk)
  job_stands now a =
      elim (nat_lt (free_of j.store).memory job.memory) as
      (λ x. After now a (cond x (Err NoMemoryLeft) (cond (nat_lt (free_of j.store).disk job.disk) (Err NoDiskLeft)
      (cond ((free_of j.store).containers == 0) (Err NoSlot) (Ok room))))) [
        | true ↦ refused_stands now a NoMemoryLeft
        | false ↦ elim (nat_lt (free_of j.store).disk job.disk) as
            (λ x. After now a (cond x (Err NoDiskLeft) (cond ((free_of j.store).containers == 0) (Err NoSlot)
            (Ok room)))) [
              | true ↦ refused_stands now a NoDiskLeft
              | false ↦ elim ((free_of j.store).containers == 0) as
                  (λ x. After now a (cond x (Err NoSlot) (Ok room)))
                  [ true ↦ refused_stands now a NoSlot | false ↦ called_stands now a ]
            ]
      ]

performed : (job : Job) (now : Moment) (rep : CellRep) (o : Option Joined) → rep.joined ≡ o → HasStore o → (a : Called)
    → IsAnswer (job_todo job now rep.cell o) a → IsLeftByStart job o a
    (after_todo (job_todo job now rep.cell o) a.end (job_begun job rep o))
performed job now rep None e h a answer = record {
  containers = ap (λ (o : Option Joined). containers_of (record rep { joined = o })) e ∙ ap
      (λ (b : Called). after_start job None b.command b.end) (sym answer);
  last = ap last_of e ∙ ap (λ (b : Called). last_after None b.command) (sym answer);
}
performed job now rep (Some j) e h a answer = job_stands job rep j h now a answer

-- one thing was done, with that answer
record Once (t : Todo) (rep rep' : CellRep) (as' : List Called) : Type 0 where
  one : Called
  only : as' ≡ one ∷ []
  answer : IsAnswer t one
  left_is : rep' ≡ after_todo t one.end rep

once : (by : ℕ) (actor : List ℕ) (ends : Option WireEnds) (t : Todo) (rep : CellRep) (v : PortView) (as' : List Called)
    (rep' : CellRep) (w : PortView)
    → Follows by actor ends (t ∷ []) rep v as' rep' w → Once t rep rep' as'
once by actor ends t rep v [] rep' w f = absurd f
once by actor ends t rep v (a ∷ []) rep' w f = record { one = a; only = refl; answer = f.1; left_is = f.3.0 }
once by actor ends t rep v (a ∷ b ∷ bs) rep' w f = absurd f.3

abbrev first_or : Called → List Called → Called
first_or d [] = d
first_or d (x ∷ xs) = x

first_is : (a b : Called) → a ∷ [] ≡ b ∷ [] → a ≡ b
first_is a b e = ap (first_or a) e

-- whatever comes of a start
pub starts_stand : StartsStand
starts_stand by job now s s' a h started out_is =
    let rep = job_begun job s.rep s.rep.joined in
    let t = job_todo job now s.rep.cell s.rep.joined in
    ⊎_elim
    (λ p.
    let o = once by s.rep.cell s.ends t rep s.view p.new s'.rep s'.view p.follows in
    let is : o.one ≡ a = first_is o.one a (sym o.only ∙ append_cancel_left s.out p.new (a ∷ []) (sym p.out_is ∙ out_is))
    in
    subst (λ (b : Called). IsLeftByStart job s.rep.joined b s'.rep) is
    (subst (λ (r : CellRep). IsLeftByStart job s.rep.joined o.one r) (sym o.left_is)
    (performed job now s.rep s.rep.joined refl h o.one o.answer)))
    (λ e.
    let out : s'.out ≡ s.out ++ starved ∷ [] = ap (λ (x : Stage). x.out) e in
    let is : starved ≡ a = first_is starved a (append_cancel_left s.out (starved ∷ []) (a ∷ []) (sym out ∙ out_is)) in
    subst (λ (b : Called). IsLeftByStart job s.rep.joined b s'.rep) is
    (subst (λ (x : Stage). IsLeftByStart job s.rep.joined starved x.rep) (sym e)
    (record { containers = refl; last = refl })))
    started

answers : (cell : List ℕ) (j : Joined) → IsStore j.store → (rep : CellRep) → rep.cell ≡ cell
    → IsAnswerOf rep (answer_in cell j)
answers cell j h rep e = record {
  cell = sym e;
  rising = h.rising;
  given = h.given;
  slots = h.slots;
  memory_left = omega arith;
  disk_left = omega arith;
  slots_left = omega arith;
}

abbrev some_or : Answer → Option Answer → Answer
some_or d None = d
some_or d (Some x) = x

told : (rep : CellRep) (a : Answer) (o : Option Joined) → HasStore o → option_map (answer_in rep.cell) o ≡ Some a
    → IsAnswerOf rep a
told rep a None k e = absurd (cc)
told rep a (Some j) k e = subst (IsAnswerOf rep) (ap (some_or a) e) (answers rep.cell j k rep refl)

-- what a rep says of its cell
pub reps_answer : RepsAnswer
reps_answer rep a h is = told rep a rep.joined h is
