-- What becomes of a rep leaves it with the name of its cell, and of many reps each with its own.
use Rattle.std.proofs.Common.{◌≡◌, ◌⊎◌, ℕ, zero, suc, List, [], ◌∷◌, set, Option, Some, None, refl, sym, subst, arith, inl, inr, ⊎_elim}
use Rattle.std.specs.List.{Contains}
use Rattle.bbs_model.specs.declared.command.Op.{Op}
use Rattle.bbs_model.specs.declared.command.Op.TheVariants as op
use Rattle.bbs_model.specs.declared.reply.Reply.{Reply}
use Rattle.bbs_model.specs.declared.reply.Reply.TheVariants as reply
use Rattle.cell_records.specs.declared.job.Job.{Job}
use Rattle.cell_rep.specs.Acts.{begun, begun_joined, job_begun}
use Rattle.cell_rep.specs.Ends.{after_ok, after_refusal, after_reply, after_same, draining_from, left, without}
use Rattle.cell_rep.specs.Follows.{after_todo}
use Rattle.cell_rep.specs.Laws.{HasStore}
use Rattle.cell_rep.specs.declared.call_end.CallEnd.{CallEnd}
use Rattle.cell_rep.specs.declared.call_end.CallEnd.TheVariants.{Got, Fault, CallLost, ReplyLost, Local, Idle}
use Rattle.cell_rep.specs.declared.cell_act.CellAct.{CellAct}
use Rattle.cell_rep.specs.declared.cell_act.CellAct.TheVariants as act
use Rattle.cell_rep.specs.declared.joined.Joined.{Joined}
use Rattle.cell_rep.specs.declared.rep.CellRep.{CellRep}
use Rattle.cell_rep.specs.declared.todo.Todo.{Todo}
use Rattle.cell_rep.specs.declared.todo.Todo.TheVariants as todo
use Rattle.converge_laws.proofs.Public.{first_or_rest, inside_first, inside_rest}
use Rattle.converge_round.specs.Askings.{StandApart}
use Rattle.converge_round.specs.Reps.{StandsFor}
use Rattle.diego_names.specs.declared.instance.Instance.{Instance}
use Rattle.round_theorem.proofs.Public.{cell_stays, names_set}
use Rattle.run_function.specs.RoundLaws.{AreReps}

pub without_cell : (rep : CellRep) (i : Instance) → (without rep i).cell ≡ rep.cell
without_cell rep i = cell_stays rep.cell i rep.joined

draining_cell : (rep : CellRep) (o : Option Joined) → (draining_from rep o).cell ≡ rep.cell
draining_cell rep None = refl
draining_cell rep (Some j) = refl

ok_cell : (o : Op) (stamp : ℕ) (rep : CellRep) → (after_ok o stamp rep).cell ≡ rep.cell
ok_cell (op.Crash key i) stamp rep = without_cell rep i
ok_cell (op.Unclaim key i) stamp rep = without_cell rep i
ok_cell (op.CompleteTask name i failed) stamp rep = without_cell rep i
ok_cell (op.Join cell zone tag totals ttl) stamp rep = refl
ok_cell (op.Drain cell epoch) stamp rep = draining_cell rep rep.joined
ok_cell o stamp rep = refl

same_cell : (o : Op) (rep : CellRep) → (after_same o rep).cell ≡ rep.cell
same_cell (op.Drain cell epoch) rep = draining_cell rep rep.joined
same_cell o rep = refl

refusal_cell : (o : Op) (rep : CellRep) → (after_refusal o rep).cell ≡ rep.cell
refusal_cell (op.Claim key i cell) rep = without_cell rep i
refusal_cell (op.Start key i cell) rep = without_cell rep i
refusal_cell (op.StartTask name i cell) rep = without_cell rep i
refusal_cell (op.Evacuate key i) rep = without_cell rep i
refusal_cell (op.Crash key i) rep = without_cell rep i
refusal_cell (op.Unclaim key i) rep = without_cell rep i
refusal_cell (op.CompleteTask name i failed) rep = without_cell rep i
refusal_cell (op.Join cell zone tag totals ttl) rep = refl
refusal_cell o rep = refl

reply_cell : (o : Op) (r : Reply) (rep : CellRep) → (after_reply o r rep).cell ≡ rep.cell
reply_cell o (reply.Ok place stamp) rep = ok_cell o stamp rep
reply_cell o (reply.Same place) rep = same_cell o rep
reply_cell o (reply.Refused why place) rep = refusal_cell o rep

left_cell : (o : Op) (e : CallEnd) (rep : CellRep) → (left o e rep).cell ≡ rep.cell
left_cell o (Got r) rep = reply_cell o r rep
left_cell o (Fault why) rep = refl
left_cell o CallLost rep = refl
left_cell o (ReplyLost answer) rep = refl
left_cell o (Local why) rep = refl
left_cell o Idle rep = refl

-- what was to be done was done
pub todo_cell : (t : Todo) (e : CallEnd) (rep : CellRep) → (after_todo t e rep).cell ≡ rep.cell
todo_cell (todo.Call c) e rep = left_cell c.op e rep
todo_cell todo.Idle e rep = refl
todo_cell (todo.Local why) e rep = refl

-- room was made for a job
pub job_cell : (job : Job) (rep : CellRep) (o : Option Joined) → (job_begun job rep o).cell ≡ rep.cell
job_cell job rep None = refl
job_cell job rep (Some j) = refl

begun_if : (a : CellAct) (rep : CellRep) (o : Option Joined) → (begun_joined a rep o).cell ≡ rep.cell
begun_if a rep None = refl
begun_if a rep (Some j) = refl

-- an act was begun
pub begun_cell : (a : CellAct) (rep : CellRep) → (begun a rep).cell ≡ rep.cell
begun_cell (act.Join zone tag totals ttl) rep = refl
begun_cell (act.Renew ttl) rep = begun_if (act.Renew ttl) rep rep.joined
begun_cell (act.Claim job memory disk) rep = begun_if (act.Claim job memory disk) rep rep.joined
begun_cell (act.Run key memory disk) rep = begun_if (act.Run key memory disk) rep rep.joined
begun_cell (act.Up job) rep = begun_if (act.Up job) rep rep.joined
begun_cell (act.Crash key) rep = begun_if (act.Crash key) rep rep.joined
begun_cell (act.Finish name failed) rep = begun_if (act.Finish name failed) rep rep.joined
begun_cell act.Settle rep = begun_if act.Settle rep rep.joined
begun_cell act.Die rep = refl

-- what stands in a list in which one was put in the place of another
from_set : (xs : List CellRep) (at : ℕ) (y x : CellRep) → Contains (set xs at y) x → (y ≡ x) ⊎ Contains xs x
from_set [] at y x inside = absurd (omega (arith, inside.1))
from_set (z ∷ zs) zero y x inside = ⊎_elim (λ is. inl is) (λ rest. inr (inside_rest x z zs rest))
    (first_or_rest x y zs inside)
from_set (z ∷ zs) (suc k) y x inside =
    ⊎_elim
    (λ is. inr (subst (Contains (z ∷ zs)) is (inside_first z zs)))
    (λ rest. ⊎_elim (λ is. inl is) (λ there. inr (inside_rest x z zs there)) (from_set zs k y x rest))
    (first_or_rest x z (set zs k y) inside)

-- a rep that keeps its name and has a store may take its place again
pub are_set : (reps : List CellRep) (cell : List ℕ) (at : ℕ) (rep q : CellRep) → AreReps reps
    → StandsFor reps cell at rep → q.cell ≡ rep.cell → HasStore q.joined → AreReps (set reps at q)
are_set reps cell at rep q are h same store = record {
  apart = subst StandApart (sym (names_set reps at rep q h.within h.is same)) are.apart;
  stores = λ r inside. ⊎_elim (λ (is : q ≡ r). subst (λ (x : CellRep). HasStore x.joined) is store)
      (λ rest. are.stores r rest) (from_set reps at q r inside);
}
