-- Acts and evacuations are done as one does them alone.
use Rattle.std.proofs.Common.{◌≡◌, ℕ, Bool, true, false, cond, List, [], ◌∷◌, ◌++◌, refl, sym, ap, subst, ◌∙◌}
use Rattle.std.specs.Prelude.{MatchBool}
use Rattle.bbs_model.specs.PortView.{IsLater}
use Rattle.bbs_model.proofs.Public.{later_same, later_then}
use Rattle.cell_rep.specs.Acts.{begun, drain_todo, plan}
use Rattle.cell_rep.specs.Follows.{Acts, Performs, Stage, answer_to}
use Rattle.cell_rep.specs.declared.call_end.CallEnd.{CallEnd}
use Rattle.cell_rep.specs.declared.call_end.Called.{Called}
use Rattle.cell_rep.specs.declared.cell_act.CellAct.{CellAct}
use Rattle.cell_rep.specs.declared.cell_act.CellAct.TheVariants as act
use Rattle.cell_rep.specs.declared.rep.CellRep.{CellRep}
use Rattle.cell_rep.specs.declared.todo.Todo.{Todo}
use Rattle.cell_rep.specs.declared.todo.Todo.TheVariants as todo
use Rattle.crash_backoff.specs.declared.moment.Moment.{Moment}
use Rattle.evacuation.specs.Evacuation.{Evacuates, is_agreed}
use Rattle.phase_actors.specs.Runs.{is_any_starved, is_starved_end}
use Rattle.run_function.specs.ActLaws.{AgreesWith}
use Rattle.run_function.specs.Acts.{SoleRep, act_alone, drain_end, draining_todo, evacuate_alone, todo_alone, todos_alone}
use Rattle.run_function.specs.Quiet.{StaysCalm}
use Rattle.run_function.proofs.Follows.{later_followed, performed_alone}
use Rattle.run_function.proofs.Quiets.{alone_first, alone_second, none_first}

pub later_performed : (by : ℕ) (actor : List ℕ) (ts : List Todo) (s s' : Stage) → Performs by actor ts s s'
    → IsLater s.view s'.view
later_performed by actor ts s s' h = later_followed by actor s.ends ts s.rep s.view h.new s'.rep s'.view h.follows

pub acted_alone : (by : ℕ) (a : CellAct) (now : Moment) (s s' : Stage) (x : SoleRep) → Acts by a now s s'
    → AgreesWith s x
    → StaysCalm s.view s'.view → is_any_starved s'.out ≡ false → AgreesWith s' (act_alone by a now x)
acted_alone by a now s s' x h at alone fed =
    let there = performed_alone by s.rep.cell (plan a now s.rep) (record s { rep = begun a s.rep }) s'
    (record x { rep = begun a s.rep }) h
    (record { rep_is = refl; board = at.board; ends_are = at.ends_are; out_is = at.out_is }) alone fed in
    subst (λ (r : CellRep). AgreesWith s' (todos_alone by r.cell (plan a now r) (record x { rep = begun a r })))
    (sym at.rep_is) there

-- the last of a list
last_same : (xs : List Called) (y z : Called) → xs ++ y ∷ [] ≡ xs ++ z ∷ [] → y ≡ z
last_same [] y z e = cc
last_same (x ∷ xs) y z e = last_same xs y z (tail_same x (xs ++ y ∷ []) (xs ++ z ∷ []) e)
  where
    tail_same : (x : Called) (ys zs : List Called) → x ∷ ys ≡ x ∷ zs → ys ≡ zs
    tail_same x ys zs e = cc

end_told : (t : Todo) (e : CallEnd) → (answer_to t e).end ≡ e
end_told (todo.Call c) e = refl
end_told todo.Idle e = refl
end_told (todo.Local why) e = refl

settled_if : (b : Bool) (by : ℕ) (now : Moment) (m w : Stage) (x : SoleRep)
    → MatchBool b (Acts by act.Settle now m w) (w ≡ m) → AgreesWith m x
    → StaysCalm m.view w.view → is_any_starved w.out ≡ false → AgreesWith w (cond b (act_alone by act.Settle now x) x)
settled_if true by now m w x h at alone fed = acted_alone by act.Settle now m w x h at alone fed
settled_if false by now m w x h at alone fed = subst (λ (s : Stage). AgreesWith s x) (sym h) at

later_settled : (b : Bool) (by : ℕ) (now : Moment) (m w : Stage) → MatchBool b (Acts by act.Settle now m w) (w ≡ m)
    → IsLater m.view w.view
later_settled true by now m w h = later_performed by m.rep.cell (plan act.Settle now m.rep)
    (record m { rep = begun act.Settle m.rep }) w h
later_settled false by now m w h = subst (λ (s : Stage). IsLater m.view s.view) (sym h) (later_same m.view)

-- what was answered before stays answered
starts_out : (b : Bool) (by : ℕ) (now : Moment) (m w : Stage) → MatchBool b (Acts by act.Settle now m w) (w ≡ m)
    → is_any_starved w.out ≡ false → is_any_starved m.out ≡ false
starts_out true by now m w h fed = none_first (λ (a : Called). is_starved_end a.end) m.out h.new
    (sym (ap is_any_starved h.out_is) ∙ fed)
starts_out false by now m w h fed = sym (ap (λ (s : Stage). is_any_starved s.out) h) ∙ fed

pub later_evacuated : (by : ℕ) (now : Moment) (s w : Stage) → Evacuates by now s w → IsLater s.view w.view
later_evacuated by now s w h =
    later_then s.view h.middle.view w.view
    (later_performed by s.rep.cell (drain_todo now s.rep.cell s.rep.joined ∷ []) s h.middle h.drained.performs)
    (later_settled (is_agreed h.answer.end) by now h.middle w h.settled)

pub evacuated_alone : (by : ℕ) (now : Moment) (s w : Stage) (x : SoleRep) → Evacuates by now s w → AgreesWith s x
    → StaysCalm s.view w.view → is_any_starved w.out ≡ false → AgreesWith w (evacuate_alone by now x)
evacuated_alone by now s w x h at alone fed =
    let m : Stage = h.middle in
    let one_later = later_performed by s.rep.cell (drain_todo now s.rep.cell s.rep.joined ∷ []) s m h.drained.performs
    in
    let rest_later = later_settled (is_agreed h.answer.end) by now m w h.settled in
    let there = performed_alone by s.rep.cell (drain_todo now s.rep.cell s.rep.joined ∷ []) s m x h.drained.performs at
    (alone_first s.view m.view w.view one_later rest_later alone)
    (starts_out (is_agreed h.answer.end) by now m w h.settled fed) in
    let drained = subst (λ (r : CellRep). AgreesWith m (todo_alone by r.cell (drain_todo now r.cell r.joined) x))
    (sym at.rep_is) there in
    let last : answer_to (draining_todo now x) (drain_end now x) ≡ h.answer =
    last_same x.out (answer_to (draining_todo now x) (drain_end now x)) h.answer
    (drained.out_is ∙ h.drained.out_is ∙ ap (λ (xs : List Called). xs ++ h.answer ∷ []) (sym at.out_is)) in
    let end : drain_end now x ≡ h.answer.end = sym (end_told (draining_todo now x) (drain_end now x)) ∙ ap
    (λ (a : Called). a.end) last in
    let settled = subst (λ (e : CallEnd). MatchBool (is_agreed e) (Acts by act.Settle now m w) (w ≡ m))
    (sym end) h.settled in
    settled_if (is_agreed (drain_end now x)) by now m w (todo_alone by x.rep.cell (draining_todo now x) x) settled
    drained
    (alone_second s.view m.view w.view one_later rest_later alone) fed
