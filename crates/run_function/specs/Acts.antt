-- What a cell does for an act where nobody else calls the board.
use Rattle.std.specs.Prelude.{ℕ, ◌+◌, List, [], ◌∷◌, ◌++◌, if◌then◌else◌}
use Rattle.cell_rep.specs.Acts.{begun, drain_todo, plan}
use Rattle.cell_rep.specs.Follows.{after_todo, answer_to}
use Rattle.cell_rep.specs.Wires.{WireEnds}
use Rattle.cell_rep.specs.declared.call_end.CallEnd.{CallEnd}
use Rattle.cell_rep.specs.declared.call_end.CallEnd.TheVariants as end
use Rattle.cell_rep.specs.declared.call_end.Called.{Called}
use Rattle.cell_rep.specs.declared.cell_act.CellAct.{CellAct}
use Rattle.cell_rep.specs.declared.cell_act.CellAct.TheVariants as act
use Rattle.cell_rep.specs.declared.rep.CellRep.{CellRep}
use Rattle.cell_rep.specs.declared.todo.Todo.{Todo}
use Rattle.cell_rep.specs.declared.todo.Todo.TheVariants.{Call, Idle, Local}
use Rattle.cell_rep.specs.declared.wire.CallKind.TheVariants.{Board}
use Rattle.cell_rep.specs.declared.wire.Delivery.{Delivery}
use Rattle.crash_backoff.specs.declared.moment.Moment.{Moment}
use Rattle.evacuation.specs.Evacuation.{is_agreed}
use Rattle.run_function.specs.Boards.{SoleBoard, delivered_alone, end_under, reply_alone}

-- a cell's rep, the board that it alone calls, the ends that its wire tells, and its answers so far
pub record SoleRep : Type 0 where
  pub rep : CellRep
  pub board : SoleBoard
  pub ends : WireEnds
  pub out : List Called

-- what the wire tells of an actor's next board call
abbrev pub next_end : WireEnds → List ℕ → Delivery
next_end ends actor = ends (record { actor = actor; kind = Board }) 0

-- how it ends, if it is done now
abbrev pub end_alone : Todo → Delivery → SoleBoard → CallEnd
end_alone (Call c) d b = end_under d (reply_alone b c)
end_alone Idle d b = end.Idle
end_alone (Local why) d b = end.Local why

-- the board after it
abbrev pub done_alone : Todo → Delivery → ℕ → SoleBoard → SoleBoard
done_alone (Call c) d by b = delivered_alone d by c b
done_alone Idle d by b = b
done_alone (Local why) d by b = b

-- the ends that the wire tells after it
abbrev pub ends_behind : Todo → WireEnds → WireEnds
ends_behind (Call c) ends = λ call n. ends call (n + 1)
ends_behind Idle ends = ends
ends_behind (Local why) ends = ends

-- all after it, which ends so
abbrev pub after_end : Todo → CallEnd → Delivery → ℕ → SoleRep → SoleRep
after_end t e d by s = record {
  rep = after_todo t e s.rep;
  board = done_alone t d by s.board;
  ends = ends_behind t s.ends;
  out = s.out ++ answer_to t e ∷ [];
}

-- one thing is done
abbrev pub todo_alone : ℕ → List ℕ → Todo → SoleRep → SoleRep
todo_alone by actor t s = after_end t (end_alone t (next_end s.ends actor) s.board) (next_end s.ends actor) by s

-- all of them are done in order
abbrev pub todos_alone : ℕ → List ℕ → List Todo → SoleRep → SoleRep
todos_alone by actor [] s = s
todos_alone by actor (t ∷ ts) s = todos_alone by actor ts (todo_alone by actor t s)

-- an act: what it does at once, and then its calls
abbrev pub act_alone : ℕ → CellAct → Moment → SoleRep → SoleRep
act_alone by a now s = todos_alone by s.rep.cell (plan a now s.rep) (record s { rep = begun a s.rep })

-- what is to be told to the board for an evacuation
abbrev pub draining_todo : Moment → SoleRep → Todo
draining_todo now s = drain_todo now s.rep.cell s.rep.joined

-- how that ends
abbrev pub drain_end : Moment → SoleRep → CallEnd
drain_end now s = end_alone (draining_todo now s) (next_end s.ends s.rep.cell) s.board

-- an evacuation: the drain, and then the settle, if the board agreed to the drain
abbrev pub evacuate_alone : ℕ → Moment → SoleRep → SoleRep
evacuate_alone by now s =
    let drained = todo_alone by s.rep.cell (draining_todo now s) s in
    if is_agreed (drain_end now s) then act_alone by act.Settle now drained else drained
