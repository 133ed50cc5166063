-- What was to be done was done as one does it alone.
use Rattle.std.proofs.Common.{◌≡◌, ℕ, false, List, [], ◌∷◌, ◌++◌, Option, Some, refl, sym, ap, subst, ◌∙◌, append_assoc}
use Rattle.std.proofs.lemmas.List.{append-nil}
use Rattle.bbs_board.specs.Doubts.{doubts_in}
use Rattle.bbs_model.specs.PortView.{IsLater, IsQuiet, PortView}
use Rattle.bbs_model.proofs.Public.{later_same, later_then}
use Rattle.cell_rep.specs.Follows.{EndsOf, Follows, IsAnswer, Performs, Stage, after_todo, answer_to, moved_all, moved_by}
use Rattle.cell_rep.specs.Wires.{WireEnds}
use Rattle.cell_rep.specs.declared.call_end.Called.{Called}
use Rattle.cell_rep.specs.declared.rep.CellRep.{CellRep}
use Rattle.cell_rep.specs.declared.todo.Todo.{Todo}
use Rattle.cell_rep.specs.declared.todo.Todo.TheVariants as todo
use Rattle.converge_round.specs.Starts.{HasNoFault}
use Rattle.run_function.specs.ActLaws.{IsAsAlone, AgreesWith}
use Rattle.run_function.specs.Acts.{SoleRep, done_alone, end_alone, ends_behind, next_end, todo_alone, todos_alone}
use Rattle.run_function.specs.Boards.{SoleBoard, board_seen}
use Rattle.run_function.specs.Quiet.{StaysCalm}
use Rattle.phase_actors.specs.Runs.{is_any_starved, is_starved_end}
use Rattle.run_function.proofs.Delivered.{later_delivered, sent_due, sent_stored}
use Rattle.run_function.proofs.Quiets.{alone_first, alone_second, neither_first, neither_second, none_second}

pub later_ended : (by : ℕ) (actor : List ℕ) (ends : Option WireEnds) (t : Todo) (v : PortView) (a : Called)
    (w : PortView)
    → EndsOf by actor ends t v a w → IsLater v w
later_ended by actor ends (todo.Call c) v a w h = later_delivered by v c a.end w h.1
later_ended by actor ends todo.Idle v a w h = subst (IsLater v) (sym h) (later_same v)
later_ended by actor ends (todo.Local why) v a w h = subst (IsLater v) (sym h) (later_same v)

pub later_followed : (by : ℕ) (actor : List ℕ) (ends : Option WireEnds) (ts : List Todo) (rep : CellRep) (v : PortView)
    (new : List Called) (rep' : CellRep) (w : PortView)
    → Follows by actor ends ts rep v new rep' w → IsLater v w
later_followed by actor ends [] rep v [] rep' w f = subst (IsLater v) (sym f.1) (later_same v)
later_followed by actor ends [] rep v (a ∷ as') rep' w f = absurd f
later_followed by actor ends (t ∷ ts) rep v [] rep' w f = absurd f
later_followed by actor ends (t ∷ ts) rep v (a ∷ as') rep' w f =
    later_then v f.0 w (later_ended by actor ends t v a f.0 f.2)
    (later_followed by actor (moved_by t ends) ts (after_todo t a.end rep) f.0 as' rep' w f.3)

-- one thing was done with the end that is due
pub record IsDoneAlone (by : ℕ) (actor : List ℕ) (ends : WireEnds) (t : Todo) (v : PortView) (a : Called)
    (w : PortView) : Type 0 where
  pub end_is : a.end ≡ end_alone t (next_end ends actor) (board_seen v)
  pub answer : a ≡ answer_to t (end_alone t (next_end ends actor) (board_seen v))
  pub board : board_seen w ≡ done_alone t (next_end ends actor) by (board_seen v)
  pub moved : moved_by t (Some ends) ≡ Some (ends_behind t ends)

pub one_due : (by : ℕ) (actor : List ℕ) (ends : WireEnds) (t : Todo) (v : PortView) (a : Called) (w : PortView)
    → IsAnswer t a
    → EndsOf by actor (Some ends) t v a w → IsQuiet v w → HasNoFault a.end → IsDoneAlone by actor ends t v a w
one_due by actor ends (todo.Call c) v a w is h quiet none =
    let one = sent_due by v c w quiet (next_end ends actor) a.end h.0 h.1 none in
    record {
      end_is = one.end_is;
      answer = λ i. record { command = is i; end = one.end_is i };
      board = one.board;
      moved = refl;
    }
one_due by actor ends todo.Idle v a w is h quiet none =
    record { end_is = ap (λ (x : Called). x.end) is; answer = is; board = ap board_seen h; moved = refl }
one_due by actor ends (todo.Local why) v a w is h quiet none =
    record { end_is = ap (λ (x : Called). x.end) is; answer = is; board = ap board_seen h; moved = refl }

todo_stored : (by : ℕ) (actor : List ℕ) (ends : Option WireEnds) (t : Todo) (v : PortView) (a : Called) (w : PortView)
    → IsAnswer t a
    → EndsOf by actor ends t v a w → doubts_in w.seen ≡ 0 → is_starved_end a.end ≡ false → HasNoFault a.end
todo_stored by actor ends (todo.Call c) v a w is h calm fed = sent_stored by v c a.end w h.1 calm fed
todo_stored by actor ends todo.Idle v a w is h calm fed = subst HasNoFault (sym (ap (λ (x : Called). x.end) is)) tt
todo_stored by actor ends (todo.Local why) v a w is h calm fed =
    subst HasNoFault (sym (ap (λ (x : Called). x.end) is)) tt

abbrev pub sole_rep : CellRep → SoleBoard → WireEnds → List Called → SoleRep
sole_rep rep b ends out = record { rep = rep; board = b; ends = ends; out = out }

pub followed_alone : (by : ℕ) (actor : List ℕ) (ts : List Todo) (rep : CellRep) (v : PortView) (ends : WireEnds)
    (out new : List Called) (rep' : CellRep) (w : PortView)
    → Follows by actor (Some ends) ts rep v new rep' w → StaysCalm v w → is_any_starved new ≡ false
    → IsAsAlone (todos_alone by actor ts (sole_rep rep (board_seen v) ends out)) rep' w (moved_all ts (Some ends))
    (out ++ new)
followed_alone by actor [] rep v ends out [] rep' w f alone fed =
    record { rep_is = sym f.0; board = sym (ap board_seen f.1); ends_are = refl; out_is = sym (append-nil out) }
followed_alone by actor [] rep v ends out (a ∷ as') rep' w f alone fed = absurd f
followed_alone by actor (t ∷ ts) rep v ends out [] rep' w f alone fed = absurd f
followed_alone by actor (t ∷ ts) rep v ends out (a ∷ as') rep' w f alone fed =
    let m : PortView = f.0 in
    let one_later = later_ended by actor (Some ends) t v a m f.2 in
    let rest_later = later_followed by actor (moved_by t (Some ends)) ts (after_todo t a.end rep) m as' rep' w f.3 in
    let before = alone_first v m w one_later rest_later alone in
    let none = todo_stored by actor (Some ends) t v a m f.1 f.2 before.calm
    (neither_first (is_starved_end a.end) (is_any_starved as') fed) in
    let one = one_due by actor ends t v a m f.1 f.2 before.quiet none in
    let follows = subst (λ (e : Option WireEnds). Follows by actor e ts (after_todo t a.end rep) m as' rep' w) one.moved
    f.3 in
    let rest = followed_alone by actor ts (after_todo t a.end rep) m (ends_behind t ends)
    (out ++ a ∷ []) as' rep' w follows
    (alone_second v m w one_later rest_later alone) (neither_second (is_starved_end a.end) (is_any_starved as') fed) in
    let same : sole_rep (after_todo t a.end rep) (board_seen m) (ends_behind t ends) (out ++ a ∷ [])
    ≡ todo_alone by actor t (sole_rep rep (board_seen v) ends out) =
    λ i. record {
      rep = after_todo t (one.end_is i) rep;
      board = one.board i;
      ends = ends_behind t ends;
      out = out
          ++ one.answer i ∷ [];
    } in
    let there = subst (λ (x : SoleRep). IsAsAlone (todos_alone by actor ts x) rep' w
    (moved_all ts (Some (ends_behind t ends))) ((out ++ a ∷ []) ++ as')) same rest in
    record {
      rep_is = there.rep_is;
      board = there.board;
      ends_are = ap (λ (e : Option WireEnds). moved_all ts e) one.moved ∙ there.ends_are;
      out_is = there.out_is ∙ append_assoc out (a ∷ []) as';
    }

pub performed_alone : (by : ℕ) (actor : List ℕ) (ts : List Todo) (s s' : Stage) (x : SoleRep)
    → Performs by actor ts s s' → AgreesWith s x
    → StaysCalm s.view s'.view → is_any_starved s'.out ≡ false → AgreesWith s' (todos_alone by actor ts x)
performed_alone by actor ts s s' x h at alone fed =
    let follows = subst (λ (e : Option WireEnds). Follows by actor e ts s.rep s.view h.new s'.rep s'.view) at.ends_are
    h.follows in
    let none = none_second (λ (a : Called). is_starved_end a.end) s.out h.new
    (sym (ap is_any_starved h.out_is) ∙ fed) in
    let left = followed_alone by actor ts s.rep s.view x.ends s.out h.new s'.rep s'.view follows alone none in
    let same : sole_rep s.rep (board_seen s.view) x.ends s.out ≡ x =
    λ i. record { rep = sym at.rep_is i; board = sym at.board i; ends = x.ends; out = sym at.out_is i } in
    let there = subst (λ (y : SoleRep). IsAsAlone (todos_alone by actor ts y) s'.rep s'.view
    (moved_all ts (Some x.ends)) (s.out ++ h.new)) same left in
    record {
      rep_is = there.rep_is;
      board = there.board;
      ends_are = h.ends_are ∙ ap (moved_all ts) at.ends_are ∙ there.ends_are;
      out_is = there.out_is ∙ sym h.out_is;
    }
