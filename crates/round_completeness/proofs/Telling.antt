-- Deliveries over a wire whose ends don't depend on their number: the questions and the stops of a round.
use Rattle.std.proofs.Common.{◌≡◌, ℕ, ◌+◌, Bool, true, false, not, cond, List, [], ◌∷◌, ◌++◌, filter, Option, Some, None, refl, sym, ap, subst, ◌∙◌}
use Rattle.std.specs.List.{Contains}
use Rattle.std.specs.Option.{option_to_list}
use Rattle.std.proofs.lemmas.List.{append-nil, append_assoc}
use Rattle.cell_records.specs.declared.answer.Answer.{Answer}
use Rattle.cell_records.specs.declared.cell_row.CellRow.{CellRow}
use Rattle.cell_rep.specs.Deliveries.{end_now, EndFits}
use Rattle.cell_rep.specs.Follows.{moved_all}
use Rattle.cell_rep.specs.Wires.{WireEnds, Delivers, is_delivery_lost}
use Rattle.cell_rep.specs.declared.call_end.CallEnd.{CallEnd}
use Rattle.cell_rep.specs.declared.rep.CellRep.{CellRep}
use Rattle.cell_rep.specs.declared.todo.Todo.{Todo}
use Rattle.cell_rep.specs.declared.todo.Todo.TheVariants as todo
use Rattle.cell_rep.specs.declared.wire.CallKind.{CallKind}
use Rattle.cell_rep.specs.declared.wire.CallKind.TheVariants.{Ask, Stop, Board}
use Rattle.cell_rep.specs.declared.wire.Delivery.{Delivery}
use Rattle.cell_rep.specs.declared.wire.WireCall.{WireCall}
use Rattle.converge_laws.proofs.Public.{inside_first, inside_rest}
use Rattle.converge_round.specs.Askings.{HearsIf, Asking, AsksOne}
use Rattle.converge_round.specs.Each.{Each}
use Rattle.converge_round.specs.Reps.{names_of}
use Rattle.converge_round.specs.Sendings.{WireAt, IsSent}
use Rattle.converge_round.specs.Stops.{StopsIf, if_done, Stopped, StopsOne}
use Rattle.diego_names.specs.declared.instance.Instance.{Instance}
use Rattle.round_theorem.proofs.Public.{names_after}
use Rattle.round_completeness.specs.Ends.{gets_through, AreHeardByEnds, is_stopped}

-- the wire tells these ends, whatever the number
abbrev pub Tells : WireEnds → Option WireEnds → Type 0
Tells ends None = ⊥
Tells ends (Some e) = (c : WireCall) (n : ℕ) → e c n ≡ ends c 0

delivers_so : (ends : WireEnds) (o o' : Option WireEnds) (call : WireCall) (d : Delivery) → Tells ends o
    → Delivers o o' call d
    → (d ≡ ends call 0) × Tells ends o'
delivers_so ends None o' call d t h = absurd t
delivers_so ends (Some e) None call d t h = absurd h
delivers_so ends (Some e) (Some later) call d t h = (h.0 ∙ t call 0, λ c n. h.1 c n ∙ t c (n + 1))

-- what is sent gets through as they tell
pub sent_so : (ends : WireEnds) (cell : List ℕ) (kind : CallKind) (reached : Bool) (s s' : WireAt) → Tells ends s.ends
    → IsSent cell kind reached s s' → (reached ≡ gets_through ends cell kind) × Tells ends s'.ends
sent_so ends cell kind reached s s' t h =
    let d = delivers_so ends s.ends s'.ends (record { actor = cell; kind = kind }) h.end t h.ends in
    (h.is ∙ ap (λ (x : Delivery). not (is_delivery_lost x)) d.0, d.1)

-- and so do calls of the board
pub tells_moved : (ends : WireEnds) (t : Todo) (o : Option WireEnds) → Tells ends o → Tells ends (moved_all (t ∷ []) o)
tells_moved ends t None h = absurd h
tells_moved ends (todo.Call c) (Some e) h = λ call n. h call (n + 1)
tells_moved ends todo.Idle (Some e) h = h
tells_moved ends (todo.Local why) (Some e) h = h

pub fits_told : (ends : WireEnds) (o : Option WireEnds) (cell : List ℕ) (e : CallEnd) → Tells ends o
    → EndFits (end_now o cell) e
    → EndFits (Some (ends (record { actor = cell; kind = Board }) 0)) e
fits_told ends None cell e t h = absurd t
fits_told ends (Some x) cell e t h = subst (λ (d : Delivery). EndFits (Some d) e)
    (t (record { actor = cell; kind = Board }) 0) h

-- the questions
pub record AreAskedSo (ends : WireEnds) (reps : List CellRep) (cs : List CellRow) (s t : Asking) : Type 0 where
  pub more : List Answer
  pub is : t.got ≡ s.got ++ more
  pub heard : AreHeardByEnds ends reps cs more
  pub tells : Tells ends t.wire.ends

pub asks-so : (ends : WireEnds) (reps : List CellRep) (cs : List CellRow) (s t : Asking) → Tells ends s.wire.ends
    → Each (AsksOne reps) cs s t → AreAskedSo ends reps cs s t
asks-so ends reps [] s t tells f = record {
  more = [];
  is = ap (λ (x : Asking). x.got) f ∙ sym (append-nil s.got);
  heard = refl;
  tells = subst (λ (x : Asking). Tells ends x.wire.ends) (sym f) tells;
}
asks-so ends reps (c ∷ cs) s t tells f =
    let w = sent_so ends c.cell Ask f.1.asked.reached s.wire f.0.wire tells f.1.asked.sent in
    let rest = asks-so ends reps cs f.0 t w.1 f.2 in
    record {
      more = option_to_list f.1.answer ++ rest.more;
      is = rest.is ∙ ap (λ xs. xs ++ rest.more) f.1.got ∙ append_assoc s.got (option_to_list f.1.answer) rest.more;
      heard = (
        f.1.answer,
        rest.more,
        refl,
        subst (λ (b : Bool). HearsIf b reps c.cell c.epoch f.1.answer) w.0
            f.1.asked.heard,
        rest.heard,
      );
      tells = rest.tells;
    }

-- the stops, where each cell has a rep
abbrev Stray : Type 0
Stray = List ℕ × Instance

done_so : (reached done : Bool) (a : Stray) (reps reps' : List CellRep) → Contains (names_of reps) a.0
    → StopsIf reached done a reps reps'
    → done ≡ reached
done_so true true a reps reps' have h = refl
done_so true false a reps reps' have h = absurd (h.0 have)
done_so false true a reps reps' have h = absurd h
done_so false false a reps reps' have h = refl

kept_or_not : (b : Bool) (a : Stray) (rest : List Stray) → if_done b a ++ rest ≡ cond b (a ∷ rest) rest
kept_or_not true a rest = refl
kept_or_not false a rest = refl

pub record AreStoppedSo (ends : WireEnds) (gone : List Stray) (s t : Stopped) : Type 0 where
  pub is : t.stopped ≡ s.stopped ++ filter (is_stopped ends) gone
  pub tells : Tells ends t.course.wire.ends

pub stops-so : (ends : WireEnds) (gone : List Stray) (s t : Stopped) → Tells ends s.course.wire.ends
    → ((a : Stray) → Contains gone a → Contains (names_of s.course.reps) a.0) → Each StopsOne gone s t
    → AreStoppedSo ends gone s t
stops-so ends [] s t tells have f = record {
  is = ap (λ (x : Stopped). x.stopped) f ∙ sym (append-nil s.stopped);
  tells = subst (λ (x : Stopped). Tells ends x.course.wire.ends) (sym f) tells;
}
stops-so ends (a ∷ gone) s t tells have f =
    let w = sent_so ends a.0 Stop f.1.stops.reached s.course.wire f.0.course.wire tells f.1.stops.sent in
    let done = done_so f.1.stops.reached f.1.done a s.course.reps f.0.course.reps
    (have a (inside_first a gone)) f.1.stops.stops ∙ w.0 in
    let names = names_after f.1.stops.reached f.1.done a s.course.reps f.0.course.reps f.1.stops.stops in
    let rest = stops-so ends gone f.0 t w.1 (λ b inside. subst (λ ns. Contains ns b.0) (sym names)
    (have b (inside_rest b a gone inside)))
    f.2 in
    record {
      is = rest.is ∙ ap (λ xs. xs ++ filter (is_stopped ends) gone) f.1.stopped
          ∙ append_assoc s.stopped (if_done f.1.done a) (filter (is_stopped ends) gone)
          ∙ ap (λ xs. s.stopped ++ xs) (kept_or_not f.1.done a (filter (is_stopped ends) gone)
          ∙ ap (λ (b : Bool). cond b (a ∷ filter (is_stopped ends) gone) (filter (is_stopped ends) gone)) done);
      tells = rest.tells;
    }
