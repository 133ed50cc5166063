-- A question that gets through to a rep that has joined is answered.
use Rattle.std.proofs.Common.{◌≡◌, ℕ, zero, suc, ◌+◌, Bool, true, false, not, List, [], ◌∷◌, ◌++◌, slice_get, Option, Some, None, refl, sym, ap, subst, ◌∙◌, arith}
use Rattle.std.specs.List.{Contains}
use Rattle.std.specs.Option.{option_map_or, option_to_list}
use Rattle.std.proofs.lemmas.List.Elements.{Contains-append_left, Contains-push}
use Rattle.cell_records.specs.declared.answer.Answer.{Answer}
use Rattle.cell_records.specs.declared.cell_row.CellRow.{CellRow}
use Rattle.cell_rep.specs.Wires.{WireEnds, Delivers, is_delivery_lost}
use Rattle.cell_rep.specs.declared.rep.CellRep.{CellRep}
use Rattle.cell_rep.specs.declared.wire.CallKind.TheVariants.{Ask}
use Rattle.cell_rep.specs.declared.wire.Delivery.{Delivery}
use Rattle.cell_rep.specs.declared.wire.Delivery.TheVariants.{Through}
use Rattle.cell_rep.specs.declared.wire.WireCall.{WireCall}
use Rattle.converge_round.specs.Askings.{StandApart, IsHeardFrom, HearsIf, Asking, AsksOne}
use Rattle.converge_round.specs.Each.{Each}
use Rattle.converge_round.specs.Reps.{names_of}
use Rattle.round_theorem.proofs.Answered.{are-heard, heard_cell, heard_inside, answers_differ}

abbrev ask_of : CellRow → WireCall
ask_of c = record { actor = c.cell; kind = Ask }

-- what a delivery shows of a wire that tells its ends
shown_by : (ends : WireEnds) (o : Option WireEnds) (call : WireCall) (d : Delivery) → Delivers (Some ends) o call d
    → (d ≡ ends call 0) × ((later : WireEnds) × (o ≡ Some later)
    × ((c : WireCall) (n : ℕ) → later c n ≡ ends c (n + 1)))
shown_by ends None call d h = absurd h
shown_by ends (Some later) call d h = (h.0, (later, refl, h.1))

heard_so : (cells : List CellRep) (c : CellRow) (o : Option Answer) (b : Bool) → b ≡ true
    → HearsIf b cells c.cell c.epoch o → StandApart (names_of cells) → (a : Answer)
    → IsHeardFrom cells c.cell c.epoch a → o ≡ Some a
heard_so cells c o false e h apart a heard = absurd cc
heard_so cells c None true e h apart a heard = absurd (h apart a heard)
heard_so cells c (Some x) true e h apart a heard =
    ap (λ y. Some y) (answers_differ cells apart x a (heard_inside cells c.cell c.epoch x h)
    (heard_inside cells c.cell c.epoch a heard)
    (heard_cell cells c.cell c.epoch x h ∙ sym (heard_cell cells c.cell c.epoch a heard)))

pub gets-through : (cells : List CellRep) (cs : List CellRow) (s t : Asking) (ends : WireEnds)
    → StandApart (names_of cells) → Each (AsksOne cells) cs s t → s.wire.ends ≡ Some ends
    → (k : ℕ) (c : CellRow) → slice_get cs k ≡ Some c → ends (ask_of c) k ≡ Through → (a : Answer)
    → IsHeardFrom cells c.cell c.epoch a → Contains t.got a
gets-through cells [] s t ends apart f told k c at through a heard = absurd cc
gets-through cells (x ∷ cs) s t ends apart f told zero c at through a heard =
    let same : x ≡ c = ap (λ (o : Option CellRow). option_map_or (λ (y : CellRow). y) o x) at in
    let seen = shown_by ends f.0.wire.ends (ask_of x) f.1.asked.sent.end
    (subst (λ (o : Option WireEnds). Delivers o f.0.wire.ends (ask_of x) f.1.asked.sent.end) told
    f.1.asked.sent.ends) in
    let got : f.1.asked.sent.end ≡ Through = seen.0 ∙ ap (λ (y : CellRow). ends (ask_of y) 0) same ∙ through in
    let reached : f.1.asked.reached ≡ true = f.1.asked.sent.is ∙ ap (λ (d : Delivery). not (is_delivery_lost d)) got in
    let answer : f.1.answer ≡ Some a = heard_so cells x f.1.answer f.1.asked.reached reached f.1.asked.heard apart a
    (subst (λ (y : CellRow). IsHeardFrom cells y.cell y.epoch a) (sym same) heard) in
    let here : Contains f.0.got a = subst (λ xs. Contains xs a)
    (sym (f.1.got ∙ ap (λ (o : Option Answer). s.got ++ option_to_list o) answer)) (Contains-push s.got a) in
    let more = are-heard cells cs f.0 t f.2 in
    subst (λ xs. Contains xs a) (sym more.is) (Contains-append_left f.0.got more.more a here)
gets-through cells (x ∷ cs) s t ends apart f told (suc k) c at through a heard =
    let seen = shown_by ends f.0.wire.ends (ask_of x) f.1.asked.sent.end
    (subst (λ (o : Option WireEnds). Delivers o f.0.wire.ends (ask_of x) f.1.asked.sent.end) told
    f.1.asked.sent.ends) in
    gets-through cells cs f.0 t seen.1.0 apart f.2 seen.1.1 k c at
    (seen.1.2 (ask_of c) k ∙ ap (ends (ask_of c)) (omega arith) ∙ through) a heard
