-- The cells that jobs go to have answered, and are there.
use Rattle.std.proofs.Common.{◌≡◌, ◌⊎◌, ℕ, Bool, true, false, ◌&&◌, ◌==◌, cond, List, [], ◌∷◌, ◌++◌, Option, Some, None, refl, sym, ap, subst, ◌∙◌, arith, inl, inr, ⊎_elim}
use Rattle.std.specs.List.{Contains}
use Rattle.std.specs.Option.{option_map_or, option_to_list}
use Rattle.std.proofs.lemmas.Bool.{eq-eqb}
use Rattle.std.proofs.lemmas.List.{append-nil}
use Rattle.std.proofs.lemmas.List.Elements.{Contains-append_cases}
use Rattle.cell_records.specs.Presence.{is_present}
use Rattle.cell_records.specs.declared.answer.Answer.{Answer}
use Rattle.cell_records.specs.declared.cell_row.CellRow.{CellRow}
use Rattle.cell_rep.specs.declared.rep.CellRep.{CellRep}
use Rattle.crash_backoff.specs.declared.moment.Moment.{Moment}
use Rattle.diego_names.proofs.Public.{IsKeyOrder-name_order}
use Rattle.diego_names.specs.Order.{name_order}
use Rattle.row_tables.proofs.Public.{find_row-Contains}
use Rattle.bbs_model.specs.Tables.{find_cell, cell_name_of}
use Rattle.bbs_model.specs.Valid.{IsValid}
use Rattle.bbs_model.specs.Work.{is_there}
use Rattle.bbs_model.specs.declared.rows.Rows.{Rows}
use Rattle.converge_laws.proofs.Public.{inside_first, inside_rest, first_or_rest, inside_map}
use Rattle.converge_round.specs.Askings.{present_at, present, IsHeardFrom}
use Rattle.converge_round.specs.Each.{Each}
use Rattle.converge_round.specs.Places.{OpensIf, OpensOne, is_being_emptied}
use Rattle.converge_round.specs.Reps.{names_of}
use Rattle.converge_round.proofs.Public.{from_kept}

heard_open : (b : Bool) (cells : List CellRep) (x : Answer) (y : Answer) → OpensIf b cells x (Some y)
    → IsHeardFrom cells x.cell x.epoch y × (b ≡ false)
heard_open true cells x y h = absurd cc
heard_open false cells x y h = (h, refl)

-- the answer is what a cell that answered has now
pub record IsRoomy (rows : Rows) (cells : List CellRep) (got : List Answer) (y : Answer) : Type 0 where
  pub answer : Answer
  pub inside : Contains got answer
  pub heard : IsHeardFrom cells answer.cell answer.epoch y
  pub kept : is_being_emptied rows answer.cell ≡ false

roomy_more : (rows : Rows) (cells : List CellRep) (x : Answer) (got : List Answer) (y : Answer)
    → IsRoomy rows cells got y → IsRoomy rows cells (x ∷ got) y
roomy_more rows cells x got y h = record {
  answer = h.answer;
  inside = inside_rest h.answer x got h.inside;
  heard =
      h.heard;
  kept = h.kept;
}

roomy_now : (rows : Rows) (cells : List CellRep) (x : Answer) (got : List Answer) (s m : List Answer)
    (o : Option Answer) (y : Answer)
    → OpensIf (is_being_emptied rows x.cell) cells x o → m ≡ s ++ option_to_list o → Contains m y
    → Contains s y ⊎ IsRoomy rows cells (x ∷ got) y
roomy_now rows cells x got s m None y opens more inside = inl (subst (λ xs. Contains xs y) (more ∙ append-nil s) inside)
roomy_now rows cells x got s m (Some z) y opens more inside =
    ⊎_elim
    (λ (old : Contains s y). inl old)
    (λ (new : Contains (z ∷ []) y).
    ⊎_elim
    (λ (is : z ≡ y).
    let told = heard_open (is_being_emptied rows x.cell) cells x z opens in
    inr (record {
      answer = x;
      inside = inside_first x got;
      heard =
          subst (IsHeardFrom cells x.cell x.epoch) is told.0;
      kept = told.1;
    }))
    (λ (rest : Contains [] y). absurd (omega (arith, rest.1)))
    (first_or_rest y z [] new))
    (Contains-append_cases s (z ∷ []) y (subst (λ xs. Contains xs y) more inside))

roomy_from : (rows : Rows) (cells : List CellRep) (got : List Answer) (s t : List Answer) (y : Answer)
    → Each (OpensOne rows cells) got s t → Contains t y → Contains s y ⊎ IsRoomy rows cells got y
roomy_from rows cells [] s t y f inside = inl (subst (λ xs. Contains xs y) f inside)
roomy_from rows cells (x ∷ got) s t y f inside =
    ⊎_elim
    (λ (old : Contains f.0 y). roomy_now rows cells x got s f.0 f.1.now y f.1.opens f.1.more old)
    (λ (later : IsRoomy rows cells got y). inr (roomy_more rows cells x got y later))
    (roomy_from rows cells got f.0 t y f.2 inside)

-- each roomy cell is one that answered
pub is-roomy : (rows : Rows) (cells : List CellRep) (got roomy : List Answer) (y : Answer)
    → Each (OpensOne rows cells) got [] roomy → Contains roomy y → IsRoomy rows cells got y
is-roomy rows cells got roomy y f inside =
    ⊎_elim (λ (none : Contains [] y). absurd (omega (arith, none.1))) (λ (r : IsRoomy rows cells got y). r)
    (roomy_from rows cells got [] roomy y f inside)

pub heard_named : (cells : List CellRep) (cell : List ℕ) (epoch : ℕ) (y : Answer) → IsHeardFrom cells cell epoch y
    → Contains (names_of cells) cell
heard_named cells cell epoch y h =
    subst (Contains (names_of cells)) h.stands.cell_is (inside_map (λ (r : CellRep). r.cell) cells h.rep
    (h.place, h.stands.within, sym h.stands.is))

-- a cell that is present is there under the epoch of its row
shown_if : (now : Moment) (c d : CellRow) (b : Bool) → is_present c now ≡ b → cond b (Some c) None ≡ Some d
    → (c ≡ d) × (is_present c now ≡ true)
shown_if now c d true is e = (ap (λ (o : Option CellRow). option_map_or (λ x. x) o c) e, is)
shown_if now c d false is e = absurd cc

pub present-there : (rows : Rows) (now : Moment) (c : CellRow) → IsValid rows → Contains (present rows now) c
    → is_there rows now c.cell c.epoch ≡ true
present-there rows now c valid inside =
    let k = from_kept (present_at now) rows.cells c inside in
    let shown = shown_if now k.0 c (is_present k.0 now) refl k.2 in
    let here : Contains rows.cells c = subst (Contains rows.cells) shown.0 k.1 in
    let found : find_cell rows c.cell ≡ Some c = find_row-Contains name_order cell_name_of IsKeyOrder-name_order c
    rows.cells valid.cells.rising here in
    ap (λ (o : Option CellRow). option_map_or (λ (x : CellRow). x.epoch == c.epoch && is_present x now) o false) found
    ∙ ap (λ (b : Bool). b && is_present c now) (eq-eqb c.epoch c.epoch refl)
    ∙ ap (λ (x : CellRow). is_present x now) (sym shown.0) ∙ shown.1
