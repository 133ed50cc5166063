-- What is heard of a rep that was found by its place.
use Rattle.std.proofs.Common.{◌≡◌, ℕ, Bool, true, false, cond, eqb, List, get_or, Option, Some, None, refl, sym, ap, subst, ◌∙◌, Result, Ok, Err}
use Rattle.std.specs.Prelude.{slice_get, IfOk}
use Rattle.std.specs.Option.{option_map, option_map_or}
use Rattle.std.proofs.lemmas.Bool.{eqb-true, eq-eqb}
use Rattle.std.proofs.lemmas.Option.{slice_get-map, slice_get-get_or}
use Rattle.cell_records.specs.declared.answer.Answer.{Answer}
use Rattle.cell_rep.specs.Laws.{HasStore}
use Rattle.cell_rep.specs.Reps.{answer_of}
use Rattle.cell_rep.specs.declared.rep.CellRep.{CellRep}
use Rattle.cell_rep.proofs.Public.{reps_answer}
use Rattle.converge_round.specs.Askings.{answer_under, StandApart, Hears}
use Rattle.converge_round.specs.Reps.{names_of, StandsFor}
use Rattle.converge_round.proofs.RepLaws.{stands-for}

-- what holds of what was had
pub if_ok : {X E : Type 0} (A B : X → Type 0) (r : Result X E) → ((x : X) → A x → B x) → IfOk r A → IfOk r B
if_ok A B (Ok x) f h = f x h
if_ok A B (Err e) f h = tt

pub rep_there : (cells : List CellRep) (cell : List ℕ) (at : ℕ) (rep : CellRep) → StandsFor cells cell at rep
    → slice_get cells at ≡ Some rep
rep_there cells cell at rep h = slice_get-get_or cells at rep h.within ∙ ap (λ r. Some r) (sym h.is)

pub name_there : (cells : List CellRep) (cell : List ℕ) (at : ℕ) (rep : CellRep) → StandsFor cells cell at rep
    → slice_get (names_of cells) at ≡ Some cell
name_there cells cell at rep h =
    slice_get-map (λ (r : CellRep). r.cell) cells at
    ∙ ap (option_map (λ (r : CellRep). r.cell)) (rep_there cells cell at rep h) ∙ ap (λ n. Some n) h.cell_is

one_rep : (cells : List CellRep) (cell : List ℕ) (at other : ℕ) (rep rep' : CellRep) → StandApart (names_of cells)
    → StandsFor cells cell at rep → StandsFor cells cell other rep' → Some rep ≡ Some rep'
one_rep cells cell at other rep rep' apart h k =
    let same : at ≡ other = apart at other cell (name_there cells cell at rep h) (name_there cells cell other rep' k) in
    sym (rep_there cells cell at rep h) ∙ ap (slice_get cells) same ∙ rep_there cells cell other rep' k

same_answer : (rep rep' : CellRep) → Some rep ≡ Some rep' → answer_of rep ≡ answer_of rep'
same_answer rep rep' e = ap (λ o. option_map_or (λ r. answer_of r) o (answer_of rep)) e

heard_under : (cells : List CellRep) (cell : List ℕ) (epoch at : ℕ) (rep : CellRep) (x : Answer)
    → StandsFor cells cell at rep → HasStore rep.joined → answer_of rep ≡ Some x
    → (b : Bool) → eqb x.epoch epoch ≡ b → Hears cells cell epoch (cond b (Some x) None)
heard_under cells cell epoch at rep x stands store answers true e = record {
  place = at;
  rep = rep;
  stands = stands;
  answers = answers;
  epoch_is = eqb-true x.epoch epoch e;
  sound = reps_answer rep x store answers;
}
heard_under cells cell epoch at rep x stands store answers false e = λ apart a h.
    let same : Some x ≡ Some a = sym answers ∙ same_answer rep h.rep
    (one_rep cells cell at h.place rep h.rep apart stands h.stands) ∙ h.answers in
    let epochs : x.epoch ≡ a.epoch = ap (λ o. option_map_or (λ (y : Answer). y.epoch) o x.epoch) same in
    let yes : eqb x.epoch epoch ≡ true = eq-eqb x.epoch epoch (epochs ∙ h.epoch_is) in
    let bad : true ≡ false = sym yes ∙ e in absurd cc

heard_as : (cells : List CellRep) (cell : List ℕ) (epoch at : ℕ) (rep : CellRep) → StandsFor cells cell at rep
    → HasStore rep.joined
    → (found : Option Answer) → answer_of rep ≡ found → Hears cells cell epoch (answer_under epoch found)
heard_as cells cell epoch at rep stands store None e = λ apart a h.
    let bad : None ≡ Some a = sym e ∙ same_answer rep h.rep
    (one_rep cells cell at h.place rep h.rep apart stands h.stands) ∙ h.answers in absurd cc
heard_as cells cell epoch at rep stands store (Some x) e =
    heard_under cells cell epoch at rep x stands store e (eqb x.epoch epoch) refl

pub hears_at : (cells : List CellRep) (cell : List ℕ) (epoch at : ℕ) (rep : CellRep)
    → slice_get (names_of cells) at ≡ Some cell → rep ≡ get_or cells at rep → HasStore rep.joined
    → (o : Option Answer) → o ≡ answer_under epoch (answer_of rep) → Hears cells cell epoch o
hears_at cells cell epoch at rep here is store o e =
    subst (Hears cells cell epoch) (sym e) (heard_as cells cell epoch at rep
    (stands-for cells at cell rep here is) store (answer_of rep) refl)
