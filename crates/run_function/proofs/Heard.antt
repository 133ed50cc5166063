-- What a round hears of cells is what they answer.
use Rattle.std.proofs.Common.{◌≡◌, ℕ, Bool, true, false, not, cond, ◌==◌, List, [], ◌∷◌, ◌++◌, filter_map, Option, Some, None, refl, sym, ap, subst, ◌∙◌, append_assoc}
use Rattle.std.specs.List.{cons_option}
use Rattle.std.specs.Option.{option_and_then, option_to_list}
use Rattle.std.proofs.lemmas.Bool.{eqb-true, eq-eqb}
use Rattle.std.proofs.lemmas.List.{append-nil}
use Rattle.bbs_model.specs.declared.rows.Rows.{Rows}
use Rattle.cell_records.specs.declared.answer.Answer.{Answer}
use Rattle.cell_records.specs.declared.cell_row.CellRow.{CellRow}
use Rattle.cell_rep.specs.Reps.{answer_of}
use Rattle.cell_rep.specs.declared.rep.CellRep.{CellRep}
use Rattle.cell_rep.proofs.Public.{reps_answer}
use Rattle.converge_round.specs.Askings.{Asking, AsksOne, Hears, HearsIf, IsHeardFrom, answer_under}
use Rattle.converge_round.specs.Each.{Each}
use Rattle.converge_round.specs.Places.{OpensIf, OpensOne, is_being_emptied}
use Rattle.phase_runs.specs.Names.{is_among}
use Rattle.scenario_lines.specs.declared.script.RoundLine.{RoundLine}
use Rattle.run_function.specs.Reps.{rep_answer, rep_named}
use Rattle.run_function.specs.RoundLaws.{AreReps}
use Rattle.run_function.specs.Rounds.{asked_alone, roomy_alone, roomy_one}
use Rattle.run_function.proofs.Named.{named_cell, named_inside, stands_inside, stands_named}
use Rattle.run_function.proofs.Steady.{IsOf, reached_asked}

module _ (reps : List CellRep) (are : AreReps reps) (cell : List ℕ) (epoch : ℕ) where
  heard_some : (a : Answer) → IsHeardFrom reps cell epoch a → Some a ≡ rep_answer reps cell epoch
  heard_some a h =
      let here = ap (option_and_then answer_of) (stands_named reps cell h.place h.rep are.apart h.stands) ∙ h.answers in
      sym (ap (answer_under epoch) here ∙ ap (λ (b : Bool). cond b (Some a) None) (eq-eqb a.epoch epoch h.epoch_is))

  heard_from : (rep : CellRep) (a : Answer) → rep_named reps cell ≡ Some rep → answer_of rep ≡ Some a → a.epoch ≡ epoch
      → IsHeardFrom reps cell epoch a
  heard_from rep a is answers e =
      let inside = named_inside reps cell rep is in
      record {
        place = inside.0;
        rep = rep;
        stands = stands_inside reps cell rep inside (named_cell reps cell rep is);
        answers = answers;
        epoch_is = e;
        sound = reps_answer rep a (are.stores rep inside) answers;
      }

  none_under : (rep : CellRep) (a : Answer) → rep_named reps cell ≡ Some rep → answer_of rep ≡ Some a
      → ((b : Answer) → IsHeardFrom reps cell epoch b → ⊥)
      → cond (a.epoch == epoch) (Some a) None ≡ None
  none_under rep a is answers none =
      elim (a.epoch == epoch) as (λ b. a.epoch == epoch ≡ b → cond b (Some a) None ≡ None) [
        | true ↦ λ e. absurd (none a (heard_from rep a is answers (eqb-true a.epoch epoch e)))
        | false ↦ λ e. refl
      ] refl

  none_of : (rep : CellRep) → rep_named reps cell ≡ Some rep → ((b : Answer) → IsHeardFrom reps cell epoch b → ⊥)
      → answer_under epoch (answer_of rep) ≡ None
  none_of rep is none =
      elim (answer_of rep) as (λ (o : Option Answer). answer_of rep ≡ o → answer_under epoch o ≡ None) [
        | None ↦ λ answers. refl
        | (Some a) ↦ λ answers. none_under rep a is answers none
      ] refl

  heard_none : ((b : Answer) → IsHeardFrom reps cell epoch b → ⊥) → rep_answer reps cell epoch ≡ None
  heard_none none =
      elim (rep_named reps cell) as (λ (o : Option CellRep). rep_named reps cell ≡ o
      → answer_under epoch (option_and_then answer_of o) ≡ None) [
        | None ↦ λ is. refl
        | (Some rep) ↦ λ is. none_of rep is none
      ] refl

  -- what is heard of a cell is what it answers
  pub hears_alone : (answer : Option Answer) → Hears reps cell epoch answer → answer ≡ rep_answer reps cell epoch
  hears_alone None h = sym (heard_none (h are.apart))
  hears_alone (Some a) h = heard_some a h

heard_if : (lost : Bool) (reps : List CellRep) → AreReps reps → (cell : List ℕ) (epoch : ℕ) (answer : Option Answer)
    → HearsIf (not lost) reps cell epoch answer
    → answer ≡ cond lost None (rep_answer reps cell epoch)
heard_if true reps are cell epoch answer h = h
heard_if false reps are cell epoch answer h = hears_alone reps are cell epoch answer h

-- one more of a list
pub one_put : {X : Type 0} (o : Option X) (olds news : List X)
    → (olds ++ option_to_list o) ++ news ≡ olds ++ cons_option o news
one_put None olds news = ap (λ xs. xs ++ news) (append-nil olds)
one_put (Some x) olds news = append_assoc olds (x ∷ []) news

-- the cells are asked, and what is heard is what they answer
pub asked_all : (line : RoundLine) (reps : List CellRep) → AreReps reps → (cs : List CellRow) (s s' : Asking)
    → Each (AsksOne reps) cs s s' → IsOf line s.wire
    → (s'.got ≡ s.got ++ filter_map (asked_alone line reps) cs) × IsOf line s'.wire
asked_all line reps are [] s s' f of =
    subst (λ (x : Asking). (x.got ≡ s.got ++ []) × IsOf line x.wire) (sym f) (sym (append-nil s.got), of)
asked_all line reps are (c ∷ cs) s s' f of =
    let h = f.1.asked in
    let sent = reached_asked line c.cell h.reached s.wire f.0.wire h.sent of in
    let answer = heard_if (is_among line.lose_ask c.cell) reps are c.cell c.epoch f.1.answer
    (subst (λ (b : Bool). HearsIf b reps c.cell c.epoch f.1.answer) sent.0 h.heard) in
    let rest = asked_all line reps are cs f.0 s' f.2 sent.1 in (
      rest.0 ∙ ap (λ xs. xs ++ filter_map (asked_alone line reps) cs)
          (f.1.got ∙ ap (λ (o : Option Answer). s.got ++ option_to_list o) answer)
          ∙ one_put (asked_alone line reps c) s.got (filter_map (asked_alone line reps) cs),
      rest.1,
    )

opened_if : (emptied : Bool) (reps : List CellRep) → AreReps reps → (x : Answer) (now : Option Answer)
    → OpensIf emptied reps x now
    → now ≡ cond emptied None (rep_answer reps x.cell x.epoch)
opened_if true reps are x now h = h
opened_if false reps are x now h = hears_alone reps are x.cell x.epoch now h

-- the cells that jobs may go to
pub opened_all : (rows : Rows) (reps : List CellRep) → AreReps reps → (xs s s' : List Answer)
    → Each (OpensOne rows reps) xs s s' → s' ≡ s ++ roomy_alone rows reps xs
opened_all rows reps are [] s s' f = f ∙ sym (append-nil s)
opened_all rows reps are (x ∷ xs) s s' f =
    let now = opened_if (is_being_emptied rows x.cell) reps are x f.1.now f.1.opens in
    opened_all rows reps are xs f.0 s' f.2
    ∙ ap (λ ys. ys ++ roomy_alone rows reps xs) (f.1.more ∙ ap (λ (o : Option Answer). s ++ option_to_list o) now)
    ∙ one_put (roomy_one rows reps x) s (roomy_alone rows reps xs)
