-- Each answer that was got is that of a rep.
use Rattle.std.proofs.Common.{◌≡◌, ◌⊎◌, suc, Bool, true, false, List, [], ◌∷◌, ◌++◌, Option, Some, None, refl, subst, ◌∙◌, arith, inl, inr, ⊎_elim}
use Rattle.std.specs.List.{Contains}
use Rattle.std.specs.Option.{option_to_list}
use Rattle.std.proofs.lemmas.List.{append-nil}
use Rattle.std.proofs.lemmas.List.Elements.{Contains-push_cases}
use Rattle.bbs_model.specs.declared.rows.Rows.{Rows}
use Rattle.cell_records.specs.declared.answer.Answer.{Answer}
use Rattle.cell_records.specs.declared.cell_row.CellRow.{CellRow}
use Rattle.cell_rep.specs.declared.rep.CellRep.{CellRep}
use Rattle.crash_backoff.specs.declared.moment.Moment.{Moment}
use Rattle.converge_round.specs.Askings.{present, questions, Asking, AsksOne, HearsIf, IsHeardFrom}
use Rattle.converge_round.specs.Each.{Each}
use Rattle.converge_round.specs.Items.{AreHeard}
use Rattle.converge_round.specs.Phases.{IsHearing}
use Rattle.converge_round.specs.Sendings.{WireAt}
use Rattle.converge_round.specs.declared.opening.Hearing.{Hearing}

-- the answer is that of the rep of one of these cells, under the epoch of its row
abbrev IsOfOne : List CellRep → List CellRow → Answer → Type 0
IsOfOne cells cs a = (c : CellRow) × Contains cs c × IsHeardFrom cells c.cell c.epoch a

heard_if : (b : Bool) (cells : List CellRep) (c : CellRow) (a : Answer) → HearsIf b cells c.cell c.epoch (Some a)
    → IsHeardFrom cells c.cell c.epoch a
heard_if true cells c a h = h
heard_if false cells c a h = absurd cc

of_more : (cells : List CellRep) (c : CellRow) (cs : List CellRow) (a : Answer) → IsOfOne cells cs a
    → IsOfOne cells (c ∷ cs) a
of_more cells c cs a h = (h.0, (suc h.1.0, omega (arith, h.1.1), h.1.2), h.2)

one_got : (cells : List CellRep) (c : CellRow) (cs : List CellRow) (got got' : List Answer) (b : Bool)
    (o : Option Answer) (a : Answer) → HearsIf b cells c.cell c.epoch o
    → got' ≡ got ++ option_to_list o → Contains got' a → Contains got a ⊎ IsOfOne cells (c ∷ cs) a
one_got cells c cs got got' b None a h more inside = inl (subst (λ xs. Contains xs a) (more ∙ append-nil got) inside)
one_got cells c cs got got' b (Some x) a h more inside =
    ⊎_elim
    (λ (old : Contains got a). inl old)
    (λ (is : x ≡ a). inr (
      c,
      (0, omega arith, refl),
      subst (IsHeardFrom cells c.cell c.epoch) is
          (heard_if b cells c x h),
    ))
    (Contains-push_cases got x a (subst (λ xs. Contains xs a) more inside))

all_got : (cells : List CellRep) (cs : List CellRow) (s t : Asking) (a : Answer) → Each (AsksOne cells) cs s t
    → Contains t.got a → Contains s.got a ⊎ IsOfOne cells cs a
all_got cells [] s t a f inside = inl (subst (λ (x : Asking). Contains x.got a) f inside)
all_got cells (c ∷ cs) s t a f inside =
    ⊎_elim
    (λ (old : Contains f.0.got a). one_got cells c cs s.got f.0.got f.1.asked.reached f.1.answer a f.1.asked.heard
    f.1.got old)
    (λ (later : IsOfOne cells cs a). inr (of_more cells c cs a later))
    (all_got cells cs f.0 t a f.2 inside)

-- what was got was heard
pub heard_in : (reps : List CellRep) (rows : Rows) (now : Moment) (s s' : WireAt) (h : Hearing)
    → IsHearing reps rows now s s' h → AreHeard reps now h.got rows
heard_in reps rows now s s' h heard a inside =
    ⊎_elim (λ (none : Contains [] a). absurd (omega (arith, none.1))) (λ (one : IsOfOne reps (present rows now) a). one)
    (all_got reps (present rows now) (questions s []) (questions s' h.got) a heard.got inside)
