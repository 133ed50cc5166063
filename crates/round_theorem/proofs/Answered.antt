-- Where no question was lost each cell that is there has answered.
use Rattle.std.proofs.Common.{◌≡◌, ℕ, ◌≤◌, Bool, true, false, ◌&&◌, ◌==◌, cond, List, [], ◌∷◌, ◌++◌, length, filter_map, Option, Some, None, IsSome, refl, sym, ap, subst, ◌∙◌, arith, ⊎_elim, append_assoc, nat_eq, slice_get}
use Rattle.std.specs.Cmp.Lexicographic.{pointwise}
use Rattle.std.specs.List.{Contains}
use Rattle.std.specs.Option.{option_map_or, option_to_list}
use Rattle.std.proofs.lemmas.Bool.{eqb-true, eq-eqb}
use Rattle.std.proofs.lemmas.Cmp.{nat_list_eq_equiv}
use Rattle.std.proofs.lemmas.List.{append-nil}
use Rattle.cell_records.specs.Presence.{is_present}
use Rattle.cell_records.specs.declared.answer.Answer.{Answer}
use Rattle.cell_records.specs.declared.cell_row.CellRow.{CellRow}
use Rattle.cell_rep.specs.Reps.{answer_of, answer_in}
use Rattle.cell_rep.specs.declared.joined.Joined.{Joined}
use Rattle.cell_rep.specs.declared.rep.CellRep.{CellRep}
use Rattle.crash_backoff.specs.declared.moment.Moment.{Moment}
use Rattle.diego_names.proofs.Public.{IsKeyOrder-name_order}
use Rattle.diego_names.specs.Order.{name_order}
use Rattle.row_tables.proofs.Public.{Contains-find_row, key-find_row}
use Rattle.bbs_model.specs.Tables.{find_cell, cell_name_of}
use Rattle.bbs_model.specs.Work.{is_there}
use Rattle.bbs_model.specs.declared.rows.Rows.{Rows}
use Rattle.convergence.specs.Containers.{is_answer_of}
use Rattle.convergence.proofs.Public.{find-some}
use Rattle.converge_laws.specs.Stages.{HaveAnswered}
use Rattle.converge_laws.proofs.Public.{inside_first, inside_rest, first_or_rest}
use Rattle.converge_round.specs.Askings.{present_at, present, StandApart, IsHeardFrom, HearsIf, Asking, AsksOne, questions}
use Rattle.converge_round.specs.Each.{Each}
use Rattle.converge_round.specs.Reps.{names_of, StandsFor}
use Rattle.converge_round.specs.Sendings.{WireAt}
use Rattle.converge_round.proofs.Public.{name_there, rep_there, from_kept}
use Rattle.round_theorem.proofs.Lists.{kept_inside}

-- the answers that these cells gave
pub record AreHeard (cells : List CellRep) (cs : List CellRow) (old new : List Answer) : Type 0 where
  pub more : List Answer
  pub is : new ≡ old ++ more
  pub few : length more ≤ length cs
  pub from : (a : Answer) → Contains more a → (c : CellRow) × Contains cs c × IsHeardFrom cells c.cell c.epoch a
  pub all : length cs ≤ length more → (c : CellRow) → Contains cs c
      → (a : Answer) × Contains more a × IsHeardFrom cells c.cell c.epoch a

heard_one : (b : Bool) (cells : List CellRep) (cell : List ℕ) (epoch : ℕ) (a : Answer)
    → HearsIf b cells cell epoch (Some a) → IsHeardFrom cells cell epoch a
heard_one true cells cell epoch a h = h
heard_one false cells cell epoch a h = absurd cc

heard_before : (cells : List CellRep) (c : CellRow) (cs : List CellRow) (old middle new : List Answer)
    (o : Option Answer)
    → ((a : Answer) → o ≡ Some a → IsHeardFrom cells c.cell c.epoch a) → middle ≡ old ++ option_to_list o
    → AreHeard cells cs middle new → AreHeard cells (c ∷ cs) old new
heard_before cells c cs old middle new None told e h = record {
  more = h.more;
  is = h.is ∙ ap (λ xs. xs ++ h.more) (e ∙ append-nil old);
  few = omega (arith, h.few);
  from = λ a inside. let r = h.from a inside in (r.0, inside_rest r.0 c cs r.1, r.2);
  all = λ enough. absurd (omega (arith, h.few, enough));
}
heard_before cells c cs old middle new (Some a) told e h = record {
  more = a ∷ h.more;
  is = h.is ∙ ap (λ xs. xs ++ h.more) e ∙ append_assoc old (a ∷ []) h.more;
  few = omega (arith, h.few);
  from = λ b inside. ⊎_elim
      (λ (is : a ≡ b). (c, inside_first c cs, subst (IsHeardFrom cells c.cell c.epoch) is (told a refl)))
      (λ (rest : Contains h.more b). let r = h.from b rest in (r.0, inside_rest r.0 c cs r.1, r.2))
      (first_or_rest b a h.more inside);
  all = λ enough d inside. ⊎_elim
      (λ (is : c ≡ d). (
        a,
        inside_first a h.more,
        subst (λ (x : CellRow). IsHeardFrom cells x.cell x.epoch a) is
            (told a refl),
      ))
      (λ (rest : Contains cs d). let r = h.all (omega (arith, enough)) d rest in
      (r.0, inside_rest r.0 a h.more r.1, r.2))
      (first_or_rest d c cs inside);
}

none_heard : (cells : List CellRep) (xs : List Answer) → AreHeard cells [] xs xs
none_heard cells xs = record {
  more = [];
  is = sym (append-nil xs);
  few = omega arith;
  from = λ a inside. absurd (omega (arith, inside.1));
  all = λ enough c inside. absurd (omega (arith, inside.1));
}

pub are-heard : (cells : List CellRep) (cs : List CellRow) (s t : Asking) → Each (AsksOne cells) cs s t
    → AreHeard cells cs s.got t.got
are-heard cells [] s t f = subst (λ (x : Asking). AreHeard cells [] s.got x.got) (sym f) (none_heard cells s.got)
are-heard cells (c ∷ cs) s t f =
    heard_before cells c cs s.got f.0.got t.got f.1.answer
    (λ a e. heard_one f.1.asked.reached cells c.cell c.epoch a
    (subst (HearsIf f.1.asked.reached cells c.cell c.epoch) e f.1.asked.heard))
    f.1.got (are-heard cells cs f.0 t f.2)

-- what is heard of a cell has its name and epoch, and is the answer of a rep
pub heard_cell : (cells : List CellRep) (cell : List ℕ) (epoch : ℕ) (a : Answer) → IsHeardFrom cells cell epoch a
    → a.cell ≡ cell
heard_cell cells cell epoch a h = h.sound.cell ∙ h.stands.cell_is

pub heard_inside : (cells : List CellRep) (cell : List ℕ) (epoch : ℕ) (a : Answer) → IsHeardFrom cells cell epoch a
    → Contains (filter_map answer_of cells) a
heard_inside cells cell epoch a h =
    let here : Contains cells h.rep = (h.place, h.stands.within, sym h.stands.is) in
    kept_inside answer_of cells h.rep a here h.answers

cell_named : (rep : CellRep) (o : Option Joined) (x : Answer) → rep.joined ≡ o → answer_of rep ≡ Some x
    → x.cell ≡ rep.cell
cell_named rep None x is e = let bad : None ≡ Some x =
    sym (ap (λ (j : Option Joined). answer_of (record rep { joined = j })) is) ∙ e in absurd cc
cell_named rep (Some j) x is e =
    let same : Some (answer_in rep.cell j) ≡ Some x = sym
    (ap (λ (k : Option Joined). answer_of (record rep { joined = k })) is) ∙ e in
    sym (ap (λ (o : Option Answer). option_map_or (λ (y : Answer). y.cell) o rep.cell) same)

-- an answer has the name of its rep
pub answer_cell : (rep : CellRep) (x : Answer) → answer_of rep ≡ Some x → x.cell ≡ rep.cell
answer_cell rep x e = cell_named rep rep.joined x refl e

stands_itself : (cells : List CellRep) (r : CellRep) (h : Contains cells r) → StandsFor cells r.cell h.0 r
stands_itself cells r h = record { within = h.1; is = sym h.2; cell_is = refl }

-- of reps whose names differ no two answers have one name
pub answers_differ : (cells : List CellRep) → StandApart (names_of cells) → (x y : Answer)
    → Contains (filter_map answer_of cells) x → Contains (filter_map answer_of cells) y → x.cell ≡ y.cell → x ≡ y
answers_differ cells apart x y in_x in_y e =
    let p = from_kept answer_of cells x in_x in
    let q = from_kept answer_of cells y in_y in
    let names : p.0.cell ≡ q.0.cell = sym (answer_cell p.0 x p.2) ∙ e ∙ answer_cell q.0 y q.2 in
    let at : p.1.0 ≡ q.1.0 = apart p.1.0 q.1.0 q.0.cell
    (name_there cells q.0.cell p.1.0 p.0 (record { within = p.1.1; is = sym p.1.2; cell_is = names }))
    (name_there cells q.0.cell q.1.0 q.0 (stands_itself cells q.0 q.1)) in
    let reps : Some p.0 ≡ Some q.0 = sym (rep_there cells p.0.cell p.1.0 p.0 (stands_itself cells p.0 p.1)) ∙ ap
    (λ n. slice_get cells n) at ∙ rep_there cells q.0.cell q.1.0 q.0 (stands_itself cells q.0 q.1) in
    let answers : Some x ≡ Some y = sym p.2 ∙ ap (λ (o : Option CellRep). option_map_or (λ r. answer_of r) o None) reps
    ∙ q.2 in
    ap (λ (o : Option Answer). option_map_or (λ a. a) o x) answers

both : (a b : Bool) → (a && b) ≡ true → (a ≡ true) × (b ≡ true)
both true b e = (refl, e)
both false b e = absurd cc

looks_so : (cell : List ℕ) (epoch : ℕ) (a : Answer) → a.cell ≡ cell → a.epoch ≡ epoch → is_answer_of cell epoch a ≡ true
looks_so cell epoch a names epochs =
    ap (λ (n : List ℕ). pointwise nat_eq n cell && a.epoch == epoch) names ∙ ap (λ (b : Bool). b && a.epoch == epoch)
    (nat_list_eq_equiv.refl cell) ∙ eq-eqb a.epoch epoch epochs

present_there : (now : Moment) (epoch : ℕ) (o : Option CellRow)
    → option_map_or (λ (c : CellRow). c.epoch == epoch && is_present c now) o false ≡ true
    → (c : CellRow) × (o ≡ Some c) × (c.epoch ≡ epoch) × (is_present c now ≡ true)
present_there now epoch None e = absurd cc
present_there now epoch (Some c) e =
    let parts = both (c.epoch == epoch) (is_present c now) e in
    (c, refl, eqb-true c.epoch epoch parts.0, parts.1)

-- the row of a cell that is there
pub there_row : (rows : Rows) (now : Moment) (cell : List ℕ) (epoch : ℕ) → is_there rows now cell epoch ≡ true
    → (c : CellRow) × Contains (present rows now) c × (c.cell ≡ cell) × (c.epoch ≡ epoch)
there_row rows now cell epoch there =
    let p = present_there now epoch (find_cell rows cell) there in
    let inside : Contains rows.cells p.0 = Contains-find_row name_order cell_name_of cell p.0 rows.cells p.1 in
    let shown : present_at now p.0 ≡ Some p.0 = ap (λ (b : Bool). cond b (Some p.0) None) p.3 in (
      p.0,
      kept_inside (present_at now) rows.cells p.0 p.0 inside shown,
      key-find_row name_order cell_name_of IsKeyOrder-name_order cell p.0 rows.cells p.1,
      p.2,
    )

pub have-answered : (cells : List CellRep) (rows : Rows) (now : Moment) (s s' : WireAt) (got : List Answer)
    → Each (AsksOne cells) (present rows now) (questions s []) (questions s' got)
    → StandApart (names_of cells) → length (present rows now) ≤ length got
    → HaveAnswered rows got (filter_map answer_of cells) now
have-answered cells rows now s s' got is apart enough =
    let heard = are-heard cells (present rows now) (questions s []) (questions s' got) is in
    let same : got ≡ heard.more = heard.is in
    let all : length (present rows now) ≤ length heard.more = omega (arith, enough, ap length same) in
    record {
      inside = λ x inside. let f = heard.from x (subst (λ xs. Contains xs x) same inside) in
          heard_inside cells f.0.cell f.0.epoch x f.2;
      differ = answers_differ cells apart;
      there = λ cell epoch there.
          let c = there_row rows now cell epoch there in
          let a = heard.all all c.0 c.1 in
          let inside : Contains got a.0 = subst (λ xs. Contains xs a.0) (sym same) a.1 in
          let names : a.0.cell ≡ cell = heard_cell cells c.0.cell c.0.epoch a.0 a.2 ∙ c.2 in
          let epochs : a.0.epoch ≡ epoch = a.2.epoch_is ∙ c.3 in
          let found = find-some (is_answer_of cell epoch) got a.0 inside (looks_so cell epoch a.0 names epochs) in
          subst (λ o. IsSome o) (sym found.1) refl;
      rising = λ x inside. (heard.from x (subst (λ xs. Contains xs x) same inside)).2.sound.rising;
    }
