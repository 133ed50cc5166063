-- An index of answers with one answer more.
use Rattle.std.proofs.Common.{◌≡◌, ℕ, ◌+◌, ◌<◌, Bool, true, false, ◌&&◌, cond, Option, List, [], ◌∷◌, ◌++◌, length, take, get_or, Some, None, is_some, nat_eq, find, MatchOption, refl, sym, ap, subst, ◌∙◌, arith}
use Rattle.std.proofs.Math.Seq.{take-length}
use Rattle.std.proofs.lemmas.Bool.{eqb-true}
use Rattle.std.proofs.lemmas.List.{get_or_default}
use Rattle.std.proofs.lemmas.List.Folds.{find-append}
use Rattle.std.specs.Cmp.Lexicographic.{pointwise, same_text}
use Rattle.std.specs.HashMap.{HashMap, get}
use Rattle.std.specs.Option.{option_map, option_or}
use Rattle.std.specs.Ordering.{nat_cmp}
use Rattle.cell_records.specs.declared.answer.Answer.{Answer}
use Rattle.container_store.specs.Store.{number_of}
use Rattle.row_tables.specs.Table.{IsRising}
use Rattle.cell_records.specs.declared.job_name.JobName.{JobName}
use Rattle.convergence.specs.Containers.{Site, is_answer_of, answer_from, container_in}
use Rattle.convergence.specs.Plans.{told_of}
use Rattle.convergence.specs.Index.{is_same_cell, IsIndexed, IsIndexOf}
use Rattle.convergence.specs.declared.telling.Heard.{Heard}
use Rattle.convergence.proofs.Lists.{one_more}

both_of : (a b : Bool) → (a && b) ≡ true → (a ≡ true) × (b ≡ true)
both_of true b e = (refl, e)
both_of false b e = absurd cc

-- an answer of a cell and epoch has that name and epoch
pub same_cell : (x : Answer) (cell : List ℕ × ℕ) → is_answer_of cell.0 cell.1 x ≡ true → (x.cell, x.epoch) ≡ cell
same_cell x cell e =
    let parts = both_of (pointwise nat_eq x.cell cell.0) (nat_eq x.epoch cell.1) e in
    let one : x.cell ≡ cell.0 = same_text x.cell cell.0 (sym parts.0) in
    let two : x.epoch ≡ cell.1 = eqb-true x.epoch cell.1 parts.1 in
    λ i. (one i, two i)

module _ (answers : List Answer) (at : ℕ) (x : Answer) (lt : at < length answers) (is_x : x ≡ get_or answers at x) where
  -- what is found with one answer more
  found_more : (cell : List ℕ × ℕ) → answer_from (take (at + 1) answers) cell.0 cell.1
      ≡ option_or (answer_from (take at answers) cell.0 cell.1) (cond (is_answer_of cell.0 cell.1 x) (Some x) None)
  found_more cell =
      ap (find (is_answer_of cell.0 cell.1)) (one_more answers at x lt is_x)
      ∙ find-append (is_answer_of cell.0 cell.1) (take at answers) (x ∷ [])

  still_heard : (cell : List ℕ × ℕ) (h : Heard) → IsIndexed answers at cell h → IsIndexed answers (at + 1) cell h
  still_heard cell h heard = record {
    within = heard.within;
    found = λ d. found_more cell ∙ ap (λ (o : Option Answer).
        option_or o (cond (is_answer_of cell.0 cell.1 x) (Some x) None)) (heard.found d);
    in_order = heard.in_order;
  }

  not_found : (cell : List ℕ × ℕ) → answer_from (take at answers) cell.0 cell.1 ≡ None
      → is_answer_of cell.0 cell.1 x ≡ false → answer_from (take (at + 1) answers) cell.0 cell.1 ≡ None
  not_found cell none other =
      found_more cell ∙ ap (λ (o : Option Answer). option_or o (cond (is_answer_of cell.0 cell.1 x) (Some x) None)) none
      ∙ ap (λ (b : Bool). option_or None (cond b (Some x) None)) other

  now_found : (cell : List ℕ × ℕ) → answer_from (take at answers) cell.0 cell.1 ≡ None
      → is_answer_of cell.0 cell.1 x ≡ true → answer_from (take (at + 1) answers) cell.0 cell.1 ≡ Some x
  now_found cell none one =
      found_more cell ∙ ap (λ (o : Option Answer). option_or o (cond (is_answer_of cell.0 cell.1 x) (Some x) None)) none
      ∙ ap (λ (b : Bool). option_or None (cond b (Some x) None)) one

  module _ {S : Type 0} (index : HashMap (List ℕ × ℕ) Heard S) (old : IsIndexOf answers at index) where
    abbrev LeadsMore : List ℕ × ℕ → Option Heard → Type 0
    LeadsMore cell o = MatchOption o (answer_from (take (at + 1) answers) cell.0 cell.1 ≡ None)
        (IsIndexed answers (at + 1) cell)

    -- a cell that leads as it did, and that is not the one of the answer
    leads_on : (cell : List ℕ × ℕ) → is_answer_of cell.0 cell.1 x ≡ false → LeadsMore cell (get is_same_cell index cell)
    leads_on cell other =
        elim (get is_same_cell index cell) as (λ (o : Option Heard).
        MatchOption o (answer_from (take at answers) cell.0 cell.1 ≡ None) (IsIndexed answers at cell)
        → LeadsMore cell o) [
          | None ↦ λ none. not_found cell none other
          | (Some h) ↦ λ heard. still_heard cell h heard
        ] (old.leads cell)

    -- one that leads to an answer already
    leads_still : (cell : List ℕ × ℕ) (h : Heard) → get is_same_cell index cell ≡ Some h
        → LeadsMore cell (get is_same_cell index cell)
    leads_still cell h is =
        subst (LeadsMore cell) (sym is)
        (still_heard cell h (subst (λ (o : Option Heard). MatchOption o
        (answer_from (take at answers) cell.0 cell.1 ≡ None) (IsIndexed answers at cell)) is (old.leads cell)))

    -- an answer of a cell and epoch that stand there already changes nothing
    pub index_kept : (h : Heard) → get is_same_cell index (x.cell, x.epoch) ≡ Some h → IsIndexOf answers (at + 1) index
    index_kept h is = record {
      leads = λ cell.
          elim (is_answer_of cell.0 cell.1 x) as (λ b. is_answer_of cell.0 cell.1 x ≡ b
          → LeadsMore cell (get is_same_cell index cell)) [
            | true ↦ λ e. leads_still cell h (ap (get is_same_cell index) (sym (same_cell x cell e)) ∙ is)
            | false ↦ λ e. leads_on cell e
          ] refl;
    }

    at_place : (h : Heard) → h.at ≡ at → (d : Answer) → x ≡ get_or answers h.at d
    at_place h place d = is_x ∙ get_or_default answers at x d lt ∙ ap (λ (n : ℕ). get_or answers n d) (sym place)

    -- another one is noted
    pub index_more : (h : Heard) (new : HashMap (List ℕ × ℕ) Heard S) → get is_same_cell index (x.cell, x.epoch) ≡ None
        → ((cell : List ℕ × ℕ) → get is_same_cell new cell ≡ cond (is_same_cell (x.cell, x.epoch) cell) (Some h)
        (get is_same_cell index cell))
        → h.at ≡ at → (h.in_order ≡ true → IsRising nat_cmp number_of x.containers) → IsIndexOf answers (at + 1) new
    index_more h new absent puts place order = record {
      leads = λ cell.
          elim (is_answer_of cell.0 cell.1 x) as (λ b. is_answer_of cell.0 cell.1 x ≡ b
          → LeadsMore cell (get is_same_cell new cell)) [
            | true ↦ λ e.
                let here : get is_same_cell new cell ≡ Some h =
                puts cell ∙ ap (λ (b : Bool). cond b (Some h) (get is_same_cell index cell)) e in
                let none : get is_same_cell index cell ≡ None =
                ap (get is_same_cell index) (sym (same_cell x cell e)) ∙ absent in
                let before : answer_from (take at answers) cell.0 cell.1 ≡ None =
                subst (λ (o : Option Heard). MatchOption o (answer_from (take at answers) cell.0 cell.1 ≡ None)
                (IsIndexed answers at cell)) none (old.leads cell) in
                subst (LeadsMore cell) (sym here) (record {
                  within = subst (λ (n : ℕ). n < length answers) (sym place) lt;
                  found = λ d. now_found cell before e ∙ ap Some (at_place h place d);
                  in_order = λ noted d. subst (λ (y : Answer). IsRising nat_cmp number_of y.containers)
                      (at_place h place d) (order noted);
                })
            | false ↦ λ e. subst (LeadsMore cell) (sym (puts cell ∙ ap
                (λ (b : Bool). cond b (Some h) (get is_same_cell index cell)) e)) (leads_on cell e)
          ] refl;
    }

there_is : {X : Type 0} (o : Option X) → is_some o ≡ true → (x : X) × (o ≡ Some x)
there_is None e = absurd cc
there_is (Some x) e = (x, refl)

there_is_none : {X : Type 0} (o : Option X) → is_some o ≡ false → o ≡ None
there_is_none None e = refl
there_is_none (Some x) e = absurd cc

module _ {S : Type 0} (answers : List Answer) (at : ℕ) (x : Answer) (lt : at < length answers)
    (is_x : x ≡ get_or answers at x)
    (index : HashMap (List ℕ × ℕ) Heard S) (old : IsIndexOf answers at index) where
  pub index_unless_new : is_some (get is_same_cell index (x.cell, x.epoch)) ≡ true → IsIndexOf answers (at + 1) index
  index_unless_new known =
      let h = there_is (get is_same_cell index (x.cell, x.epoch)) known in
      index_kept answers at x lt is_x index old h.0 h.1

  pub index_if_new : is_some (get is_same_cell index (x.cell, x.epoch)) ≡ false
      → (in_order : Bool) (new : HashMap (List ℕ × ℕ) Heard S)
      → ((cell : List ℕ × ℕ) → get is_same_cell new cell ≡ cond (is_same_cell (x.cell, x.epoch) cell)
      (Some (record { at = at; in_order = in_order })) (get is_same_cell index cell))
      → (in_order ≡ true → IsRising nat_cmp number_of x.containers) → IsIndexOf answers (at + 1) new
  index_if_new unknown in_order new puts order =
      index_more answers at x lt is_x index old (record { at = at; in_order = in_order }) new
      (there_is_none (get is_same_cell index (x.cell, x.epoch)) unknown) puts refl order

module _ {S : Type 0} (answers : List Answer) (index : HashMap (List ℕ × ℕ) Heard S)
    (of : IsIndexOf answers (length answers) index) where
  -- what a whole index leads to
  pub heard_is : (cell : List ℕ × ℕ) (h : Heard) → Some h ≡ get is_same_cell index cell
      → IsIndexed answers (length answers) cell h
  heard_is cell h is =
      subst (λ (o : Option Heard). MatchOption o (answer_from (take (length answers) answers) cell.0 cell.1 ≡ None)
      (IsIndexed answers (length answers) cell)) (sym is) (of.leads cell)

  pub told_none : (job : JobName) (site : Site) → None ≡ get is_same_cell index (site.1, site.0.epoch)
      → None ≡ told_of answers job site
  told_none job site is =
      let none : answer_from (take (length answers) answers) site.1 site.0.epoch ≡ None =
      subst (λ (o : Option Heard). MatchOption o (answer_from (take (length answers) answers) site.1 site.0.epoch
      ≡ None) (IsIndexed answers (length answers) (site.1, site.0.epoch))) (sym is)
      (of.leads (site.1, site.0.epoch)) in
      sym (ap (option_map (container_in job site.0)) (ap (λ (xs : List Answer). answer_from xs site.1 site.0.epoch)
      (sym (take-length answers)) ∙ none))

  pub told_some : (job : JobName) (site : Site) (h : Heard) → Some h ≡ get is_same_cell index (site.1, site.0.epoch)
      → (x : Answer) → x ≡ get_or answers h.at x → Some (container_in job site.0 x) ≡ told_of answers job site
  told_some job site h is x at =
      let found : answer_from (take (length answers) answers) site.1 site.0.epoch ≡ Some (get_or answers h.at x) =
      (heard_is (site.1, site.0.epoch) h is).found x in
      sym (ap (option_map (container_in job site.0))
      (ap (λ (xs : List Answer). answer_from xs site.1 site.0.epoch) (sym (take-length answers)) ∙ found ∙ ap
      (λ (y : Answer). Some y) (sym at)))
