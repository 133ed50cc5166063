-- What holding a container comes to.
use Rattle.std.proofs.Common.{◌≡◌, ℕ, Bool, true, false, ◌&&◌, List, [], ◌∷◌, Option, Some, None, IsSome, cond, refl, ap, sym, subst, ◌∙◌}
use Rattle.std.specs.List.{AllByRecursion, Contains}
use Rattle.std.specs.Option.{option_map_or, unwrap_or}
use Rattle.std.specs.Ordering.{eq_by_cmp}
use Rattle.std.specs.declared.cmp.Ordering.{Ordering}
use Rattle.cell_records.specs.declared.answer.Answer.{Answer}
use Rattle.cell_records.specs.declared.container.Container.{Container}
use Rattle.cell_records.specs.declared.job_name.JobName.{JobName}
use Rattle.container_store.specs.Changes.{is_uncompleted}
use Rattle.crash_backoff.specs.declared.moment.Moment.{Moment}
use Rattle.diego_names.specs.declared.instance.Instance.{Instance}
use Rattle.diego_names.specs.declared.key.Key.{Key}
use Rattle.lrp_records.proofs.Public.{IsKeyOrder-place_order}
use Rattle.lrp_records.specs.Place.{place_of, place_order}
use Rattle.lrp_records.specs.declared.actual.Actual.{Actual}
use Rattle.lrp_records.specs.declared.presence.Presence.{Presence}
use Rattle.row_tables.specs.Table.{find_row}
use Rattle.row_tables.proofs.Public.{key-find_row}
use Rattle.bbs_model.specs.Tables.{find_actual}
use Rattle.bbs_model.specs.Work.{is_there}
use Rattle.bbs_model.specs.declared.rows.Rows.{Rows}
use Rattle.convergence.specs.Containers.{is_answer_of, answer_from, container_in}
use Rattle.convergence.proofs.Public.{find-passes, find-some, same_cell}
use Rattle.converge_laws.specs.Converged.{keeps_running, has_container, is_held}
use Rattle.converge_laws.specs.Stages.{HaveAnswered}

pub it_is : {X : Type 0} (o : Option X) → IsSome o → (x : X) × (o ≡ Some x)
it_is None h = absurd cc
it_is (Some x) h = (x, refl)

-- what holds of each row holds of the one that is found
pub find_row-each : {K X : Type 0} (R : K → K → Ordering) (key : X → K) (P : X → Type 0) (q : K) (x : X) (xs : List X)
    → AllByRecursion P xs → find_row R key q xs ≡ Some x → P x
find_row-each R key P q x [] h e = absurd cc
find_row-each R key P q x (y ∷ ys) h e =
    elim (eq_by_cmp R q (key y)) as (λ (b : Bool). cond b (Some y) (find_row R key q ys) ≡ Some x → P x) [
      | true ↦ λ is. let one : y ≡ x = ap (λ s. unwrap_or s x) is in subst P one h.0
      | false ↦ λ is. find_row-each R key P q x ys h.1 is
    ] e

-- the answer of a cell that is there
pub record IsFoundThere (got stores : List Answer) (cell : List ℕ) (epoch : ℕ) : Type 0 where
  pub answer : Answer
  pub in_got : answer_from got cell epoch ≡ Some answer
  pub in_stores : answer_from stores cell epoch ≡ Some answer

pub found-there : (rows : Rows) (got stores : List Answer) (now : Moment) → HaveAnswered rows got stores now
    → (cell : List ℕ) (epoch : ℕ) → is_there rows now cell epoch ≡ true → IsFoundThere got stores cell epoch
found-there rows got stores now heard cell epoch there =
    let x = it_is (answer_from got cell epoch) (heard.there cell epoch there) in
    let a = find-passes (is_answer_of cell epoch) got x.0 x.1 in
    let inside : Contains stores x.0 = heard.inside x.0 a.0 in
    let y = find-some (is_answer_of cell epoch) stores x.0 inside a.1 in
    let b = find-passes (is_answer_of cell epoch) stores y.0 y.1 in
    let cells : y.0.cell ≡ x.0.cell = ap (λ (p : List ℕ × ℕ). p.0)
    (same_cell y.0 (cell, epoch) b.1 ∙ sym (same_cell x.0 (cell, epoch) a.1)) in
    let one : y.0 ≡ x.0 = heard.differ y.0 x.0 b.0 inside cells in
    record { answer = x.0; in_got = x.1; in_stores = y.1 ∙ ap (λ (z : Answer). Some z) one }

module _ (rows : Rows) (stores : List Answer) (now : Moment) (job : JobName) (instance : Instance) (cell : List ℕ) where
  -- a container of a cell that is there and that has not ended is held
  pub held-from : (x : Answer) (c : Container) → is_there rows now cell instance.epoch ≡ true
      → answer_from stores cell instance.epoch ≡ Some x
      → container_in job instance x ≡ Some c → is_uncompleted c.state ≡ true
      → is_held rows stores now job instance cell ≡ true
  held-from x c there from inside runs =
      ap (λ (b : Bool). b && has_container stores job instance cell) there
      ∙ ap (λ (o : Option Answer). option_map_or (keeps_running job instance) o false) from
      ∙ ap (λ (o : Option Container). option_map_or (λ (k : Container). is_uncompleted k.state) o false) inside ∙ runs

  -- what it is that is held
  pub record IsHeldIn : Type 0 where
    pub there : is_there rows now cell instance.epoch ≡ true
    pub answer : Answer
    pub from : answer_from stores cell instance.epoch ≡ Some answer
    pub container : Container
    pub inside : container_in job instance answer ≡ Some container
    pub runs : is_uncompleted container.state ≡ true

  both_true : (a b : Bool) → (a && b) ≡ true → (a ≡ true) × (b ≡ true)
  both_true true b e = (refl, e)
  both_true false b e = absurd cc

  kept-in : (x : Answer) → keeps_running job instance x ≡ true
      → (c : Container) × (container_in job instance x ≡ Some c) × (is_uncompleted c.state ≡ true)
  kept-in x e =
      elim (container_in job instance x) as (λ (o : Option Container). container_in job instance x ≡ o
      → option_map_or (λ (k : Container). is_uncompleted k.state) o false ≡ true
      → (c : Container) × (container_in job instance x ≡ Some c) × (is_uncompleted c.state ≡ true)) [
        | None ↦ λ is f. absurd cc
        | (Some c) ↦ λ is f. (c, is, f)
      ] refl e

  pub held-in : is_held rows stores now job instance cell ≡ true → IsHeldIn
  held-in e =
      let parts = both_true (is_there rows now cell instance.epoch) (has_container stores job instance cell) e in
      elim (answer_from stores cell instance.epoch) as (λ (o : Option Answer). answer_from stores cell instance.epoch
      ≡ o → option_map_or (keeps_running job instance) o false ≡ true → IsHeldIn) [
        | None ↦ λ is f. absurd cc
        | (Some x) ↦ λ is f.
            let k = kept-in x f in
            record { there = parts.0; answer = x; from = is; container = k.0; inside = k.1; runs = k.2 }
      ] refl parts.1

-- which cells are there decides whether a container is held, and the answers
pub held-ground : (old new : Rows) (stores : List Answer) (now : Moment) (job : JobName) (instance : Instance)
    (cell : List ℕ)
    → is_there new now cell instance.epoch ≡ is_there old now cell instance.epoch
    → is_held new stores now job instance cell ≡ is_held old stores now job instance cell
held-ground old new stores now job instance cell same =
    ap (λ (b : Bool). b && has_container stores job instance cell) same

-- a row that is found is that of the instance
pub row-key : (rows : Rows) (key : Key) (presence : Presence) (a : Actual) → find_actual rows key presence ≡ Some a
    → a.key ≡ key
row-key rows key presence a is = ap (λ (p : Key × Presence). p.0)
    (key-find_row place_order place_of IsKeyOrder-place_order (key, presence) a rows.actual is)
