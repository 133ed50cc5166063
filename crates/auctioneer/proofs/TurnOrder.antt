-- The order of turns, and that unlike jobs have unlike turns.
use Rattle.std.proofs.Common.{◌≡◌, ◌≢◌, ℕ, ◌<◌, cond, eqb, List, [], ◌∷◌, length, map, get_or, refl, sym, ap, ◌∙◌, arith, true, false}
use Rattle.std.specs.Cmp.{nat_cmp_total, on_total, then_total, back_total}
use Rattle.std.specs.FinMap.{nat_cmp-IsAntisymmetric}
use Rattle.std.specs.List.{AllPairs}
use Rattle.std.specs.Ordering.{nat_cmp, ordering_then}
use Rattle.std.specs.declared.cmp.Ordering.{Ordering}
use Rattle.std.specs.declared.cmp.Ordering.TheVariants.{Less, Equal, Greater}
use Rattle.std.proofs.lemmas.List.{length-map, get_or-map}
use Rattle.row_tables.specs.Table.{IsKeyOrder}
use Rattle.diego_names.specs.Order.{name_order}
use Rattle.diego_names.proofs.Public.{IsKeyOrder-name_order}
use Rattle.cell_records.specs.declared.job.Job.{Job}
use Rattle.cell_records.specs.declared.job_name.JobName.{JobName}
use Rattle.cell_records.specs.declared.job_name.JobName.TheVariants.{Lrp, Task}
use Rattle.auctioneer.specs.Order.{class_of, job_name, index_of, turn_of, turn_order}

-- where one order and then another tie, both do
pub both_tie : (a b : Ordering) → ordering_then a b ≡ Equal → (a ≡ Equal) × (b ≡ Equal)
both_tie Less b e = absurd cc
both_tie Equal b e = (refl, e)
both_tie Greater b e = absurd cc

pub IsKeyOrder-turn_order : IsKeyOrder turn_order
IsKeyOrder-turn_order = record {
  total =
      then_total (on_total (λ t. t.class) nat_cmp_total)
      (then_total (on_total (λ t. t.memory.0) (back_total nat_cmp_total))
      (then_total (on_total (λ t. t.name) IsKeyOrder-name_order.total) (on_total (λ t. t.index) nat_cmp_total)));
  exact = λ x y e i.
      let class = both_tie (nat_cmp x.class y.class) _ e in
      let memory = both_tie (nat_cmp y.memory.0 x.memory.0) _ class.1 in
      let name = both_tie (name_order x.name y.name) (nat_cmp x.index y.index) memory.1 in
      record {
        class = nat_cmp-IsAntisymmetric x.class y.class class.0 i;
        memory = record { 0 = sym (nat_cmp-IsAntisymmetric y.memory.0 x.memory.0 memory.0) i };
        name = IsKeyOrder-name_order.exact x.name y.name name.0 i;
        index = nat_cmp-IsAntisymmetric x.index y.index name.1 i;
      };
}

-- no instance has the class of tasks
not_of_tasks : (n : ℕ) → ◌≡◌ {A = ℕ} (cond (eqb n 0) 0 2) 1 → ⊥
not_of_tasks n =
    elim (eqb n 0) as (λ b. ◌≡◌ {A = ℕ} (cond b 0 2) 1 → ⊥)
    [ true ↦ λ e. absurd (omega arith) | false ↦ λ e. absurd (omega arith) ]

same_job : (a b : JobName) → class_of a ≡ class_of b → job_name a ≡ job_name b → index_of a ≡ index_of b → a ≡ b
same_job (Lrp a) (Lrp b) c n i = λ k. Lrp (record { process = n k; index = i k })
same_job (Lrp a) (Task b) c n i = absurd (not_of_tasks a.index c)
same_job (Task a) (Lrp b) c n i = absurd (not_of_tasks b.index (sym c))
same_job (Task a) (Task b) c n i = ap Task n

-- jobs of one turn have one name
pub same_turn : (a b : Job) → turn_of a ≡ turn_of b → a.job ≡ b.job
same_turn a b e = same_job a.job b.job (ap (λ t. t.class) e) (ap (λ t. t.name) e) (ap (λ t. t.index) e)

-- what tells elements apart by one thing tells them apart by another that shows it
pub unlike_by : {X A B : Type 0} (f : X → A) (g : X → B) → ((x y : X) → g x ≡ g y → f x ≡ f y) → (xs : List X)
    → AllPairs (λ a b. a ≢ b) (map f xs) → AllPairs (λ a b. a ≢ b) (map g xs)
unlike_by f g shows [] h i j d lt below e = absurd (omega arith)
unlike_by f g shows (x ∷ xs) h i j d lt below e =
    let here : j < length (x ∷ xs) = simp length-map at below in
    let there : j < length (map f (x ∷ xs)) = simp length-map here in
    let same : g (get_or (x ∷ xs) i x) ≡ g (get_or (x ∷ xs) j x) =
    sym (get_or-map g (x ∷ xs) i x d (omega arith)) ∙ e ∙ get_or-map g (x ∷ xs) j x d here in
    h i j (f x) lt there
    (get_or-map f (x ∷ xs) i x (f x) (omega arith) ∙ shows (get_or (x ∷ xs) i x) (get_or (x ∷ xs) j x) same ∙ sym
    (get_or-map f (x ∷ xs) j x (f x) here))

pub turns_differ : (jobs : List Job) → AllPairs (λ a b. a ≢ b) (map (λ j. j.job) jobs)
    → AllPairs (λ a b. a ≢ b) (map turn_of jobs)
turns_differ jobs h =
    unlike_by (λ j. j.job) turn_of same_turn jobs h
