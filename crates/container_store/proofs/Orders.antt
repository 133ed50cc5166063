-- The order of the containers of all jobs, and that it keeps those of one job together.
use Rattle.std.proofs.Common.{◌≡◌, ℕ, Bool, true, false, ◌&&◌, List, Option, Some, None, nat_eq, refl, sym, ap, subst, ◌∙◌, arith}
use Rattle.std.specs.BTreeMap.{is_at}
use Rattle.std.specs.Cmp.{nat_cmp_total, on_total, then_total, tied_itself}
use Rattle.std.specs.Cmp.Lexicographic.{options_total, pointwise, same_text}
use Rattle.std.specs.FinMap.{nat_cmp-IsAntisymmetric}
use Rattle.std.specs.Option.{option_cmp}
use Rattle.std.specs.Ordering.{nat_cmp, is_eq, is_gt, ordering_then, ordering_reverse}
use Rattle.std.specs.declared.cmp.Ordering.{Ordering}
use Rattle.std.specs.declared.cmp.Ordering.TheVariants.{Less, Equal, Greater}
use Rattle.std.proofs.lemmas.Bool.{eqb-true, and_parts}
use Rattle.std.proofs.lemmas.Cmp.{nat_list_eq_equiv}
use Rattle.cell_records.specs.declared.job_name.JobName.{JobName}
use Rattle.cell_records.specs.declared.job_name.JobName.TheVariants.{Lrp, Task}
use Rattle.diego_names.proofs.Public.{IsKeyOrder-name_order}
use Rattle.row_tables.specs.Table.{IsKeyOrder}
use Rattle.container_store.specs.Entries.{job_order, entry_order, job_key}
use Rattle.container_store.specs.Jobs.{is_same_job}
use Rattle.container_store.specs.declared.entries.JobEntry.{JobEntry}
use Rattle.container_store.specs.declared.entries.JobKey.{JobKey}

-- where one order and then another tie, both do
both_tie : (a b : Ordering) → ordering_then a b ≡ Equal → (a ≡ Equal) × (b ≡ Equal)
both_tie Less b e = absurd cc
both_tie Equal b e = (refl, e)
both_tie Greater b e = absurd cc

option_exact : (p q : Option ℕ) → option_cmp nat_cmp p q ≡ Equal → p ≡ q
option_exact None None e = refl
option_exact None (Some y) e = absurd cc
option_exact (Some x) None e = absurd cc
option_exact (Some x) (Some y) e = ap (λ (n : ℕ). Some n) (nat_cmp-IsAntisymmetric x y e)

pub IsKeyOrder-job_order : IsKeyOrder job_order
IsKeyOrder-job_order = record {
  total = then_total (on_total (λ k. k.index) (options_total nat_cmp_total))
      (on_total (λ k. k.name) IsKeyOrder-name_order.total);
  exact = λ x y e i.
      let ties = both_tie (option_cmp nat_cmp x.index y.index) _ e in
      record {
        index = option_exact x.index y.index ties.0 i;
        name = IsKeyOrder-name_order.exact x.name y.name ties.1 i;
      };
}

pub IsKeyOrder-entry_order : IsKeyOrder entry_order
IsKeyOrder-entry_order = record {
  total = then_total (on_total (λ e. e.job) IsKeyOrder-job_order.total) (on_total (λ e. e.number) nat_cmp_total);
  exact = λ x y e i.
      let ties = both_tie (job_order x.job y.job) (nat_cmp x.number y.number) e in
      record {
        job = IsKeyOrder-job_order.exact x.job y.job ties.0 i;
        number = nat_cmp-IsAntisymmetric x.number y.number ties.1 i;
      };
}

tied : (o : Ordering) → is_eq o ≡ true → o ≡ Equal
tied Less e = cc
tied Equal e = refl
tied Greater e = cc

-- the test of entries says whether they are one
pub entry_from_test : (a b : JobEntry) → is_at (entry_order a) b ≡ true → a ≡ b
entry_from_test a b e = IsKeyOrder-entry_order.exact a b (tied (entry_order a b) e)

pub test_from_entry : (a b : JobEntry) → a ≡ b → is_at (entry_order a) b ≡ true
test_from_entry a b e =
    ap is_eq (subst (λ (x : JobEntry). entry_order a x ≡ Equal) e (tied_itself IsKeyOrder-entry_order.total a))

-- what stands between two containers of a job is of that job
pub between : (x y z : JobEntry) → entry_order x y ≡ Less → is_gt (entry_order y z) ≡ false → x.job ≡ z.job
    → y.job ≡ x.job
between x y z less below same =
    elim (job_order x.job y.job) as (λ o. job_order x.job y.job ≡ o → ordering_then o (nat_cmp x.number y.number) ≡ Less
    → y.job ≡ x.job) [
      | Less ↦ λ is h.
          let back : job_order y.job z.job ≡ Greater =
          ap (job_order y.job) (sym same) ∙ IsKeyOrder-job_order.total.antisymm y.job x.job ∙ ap ordering_reverse is in
          let above : is_gt (entry_order y z) ≡ true = ap (λ o. is_gt (ordering_then o (nat_cmp y.number z.number)))
          back in
          absurd (cc)
      | Equal ↦ λ is h. sym (IsKeyOrder-job_order.exact x.job y.job is)
      | Greater ↦ λ is h. absurd (cc)
    ] refl less

-- the containers of one job stand by number
pub by_number : (x y : JobEntry) → x.job ≡ y.job → entry_order x y ≡ nat_cmp x.number y.number
by_number x y same =
    ap (λ o. ordering_then o (nat_cmp x.number y.number))
    (subst (λ (j : JobKey). job_order x.job j ≡ Equal) same (tied_itself IsKeyOrder-job_order.total x.job))

-- jobs that test alike are one
pub same_job : (a b : JobName) → is_same_job a b ≡ true → a ≡ b
same_job (Lrp a) (Lrp b) e =
    let parts = and_parts (pointwise nat_eq a.process b.process) (nat_eq a.index b.index) e in
    let one : a.process ≡ b.process = same_text a.process b.process (sym parts.0) in
    let two : a.index ≡ b.index = eqb-true a.index b.index parts.1 in
    λ i. Lrp (record { process = one i; index = two i })
same_job (Lrp a) (Task b) e = absurd cc
same_job (Task a) (Lrp b) e = absurd cc
same_job (Task a) (Task b) e = ap (λ (n : List ℕ). Task n) (same_text a b (sym e))

job_itself : (a : JobName) → is_same_job a a ≡ true
job_itself (Lrp a) =
    let index : nat_eq a.index a.index ≡ true = grind arith in
    ap (λ (b : Bool). b && nat_eq a.index a.index) (nat_list_eq_equiv.refl a.process) ∙ index
job_itself (Task a) = nat_list_eq_equiv.refl a

abbrev some_or : ℕ → Option ℕ → ℕ
some_or d None = d
some_or d (Some n) = n

job_from_key : (a b : JobName) → job_key a ≡ job_key b → a ≡ b
job_from_key (Lrp a) (Lrp b) e =
    let process : a.process ≡ b.process = ap (λ (k : JobKey). k.name) e in
    let index : a.index ≡ b.index = ap (λ (k : JobKey). some_or 0 k.index) e in
    λ i. Lrp (record { process = process i; index = index i })
job_from_key (Lrp a) (Task b) e = let index = ap (λ (k : JobKey). k.index) e in absurd (cc)
job_from_key (Task a) (Lrp b) e = let index = ap (λ (k : JobKey). k.index) e in absurd (cc)
job_from_key (Task a) (Task b) e = ap (λ (k : JobKey). Task k.name) e

-- jobs of one key test alike
pub same_from_key : (a b : JobName) → job_key a ≡ job_key b → is_same_job a b ≡ true
same_from_key a b e = subst (λ (j : JobName). is_same_job a j ≡ true) (job_from_key a b e) (job_itself a)
