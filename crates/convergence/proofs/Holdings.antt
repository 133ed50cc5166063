-- A job's container among containers in order of number.
use Rattle.std.proofs.Common.{◌≡◌, ℕ, zero, suc, ◌+◌, ◌-◌, ◌<◌, Bool, true, false, cond, eqb, ltb, ◌&&◌, Option, List, [], ◌∷◌, length, get_or, nat_lt, Some, None, find, refl, sym, ap, subst, ◌∙◌, arith}
use Rattle.std.proofs.lemmas.Bool.{ltb-true}
use Rattle.std.proofs.lemmas.Bool.Decides.{nat_tests}
use Rattle.std.proofs.lemmas.Cmp.{nat_cmp_total}
use Rattle.std.proofs.lemmas.List.Elements.{All-head}
use Rattle.std.specs.Cmp.{nat_cmp_is}
use Rattle.std.specs.FinMap.{nat_cmp-IsAntisymmetric}
use Rattle.std.specs.List.{AllAdjacentBelow, IsAllAdjacentAnswer, Contains}
use Rattle.std.specs.Prelude.{MatchBool}
use Rattle.std.specs.Ordering.{nat_cmp}
use Rattle.std.specs.declared.cmp.Ordering.TheVariants.{Less, Equal, Greater}
use Rattle.cell_records.specs.declared.container.Container.{Container}
use Rattle.cell_records.specs.declared.job_name.JobName.{JobName}
use Rattle.container_store.specs.Jobs.{is_same_job}
use Rattle.container_store.specs.Store.{number_of}
use Rattle.diego_names.specs.declared.instance.Instance.{Instance}
use Rattle.lrp_records.specs.States.{is_same_instance}
use Rattle.row_tables.specs.Table.{IsKeyOrder, find_row, IsRising}
use Rattle.row_tables.proofs.Public.{Contains-find_row, find_row-Contains, IsRising-from_pairs, IsRising-tail, All-above, below_rest}
use Rattle.convergence.specs.Containers.{is_container_of}
use Rattle.convergence.proofs.Finds.{find-passes, find-fails}

pub IsKeyOrder-nat_cmp : IsKeyOrder nat_cmp
IsKeyOrder-nat_cmp = record { total = nat_cmp_total; exact = nat_cmp-IsAntisymmetric }

-- each number is below the next
abbrev pub StepUp : List Container → Type 0
StepUp cs = (k : ℕ) (d : Container) → k + 1 < length cs → number_of (get_or cs k d) < number_of (get_or cs (k + 1) d)

above_first : (cs : List Container) → StepUp cs → (n i : ℕ) (d : Container) → i + n + 1 < length cs
    → number_of (get_or cs i d) < number_of (get_or cs (i + n + 1) d)
above_first cs up zero i d lt = subst (λ (j : ℕ). number_of (get_or cs i d) < number_of (get_or cs (j + 1) d))
    (omega arith) (up i d (omega arith))
above_first cs up (suc n) i d lt =
    let before : number_of (get_or cs i d) < number_of (get_or cs (i + n + 1) d) =
    above_first cs up n i d (omega arith) in
    let same : i + suc n + 1 ≡ (i + n + 1) + 1 = omega arith in
    let next : number_of (get_or cs (i + n + 1) d) < number_of (get_or cs ((i + n + 1) + 1) d) =
    up (i + n + 1) d (omega arith) in
    let last : number_of (get_or cs (i + suc n + 1) d) ≡ number_of (get_or cs ((i + n + 1) + 1) d) =
    ap (λ (j : ℕ). number_of (get_or cs j d)) same in
    omega arith

-- containers of which each has a lower number than the next are in order
pub IsRising-from_steps : (cs : List Container) → StepUp cs → IsRising nat_cmp number_of cs
IsRising-from_steps cs up =
    IsRising-from_pairs nat_cmp number_of cs (λ i j d lt below.
    let same : i + (j - suc i) + 1 ≡ j = omega arith in
    let far : number_of (get_or cs i d) < number_of (get_or cs (i + (j - suc i) + 1) d) =
    above_first cs up (j - suc i) i d (omega arith) in
    sym (nat_cmp_is (number_of (get_or cs i d)) (number_of (get_or cs j d)) Less
    (subst (λ (k : ℕ). number_of (get_or cs i d) < number_of (get_or cs k d)) same far)))

-- what a test of neighbours says
pub IsRising-from_adjacent : (cs : List Container) (answer : Bool) → answer ≡ true
    → IsAllAdjacentAnswer (λ (a b : Container) (t : Bool). t ≡ nat_lt a.instance.number b.instance.number) cs answer
    → IsRising nat_cmp number_of cs
IsRising-from_adjacent cs answer is said =
    let all : AllAdjacentBelow (λ (a b : Container). true ≡ nat_lt a.instance.number b.instance.number) cs (length cs) =
    subst (λ (r : Bool). MatchBool r (AllAdjacentBelow (λ (a b : Container). true
    ≡ nat_lt a.instance.number b.instance.number) cs (length cs))
    ((k : ℕ) × (k + 1 < length cs) × ((d : Container) → false
    ≡ nat_lt (get_or cs k d).instance.number (get_or cs (k + 1) d).instance.number))) is said in
    IsRising-from_steps cs (λ k d lt. let test : true ≡ nat_lt (number_of (get_or cs k d))
    (number_of (get_or cs (k + 1) d)) = all k d lt in grind (arith, nat_tests))

lt_from_less : (a b : ℕ) → nat_cmp a b ≡ Less → a < b
lt_from_less a b e =
    elim (ltb a b) as (λ t. ltb a b ≡ t → cond t Less (cond (eqb a b) Equal Greater) ≡ Less → a < b) [
      | true ↦ λ is h. ltb-true a b is
      | false ↦ λ is h. elim (eqb a b) as (λ u. cond u Equal Greater ≡ Less → a < b)
          [ true ↦ λ k. cc | false ↦ λ k. cc ] h
    ] refl e

first_below : (x : Container) (cs : List Container) (d : Container) → IsRising nat_cmp number_of (x ∷ cs)
    → 1 < length (x ∷ cs) → number_of x < number_of (get_or cs 0 d)
first_below x [] d up lt = absurd (omega (arith, lt))
first_below x (y ∷ cs) d up lt =
    lt_from_less (number_of x) (number_of y)
    (All-head (λ z. nat_cmp (number_of x) (number_of z) ≡ Less) y cs
    (All-above nat_cmp number_of (number_of x) (y ∷ cs) (below_rest nat_cmp number_of x (y ∷ cs) up)))

-- of containers in order each has a lower number than the next
pub StepUp-from_rising : (cs : List Container) → IsRising nat_cmp number_of cs → StepUp cs
StepUp-from_rising [] up k d lt = absurd (omega (arith, lt))
StepUp-from_rising (x ∷ cs) up zero d lt = first_below x cs d up lt
StepUp-from_rising (x ∷ cs) up (suc k) d lt =
    let next : suc (k + 1) ≡ suc k + 1 = omega arith in
    subst (λ (j : ℕ). number_of (get_or (x ∷ cs) (suc k) d) < number_of (get_or (x ∷ cs) j d)) next
    (StepUp-from_rising cs (IsRising-tail nat_cmp number_of x cs up) k d (omega (arith, lt)))

-- what a test of neighbours says of containers in order
pub adjacent-from_rising : (cs : List Container) (answer : Bool) → IsRising nat_cmp number_of cs
    → IsAllAdjacentAnswer (λ (a b : Container) (t : Bool). t ≡ nat_lt a.instance.number b.instance.number) cs answer
    → answer ≡ true
adjacent-from_rising cs true up said = refl
adjacent-from_rising [] false up said = absurd (omega (arith, said.1))
adjacent-from_rising (x ∷ cs) false up said =
    let test : false ≡ nat_lt (number_of (get_or (x ∷ cs) said.0 x)) (number_of (get_or (x ∷ cs) (said.0 + 1) x)) =
    said.2 x in
    let above : number_of (get_or (x ∷ cs) said.0 x) < number_of (get_or (x ∷ cs) (said.0 + 1) x) =
    StepUp-from_rising (x ∷ cs) up said.0 x said.1 in
    absurd (grind (arith, nat_tests))

same_number : (a b : Instance) → is_same_instance a b ≡ true → b.number ≡ a.number
same_number a b e = grind (arith, nat_tests)

pub first_of_two : (a b : Bool) → (a && b) ≡ true → a ≡ true
first_of_two true b e = refl
first_of_two false b e = absurd cc

module _ (job : JobName) (instance : Instance) where
  -- a container of the instance has its number
  number_of_instance : (c : Container) → is_container_of job instance c ≡ true → number_of c ≡ instance.number
  number_of_instance c e = same_number instance c.instance
      (first_of_two (is_same_instance instance c.instance) (is_same_job job c.job) e)

  found_by_number : (cs : List Container) (c : Container) → IsRising nat_cmp number_of cs
      → find (is_container_of job instance) cs ≡ Some c
      → find_row nat_cmp number_of instance.number cs ≡ Some c
  found_by_number cs c rises e =
      let r = find-passes (is_container_of job instance) cs c e in
      subst (λ (n : ℕ). find_row nat_cmp number_of n cs ≡ Some c) (number_of_instance c r.1)
      (find_row-Contains nat_cmp number_of IsKeyOrder-nat_cmp c cs rises r.0)

  -- the one of that number, if it is the job's container of that instance
  pub held_here : (cs : List Container) (c : Container) → IsRising nat_cmp number_of cs
      → Some c ≡ find_row nat_cmp number_of instance.number cs
      → is_container_of job instance c ≡ true → Some c ≡ find (is_container_of job instance) cs
  held_here cs c rises at passes =
      elim (find (is_container_of job instance) cs) as (λ (o : Option Container). find (is_container_of job instance) cs
      ≡ o → Some c ≡ o) [
        | None ↦ λ none.
            let fails : is_container_of job instance c ≡ false =
            find-fails (is_container_of job instance) cs c none
            (Contains-find_row nat_cmp number_of instance.number c cs (sym at)) in
            absurd cc
        | (Some x) ↦ λ is. at ∙ found_by_number cs x rises is
      ] refl

  -- else there is none
  pub held_not : (cs : List Container) (c : Container) → IsRising nat_cmp number_of cs
      → Some c ≡ find_row nat_cmp number_of instance.number cs
      → is_container_of job instance c ≡ false → None ≡ find (is_container_of job instance) cs
  held_not cs c rises at fails =
      elim (find (is_container_of job instance) cs) as (λ (o : Option Container). find (is_container_of job instance) cs
      ≡ o → None ≡ o) [
        | None ↦ λ none. refl
        | (Some x) ↦ λ is.
            let same : Some c ≡ Some x = at ∙ found_by_number cs x rises is in
            let one : c ≡ x = cc in
            let passes : is_container_of job instance c ≡ true =
            ap (is_container_of job instance) one ∙ (find-passes (is_container_of job instance) cs x is).1 in
            absurd cc
      ] refl

  pub held_nowhere : (cs : List Container) → IsRising nat_cmp number_of cs
      → None ≡ find_row nat_cmp number_of instance.number cs
      → None ≡ find (is_container_of job instance) cs
  held_nowhere cs rises at =
      elim (find (is_container_of job instance) cs) as (λ (o : Option Container). find (is_container_of job instance) cs
      ≡ o → None ≡ o) [
        | None ↦ λ none. refl
        | (Some x) ↦ λ is. let found = found_by_number cs x rises is in absurd cc
      ] refl
