-- A row names the container that it holds.
use Rattle.std.proofs.Common.{◌≡◌, ◌⊎◌, ℕ, Bool, true, false, ◌&&◌, ◌||◌, List, Option, Some, nat_eq, refl, ap, sym, ◌∙◌, inl, inr, ⊎_elim, arith}
use Rattle.std.proofs.lemmas.Bool.{eqb-true}
use Rattle.std.proofs.lemmas.Cmp.{nat_list_eq_equiv}
use Rattle.std.specs.Cmp.Lexicographic.{pointwise, same_text}
use Rattle.std.specs.List.{Contains}
use Rattle.std.specs.Ordering.{nat_cmp}
use Rattle.cell_records.specs.declared.answer.Answer.{Answer}
use Rattle.cell_records.specs.declared.container.Container.{Container}
use Rattle.cell_records.specs.declared.job_name.JobName.{JobName}
use Rattle.cell_records.specs.declared.job_name.JobName.TheVariants as job
use Rattle.container_store.specs.Jobs.{is_same_job}
use Rattle.container_store.specs.Store.{number_of}
use Rattle.diego_names.specs.declared.instance.Instance.{Instance}
use Rattle.diego_names.specs.declared.key.Key.{Key}
use Rattle.lrp_records.specs.States.{holder_of, is_same_instance}
use Rattle.lrp_records.specs.declared.actual.Actual.{Actual}
use Rattle.lrp_records.specs.declared.presence.Presence.{Presence}
use Rattle.lrp_records.specs.declared.presence.Presence.TheVariants.{Ordinary, Evacuating, Suspect}
use Rattle.row_tables.specs.Table.{find_row, IsRising}
use Rattle.row_tables.proofs.Public.{find_row-Contains}
use Rattle.task_records.specs.declared.task.Task.{Task}
use Rattle.bbs_model.specs.Tables.{find_actual, find_task}
use Rattle.task_records.specs.States.{runner_of}
use Rattle.bbs_model.specs.declared.rows.Rows.{Rows}
use Rattle.convergence.specs.Containers.{is_container_of, is_holder, row_names, task_names, is_named_for, is_named}
use Rattle.convergence.proofs.Public.{IsKeyOrder-nat_cmp}

pub both_of : (a b : Bool) → (a && b) ≡ true → (a ≡ true) × (b ≡ true)
both_of true b e = (refl, e)
both_of false b e = absurd cc

pub or_left : (a b : Bool) → a ≡ true → (a || b) ≡ true
or_left true b e = refl
or_left false b e = absurd cc

pub or_right : (a b : Bool) → b ≡ true → (a || b) ≡ true
or_right true b e = refl
or_right false b e = e

-- what tests alike is one
pub same_instance : (a b : Instance) → is_same_instance a b ≡ true → a ≡ b
same_instance a b e =
    let parts = both_of (nat_eq a.epoch b.epoch) (nat_eq a.number b.number) e in
    let one : a.epoch ≡ b.epoch = eqb-true a.epoch b.epoch parts.0 in
    let two : a.number ≡ b.number = eqb-true a.number b.number parts.1 in
    λ i. record { epoch = one i; number = two i }

nat_itself : (n : ℕ) → nat_eq n n ≡ true
nat_itself n = grind arith

text_itself : (a : List ℕ) → pointwise nat_eq a a ≡ true
text_itself a = nat_list_eq_equiv.refl a

pub instance_itself : (a : Instance) → is_same_instance a a ≡ true
instance_itself a = ap (λ (b : Bool). b && nat_eq a.number a.number) (nat_itself a.epoch) ∙ nat_itself a.number

pub same_job : (a b : JobName) → is_same_job a b ≡ true → a ≡ b
same_job (job.Lrp a) (job.Lrp b) e =
    let parts = both_of (pointwise nat_eq a.process b.process) (nat_eq a.index b.index) e in
    let one : a.process ≡ b.process = same_text a.process b.process (sym parts.0) in
    let two : a.index ≡ b.index = eqb-true a.index b.index parts.1 in
    λ i. job.Lrp (record { process = one i; index = two i })
same_job (job.Lrp a) (job.Task b) e = absurd cc
same_job (job.Task a) (job.Lrp b) e = absurd cc
same_job (job.Task a) (job.Task b) e = ap (λ (n : List ℕ). job.Task n) (same_text a b (sym e))

pub job_itself : (a : JobName) → is_same_job a a ≡ true
job_itself (job.Lrp a) = ap (λ (b : Bool). b && nat_eq a.index a.index) (text_itself a.process) ∙ nat_itself a.index
job_itself (job.Task a) = text_itself a

-- what a container is that was looked for
pub looked_for : (j : JobName) (instance : Instance) (c : Container) → is_container_of j instance c ≡ true
    → (instance ≡ c.instance) × (j ≡ c.job)
looked_for j instance c e =
    let parts = both_of (is_same_instance instance c.instance) (is_same_job j c.job) e in
    (same_instance instance c.instance parts.0, same_job j c.job parts.1)

pub looks_like : (j : JobName) (instance : Instance) (c : Container) → c.job ≡ j → c.instance ≡ instance
    → is_container_of j instance c ≡ true
looks_like j instance c same_job' same_instance' =
    ap (λ (k : JobName). is_same_instance instance c.instance && is_same_job j k) same_job'
    ∙ ap (λ (k : Instance). is_same_instance instance k && is_same_job j j) same_instance'
    ∙ ap (λ (b : Bool). b && is_same_job j j) (instance_itself instance) ∙ job_itself j

-- in an answer whose numbers rise an instance names one container
pub one_container : (x : Answer) → IsRising nat_cmp number_of x.containers → (c d : Container) → Contains x.containers c
    → Contains x.containers d → c.instance ≡ d.instance → c ≡ d
one_container x rises c d in_c in_d same =
    let first : find_row nat_cmp number_of (number_of c) x.containers ≡ Some c =
    find_row-Contains nat_cmp number_of IsKeyOrder-nat_cmp c x.containers rises in_c in
    let other : find_row nat_cmp number_of (number_of d) x.containers ≡ Some d =
    find_row-Contains nat_cmp number_of IsKeyOrder-nat_cmp d x.containers rises in_d in
    let number : number_of c ≡ number_of d = ap (λ (i : Instance). i.number) same in
    let both : Some c ≡ Some d = sym first ∙ ap (λ (n : ℕ). find_row nat_cmp number_of n x.containers) number ∙ other in
    cc

one_of : (a b : Bool) → (a || b) ≡ true → (a ≡ true) ⊎ (b ≡ true)
one_of true b e = inl refl
one_of false b e = inr e

-- an instance is named by one of its rows
pub named-from : (rows : Rows) (key : Key) (instance : Instance) (p : Presence)
    → row_names (find_actual rows key p) instance ≡ true
    → is_named_for (job.Lrp key) rows instance ≡ true
named-from rows key instance Ordinary e =
    let a = row_names (find_actual rows key Ordinary) instance in
    let b = row_names (find_actual rows key Evacuating) instance in
    or_left (a || b) (row_names (find_actual rows key Suspect) instance) (or_left a b e)
named-from rows key instance Evacuating e =
    let a = row_names (find_actual rows key Ordinary) instance in
    let b = row_names (find_actual rows key Evacuating) instance in
    or_left (a || b) (row_names (find_actual rows key Suspect) instance) (or_right a b e)
named-from rows key instance Suspect e =
    let a = row_names (find_actual rows key Ordinary) instance in
    let b = row_names (find_actual rows key Evacuating) instance in
    or_right (a || b) (row_names (find_actual rows key Suspect) instance) e

pub named-by : (rows : Rows) (key : Key) (instance : Instance) → is_named_for (job.Lrp key) rows instance ≡ true
    → (p : Presence) × (row_names (find_actual rows key p) instance ≡ true)
named-by rows key instance e =
    let a = row_names (find_actual rows key Ordinary) instance in
    let b = row_names (find_actual rows key Evacuating) instance in
    let c = row_names (find_actual rows key Suspect) instance in
    ⊎_elim
    (λ (aside : (a || b) ≡ true). ⊎_elim (λ (f : a ≡ true). (Ordinary, f)) (λ (f : b ≡ true). (Evacuating, f))
    (one_of a b aside))
    (λ (f : c ≡ true). (Suspect, f))
    (one_of (a || b) c e)

-- rows name what they hold
pub named-ordinary : (rows : Rows) (key : Key) (a : Actual) (instance : Instance)
    → find_actual rows key Ordinary ≡ Some a → holder_of a.state ≡ Some instance
    → is_named_for (job.Lrp key) rows instance ≡ true
named-ordinary rows key a instance is holds =
    named-from rows key instance Ordinary
    (ap (λ (o : Option Actual). row_names o instance) is ∙ ap
    (λ (h : Option Instance). is_holder h instance) holds ∙ instance_itself instance)

pub named-evacuating : (rows : Rows) (key : Key) (a : Actual) (instance : Instance)
    → find_actual rows key Evacuating ≡ Some a → holder_of a.state ≡ Some instance
    → is_named_for (job.Lrp key) rows instance ≡ true
named-evacuating rows key a instance is holds =
    named-from rows key instance Evacuating
    (ap (λ (o : Option Actual). row_names o instance) is ∙ ap
    (λ (h : Option Instance). is_holder h instance) holds ∙ instance_itself instance)

pub named-task : (rows : Rows) (name : List ℕ) (t : Task) (instance : Instance) → find_task rows name ≡ Some t
    → runner_of t.state ≡ Some instance
    → is_named_for (job.Task name) rows instance ≡ true
named-task rows name t instance is holds =
    ap (λ (o : Option Task). task_names o instance) is ∙ ap
    (λ (h : Option Instance). is_holder h instance) holds ∙ instance_itself instance

-- a container that was found for a named instance is named
pub named-found : (rows : Rows) (j : JobName) (instance : Instance) (c : Container)
    → is_named_for j rows instance ≡ true → is_container_of j instance c ≡ true → is_named rows c ≡ true
named-found rows j instance c named looks =
    let same = looked_for j instance c looks in
    ap (λ (k : JobName). is_named_for k rows c.instance) (sym same.1) ∙ ap (λ (i : Instance). is_named_for j rows i)
    (sym same.0) ∙ named
