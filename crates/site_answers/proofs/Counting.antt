-- How many containers cells have.
use Rattle.std.proofs.Common.{◌≡◌, ℕ, suc, ◌+◌, Bool, ◌&&◌, true, false, cond, not, List, [], ◌∷◌, length, map, filter, refl, sym, ap, ◌∙◌, arith}
use Rattle.std.specs.List.{cons_option, filter_map, flat_map, sum_by}
use Rattle.std.proofs.lemmas.List.{length-append, length-map}
use Rattle.std.proofs.lemmas.List.Concat.{flat_map-cons, length-flat_map}
use Rattle.std.proofs.lemmas.List.Sums.{sum_by-cons}
use Rattle.diego_names.specs.declared.key.Key.{Key}
use Rattle.cell_records.specs.declared.answer.Answer.{Answer}
use Rattle.cell_records.specs.declared.container.Container.{Container}
use Rattle.cell_records.specs.declared.job_name.JobName.{JobName}
use Rattle.cell_records.specs.declared.job_name.JobName.TheVariants.{Lrp, Task}
use Rattle.auctioneer.specs.Stands.{has_ended, jobs_of}
use Rattle.site_answers.specs.Counting.{is_standing}
use Rattle.site_answers.specs.Losses.{is_task, tasks_lost, tasks_on}
use Rattle.site_answers.specs.Zones.{cells_in}
use Rattle.site_spread.specs.Groups.{is_in}
use Rattle.site_spread.specs.declared.group.Group.{Group}
use Rattle.what_if.specs.Stays.{instance_in, is_lost, stay_at, stays_on}
use Rattle.what_if.specs.declared.site.Site.{Site}

-- a job is of an instance or of a task
one_counted : (k : Container) (ks : List Container) (keys : List Key) (j : JobName) → length ks ≡ length keys
    → length (cond (not (is_task j)) (k ∷ ks) ks) ≡ length (cons_option (instance_in j) keys)
one_counted k ks keys (Lrp key) e = ap suc e
one_counted k ks keys (Task name) e = e

-- the instances on a cell, counted one by one
standing_counted : (ks : List Container) → length (filter is_standing ks) ≡ length (filter_map instance_in (jobs_of ks))
standing_counted [] = refl
standing_counted (k ∷ ks) =
    let rest = standing_counted ks in
    elim (has_ended k.state) as (λ b. length (cond (not b && not (is_task k.job)) (k ∷ filter is_standing ks)
    (filter is_standing ks)) ≡ length (filter_map instance_in
    (map (λ (c : Container). c.job) (cond (not b) (k ∷ filter (λ (c : Container). not (has_ended c.state)) ks)
    (filter (λ (c : Container). not (has_ended c.state)) ks))))) [
      | true ↦ rest
      | false ↦ one_counted k (filter is_standing ks) (filter_map instance_in (jobs_of ks)) k.job rest
    ]

pub instances_counted : (c : Answer) → length (filter is_standing c.containers) ≡ length (stays_on c)
instances_counted c = standing_counted c.containers ∙ sym
    (length-map (filter_map instance_in (jobs_of c.containers)) (stay_at c.cell c.zone))

-- what is made of those that pass a test, counted one by one
counted_if : {X A : Type 0} (p : X → Bool) (f : X → List A) (xs : List X)
    → sum_by (λ x. cond (p x) (length (f x)) 0) xs ≡ length (flat_map f (filter p xs))
counted_if p f [] = refl
counted_if p f (x ∷ xs) =
    sum_by-cons (λ y. cond (p y) (length (f y)) 0) x xs
    ∙ ap (λ (n : ℕ). cond (p x) (length (f x)) 0 + n) (counted_if p f xs)
    ∙ elim (p x) as (λ b. cond b (length (f x)) 0 + length (flat_map f (filter p xs))
    ≡ length (flat_map f (cond b (x ∷ filter p xs) (filter p xs)))) [
      | true ↦ sym (ap length (flat_map-cons f x (filter p xs)) ∙ length-append (f x) (flat_map f (filter p xs)))
      | false ↦ omega arith
    ]

pub all_instances : (cells : List Answer) → sum_by (λ c. length (stays_on c)) cells ≡ length (flat_map stays_on cells)
all_instances cells = sym (length-flat_map stays_on cells)

pub all_tasks : (cells : List Answer) → sum_by (λ c. length (tasks_on c)) cells ≡ length (flat_map tasks_on cells)
all_tasks cells = sym (length-flat_map tasks_on cells)

pub instances_in_group : (site : Site) (g : Group) → sum_by
    (λ c. cond (is_in g c.zone c.tag) (length (stays_on c)) 0) site.cells ≡ length (flat_map stays_on (cells_in site g))
instances_in_group site g = counted_if (λ (c : Answer). is_in g c.zone c.tag) stays_on site.cells

pub all_tasks_lost : (site : Site) (lost : List (List ℕ))
    → sum_by (λ c. cond (is_lost lost c.cell) (length (tasks_on c)) 0) site.cells ≡ tasks_lost site lost
all_tasks_lost site lost = counted_if (λ (c : Answer). is_lost lost c.cell) tasks_on site.cells
