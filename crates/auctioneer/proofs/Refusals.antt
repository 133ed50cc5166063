-- A job that fits nowhere fits nowhere later, and no job that asks for as much does.
use Rattle.std.proofs.Common.{◌≡◌, ℕ, ◌<◌, ◌≤◌, true, false, ◌&&◌, nat_eq, List, length, set, get_or, Option, Some, None, inl, inr, refl, sym, ap, subst, ◌∙◌, arith}
use Rattle.std.specs.Cmp.Lexicographic.{pointwise}
use Rattle.std.specs.Option.{option_eq}
use Rattle.std.proofs.lemmas.Bool.{cases_eq, and_parts, leb-true, le-leb, lt-ltb}
use Rattle.std.proofs.lemmas.List.{length-set, get_or-set_same, get_or-set_other}
use Rattle.row_tables.specs.Table.{IsRising}
use Rattle.diego_names.specs.Order.{name_order}
use Rattle.cell_records.specs.declared.job.Job.{Job}
use Rattle.auctioneer.specs.Least.{NoneFits, IsLeastOrNone, best}
use Rattle.auctioneer.specs.Refused.{size_of, asks_as_much, AreRefused}
use Rattle.auctioneer.specs.declared.refused.Size.{Size}
use Rattle.auctioneer.specs.Stands.{can_take, with_job}
use Rattle.auctioneer.specs.declared.stand.Stand.{Stand}
use Rattle.auctioneer.proofs.Leasts.{best_in-IsLeast, best-from_least}
use Rattle.auctioneer.proofs.Placings.{same_from_test, HasRoom, HasRoom-can_take}

-- a job with the cell's tag fits where there is room
can_take-HasRoom : (job : Job) (s : Stand) → option_eq (pointwise nat_eq) job.tag s.tag ≡ true → HasRoom job s
    → can_take job s ≡ true
can_take-HasRoom job s tag room =
    let memory = le-leb job.memory s.free.memory room.memory in
    let disk = le-leb job.disk s.free.disk room.disk in
    let slot = lt-ltb 0 s.free.containers room.slot in
    λ i. tag i && (memory i && (disk i && slot i))

tag_in : (job : Job) (s : Stand) → can_take job s ≡ true → option_eq (pointwise nat_eq) job.tag s.tag ≡ true
tag_in job s e = (and_parts _ _ e).0

-- the test of tags says whether they are one
tag_from_test : (a b : Option (List ℕ)) → option_eq (pointwise nat_eq) a b ≡ true → a ≡ b
tag_from_test None None e = refl
tag_from_test None (Some b) e = absurd cc
tag_from_test (Some a) None e = absurd cc
tag_from_test (Some a) (Some b) e = ap Some (same_from_test a b e)

-- where it would follow that a job that doesn't fit does, it doesn't
unfit : (job other : Job) (s t : Stand) → (can_take job s ≡ true → can_take other t ≡ true) → can_take other t ≡ false
    → can_take job s ≡ false
unfit job other s t follows none =
    elim (can_take job s) as (λ b. can_take job s ≡ b → b ≡ false) [
      | true ↦ λ yes. let also : can_take other t ≡ true = follows yes in absurd cc
      | false ↦ λ e. refl
    ] refl

pub NoneFits-more : (stands : List Stand) (job other : Job) → asks_as_much job (size_of other) ≡ true
    → NoneFits other stands → NoneFits job stands
NoneFits-more stands job other asks none b there =
    let first = and_parts _ _ asks in
    let second = and_parts _ _ first.1 in
    let memory : other.memory ≤ job.memory = leb-true other.memory job.memory second.0 in
    let disk : other.disk ≤ job.disk = leb-true other.disk job.disk second.1 in
    let tag : job.tag ≡ other.tag = tag_from_test job.tag other.tag first.0 in
    unfit job other b b (λ yes.
    let room = HasRoom-can_take job b yes in
    can_take-HasRoom other b (ap (λ t. option_eq (pointwise nat_eq) t b.tag) (sym tag) ∙ tag_in job b yes)
    (record { memory = omega (arith, room.memory); disk = omega (arith, room.disk); slot = room.slot })) (none b there)

-- what doesn't fit on a cell doesn't once it has a job more
pub unfit_later : (job other : Job) (s : Stand) → can_take other s ≡ false → can_take other (with_job job s) ≡ false
unfit_later job other s none =
    unfit other other (with_job job s) s (λ yes.
    let room = HasRoom-can_take other (with_job job s) yes in
    can_take-HasRoom other s (tag_in other (with_job job s) yes)
    (record { memory = omega (arith, room.memory); disk = omega (arith, room.disk); slot = omega (arith, room.slot) }))
    none

NoneFits-put : (stands : List Stand) (at : ℕ) (s : Stand) (job other : Job) → at < length stands
    → s ≡ get_or stands at s → NoneFits other stands → NoneFits other (set stands at (with_job job s))
NoneFits-put stands at s job other inside is none b there =
    let k = there.0 in
    let within : k < length stands = simp length-set at there.1 in
    elim (cases_eq k at) [
      | (inl same) ↦
          let here : b ≡ with_job job s = sym there.2 ∙ ap (λ n. get_or (set stands at (with_job job s)) n b) same ∙
          get_or-set_same stands at (with_job job s) b inside in
          ap (can_take other) here ∙ unfit_later job other s (none s (at, inside, sym is))
      | (inr apart) ↦ none b (k, within, sym (get_or-set_other stands at k (with_job job s) b apart) ∙ there.2)
    ]

-- the sizes that fit nowhere fit nowhere once a job is placed
pub AreRefused-put : (stands : List Stand) (at : ℕ) (s : Stand) (job : Job) (refused : List Size) → at < length stands
    → s ≡ get_or stands at s → AreRefused stands refused → AreRefused (set stands at (with_job job s)) refused
AreRefused-put stands at s job refused inside is h = λ k d below other asks.
    NoneFits-put stands at s job other inside is (h k d below other asks)

pub best-from_none : (stands : List Stand) (job : Job) → IsRising name_order (λ s. s.cell) stands → NoneFits job stands
    → best stands job ≡ None
best-from_none stands job rising none = best-from_least stands job None rising none

pub none-from_best : (stands : List Stand) (job : Job) → best stands job ≡ None → NoneFits job stands
none-from_best stands job e = subst (IsLeastOrNone stands job stands) e (best_in-IsLeast stands job stands)
