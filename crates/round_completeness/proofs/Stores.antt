-- What a start leaves free on a cell.
use Rattle.std.proofs.Common.{◌≡◌, ℕ, ◌+◌, ◌-◌, ◌≤◌, min, Bool, false, cond, eqb, nat_lt, [], ◌∷◌, length, not, Option, Some, None, Result, Ok, Err, refl, ap, ◌∙◌, arith, length-append}
use Rattle.std.specs.Result.{result_unwrap_or}
use Rattle.std.proofs.lemmas.List.Filters.{sum_by-filter_both, length-filter_both}
use Rattle.std.proofs.lemmas.List.Sums.{sum_by-append}
use Rattle.auction_scoring.specs.Fits.{IsWithin}
use Rattle.auctioneer.specs.Stands.{less}
use Rattle.cell_records.specs.declared.amounts.Amounts.{Amounts}
use Rattle.cell_records.specs.declared.container.Container.{Container}
use Rattle.cell_records.specs.declared.job.Job.{Job}
use Rattle.cell_rep.specs.Ends.{without}
use Rattle.cell_rep.specs.Reps.{with_store, store_result}
use Rattle.cell_rep.specs.declared.joined.Joined.{Joined}
use Rattle.cell_rep.specs.declared.rep.CellRep.{CellRep}
use Rattle.container_store.specs.Changes.{next_container, reserved, reserving, without_container, if_held}
use Rattle.container_store.specs.Store.{StoreView, free_of, find_container, used_memory, used_disk}
use Rattle.container_store.specs.declared.refusal.StoreRefusal.{StoreRefusal}
use Rattle.container_store.specs.declared.refusal.StoreRefusal.TheVariants.{NoMemoryLeft, NoDiskLeft, NoSlot}
use Rattle.diego_names.specs.declared.instance.Instance.{Instance}
use Rattle.lrp_records.specs.States.{is_same_instance}
use Rattle.round_completeness.specs.Rooms.{FindsRoom}

pub within_itself : (a : Amounts) → IsWithin a a
within_itself a = record { memory = omega arith; disk = omega arith; containers = omega arith }

pub less_within : (free whole : Amounts) (job : Job) → IsWithin free whole → IsWithin (less free job) whole
less_within free whole job w =
    record { memory = omega (arith, w.memory); disk = omega (arith, w.disk); containers = omega (arith, w.containers) }

-- no more was taken of a store than the job asks for
record IsTaken (job : Job) (s s' : StoreView) : Type 0 where
  totals : s'.totals ≡ s.totals
  memory : used_memory s' ≤ used_memory s + job.memory
  disk : used_disk s' ≤ used_disk s + job.disk
  slots : length s'.containers ≤ length s.containers + 1
  last : s'.last ≤ s.last + 1

amount_left : (total now used used' free part : ℕ) → now ≡ total → used' ≤ used + part → free ≤ total - used
    → free - part ≤ now - used'
amount_left total now used used' free part same u f = omega (arith, same, u, f)

slots_left : (total now held held' last last' free : ℕ) → now ≡ total → held' ≤ held + 1 → last' ≤ last + 1
    → free ≤ min (total - held) (4294967295 - last) → free - 1 ≤ min (now - held') (4294967295 - last')
slots_left total now held held' last last' free same h l f = omega (arith, same, h, l, f)

left_free : (free : Amounts) (job : Job) (s s' : StoreView) → IsTaken job s s' → IsWithin free (free_of s)
    → IsWithin (less free job) (free_of s')
left_free free job s s' t w = record {
  memory = amount_left s.totals.memory s'.totals.memory (used_memory s) (used_memory s') free.memory job.memory
      (ap (λ (a : Amounts). a.memory) t.totals) t.memory w.memory;
  disk = amount_left s.totals.disk s'.totals.disk (used_disk s) (used_disk s') free.disk job.disk
      (ap (λ (a : Amounts). a.disk) t.totals)
      t.disk w.disk;
  containers = slots_left s.totals.containers s'.totals.containers (length s.containers)
      (length s'.containers) s.last s'.last
      free.containers
      (ap (λ (a : Amounts). a.containers) t.totals) t.slots t.last w.containers;
}

reserved_taken : (job : Job) (s : StoreView) → IsTaken job s (reserved s job.job job.memory job.disk)
reserved_taken job s =
    let n = next_container s job.job job.memory job.disk in
    record {
      totals = refl;
      memory = omega (arith, sum_by-append (λ (c : Container). c.memory) s.containers (n ∷ []));
      disk = omega (arith, sum_by-append (λ (c : Container). c.disk) s.containers (n ∷ []));
      slots = omega (arith, length-append s.containers (n ∷ []));
      last = omega arith;
    }

abbrev is_it : Instance → Container → Bool
is_it i c = is_same_instance i c.instance

removed_taken : (job : Job) (s m : StoreView) (i : Instance) → IsTaken job s m → IsTaken job s (without_container m i)
removed_taken job s m i t = record {
  totals = t.totals;
  memory = omega (
    arith,
    t.memory,
    sum_by-filter_both (λ c. not (is_it i c)) (λ c. not (not (is_it i c))) (λ c. refl)
        (λ (c : Container). c.memory) m.containers,
  );
  disk = omega (
    arith,
    t.disk,
    sum_by-filter_both (λ c. not (is_it i c)) (λ c. not (not (is_it i c))) (λ c. refl)
        (λ (c : Container). c.disk) m.containers,
  );
  slots = omega (
    arith,
    t.slots,
    length-filter_both (λ (c : Container). not (is_it i c)) (λ c. not (not (is_it i c))) (λ c. refl)
        m.containers,
  );
  last = t.last;
}

-- where there is room, it is made
no_less : (a b : ℕ) → b ≤ a → nat_lt a b ≡ false
no_less a b h = grind arith

not_none : (n : ℕ) → 1 ≤ n → eqb n 0 ≡ false
not_none n h = grind arith

pub room_made : (free : Amounts) (job : Job) (s : StoreView) → IsWithin free (free_of s) → FindsRoom free job
    → reserving s job.job job.memory job.disk ≡ Ok (reserved s job.job job.memory job.disk)
room_made free job s w f =
    let done : Result StoreView StoreRefusal = Ok (reserved s job.job job.memory job.disk) in
    ap (λ (b : Bool). cond b (Err NoMemoryLeft)
    (cond (nat_lt (free_of s).disk job.disk) (Err NoDiskLeft) (cond (eqb (free_of s).containers 0) (Err NoSlot) done)))
    (no_less (free_of s).memory job.memory (omega (arith, w.memory, f.memory)))
    ∙ ap (λ (b : Bool). cond b (Err NoDiskLeft) (cond (eqb (free_of s).containers 0) (Err NoSlot) done))
    (no_less (free_of s).disk job.disk (omega (arith, w.disk, f.disk)))
    ∙ ap (λ (b : Bool). cond b (Err NoSlot) done) (not_none (free_of s).containers
    (omega (arith, w.containers, f.container)))

-- a cell has joined, and has at least so much free
abbrev pub IsFree : Amounts → Option Joined → Type 0
IsFree free None = ⊥
IsFree free (Some j) = IsWithin free (free_of j.store)

pub weaker_free : (free : Amounts) (job : Job) (o : Option Joined) → IsFree free o → IsFree (less free job) o
weaker_free free job None w = absurd w
weaker_free free job (Some j) w = less_within free (free_of j.store) job w

-- with the job's container, and where it has gone again
pub held_free : (free : Amounts) (job : Job) (s : StoreView) → IsWithin free (free_of s)
    → IsWithin (less free job) (free_of (reserved s job.job job.memory job.disk))
held_free free job s w = left_free free job s (reserved s job.job job.memory job.disk) (reserved_taken job s) w

pub gone_free : (free : Amounts) (job : Job) (rep : CellRep) (j : Joined) (i : Instance)
    → IsWithin free (free_of j.store)
    → IsFree (less free job) (without (with_store rep j (reserved j.store job.job job.memory job.disk)) i).joined
gone_free free job rep j i w =
    let store = reserved j.store job.job job.memory job.disk in
    let now = with_store rep j store in
    elim (find_container i store.containers) as
    (λ (o : Option Container). IsFree (less free job)
    (result_unwrap_or (store_result now (record j { store = store }) (if_held o (λ c. Ok (without_container store i))))
    now).joined) [
      | None ↦ held_free free job j.store w
      | (Some c) ↦ left_free free job j.store (without_container store i)
          (removed_taken job j.store store i (reserved_taken job j.store)) w
    ]
