-- Each change of a store's containers leaves a store.
use Rattle.std.proofs.Common.{◌≡◌, ℕ, ◌+◌, ◌<◌, ◌≤◌, ◌^◌, Bool, cond, not, List, [], ◌∷◌, map, filter, length, refl, ap, ◌∙◌, arith, length-append}
use Rattle.std.specs.Prelude.{◌==◌}
use Rattle.std.specs.declared.cmp.Ordering.TheVariants.{Less, Equal, Greater}
use Rattle.std.specs.List.{sum_by}
use Rattle.std.specs.Ordering.{nat_cmp}
use Rattle.std.proofs.lemmas.Bool.{lt-ltb}
use Rattle.std.proofs.lemmas.List.{length-map}
use Rattle.std.proofs.lemmas.List.Elements.{All-map, All-filter, All-push, All-weaker}
use Rattle.std.proofs.lemmas.List.Filters.{length-filter_both, sum_by-filter_both}
use Rattle.std.proofs.lemmas.List.Sums.{sum_by-cons, sum_by_push}
use Rattle.cell_records.specs.declared.container.Container.{Container}
use Rattle.cell_records.specs.declared.job_name.JobName.{JobName}
use Rattle.cell_records.specs.declared.container_state.ContainerState.TheVariants.{Reserved}
use Rattle.container_store.specs.Changes.{reserved, next_of}
use Rattle.container_store.specs.Store.{StoreView, IsStore, IsGiven, number_of, used_memory, used_disk}
use Rattle.container_store.proofs.Rising.{IsRising-map, IsRising-filter, IsRising-push}

-- a sum of what a change leaves is left
pub sum_by-map_same : (f : Container → ℕ) (g : Container → Container) → ((c : Container) → f (g c) ≡ f c)
    → (cs : List Container) → sum_by f (map g cs) ≡ sum_by f cs
sum_by-map_same f g same [] = refl
sum_by-map_same f g same (c ∷ cs) =
    let here : f (g c) ≡ f c = same c in
    let rest : sum_by f (map g cs) ≡ sum_by f cs = sum_by-map_same f g same cs in
    let old : sum_by f (c ∷ cs) ≡ f c + sum_by f cs = sum_by-cons f c cs in
    let new : sum_by f (g c ∷ map g cs) ≡ f (g c) + sum_by f (map g cs) = sum_by-cons f (g c) (map g cs) in
    omega arith

-- a change of containers that leaves their instances and amounts
pub record IsTurn (g : Container → Container) : Type 0 where
  pub instance : (c : Container) → (g c).instance ≡ c.instance
  pub memory : (c : Container) → (g c).memory ≡ c.memory
  pub disk : (c : Container) → (g c).disk ≡ c.disk

IsGiven-turn : (epoch last : ℕ) (g : Container → Container) → IsTurn g → (c : Container) → IsGiven epoch last c
    → IsGiven epoch last (g c)
IsGiven-turn epoch last g t c h =
    let same : (g c).instance ≡ c.instance = t.instance c in
    record {
      epoch_is = ap (λ i. i.epoch) same ∙ h.epoch_is;
      counted = let n : (g c).instance.number ≡ c.instance.number = ap (λ i. i.number) same in omega (arith, h.counted);
      known = let n : (g c).instance.number ≡ c.instance.number = ap (λ i. i.number) same in omega (arith, h.known);
    }

pub IsStore-turn : (g : Container → Container) (s : StoreView) → IsTurn g → IsStore s
    → IsStore (record s { containers = map g s.containers })
IsStore-turn g s t h =
    let memory_is : sum_by (λ (c : Container). c.memory) (map g s.containers) ≡ used_memory s =
    sum_by-map_same (λ c. c.memory) g t.memory s.containers in
    let disk_is : sum_by (λ (c : Container). c.disk) (map g s.containers) ≡ used_disk s =
    sum_by-map_same (λ c. c.disk) g t.disk s.containers in
    let length_is : length (map g s.containers) ≡ length s.containers = length-map s.containers g in
    record {
      rising = IsRising-map nat_cmp number_of g (λ c. ap (λ i. i.number) (t.instance c)) s.containers h.rising;
      given = All-map (IsGiven s.epoch s.last) g s.containers
          (All-weaker (IsGiven s.epoch s.last) (λ c. IsGiven s.epoch s.last (g c))
          (IsGiven-turn s.epoch s.last g t) s.containers h.given);
      memory = omega (arith, h.memory);
      disk = omega (arith, h.disk);
      slots = omega (arith, h.slots);
      fits = h.fits;
    }

pub IsStore-filter : (p : Container → Bool) (s : StoreView) → IsStore s
    → IsStore (record s { containers = filter p s.containers })
IsStore-filter p s h =
    let q : Container → Bool = λ c. not (p c) in
    let memory_is = sum_by-filter_both p q (λ c. refl) (λ c. c.memory) s.containers in
    let disk_is = sum_by-filter_both p q (λ c. refl) (λ c. c.disk) s.containers in
    let length_is = length-filter_both p q (λ c. refl) s.containers in
    record {
      rising = IsRising-filter nat_cmp number_of p s.containers h.rising;
      given = All-filter p (IsGiven s.epoch s.last) s.containers h.given;
      memory = omega (arith, h.memory, memory_is);
      disk = omega (arith, h.disk, disk_is);
      slots = omega (arith, h.slots, length_is);
      fits = h.fits;
    }

-- a number that was given is below the next
below_next : (epoch last : ℕ) (c : Container) → IsGiven epoch last c → nat_cmp c.instance.number (last + 1) ≡ Less
below_next epoch last c h =
    ap (λ b. cond b Less (cond (c.instance.number == (last + 1)) Equal Greater))
    (lt-ltb c.instance.number (last + 1) (omega (arith, h.known)))

given_later : (epoch last : ℕ) (c : Container) → IsGiven epoch last c → IsGiven epoch (last + 1) c
given_later epoch last c h =
    record { epoch_is = h.epoch_is; counted = h.counted; known = omega (arith, h.known) }

pub IsStore-reserved : (s : StoreView) (job : JobName) (memory disk : ℕ) → IsStore s
    → used_memory s + memory ≤ s.totals.memory → used_disk s + disk ≤ s.totals.disk
    → length s.containers < s.totals.containers → s.last + 1 < 2 ^ 32 → IsStore (reserved s job memory disk)
IsStore-reserved s job memory disk h room_m room_d slot number =
    let new : Container = record { instance = next_of s; job = job; memory = memory; disk = disk; state = Reserved } in
    let memory_is = sum_by_push (λ (c : Container). c.memory) s.containers new in
    let disk_is = sum_by_push (λ (c : Container). c.disk) s.containers new in
    let length_is = length-append s.containers (new ∷ []) in
    record {
      rising = IsRising-push nat_cmp number_of s.containers new h.rising
          (All-weaker (IsGiven s.epoch s.last) (λ c. nat_cmp (number_of c) (number_of new) ≡ Less)
          (below_next s.epoch s.last) s.containers h.given);
      given = All-push (IsGiven s.epoch (s.last + 1)) s.containers new
          (All-weaker (IsGiven s.epoch s.last) (IsGiven s.epoch (s.last + 1))
          (given_later s.epoch s.last) s.containers h.given)
          (record { epoch_is = refl; counted = omega arith; known = omega arith });
      memory = omega (arith, memory_is, room_m);
      disk = omega (arith, disk_is, room_d);
      slots = omega (arith, length_is, slot);
      fits = number;
    }
