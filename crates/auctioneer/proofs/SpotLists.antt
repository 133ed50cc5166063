-- The spots of the cells, one after the other.
use Rattle.std.proofs.Common.{◌≡◌, ℕ, zero, suc, ◌-◌, ◌*◌, ◌/◌, ◌<◌, ◌≤◌, true, false, cond, eqb, List, [], ◌∷◌, ◌++◌, length, set, get_or, count_by, sum_by, is_some, Bool, refl, sym, ap, subst, ◌∙◌, inl, inr, arith}
use Rattle.std.specs.BTreeSet.{contains}
use Rattle.std.specs.Option.{IfSome}
use Rattle.std.proofs.Math.Nat.{div-mul-le_self}
use Rattle.std.proofs.lemmas.Nat.{le-div}
use Rattle.std.proofs.lemmas.Bool.{cases_lt, cases_eq, eqb-false}
use Rattle.std.proofs.lemmas.List.Sums.{sum_by_push}
use Rattle.std.proofs.lemmas.List.{length-append, length-set, get_or_append_left, get_or_push, get_or_default, get_or_read, get_or-set_same, get_or-set_other}
use Rattle.cell_records.specs.declared.job.Job.{Job}
use Rattle.auction_scoring.specs.Score.{used_share}
use Rattle.diego_names.specs.declared.key.Key.{Key}
use Rattle.cell_records.specs.declared.job_name.JobName.{JobName}
use Rattle.cell_records.specs.declared.job_name.JobName.TheVariants.{Lrp, Task}
use Rattle.auctioneer.specs.Needs.{LacksRoom}
use Rattle.auctioneer.specs.Spots.{spot_order, load_in, IsGroupOf, AreFirstSpots, AreSpotsFor, IsOrderOf, IsRanking, IsSpotOf}
use Rattle.auctioneer.specs.Stands.{same_name, is_of, held_of, in_zone, with_job}
use Rattle.auctioneer.specs.declared.groups.Group.{Group}
use Rattle.auctioneer.specs.declared.needs.Need.{Need}
use Rattle.auctioneer.specs.declared.spots.Spot.{Spot}
use Rattle.auctioneer.specs.declared.spots.Spots.{Spots}
use Rattle.auctioneer.specs.declared.stand.Stand.{Stand}
use Rattle.auctioneer.specs.declared.tally.Place.TheVariants.{Zone}
use Rattle.auctioneer.proofs.Counts.{count_at-set}

pub AreFirstSpots-nil : AreFirstSpots [] [] []
AreFirstSpots-nil = record {
  all = refl;
  cell = λ k p below. absurd (omega arith);
  zone = λ k p below. absurd (omega arith);
  on = λ k p below. absurd (omega arith);
  load = λ k s p below. absurd (omega arith);
  group = λ k s p below. absurd (omega arith);
}

-- a cell more
pub AreFirstSpots-push : (groups more : List Group) (stands : List Stand) (spots : List Spot) (s : Stand) (spot : Spot)
    → AreFirstSpots groups stands spots → ((x : Stand) (n : ℕ) → IsGroupOf groups x n → IsGroupOf more x n)
    → spot.cell ≡ length spots → spot.in_zone ≡ 0 → spot.on_cell ≡ 0 → spot.load ≤ load_in s
    → IsGroupOf more s spot.group → AreFirstSpots more (stands ++ s ∷ []) (spots ++ spot ∷ [])
AreFirstSpots-push groups more stands spots s spot h kept cell zone on load group =
    let old_spot = λ (k : ℕ) (p : Spot) (below : k < length spots). get_or_append_left spots (spot ∷ []) p k below in
    let new_spot = λ (k : ℕ) (p : Spot) (here : length spots ≡ k). get_or_push spots spot p k here in
    let old_stand = λ (k : ℕ) (x : Stand) (below : k < length stands). get_or_append_left stands (s ∷ []) x k below in
    let new_stand = λ (k : ℕ) (x : Stand) (here : length stands ≡ k). get_or_push stands s x k here in
    let pushed = length-append stands (s ∷ []) in
    let pushed_spots = length-append spots (spot ∷ []) in
    let last = λ (k : ℕ) (p : Spot) (below : k < length (spots ++ spot ∷ [])) (C : Spot → ℕ) (n : ℕ → ℕ)
    (old : k < length spots → C (get_or spots k p) ≡ n k) (new : C spot ≡ n (length spots)).
    elim (cases_lt k (length spots)) as (λ t. C (get_or (spots ++ spot ∷ []) k p) ≡ n k) [
      | (inl lt) ↦ ap C (old_spot k p lt) ∙ old lt
      | (inr ge) ↦ let here : length spots ≡ k = omega (arith, pushed_spots) in
          ap C (new_spot k p here) ∙ new ∙ ap n here
    ] in
    record {
      all = omega (arith, pushed, pushed_spots, h.all);
      cell = λ k p below. last k p below (λ x. x.cell) (λ n. n) (h.cell k p) cell;
      zone = λ k p below. last k p below (λ x. x.in_zone) (λ n. 0) (h.zone k p) zone;
      on = λ k p below. last k p below (λ x. x.on_cell) (λ n. 0) (h.on k p) on;
      load = λ k x p below.
          elim (cases_lt k (length stands)) [
            | (inl lt) ↦
                let lt_spots : k < length spots = omega (arith, h.all) in
                rw (old_spot k p lt_spots, old_stand k x lt) (h.load k x p lt)
            | (inr ge) ↦
                let here : length stands ≡ k = omega (arith, pushed) in
                let here_spots : length spots ≡ k = omega (arith, h.all) in
                rw (new_spot k p here_spots, new_stand k x here) load
          ];
      group = λ k x p below.
          elim (cases_lt k (length stands)) [
            | (inl lt) ↦
                let lt_spots : k < length spots = omega (arith, h.all) in
                rw (old_stand k x lt, old_spot k p lt_spots) (kept (get_or stands k x) (get_or spots k p).group
                (h.group k x p lt))
            | (inr ge) ↦
                let here : length stands ≡ k = omega (arith, pushed) in
                let here_spots : length spots ≡ k = omega (arith, h.all) in
                rw (new_stand k x here, new_spot k p here_spots) group
          ];
    }

positive : (n : ℕ) → (n ≡ 0 → ⊥) → 0 < n
positive zero h = absurd (h refl)
positive (suc n) h = omega arith

-- what is used is no less once less is free
used_share-le : (total free rest : ℕ) → rest ≤ free → used_share total free ≤ used_share total rest
used_share-le total free rest less =
    elim (eqb total 0) as (λ t. eqb total 0 ≡ t → cond t 0 (1000 * (total - free) / total)
    ≤ cond t 0 (1000 * (total - rest) / total)) [
      | true ↦ λ e. omega arith
      | false ↦ λ e.
          let some : 0 < total = positive total (eqb-false total 0 e) in
          let more : 1000 * (total - free) ≤ 1000 * (total - rest) = omega arith in
          le-div (1000 * (total - free) / total) (1000 * (total - rest)) total some
          (omega (arith, div-mul-le_self (1000 * (total - free)) total))
    ] refl

-- a cell with a job more is no less full
load_in-le : (job : Job) (s : Stand) → load_in s ≤ load_in (with_job job s)
load_in-le job s =
    omega (
      arith,
      used_share-le s.totals.memory s.free.memory (s.free.memory - job.memory) (omega arith),
      used_share-le s.totals.disk s.free.disk (s.free.disk - job.disk) (omega arith),
      used_share-le s.totals.containers s.free.containers (s.free.containers - 1) (omega arith),
    )

-- a spot by load alone serves for each job
pub IsSpotOf-first : (job : JobName) (groups : List Group) (stands : List Stand) (spots : List Spot)
    → AreFirstSpots groups stands spots → AreSpotsFor job groups stands spots
IsSpotOf-first job groups stands spots h = record {
  all = h.all;
  each = λ k p below.
      let within : k < length spots = omega (arith, h.all) in
      record {
        cell = h.cell k p within;
        group = λ s. h.group k s p below;
        flat = λ g some. h.zone k p within;
        zone = λ s. omega (arith, h.zone k p within);
        on = λ s. omega (arith, h.on k p within);
        load = λ s. h.load k s p below;
      };
}

-- a cell scores no less once a job more is on one
module _ (other : JobName) (groups : List Group) (stands : List Stand) (at : ℕ) (s : Stand) (job : Job)
    (inside : at < length stands) (is : s ≡ get_or stands at s) where
  here : (k : ℕ) (x : Stand) → k ≡ at → get_or (set stands at (with_job job s)) k x ≡ with_job job s
  here k x same = ap (λ n. get_or (set stands at (with_job job s)) n x) same ∙ get_or-set_same stands at
      (with_job job s) x inside

  was : (k : ℕ) (x : Stand) → k ≡ at → get_or stands k x ≡ s
  was k x same = ap (λ n. get_or stands n x) same ∙ get_or_default stands at x s inside ∙ sym is

  -- what doesn't fall where a job is put on a cell, at each cell
  grown : (C : Stand → ℕ) → C s ≤ C (with_job job s) → (k : ℕ) (x : Stand)
      → C (get_or stands k x) ≤ C (get_or (set stands at (with_job job s)) k x)
  grown C more k x =
      elim (cases_eq k at) [
        | (inl same) ↦ rw (here k x same, was k x same) more
        | (inr apart) ↦ omega (arith, ap C (get_or-set_other stands at k (with_job job s) x apart))
      ]

  -- and what stays
  kept : {X : Type 0} (C : Stand → X) → C s ≡ C (with_job job s) → (k : ℕ) (x : Stand)
      → C (get_or stands k x) ≡ C (get_or (set stands at (with_job job s)) k x)
  kept C same_here k x =
      elim (cases_eq k at) [
        | (inl same) ↦ ap C (was k x same) ∙ same_here ∙ ap C (sym (here k x same))
        | (inr apart) ↦ ap C (sym (get_or-set_other stands at k (with_job job s) x apart))
      ]

  zone_grown : (k : ℕ) (x : Stand) → in_zone stands other (get_or stands k x).zone
      ≤ in_zone (set stands at (with_job job s)) other (get_or (set stands at (with_job job s)) k x).zone
  zone_grown k x =
      let zone = (get_or stands k x).zone in
      let more = count_at-set Zone stands at s job other zone inside is in
      let same : in_zone (set stands at (with_job job s)) other zone
      ≡ in_zone (set stands at (with_job job s)) other (get_or (set stands at (with_job job s)) k x).zone =
      ap (in_zone (set stands at (with_job job s)) other) (kept (λ (y : Stand). y.zone) refl k x) in
      omega (arith, more, same)

  held_grown : held_of other s ≤ held_of other (with_job job s)
  held_grown = omega (arith, sum_by_push (λ (x : JobName). cond (is_of other x) 1 0) s.jobs job.job)

  pub IsSpotOf-put : (k : ℕ) (p : Spot) → IsSpotOf other groups stands k p
      → IsSpotOf other groups (set stands at (with_job job s)) k p
  IsSpotOf-put k p h = record {
    cell = h.cell;
    group = λ x.
        let g = h.group x in
        record {
          inside = g.inside;
          tag = λ y. g.tag y ∙ kept (λ (z : Stand). z.tag) refl k x;
          zone = λ y. subst (λ z. IfSome (get_or groups p.group y).zone (λ zone. zone ≡ z))
              (kept (λ (z : Stand). z.zone) refl k x) (g.zone y);
        };
    flat = h.flat;
    zone = λ x. omega (arith, h.zone x, zone_grown k x);
    on = λ x. omega (arith, h.on x, grown (held_of other) held_grown k x);
    load = λ x. omega (arith, h.load x, grown load_in (load_in-le job s) k x);
  }

  pub AreSpotsFor-put : (spots : List Spot) → AreSpotsFor other groups stands spots
      → AreSpotsFor other groups (set stands at (with_job job s)) spots
  AreSpotsFor-put spots h = record {
    all = simp length-set h.all;
    each = λ k p below. IsSpotOf-put k (get_or spots k p) (h.each k p (simp length-set at below));
  }

-- the spots with another one of a cell
pub AreSpotsFor-set : (job : JobName) (groups : List Group) (stands : List Stand) (spots : List Spot) (at : ℕ)
    (after : Spot) → at < length spots → IsSpotOf job groups stands at after → AreSpotsFor job groups stands spots
    → AreSpotsFor job groups stands (set spots at after)
AreSpotsFor-set job groups stands spots at after inside one h = record {
  all = simp length-set h.all;
  each = λ k p below.
      elim (cases_eq k at) [
        | (inl same) ↦
            let there : get_or (set spots at after) k p ≡ after =
            ap (λ n. get_or (set spots at after) n p) same ∙ get_or-set_same spots at after p inside in
            subst (IsSpotOf job groups stands k) (sym there) (subst (λ n. IsSpotOf job groups stands n after)
            (sym same) one)
        | (inr apart) ↦ subst (IsSpotOf job groups stands k) (sym (get_or-set_other spots at k after p apart))
            (h.each k p below)
      ];
}

-- whether a job is of a process is known by the process
same_is_of : (a b : Key) → a.process ≡ b.process → (x : JobName) → is_of (Lrp a) x ≡ is_of (Lrp b) x
same_is_of a b e (Lrp k) = ap (λ n. same_name n k.process) e
same_is_of a b e (Task t) = refl

-- a spot that serves for an instance serves for each of its process
pub IsSpotOf-process : (a b : Key) (groups : List Group) (stands : List Stand) (k : ℕ) (p : Spot)
    → a.process ≡ b.process → IsSpotOf (Lrp a) groups stands k p → IsSpotOf (Lrp b) groups stands k p
IsSpotOf-process a b groups stands k p e spot =
    let same : is_of (Lrp a) ≡ is_of (Lrp b) = λ i x. same_is_of a b e x i in
    let counts : (s : Stand) → held_of (Lrp a) s ≡ held_of (Lrp b) s = λ s.
    ap (λ (t : JobName → Bool). count_by t s.jobs) same in
    let zones : (zone : List ℕ) → in_zone stands (Lrp a) zone ≡ in_zone stands (Lrp b) zone = λ zone.
    ap (λ (c : Stand → ℕ). sum_by (λ s. cond (same_name s.zone zone) (c s) 0) stands) (λ i s. counts s i) in
    record {
      cell = spot.cell;
      group = spot.group;
      flat = spot.flat;
      zone = λ s. omega (arith, spot.zone s, zones (get_or stands k s).zone);
      on = λ s. omega (arith, spot.on s, counts (get_or stands k s));
      load = spot.load;
    }

-- what serves for an instance serves for each of its process
pub IsRanking-process : (a b : Key) (groups : List Group) (stands : List Stand) (spots : Spots) → a.process ≡ b.process
    → IsRanking (Lrp a) groups stands spots → IsRanking (Lrp b) groups stands spots
IsRanking-process a b groups stands spots e h = record {
  spots = record {
    all = h.spots.all;
    each = λ k p below. IsSpotOf-process a b groups stands k (get_or spots.all.items k p) e (h.spots.each k p below);
  };
  order = h.order;
  left_out = h.left_out;
}

-- the spot of a cell with a larger load that is still its own
pub IsSpotOf-loaded : (job : JobName) (groups : List Group) (stands : List Stand) (k : ℕ) (p : Spot) (stand : Stand)
    (load : ℕ) → k < length stands → stand ≡ get_or stands k stand → load ≡ load_in stand
    → IsSpotOf job groups stands k p → IsSpotOf job groups stands k (record p { load = load })
IsSpotOf-loaded job groups stands k p stand load inside is e h = record {
  cell = h.cell;
  group = h.group;
  flat = h.flat;
  zone = h.zone;
  on = h.on;
  load = λ s. omega (arith, e, ap load_in (get_or_read stands k stand inside is s));
}

-- the spot of a cell by what it scores now
pub IsSpotOf-counted : (job other : JobName) (groups : List Group) (stands : List Stand) (at : ℕ) (p : Spot)
    (stand : Stand) (g : Group) (zone held load : ℕ) → at < length stands → stand ≡ get_or stands at stand
    → IsSpotOf other groups stands at p → g ≡ get_or groups p.group g → (is_some g.zone ≡ true → zone ≡ 0)
    → zone ≤ in_zone stands job stand.zone → held ≡ held_of job stand → load ≡ load_in stand
    → IsSpotOf job groups stands at (record { group = p.group; in_zone = zone; on_cell = held; load = load; cell = at })
IsSpotOf-counted job other groups stands at p stand g zone held load inside is h known flat upto same full = record {
  cell = refl;
  group = h.group;
  flat = λ d some. flat (ap (λ (x : Group). is_some x.zone)
      (get_or_read groups p.group g (h.group stand).inside known d) ∙ some);
  zone = λ s. subst (λ (x : Stand). zone ≤ in_zone stands job x.zone) (get_or_read stands at stand inside is s) upto;
  on = λ s. omega (arith, same, ap (held_of job) (get_or_read stands at stand inside is s));
  load = λ s. omega (arith, full, ap load_in (get_or_read stands at stand inside is s));
}

-- the order with another spot of a cell, which moved there
pub IsRanking-moved : (job : JobName) (groups : List Group) (stands : List Stand) (old new : Spots) (at : ℕ)
    (after : Spot) → at < length old.all.items → IsSpotOf job groups stands at after
    → IsRanking job groups stands old → new.all.items ≡ set old.all.items at after → new.need ≡ old.need
    → IsOrderOf new.order (set old.all.items at after)
    → ((k : ℕ) (p : Spot) → k < length (set old.all.items at after)
    → contains spot_order new.order (get_or (set old.all.items at after) k p) ≡ false
    → (get_or (set old.all.items at after) k p ≡ get_or old.all.items k p) ×
    (contains spot_order old.order (get_or old.all.items k p) ≡ false)) → IsRanking job groups stands new
IsRanking-moved job groups stands old new at after inside one h set_is need order before = record {
  spots = subst (AreSpotsFor job groups stands) (sym set_is)
      (AreSpotsFor-set job groups stands old.all.items at after inside one h.spots);
  order = subst (IsOrderOf new.order) (sym set_is) order;
  left_out = λ k s p below out.
      let within : k < length (set old.all.items at after) = subst (λ (xs : List Spot). k < length xs) set_is below in
      let was = before k p within
      (sym (ap (λ (xs : List Spot). contains spot_order new.order (get_or xs k p)) set_is) ∙ out) in
      subst (λ (n : Need). LacksRoom n (get_or stands k s)) (sym need)
      (h.left_out k s p (simp length-set at within) was.1);
}
