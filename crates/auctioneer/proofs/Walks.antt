-- The cells of a group in their order, one after the other.
use Rattle.std.proofs.Common.{◌≡◌, ℕ, ◌+◌, ◌<◌, ◌≤◌, true, false, ◌&&◌, nat_eq, nat_le, nat_lt, List, [], ◌∷◌, length, get_or, Option, Some, None, ◌⊎◌, inl, inr, refl, is_some, option_map, unwrap_or, sym, ap, subst, ◌∙◌, arith}
use Rattle.std.specs.BTreeMap.{is_at}
use Rattle.std.specs.BTreeMap.Range.{range_contains}
use Rattle.std.specs.BTreeSet.{contains, IsOrdered, IsKeyInRange, keys_between}
use Rattle.std.specs.Cmp.{nat_cmp_total, tied_itself}
use Rattle.std.specs.Cmp.Lexicographic.{pointwise}
use Rattle.std.specs.List.{All, Contains, list_any}
use Rattle.std.specs.List.Sorted.{IsStrictlySortedBy}
use Rattle.std.specs.Option.{IfSome, IsSomeAnd, MatchOption, option_eq}
use Rattle.std.specs.Ordering.{nat_cmp, is_gt, eq_by_cmp, ordering_then}
use Rattle.std.specs.declared.cmp.Ordering.TheVariants.{Less, Equal}
use Rattle.std.specs.declared.ops.Bound.TheVariants.{Included, Excluded}
use Rattle.std.proofs.lemmas.Bool.{cases_lt}
use Rattle.std.proofs.lemmas.List.{get_or_default}
use Rattle.std.proofs.lemmas.List.Elements.{Contains-get_or, All-head, All-tail, All-contains, All-from_recursion}
use Rattle.std.proofs.lemmas.List.Kept.{IsStrictlySortedBy-filter}
use Rattle.std.proofs.lemmas.Map.Keys.{sorted_head, sorted_tail, le_from_not_gt}
use Rattle.std.proofs.lemmas.Map.Views.{any-filter_same, Contains-from_any, range_contains-from_IsInRange}
use Rattle.diego_names.specs.Order.{name_order}
use Rattle.diego_names.proofs.Public.{IsKeyOrder-name_order}
use Rattle.cell_records.specs.declared.job.Job.{Job}
use Rattle.auction_scoring.specs.Order.{is_better}
use Rattle.auction_scoring.specs.declared.scores.Score.{Score}
use Rattle.auctioneer.specs.Candidates.{better_candidate}
use Rattle.auctioneer.specs.Fields.{IsFieldOf, IsFitting, IsNoWorse, IsBestOf}
use Rattle.auctioneer.specs.Least.{best, IsBestAt}
use Rattle.auctioneer.specs.Needs.{asks_for}
use Rattle.auctioneer.specs.Spots.{spot_order, load_in, IsRanking}
use Rattle.auctioneer.specs.Stands.{can_take, held_of, score_in, in_zone}
use Rattle.auctioneer.specs.Tallies.{tallied}
use Rattle.auctioneer.specs.declared.candidate.Candidate.{Candidate}
use Rattle.auctioneer.specs.declared.field.Field.{Field}
use Rattle.auctioneer.specs.declared.groups.Group.{Group}
use Rattle.auctioneer.specs.declared.spots.Spot.{Spot}
use Rattle.auctioneer.specs.declared.spots.Spots.{Spots}
use Rattle.auctioneer.specs.declared.stand.Stand.{Stand}
use Rattle.auctioneer.proofs.Leasts.{best-from_least, better_is_worse, contains_cases, never_better_than_itself, no_better_chain}
use Rattle.auctioneer.proofs.Offers.{IsFitting-better, no_worse_kept, no_worse_new, no_worse_unfit}
use Rattle.auctioneer.proofs.Placings.{pairs-from_rising}
use Rattle.auctioneer.proofs.SpotOrders.{IsKeyOrder-spot_order, spot_from_test}
use Rattle.auctioneer.proofs.SpotRanges.{first_of, in_group, from_first, before_next, group_between, not_above_up}

-- the spot is that of its cell, in that group
pub record IsSpotIn (stands : List Stand) (spots : List Spot) (number : ℕ) (q : Spot) : Type 0 where
  pub inside : q.cell < length stands
  pub is : (p : Spot) → get_or spots q.cell p ≡ q
  pub group : q.group ≡ number

-- the best so far is that of the groups before and of the spots that are no more to come
pub record IsBestBefore (stands : List Stand) (spots : List Spot) (job : Job) (number : ℕ) (rest : List Spot)
    (found : Option Candidate) : Type 0 where
  pub best : IsBestOf stands spots job (λ p. p.group < number) found
  pub seen : (k : ℕ) (s : Stand) (p : Spot) → k < length stands → (get_or spots k p).group ≡ number
      → Contains rest (get_or spots k p) ⊎ IsNoWorse stands job found (get_or stands k s)
  pub rising : IsStrictlySortedBy spot_order rest
  pub each : All (IsSpotIn stands spots number) rest

-- a spot of a rising list is no less than its first
ordered : (q : Spot) (rest : List Spot) (p : Spot) → IsStrictlySortedBy spot_order (q ∷ rest) → q.group ≡ p.group
    → Contains (q ∷ rest) p → is_gt (in_group q p) ≡ false
ordered q rest p rising group there =
    let tie : nat_cmp q.group p.group ≡ Equal = ap (nat_cmp q.group) (sym group) ∙ tied_itself nat_cmp_total q.group in
    let whole : is_gt (spot_order q p) ≡ false =
    elim (contains_cases q rest p there) [
      | (inl same) ↦ ap is_gt (subst (λ (x : Spot). spot_order q x ≡ Equal) same
          (tied_itself IsKeyOrder-spot_order.total q))
      | (inr later) ↦ ap is_gt (All-contains (λ y. spot_order q y ≡ Less) rest p
          (All-from_recursion (λ y. spot_order q y ≡ Less) rest (sorted_head spot_order q rest rising)) later)
    ] in
    sym (ap (λ t. is_gt (ordering_then t (in_group q p))) tie) ∙ whole

-- what a spot says at least, where the zone has so many if that is known
abbrev pub least_score : List Stand → Option ℕ → Spot → Stand → Score
least_score stands floor q s = record {
  in_zone = unwrap_or floor q.in_zone;
  on_cell = q.on_cell;
  load = q.load;
  cell = (get_or stands q.cell s).cell;
}

module _ (f : Field) (field : IsFieldOf f) (job : Job) (spots : Spots)
    (ranks : IsRanking job.job f.groups.items f.stands.items spots) (number : ℕ) where
  -- at the start
  pub best_at_start : (found : Option Candidate) (list : List Spot)
      → asks_for job spots.need ≡ true → IsBestOf f.stands.items spots.all.items job (λ p. p.group < number) found
      → list ≡ keys_between spot_order (Included (first_of number)) (Excluded (first_of (number + 1))) spots.order
      → All (IsKeyInRange spot_order (Included (first_of number)) (Excluded (first_of (number + 1))) spots.order) list
      → IsOrdered spot_order spots.order → IsBestBefore f.stands.items spots.all.items job number list found
  best_at_start found list served best is inside ordered = record {
    best = best;
    seen = λ k s p below group.
        let q : Spot = get_or spots.all.items k p in
        let passes : (y : Spot) → is_at (spot_order q) y ≡ true
        → range_contains spot_order (Included (first_of number)) (Excluded (first_of (number + 1))) y ≡ true =
        λ y yes.
        let e : y.group ≡ number = ap (λ (x : Spot). x.group) (sym (spot_from_test q y yes)) ∙ group in
        range_contains-from_IsInRange IsKeyOrder-spot_order.total (Included (first_of number))
        (Excluded (first_of (number + 1))) y (from_first number y e, before_next number y e) in
        elim (contains spot_order spots.order q) as
        (λ t. contains spot_order spots.order q ≡ t
        → Contains list q ⊎ IsNoWorse f.stands.items job found (get_or f.stands.items k s)) [
          | true ↦ λ kept.
              let there : list_any (is_at (spot_order q)) list ≡ true =
              ap (list_any (is_at (spot_order q))) is
              ∙ any-filter_same (is_at (spot_order q))
              (range_contains spot_order (Included (first_of number)) (Excluded (first_of (number + 1)))) true
              passes spots.order.keys
              ∙ kept in
              inl (Contains-from_any {eq = eq_by_cmp spot_order} spot_from_test q list there)
          | false ↦ λ out.
              inr (no_worse_unfit f.stands.items job found (get_or f.stands.items k s)
              (ranks.left_out k s p (omega (arith, ranks.spots.all)) out job served))
        ] refl;
    rising = subst (IsStrictlySortedBy spot_order) (sym is)
        (IsStrictlySortedBy-filter spot_order (range_contains spot_order (Included (first_of number))
        (Excluded (first_of (number + 1)))) spots.order.keys ordered);
    each = λ k d below.
        let q : Spot = get_or list k d in
        let h = inside k d below in
        let cell : q.cell < length spots.all.items = ranks.order.inside q h.1 in
        record {
          inside = omega (arith, ranks.spots.all);
          is = λ p. get_or_default spots.all.items q.cell p q cell ∙ ranks.order.is q h.1;
          group = group_between number q h.0.0 h.0.1;
        };
  }

  -- where the tag is another, no cell of the group fits
  pub best_other_tag : (g : Group) → g ≡ get_or f.groups.items number g
      → option_eq (pointwise nat_eq) job.tag g.tag ≡ false → (found : Option Candidate)
      → IsBestOf f.stands.items spots.all.items job (λ p. p.group < number) found
      → IsBestOf f.stands.items spots.all.items job (λ p. p.group < number + 1) found
  best_other_tag g at other found h = record {
    fitting = h.fitting;
    no_worse = λ k s p below seen.
        elim (cases_lt (get_or spots.all.items k p).group number) [
          | (inl lt) ↦ h.no_worse k s p below lt
          | (inr ge) ↦
              let x : Stand = get_or f.stands.items k s in
              let same : (get_or spots.all.items k p).group ≡ number = omega arith in
              let tag : g.tag ≡ x.tag =
              ap (λ (y : Group). y.tag) (at ∙ ap (λ n. get_or f.groups.items n g) (sym same)) ∙
              ((ranks.spots.each k p below).group s).tag g in
              no_worse_unfit f.stands.items job found x
              (ap (λ b. b && (nat_le job.memory x.free.memory &&
              (nat_le job.disk x.free.disk && nat_lt 0 x.free.containers)))
              (ap (option_eq (pointwise nat_eq) job.tag) (sym tag) ∙ other))
        ];
  }

  -- when all groups are done, it is the best of all cells
  pub found_best : (found : Option Candidate) → length f.groups.items ≤ number
      → IsBestOf f.stands.items spots.all.items job (λ p. p.group < number) found
      → MatchOption found (best f.stands.items job ≡ None) (λ c. IsBestAt f.stands.items job c.at)
  found_best None all h =
      best-from_least f.stands.items job None field.sound.rising (λ b there.
      let k = there.0 in
      let group = ((ranks.spots.each k (first_of 0) there.1).group b).inside in
      ap (can_take job) (sym there.2) ∙ h.no_worse k b (first_of 0) there.1 (omega arith))
  found_best (Some c) all h = record {
    inside = h.fitting.inside;
    best = λ d. best-from_least f.stands.items job (Some (get_or f.stands.items c.at d)) field.sound.rising (record {
      inside = Contains-get_or f.stands.items c.at d h.fitting.inside;
      fits = h.fitting.fits d;
      least = λ b there fits.
          let k = there.0 in
          let group = ((ranks.spots.each k (first_of 0) there.1).group b).inside in
          sym (ap (λ (x : Stand). is_better (score_in f.stands.items job.job x) c.score) there.2 ∙ ap
          (is_better (score_in f.stands.items job.job b)) (h.fitting.score d))
          ∙ h.no_worse k b (first_of 0) there.1 (omega arith) (ap (can_take job) there.2 ∙ fits);
    });
    fits = h.fitting.fits;
  }

  -- at the end
  pub best_at_end : (found : Option Candidate) → IsBestBefore f.stands.items spots.all.items job number [] found
      → IsBestOf f.stands.items spots.all.items job (λ p. p.group < number + 1) found
  best_at_end found h = record {
    fitting = h.best.fitting;
    no_worse = λ k s p below seen.
        elim (cases_lt (get_or spots.all.items k p).group number) [
          | (inl lt) ↦ h.best.no_worse k s p below lt
          | (inr ge) ↦ elim (h.seen k s p below (omega arith))
              [ (inl there) ↦ absurd (omega (arith, there.1)) | (inr done) ↦ done ]
        ];
  }

  -- the spot of a place tells the place
  same_cell : (q : Spot) (k : ℕ) (p : Spot) → k < length f.stands.items → q ≡ get_or spots.all.items k p → q.cell ≡ k
  same_cell q k p below e = ap (λ (x : Spot). x.cell) e ∙ (ranks.spots.each k p below).cell

  -- a cell that doesn't fit
  pub before_unfit : (q : Spot) (rest : List Spot) (found : Option Candidate)
      → IsBestBefore f.stands.items spots.all.items job number (q ∷ rest) found
      → ((s : Stand) → can_take job (get_or f.stands.items q.cell s) ≡ false)
      → IsBestBefore f.stands.items spots.all.items job number rest found
  before_unfit q rest found h unfit = record {
    best = h.best;
    seen = λ k s p below group.
        elim (h.seen k s p below group) [
          | (inl there) ↦
              elim (contains_cases q rest (get_or spots.all.items k p) there) [
                | (inl here) ↦ inr (no_worse_unfit f.stands.items job found (get_or f.stands.items k s)
                    (ap (λ n. can_take job (get_or f.stands.items n s)) (sym (same_cell q k p below here)) ∙ unfit s))
                | (inr later) ↦ inl later
              ]
          | (inr done) ↦ inr done
        ];
    rising = sorted_tail spot_order q rest h.rising;
    each = All-tail (IsSpotIn f.stands.items spots.all.items number) q rest h.each;
  }

  -- a cell that fits
  module _ (q : Spot) (rest : List Spot) (found : Option Candidate)
      (h : IsBestBefore f.stands.items spots.all.items job number (q ∷ rest) found) (c : Candidate)
      (fits : IsFitting f.stands.items job c) (at : c.at ≡ q.cell) where
    itself : (k : ℕ) (s : Stand) → c.at ≡ k → is_better (score_in f.stands.items job.job (get_or f.stands.items k s))
        c.score ≡ false
    itself k s here =
        ap (is_better (score_in f.stands.items job.job (get_or f.stands.items k s)))
        (fits.score s ∙ ap (λ n. score_in f.stands.items job.job (get_or f.stands.items n s)) here)
        ∙ never_better_than_itself (score_in f.stands.items job.job (get_or f.stands.items k s))

    pub before_fitting : IsBestBefore f.stands.items spots.all.items job number rest (Some (better_candidate found c))
    before_fitting = record {
      best = record {
        fitting = IsFitting-better f.stands.items job found c h.best.fitting fits;
        no_worse = λ k s p below lt. no_worse_kept f.stands.items job found c (get_or f.stands.items k s)
            (h.best.no_worse k s p below lt);
      };
      seen = λ k s p below group.
          elim (h.seen k s p below group) [
            | (inl there) ↦
                elim (contains_cases q rest (get_or spots.all.items k p) there) [
                  | (inl here) ↦ inr (no_worse_new f.stands.items job found c (get_or f.stands.items k s)
                      (itself k s (at ∙ same_cell q k p below here)))
                  | (inr later) ↦ inl later
                ]
            | (inr done) ↦ inr (no_worse_kept f.stands.items job found c (get_or f.stands.items k s) done)
          ];
      rising = sorted_tail spot_order q rest h.rising;
      each = All-tail (IsSpotIn f.stands.items spots.all.items number) q rest h.each;
    }

  -- what is known of the group's zone
  module _ (g : Group) (at : g ≡ get_or f.groups.items number g) (floor : Option ℕ)
      (known : floor ≡ option_map (tallied f.in_zones job.job) g.zone) where
    -- the group of a cell of it
    group_there : (k : ℕ) (p : Spot) → (get_or spots.all.items k p).group ≡ number
        → g ≡ get_or f.groups.items (get_or spots.all.items k p).group g
    group_there k p same = at ∙ ap (λ n. get_or f.groups.items n g) (sym same)

    counted : (zone : Option (List ℕ)) (name : List ℕ) → IfSome zone (λ z. z ≡ name)
        → IfSome (option_map (tallied f.in_zones job.job) zone) (λ count. count ≡ in_zone f.stands.items job.job name)
    counted None name h = tt
    counted (Some z) name h = field.zones job.job z ∙ ap (in_zone f.stands.items job.job) h

    pub zone_known : (k : ℕ) (s : Stand) (p : Spot) → k < length f.stands.items
        → (get_or spots.all.items k p).group ≡ number → IfSome floor
        (λ count. count ≡ in_zone f.stands.items job.job (get_or f.stands.items k s).zone)
    zone_known k s p below same =
        subst (λ (o : Option ℕ). IfSome o (λ count. count ≡ in_zone f.stands.items job.job
        (get_or f.stands.items k s).zone)) (sym known)
        (counted g.zone (get_or f.stands.items k s).zone
        (subst (λ (y : Group). IfSome y.zone (λ z. z ≡ (get_or f.stands.items k s).zone)) (sym (group_there k p same))
        (((ranks.spots.each k p below).group s).zone g)))

    -- the same of a spot that is to come
    pub zone_known_of : (q : Spot) → IsSpotIn f.stands.items spots.all.items number q → (s : Stand)
        → IfSome floor (λ count. count ≡ in_zone f.stands.items job.job (get_or f.stands.items q.cell s).zone)
    zone_known_of q here s = zone_known q.cell s q here.inside (ap (λ (x : Spot). x.group) (here.is q) ∙ here.group)

    -- where the zone is known, spots say nothing of it
    flat_there : (k : ℕ) (p : Spot) → k < length f.stands.items → (get_or spots.all.items k p).group ≡ number
        → is_some g.zone ≡ true → (get_or spots.all.items k p).in_zone ≡ 0
    flat_there k p below same some =
        (ranks.spots.each k p below).flat g (ap (λ (y : Group). is_some y.zone) (sym (group_there k p same)) ∙ some)

    -- the first of two spots says no more than the cell of the second scores
    module _ (q : Spot) (here : IsSpotIn f.stands.items spots.all.items number q) (k : ℕ) (s : Stand) (p : Spot)
        (below : k < length f.stands.items) (group : (get_or spots.all.items k p).group ≡ number)
        (upto : is_gt (in_group q (get_or spots.all.items k p)) ≡ false) where
      abbrev pub other : Spot
      other = get_or spots.all.items k p

      abbrev pub there : Stand
      there = get_or f.stands.items k s

      names : is_gt (nat_cmp q.cell other.cell) ≡ false → is_gt
          (name_order (get_or f.stands.items q.cell s).cell there.cell) ≡ false
      names e =
          let cell : other.cell ≡ k = (ranks.spots.each k p below).cell in
          let le : q.cell ≤ other.cell = le_from_not_gt q.cell other.cell e in
          elim (cases_lt q.cell k) [
            | (inl lt) ↦ ap is_gt (pairs-from_rising f.stands.items field.sound.rising q.cell k s lt below)
            | (inr ge) ↦
                let same : q.cell ≡ k = omega arith in
                ap is_gt (ap (λ n. name_order (get_or f.stands.items n s).cell there.cell) same ∙ tied_itself
                IsKeyOrder-name_order.total there.cell)
          ]

      rest_up : is_gt (ordering_then (nat_cmp q.on_cell other.on_cell)
          (ordering_then (nat_cmp q.load other.load) (nat_cmp q.cell other.cell))) ≡ false
          → is_gt (ordering_then (nat_cmp q.on_cell (held_of job.job there))
          (ordering_then (nat_cmp q.load (load_in there)) (name_order
          (get_or f.stands.items q.cell s).cell there.cell))) ≡ false
      rest_up e =
          let spot = ranks.spots.each k p below in
          not_above_up q.on_cell other.on_cell (held_of job.job there) _ _ (spot.on s) e (λ e2.
          not_above_up q.load other.load (load_in there) _ _ (spot.load s) e2 names)

      zone_up : (o : Option ℕ) → IfSome o (λ count. count ≡ in_zone f.stands.items job.job there.zone)
          → (is_some o ≡ true → (q.in_zone ≡ 0) × (other.in_zone ≡ 0))
          → is_gt (ordering_then (nat_cmp (unwrap_or o q.in_zone) (in_zone f.stands.items job.job there.zone))
          (ordering_then (nat_cmp q.on_cell (held_of job.job there))
          (ordering_then (nat_cmp q.load (load_in there)) (name_order
          (get_or f.stands.items q.cell s).cell there.cell)))) ≡ false
      zone_up None h flat = not_above_up q.in_zone other.in_zone (in_zone f.stands.items job.job there.zone) _ _
          ((ranks.spots.each k p below).zone s) upto rest_up
      zone_up (Some count) h flat =
          let none = flat refl in
          let tie : nat_cmp q.in_zone other.in_zone ≡ Equal =
          ap (nat_cmp q.in_zone) (none.1 ∙ sym none.0) ∙ tied_itself nat_cmp_total q.in_zone in
          let equal : nat_cmp count (in_zone f.stands.items job.job there.zone) ≡ Equal =
          ap (nat_cmp count) (sym h) ∙ tied_itself nat_cmp_total count in
          ap (λ t. is_gt (ordering_then t (ordering_then (nat_cmp q.on_cell (held_of job.job there))
          (ordering_then (nat_cmp q.load (load_in there)) (name_order
          (get_or f.stands.items q.cell s).cell there.cell))))) equal
          ∙ rest_up (sym (ap (λ t. is_gt (ordering_then t (ordering_then (nat_cmp q.on_cell other.on_cell)
          (ordering_then (nat_cmp q.load other.load) (nat_cmp q.cell other.cell))))) tie) ∙ upto)

      some_of : (zone : Option (List ℕ)) → is_some (option_map (tallied f.in_zones job.job) zone) ≡ true
          → is_some zone ≡ true
      some_of None e = e
      some_of (Some z) e = refl

      pub no_better_there : is_better (score_in f.stands.items job.job there) (least_score f.stands.items floor q s)
          ≡ false
      no_better_there =
          let flat : is_some floor ≡ true → (q.in_zone ≡ 0) × (other.in_zone ≡ 0) =
          λ some.
          let zoned : is_some g.zone ≡ true = some_of g.zone (ap is_some (sym known) ∙ some) in (
            ap (λ (x : Spot). x.in_zone) (sym (here.is q)) ∙ flat_there q.cell q here.inside
                (ap (λ (x : Spot). x.group) (here.is q) ∙ here.group) zoned,
            flat_there k p below group zoned,
          ) in
          better_is_worse (score_in f.stands.items job.job there) (least_score f.stands.items floor q s)
          ∙ zone_up floor (zone_known k s p below group) flat

    -- where the best so far is no worse than a spot says at least, nothing from there on is better
    pub best_settled : (q : Spot) (rest : List Spot) (c : Candidate)
        → IsBestBefore f.stands.items spots.all.items job number (q ∷ rest) (Some c)
        → ((s : Stand) → is_better (least_score f.stands.items floor q s) c.score ≡ false)
        → IsBestOf f.stands.items spots.all.items job (λ p. p.group < number + 1) (Some c)
    best_settled q rest c h settled = record {
      fitting = h.best.fitting;
      no_worse = λ k s p below seen.
          elim (cases_lt (get_or spots.all.items k p).group number) [
            | (inl lt) ↦ h.best.no_worse k s p below lt
            | (inr ge) ↦
                let same : (get_or spots.all.items k p).group ≡ number = omega arith in
                let here : IsSpotIn f.stands.items spots.all.items number q =
                All-head (IsSpotIn f.stands.items spots.all.items number) q rest h.each in
                elim (h.seen k s p below same) [
                  | (inl there) ↦ λ fits.
                      no_better_chain (score_in f.stands.items job.job (get_or f.stands.items k s))
                      (least_score f.stands.items floor q s) c.score
                      (no_better_there q here k s p below same (ordered q rest (get_or spots.all.items k p) h.rising
                      (here.group ∙ sym same) there)) (settled s)
                  | (inr done) ↦ done
                ]
          ];
    }

    -- the same of whatever was found
    pub best_settled_of : (q : Spot) (rest : List Spot) (found : Option Candidate) (least : Score)
        → IsBestBefore f.stands.items spots.all.items job number (q ∷ rest) found
        → ((s : Stand) → least ≡ least_score f.stands.items floor q s)
        → IsSomeAnd found (λ c. is_better least c.score ≡ false)
        → IsBestOf f.stands.items spots.all.items job (λ p. p.group < number + 1) found
    best_settled_of q rest None least h is settled = absurd settled
    best_settled_of q rest (Some c) least h is settled = best_settled q rest c h
        (λ s. ap (λ (x : Score). is_better x c.score) (sym (is s)) ∙ settled)
