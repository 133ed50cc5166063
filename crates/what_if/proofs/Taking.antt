-- What a loss takes is what its cells hold and no other cell has.
use Rattle.std.proofs.Common.{◌≡◌, ◌≢◌, ℕ, Bool, true, false, cond, ◌&&◌, ◌||◌, not, List, [], ◌∷◌, ◌++◌, map, filter, is_some, Option, Some, None, refl, sym, ap, subst, ◌∙◌}
use Rattle.std.specs.HashSet.{contains, HashSet}
use Rattle.std.specs.List.{All, flat_map, list_any}
use Rattle.std.specs.List.Sorted.{IsPermutation}
use Rattle.std.specs.Option.{option_eq}
use Rattle.std.specs.Ordering.{eq_by_cmp}
use Rattle.std.proofs.lemmas.Bool.{and_parts, both_ways, false_from_ne_true, not-false, not-true}
use Rattle.std.proofs.lemmas.List.Concat.{flat_map-cons}
use Rattle.std.proofs.lemmas.List.Elements.{All-head, All-tail, filter-append}
use Rattle.std.proofs.lemmas.List.Sorted.{IsPermutation-append, IsPermutation-filter_both, IsPermutation-refl, IsPermutation-trans}
use Rattle.diego_names.specs.Order.{name_order}
use Rattle.diego_names.proofs.Public.{IsKeyOrder-name_order}
use Rattle.row_tables.specs.Table.{find_row, table}
use Rattle.row_tables.proofs.Public.{find_row-table, ties_itself, same_from_tie, IsRising-table}
use Rattle.auctioneer.specs.Stands.{same_name}
use Rattle.what_if.specs.Baselines.{cells_by, cells_in, does_hold, held_by, stands_outside, IsBaseline}
use Rattle.what_if.specs.Stays.{holder, is_held, is_lost, stays}
use Rattle.what_if.specs.Taken.{all_taken, is_taken, AreTaken}
use Rattle.what_if.specs.declared.baseline.Baseline.{Baseline}
use Rattle.what_if.specs.declared.site.Site.{Site}
use Rattle.what_if.specs.declared.site.Wanted.{Wanted}
use Rattle.what_if.proofs.Agreeing.{any-same, filter-same}
use Rattle.what_if.proofs.Differing.{Differ, differ-from_rising, head-differs, tail-differs}
use Rattle.what_if.proofs.Left.{filter_twice, held_on, holder_fails}
use Rattle.what_if.proofs.Names.{name_from_test, names_turned, other_name, test_from_name}

-- ---- names, each once

tie_name : (a b : List ℕ) → eq_by_cmp name_order a b ≡ same_name a b
tie_name a b =
    elim (same_name a b) as (λ t. same_name a b ≡ t → eq_by_cmp name_order a b ≡ t) [
      | true ↦ λ e. subst (λ (c : List ℕ). eq_by_cmp name_order a c ≡ true) (name_from_test a b e)
          (ties_itself name_order IsKeyOrder-name_order a)
      | false ↦ λ e. false_from_ne_true (eq_by_cmp name_order a b) (λ t. both_ways (same_name a b) e
          (test_from_name a b (same_from_tie name_order IsKeyOrder-name_order a b t)))
    ] refl

found_or : (b : Bool) (x : List ℕ) (o : Option (List ℕ)) → is_some (cond b (Some x) o) ≡ (b || is_some o)
found_or true x o = refl
found_or false x o = refl

named_row : (q : List ℕ) (xs : List (List ℕ)) → is_some (find_row name_order (λ n. n) q xs) ≡ list_any (same_name q) xs
named_row q [] = refl
named_row q (x ∷ xs) =
    found_or (eq_by_cmp name_order q x) x (find_row name_order (λ n. n) q xs)
    ∙ ap (λ (b : Bool). b || is_some (find_row name_order (λ n. n) q xs)) (tie_name q x)
    ∙ ap (λ (b : Bool). same_name q x || b) (named_row q xs)

-- a name is among names if it is among the same, each once
named_once : (q : List ℕ) (names : List (List ℕ)) → list_any (same_name q) (table name_order (λ n. n) names)
    ≡ is_lost names q
named_once q names =
    sym (named_row q (table name_order (λ n. n) names))
    ∙ ap (λ (o : Option (List ℕ)). is_some o) (find_row-table name_order (λ n. n) IsKeyOrder-name_order q names)
    ∙ named_row q names
    ∙ any-same (same_name q) (λ n. same_name n q) (λ n. names_turned q n) names

map_itself : {X : Type 0} (xs : List X) → map (λ x. x) xs ≡ xs
map_itself [] = refl
map_itself (x ∷ xs) = ap (λ (ys : List _). x ∷ ys) (map_itself xs)

once_differ : (names : List (List ℕ)) → Differ (table name_order (λ n. n) names)
once_differ names =
    subst (λ (ys : List (List ℕ)). Differ ys) (map_itself (table name_order (λ n. n) names))
    (differ-from_rising name_order (λ (n : List ℕ). n) IsKeyOrder-name_order (table name_order (λ n. n) names)
    (IsRising-table name_order (λ (n : List ℕ). n) IsKeyOrder-name_order names))

none_named : (q : List ℕ) (ns : List (List ℕ)) → All (λ n. q ≢ n) ns → list_any (same_name q) ns ≡ false
none_named q [] h = refl
none_named q (n ∷ ns) h =
    ap (λ (b : Bool). b || list_any (same_name q) ns) (other_name q n (All-head (λ m. q ≢ m) n ns h))
    ∙ none_named q ns (All-tail (λ m. q ≢ m) n ns h)

-- ---- what is held by one of some cells

none_kept : {X : Type 0} (xs : List X) → filter (λ x. false) xs ≡ []
none_kept [] = refl
none_kept (x ∷ xs) = none_kept xs

-- the first of two tests in turn, and the others without it
first_kept : (h a t : Bool) → (((h || a) && t) && h) ≡ (h && t)
first_kept true a true = refl
first_kept true a false = refl
first_kept false true true = refl
first_kept false true false = refl
first_kept false false t = refl

others_kept : (h a t : Bool) → (h ≡ true → a ≡ false) → (((h || a) && t) && not h) ≡ (a && t)
others_kept true a true apart = sym (ap (λ (b : Bool). b && true) (apart refl))
others_kept true a false apart = sym (ap (λ (b : Bool). b && false) (apart refl))
others_kept false true true apart = refl
others_kept false true false apart = refl
others_kept false false t apart = refl

module _ (site : Site) (t : Wanted → Bool) where
  -- whether one of the cells holds the instance
  abbrev is_held_of : List (List ℕ) → Wanted → Bool
  is_held_of cells w = list_any (λ cell. does_hold site cell w) cells

  held_apart : (n : List ℕ) (ns : List (List ℕ)) → All (λ m. n ≢ m) ns → (w : Wanted) → does_hold site n w ≡ true
      → is_held_of ns w ≡ false
  held_apart n ns apart w =
      elim (holder site [] w.key) as (λ (o : Option (List ℕ)). option_eq same_name o (Some n) ≡ true
      → list_any (λ cell. option_eq same_name o (Some cell)) ns ≡ false) [
        | None ↦ λ e. absurd cc
        | (Some x) ↦ λ e.
            subst (λ (m : List ℕ). list_any (same_name m) ns ≡ false) (sym (name_from_test x n e))
            (none_named n ns apart)
      ]

  -- of unlike cells those that one holds, and then those that each of the others does
  pub by_cells : (cells : List (List ℕ)) → Differ cells
      → IsPermutation (filter (λ w. is_held_of cells w && t w) site.wanted)
      (flat_map (λ cell. filter (λ w. does_hold site cell w && t w) site.wanted) cells)
  by_cells [] apart =
      subst (λ (xs : List Wanted). IsPermutation xs []) (sym (none_kept site.wanted))
      (IsPermutation-refl {X = Wanted} [])
  by_cells (n ∷ ns) apart =
      let one : Wanted → Bool = does_hold site n in
      let all : List Wanted = filter (λ w. is_held_of (n ∷ ns) w && t w) site.wanted in
      let own : List Wanted = filter (λ w. one w && t w) site.wanted in
      let rest : List Wanted = filter (λ w. is_held_of ns w && t w) site.wanted in
      let more : List Wanted = flat_map (λ cell. filter (λ w. does_hold site cell w && t w) site.wanted) ns in
      let first : filter one all ≡ own =
      filter_twice one (λ w. is_held_of (n ∷ ns) w && t w) site.wanted
      ∙ filter-same (λ w. (is_held_of (n ∷ ns) w && t w) && one w) (λ w. one w && t w)
      (λ w. first_kept (one w) (is_held_of ns w) (t w)) site.wanted in
      let others : filter (λ w. not (one w)) all ≡ rest =
      filter_twice (λ w. not (one w)) (λ w. is_held_of (n ∷ ns) w && t w) site.wanted
      ∙ filter-same (λ w. (is_held_of (n ∷ ns) w && t w) && not (one w)) (λ w. is_held_of ns w && t w)
      (λ w. others_kept (one w) (is_held_of ns w) (t w) (held_apart n ns (head-differs n ns apart) w)) site.wanted in
      let both : IsPermutation all (own ++ rest) =
      subst (λ (xs : List Wanted). IsPermutation all (xs ++ rest)) first
      (subst (λ (xs : List Wanted). IsPermutation all (filter one all ++ xs)) others
      (IsPermutation-filter_both one (λ w. not (one w)) (λ w. refl) all)) in
      subst (IsPermutation all)
      (sym (flat_map-cons (λ cell. filter (λ w. does_hold site cell w && t w) site.wanted) n ns))
      (IsPermutation-trans all (own ++ rest) (own ++ more) both
      (IsPermutation-append own own rest more (IsPermutation-refl own) (by_cells ns (tail-differs n ns apart))))

-- ---- what a loss takes

-- what one cell holds and no cell that stays is what it holds and the loss takes
kept_on : (site : Site) (cell : List ℕ) (w : Wanted) (p : Bool)
    → (does_hold site cell w && p) ≡ (does_hold site cell w && (is_held site [] w.key && p))
kept_on site cell w p =
    elim (holder site [] w.key) as (λ (o : Option (List ℕ)). (option_eq same_name o (Some cell) && p)
    ≡ (option_eq same_name o (Some cell) && (is_some o && p))) [
      | None ↦ refl
      | (Some x) ↦ refl
    ]

-- a lost cell holds each instance that is taken
taken_there : (site : Site) (lost : List (List ℕ)) (w : Wanted) → is_taken site lost w ≡ true
    → list_any (λ cell. does_hold site cell w) (table name_order (λ n. n) lost) ≡ true
taken_there site lost w is =
    let none : list_any (λ cell. not (is_lost lost cell)) (cells_in (stays site []) w.key) ≡ false =
    sym (held_on site lost w.key)
    ∙ not-true (is_held site lost w.key) (and_parts (is_held site [] w.key) (not (is_held site lost w.key)) is).1 in
    elim (holder site [] w.key) as (λ (o : Option (List ℕ)). holder site [] w.key ≡ o → is_some o ≡ true
    → list_any (λ cell. option_eq same_name o (Some cell)) (table name_order (λ n. n) lost) ≡ true) [
      | None ↦ λ e h. absurd cc
      | (Some x) ↦ λ e h.
          named_once x lost
          ∙ not-false (is_lost lost x) (holder_fails (λ cell. not (is_lost lost cell)) w.key (stays site []) x e none)
    ] refl (and_parts (is_held site [] w.key) (not (is_held site lost w.key)) is).0

and_itself : (a t : Bool) → (t ≡ true → a ≡ true) → t ≡ (a && t)
and_itself a true h = sym (ap (λ (b : Bool). b && true) (h refl))
and_itself true false h = refl
and_itself false false h = refl

module _ {S : Type 0} (base : Baseline) (is : IsBaseline base) (lost : List (List ℕ)) (gone : HashSet (List ℕ) S)
    (set : (name : List ℕ) → contains same_name gone name ≡ is_lost lost name) where
  -- an instance stands outside the lost cells where it is held with them lost
  outside_held : (w : Wanted) → stands_outside base gone w ≡ is_held base.site.now lost w.key
  outside_held w =
      ap (list_any (λ cell. not (contains same_name gone cell))) (is.cells w.key)
      ∙ any-same (λ cell. not (contains same_name gone cell)) (λ cell. not (is_lost lost cell))
      (λ cell. ap not (set cell)) (cells_in (stays base.site.now []) w.key)
      ∙ sym (held_on base.site.now lost w.key)

  -- of those that the cell holds
  one_cell : (p : Wanted → Bool) (cell : List ℕ)
      → filter p (filter (λ w. not (stands_outside base gone w)) (held_by base cell))
      ≡ filter (λ w. does_hold base.site.now cell w && (is_taken base.site.now lost w && p w)) base.site.now.wanted
  one_cell p cell =
      let site : Site = base.site.now in
      let hold : Wanted → Bool = does_hold site cell in
      ap (λ (xs : List Wanted). filter p (filter (λ w. not (stands_outside base gone w)) xs)) (is.held cell)
      ∙ ap (filter p) (filter_twice (λ w. not (stands_outside base gone w)) hold site.wanted)
      ∙ filter_twice p (λ w. hold w && not (stands_outside base gone w)) site.wanted
      ∙ filter-same (λ w. (hold w && not (stands_outside base gone w)) && p w)
      (λ w. hold w && (is_taken site lost w && p w))
      (λ w. ap (λ (b : Bool). (hold w && not b) && p w) (outside_held w)
      ∙ ap (λ (b : Bool). b && p w) (kept_on site cell w (not (is_held site lost w.key)))
      ∙ and_behind (hold w) (is_taken site lost w) (p w)) site.wanted
    where
      and_behind : (a b c : Bool) → ((a && b) && c) ≡ (a && (b && c))
      and_behind true b c = refl
      and_behind false b c = refl

  all_cells : (p : Wanted → Bool) (cells : List (List ℕ))
      → filter p (flat_map (λ cell. filter (λ w. not (stands_outside base gone w)) (held_by base cell)) cells)
      ≡ flat_map (λ cell. filter (λ w. does_hold base.site.now cell w && (is_taken base.site.now lost w && p w))
      base.site.now.wanted) cells
  all_cells p [] = refl
  all_cells p (c ∷ cs) =
      let f : List ℕ → List Wanted = λ cell. filter (λ w. not (stands_outside base gone w)) (held_by base cell) in
      let g : List ℕ → List Wanted =
      λ cell. filter (λ w. does_hold base.site.now cell w && (is_taken base.site.now lost w && p w))
      base.site.now.wanted in
      ap (filter p) (flat_map-cons f c cs)
      ∙ filter-append p (f c) (flat_map f cs)
      ∙ (λ i. one_cell p c i ++ all_cells p cs i)
      ∙ sym (flat_map-cons g c cs)

  -- what is found cell by cell is what the loss takes
  pub are_taken : (taken : List Wanted)
      → taken ≡ flat_map (λ cell. filter (λ w. not (stands_outside base gone w)) (held_by base cell))
      (table name_order (λ n. n) lost)
      → AreTaken base.site.now lost taken
  are_taken taken made p =
      let site : Site = base.site.now in
      let names : List (List ℕ) = table name_order (λ n. n) lost in
      let t : Wanted → Bool = λ w. is_taken site lost w && p w in
      let whole : filter p (all_taken site lost)
      ≡ filter (λ w. list_any (λ cell. does_hold site cell w) names && t w) site.wanted =
      filter_twice p (is_taken site lost) site.wanted
      ∙ filter-same t (λ w. list_any (λ cell. does_hold site cell w) names && t w)
      (λ w. and_itself (list_any (λ cell. does_hold site cell w) names) (t w)
      (λ e. taken_there site lost w (and_parts (is_taken site lost w) (p w) e).0)) site.wanted in
      let parts : filter p taken ≡ flat_map (λ cell. filter (λ w. does_hold site cell w && t w) site.wanted) names =
      ap (filter p) made ∙ all_cells p names in
      subst (λ (xs : List Wanted). IsPermutation xs (filter p taken)) (sym whole)
      (subst (IsPermutation (filter (λ w. list_any (λ cell. does_hold site cell w) names && t w) site.wanted))
      (sym parts)
      (by_cells site t names (once_differ lost)))
