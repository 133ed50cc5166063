-- What is kept of the rows that were read, with one row more.
use Rattle.std.proofs.Common.{◌≡◌, ℕ, ◌+◌, ◌≤◌, Bool, true, false, ◌&&◌, not, List, [], ◌∷◌, ◌++◌, length, nat_eq, Option, Some, None, sum_by, refl, sym, ap, ◌∙◌, arith}
use Rattle.std.specs.Prelude.{◌||◌}
use Rattle.std.specs.BTreeMap.{is_at}
use Rattle.std.specs.BTreeSet.{BTreeSet, contains}
use Rattle.std.specs.declared.cmp.Ordering.{Ordering}
use Rattle.std.specs.declared.cmp.Ordering.TheVariants.{Less, Equal, Greater}
use Rattle.std.specs.List.{list_any}
use Rattle.std.specs.Option.{option_map_or}
use Rattle.std.specs.Ordering.{is_lt, nat_cmp}
use Rattle.std.proofs.lemmas.List.Folds.{list_all-append, list_any-append}
use Rattle.std.proofs.lemmas.List.Sums.{sum_by_push}
use Rattle.row_tables.specs.Table.{IsKeyOrder}
use Rattle.bbs_model.specs.Limits.{most_wanted}
use Rattle.head_codec.specs.Head.{Keeps, is_above, is_stamped, is_fresh, has_room, may_follow}
use Rattle.head_codec.specs.Seen.{is_above_last, IsSeen}
use Rattle.head_codec.proofs.Followers.{less_from, from_room}
use Rattle.head_codec.proofs.Pushes.{both_true, true_both}

and_false : (b : Bool) → b && false ≡ false
and_false true = refl
and_false false = refl

either_way : (a b : Bool) → (a || b) ≡ (b || a)
either_way true true = refl
either_way true false = refl
either_way false true = refl
either_way false false = refl

module _ {K X : Type 0} (R : K → K → Ordering) (key : X → K) (o : IsKeyOrder R) where
  -- what is above a row is above all that this one is above
  above_more : (rows : List X) (row x : X) → is_above R key rows row ≡ true → R (key row) (key x) ≡ Less
      → is_above R key rows x ≡ true
  above_more [] row x e less = refl
  above_more (y ∷ ys) row x e less =
      let parts = both_true (is_lt (R (key y) (key row))) (is_above R key ys row) e in
      let first : R (key y) (key x) ≡ Less = o.total.trans (key y) (key row) (key x)
      (less_from (R (key y) (key row)) parts.0) less in
      true_both (is_lt (R (key y) (key x))) (is_above R key ys x) (ap is_lt first) (above_more ys row x parts.1 less)

  above_push : (rows : List X) (row x : X) → is_above R key rows row ≡ true
      → is_above R key (rows ++ row ∷ []) x ≡ is_above_last R key (Some row) x
  above_push rows row x e = list_all-append (λ y. is_lt (R (key y) (key x))) rows (row ∷ []) ∙ by
      (R (key row) (key x)) refl
    where
      by : (c : Ordering) → R (key row) (key x) ≡ c → is_above R key rows x && (is_lt (R (key row) (key x)) && true)
          ≡ is_lt (R (key row) (key x))
      by Less p = ap (λ c. is_above R key rows x && (is_lt c && true)) p ∙ ap (λ b. b && true)
          (above_more rows row x e p) ∙ sym (ap is_lt p)
      by Equal p = ap (λ c. is_above R key rows x && (is_lt c && true)) p ∙ and_false (is_above R key rows x) ∙ sym
          (ap is_lt p)
      by Greater p = ap (λ c. is_above R key rows x && (is_lt c && true)) p ∙ and_false (is_above R key rows x) ∙ sym
          (ap is_lt p)

  stamped_push : (stamp : Option (X → ℕ)) (rows : List X) (row : X) (n : ℕ)
      → is_stamped stamp n (rows ++ row ∷ []) ≡ (is_stamped stamp n (row ∷ []) || is_stamped stamp n rows)
  stamped_push None rows row n = refl
  stamped_push (Some f) rows row n = list_any-append (λ x. nat_eq (f x) n) rows (row ∷ []) ∙ either_way
      (list_any (λ x. nat_eq (f x) n) rows) (nat_eq (f row) n || false)

  pub IsSeen-push : (keeps : Keeps X) (rows : List X) (row : X) (last : Option X) (wanted more : ℕ)
      (stamps noted : BTreeSet ℕ)
      → IsSeen R key keeps rows last wanted stamps → is_above R key rows row ≡ true → more ≡ wanted + keeps.wants row
      → more ≤ most_wanted
      → ((n : ℕ) → contains nat_cmp noted n ≡ (is_stamped keeps.stamp n (row ∷ []) || contains nat_cmp stamps n))
      → IsSeen R key keeps (rows ++ row ∷ []) (Some row) more noted
  IsSeen-push keeps rows row last wanted more stamps noted seen above sum few note = record {
    above = λ x. above_push rows row x above;
    sum = omega (arith, sum, seen.sum, sum_by_push keeps.wants rows row);
    few = few;
    stamped = λ n. note n ∙ ap (λ b. is_stamped keeps.stamp n (row ∷ []) || b) (seen.stamped n) ∙ sym
        (stamped_push keeps.stamp rows row n);
  }

-- the row is fresh where its number was not noted
pub fresh_noted : {X : Type 0} (stamp : Option (X → ℕ)) (rows : List X) (row : X) (stamps : BTreeSet ℕ)
    → ((n : ℕ) → contains nat_cmp stamps n ≡ is_stamped stamp n rows)
    → option_map_or (λ f. not (contains nat_cmp stamps (f row))) stamp true ≡ is_fresh stamp rows row
fresh_noted None rows row stamps h = refl
fresh_noted (Some f) rows row stamps h = ap not (h (f row))

-- nothing is kept of no rows
pub IsSeen-nil : {K X : Type 0} (R : K → K → Ordering) (key : X → K) (keeps : Keeps X) (stamps : BTreeSet ℕ)
    → stamps.keys ≡ [] → IsSeen R key keeps [] None 0 stamps
IsSeen-nil R key keeps stamps none = record {
  above = λ row. refl;
  sum = refl;
  few = omega arith;
  stamped = λ n. ap (λ (ks : List ℕ). list_any (is_at (nat_cmp n)) ks) none ∙ no_stamp keeps.stamp n;
}
  where
    no_stamp : {Y : Type 0} (stamp : Option (Y → ℕ)) (n : ℕ) → false ≡ is_stamped stamp n []
    no_stamp None n = refl
    no_stamp (Some f) n = refl

module _ {K X : Type 0} (R : K → K → Ordering) (key : X → K) (keeps : Keeps X) (next : ℕ) (rows items : List X)
    (row : X) (same : items ≡ rows) (yes : Bool)
    (is : yes ≡ ((is_above R key items row && has_room keeps items row) && keeps.suits next row)) where
  at_rows : yes ≡ ((is_above R key rows row && has_room keeps rows row) && keeps.suits next row)
  at_rows = is ∙ ap (λ xs. (is_above R key xs row && has_room keeps xs row) && keeps.suits next row) same

  -- a row that may not stand there for another cause than its number
  pub follows_not : yes ≡ false → false ≡ may_follow R key keeps next rows row
  unfolding may_follow
  follows_not never = ap (λ b. b && is_fresh keeps.stamp rows row) (sym never ∙ at_rows)

  -- and one that may if its number is fresh
  pub follows_fresh : yes ≡ true → (fresh : Bool) → fresh ≡ is_fresh keeps.stamp rows row
      → fresh ≡ may_follow R key keeps next rows row
  unfolding may_follow
  follows_fresh is_so fresh e = e ∙ ap (λ b. b && is_fresh keeps.stamp rows row) (sym is_so ∙ at_rows)

  -- it is above the others, and there is room
  pub follows_parts : yes ≡ true → (is_above R key rows row ≡ true)
      × (sum_by keeps.wants rows + keeps.wants row ≤ most_wanted)
  follows_parts is_so =
      let all = both_true (is_above R key rows row && has_room keeps rows row) (keeps.suits next row)
      (sym at_rows ∙ is_so) in
      let front = both_true (is_above R key rows row) (has_room keeps rows row) all.0 in
      (front.0, (from_room (length rows) keeps.most (sum_by keeps.wants rows + keeps.wants row) front.1).1)
