-- Groups stay numbered after an item is put, or taken with the last one in its place.
use Rattle.std.proofs.Common.{◌≡◌, ◌≢◌, ℕ, ◌+◌, ◌-◌, ◌<◌, ◌≤◌, Bool, true, false, cond, ◌&&◌, ◌||◌, not, List, length, Option, Some, None, is_some, inl, inr, refl, ap, sym, ◌∙◌, arith}
use Rattle.std.specs.Prelude.{nat_lt}
use Rattle.std.specs.Map.{lookup}
use Rattle.std.specs.Option.{unwrap_or}
use Rattle.std.proofs.lemmas.Bool.{lt-ltb}
use Rattle.std.proofs.lemmas.Bool.Decides.{nat_tests}
use Rattle.watch_lists.proofs.Apart.{TellsApart, TellsApart-numbers, TellsApart-pairs, apart, decide}
use Rattle.watch_lists.proofs.Counting.{count-le}
use Rattle.watch_lists.proofs.Telling.{Moves, Comes-put, Moves-taken, told_come, told_moved}
use Rattle.watch_lists.specs.Groups.{count_by, is_number, is_pair, item_by, number_by, IsNumbered}

pub none_from : {X : Type 0} (o : Option X) → is_some o ≡ false → o ≡ None
none_from None e = refl
none_from (Some x) e = absurd cc

pub some_from : {X : Type 0} (o : Option X) → is_some o ≡ true → (x : X) × (o ≡ Some x)
some_from None e = absurd cc
some_from (Some x) e = (x, refl)

-- a number below the next count is the last, or below the count
below_next : (n m : ℕ) → n ≢ m → nat_lt n m ≡ nat_lt n (m + 1)
below_next n m other = grind (arith, nat_tests)

below_itself : (n : ℕ) → nat_lt n n ≡ false
below_itself n = grind (arith, nat_tests)

-- after a put, each key has this
abbrev pub Puts : {K V : Type 0} → (K → K → Bool) → K → Option V → List (K × V) → List (K × V) → Type 0
Puts {K} eq k v old new = (q : K) → lookup (eq q) new ≡ cond (eq k q) v (lookup (eq q) old)

module _ {C S : Type 0} {eq : C → C → Bool} {same : S → S → Bool} (t : TellsApart eq) (u : TellsApart same)
    (counts : List (C × ℕ)) (items : List ((C × ℕ) × S)) (numbers : List ((C × S) × ℕ))
    (numbered : IsNumbered eq same counts items numbers) where
  -- nothing stands at the count of a group
  free_at : (c : C) (n : ℕ) → n ≡ count_by eq counts c → item_by eq items c n ≡ None
  free_at c n is =
      none_from (item_by eq items c n) (numbered.filled c n ∙ ap (nat_lt n) (sym is) ∙ below_itself n)

  -- an item with a number is below the count
  pub numbered_below : (c : C) (s : S) (n : ℕ) → number_by eq same numbers c s ≡ Some n → n < count_by eq counts c
  numbered_below c s n is =
      let there : nat_lt n (count_by eq counts c) ≡ true =
      sym (numbered.filled c n) ∙ ap is_some (numbered.told c s n is) in
      grind (arith, nat_tests)

  -- each item of a group has a number below its count
  pub listed_from : (c : C) (s : S) → is_some (number_by eq same numbers c s) ≡ true
      → (n : ℕ) × (n < count_by eq counts c) × (item_by eq items c n ≡ Some s)
  listed_from c s there =
      let n = some_from (number_by eq same numbers c s) there in
      (n.0, numbered_below c s n.0 n.1, numbered.told c s n.0 n.1)

  -- a group with an item has a last number
  pub count_is : (c : C) (s : S) (n count : ℕ) → number_by eq same numbers c s ≡ Some n
      → count ≡ count_by eq counts c → count_by eq counts c ≡ (count - 1) + 1
  count_is c s n count first is =
      let below : n < count_by eq counts c = numbered_below c s n first in
      omega (arith, is, below)

  -- the last number of a group with an item has one
  pub last_there : (c : C) (s : S) (n last : ℕ) → number_by eq same numbers c s ≡ Some n
      → count_by eq counts c ≡ last + 1 → is_some (item_by eq items c last) ≡ true
  last_there c s n last first is =
      numbered.filled c last ∙ ap (nat_lt last) is ∙ lt-ltb last (last + 1) (omega arith)

  -- there are at least as many entries as a group has items
  pub few : (c : C) → count_by eq counts c ≤ length items
  few c = count-le t c (count_by eq counts c) items
      (λ k lt. numbered.filled c k ∙ lt-ltb k (count_by eq counts c) lt)

  module _ (counts2 : List (C × ℕ)) (items2 : List ((C × ℕ) × S)) (numbers2 : List ((C × S) × ℕ)) (c0 : C) (s0 : S) (n0 : ℕ) where
    filled_come : n0 ≡ count_by eq counts c0 → Puts (is_number eq) (c0, n0) (Some s0) items items2
        → Puts eq c0 (Some (n0 + 1)) counts counts2
        → (c : C) (n : ℕ) → is_some (item_by eq items2 c n) ≡ nat_lt n (count_by eq counts2 c)
    filled_come last puts counted c n =
        let comes = Comes-put t TellsApart-numbers items items2 c0 n0 s0 puts in
        let pairs = TellsApart-pairs t TellsApart-numbers in
        elim (decide pairs (c, n) (c0, n0)) as (λ _. is_some (item_by eq items2 c n) ≡ nat_lt n (count_by eq counts2 c)) [
          | (inl is) ↦
              let count : count_by eq counts2 c ≡ n0 + 1 = ap (λ (k : C × ℕ). count_by eq counts2 k.0) is
              ∙ ap (λ o. unwrap_or o 0) (counted c0 ∙ ap (λ b. cond b (Some (n0 + 1)) (lookup (eq c0) counts)) (t.itself c0)) in
              let number : n ≡ n0 = ap (λ (k : C × ℕ). k.1) is in
              ap (λ (k : C × ℕ). is_some (item_by eq items2 k.0 k.1)) is ∙ ap is_some comes.here
              ∙ sym (lt-ltb n (count_by eq counts2 c) (omega (arith, count, number)))
          | (inr far) ↦
              ap is_some (comes.other c n far) ∙ numbered.filled c n
              ∙ elim (decide t c0 c) as (λ _. nat_lt n (count_by eq counts c) ≡ nat_lt n (count_by eq counts2 c)) [
                | (inl is) ↦
                    let count : count_by eq counts2 c ≡ n0 + 1 = ap (λ k. count_by eq counts2 k) (sym is)
                    ∙ ap (λ o. unwrap_or o 0) (counted c0
                    ∙ ap (λ b. cond b (Some (n0 + 1)) (lookup (eq c0) counts)) (t.itself c0)) in
                    let was : count_by eq counts c ≡ n0 = ap (λ k. count_by eq counts k) (sym is) ∙ sym last in
                    let other : n ≢ n0 = λ one. far (λ i. (sym is i, one i)) in
                    ap (nat_lt n) was ∙ below_next n n0 other ∙ ap (nat_lt n) (sym count)
                | (inr other) ↦
                    ap (λ o. nat_lt n (unwrap_or o 0)) (sym (counted c
                    ∙ ap (λ b. cond b (Some (n0 + 1)) (lookup (eq c) counts)) (apart t c0 c other)))
              ]
        ]

    pub IsNumbered-come : n0 ≡ count_by eq counts c0 → number_by eq same numbers c0 s0 ≡ None
        → Puts (is_number eq) (c0, n0) (Some s0) items items2 → Puts (is_pair eq same) (c0, s0) (Some n0) numbers numbers2
        → Puts eq c0 (Some (n0 + 1)) counts counts2 → IsNumbered eq same counts2 items2 numbers2
    IsNumbered-come last new puts names counted =
        let here = Comes-put t u numbers numbers2 c0 s0 n0 names in
        let there = Comes-put t TellsApart-numbers items items2 c0 n0 s0 puts in
        record {
          told = told_come t u (number_by eq same numbers) (number_by eq same numbers2) (item_by eq items)
              (item_by eq items2) c0 s0 n0 numbered.told (free_at c0 n0 last) here there;
          back = told_come t TellsApart-numbers (item_by eq items) (item_by eq items2) (number_by eq same numbers)
              (number_by eq same numbers2) c0 n0 s0 numbered.back new there here;
          filled = filled_come last puts counted;
        }

  module _ (counts2 : List (C × ℕ)) (items2 items3 : List ((C × ℕ) × S)) (numbers2 numbers3 : List ((C × S) × ℕ)) (c0 : C) (s0 s1 : S)
      (n0 n1 : ℕ) where
    filled_moved : count_by eq counts c0 ≡ n1 + 1 → n0 < n1 + 1 → Moves (item_by eq items) (item_by eq items3) c0 n1 n0 s1
        → ((c : C) → count_by eq counts2 c ≡ cond (eq c0 c) n1 (count_by eq counts c))
        → (c : C) (n : ℕ) → is_some (item_by eq items3 c n) ≡ nat_lt n (count_by eq counts2 c)
    filled_moved last below moves counted c n =
        let pairs = TellsApart-pairs t TellsApart-numbers in
        let here : count_by eq counts2 c0 ≡ n1 =
        counted c0 ∙ ap (λ b. cond b n1 (count_by eq counts c0)) (t.itself c0) in
        elim (decide pairs (c, n) (c0, n1)) as (λ _. is_some (item_by eq items3 c n) ≡ nat_lt n (count_by eq counts2 c)) [
          | (inl is) ↦
              ap (λ (k : C × ℕ). is_some (item_by eq items3 k.0 k.1)) is ∙ ap is_some moves.none
              ∙ sym (ap (λ (k : C × ℕ). nat_lt k.1 (count_by eq counts2 k.0)) is ∙ ap (nat_lt n1) here ∙ below_itself n1)
          | (inr far) ↦
              elim (decide pairs (c, n) (c0, n0)) as (λ _. is_some (item_by eq items3 c n) ≡ nat_lt n (count_by eq counts2 c)) [
                | (inl is) ↦
                    let other : n0 ≢ n1 = λ one. far (is ∙ ap (λ (k : ℕ). (c0, k)) one) in
                    ap (λ (k : C × ℕ). is_some (item_by eq items3 k.0 k.1)) is ∙ ap is_some (moves.some other)
                    ∙ sym (ap (λ (k : C × ℕ). nat_lt k.1 (count_by eq counts2 k.0)) is ∙ ap (nat_lt n0) here
                    ∙ lt-ltb n0 n1 (omega (arith, below, other)))
                | (inr apart_too) ↦
                    ap is_some (moves.other c n far apart_too) ∙ numbered.filled c n
                    ∙ elim (decide t c0 c) as (λ _. nat_lt n (count_by eq counts c) ≡ nat_lt n (count_by eq counts2 c)) [
                      | (inl is) ↦
                          let count : count_by eq counts2 c ≡ n1 = ap (λ k. count_by eq counts2 k) (sym is) ∙ here in
                          let was : count_by eq counts c ≡ n1 + 1 = ap (λ k. count_by eq counts k) (sym is) ∙ last in
                          let other : n ≢ n1 = λ one. far (λ i. (sym is i, one i)) in
                          ap (nat_lt n) was ∙ sym (below_next n n1 other) ∙ ap (nat_lt n) (sym count)
                      | (inr other) ↦
                          ap (nat_lt n) (sym (counted c ∙ ap (λ b. cond b n1 (count_by eq counts c)) (apart t c0 c other)))
                    ]
              ]
        ]

    pub IsNumbered-moved : count_by eq counts c0 ≡ n1 + 1 → number_by eq same numbers c0 s0 ≡ Some n0
        → item_by eq items c0 n1 ≡ Some s1
        → Puts (is_number eq) (c0, n0) (Some s1) items items2 → Puts (is_number eq) (c0, n1) None items2 items3
        → Puts (is_pair eq same) (c0, s1) (Some n0) numbers numbers2 → Puts (is_pair eq same) (c0, s0) None numbers2 numbers3
        → ((c : C) → count_by eq counts2 c ≡ cond (eq c0 c) n1 (count_by eq counts c))
        → IsNumbered eq same counts2 items3 numbers3
    IsNumbered-moved last first end writes takes names unnames counted =
        let here = Moves-taken t u numbers numbers2 numbers3 c0 s0 s1 n0 names unnames in
        let there = Moves-taken t TellsApart-numbers items items2 items3 c0 n1 n0 s1 writes takes in
        let below : n0 < count_by eq counts c0 = numbered_below c0 s0 n0 first in
        record {
          told = told_moved t u (number_by eq same numbers) (number_by eq same numbers3) (item_by eq items)
              (item_by eq items3) c0 s0 s1 n0 n1 numbered.told first end here there;
          back = told_moved t TellsApart-numbers (item_by eq items) (item_by eq items3) (number_by eq same numbers)
              (number_by eq same numbers3) c0 n1 n0 s1 s0 numbered.back end first there here;
          filled = filled_moved last (omega (arith, below, last)) there counted;
        }

-- a count that isn't 0 stands beside its group
pub counted : (o : Option ℕ) (n : ℕ) → unwrap_or o 0 ≡ n + 1 → is_some o ≡ true
counted None n e = absurd (omega (arith, e))
counted (Some m) n e = refl

-- who is in a group after an item is put
pub is_in-put : {K V : Type 0} (eq : K → K → Bool) (k : K) (v : V) (old new : List (K × V)) → Puts eq k (Some v) old new
    → (q : K) → is_some (lookup (eq q) new) ≡ (eq k q || is_some (lookup (eq q) old))
is_in-put eq k v old new puts q =
    ap is_some (puts q) ∙ elim (eq k q) as (λ (b : Bool). is_some (cond b (Some v) (lookup (eq q) old))
    ≡ (b || is_some (lookup (eq q) old))) [ true ↦ refl | false ↦ refl ]

-- and after one is taken, where the value of another was written over
pub is_in-taken : {K V : Type 0} (eq : K → K → Bool) (k j : K) (v : V) (old mid new : List (K × V))
    → ((q : K) → eq j q ≡ true → is_some (lookup (eq q) old) ≡ true)
    → Puts eq j (Some v) old mid → Puts eq k None mid new
    → (q : K) → is_some (lookup (eq q) new) ≡ (not (eq k q) && is_some (lookup (eq q) old))
is_in-taken eq k j v old mid new known writes takes q =
    ap is_some (takes q) ∙ elim (eq k q) as (λ (b : Bool). is_some (cond b None (lookup (eq q) mid))
    ≡ (not b && is_some (lookup (eq q) old))) [
      | true ↦ refl
      | false ↦ ap is_some (writes q) ∙ elim (eq j q) as (λ (b : Bool). eq j q ≡ b
          → is_some (cond b (Some v) (lookup (eq q) old)) ≡ is_some (lookup (eq q) old)) [
            | true ↦ λ is. sym (known q is)
            | false ↦ λ is. refl
          ] refl
    ]
