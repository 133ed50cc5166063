-- What becomes of sorted entries when some are taken out or put in.
use Rattle.std.proofs.Common.{◌≡◌, Bool, true, false, not, ◌&&◌, ◌||◌, cond, List, [], ◌∷◌, ◌++◌, Option, Some, None, is_some, refl, sym, ap, ◌∙◌}
use Rattle.std.specs.Prelude.{filter}
use Rattle.std.specs.Ordering.{eq_by_cmp}
use Rattle.std.specs.Cmp.{both_ways}
use Rattle.std.specs.List.{Contains}
use Rattle.std.proofs.lemmas.Bool.{and_from, and_parts}
use Rattle.diego_names.specs.declared.key.Key.{Key}
use Rattle.lrp_records.specs.declared.actual.Actual.{Actual}
use Rattle.lrp_records.specs.declared.desired.Desired.{Desired}
use Rattle.row_tables.specs.Table.{find_row, IsRising, put_row, table, without_row}
use Rattle.row_tables.proofs.Public.{find_row-put_row, find_row-table, find_row-without_row, IsRising-put_row, IsRising-without_row}
use Rattle.route_emitter.specs.Entries.{has, itself, minus, route_order}
use Rattle.route_emitter.specs.Near.{AreApart, IsSwitched, KeepsOthers, is_among, key_of, toggle, toggle_each}
use Rattle.route_emitter.specs.declared.entry.RouteEntry.{RouteEntry}
use Rattle.route_emitter.proofs.Filters.{IsRising-filter}
use Rattle.route_emitter.proofs.Lists.{Contains-filter, Contains-from_filter, Contains-has, has-Contains}
use Rattle.route_emitter.proofs.Members.{same_members}
use Rattle.route_emitter.proofs.Order.{IsKeyOrder-route_order}

-- sorted entries with the same members are one list
pub same_has : (xs ys : List RouteEntry) → IsRising route_order itself xs → IsRising route_order itself ys
    → ((e : RouteEntry) → has xs e ≡ has ys e) → xs ≡ ys
same_has xs ys f g same =
    same_members route_order itself IsKeyOrder-route_order xs ys f g
    (λ e h. Contains-has ys e (sym (same e) ∙ has-Contains xs e h))
    (λ e h. Contains-has xs e (same e ∙ has-Contains ys e h))

some-either : {X : Type 0} (b : Bool) (x : X) (o : Option X) → is_some (cond b (Some x) o) ≡ cond b true (is_some o)
some-either true x o = refl
some-either false x o = refl

some-unless : {X : Type 0} (b : Bool) (o : Option X) → is_some (cond b None o) ≡ cond b false (is_some o)
some-unless true o = refl
some-unless false o = refl

pub has-cons : (c : RouteEntry) (cs : List RouteEntry) (e : RouteEntry)
    → has (c ∷ cs) e ≡ cond (eq_by_cmp route_order e c) true (has cs e)
has-cons c cs e = some-either (eq_by_cmp route_order e c) c (find_row route_order itself e cs)

either-or : (b c d : Bool) → cond b true (c || d) ≡ (cond b true c || d)
either-or true c d = refl
either-or false c d = refl

pub has-append : (xs ys : List RouteEntry) (e : RouteEntry) → has (xs ++ ys) e ≡ (has xs e || has ys e)
has-append [] ys e = refl
has-append (x ∷ xs) ys e =
    let tie = eq_by_cmp route_order e x in
    has-cons x (xs ++ ys) e ∙ ap (λ b. cond tie true b) (has-append xs ys e) ∙ either-or tie (has xs e) (has ys e) ∙ ap
    (λ b. b || has ys e) (sym (has-cons x xs e))

pub has-table : (xs : List RouteEntry) (e : RouteEntry) → has (table route_order itself xs) e ≡ has xs e
has-table xs e = ap is_some (find_row-table route_order itself IsKeyOrder-route_order e xs)

-- what one list has and the other hasn't
pub has-minus : (xs ys : List RouteEntry) (e : RouteEntry) → has (minus xs ys) e ≡ (has xs e && not (has ys e))
has-minus xs ys e =
    let p = λ (x : RouteEntry). not (has ys x) in
    both_ways (has (minus xs ys) e) (has xs e && not (has ys e))
    (λ h. let both = Contains-from_filter p e xs (Contains-has (minus xs ys) e h) in
    and_from (has xs e) (not (has ys e)) (has-Contains xs e both.0) both.1)
    (λ h. let both = and_parts (has xs e) (not (has ys e)) h in
    has-Contains (minus xs ys) e (Contains-filter p e xs (Contains-has xs e both.0) both.1))

pub IsRising-minus : (xs ys : List RouteEntry) → IsRising route_order itself xs
    → IsRising route_order itself (minus xs ys)
IsRising-minus xs ys h = IsRising-filter route_order itself (λ (x : RouteEntry). not (has ys x)) xs h

-- one entry in or out
pub has-toggle : (c : RouteEntry) (xs : List RouteEntry) (e : RouteEntry)
    → has (toggle c xs) e ≡ cond (eq_by_cmp route_order e c) (not (has xs c)) (has xs e)
has-toggle c xs e =
    let tie = eq_by_cmp route_order e c in
    elim (has xs c) as (λ b. has (cond b (without_row route_order itself c xs) (put_row route_order itself c xs)) e
    ≡ cond tie (not b) (has xs e)) [
      | true ↦ ap is_some (find_row-without_row route_order itself IsKeyOrder-route_order e c xs) ∙ some-unless tie
          (find_row route_order itself e xs)
      | false ↦ ap is_some (find_row-put_row route_order itself IsKeyOrder-route_order e c xs) ∙ some-either tie c
          (find_row route_order itself e xs)
    ]

pub IsRising-toggle : (c : RouteEntry) (xs : List RouteEntry) → IsRising route_order itself xs
    → IsRising route_order itself (toggle c xs)
IsRising-toggle c xs h =
    elim (has xs c) as (λ b. IsRising route_order itself (cond b (without_row route_order itself c xs)
    (put_row route_order itself c xs))) [
      | true ↦ IsRising-without_row route_order itself c xs h
      | false ↦ IsRising-put_row route_order itself IsKeyOrder-route_order c xs h
    ]

pub IsRising-toggle_each : (cs xs : List RouteEntry) → IsRising route_order itself xs
    → IsRising route_order itself (toggle_each cs xs)
IsRising-toggle_each [] xs h = h
IsRising-toggle_each (c ∷ cs) xs h = IsRising-toggle_each cs (toggle c xs) (IsRising-toggle c xs h)

-- what one list has of another's lack isn't lacked the other way round
apart_one : (x y : Bool) → (x && not y) ≡ true → (y && not x) ≡ false
apart_one true true h = absurd cc
apart_one true false h = refl
apart_one false y h = absurd cc

pub minus-apart : (xs ys : List RouteEntry) → IsRising route_order itself xs → IsRising route_order itself ys
    → AreApart (minus xs ys) (minus ys xs)
minus-apart xs ys f g = record {
  comes_rise = IsRising-minus xs ys f;
  goes_rise = IsRising-minus ys xs g;
  apart = λ e h. has-minus ys xs e ∙ apart_one (has xs e) (has ys e) (sym (has-minus xs ys e) ∙ h);
}

-- what is among the named and in one table alone, for one entry
told : (n t u : Bool) → (n ≡ false → t ≡ u) → ((n && u) && not (n && t)) ≡ (u && not t)
told true t u other = refl
told false true u other = ap (λ b. b && false) (other refl)
told false false u other = ap (λ b. b && true) (other refl)

settled : (n t u : Bool) → (n ≡ false → t ≡ u) → cond (((n && u) && not (n && t)) || ((n && t) && not (n && u)))
    (not t) t ≡ u
settled true true true other = refl
settled true true false other = refl
settled true false true other = refl
settled true false false other = refl
settled false t u other = other refl

-- Two tables that differ in the entries of named instances alone, and what either has of these.
module _ (named : List Key) (old new before after : List RouteEntry) (was : IsRising route_order itself old)
    (is : IsRising route_order itself new)
    (first : IsRising route_order itself before) (last : IsRising route_order itself after)
    (of_old : (e : RouteEntry) → has before e ≡ (is_among named (key_of e) && has old e))
    (of_new : (e : RouteEntry) → has after e ≡ (is_among named (key_of e) && has new e))
    (others : KeepsOthers named old new) where
  -- what comes and what goes is told by them
  pub comes_is : minus after before ≡ minus new old
  comes_is =
      same_has (minus after before) (minus new old) (IsRising-minus after before last) (IsRising-minus new old is)
      (λ e. has-minus after before e ∙ (λ i. of_new e i && not (of_old e i)) ∙ told (is_among named (key_of e))
      (has old e) (has new e) (others e) ∙ sym (has-minus new old e))

  pub goes_is : minus before after ≡ minus old new
  goes_is =
      same_has (minus before after) (minus old new) (IsRising-minus before after first) (IsRising-minus old new was)
      (λ e. has-minus before after e ∙ (λ i. of_old e i && not (of_new e i)) ∙ told (is_among named (key_of e))
      (has new e) (has old e) (λ n. sym (others e n)) ∙ sym (has-minus old new e))

  -- and makes one of the other
  pub table_is : (changed : List RouteEntry) → IsSwitched (minus after before) (minus before after) old changed
      → changed ≡ new
  table_is changed switched =
      same_has changed new switched.rising is
      (λ e.
      let n = is_among named (key_of e) in
      let among : (has (minus after before) e || has (minus before after) e)
      ≡ (((n && has new e) && not (n && has old e)) || ((n && has old e) && not (n && has new e))) =
      (λ i. has-minus after before e i || has-minus before after e i) ∙
      (λ i. (of_new e i && not (of_old e i)) || (of_old e i && not (of_new e i))) in
      switched.each e ∙ ap (λ b. cond b (not (has old e)) (has old e)) among ∙ settled n (has old e) (has new e)
      (others e))
