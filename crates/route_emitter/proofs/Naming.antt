-- Events name the instances of their rows.
use Rattle.std.proofs.Common.{◌≡◌, ℕ, ◌<◌, ◌≤◌, ◌^◌, ◌⊎◌, inl, inr, Bool, true, false, not, ◌&&◌, ◌||◌, cond, List, [], ◌∷◌, ◌++◌, length, get_or, Option, Some, None, is_some, refl, sym, ap, subst, ◌∙◌, arith}
use Rattle.std.specs.BTreeMap.{is_at}
use Rattle.std.specs.BTreeMap.Range.{range_contains}
use Rattle.std.specs.BTreeSet.{BTreeSet, contains}
use Rattle.std.specs.Cmp.{tied_itself}
use Rattle.std.specs.declared.cmp.Ordering.{Ordering}
use Rattle.std.specs.declared.cmp.Ordering.TheVariants.{Less, Equal, Greater}
use Rattle.std.specs.declared.ops.Bound.TheVariants.{Included}
use Rattle.std.specs.List.{Contains, filter_map, flat_map, list_any}
use Rattle.std.specs.Ordering.{is_eq, is_le, is_lt, nat_cmp, ordering_then}
use Rattle.std.proofs.lemmas.Bool.{or_cases}
use Rattle.std.proofs.lemmas.Bool.Decides.{nat_tests}
use Rattle.std.proofs.lemmas.List.Elements.{Contains-append_left, Contains-append_right, Contains-get_or}
use Rattle.diego_names.specs.Key.{key_order}
use Rattle.diego_names.specs.Order.{name_order}
use Rattle.diego_names.specs.declared.key.Key.{Key}
use Rattle.diego_names.proofs.Public.{IsKeyOrder-key_order, IsKeyOrder-name_order}
use Rattle.row_tables.specs.Table.{table}
use Rattle.row_tables.proofs.Public.{same_from_tie}
use Rattle.bbs_model.specs.declared.event.Event.{Event}
use Rattle.bbs_model.specs.declared.event.Row.{Row}
use Rattle.bbs_model.specs.declared.event.Row.TheVariants as row
use Rattle.route_emitter.specs.Near.{AreNamed, IsIndexed, IsNamed, first_of, is_among, key_in, last_of, of_process, process_in}
use Rattle.route_emitter.proofs.Elements.{Contains-filter_map, Contains-first, Contains-flat_map, Contains-later, found-Contains}
use Rattle.route_emitter.proofs.Lists.{Contains-filter}
use Rattle.route_emitter.proofs.Members.{Contains-table}

-- what a set answers that it has is one of its keys
Contains-any : (ks : List Key) (k : Key) → list_any (is_at (key_order k)) ks ≡ true → Contains ks k
Contains-any [] k h = absurd cc
Contains-any (x ∷ xs) k h =
    elim (or_cases (is_eq (key_order k x)) (list_any (is_at (key_order k)) xs) h) [
      | (inl tie) ↦ subst (λ y. Contains (y ∷ xs) k) (same_from_tie key_order IsKeyOrder-key_order k x tie)
          (Contains-first k xs)
      | (inr later) ↦ Contains-later x k xs (Contains-any xs k later)
    ]

-- no number is below 0, and none of 32 bits is above the last
from-zero : (n : ℕ) → is_le (nat_cmp 0 n) ≡ true
from-zero n = grind (arith, nat_tests)

upto-last : (m n : ℕ) → n ≤ m → is_lt (nat_cmp m n) ≡ false
upto-last m n le = grind (arith, nat_tests)

-- the keys of a process lie between its first and its last
in-range : (key : Key) (process : List ℕ) → key.process ≡ process → key.index < 2 ^ 32
    → range_contains key_order (Included (first_of process)) (Included (last_of process)) key ≡ true
in-range key process same small =
    let tie : name_order process key.process ≡ Equal = ap
    (name_order process) same ∙ tied_itself IsKeyOrder-name_order.total process in
    let first : is_le (key_order (first_of process) key) ≡ true =
    ap (λ c. is_le (ordering_then c (nat_cmp 0 key.index))) tie ∙ from-zero key.index in
    let last : is_lt (key_order (last_of process) key) ≡ false =
    ap (λ c. is_lt (ordering_then c (nat_cmp 4294967295 key.index))) tie ∙ upto-last 4294967295 key.index
    (omega (arith, small)) in
    (λ i. first i && not (last i))

named-row : (indexed : Key → Bool) (named : List Key) (r : Row)
    → ((k : Key) → key_in r ≡ Some k → is_among named k ≡ true)
    → ((p : List ℕ) → process_in r ≡ Some p → (k : Key) → IsIndexed indexed k → k.process ≡ p → is_among named k ≡ true)
    → IsNamed indexed named r
named-row indexed named (row.Desired d) of_key of_process = of_process d.process refl
named-row indexed named (row.Actual a) of_key of_process = of_key a.key refl
named-row indexed named (row.Task t) of_key of_process = tt
named-row indexed named (row.Cell c) of_key of_process = tt
named-row indexed named (row.Domain d) of_key of_process = tt

-- the instances of the actual rows, and those that the index has of the desired rows' processes, are all that is named
pub named-all : (set : BTreeSet Key) (es : List Event) (named : List Key)
    → named ≡ table key_order (λ k. k) (filter_map (λ (e : Event). key_in e.row) es
    ++ flat_map (of_process set.keys) (table name_order (λ p. p) (filter_map (λ (e : Event). process_in e.row) es)))
    → AreNamed (contains key_order set) named es
named-all set es named is i d lt =
    let e = get_or es i d in
    let there = Contains-get_or es i d lt in
    let keys = filter_map (λ (x : Event). key_in x.row) es in
    let names = filter_map (λ (x : Event). process_in x.row) es in
    let more = flat_map (of_process set.keys) (table name_order (λ p. p) names) in
    let among : (k : Key) → Contains (keys ++ more) k → is_among named k ≡ true = λ k h.
    subst (λ ks. is_among ks k ≡ true) (sym is) (found-Contains key_order IsKeyOrder-key_order
    (table key_order (λ x. x) (keys ++ more)) k (Contains-table key_order IsKeyOrder-key_order (keys ++ more) k h))
    in
    named-row (contains key_order set) named e.row
    (λ k one. among k (Contains-append_left keys more k (Contains-filter_map
    (λ (x : Event). key_in x.row) e k es there one)))
    (λ p one k at same.
    let range = range_contains key_order (Included (first_of p)) (Included (last_of p)) in
    let listed : Contains (of_process set.keys p) k = Contains-filter range k set.keys (Contains-any set.keys k at.0)
    (in-range k p same at.1) in
    let process = Contains-table name_order IsKeyOrder-name_order names p
    (Contains-filter_map (λ (x : Event). process_in x.row) e p es there one) in
    among k (Contains-append_right keys more k (Contains-flat_map (of_process set.keys) p k
    (table name_order (λ x. x) names) process listed)))
