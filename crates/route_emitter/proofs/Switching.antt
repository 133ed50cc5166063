-- Entries that are taken in and out, as often as they stand in lists.
use Rattle.std.proofs.Common.{◌≡◌, ℕ, zero, suc, ◌+◌, ◌<◌, ◌≤◌, Bool, true, false, not, ◌||◌, cond, List, [], ◌∷◌, ◌++◌, length, take, drop, get_or, is_some, refl, sym, ap, subst, ◌∙◌, arith}
use Rattle.std.specs.Ordering.{eq_by_cmp}
use Rattle.std.proofs.lemmas.List.{length-take-le, take-append-drop}
use Rattle.row_tables.specs.Table.{IsRising, table}
use Rattle.row_tables.proofs.Public.{IsRising-table, IsRising-tail, same_from_tie}
use Rattle.route_emitter.specs.Entries.{has, itself, route_order}
use Rattle.route_emitter.specs.Near.{AreApart, IsSwitched, exchange_each, toggle, toggle_each}
use Rattle.route_emitter.specs.declared.entry.RouteEntry.{RouteEntry}
use Rattle.route_emitter.proofs.Changes.{IsRising-toggle, IsRising-toggle_each, has-append, has-cons, has-table, has-toggle}
use Rattle.route_emitter.proofs.Filters.{none_behind}
use Rattle.route_emitter.proofs.Order.{IsKeyOrder-route_order}
use Rattle.route_emitter.proofs.Passing.{IsRising-drop}

-- one or the other, and not both
abbrev flip : Bool → Bool → Bool
flip a b = cond a (not b) b

flip-assoc : (a b c : Bool) → flip (flip a b) c ≡ flip a (flip b c)
flip-assoc true true true = refl
flip-assoc true true false = refl
flip-assoc true false c = refl
flip-assoc false b c = refl

flip-comm : (a b : Bool) → flip a b ≡ flip b a
flip-comm true true = refl
flip-comm true false = refl
flip-comm false true = refl
flip-comm false false = refl

-- what stands in the middle changes places
flip-middle : (a b c d : Bool) → flip (flip a b) (flip c d) ≡ flip (flip a c) (flip b d)
flip-middle a b c d =
    flip-assoc a b (flip c d)
    ∙ ap (flip a) (sym (flip-assoc b c d) ∙ ap (λ x. flip x d) (flip-comm b c) ∙ flip-assoc c b d)
    ∙ sym (flip-assoc a c (flip b d))

-- whether the entry stands in the list an odd number of times
abbrev flips : List RouteEntry → RouteEntry → Bool
flips [] e = false
flips (c ∷ cs) e = flip (eq_by_cmp route_order e c) (flips cs e)

flips-append : (xs ys : List RouteEntry) (e : RouteEntry) → flips (xs ++ ys) e ≡ flip (flips xs e) (flips ys e)
flips-append [] ys e = refl
flips-append (x ∷ xs) ys e = ap (flip (eq_by_cmp route_order e x)) (flips-append xs ys e) ∙ sym
    (flip-assoc (eq_by_cmp route_order e x) (flips xs e) (flips ys e))

-- in sorted entries each stands once
flips-rising : (xs : List RouteEntry) (e : RouteEntry) → IsRising route_order itself xs → flips xs e ≡ has xs e
flips-rising [] e h = refl
flips-rising (x ∷ xs) e h =
    let rest = flips-rising xs e (IsRising-tail route_order itself x xs h) in
    elim (eq_by_cmp route_order e x) as (λ b. eq_by_cmp route_order e x ≡ b → flip b (flips xs e) ≡ has (x ∷ xs) e) [
      | true ↦ λ tie.
          let none : has xs e ≡ false = ap is_some (none_behind route_order itself IsKeyOrder-route_order e x xs h tie)
          in
          ap not (rest ∙ none) ∙ sym (has-cons x xs e ∙ ap (λ b. cond b true (has xs e)) tie)
      | false ↦ λ tie. rest ∙ sym (has-cons x xs e ∙ ap (λ b. cond b true (has xs e)) tie)
    ] refl

has-toggled : (c : RouteEntry) (xs : List RouteEntry) (e : RouteEntry)
    → has (toggle c xs) e ≡ flip (eq_by_cmp route_order e c) (has xs e)
has-toggled c xs e =
    has-toggle c xs e ∙ elim (eq_by_cmp route_order e c) as
    (λ b. eq_by_cmp route_order e c ≡ b → cond b (not (has xs c)) (has xs e) ≡ flip b (has xs e)) [
      | true ↦ λ tie. ap (λ x. not (has xs x)) (sym (same_from_tie route_order IsKeyOrder-route_order e c tie))
      | false ↦ λ tie. refl
    ] refl

has-toggled_each : (cs xs : List RouteEntry) (e : RouteEntry) → has (toggle_each cs xs) e ≡ flip (flips cs e) (has xs e)
has-toggled_each [] xs e = refl
has-toggled_each (c ∷ cs) xs e =
    let tie = eq_by_cmp route_order e c in
    has-toggled_each cs (toggle c xs) e ∙ ap (flip (flips cs e)) (has-toggled c xs e) ∙ sym
    (flip-assoc (flips cs e) tie (has xs e))
    ∙ ap (λ b. flip b (has xs e)) (flip-comm (flips cs e) tie)

-- the same for pairs, of which one goes and one comes
has-exchanged : (os ns xs : List RouteEntry) (e : RouteEntry) → length os ≡ length ns
    → has (exchange_each os ns xs) e ≡ flip (flip (flips ns e) (flips os e)) (has xs e)
has-exchanged [] [] xs e same = refl
has-exchanged [] (n ∷ ns) xs e same = absurd (omega (arith, same))
has-exchanged (o ∷ os) [] xs e same = absurd (omega (arith, same))
has-exchanged (o ∷ os) (n ∷ ns) xs e same =
    let go = eq_by_cmp route_order e o in
    let come = eq_by_cmp route_order e n in
    has-exchanged os ns (toggle n (toggle o xs)) e (omega (arith, same))
    ∙ ap (flip (flip (flips ns e) (flips os e))) (has-toggled n (toggle o xs) e ∙ ap (flip come)
    (has-toggled o xs e) ∙ sym (flip-assoc come go (has xs e)))
    ∙ sym (flip-assoc (flip (flips ns e) (flips os e)) (flip come go) (has xs e))
    ∙ ap (λ b. flip b (has xs e)) (flip-middle (flips ns e) (flips os e) come go ∙
    (λ i. flip (flip-comm (flips ns e) come i) (flip-comm (flips os e) go i)))

pub IsRising-exchanged : (os ns xs : List RouteEntry) → IsRising route_order itself xs
    → IsRising route_order itself (exchange_each os ns xs)
IsRising-exchanged [] ns xs h = h
IsRising-exchanged (o ∷ os) [] xs h = h
IsRising-exchanged (o ∷ os) (n ∷ ns) xs h = IsRising-exchanged os ns (toggle n (toggle o xs))
    (IsRising-toggle n (toggle o xs) (IsRising-toggle o xs h))

-- one pair more
pub exchanged-more : (os ns xs : List RouteEntry) (i : ℕ) (o n : RouteEntry) → i < length os → i < length ns
    → o ≡ get_or os i o → n ≡ get_or ns i n
    → exchange_each (take (i + 1) os) (take (i + 1) ns) xs
    ≡ toggle n (toggle o (exchange_each (take i os) (take i ns) xs))
exchanged-more [] ns xs i o n low high old new = absurd (omega (arith, low))
exchanged-more (x ∷ os) [] xs i o n low high old new = absurd (omega (arith, high))
exchanged-more (x ∷ os) (y ∷ ns) xs zero o n low high old new = λ k. toggle (sym new k) (toggle (sym old k) xs)
exchanged-more (x ∷ os) (y ∷ ns) xs (suc i) o n low high old new =
    let next : suc i + 1 ≡ suc (i + 1) = omega arith in
    ap (λ k. exchange_each (take k (x ∷ os)) (take k (y ∷ ns)) xs) next
    ∙ exchanged-more os ns (toggle y (toggle x xs)) i o n (omega (arith, low)) (omega (arith, high)) old new

-- either of two that are not both is one of them alone
or-apart : (b d : Bool) → (b ≡ true → d ≡ false) → (b || d) ≡ flip b d
or-apart true d apart = sym (ap not (apart refl))
or-apart false d apart = refl

or-true : (b : Bool) → (b || true) ≡ true
or-true true = refl
or-true false = refl

later-has : (xs : List RouteEntry) (n : ℕ) (e : RouteEntry) → has (drop n xs) e ≡ true → has xs e ≡ true
later-has xs n e h =
    ap (λ ys. has ys e) (sym (take-append-drop n xs)) ∙ has-append (take n xs) (drop n xs) e ∙ ap
    (λ b. has (take n xs) e || b) h ∙ or-true (has (take n xs) e)

length-both : (xs ys : List RouteEntry) (n : ℕ) → n ≤ length xs → n ≤ length ys
    → length (take n xs) ≡ length (take n ys)
length-both xs ys n le le_too = length-take-le n xs le ∙ sym (length-take-le n ys le_too)

-- the first pairs of what goes and what comes are exchanged, and the rest is taken in and out: so each is
pub switched : (comes goes old : List RouteEntry) → AreApart comes goes → IsRising route_order itself old → (n : ℕ)
    → n ≤ length goes → n ≤ length comes
    → IsSwitched comes goes old (toggle_each (table route_order itself (drop n comes ++ drop n goes))
    (exchange_each (take n goes) (take n comes) old))
switched comes goes old lists rising n in_goes in_comes =
    let first = exchange_each (take n goes) (take n comes) old in
    let later = drop n comes ++ drop n goes in
    let changes = table route_order itself later in
    record {
      rising = IsRising-toggle_each changes first (IsRising-exchanged (take n goes) (take n comes) old rising);
      each = λ e.
          let a = flips (take n comes) e in
          let b = flips (drop n comes) e in
          let c = flips (take n goes) e in
          let d = flips (drop n goes) e in
          let t = has old e in
          let late = flips-rising (drop n comes) e (IsRising-drop n comes lists.comes_rise) in
          let late_too = flips-rising (drop n goes) e (IsRising-drop n goes lists.goes_rise) in
          let apart : b ≡ true → d ≡ false = λ h.
          elim d as (λ x. d ≡ x → x ≡ false) [
            | true ↦ λ is. sym (later-has goes n e (sym late_too ∙ is)) ∙ lists.apart e
                (later-has comes n e (sym late ∙ h))
            | false ↦ λ is. refl
          ] refl in
          let of_later : flips changes e ≡ flip b d =
          flips-rising changes e (IsRising-table route_order itself IsKeyOrder-route_order later) ∙ has-table later e ∙
          has-append (drop n comes) (drop n goes) e
          ∙ (λ i. sym late i || sym late_too i) ∙ or-apart b d apart in
          let of_comes : flip a b ≡ has comes e =
          sym (flips-append (take n comes) (drop n comes) e) ∙ ap (λ xs. flips xs e)
          (take-append-drop n comes) ∙ flips-rising comes e lists.comes_rise in
          let of_goes : flip c d ≡ has goes e =
          sym (flips-append (take n goes) (drop n goes) e) ∙ ap (λ xs. flips xs e)
          (take-append-drop n goes) ∙ flips-rising goes e lists.goes_rise in
          has-toggled_each changes first e
          ∙ (λ i. flip (of_later i) (has-exchanged (take n goes) (take n comes) old e
          (length-both goes comes n in_goes in_comes) i))
          ∙ sym (flip-assoc (flip b d) (flip a c) t)
          ∙ ap (λ x. flip x t) (flip-middle b d a c ∙ (λ i. flip (flip-comm b a i) (flip-comm d c i)) ∙
          (λ i. flip (of_comes i) (of_goes i)) ∙ sym (or-apart (has comes e) (has goes e) (lists.apart e)));
    }
