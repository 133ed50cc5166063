-- All passes, joined into the first, know the whole history.
use Rattle.std.proofs.Common.{◌≡◌, ℕ, zero, suc, ◌-◌, ◌<◌, List, [], ◌∷◌, ◌++◌, length, map, take, drop, get_or, Option, Some, unwrap_or, sym, refl, ap, ◌∙◌, subst, append_assoc, arith}
use mathlib.Core.Option.{some}
use lib.ListN.{get_elem?}
use Rattle.atomic_table.specs.Table.{Me}
use Rattle.atomic_table.specs.Seated.{TableId}
use Rattle.atomic_table.proofs.Lists.{at_map, at_longer, at_last}
use Rattle.ticket_desk.specs.declared.view.View.{View}
use Rattle.ticket_desk.specs.declared.pass.Pass.{Pass}
use Rattle.ticket_desk.specs.Views.{Begins, by_number}
use Rattle.ticket_desk.specs.Steps.{joined_with}
use Rattle.ticket_desk.specs.Passes.{view_of, AreAll, IsClosed}
use Rattle.ticket_desk.specs.Ends.{AreOf, told_of, HasGathered, HasAll, IsLeft}
use Rattle.ticket_desk.proofs.Lists.{each_cons}

pub there : {A : Type 0} (l : List A) (i : ℕ) → i < length l → (a : A) × (get_elem? l i ≡ some a)
there [] i lt = absurd (omega arith)
there (x ∷ xs) zero lt = (x, refl)
there (x ∷ xs) (suc i) lt = there xs i (omega arith)

pub first_and_rest : {A : Type 0} (l rest : List A) (a : A) → 0 < length l → a ≡ get_or l 0 a
    → rest ≡ take 0 l ++ drop 1 l → l ≡ a ∷ rest
first_and_rest [] rest a filled is same = absurd (omega arith)
first_and_rest (x ∷ xs) rest a filled is same = λ k. sym is k ∷ sym same k

module _ {V T O : Type 0} where
  pub all_but_last : (z : TableId) (all rest : List (Pass V T O)) (p : Pass V T O) → all ≡ rest ++ p ∷ [] → AreOf z all
      → AreOf z rest × (p.place.table_id ≡ z)
  all_but_last z all rest p e of = let of' : AreOf z (rest ++ p ∷ []) =
      subst (λ (xs : List (Pass V T O)). AreOf z xs) e of in (
        (λ k q at. of' k q (at_longer rest (p ∷ []) k q at)),
        of' (length rest) p (at_last rest p (length rest) refl),
      )

  pub gathers : (all rest rest' : List (Pass V T O)) (p : Pass V T O) (m m' m'' : Me (Option V) (View T O))
      → rest ≡ rest' ++ p ∷ []
      → m'' ≡ (joined_with m'.0 (view_of p), m'.1) → HasGathered all rest m m' → HasGathered all rest' m m''
  gathers all rest rest' p m m' m'' popped joined before = (
    p ∷ before.0,
    before.1 ∙ ap (λ xs. xs ++ before.0) popped ∙ append_assoc rest' (p ∷ []) before.0,
    joined ∙ ap (λ (x : Me (Option V) (View T O)). (joined_with x.0 (view_of p), x.1)) before.2,
  )

  pub all_gathered : (all rest : List (Pass V T O)) (m m' : Me (Option V) (View T O)) → length rest ≡ 0
      → HasGathered all rest m m'
      → m' ≡ (record m.0 { joined = map told_of all ++ m.0.joined }, m.1)
  all_gathered all [] m m' none_left done = done.2 ∙ ap (λ xs.
      (record m.0 { joined = map told_of xs ++ m.0.joined }, m.1)) (sym done.1)
  all_gathered all (x ∷ xs) m m' none_left done = absurd (omega arith)

  module _ (z : TableId) (p : Pass V T O) (rest : List (Pass V T O)) (all : AreAll z (p ∷ rest)) where
    abbrev whole : View T O
    whole = record (view_of p) { joined = map told_of rest ++ (view_of p).joined }

    told_number : (k : ℕ) (q : Pass V T O) → get_elem? rest k ≡ some q → (told_of q).number ≡ suc k
    told_number k q at = ap (λ (o : Option ℕ). unwrap_or o 0) q.numbered ∙ (all.1 (suc k) q at).number

    told_at : (k : ℕ) (q : Pass V T O) → get_elem? rest k ≡ some q
        → get_elem? (map told_of rest ++ (view_of p).joined) k ≡ some (told_of q)
    told_at k q at = at_longer (map told_of rest) (view_of p).joined k (told_of q) (at_map told_of rest k q at)

    pub has_all : HasAll whole
    has_all = record {
      number_is = p.numbered ∙ ap (λ (k : ℕ). Some k) (all.1 0 p refl).number;
      no_turn = p.idle.no_turn;
      all = λ n pos below.
          let many : (view_of p).given ≡ suc (length rest) = (all.1 0 p refl).given refl in
          let k : ℕ = n - 1 in let next : suc k ≡ n = omega arith in
          let found = there rest k (omega arith) in
          (k, told_of found.0, told_at k found.0 found.1, told_number k found.0 found.1 ∙ next);
    }

    pub others_of : AreOf z rest
    others_of k q at = (all.1 (suc k) q at).desk

    pub closes : (items : V → List T) (origin : V → O) (by : T → ℕ) (start left : V)
        → IsLeft items origin by start whole left → IsClosed items origin by start left (p ∷ rest)
    closes items origin by start left end = record {
      fresh = end.fresh;
      history = end.history;
      source = end.source;
      own = each_cons (λ k q. (view_of q).mine ≡ by_number by k end.fresh) p rest end.own
          (λ k q at. (end.told k (told_of q) (told_at k q at)).0 ∙ ap (λ (n : ℕ). by_number by n end.fresh)
          (told_number k q at));
      seen = each_cons (λ _ q. Begins (view_of q).seen (items left)) p rest end.seen
          (λ k q at. (end.told k (told_of q) (told_at k q at)).1);
      no_others = λ n past. end.no_others n (let many : (view_of p).given ≡ suc (length rest) =
          (all.1 0 p refl).given refl in omega arith);
    }
