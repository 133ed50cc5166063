-- The items of one caller in a stretch of a log, counted behind each place.
use Rattle.std.proofs.Common.{◌≡◌, ◌⊎◌, ℕ, zero, suc, ◌+◌, ◌-◌, ◌<◌, ◌≤◌, Bool, cond, List, [], ◌∷◌, ◌++◌, length, take, drop, Option, Some, None, Result, Ok, Err, refl, sym, ap, ◌∙◌, length-append, arith, inl, inr, ⊎_elim}
use Rattle.std.specs.Prelude.{◌==◌}
use Rattle.std.specs.List.{AllByRecursion, flat_map, slice_get}
use Rattle.std.proofs.lemmas.Bool.{cases_eq, cases_lt, eq-eqb}
use Rattle.std.proofs.lemmas.List.{drop-drop, take-append-drop}
use Rattle.std.proofs.lemmas.List.Elements.{filter-append}
use Rattle.bbs_model.specs.Calls.{by_number, by_of}
use Rattle.bbs_model.specs.declared.command.Command.{Command}
use Rattle.bbs_model.specs.declared.item.Item.{Item}
use Rattle.bbs_model.specs.declared.item.Item.TheVariants.{Done, Doubt}
use Rattle.bbs_model.specs.declared.reply.CallFault.{CallFault}
use Rattle.bbs_model.specs.declared.reply.CallFault.TheVariants as fault
use Rattle.bbs_model.specs.declared.reply.Reply.{Reply}
use Rattle.bbs_model.specs.declared.reply.Reply.TheVariants as reply
use Rattle.bbs_model.specs.declared.rows.Rows.{Rows}
use Rattle.converge_laws.proofs.Public.{inside_first, inside_rest}
use Rattle.scenario_lines.specs.declared.answered.Answered.{Answered}
use Rattle.run_theorem.specs.Answers.{answer_items, board_answer, IsTrueOf, items_if, LieBetween, place_named, TellsIf}
use Rattle.run_theorem.specs.Laws.{IsAnswered}

-- an element within the first so many is there
pub there_taken : {X : Type 0} (xs : List X) (n p : ℕ) → p < n → slice_get (take n xs) p ≡ slice_get xs p
there_taken xs zero p less = absurd (omega (arith, less))
there_taken [] (suc n) p less = refl
there_taken (x ∷ xs) (suc n) zero less = refl
there_taken (x ∷ xs) (suc n) (suc p) less = there_taken xs n p (omega (arith, less))

drop_there : {X : Type 0} (xs : List X) (p : ℕ) (x : X) → slice_get xs p ≡ Some x → drop p xs ≡ x ∷ drop (suc p) xs
drop_there [] p x is = cc (is)
drop_there (y ∷ ys) zero x is = let same : y ≡ x = cc (is) in ap (λ z. z ∷ ys) same
drop_there (y ∷ ys) (suc p) x is = drop_there ys p x is

none_left : {X : Type 0} (xs : List X) → length xs ≡ 0 → xs ≡ []
none_left [] e = refl
none_left (x ∷ xs) e = absurd (omega (arith, e))

module _ (xs : List Item) (by : ℕ) where
  -- the caller's items from a place on
  abbrev pub behind : ℕ → List Item
  behind n = by_number by (drop n xs)

  module _ (n m : ℕ) (low : n ≤ m) where
    abbrev first : List Item
    first = by_number by (take (m - n) (drop n xs))

    both : behind n ≡ first ++ behind m
    both =
        ap (by_number by) (sym (take-append-drop (m - n) (drop n xs)))
        ∙ filter-append (λ (i : Item). by_of i == by) (take (m - n) (drop n xs)) (drop (m - n) (drop n xs))
        ∙ ap (λ (ys : List Item). first ++ by_number by ys) (drop-drop (m - n) n xs ∙ ap (λ k. drop k xs) more)
      where
        more : n + (m - n) ≡ m
        more = omega (arith, low)

    -- they are no fewer from an earlier place
    pub fewer : length (behind m) ≤ length (behind n)
    fewer = omega (arith, ap length both ∙ length-append first (behind m))

    -- where they are as many they are the same
    same_behind : length (behind n) ≤ length (behind m) → behind m ≡ behind n
    same_behind many = sym (both ∙ ap (λ (ys : List Item). ys ++ behind m) none)
      where
        none : first ≡ []
        none = none_left first (omega (arith, ap length both ∙ length-append first (behind m), many))

  -- one that stands at a place is the first from there on
  pub one_there : (p : ℕ) (i : Item) → slice_get xs p ≡ Some i → by_of i ≡ by → behind p ≡ i ∷ behind (suc p)
  one_there p i is own =
      ap (by_number by) (drop_there xs p i is)
      ∙ ap (λ (b : Bool). cond b (i ∷ behind (suc p)) (behind (suc p))) (eq-eqb (by_of i) by own)

module _ (base : Rows) (log : List Item) (by : ℕ) where
  -- an item of an answer stands at its place
  record MadeOne (items : List Item) (answer : Option (Result Reply CallFault)) : Type 0 where
    item : Item
    is : items ≡ item ∷ []
    own : by_of item ≡ by
    stands : (from : ℕ) → slice_get log (place_named from answer) ≡ Some item
    fixed : (from : ℕ) → place_named 0 answer ≡ place_named from answer

  made_of : (actor : ℕ) (command : Option Command) (answer : Option (Result Reply CallFault))
      → TellsIf base log actor command answer → actor ≡ by
      → (items_if actor command answer ≡ []) ⊎ MadeOne (items_if actor command answer) answer
  made_of actor None None tells is = inl refl
  made_of actor (Some c) None tells is = inl refl
  made_of actor None (Some answer) tells is = absurd tells
  made_of actor (Some c) (Some (Ok (reply.Ok place stamp))) tells is =
      inr (record { item = Done actor c; is = refl; own = is; stands = λ from. tells.0; fixed = λ from. refl })
  made_of actor (Some c) (Some (Ok (reply.Same place))) tells is = inl refl
  made_of actor (Some c) (Some (Ok (reply.Refused why place))) tells is = inl refl
  made_of actor (Some c) (Some (Err (fault.Disk place))) tells is =
      inr (record { item = Doubt actor c; is = refl; own = is; stands = λ from. tells.0; fixed = λ from. refl })
  made_of actor (Some c) (Some (Err fault.OutOfMemory)) tells is = inl refl

  -- so it is with each answer of the caller that is true
  abbrev pub IsOwn : Answered → Type 0
  IsOwn a = IsTrueOf base log a × (a.actor ≡ by)

  made : (a : Answered) → IsOwn a → (answer_items a ≡ []) ⊎ MadeOne (answer_items a) (board_answer a.end)
  made a own = made_of a.actor a.command (board_answer a.end) own.0 own.1

  module _ (upto : ℕ) where
    abbrev pub its : List Item
    its = take upto log

    abbrev after : ℕ → Answered → ℕ
    after from a = place_named from (board_answer a.end) + length (answer_items a)

    lie_rises : (from : ℕ) (as' : List Answered) → LieBetween from upto as' → from ≤ upto
    lie_rises from [] lie = lie
    lie_rises from (a ∷ as') lie = let rest = lie_rises (after from a) as' lie.1 in omega (arith, lie.0, rest)

    -- an answer that made an item, where others follow
    module _ (from : ℕ) (a : Answered) (as' : List Answered) (lie : LieBetween from upto (a ∷ as'))
        (one : MadeOne (answer_items a) (board_answer a.end)) where
      abbrev place : ℕ
      place = place_named from (board_answer a.end)

      next_is : after from a ≡ suc place
      next_is = let count = ap length one.is in omega (arith, count)

      stands_there : slice_get its place ≡ Some one.item
      stands_there =
          there_taken log upto place (omega (arith, next_is, lie_rises (after from a) as' lie.1)) ∙ one.stands from

      first_there : behind its by place ≡ one.item ∷ behind its by (suc place)
      first_there = one_there its by place one.item stands_there one.own

    -- there are as many items as the answers made
    enough : (from : ℕ) (as' : List Answered) → LieBetween from upto as' → AllByRecursion IsOwn as'
        → length (flat_map answer_items as') ≤ length (behind its by from)
    enough from [] lie own = omega arith
    enough from (a ∷ as') lie own =
        let rest = enough (after from a) as' lie.1 own.1 in
        ⊎_elim
        (λ (none : answer_items a ≡ []).
        omega (
          arith,
          rest,
          fewer its by from (after from a) (omega (arith, lie.0)),
          ap (λ (ys : List Item). length (ys ++ flat_map answer_items as')) none,
        ))
        (λ (one : MadeOne (answer_items a) (board_answer a.end)).
        omega (
          arith,
          rest,
          fewer its by from (place_named from (board_answer a.end)) lie.0,
          ap length (first_there from a as' lie one),
          ap (λ n. length (behind its by n)) (next_is from a as' lie one),
          ap (λ (ys : List Item). length (ys ++ flat_map answer_items as')) one.is,
        ))
        (made a own.0)

    wider : (a : Answered) (as' : List Answered) (p : ℕ) (i : Item) → IsAnswered as' p i → IsAnswered (a ∷ as') p i
    wider a as' p i is = record {
      answer = is.answer;
      among = inside_rest is.answer a as' is.among;
      item =
          is.item;
      place_is = is.place_is;
    }

    -- an item of the caller isn't passed over
    not_passed : (n m p : ℕ) (i : Item) → n ≤ p → p < m → length (behind its by n) ≤ length (behind its by m)
        → slice_get its p ≡ Some i → by_of i ≡ by → ⊥
    not_passed n m p i low high many is own =
        omega (
          arith,
          many,
          fewer its by n p low,
          fewer its by (suc p) m (omega (arith, high)),
          ap length (one_there its by p i is own),
        )

    -- an item of the caller is that of the first answer or of those behind it
    module _ (from : ℕ) (a : Answered) (as' : List Answered) (lie : LieBetween from upto (a ∷ as'))
        (own : AllByRecursion IsOwn (a ∷ as'))
        (same : behind its by from ≡ flat_map answer_items (a ∷ as')) (p : ℕ) (i : Item) (low : from ≤ p)
        (is : slice_get its p ≡ Some i)
        (by_is : by_of i ≡ by) (more : behind its by (after from a) ≡ flat_map answer_items as' → after from a ≤ p
        → IsAnswered as' p i) where
      abbrev q : ℕ
      q = place_named from (board_answer a.end)

      rest : length (flat_map answer_items as') ≤ length (behind its by (after from a))
      rest = enough (after from a) as' lie.1 own.1

      when_none : answer_items a ≡ [] → IsAnswered (a ∷ as') p i
      when_none none = wider a as' p i (more (same_behind its by from (after from a)
          (omega (arith, lie.0)) many ∙ those) (at_least (cases_lt p (after from a))))
        where
          those : behind its by from ≡ flat_map answer_items as'
          those = same ∙ ap (λ (ys : List Item). ys ++ flat_map answer_items as') none

          many : length (behind its by from) ≤ length (behind its by (after from a))
          many = omega (arith, ap length those, rest)

          at_least : (p < after from a) ⊎ (after from a ≤ p) → after from a ≤ p
          at_least (inl less) = absurd (not_passed from (after from a) p i low less many is by_is)
          at_least (inr m) = m

      module _ (one : MadeOne (answer_items a) (board_answer a.end)) where
        those_one : behind its by from ≡ one.item ∷ flat_map answer_items as'
        those_one = same ∙ ap (λ (ys : List Item). ys ++ flat_map answer_items as') one.is

        many_one : length (behind its by from) ≤ length (behind its by q)
        many_one = omega (
          arith,
          ap length those_one,
          rest,
          ap length (first_there from a as' lie one),
          ap (λ n. length (behind its by n)) (next_is from a as' lie one),
        )

        later : one.item ∷ behind its by (suc q) ≡ one.item ∷ flat_map answer_items as'
            → behind its by (suc q) ≡ flat_map answer_items as'
        later whole = cc (whole)

        tails : behind its by (after from a) ≡ flat_map answer_items as'
        tails =
            ap (behind its by) (next_is from a as' lie one)
            ∙ later (sym (first_there from a as' lie one) ∙ same_behind its by from q lie.0 many_one ∙ those_one)

        at_it : p ≡ q → IsAnswered (a ∷ as') p i
        at_it at = record {
          answer = a;
          among = inside_first a as';
          item = one.is ∙ ap (λ (x : Item). x ∷ []) same_item;
          place_is = one.fixed from ∙ sym at;
        }
          where
            there : slice_get its q ≡ Some i
            there = ap (slice_get its) (sym at) ∙ is

            same_item : one.item ≡ i
            same_item = cc (there, stands_there from a as' lie one)

        which : (p < q) ⊎ (q ≤ p) → (p ≡ q) ⊎ (p ≡ q → ⊥) → IsAnswered (a ∷ as') p i
        which (inl less) either = absurd (not_passed from q p i low less many_one is by_is)
        which (inr up) (inl at) = at_it at
        which (inr up) (inr other) = wider a as' p i (more tails (past (cases_lt q p)))
          where
            past : (q < p) ⊎ (p ≤ q) → after from a ≤ p
            past (inl less) = omega (arith, less, next_is from a as' lie one)
            past (inr under) = absurd (other (omega (arith, under, up)))

      of_these : IsAnswered (a ∷ as') p i
      of_these = ⊎_elim when_none (λ (one : MadeOne (answer_items a) (board_answer a.end)).
          which one (cases_lt p q) (cases_eq p q)) (made a own.0)

    -- each item of the caller is that of an answer
    pub answered_there : (as' : List Answered) (from : ℕ) → LieBetween from upto as' → AllByRecursion IsOwn as'
        → behind its by from ≡ flat_map answer_items as' → (p : ℕ) (i : Item) → from ≤ p → slice_get its p ≡ Some i
        → by_of i ≡ by → IsAnswered as' p i
    answered_there [] from lie own same p i low is by_is =
        absurd (omega (arith, fewer its by from p low, ap length (one_there its by p i is by_is), ap length same))
    answered_there (a ∷ as') from lie own same p i low is by_is =
        of_these from a as' lie own same p i low is by_is
        (λ same' low'. answered_there as' (after from a) lie.1 own.1 same' p i low' is by_is)
