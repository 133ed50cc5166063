-- The lists of an account, with one answer more.
use Rattle.std.proofs.Common.{◌≡◌, ℕ, ◌+◌, List, [], ◌∷◌, ◌++◌, length, sym, ap, ◌∙◌, append_assoc, arith, length-append}
use Rattle.std.proofs.lemmas.Grind.{flat_map-append}
use Rattle.std.proofs.lemmas.List.{append-nil}
use Rattle.bbs_model.specs.declared.item.Item.{Item}
use Rattle.pair_lines.specs.declared.answered.PairAnswered.{PairAnswered}
use Rattle.pair_runs.specs.Accounts.{AreLists, acknowledged_by, acknowledged_from, items_in, items_of, outcome_of}

acknowledged_more : (place : ℕ) (xs : List PairAnswered) (a : PairAnswered)
    → acknowledged_from place (xs ++ a ∷ []) ≡ acknowledged_from place xs
    ++ acknowledged_by (outcome_of a.end) (place + length (items_in xs))
acknowledged_more place [] a =
    append-nil (acknowledged_by (outcome_of a.end) place)
    ∙ ap (acknowledged_by (outcome_of a.end)) (omega arith)
acknowledged_more place (x ∷ xs) a =
    ap (λ (l : List ℕ). acknowledged_by (outcome_of x.end) place ++ l)
    (acknowledged_more (place + length (items_of x)) xs a)
    ∙ sym (append_assoc (acknowledged_by (outcome_of x.end) place) (acknowledged_from (place + length (items_of x)) xs)
    (acknowledged_by (outcome_of a.end) (place + length (items_of x) + length (items_in xs))))
    ∙ ap (λ (n : ℕ). acknowledged_from place (x ∷ xs) ++ acknowledged_by (outcome_of a.end) n) (further place x xs)
  where
    further : (place : ℕ) (x : PairAnswered) (xs : List PairAnswered)
        → place + length (items_of x) + length (items_in xs) ≡ place + length (items_of x ++ items_in xs)
    further place x xs = sym (ap (λ (n : ℕ). place + n) (length-append (items_of x) (items_in xs)) ∙ omega arith)

items_more : (xs : List PairAnswered) (a : PairAnswered) → items_in (xs ++ a ∷ []) ≡ items_in xs ++ items_of a
items_more xs a = flat_map-append items_of xs (a ∷ []) ∙ ap (λ (l : List Item). items_in xs ++ l)
    (append-nil (items_of a))

from_none : (n : ℕ) → n ≡ 0 + n
from_none n = omega arith

-- one answer more, with its item at the end of the log
pub lists_more : (answers : List PairAnswered) (log : List Item) (acknowledged : List ℕ) (a : PairAnswered)
    → AreLists answers log acknowledged
    → AreLists (answers ++ a ∷ []) (log ++ items_of a) (acknowledged ++ acknowledged_by (outcome_of a.end) (length log))
lists_more answers log acknowledged a lists = record {
  log_is = ap (λ (l : List Item). l ++ items_of a) lists.log_is ∙ sym (items_more answers a);
  acknowledged_is = ap (λ (l : List ℕ). l ++ acknowledged_by (outcome_of a.end) (length log)) lists.acknowledged_is
      ∙ ap (λ (l : List Item). acknowledged_from 0 answers ++ acknowledged_by (outcome_of a.end) (length l))
      lists.log_is
      ∙ ap (λ (n : ℕ). acknowledged_from 0 answers ++ acknowledged_by (outcome_of a.end) n)
      (from_none (length (items_in answers)))
      ∙ sym (acknowledged_more 0 answers a);
}

-- the same, of lists that came to be so
pub lists_as : (answers answers' : List PairAnswered) (log log' : List Item) (acknowledged acknowledged' : List ℕ)
    (a : PairAnswered) (place : ℕ) → AreLists answers log acknowledged → answers' ≡ answers ++ a ∷ []
    → log' ≡ log ++ items_of a
    → place ≡ length log → acknowledged' ≡ acknowledged ++ acknowledged_by (outcome_of a.end) place
    → AreLists answers' log' acknowledged'
lists_as answers answers' log log' acknowledged acknowledged' a place lists answers_are log_is place_is
    acknowledged_are =
    let more = lists_more answers log acknowledged a lists in
    record {
      log_is = log_is ∙ more.log_is ∙ ap items_in (sym answers_are);
      acknowledged_is = acknowledged_are ∙ ap (λ (n : ℕ). acknowledged ++ acknowledged_by (outcome_of a.end) n) place_is
          ∙ more.acknowledged_is ∙ ap (acknowledged_from 0) (sym answers_are);
    }
