-- The places of the items that were acknowledged: each is of a done item, which the standby has stored.
use Rattle.std.proofs.Common.{◌≡◌, ℕ, ◌+◌, ◌≤◌, Bool, true, false, cond, List, [], ◌∷◌, ◌++◌, length, take, Option, Some, None, Ok, Err, refl, sym, ap, subst, ◌∙◌, append_assoc, length-append}
use Rattle.std.specs.List.{AllByRecursion}
use Rattle.std.proofs.Math.Seq.{take-append-add}
use Rattle.bbs_model.specs.declared.command.Command.{Command}
use Rattle.bbs_model.specs.declared.item.Item.{Item}
use Rattle.bbs_model.specs.declared.item.Item.TheVariants.{Done}
use Rattle.bbs_model.specs.declared.reply.Reply.TheVariants as reply
use Rattle.pair_lines.specs.declared.answered.PairAnswered.{PairAnswered}
use Rattle.pair_runs.specs.Accounts.{Covers, acknowledged_from, is_ok, items_by, items_in, items_of, outcome_of}
use Rattle.standby_board.specs.Calls.{End}
use Rattle.standby_board.specs.Pairs.{dones}
use Rattle.standby_board.specs.declared.answers.PairReply.TheVariants as pair

-- an acknowledged call has one item, which is done
pub ok_item : (o : Option End) (by : ℕ) (c : Command) → is_ok o ≡ true → items_by o by c ≡ Done by c ∷ []
ok_item None by c ok = absurd (cc (ok))
ok_item (Some (Ok (pair.Reply (reply.Ok place stamp)))) by c ok = refl
ok_item (Some (Ok (pair.Reply (reply.Same place)))) by c ok = absurd (cc (ok))
ok_item (Some (Ok (pair.Reply (reply.Refused why place)))) by c ok = absurd (cc (ok))
ok_item (Some (Ok (pair.StaleFence greatest))) by c ok = absurd (cc (ok))
ok_item (Some (Err why)) by c ok = absurd (cc (ok))

module _ (P : ℕ → Type 0) where
  -- so it is at the place of each answer that was acknowledged, behind this log
  abbrev pub AtEachOk : List Item → List PairAnswered → Type 0
  AtEachOk log [] = Unit {0}
  AtEachOk log (a ∷ xs) = (is_ok (outcome_of a.end) ≡ true → P (length log)) × AtEachOk (log ++ items_of a) xs

  with_own : (ok : Bool) (place : ℕ) (places : List ℕ) → (ok ≡ true → P place) → AllByRecursion P places
      → AllByRecursion P (cond ok (place ∷ []) [] ++ places)
  with_own true place places own rest = (own refl, rest)
  with_own false place places own rest = rest

  -- then so it is at each of those places
  pub each_place : (log : List Item) (answers : List PairAnswered) → AtEachOk log answers
      → AllByRecursion P (acknowledged_from (length log) answers)
  each_place log [] each = tt
  each_place log (a ∷ xs) (own, each) =
      with_own (is_ok (outcome_of a.end)) (length log) (acknowledged_from (length log + length (items_of a)) xs) own
      (subst (λ (n : ℕ). AllByRecursion P (acknowledged_from n xs)) (length-append log (items_of a))
      (each_place (log ++ items_of a) xs each))

-- the log up to the item of an acknowledged call
up_to : (log more : List Item) (a : PairAnswered) → is_ok (outcome_of a.end) ≡ true
    → take (length log + 1) (log ++ (items_of a ++ more)) ≡ log ++ items_of a
up_to log more a ok =
    take-append-add log (items_of a ++ more) 1
    ∙ ap (λ (l : List Item). log ++ take 1 (l ++ more)) (ok_item (outcome_of a.end) a.actor a.command ok)
    ∙ ap (λ (l : List Item). log ++ l) (sym (ok_item (outcome_of a.end) a.actor a.command ok))

-- the standby has stored all that was done up to each of these places
pub covered : (whole log : List Item) (stored : ℕ) (answers : List PairAnswered) → whole ≡ log ++ items_in answers
    → Covers log stored answers → AtEachOk (λ place. length (dones (take (place + 1) whole)) ≤ stored) log answers
covered whole log stored [] is covers = tt
covered whole log stored (a ∷ xs) is (own, covers) = (
  (λ ok. subst (λ (l : List Item). length (dones l) ≤ stored)
      (sym (ap (take (length log + 1)) is ∙ up_to log (items_in xs) a ok)) (own ok)),
  covered whole (log ++ items_of a) stored xs (is ∙ sym (append_assoc log (items_of a) (items_in xs))) covers,
)
