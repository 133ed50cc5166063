-- Logs, item by item.
use Rattle.std.proofs.Common.{arith, length, ◌≡◌, ℕ, zero, suc, inl, inr, List, [], ◌∷◌, ◌++◌, take, drop, slice_get, Some, refl, subst, sym, ◌∙◌, ap, ◌≤◌}
use Rattle.std.proofs.lemmas.List.{take-append-drop}
use Rattle.std.proofs.lemmas.List.Elements.{All-from_recursion}
use Rattle.lrp_records.specs.States.{holder_of}
use Rattle.lrp_records.specs.declared.actual.Actual.{Actual}
use Rattle.task_records.specs.declared.task.Task.{Task}
use Rattle.bbs_laws.specs.Laws.{done_of, ReplaysWhatIsDone, LogGoesOn, EpochsArePast}
use Rattle.bbs_model.specs.Replay.{replay, AreLegal, after_item, command_in, replay_log, IsLawful, rows_at, IsReached}
use Rattle.bbs_model.specs.Step.{IsLegal, rows_after}
use Rattle.bbs_model.specs.Valid.{IsValid, IsHeldBefore, IsActualRow, IsTaskRow, HasJoined}
use Rattle.task_records.specs.States.{runner_of}
use Rattle.bbs_model.specs.declared.item.Item.{Item}
use Rattle.bbs_model.specs.declared.item.Item.TheVariants.{Done, Doubt}
use Rattle.bbs_model.specs.declared.rows.Rows.{Rows}
use Rattle.bbs_model.proofs.Public.{each_weaker}
use Rattle.bbs_laws.proofs.KeepRuns.{next-replay}
use Rattle.bbs_laws.proofs.Keeps.{IsValid-rows_after}

replay_log-done : (base : Rows) (log : List Item) → replay_log base log ≡ replay base (done_of log)
replay_log-done base [] = refl
replay_log-done base (Done by c ∷ is) = replay_log-done (rows_after base c) is
replay_log-done base (Doubt by c ∷ is) = replay_log-done base is

legal-done : (base : Rows) (log : List Item) → IsLawful base log → AreLegal base (done_of log)
legal-done base [] h = tt
legal-done base (Done by c ∷ is) h = (h.0, legal-done (rows_after base c) is h.1)
legal-done base (Doubt by c ∷ is) h = legal-done base is h.1

pub replays_what_is_done : (base : Rows) (log : List Item) → ReplaysWhatIsDone base log
replays_what_is_done base log = record {
  replayed = replay_log-done base log;
  legal = legal-done base log;
  next = λ lawful. ap (λ (r : Rows). r.next) (replay_log-done base log) ∙ next-replay base (done_of log)
      (legal-done base log lawful);
}

pub replay_log-append : (base : Rows) (xs ys : List Item)
    → replay_log base (xs ++ ys) ≡ replay_log (replay_log base xs) ys
replay_log-append base [] ys = refl
replay_log-append base (x ∷ xs) ys = replay_log-append (after_item base x) xs ys

pub IsLawful-append : (base : Rows) (xs ys : List Item) → IsLawful base xs → IsLawful (replay_log base xs) ys
    → IsLawful base (xs ++ ys)
IsLawful-append base [] ys a b = b
IsLawful-append base (x ∷ xs) ys a b = (a.0, IsLawful-append (after_item base x) xs ys a.1 b)

pub IsLawful-parts : (base : Rows) (xs ys : List Item) → IsLawful base (xs ++ ys)
    → IsLawful base xs × IsLawful (replay_log base xs) ys
IsLawful-parts base [] ys h = (tt, h)
IsLawful-parts base (x ∷ xs) ys h =
    let rest = IsLawful-parts (after_item base x) xs ys h.1 in
    ((h.0, rest.0), rest.1)

pub log_goes_on : (base : Rows) (xs ys : List Item) → LogGoesOn base xs ys
log_goes_on base xs ys = record {
  replayed = replay_log-append base xs ys;
  lawful = (IsLawful-parts base xs ys, λ both. IsLawful-append base xs ys both.0 both.1);
}

pub IsValid-after_item : (rows : Rows) (item : Item) → IsValid rows → IsLegal rows (command_in item)
    → IsValid (after_item rows item)
IsValid-after_item rows (Done by c) valid legal = IsValid-rows_after rows c valid legal
IsValid-after_item rows (Doubt by c) valid legal = valid

pub IsValid-replay_log : (base : Rows) (log : List Item) → IsValid base → IsLawful base log
    → IsValid (replay_log base log)
IsValid-replay_log base [] valid lawful = valid
IsValid-replay_log base (i ∷ is) valid lawful =
    IsValid-replay_log (after_item base i) is (IsValid-after_item base i valid lawful.0) lawful.1

pub IsLawful-take : (base : Rows) (log : List Item) (place : ℕ) → IsLawful base log → IsLawful base (take place log)
IsLawful-take base log place lawful =
    let parts : IsLawful base (take place log ++ drop place log) =
    subst (IsLawful base) (sym (take-append-drop place log)) lawful in
    (IsLawful-parts base (take place log) (drop place log) parts).0

-- the rows at any place are valid, and the item there is legal
pub IsValid-rows_at : (base : Rows) (log : List Item) (place : ℕ) → IsValid base → IsLawful base log
    → IsValid (rows_at base log place)
IsValid-rows_at base log place valid lawful = IsValid-replay_log base (take place log) valid
    (IsLawful-take base log place lawful)

pub place-within : (log : List Item) (place : ℕ) (item : Item) → slice_get log place ≡ Some item → place ≤ length log
place-within [] place item is = cc
place-within (i ∷ is) zero item at = omega arith
place-within (i ∷ is) (suc place) item at = let rest = place-within is place item at in omega arith

pub legal_at : (base : Rows) (log : List Item) (place : ℕ) (item : Item) → IsLawful base log
    → slice_get log place ≡ Some item
    → IsLegal (rows_at base log place) (command_in item)
legal_at base [] place item lawful is = cc
legal_at base (i ∷ is) zero item lawful at =
    let one : i ≡ item = cc in subst (λ (x : Item). IsLegal base (command_in x)) one lawful.0
legal_at base (i ∷ is) (suc place) item lawful at = legal_at (after_item base i) is place item lawful.1 at

pub IsValid-reached : (base : Rows) (log : List Item) (from : ℕ) (rows : Rows) → IsValid base → IsLawful base log
    → IsReached base log from rows → IsValid rows
IsValid-reached base log from rows valid lawful (inl at) =
    subst IsValid (sym at.rows_are) (IsValid-rows_at base log at.place valid lawful)
IsValid-reached base log from rows valid lawful (inr at) =
    subst IsValid (sym at.rows_are) (IsValid-rows_after (rows_at base log at.place) at.command
    (IsValid-rows_at base log at.place valid lawful) (legal_at base log at.place
    (Doubt at.by at.command) lawful at.doubt))

pub epochs_are_past : (rows : Rows) → IsValid rows → EpochsArePast rows
epochs_are_past rows valid = record {
  actual = All-from_recursion (λ (a : Actual). IsHeldBefore rows.next (holder_of a.state)) rows.actual
      (each_weaker (IsActualRow rows.next) (λ (a : Actual). IsHeldBefore rows.next (holder_of a.state))
      (λ a is. is.held) rows.actual valid.actual.each);
  tasks = All-from_recursion (λ (t : Task). IsHeldBefore rows.next (runner_of t.state)) rows.tasks
      (each_weaker (IsTaskRow rows.next) (λ (t : Task). IsHeldBefore rows.next (runner_of t.state))
      (λ t is. is.held) rows.tasks valid.tasks.each);
  cells = All-from_recursion (HasJoined rows.next) rows.cells valid.cells.each;
}
