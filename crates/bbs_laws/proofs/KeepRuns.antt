-- Runs and replays, command by command.
use Rattle.std.proofs.Common.{◌≡◌, ◌≢◌, ◌+◌, List, [], ◌∷◌, ◌++◌, length, Option, Some, None, IsSome, refl, ap, subst, sym, arith, true, false, cond, nat_le, ℕ}
use Rattle.bbs_model.specs.Limits.{most_transitions}
use Rattle.bbs_laws.specs.Laws.{ChangesWhereLegal, ReplaysWhatWasLegal, GoesOn, KeepsBoard}
use Rattle.bbs_model.specs.Replay.{replay, AreLegal}
use Rattle.bbs_model.specs.Runs.{if_legal, state_after, state_after_all, legal_ones}
use Rattle.bbs_model.specs.Step.{judged, verdict_of, changed_by, events_in, events_of, IsLegal, rows_after, edited, edited_again, attempt_of}
use Rattle.bbs_model.specs.Valid.{IsValid}
use Rattle.bbs_model.specs.declared.attempt.Attempt.{Attempt}
use Rattle.bbs_model.specs.declared.attempt.Attempt.TheVariants.{Refuse, Keep, Change}
use Rattle.bbs_model.specs.declared.attempt.Edit.{Edit}
use Rattle.bbs_model.specs.declared.attempt.Edit.TheVariants.{Put, Drop}
use Rattle.bbs_model.specs.declared.command.Command.{Command}
use Rattle.bbs_model.specs.declared.event.Row.TheVariants as row
use Rattle.bbs_model.specs.declared.event.Events.{Events}
use Rattle.bbs_model.specs.declared.rows.Rows.{Rows}
use Rattle.bbs_model.specs.declared.verdict.BoardRefusal.TheVariants.{BoardFull}
use Rattle.bbs_model.specs.declared.verdict.Verdict.{Verdict}
use Rattle.bbs_model.specs.declared.verdict.Verdict.TheVariants.{Ok, Same, Refused}
use Rattle.bbs_laws.proofs.Keeps.{legal_changes, IsValid-rows_after}

-- an edit makes no transition by itself
next-edited : (rows : Rows) (edit : Edit) → (edited rows edit).next ≡ rows.next
next-edited rows (Put (row.Desired d)) = refl
next-edited rows (Put (row.Actual a)) = refl
next-edited rows (Put (row.Task t)) = refl
next-edited rows (Put (row.Cell c)) = refl
next-edited rows (Put (row.Domain d)) = refl
next-edited rows (Drop (row.Desired d)) = refl
next-edited rows (Drop (row.Actual a)) = refl
next-edited rows (Drop (row.Task t)) = refl
next-edited rows (Drop (row.Cell c)) = refl
next-edited rows (Drop (row.Domain d)) = refl

next-edited_again : (rows : Rows) (edit : Option Edit) → (edited_again rows edit).next ≡ rows.next
next-edited_again rows None = refl
next-edited_again rows (Some edit) = next-edited rows edit

-- a legal command makes one
pub next-rows_after : (rows : Rows) (c : Command) → IsLegal rows c → (rows_after rows c).next ≡ rows.next + 1
next-rows_after rows c legal =
    let change = legal_changes rows c legal in
    let after : (rows_after rows c).next ≡ (changed_by rows (Change change.first change.second)).next =
    ap (λ (a : Attempt). (changed_by rows a).next) change.is in
    omega (arith, after, next-edited_again (edited rows change.first) change.second, next-edited rows change.first)

told-events_of : (rows : Rows) (c : Command) → IsLegal rows c → IsSome (events_of rows c)
told-events_of rows c legal =
    let change = legal_changes rows c legal in
    subst (λ (a : Attempt). IsSome (events_in rows a)) (sym change.is) refl

-- what a verdict chooses
chosen_else : {X : Type 0} (v : Verdict) (x y : X) → v ≢ Ok → if_legal v x y ≡ y
chosen_else Ok x y other = absurd (other refl)
chosen_else Same x y other = refl
chosen_else (Refused why) x y other = refl

chosen : {X : Type 0} (v : Verdict) (x y : X) → v ≡ Ok → if_legal v x y ≡ x
chosen v x y is = ap (λ (w : Verdict). if_legal w x y) is

-- what isn't legal asks for no change, but on a full board
unmade : (next : ℕ) (rows : Rows) (attempt : Attempt) → judged next attempt ≢ Ok
    → judged next attempt ≢ Refused BoardFull → events_in rows attempt ≡ None
unmade next rows (Refuse why) other full = refl
unmade next rows Keep other full = refl
unmade next rows (Change first second) other full =
    elim (nat_le most_transitions next) as (λ b. cond b (Refused BoardFull) Ok ≢ Ok
    → cond b (Refused BoardFull) Ok ≢ Refused BoardFull → events_in rows (Change first second) ≡ None) [
      | true ↦ λ h g. absurd (g refl)
      | false ↦ λ h g. absurd (h refl)
    ] other full

pub changes_where_legal : (rows : Rows) (c : Command) → ChangesWhereLegal rows c
changes_where_legal rows c = record {
  stays = λ other. chosen_else (verdict_of rows c) (rows_after rows c) rows other;
  silent = λ other. chosen_else (verdict_of rows c) (events_of rows c) None other;
  asks_nothing = unmade rows.next rows (attempt_of rows c);
  counted = λ legal.
      let after : (state_after rows c).next ≡ (rows_after rows c).next =
      ap (λ (r : Rows). r.next) (chosen (verdict_of rows c) (rows_after rows c) rows legal) in
      omega (arith, after, next-rows_after rows c legal);
  told = λ legal. subst (λ (e : Option Events). IsSome e)
      (sym (chosen (verdict_of rows c) (events_of rows c) None legal)) (told-events_of rows c legal);
}

-- replays
pub next-replay : (rows : Rows) (cs : List Command) → AreLegal rows cs → (replay rows cs).next ≡ rows.next + length cs
next-replay rows [] legal = omega arith
next-replay rows (c ∷ cs) legal =
    omega (arith, next-rows_after rows c legal.0, next-replay (rows_after rows c) cs legal.1)

pub IsValid-replay : (rows : Rows) (cs : List Command) → IsValid rows → AreLegal rows cs → IsValid (replay rows cs)
IsValid-replay rows [] valid legal = valid
IsValid-replay rows (c ∷ cs) valid legal = IsValid-replay (rows_after rows c) cs
    (IsValid-rows_after rows c valid legal.0) legal.1

pub replay-append : (rows : Rows) (xs ys : List Command) → replay rows (xs ++ ys) ≡ replay (replay rows xs) ys
replay-append rows [] ys = refl
replay-append rows (x ∷ xs) ys = replay-append (rows_after rows x) xs ys

AreLegal-append : (rows : Rows) (xs ys : List Command) → AreLegal rows xs → AreLegal (replay rows xs) ys
    → AreLegal rows (xs ++ ys)
AreLegal-append rows [] ys a b = b
AreLegal-append rows (x ∷ xs) ys a b = (a.0, AreLegal-append (rows_after rows x) xs ys a.1 b)

AreLegal-parts : (rows : Rows) (xs ys : List Command) → AreLegal rows (xs ++ ys)
    → AreLegal rows xs × AreLegal (replay rows xs) ys
AreLegal-parts rows [] ys h = (tt, h)
AreLegal-parts rows (x ∷ xs) ys h =
    let rest = AreLegal-parts (rows_after rows x) xs ys h.1 in
    ((h.0, rest.0), rest.1)

pub goes_on : (rows : Rows) (xs ys : List Command) → GoesOn rows xs ys
goes_on rows xs ys = record {
  replayed = replay-append rows xs ys;
  legal = (AreLegal-parts rows xs ys, λ both. AreLegal-append rows xs ys both.0 both.1);
}

pub keeps_board : (rows : Rows) (cs : List Command) → KeepsBoard rows cs
keeps_board rows cs = record { next = next-replay rows cs; valid = IsValid-replay rows cs }

-- the first command of a run, by its verdict
step_legal : (rows : Rows) (c : Command) (cs : List Command) (v : Verdict) → verdict_of rows c ≡ v
    → ReplaysWhatWasLegal (if_legal v (rows_after rows c) rows) cs
    → let after = if_legal v (rows_after rows c) rows in
    let later = legal_ones after cs in
    (state_after_all after cs ≡ replay rows (if_legal v (c ∷ later) later))
    × AreLegal rows (if_legal v (c ∷ later) later)
step_legal rows c cs Ok is h = (h.replayed, (is, h.legal))
step_legal rows c cs Same is h = (h.replayed, h.legal)
step_legal rows c cs (Refused why) is h = (h.replayed, h.legal)

all_legal : (rows : Rows) (cs : List Command) → AreLegal rows cs → legal_ones rows cs ≡ cs
all_legal rows [] legal = refl
all_legal rows (c ∷ cs) legal = rw legal.0 (ap (λ (l : List Command). c ∷ l) (all_legal (rows_after rows c) cs legal.1))

pub replays_what_was_legal : (rows : Rows) (cs : List Command) → ReplaysWhatWasLegal rows cs
replays_what_was_legal rows [] = record { replayed = refl; legal = tt; all = λ _. refl }
replays_what_was_legal rows (c ∷ cs) =
    let step = step_legal rows c cs (verdict_of rows c) refl (replays_what_was_legal (state_after rows c) cs) in
    record { replayed = step.0; legal = step.1; all = all_legal rows (c ∷ cs) }
