-- A command that is done again leaves valid rows, and tells whether it was legal.
use Rattle.std.proofs.Common.{◌≡◌, Bool, true, false, Some, None, Result, Ok, Err, IfOk, refl, sym, ap, subst}
use Rattle.std.specs.Bool.{MatchBool}
use Rattle.std.specs.Prelude.{OnErr}
use Rattle.bbs_index.specs.Redone.{IsRedone}
use Rattle.bbs_model.specs.Runs.{if_legal}
use Rattle.bbs_model.specs.Step.{attempt_of, rows_after, verdict_of}
use Rattle.bbs_model.specs.Valid.{IsValid}
use Rattle.bbs_model.specs.declared.command.Command.{Command}
use Rattle.bbs_model.specs.declared.rows.Rows.{Rows}
use Rattle.bbs_model.specs.declared.verdict.Verdict.{Verdict}
use Rattle.bbs_model.specs.declared.verdict.Verdict.TheVariants as verdict
use Rattle.bbs_transitions.proofs.Public.{IsValid-state_after}
use Rattle.bbs_board.specs.Opening.{after_legal}

pub valid_again : {E : Type 0} (rows new : Rows) (c : Command) (result : Result Bool E) → IsValid rows
    → IfOk result (λ done. IsRedone (attempt_of rows c) done rows new) → OnErr result (new ≡ rows) → IsValid new
valid_again rows new c (Ok done) valid redone stays = subst IsValid (sym redone.made) (IsValid-state_after rows c valid)
valid_again rows new c (Err why) valid redone stays = subst IsValid (sym stays) valid

by_verdict : (v : Verdict) (after old new : Rows) (legal : Bool) → legal ≡ if_legal v true false
    → new ≡ if_legal v after old
    → MatchBool legal (if_legal v (Some after) None ≡ Some new) (if_legal v (Some after) None ≡ None)
by_verdict verdict.Ok after old new true told made = ap Some (sym made)
by_verdict verdict.Ok after old new false told made = absurd (cc (told))
by_verdict verdict.Same after old new true told made = absurd (cc (told))
by_verdict verdict.Same after old new false told made = refl
by_verdict (verdict.Refused why) after old new true told made = absurd (cc (told))
by_verdict (verdict.Refused why) after old new false told made = refl

pub after_again : {E : Type 0} (rows new : Rows) (c : Command) (result : Result Bool E)
    → IfOk result (λ done. IsRedone (attempt_of rows c) done rows new)
    → IfOk result (λ legal. MatchBool legal (after_legal rows c ≡ Some new) (after_legal rows c ≡ None))
after_again rows new c (Ok done) redone = by_verdict (verdict_of rows c)
    (rows_after rows c) rows new done redone.told redone.made
after_again rows new c (Err why) redone = tt
