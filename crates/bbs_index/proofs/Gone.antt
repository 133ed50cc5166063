-- A move that drops its row, made again.
use Rattle.std.proofs.Common.{◌≡◌, ◌<◌, Bool, true, false, nat_le, Option, Some, sym, ap, subst, ◌∙◌, if◌then◌else◌, arith}
use Rattle.std.proofs.lemmas.Bool.Decides.{nat_tests}
use Rattle.crash_backoff.specs.declared.moment.Moment.{Moment}
use Rattle.diego_names.specs.declared.key.Key.{Key}
use Rattle.lrp_records.specs.Moves.{lrp_move}
use Rattle.lrp_records.specs.declared.actual.Actual.{Actual}
use Rattle.lrp_records.specs.declared.lrp_move.LrpMove.{LrpMove}
use Rattle.lrp_records.specs.declared.move_end.MoveEnd.TheVariants.{Gone}
use Rattle.lrp_records.specs.declared.presence.Presence.TheVariants.{Ordinary}
use Rattle.bbs_model.specs.Attempts.{if_known, drop_row}
use Rattle.bbs_model.specs.Limits.{most_transitions}
use Rattle.bbs_model.specs.Lrps.{moved_to}
use Rattle.bbs_model.specs.Runs.{if_legal}
use Rattle.bbs_model.specs.Step.{advanced}
use Rattle.bbs_model.specs.Tables.{find_actual, without_actual}
use Rattle.bbs_model.specs.declared.attempt.Attempt.{Attempt}
use Rattle.bbs_model.specs.declared.event.Row.TheVariants as row
use Rattle.bbs_model.specs.declared.rows.Rows.{Rows}
use Rattle.bbs_model.specs.declared.verdict.BoardRefusal.TheVariants.{BoardFull}
use Rattle.bbs_model.specs.declared.verdict.Verdict.TheVariants as verdict
use Rattle.bbs_index.specs.Redone.{IsRedone, row_moved}

pub gone_redone : (rows new : Rows) (key : Key) (move : LrpMove) (now : Moment) (old : Actual)
    → find_actual rows key Ordinary ≡ Some old → lrp_move old move now ≡ Gone
    → rows.next < most_transitions → new ≡ advanced (without_actual rows old.key old.presence)
    → IsRedone (row_moved rows key move now) true rows new
gone_redone rows new key move now old found gone below is =
    let more : nat_le most_transitions rows.next ≡ false = grind (arith, nat_tests, below) in
    let to : row_moved rows key move now ≡ drop_row (row.Actual old) =
    ap (λ (o : Option Actual). if_known o (λ r. moved_to r (lrp_move r move now))) found ∙ ap (moved_to old) gone in
    subst (λ (a : Attempt). IsRedone a true rows new) (sym to) (record {
      told = sym (ap (λ (b : Bool). if_legal (if b then verdict.Refused BoardFull else verdict.Ok) true false) more);
      made = is ∙ sym (ap (λ (b : Bool). if_legal (if b then verdict.Refused BoardFull else verdict.Ok)
          (advanced (without_actual rows old.key old.presence)) rows) more);
    })
