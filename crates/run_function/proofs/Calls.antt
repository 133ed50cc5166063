-- One call where nobody else calls and the disk stores.
use Rattle.std.proofs.Common.{◌≡◌, ℕ, ◌+◌, false, List, [], ◌∷◌, ◌++◌, length, Result, Ok, Err, refl, ap, subst, ◌∙◌, arith, ⊎_elim}
use Rattle.std.proofs.lemmas.Bool.{both_ways}
use Rattle.std.proofs.lemmas.List.{append-nil}
use Rattle.bbs_model.specs.Calls.{Ends, added, is_disk_fault, is_starved}
use Rattle.bbs_model.specs.PortView.{IsCalled, PortView, IsQuiet}
use Rattle.bbs_model.specs.Replay.{replay_log}
use Rattle.bbs_model.specs.Step.{verdict_of}
use Rattle.bbs_model.specs.declared.command.Command.{Command}
use Rattle.bbs_model.specs.declared.item.Item.{Item}
use Rattle.bbs_model.specs.declared.item.Item.TheVariants.{Done, Doubt}
use Rattle.bbs_model.specs.declared.reply.CallFault.{CallFault}
use Rattle.bbs_model.specs.declared.reply.CallFault.TheVariants as fault
use Rattle.bbs_model.specs.declared.reply.Reply.{Reply}
use Rattle.bbs_model.specs.declared.verdict.Verdict.{Verdict}
use Rattle.bbs_model.specs.declared.verdict.Verdict.TheVariants as verdict
use Rattle.bbs_model.proofs.Public.{quiet_called}
use Rattle.run_function.specs.Boards.{board_seen, reply_alone, reply_by}
use Rattle.run_function.specs.Quiet.{IsCallAlone, StaysCalm}
use Rattle.bbs_board.specs.Doubts.{doubts_in}

-- what is in doubt in one list and the other
pub doubts_both : (xs ys : List Item) → doubts_in (xs ++ ys) ≡ doubts_in xs + doubts_in ys
doubts_both [] ys = omega arith
doubts_both (Done by c ∷ xs) ys = doubts_both xs ys
doubts_both (Doubt by c ∷ xs) ys = omega (arith, doubts_both xs ys)

-- a call that adds no doubt had no fault of the disk
no_fault : (end : Result Reply CallFault) (by : ℕ) (c : Command) → doubts_in (added end by c) ≡ 0
    → is_disk_fault end ≡ false
no_fault (Ok r) by c none = refl
no_fault (Err (fault.Disk place)) by c none = absurd (omega (arith, none))
no_fault (Err fault.OutOfMemory) by c none = refl

-- it ends with the reply of its verdict
reply_due : (x : Verdict) (place stamp : ℕ) (end : Result Reply CallFault) → Ends x place stamp end
    → is_disk_fault end ≡ false → is_starved end ≡ false
    → end ≡ Ok (reply_by x place stamp)
reply_due verdict.Ok place stamp end ends stores fed = ⊎_elim
    (λ is. is)
    (λ rest. ⊎_elim
    (λ is. absurd (both_ways (is_disk_fault end) stores (ap is_disk_fault is)))
    (λ is. absurd (both_ways (is_starved end) fed (ap is_starved is)))
    rest)
    ends
reply_due verdict.Same place stamp end ends stores fed = ends
reply_due (verdict.Refused why) place stamp end ends stores fed = ends

-- where nobody else called, and neither the disk nor memory failed
pub call_due : (by : ℕ) (v : PortView) (c : Command) (end : Result Reply CallFault) (w : PortView)
    → IsCalled by v c end w
    → IsQuiet v w → is_disk_fault end ≡ false → is_starved end ≡ false → IsCallAlone by v c end w
call_due by v c end w h quiet stores fed =
    let seen : v.seen ++ h.others ≡ v.seen = ap (λ (xs : List Item). v.seen ++ xs)
    (quiet_called by v c end w h quiet) ∙ append-nil v.seen in
    let ends = subst (λ (xs : List Item). Ends (verdict_of (replay_log v.base xs) c) (length xs)
    (replay_log v.base xs).next end) seen h.ends in
    let items : w.seen ≡ v.seen ++ added end by c =
    ap (λ (x : PortView). x.seen) h.is ∙ ap (λ (xs : List Item). xs ++ added end by c) seen in
    let is = reply_due (verdict_of (replay_log v.base v.seen) c) (length v.seen)
    (replay_log v.base v.seen).next end ends stores fed in
    let base : w.base ≡ v.base = ap (λ (x : PortView). x.base) h.is in
    let log : w.seen ≡ v.seen ++ added (Ok (reply_alone (board_seen v) c)) by c =
    items ∙ ap (λ (e : Result Reply CallFault). v.seen ++ added e by c) is in
    record { reply = is; board = λ i. record { base = base i; log = log i } }

-- nothing that is seen in the end is in doubt, so the disk didn't fail
pub call_stored : (by : ℕ) (v : PortView) (c : Command) (end : Result Reply CallFault) (w : PortView)
    → IsCalled by v c end w
    → doubts_in w.seen ≡ 0 → is_disk_fault end ≡ false
call_stored by v c end w h calm =
    no_fault end by c
    (omega (
      arith,
      doubts_both (v.seen ++ h.others) (added end by c),
      ap (λ (x : PortView). doubts_in x.seen) h.is,
      calm,
    ))

pub call_alone : (by : ℕ) (v : PortView) (c : Command) (end : Result Reply CallFault) (w : PortView)
    → IsCalled by v c end w
    → StaysCalm v w → is_starved end ≡ false → IsCallAlone by v c end w
call_alone by v c end w h alone fed = call_due by v c end w h alone.quiet (call_stored by v c end w h alone.calm) fed
