-- One call over a wire where nobody else calls.
use Rattle.std.proofs.Common.{◌≡◌, ℕ, false, Some, Result, Ok, Err, refl, sym, ap, subst, true}
use Rattle.bbs_board.specs.Doubts.{doubts_in}
use Rattle.bbs_model.specs.Calls.{is_disk_fault, is_starved}
use Rattle.bbs_model.specs.PortView.{IsCalled, IsLater, IsQuiet, PortView}
use Rattle.bbs_model.specs.declared.command.Command.{Command}
use Rattle.bbs_model.specs.declared.reply.CallFault.{CallFault}
use Rattle.bbs_model.specs.declared.reply.CallFault.TheVariants as fault
use Rattle.bbs_model.specs.declared.reply.Reply.{Reply}
use Rattle.converge_round.specs.Starts.{HasNoFault}
use Rattle.bbs_model.proofs.Public.{later_called, later_same}
use Rattle.cell_rep.specs.Deliveries.{EndFits, IsDelivered}
use Rattle.cell_rep.specs.declared.call_end.CallEnd.{CallEnd}
use Rattle.cell_rep.specs.declared.call_end.CallEnd.TheVariants.{Got, Fault, CallLost, ReplyLost, Local, Idle}
use Rattle.cell_rep.specs.declared.wire.Delivery.{Delivery}
use Rattle.cell_rep.specs.declared.wire.Delivery.TheVariants as wire
use Rattle.run_function.specs.Boards.{board_seen, delivered_alone, end_under, reply_alone}
use Rattle.run_function.specs.Quiet.{StaysCalm}
use Rattle.phase_actors.specs.Runs.{is_starved_end}
use Rattle.run_function.proofs.Calls.{call_due, call_stored}

-- a call over a wire has the end that is due, and leaves the board that is due
pub record IsSentAlone (d : Delivery) (by : ℕ) (v : PortView) (c : Command) (end : CallEnd)
    (w : PortView) : Type 0 where
  pub end_is : end ≡ end_under d (reply_alone (board_seen v) c)
  pub board : board_seen w ≡ delivered_alone d by c (board_seen v)

abbrev pub heard : Reply → Result Reply CallFault
heard r = Ok r

pub same_reply : (r s : Reply) → heard r ≡ heard s → r ≡ s
same_reply r s e = cc

module _ (by : ℕ) (v : PortView) (c : Command) (w : PortView) (quiet : IsQuiet v w) where
  through : (d : Delivery) (r : Reply) → d ≡ wire.Through → IsCalled by v c (Ok r) w → IsSentAlone d by v c (Got r) w
  through d r is h =
      let one = call_due by v c (Ok r) w h quiet refl refl in
      subst (λ (x : Delivery). IsSentAlone x by v c (Got r) w) (sym is)
      (record { end_is = ap Got (same_reply r (reply_alone (board_seen v) c) one.reply); board = one.board })

  reply_lost : (d : Delivery) (r : Reply) → d ≡ wire.ReplyLost → IsCalled by v c (Ok r) w
      → IsSentAlone d by v c (ReplyLost (Ok r)) w
  reply_lost d r is h =
      let one = call_due by v c (Ok r) w h quiet refl refl in
      subst (λ (x : Delivery). IsSentAlone x by v c (ReplyLost (Ok r)) w) (sym is)
      (record { end_is = ap ReplyLost one.reply; board = one.board })

  call_lost : (d : Delivery) → d ≡ wire.CallLost → w ≡ v → IsSentAlone d by v c CallLost w
  call_lost d is h = subst (λ (x : Delivery). IsSentAlone x by v c CallLost w) (sym is)
      (record { end_is = refl; board = ap board_seen h })

  pub sent_due : (d : Delivery) (end : CallEnd) → EndFits (Some d) end → IsDelivered by v c end w → HasNoFault end
      → IsSentAlone d by v c end w
  sent_due d (Got r) fits h none = through d r fits h
  sent_due d (Fault why) fits h none = absurd none
  sent_due d CallLost fits h none = call_lost d fits h
  sent_due d (ReplyLost (Ok r)) fits h none = reply_lost d r fits h
  sent_due d (ReplyLost (Err why)) fits h none = absurd none
  sent_due d (Local why) fits h none = absurd h
  sent_due d Idle fits h none = absurd h

-- a fault of the disk leaves a doubt, and the other one wants memory
not_faulty : (why : CallFault) → is_disk_fault (Err why) ≡ false → is_starved (Err why) ≡ false → ⊥
not_faulty (fault.Disk place) stores fed = let bad : true ≡ false = stores in absurd cc
not_faulty fault.OutOfMemory stores fed = let bad : true ≡ false = fed in absurd cc

pub sent_stored : (by : ℕ) (v : PortView) (c : Command) (end : CallEnd) (w : PortView) → IsDelivered by v c end w
    → doubts_in w.seen ≡ 0
    → is_starved_end end ≡ false → HasNoFault end
sent_stored by v c (Got r) w h calm fed = tt
sent_stored by v c (Fault why) w h calm fed = absurd (not_faulty why (call_stored by v c (Err why) w h calm) fed)
sent_stored by v c CallLost w h calm fed = tt
sent_stored by v c (ReplyLost (Ok r)) w h calm fed = tt
sent_stored by v c (ReplyLost (Err why)) w h calm fed =
    absurd (not_faulty why (call_stored by v c (Err why) w h calm) fed)
sent_stored by v c (Local why) w h calm fed = absurd h
sent_stored by v c Idle w h calm fed = absurd h

pub sent_alone : (by : ℕ) (v : PortView) (c : Command) (w : PortView) → StaysCalm v w → (d : Delivery) (end : CallEnd)
    → EndFits (Some d) end → IsDelivered by v c end w → is_starved_end end ≡ false → IsSentAlone d by v c end w
sent_alone by v c w alone d end fits h fed = sent_due by v c w alone.quiet d end fits h
    (sent_stored by v c end w h alone.calm fed)

pub later_delivered : (by : ℕ) (v : PortView) (c : Command) (end : CallEnd) (w : PortView) → IsDelivered by v c end w
    → IsLater v w
later_delivered by v c (Got r) w h = later_called by v c (Ok r) w h
later_delivered by v c (Fault why) w h = later_called by v c (Err why) w h
later_delivered by v c CallLost w h = subst (IsLater v) (sym h) (later_same v)
later_delivered by v c (ReplyLost answer) w h = later_called by v c answer w h
later_delivered by v c (Local why) w h = absurd h
later_delivered by v c Idle w h = absurd h
