-- What one board call over a wire does, and what the wire tells of it.
use Rattle.std.specs.Prelude.{◌≡◌, ℕ, ◌+◌, Bool, true, false, List, Option, Some, None, Result, Ok, Err}
use Rattle.std.specs.Option.{option_map}
use Rattle.bbs_model.specs.PortView.{PortView, IsCalled}
use Rattle.bbs_model.specs.declared.command.Command.{Command}
use Rattle.bbs_model.specs.declared.reply.CallFault.{CallFault}
use Rattle.bbs_model.specs.declared.reply.Reply.{Reply}
use Rattle.cell_rep.specs.Wires.{WireEnds}
use Rattle.cell_rep.specs.declared.call_end.CallEnd.{CallEnd}
use Rattle.cell_rep.specs.declared.call_end.CallEnd.TheVariants.{Got, Fault, CallLost, ReplyLost, Local, Idle}
use Rattle.cell_rep.specs.declared.wire.CallKind.TheVariants.{Board}
use Rattle.cell_rep.specs.declared.wire.Delivery.{Delivery}
use Rattle.cell_rep.specs.declared.wire.Delivery.TheVariants as wire

-- the call, or its reply, was lost
abbrev pub is_call_lost : CallEnd → Bool
is_call_lost (Got r) = false
is_call_lost (Fault why) = false
is_call_lost CallLost = true
is_call_lost (ReplyLost answer) = true
is_call_lost (Local why) = false
is_call_lost Idle = false

-- a call that reached the board was called there, and one that was lost did nothing
abbrev pub IsDelivered : ℕ → PortView → Command → CallEnd → PortView → Type 0
IsDelivered by v c (Got r) w = IsCalled by v c (Ok r) w
IsDelivered by v c (Fault why) w = IsCalled by v c (Err why) w
IsDelivered by v c CallLost w = w ≡ v
IsDelivered by v c (ReplyLost answer) w = IsCalled by v c answer w
IsDelivered by v c (Local why) w = ⊥
IsDelivered by v c Idle w = ⊥

-- what a wire that tells its ends says of an actor's next board call
abbrev pub end_now : Option WireEnds → List ℕ → Option Delivery
end_now ends actor = option_map (λ e. e (record { actor = actor; kind = Board }) 0) ends

-- the call ended as the wire tells, where it does
abbrev pub EndFits : Option Delivery → CallEnd → Type 0
EndFits None end = Unit {0}
EndFits (Some d) (Got r) = d ≡ wire.Through
EndFits (Some d) (Fault why) = d ≡ wire.Through
EndFits (Some d) CallLost = d ≡ wire.CallLost
EndFits (Some d) (ReplyLost answer) = d ≡ wire.ReplyLost
EndFits (Some d) (Local why) = ⊥
EndFits (Some d) Idle = ⊥

-- the ends that a wire tells after one delivery
abbrev pub moved : Option WireEnds → Option WireEnds
moved ends = option_map (λ e call n. e call (n + 1)) ends

-- the end of a call whose answer is heard
abbrev pub IsEndOf : Result Reply CallFault → CallEnd → Type 0
IsEndOf (Ok r) end = end ≡ Got r
IsEndOf (Err why) end = end ≡ Fault why
