-- What a round lost, and to whom.
use Rattle.std.specs.Prelude.{◌≡◌, ℕ, ◌+◌, ◌-◌, ◌^◌, ◌≤◌, min, Bool, true, false, List, [], ◌∷◌, Option, Some, None, slice_get}
use Rattle.std.specs.List.{Contains}
use Rattle.std.proofs.Common.{inl, inr}
use Rattle.bbs_model.specs.PortView.{rows_seen}
use Rattle.cell_records.specs.declared.answer.Answer.{Answer}
use Rattle.cell_records.specs.declared.cell_row.CellRow.{CellRow}
use Rattle.cell_rep.specs.Wires.{WireEnds}
use Rattle.cell_rep.specs.declared.call_end.CallEnd.{CallEnd}
use Rattle.cell_rep.specs.declared.call_end.CallEnd.TheVariants.{Got, Fault, CallLost, ReplyLost, Local, Idle}
use Rattle.cell_rep.specs.declared.rep.CellRep.{CellRep}
use Rattle.cell_rep.specs.declared.wire.CallKind.TheVariants.{Ask}
use Rattle.cell_rep.specs.declared.wire.Delivery.TheVariants.{Through}
use Rattle.convergence.specs.declared.report.Report.{Report}
use Rattle.converge_round.specs.Askings.{present, StandApart, IsHeardFrom, Asking, AsksOne, questions}
use Rattle.converge_round.specs.Each.{Each}
use Rattle.converge_round.specs.Phases.{Course, ServesOne}
use Rattle.converge_round.specs.Reps.{names_of}
use Rattle.converge_round.specs.Rounds.{Standing, IsRound}
use Rattle.converge_round.specs.declared.claims.Claimed.{Claimed}
use Rattle.converge_round.specs.declared.claims.StartEnd.{StartEnd}
use Rattle.converge_round.specs.declared.claims.StartEnd.TheVariants.{Lost, Made}
use Rattle.converge_round.specs.declared.placing.Places.{Places}
use Rattle.crash_backoff.specs.declared.moment.Moment.{Moment}

-- one, where a question got through and nothing was heard: no rep of the cell has joined under that epoch
abbrev pub mute_if : Bool → Option Answer → ℕ
mute_if true None = 1
mute_if true (Some a) = 0
mute_if false answer = 0

-- how many cells had nothing to tell
abbrev pub mute_among : (cells : List CellRep) (cs : List CellRow) (s s' : Asking) → Each (AsksOne cells) cs s s' → ℕ
mute_among cells [] s s' f = 0
mute_among cells (c ∷ cs) s s' f = mute_if f.1.asked.reached f.1.answer + mute_among cells cs f.0 s' f.2

-- one, where a rep that was reached made no call
abbrev pub declined_end : CallEnd → ℕ
declined_end (Got reply) = 0
declined_end (Fault why) = 0
declined_end CallLost = 0
declined_end (ReplyLost answer) = 0
declined_end (Local why) = 1
declined_end Idle = 1

-- the same of what came of a start
abbrev pub declined_in : StartEnd → ℕ
declined_in Lost = 0
declined_in (Made a) = declined_end a.end

-- how many of these starts were declined
abbrev pub declined_on : List Claimed → ℕ
declined_on [] = 0
declined_on (x ∷ xs) = declined_in x.end + declined_on xs

-- the same where a cell is served
abbrev pub declined_at : (by : ℕ) (now : Moment) (p : Places) (x : Answer) (s s' : Course) →
    ServesOne by now p x s s' → ℕ
declined_at by now p x s s' (inl c) = declined_on c.ends
declined_at by now p x s s' (inr none) = 0

-- how many starts the reps of all cells declined
abbrev pub declined_among : (by : ℕ) (now : Moment) (p : Places) (xs : List Answer) (s s' : Course) →
    Each (ServesOne by now p) xs s s' → ℕ
declined_among by now p [] s s' f = 0
declined_among by now p (x ∷ xs) s s' f =
    declined_at by now p x s f.0 f.1 + declined_among by now p xs f.0 s' f.2

-- a count has risen by so much, or stands at its last value
abbrev pub RoseBy : ℕ → ℕ → ℕ → Type 0
RoseBy n before now = min (n + before) (2 ^ 64 - 1) ≤ now

-- how many cells of a round had nothing to tell
abbrev pub mute_of : (by : ℕ) (now : Moment) (line : ℕ) (s s' : Standing) (r : Report) → IsRound by now line s s' r → ℕ
mute_of by now line s s' r h = mute_among s.reps (present (rows_seen h.opens.first) now)
    (questions s.wire []) (questions h.opens.wire h.opens.hearing.got) h.opens.heard.got

-- how many starts of a round were declined
abbrev pub declined_of : (by : ℕ) (now : Moment) (line : ℕ) (s s' : Standing) (r : Report) →
    IsRound by now line s s' r → ℕ
declined_of by now line s s' r h =
    declined_among by now h.opening_is.places h.opening_is.places.roomy h.opened h.served h.serves

-- what a round lost was lost by the wire, or a cell had nothing to tell, or a rep declined a start
pub record HasCauses (by : ℕ) (now : Moment) (line : ℕ) (s s' : Standing) (r : Report)
    (h : IsRound by now line s s' r) : Type 0 where
  pub wire : ℕ
  pub rose : RoseBy wire s.wire.losses s'.wire.losses
  pub lost : r.lost ≤ wire + (mute_of by now line s s' r h + declined_of by now line s s' r h)

-- each round has these causes
abbrev pub RoundsLoseWhatTheWireLost : Type 0
RoundsLoseWhatTheWireLost = (by : ℕ) (now : Moment) (line : ℕ) (s s' : Standing) (r : Report)
    (h : IsRound by now line s s' r) → HasCauses by now line s s' r h

-- where the wire tells its ends and reps have unlike names, each cell whose question gets through is heard, if its rep
-- has joined under the epoch of its row: the cells are asked in their order, before any other delivery
abbrev pub RoundsHearWhatGetsThrough : Type 0
RoundsHearWhatGetsThrough = (by : ℕ) (now : Moment) (line : ℕ) (s s' : Standing) (r : Report)
    (h : IsRound by now line s s' r) (ends : WireEnds) → StandApart (names_of s.reps) → s.wire.ends ≡ Some ends →
    (k : ℕ) (c : CellRow) → slice_get (present (rows_seen h.opens.first) now) k ≡ Some c →
    ends (record { actor = c.cell; kind = Ask }) k ≡ Through →
    (a : Answer) → IsHeardFrom s.reps c.cell c.epoch a → Contains h.opens.hearing.got a
