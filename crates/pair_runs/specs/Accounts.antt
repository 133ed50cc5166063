-- What came of calls: the items of their answers, and which of these were acknowledged.
use Rattle.std.specs.Prelude.{◌≡◌, ◌⊎◌, ℕ, ◌+◌, ◌≤◌, Bool, true, false, List, [], ◌∷◌, ◌++◌, length, Option, Some, None, Ok, Err, if◌then◌else◌}
use Rattle.std.specs.List.{flat_map, list_any}
use Rattle.bbs_model.specs.Replay.{replay_log}
use Rattle.bbs_model.specs.Step.{verdict_of}
use Rattle.bbs_model.specs.declared.command.Command.{Command}
use Rattle.bbs_model.specs.declared.item.Item.{Item}
use Rattle.bbs_model.specs.declared.rows.Rows.{Rows}
use Rattle.standby_board.specs.Calls.{Decides, End, gained, is_acknowledged}
use Rattle.standby_board.specs.Pairs.{dones}
use Rattle.standby_board.specs.declared.answers.PairFault.TheVariants as fault
use Rattle.standby_board.specs.declared.answers.PairReply.TheVariants as pair
use Rattle.bbs_model.specs.declared.reply.Reply.TheVariants as reply
use Rattle.pair_runs.specs.declared.account.Added.{Added}
use Rattle.pair_runs.specs.declared.account.Added.TheVariants.{Nothing, Done, Doubt}
use Rattle.pair_lines.specs.declared.answered.PairAnswered.{PairAnswered}
use Rattle.pair_lines.specs.declared.answered.PairEnded.{PairEnded}
use Rattle.pair_lines.specs.declared.answered.PairEnded.TheVariants.{Got, Fault, CallLost, ReplyLost}
use Rattle.pair_runs.specs.Served.{Blames, IsLevel, ServerView, is_disk_end, rows_in}

-- what a call came to, if it was made
abbrev pub outcome_of : PairEnded → Option End
outcome_of (Got reply) = Some (Ok reply)
outcome_of (Fault why) = Some (Err why)
outcome_of CallLost = None
outcome_of (ReplyLost end) = Some end

-- the items of what a call came to
abbrev pub items_by : Option End → ℕ → Command → List Item
items_by None by c = []
items_by (Some end) by c = gained end by c

-- what a call added to the log, by what it came to
abbrev pub added_by : Option End → Added
added_by None = Nothing
added_by (Some (Ok (pair.Reply (reply.Ok place stamp)))) = Done
added_by (Some (Ok (pair.Reply (reply.Same place)))) = Nothing
added_by (Some (Ok (pair.Reply (reply.Refused why place)))) = Nothing
added_by (Some (Ok (pair.StaleFence greatest))) = Nothing
added_by (Some (Err (fault.Disk place))) = Doubt
added_by (Some (Err (fault.StandbyDisk place))) = Nothing
added_by (Some (Err (fault.Behind place))) = Done
added_by (Some (Err fault.OutOfMemory)) = Nothing

-- the items of an answer's call
abbrev pub items_of : PairAnswered → List Item
items_of a = items_by (outcome_of a.end) a.actor a.command

-- the items of the calls of answers, in order
abbrev pub items_in : List PairAnswered → List Item
items_in answers = flat_map items_of answers

-- what a call came to was acknowledged
abbrev pub is_ok : Option End → Bool
is_ok None = false
is_ok (Some end) = is_acknowledged end

-- the place of a call's item, where it was acknowledged, whether the client heard it or not
abbrev pub acknowledged_by : Option End → ℕ → List ℕ
acknowledged_by outcome place = if is_ok outcome then place ∷ [] else []

-- the places of the items that were acknowledged, where the first answer's item has this one
abbrev pub acknowledged_from : ℕ → List PairAnswered → List ℕ
acknowledged_from place [] = []
acknowledged_from place (a ∷ xs) = acknowledged_by (outcome_of a.end) place ++ acknowledged_from (place + length (items_of a)) xs

-- the answers of calls, and for how many more there is room
pub record AccountView : Type 0 where
  pub answers : List PairAnswered
  pub room : ℕ

-- the items of these answers, and the places of those that were acknowledged
pub record AreLists (answers : List PairAnswered) (log : List Item) (acknowledged : List ℕ) : Type 0 where
  pub log_is : log ≡ items_in answers
  pub acknowledged_is : acknowledged ≡ acknowledged_from 0 answers

-- a disk failed in what a call came to
abbrev pub is_disk_outcome : Option End → Bool
is_disk_outcome None = false
is_disk_outcome (Some end) = is_disk_end end

-- a disk failed in the call of one of these answers
abbrev pub is_any_disk : List PairAnswered → Bool
is_any_disk answers = list_any (λ a. is_disk_outcome (outcome_of a.end)) answers

-- a call that was made was answered by the step at these rows and this place of the log, or the standby's disk failed
-- before that; none was stale, and none wanted memory
abbrev pub IsOutcome : Rows → ℕ → Command → Option End → Type 0
IsOutcome rows place c None = Unit {0}
IsOutcome rows place c (Some end) = Decides (verdict_of rows c) place rows.next end ⊎ (end ≡ Err (fault.StandbyDisk place))

-- so it is with each answer, at its rows and its place
abbrev pub AreAnswered : Rows → ℕ → List PairAnswered → Type 0
AreAnswered rows place [] = Unit {0}
AreAnswered rows place (a ∷ xs) =
    IsOutcome rows place a.command (outcome_of a.end)
    × AreAnswered (replay_log rows (items_of a)) (place + length (items_of a)) xs

-- the standby has stored so many transitions: where an answer was acknowledged, all that were done up to it behind this log
abbrev pub Covers : List Item → ℕ → List PairAnswered → Type 0
Covers log stored [] = Unit {0}
Covers log stored (a ∷ xs) =
    (is_ok (outcome_of a.end) ≡ true → length (dones (log ++ items_of a)) ≤ stored)
    × Covers (log ++ items_of a) stored xs

-- the standby followed these answers
pub record AreFollowed (v w : ServerView) (answers : List PairAnswered) : Type 0 where
  pub level : is_any_disk answers ≡ false → IsLevel v → IsLevel w
  pub grows : v.stored ≤ w.stored
  pub covers : Covers v.log w.stored answers

-- these answers were given, one after another: the log gained their items and no other, each fault has its cause, and the
-- standby followed
pub record Serves (v w : ServerView) (answers : List PairAnswered) : Type 0 where
  pub base : w.base ≡ v.base
  pub answered : AreAnswered (rows_in v) (length v.log) answers
  pub log : w.log ≡ v.log ++ items_in answers
  pub blames : Blames (is_any_disk answers) v w
  pub followed : AreFollowed v w answers
