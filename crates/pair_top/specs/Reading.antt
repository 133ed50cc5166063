-- The script for a pair that a source gives, or why it gives none.
use Rattle.std.specs.Prelude.{◌≡◌, ℕ, Bool, true, false, List, Option, Some, Result, Ok, Err}
use Rattle.pair_lines.specs.Scripts.{IsPairScript, first_other}
use Rattle.program_ends.specs.Reading.{LeavesUnread, ReadsWhole}
use Rattle.program_ends.specs.declared.ending.Ending.TheVariants as ending
use Rattle.scenario_lines.specs.declared.script.Script.{Script}
use Rattle.scenario_reader.specs.Accepted.{script_of}
use Rattle.pair_top.specs.declared.ending.PairEnding.{PairEnding}
use Rattle.pair_top.specs.declared.ending.PairEnding.TheVariants.{Run, OtherLine}

-- the source gave a scenario whose first line that is no client's is this one
pub record ReadsOther (line : ℕ) (left left' : Option (List ℕ)) : Type 0 where
  pub script : Script
  pub reads : ReadsWhole script_of (Ok script) left left'
  pub other : first_other script ≡ Some line

-- what was read of a source, by the answer
abbrev pub ReadsPair : Result Script PairEnding → Option (List ℕ) → Option (List ℕ) → Type 0
ReadsPair (Ok script) left left' = ReadsWhole script_of (Ok script) left left' × IsPairScript script
ReadsPair (Err (OtherLine line)) left left' = ReadsOther line left left'
ReadsPair (Err (Run (ending.Script fault))) left left' = ReadsWhole script_of (Err fault) left left'
ReadsPair (Err (Run how)) left left' = LeavesUnread how left left'
ReadsPair (Err other) left left' = ⊥

-- the source failed
abbrev pub is_unread_pair : Result Script PairEnding → Bool
is_unread_pair (Err (Run ending.Read)) = true
is_unread_pair other = false
