-- What was read for a pair, by what was read of a scenario.
use Rattle.std.proofs.Common.{◌≡◌, ℕ, List, Option, Err, refl}
use Rattle.program_ends.specs.Reading.{ReadsAs, is_read}
use Rattle.program_ends.specs.declared.ending.Ending.{Ending}
use Rattle.program_ends.specs.declared.ending.Ending.TheVariants as ending
use Rattle.scenario_reader.specs.Accepted.{script_of}
use Rattle.pair_top.specs.Reading.{ReadsPair, is_unread_pair}
use Rattle.pair_top.specs.declared.ending.PairEnding.TheVariants.{Run}

pub as_pair : (how : Ending) (left left' : Option (List ℕ)) → ReadsAs script_of (Err how) left left'
    → ReadsPair (Err (Run how)) left left'
as_pair (ending.Script fault) left left' reads = reads
as_pair how left left' reads = reads

pub unread_same : (how : Ending) → is_unread_pair (Err (Run how)) ≡ is_read how
unread_same ending.Read = refl
unread_same how = refl
