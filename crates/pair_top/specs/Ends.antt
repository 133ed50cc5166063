-- How the program of a pair ends, by what it was given and what it hands back.
use Rattle.std.specs.Prelude.{◌≡◌, ℕ, List, Option}
use Rattle.disk_trait.specs.Past.{Past}
use Rattle.pair_top.specs.Endings.{status_of}
use Rattle.pair_top.specs.Top.{PairEnds, ports_at}
use Rattle.pair_top.specs.declared.ending.PairEnding.{PairEnding}
use Rattle.pair_top.specs.declared.top.PairEnd.{PairEnd}

-- what is told of a source, a sink and two disks
module _ {S K D E : Type 0} (left : S → Option (List ℕ)) (held : K → Option (List ℕ)) (write_faults : K → ℕ)
    (told : D → Option Past) (faults moment : D → ℕ) (told' : E → Option Past) (faults' moment' : E → ℕ) where
  -- how the program ends that was started with these words and was given these, by what it hands back
  abbrev pub EndsAt : List (List ℕ) → S → K → D → E → PairEnd S K D E → Type 0
  EndsAt words source sink primary standby end =
      (how : PairEnding) × (end.status ≡ status_of how)
      × PairEnds how words end.answers.items (left source) (left end.source)
      (ports_at told faults moment told' faults' moment' (held sink) (write_faults sink) primary standby)
      (ports_at told faults moment told' faults' moment' (held end.sink) (write_faults end.sink) end.primary end.standby)
