-- A pair of two boards that were just loaded, or why there is none.
use Rattle.std.specs.Prelude.{◌≡◌, ◌≢◌, ℕ, List, Option}
use Rattle.bbs_board.specs.View.{IsFresh, View, rows_of}
use Rattle.disk_trait.specs.Past.{Past}
use Rattle.program_ends.specs.declared.ending.Ending.TheVariants as ending
use Rattle.standby_board.specs.Ends.{IsStarted}
use Rattle.standby_board.specs.Pairs.{PairView}
use Rattle.pair_top.specs.Top.{OpensBoth, PairPorts, ports_at}
use Rattle.pair_top.specs.declared.ending.PairEnding.{PairEnding}
use Rattle.pair_top.specs.declared.ending.PairEnding.TheVariants.{Run, Unequal}

-- why two boards are no pair, by how the program ends: their rows differ, or there was no memory to tell
abbrev pub HasStartCause : {D E : Type 0} → PairEnding → View D → View E → Type 0
HasStartCause Unequal primary standby = rows_of primary ≢ rows_of standby
HasStartCause (Run ending.OutOfMemory) primary standby = Unit {0}
HasStartCause other primary standby = ⊥

module _ {D E : Type 0} (told : D → Option Past) (faults moment : D → ℕ) (told' : E → Option Past) (faults' moment' : E → ℕ) where
  -- a pair was started of two boards that were loaded meanwhile and have done nothing; it shows no number yet
  pub record OpensPair (held : Option (List ℕ)) (write_faults : ℕ) (v : PairPorts) (pair : PairView D E) : Type 0 where
    pub primary : View D
    pub standby : View E
    pub started : IsStarted primary standby 0 pair
    pub fresh : IsFresh primary × IsFresh standby
    pub since_are : (primary.since ≡ moment primary.disk) × (standby.since ≡ moment' standby.disk)
    pub faults_are : (primary.faults ≡ faults primary.disk) × (standby.faults ≡ faults' standby.disk)
    pub opens : OpensBoth primary.base standby.base v
        (ports_at told faults moment told' faults' moment' held write_faults primary.disk standby.disk)
