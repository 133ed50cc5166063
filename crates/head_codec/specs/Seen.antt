-- What is kept of the rows that were read, so that one look tells whether a further one may follow.
use Rattle.std.specs.Prelude.{◌≡◌, ℕ, ◌≤◌, Bool, List, Option, Result, Ok, Err, true, sum_by}
use Rattle.std.specs.declared.cmp.Ordering.{Ordering}
use Rattle.std.specs.BTreeSet.{BTreeSet, contains}
use Rattle.std.specs.Option.{option_map_or}
use Rattle.std.specs.Ordering.{is_lt, nat_cmp}
use Rattle.bbs_model.specs.Limits.{most_wanted}
use Rattle.head_codec.specs.Head.{Keeps, is_above, is_stamped}
use Rattle.bbs_codec.specs.declared.fault.CodecFault.{CodecFault}
use Rattle.head_codec.specs.declared.fault.HeadFault.{HeadFault}
use Rattle.head_codec.specs.declared.fault.HeadFault.TheVariants.{Codec, OutOfMemory}

-- the key of the row is above that of the last one, if there is one
abbrev pub is_above_last : {K X : Type 0} → (K → K → Ordering) → (X → K) → Option X → X → Bool
is_above_last order key last row = option_map_or (λ x. is_lt (order (key x) (key row))) last true

-- the last row, how many instances are wanted, and the numbers that the rows have
pub record IsSeen {K X : Type 0} (order : K → K → Ordering) (key : X → K) (keeps : Keeps X) (rows : List X) (last : Option X) (wanted : ℕ)
    (stamps : BTreeSet ℕ) : Type 0 where
  pub above : (row : X) → is_above order key rows row ≡ is_above_last order key last row
  pub sum : wanted ≡ sum_by keeps.wants rows
  pub few : wanted ≤ most_wanted
  pub stamped : (n : ℕ) → contains nat_cmp stamps n ≡ is_stamped keeps.stamp n rows

-- the fault that a reader tells is the one told; want of memory says nothing of what is read
abbrev pub BlamesHead : {X : Type 0} → HeadFault → Result X CodecFault → Type 0
BlamesHead (Codec fault) told = told ≡ Err fault
BlamesHead OutOfMemory told = Unit {0}

-- an answer of a reader: what is told is the value, or the fault
abbrev pub TellsHead : {X : Type 0} → Result X HeadFault → Result X CodecFault → Type 0
TellsHead (Ok x) told = told ≡ Ok x
TellsHead (Err fault) told = BlamesHead fault told
