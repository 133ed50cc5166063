-- What the area beside the one of the frames holds, whatever a stop leaves of it: nothing, an older area, or the
-- next one in the making.
use Rattle.std.specs.Prelude.{◌≡◌, ℕ, ◌+◌, List, [], ◌∷◌, ◌++◌, length}
use Rattle.bbs_journal.specs.Areas.{Begins, Staged}
use Rattle.bbs_journal.specs.Grammar.{heading}
use Rattle.bbs_journal.specs.Header.{newest}
use Rattle.bbs_journal.specs.Other.{IsLoose}
use Rattle.bbs_journal.specs.declared.other_gate.OtherGate.{OtherGate}
use Rattle.bbs_journal.specs.declared.other_gate.OtherGate.TheVariants.{Shut, Loose, Written}
use Rattle.bbs_journal.specs.declared.waiting.Waiting.{Waiting}
use Rattle.bbs_journal.specs.declared.waiting.Waiting.TheVariants.{Nothing, Frame, Header}

-- an area as it is written, behind its header gate: the heading with this head, and a closed gate
abbrev pub unframed : ℕ → List ℕ → List ℕ
unframed generation head = heading newest generation head ++ 0 ∷ []

-- behind any gate, or none that is sure, stands the next header with this head
abbrev pub IsNext : ℕ → List ℕ → List ℕ → Type 0
IsNext generation head bytes = Staged [] (unframed (generation + 1) head) bytes

-- its gate isn't in doubt; `next` is the head of the next header, where one was written
abbrev pub IsBeside : List ℕ → OtherGate → ℕ → List ℕ → Type 0
IsBeside next Shut generation bytes = Begins (0 ∷ []) bytes
IsBeside next Loose generation bytes = IsLoose generation bytes
IsBeside next (Written size) generation bytes = (length next ≡ size) × Begins (0 ∷ unframed (generation + 1) next) bytes

-- closing or opening its gate failed, so that it may be open
abbrev pub IsInDoubt : List ℕ → OtherGate → ℕ → List ℕ → Type 0
IsInDoubt next Shut generation bytes = ⊥
IsInDoubt next Loose generation bytes = IsLoose generation bytes
IsInDoubt next (Written size) generation bytes = (length next ≡ size) × IsNext generation next bytes

-- so it stands beside an area of this generation
abbrev pub Beside : List ℕ → Waiting → OtherGate → ℕ → List ℕ → Type 0
Beside next Nothing gate generation bytes = IsBeside next gate generation bytes
Beside next Frame gate generation bytes = IsBeside next gate generation bytes
Beside next Header gate generation bytes = IsInDoubt next gate generation bytes
