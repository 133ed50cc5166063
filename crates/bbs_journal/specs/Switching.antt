-- The three steps of a switch to the other area, and closing its header gate again: what each does to that area,
-- and what the journal knows then. In the area of the frames nothing changes.
use Rattle.std.specs.Prelude.{◌≡◌, ℕ, ◌+◌, ◌-◌, ◌^◌, ◌<◌, Bool, true, false, List, [], ◌∷◌}
use Rattle.disk_trait.specs.Held.{Has}
use Rattle.disk_trait.specs.Past.{Past, now, other}
use Rattle.disk_trait.specs.Runs.{Turns}
use Rattle.disk_trait.specs.declared.area.Area.{Area}
use Rattle.bbs_journal.specs.Areas.{Begins}
use Rattle.bbs_journal.specs.Beside.{unframed, IsNext, Beside}
use Rattle.bbs_journal.specs.Header.{newest}
use Rattle.bbs_journal.specs.Other.{IsLoose}
use Rattle.bbs_journal.specs.View.{JournalView, IsCalm}
use Rattle.bbs_journal.specs.declared.other_gate.OtherGate.{OtherGate}
use Rattle.bbs_journal.specs.declared.other_gate.OtherGate.TheVariants.{Shut, Loose, Written}
use Rattle.bbs_journal.specs.declared.waiting.Waiting.TheVariants.{Nothing, Header}

-- how many device calls it takes to have the other gate shut: none where it is a synced 0
abbrev pub close_calls : OtherGate → ℕ
close_calls Shut = 0
close_calls Loose = 2
close_calls (Written size) = 0

-- a loose gate is closed; one that is a synced 0 is left alone
abbrev pub ClosesOther : Area → OtherGate → ℕ → Bool → Past → Past → Type 0
ClosesOther area Shut generation ok p q = (ok ≡ true) × (q ≡ p)
ClosesOther area Loose generation ok p q = Turns (other area) ok (IsLoose generation) (Begins (0 ∷ [])) p q
ClosesOther area (Written size) generation ok p q = (ok ≡ true) × (q ≡ p)

-- behind the closed gate a header, a head and a closed gate are written
abbrev pub WritesOther : Area → ℕ → List ℕ → Bool → Past → Past → Type 0
WritesOther area generation head ok p q = Turns (other area) ok (Begins (0 ∷ [])) (Begins (0 ∷ unframed (generation + 1) head)) p q

-- whatever head was written there, the gate before it is opened
abbrev pub OpensOther : Area → ℕ → Bool → Past → Past → Type 0
OpensOther area generation ok p q =
    (next : List ℕ) → Has (Begins (0 ∷ unframed (generation + 1) next)) (now p (other area))
    → Turns (other area) ok (IsNext generation next) (Begins (1 ∷ unframed (generation + 1) next)) p q

-- whatever stands behind it, a header gate in doubt is closed
abbrev pub ClosesHeader : Area → OtherGate → ℕ → Bool → Past → Past → Type 0
ClosesHeader area gate generation ok p q =
    (next : List ℕ) → Has (Beside next Header gate generation) (now p (other area))
    → Turns (other area) ok (Beside next Header gate generation) (Begins (0 ∷ [])) p q

-- a journal whose other gate was closed, or waits
abbrev pub with_closed : {D : Type 0} → Bool → JournalView D → D → JournalView D
with_closed true journal disk = record journal { disk = disk; gate = Shut }
with_closed false journal disk = record journal { disk = disk; waiting = Header }

-- a journal beside whose area the next one was written, with a head of this size
abbrev pub with_written : {D : Type 0} → Bool → ℕ → JournalView D → D → JournalView D
with_written true size journal disk = record journal { disk = disk; gate = Written size }
with_written false size journal disk = record journal { disk = disk }

-- a journal that has gone on to the next area, whose head has this size, or whose other gate waits
abbrev pub with_opened : {D : Type 0} → Bool → ℕ → JournalView D → D → JournalView D
with_opened true size journal disk = record {
  disk = disk;
  area = other journal.area;
  version = newest;
  generation = journal.generation + 1;
  end = 23 + size;
  frames = 0;
  waiting = Nothing;
  broken = false;
  gate = Loose;
}
with_opened false size journal disk = record journal { disk = disk; waiting = Header }

-- the size of the head that stands written beside the area of the frames
abbrev pub size_written : OtherGate → ℕ
size_written Shut = 0
size_written Loose = 0
size_written (Written size) = size

-- what opening the other gate asks: nothing waits, and the next header stands written behind that gate
pub record CanOpen {D : Type 0} (journal : JournalView D) : Type 0 where
  pub calm : IsCalm journal
  pub written : journal.gate ≡ Written (size_written journal.gate)
  pub generation : journal.generation < 2 ^ 64 - 1

-- what writing behind the other gate asks: nothing waits, the gate is a synced 0, and there is a next generation
pub record CanWrite {D : Type 0} (journal : JournalView D) : Type 0 where
  pub calm : IsCalm journal
  pub shut : journal.gate ≡ Shut
  pub generation : journal.generation < 2 ^ 64 - 1
