-- A switch to the other area: what a stop leaves during it and after it, and what is known of both areas then.
use Rattle.std.specs.Prelude.{◌≡◌, ◌⊎◌, ℕ, ◌+◌, ◌-◌, ◌^◌, ◌<◌, Bool, true, false, List, [], ◌∷◌, length, if◌then◌else◌}
use Rattle.disk_trait.specs.Held.{Has}
use Rattle.disk_trait.specs.Past.{Past, Image, Images, ImagesSince, now, other}
use Rattle.disk_trait.specs.Runs.{Extends}
use Rattle.disk_trait.specs.declared.area.Area.{Area}
use Rattle.bbs_journal.specs.Areas.{Ready}
use Rattle.bbs_journal.specs.Beside.{Beside}
use Rattle.bbs_journal.specs.Calls.{Stays}
use Rattle.bbs_journal.specs.Grammar.{heading, GoesWith}
use Rattle.bbs_journal.specs.Header.{newest}
use Rattle.bbs_journal.specs.Stops.{OpensAs}
use Rattle.bbs_journal.specs.Switching.{with_opened}
use Rattle.bbs_journal.specs.View.{JournalView, IsCalm, is_waiting}
use Rattle.bbs_journal.specs.declared.other_gate.OtherGate.{OtherGate}
use Rattle.bbs_journal.specs.declared.other_gate.OtherGate.TheVariants.{Loose}
use Rattle.bbs_journal.specs.declared.waiting.Waiting.{Waiting}
use Rattle.bbs_journal.specs.declared.waiting.Waiting.TheVariants.{Nothing, Header}

-- what a switch asks: nothing waits, the area has no defect, and there is a next generation
pub record CanSwitch {D : Type 0} (journal : JournalView D) : Type 0 where
  pub calm : IsCalm journal
  pub generation : journal.generation < 2 ^ 64 - 1

-- how the areas stand after a switch that was made: the new one takes frames, and the old one is older
pub record IsSwitched (area : Area) (generation : ℕ) (new : List ℕ) (q : Past) : Type 0 where
  pub ready : Ready (1 ∷ heading newest (generation + 1) new) [] (23 + length new) (now q (other area))
  pub beside : Has (Beside [] Nothing Loose (generation + 1)) (now q area)

-- and after one that failed: nothing has changed in the old area, and this is known of the other
pub record IsLeftBySwitch (area : Area) (generation : ℕ) (new : List ℕ) (waiting : Waiting) (gate : OtherGate) (p q : Past) : Type 0 where
  pub still : now q area ≡ now p area
  pub beside : Has (Beside new waiting gate generation) (now q (other area))

-- a switch from an area of this head and these payloads to a new head: each stop leaves what is opened as the old
-- area, or as the new one, and once it is made only the second
pub record Switches (ok : Bool) (area : Area) (version generation : ℕ) (head : List ℕ) (payloads : List (List ℕ))
    (waiting : Waiting) (gate : OtherGate) (new : List ℕ) (p q : Past) : Type 0 where
  pub extends : Extends p q
  pub each : (image : Image) → ImagesSince q p.clock image
      → OpensAs image area version generation head payloads ⊎ OpensAs image (other area) newest (generation + 1) new []
  pub done : ok ≡ true → (image : Image) → Images q image → OpensAs image (other area) newest (generation + 1) new []
  pub made : ok ≡ true → IsSwitched area generation new q
  pub failed : ok ≡ false → IsLeftBySwitch area generation new waiting gate p q

-- whatever head and payloads the old area holds, where both generations are ones that a reader takes; the new area is
-- of the newest version
abbrev pub SwitchesAll : Bool → Area → ℕ → ℕ → Waiting → OtherGate → List ℕ → Past → Past → Type 0
SwitchesAll ok area version generation waiting gate new p q =
    (byte : ℕ) (head : List ℕ) (payloads : List (List ℕ)) (end : ℕ)
    → 0 < byte → GoesWith version generation head → GoesWith newest (generation + 1) new
    → Ready (byte ∷ heading version generation head) payloads end (now p area)
    → Switches ok area version generation head payloads waiting gate new p q

-- a journal that has stayed in its area, and has at most the header gate of the other one to mend
pub record StaysThere {D : Type 0} (old new : JournalView D) : Type 0 where
  pub stays : Stays old new
  pub end : new.end ≡ old.end
  pub frames : new.frames ≡ old.frames
  pub waiting : new.waiting ≡ (if is_waiting new.waiting then Header else Nothing)

-- what the journal knows after a switch to a head of this size
pub record KnowsAfterSwitch {D : Type 0} (ok : Bool) (size : ℕ) (old new : JournalView D) : Type 0 where
  pub made : ok ≡ true → new ≡ with_opened true size old new.disk
  pub failed : ok ≡ false → StaysThere old new
