-- What every image comes to.
use Rattle.std.specs.Prelude.{◌≡◌, ◌⊎◌, ℕ, Option, List, Err}
use Rattle.disk_trait.specs.Past.{Image}
use Rattle.disk_trait.specs.declared.area.Area.{Area}
use Rattle.bbs_journal.specs.Opening.{headed, IsOpening}
use Rattle.bbs_journal.specs.declared.load_fault.LoadFault.{LoadFault}

-- no head can be read of the image, for this defect
pub record IsHeadless (c : Image) : Type 0 where
  pub fault : LoadFault
  pub refused : headed c ≡ Err fault

-- the image is a head and frames behind it, up to a closed gate or a defect
pub record IsOpened (c : Image) : Type 0 where
  pub area : Area
  pub version : ℕ
  pub generation : ℕ
  pub head : List ℕ
  pub payloads : List (List ℕ)
  pub broken : Option ℕ
  pub end : ℕ
  pub opening : IsOpening c area version generation head payloads broken end

-- each image is one of the two, whatever stands in it
abbrev pub OpensOrHasNoHead : Type 0
OpensOrHasNoHead = (c : Image) → IsHeadless c ⊎ IsOpened c
