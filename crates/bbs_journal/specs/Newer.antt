-- Which of two open areas is taken.
use Rattle.std.specs.Prelude.{◌≡◌, ◌≢◌, ℕ, ◌<◌, Option, List, Err}
use Rattle.disk_trait.specs.Past.{Image}
use Rattle.disk_trait.specs.declared.area.Area.{Area}
use Rattle.disk_trait.specs.declared.area.Area.TheVariants.{A, B}
use Rattle.bbs_journal.specs.Header.{front, header_of}
use Rattle.bbs_journal.specs.Opening.{headed, IsOpening}
use Rattle.bbs_journal.specs.Grammar.{Recovers}
use Rattle.bbs_journal.specs.declared.header.Header.TheVariants.{Open}
use Rattle.bbs_journal.specs.declared.load_fault.LoadFault.TheVariants.{Damaged}

-- the gates of both headers are open, and these are their generations
pub record AreOpen (c : Image) (a b : ℕ) : Type 0 where
  pub version_a : ℕ
  pub version_b : ℕ
  pub in_a : header_of (front (c A)) ≡ Open version_a a
  pub in_b : header_of (front (c B)) ≡ Open version_b b

-- whatever this image is opened as, it is so from this area and this generation
abbrev pub OpensOnly : Image → Area → ℕ → Type 0
OpensOnly c area generation =
    (area' : Area) (version' generation' : ℕ) (head : List ℕ) (payloads : List (List ℕ)) (broken : Option ℕ) (end : ℕ)
    → IsOpening c area' version' generation' head payloads broken end → (area' ≡ area) × (generation' ≡ generation)

-- whatever journal the grammar finds in this image, it is in this area and of this generation
abbrev pub RecoversOnly : Image → Area → ℕ → Type 0
RecoversOnly c area generation =
    (area' : Area) (version' generation' : ℕ) (head : List ℕ) (payloads : List (List ℕ))
    → Recovers c area' version' generation' head payloads → (area' ≡ area) × (generation' ≡ generation)

-- of two open areas the one of the greater generation alone is opened, and two of one generation are refused
pub record TakesTheNewer (c : Image) (a b : ℕ) : Type 0 where
  pub in_b : a < b → OpensOnly c B b
  pub in_a : b < a → OpensOnly c A a
  pub refused : a ≡ b → headed c ≡ Err (Damaged B 11)

-- and by the grammar that one alone can hold a journal, and two of one generation hold none
pub record HoldsTheNewer (c : Image) (a b : ℕ) : Type 0 where
  pub in_b : a < b → RecoversOnly c B b
  pub in_a : b < a → RecoversOnly c A a
  pub apart : (area : Area) (version generation : ℕ) (head : List ℕ) (payloads : List (List ℕ)) → Recovers c area version generation head payloads → a ≢ b

-- so each image with two open areas is opened
abbrev pub NewerIsOpened : Type 0
NewerIsOpened = (c : Image) (a b : ℕ) → AreOpen c a b → TakesTheNewer c a b

-- and so the grammar reads it
abbrev pub NewerIsRecovered : Type 0
NewerIsRecovered = (c : Image) (a b : ℕ) → AreOpen c a b → HoldsTheNewer c a b

-- two journals that the grammar finds in one image are one
pub record AreOneJournal (area area' : Area) (version version' generation generation' : ℕ) (head head' : List ℕ)
    (payloads payloads' : List (List ℕ)) : Type 0 where
  pub area_is : area ≡ area'
  pub version_is : version ≡ version'
  pub generation_is : generation ≡ generation'
  pub head_is : head ≡ head'
  pub payloads_are : payloads ≡ payloads'

-- the grammar finds one journal in an image at most
abbrev pub RecoversOnce : Type 0
RecoversOnce =
    (c : Image) (area area' : Area) (version version' generation generation' : ℕ) (head head' : List ℕ) (payloads payloads' : List (List ℕ))
    → Recovers c area version generation head payloads → Recovers c area' version' generation' head' payloads'
    → AreOneJournal area area' version version' generation generation' head head' payloads payloads'
