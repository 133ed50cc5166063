-- What an area was opened as, and what it is opened as with payloads behind.
use Rattle.std.specs.Prelude.{ℕ, List, ◌++◌}
use Rattle.disk_trait.specs.Past.{Image}
use Rattle.disk_trait.specs.declared.area.Area.{Area}
use Rattle.bbs_journal.specs.Reading.{payloads_of}
use Rattle.bbs_journal.specs.Stops.{OpensAs}
use Rattle.bbs_journal.specs.View.{JournalView}
use Rattle.bbs_journal.specs.declared.loading.Loaded.{Loaded}

-- an area with its version and its generation, its head, and the payloads of its frames
pub record Opened : Type 0 where
  pub area : Area
  pub version : ℕ
  pub generation : ℕ
  pub head : List ℕ
  pub payloads : List (List ℕ)

-- what a journal goes on behind, with this head and these payloads
abbrev pub opened_in : {D : Type 0} → JournalView D → List ℕ → List (List ℕ) → Opened
opened_in journal head payloads = record {
  area = journal.area;
  version = journal.version;
  generation = journal.generation;
  head = head;
  payloads = payloads;
}

-- what was loaded
abbrev pub opened_by : {D : Type 0} → Loaded D → Opened
opened_by loaded = opened_in loaded.journal loaded.head.items (payloads_of loaded.frames.items)

-- the image is opened so, without a defect, and with these payloads behind
abbrev pub OpensBehind : Opened → List (List ℕ) → Image → Type 0
OpensBehind start more image =
    OpensAs image start.area start.version start.generation start.head (start.payloads ++ more)
