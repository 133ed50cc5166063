-- Storing a command in a journal: where its area is full or old it goes on in the other one first.
use Rattle.std.specs.Prelude.{◌≡◌, ◌⊎◌, ℕ, ◌+◌, ◌-◌, ◌^◌, ◌<◌, ◌≤◌, Bool, true, false, Option, List, [], ◌∷◌, ◌++◌, length, if◌then◌else◌}
use Rattle.disk_trait.specs.Past.{Past}
use Rattle.disk_trait.specs.Steps.{Goes}
use Rattle.bbs_codec.specs.Command.{spelled, FitsCommand}
use Rattle.head_codec.specs.Head.{head_spelled, FitsHead}
use Rattle.bbs_journal.specs.Calls.{mend_calls}
use Rattle.bbs_journal.specs.Header.{newest}
use Rattle.bbs_journal.specs.View.{JournalView, is_waiting, frame_waits}
use Rattle.bbs_model.specs.Replay.{replay_log, IsLawful}
use Rattle.bbs_model.specs.Step.{IsLegal}
use Rattle.bbs_model.specs.Valid.{IsValid}
use Rattle.bbs_model.specs.declared.command.Command.{Command}
use Rattle.bbs_model.specs.declared.item.Item.{Item}
use Rattle.bbs_model.specs.declared.rows.Rows.{Rows}
use Rattle.bbs_board.specs.Puts.{item_of, StandsWith}
use Rattle.bbs_board.specs.Stops.{Stores}
use Rattle.bbs_board.specs.View.{StandsOn, wants_checkpoint}

-- the bytes are the head of these rows, and a header can tell its length
pub record IsHeadOf (rows : Rows) (bytes : List ℕ) : Type 0 where
  pub bytes_are : bytes ≡ head_spelled newest rows
  pub fits : FitsHead newest rows
  pub small : length bytes < 2 ^ 32

-- whatever board stood there stands there with one item more, which has this mark: a command whose payload was stored,
-- done or in doubt, behind a checkpoint with this head where one was due; and where nothing waited it is known what a
-- stop leaves to the byte
abbrev pub StoresItem : {D : Type 0} → (D → Option Past) → Bool → List ℕ → List ℕ → ℕ → JournalView D → JournalView D →
    Type 0
StoresItem told ok head payload mark old new =
    (base : Rows) (log : List Item) (marks : List ℕ) (since : ℕ) → IsLawful base log → IsValid (replay_log base log)
    → StandsOn told base log marks since old → (wants_checkpoint old ≡ true → IsHeadOf (replay_log base log) head)
    → (by : ℕ) (c : Command) → FitsCommand c → IsLegal (replay_log base log) c → payload ≡ spelled c
    → StandsWith told base (log ++ item_of ok by c ∷ []) (marks ++ mark ∷ []) since old new
    × (is_waiting old.waiting ≡ false → Goes (told old.disk) (told new.disk) (Stores ok (replay_log base log) c))

-- what a journal knows by itself after that: it has no defect, one frame more at most, and no more than an area is
-- to have where it succeeded, which is then of the newest version, and then nothing waits; a gate behind frames waits
-- only where no checkpoint is due
pub record HasStored {D : Type 0} (ok : Bool) (old new : JournalView D) : Type 0 where
  pub whole : new.broken ≡ false
  pub frames : new.frames ≤ (if ok then old.frames + 1 else old.frames)
  pub short : ok ≡ true → old.generation < 2 ^ 64 - 1 → new.frames ≤ 4096
  pub renewed : ok ≡ true → old.generation < 2 ^ 64 - 1 → new.version ≡ newest
  pub waits : ok ≡ true → is_waiting new.waiting ≡ false
  pub crowded : (frame_waits old.waiting ≡ true → wants_checkpoint old ≡ false)
      → frame_waits new.waiting ≡ true → wants_checkpoint new ≡ false

-- the device calls of storing a command, behind the two of a mend where a gate waited: four, and before them those of
-- a checkpoint, six or eight, if the area had 4,096 frames or was of version 1; where it fails no more than these and
-- the two that close its own gate
pub record StoreTakes (ok waits : Bool) (version frames before after : ℕ) : Type 0 where
  pub switch : ℕ
  pub kind : (switch ≡ 0) ⊎ ((switch ≡ 6) ⊎ (switch ≡ 8))
  pub none : frames < 4096 → version ≡ newest → switch ≡ 0
  pub done : ok ≡ true → after ≡ before + mend_calls waits + switch + 4
  pub most : after ≤ before + mend_calls waits + switch + 6
