-- What the steps of a call do to a journal, and to the board that stands there.
use Rattle.std.specs.Prelude.{◌≡◌, ℕ, ◌+◌, ◌≤◌, Bool, true, false, Option, List, [], ◌∷◌, ◌++◌, if◌then◌else◌}
use Rattle.std.specs.Option.{ForSome}
use Rattle.disk_trait.specs.Past.{Past}
use Rattle.disk_trait.specs.Runs.{Extends}
use Rattle.disk_trait.specs.Steps.{Goes}
use Rattle.bbs_codec.specs.Command.{spelled, FitsCommand, IsReadIn}
use Rattle.bbs_journal.specs.Calls.{Stays, mend_calls}
use Rattle.bbs_journal.specs.View.{JournalView}
use Rattle.bbs_journal.specs.declared.waiting.Waiting.TheVariants.{Nothing}
use Rattle.bbs_model.specs.Replay.{replay_log, IsLawful}
use Rattle.bbs_model.specs.Step.{IsLegal}
use Rattle.bbs_model.specs.declared.command.Command.{Command}
use Rattle.bbs_model.specs.declared.item.Item.{Item}
use Rattle.bbs_model.specs.declared.item.Item.TheVariants.{Done, Doubt}
use Rattle.bbs_model.specs.declared.rows.Rows.{Rows}
use Rattle.bbs_board.specs.View.{StandsOn}

-- the item of a transition, acknowledged or in doubt
abbrev pub item_of : Bool → ℕ → Command → Item
item_of true by c = Done by c
item_of false by c = Doubt by c

-- time went on, and the board stands with this log
pub record StandsWith {D : Type 0} (told : D → Option Past) (base : Rows) (log : List Item) (marks : List ℕ) (since : ℕ)
    (old new : JournalView D) : Type 0 where
  pub extends : Goes (told old.disk) (told new.disk) Extends
  pub stands : StandsOn told base log marks since new

-- whatever board stood there stands there still, with the log that it had
abbrev pub StillStands : {D : Type 0} → (D → Option Past) → JournalView D → JournalView D → Type 0
StillStands told old new =
    (base : Rows) (log : List Item) (marks : List ℕ) (since : ℕ) → IsLawful base log → StandsOn told base log marks since old
    → StandsWith told base log marks since old new

-- where its disk tells its past, the area of a journal may have the command
abbrev pub MayTake : {D : Type 0} → (D → Option Past) → JournalView D → Command → Type 0
MayTake told j c = ForSome (told j.disk) (λ p. IsReadIn j.version c)

-- whatever board stood there stands there with one item more, which has this mark: a command whose payload was put,
-- done or in doubt, and which the area may have
abbrev pub PutsItem : {D : Type 0} → (D → Option Past) → Bool → List ℕ → ℕ → JournalView D → JournalView D → Type 0
PutsItem told ok payload mark old new =
    (base : Rows) (log : List Item) (marks : List ℕ) (since : ℕ) → IsLawful base log → StandsOn told base log marks since old
    → (by : ℕ) (c : Command) → FitsCommand c → MayTake told old c → IsLegal (replay_log base log) c → payload ≡ spelled c
    → StandsWith told base (log ++ item_of ok by c ∷ []) (marks ++ mark ∷ []) since old new

-- what a journal knows by itself after a put: it has no defect, one frame more where it succeeded, and then
-- nothing waits
pub record HasPut {D : Type 0} (ok : Bool) (old new : JournalView D) : Type 0 where
  pub stays : Stays old new
  pub frames : new.frames ≡ (if ok then old.frames + 1 else old.frames)
  pub waits : ok ≡ true → new.waiting ≡ Nothing

-- the device calls of a put: four where it succeeds, behind the two of a mend where a gate waited; where it fails
-- no more than those and the two that close its own gate
pub record PutTakes (ok waits : Bool) (before after : ℕ) : Type 0 where
  pub done : ok ≡ true → after ≡ before + mend_calls waits + 4
  pub most : after ≤ before + mend_calls waits + 6
