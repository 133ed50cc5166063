-- What a call of a board does to its log and to a disk.
use Rattle.std.specs.Prelude.{◌≡◌, ◌≤◌, ℕ, ◌+◌, Bool, true, false, List, [], ◌++◌, length, map}
use Rattle.disk_trait.specs.Past.{Past}
use Rattle.disk_trait.specs.Runs.{Extends}
use Rattle.bbs_model.specs.declared.command.Command.{Command}
use Rattle.bbs_model.specs.declared.item.Item.{Item}
use Rattle.bbs_model.specs.declared.rows.Rows.{Rows}
use Rattle.bbs_model.specs.declared.verdict.Verdict.{Verdict}
use Rattle.bbs_model.specs.declared.verdict.Verdict.TheVariants as verdict
use Rattle.bbs_board.specs.Doubts.{CountsFaults}
use Rattle.bbs_board.specs.Stops.{Stores}
use Rattle.bbs_board.specs.Storing.{StoreTakes}
use Rattle.bbs_board.specs.View.{View}

-- the log gained these items, each with this moment for a mark and at most one of the spare room; without
-- one nothing but that has changed
pub record Grows {D : Type 0} (done : Bool) (items : List Item) (moment : ℕ) (old new : View D) : Type 0 where
  pub base : new.base ≡ old.base
  pub since : new.since ≡ old.since
  pub faults : new.faults ≡ old.faults
  pub log : new.log ≡ old.log ++ items
  pub marks : new.marks ≡ old.marks ++ map (λ item. moment) items
  pub room : old.spare ≤ new.spare + length items
  pub idle : items ≡ [] → new ≡ record old { spare = new.spare }
  pub calm : done ≡ true → new.waits ≡ false

-- what a call does to a disk, by the verdict of its command at these rows
abbrev pub StoresBy : Verdict → Bool → Rows → Command → Past → Past → Type 0
StoresBy verdict.Ok stored rows command p q = Stores stored rows command p q
StoresBy verdict.Same stored rows command p q = q ≡ p
StoresBy (verdict.Refused why) stored rows command p q = q ≡ p

-- time goes on, and where nothing waited to be mended it is known what a stop leaves to the byte
pub record Passes (waits : Bool) (verdict : Verdict) (stored : Bool) (rows : Rows) (command : Command) (p q : Past) : Type 0 where
  pub extends : Extends p q
  pub stores : waits ≡ false → StoresBy verdict stored rows command p q

-- how a call used its disk: how many device calls it made, and whether the disk's count of faults has risen
pub record UsesDisk {D : Type 0} (moment fault_count : D → ℕ) (done failed : Bool) (old new : View D) : Type 0 where
  pub calls : StoreTakes done old.waits old.version old.frames (moment old.disk) (moment new.disk)
  pub faults : CountsFaults failed old.waits new.waits (fault_count old.disk) (fault_count new.disk)
