-- What a board did since its load.
use Rattle.std.specs.Prelude.{ℕ, ◌-◌, List, [], ◌∷◌, ◌++◌, Option, Some, None}
use Rattle.bbs_model.specs.declared.command.Command.{Command}
use Rattle.bbs_model.specs.declared.event.Events.{Events}
use Rattle.bbs_model.specs.declared.item.Item.{Item}
use Rattle.bbs_model.specs.declared.item.Item.TheVariants.{Done, Doubt}

-- its items, the disk's clock at the end of the call of each, what each told, and how many more fit
pub record Entries : Type 0 where
  pub log : List Item
  pub marks : List ℕ
  pub told : List (Option Events)
  pub room : ℕ

-- the item of a command that told this
abbrev pub item_by : ℕ → Command → Option Events → Item
item_by by c (Some events) = Done by c
item_by by c None = Doubt by c

-- one item more, with its mark and what it told
abbrev pub with_item : ℕ → Command → ℕ → Option Events → Entries → Entries
with_item by c mark told e = record {
  log = e.log ++ item_by by c told ∷ [];
  marks = e.marks ++ mark ∷ [];
  told = e.told ++ told ∷ [];
  room = e.room - 1;
}
