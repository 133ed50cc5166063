-- What a disk reads, and what it reads after many calls: the history that it read before, with what was done
-- behind it, and where the area was full or old the other one in its place.
use Rattle.std.specs.Prelude.{◌≡◌, ℕ, ◌+◌, ◌||◌, ◌==◌, Bool, nat_le, nat_lt, List, [], ◌∷◌, ◌++◌, length, None, Ok, if◌then◌else◌}
use Rattle.disk_trait.specs.Past.{Past, Image, content, other}
use Rattle.disk_trait.specs.declared.area.Area.{Area}
use Rattle.bbs_codec.specs.Command.{spelled}
use Rattle.head_codec.specs.Head.{head_spelled}
use Rattle.bbs_journal.specs.Header.{newest}
use Rattle.bbs_journal.specs.Stops.{OpensAs}
use Rattle.bbs_model.specs.Step.{rows_after}
use Rattle.bbs_model.specs.declared.command.Command.{Command}
use Rattle.bbs_model.specs.declared.item.Item.{Item}
use Rattle.bbs_model.specs.declared.item.Item.TheVariants.{Done, Doubt}
use Rattle.bbs_model.specs.declared.rows.Rows.{Rows}
use Rattle.bbs_board.specs.Opening.{board_of}

-- what an area holds, as whoever opens it reads it
pub record Reading : Type 0 where
  pub area : Area
  pub version : ℕ
  pub generation : ℕ
  pub head : List ℕ
  pub payloads : List (List ℕ)

-- the image is opened so
abbrev pub OpensTo : Reading → Image → Type 0
OpensTo r image = OpensAs image r.area r.version r.generation r.head r.payloads

-- what the disk reads now is opened so, without a defect
abbrev pub ReadsAs : Reading → Past → Type 0
ReadsAs r p = OpensAs (content p) r.area r.version r.generation r.head r.payloads

-- what is read leads to these rows
abbrev pub LeadsTo : Reading → Rows → Type 0
LeadsTo r rows = board_of r.version r.area r.head r.payloads None ≡ Ok rows

-- the other area with the newest version, the next generation and the head of these rows
abbrev pub headed_instead : Rows → Reading → Reading
headed_instead rows r = record {
  area = other r.area;
  version = newest;
  generation = r.generation + 1;
  head = head_spelled newest rows;
  payloads = [];
}

-- there are frames, or an old version, to make away with
abbrev pub may_compact : Reading → Bool
may_compact r = nat_lt 0 (length r.payloads) || r.version == 1

-- what is read after a checkpoint of these rows
abbrev pub compacted : Rows → Reading → Reading
compacted rows r = if may_compact r then headed_instead rows r else r

-- a checkpoint comes before the next payload: there are 4,096 or more, or the area is of version 1
abbrev pub is_due : Reading → Bool
is_due r = nat_le 4096 (length r.payloads) || r.version == 1

-- what is read when there is room for one more command: where the area was full or old, a checkpoint of these rows
abbrev pub with_room : Rows → Reading → Reading
with_room rows r = if is_due r then compacted rows r else r

-- one payload more
abbrev pub with_payload : List ℕ → Reading → Reading
with_payload payload r = record r { payloads = r.payloads ++ payload ∷ [] }

-- what is read after a command was stored at these rows: one frame more, or where the area was full or old the other
-- area with the head of these rows and this frame alone
abbrev pub stored_behind : Rows → Command → Reading → Reading
stored_behind rows c r = with_payload (spelled c) (with_room rows r)

-- each item that was done is stored behind the one before it, at the rows that it came to, and none for a doubt
abbrev pub written_behind : Rows → Reading → List Item → Reading
written_behind rows r [] = r
written_behind rows r (Done by c ∷ is) = written_behind (rows_after rows c) (stored_behind rows c r) is
written_behind rows r (Doubt by c ∷ is) = written_behind rows r is

-- however the disk read, it reads so with these items written behind, the first of them at these rows
abbrev pub WritesOn : Rows → List Item → Past → Past → Type 0
WritesOn rows items p q = (r : Reading) → ReadsAs r p → ReadsAs (written_behind rows r items) q
