-- What a board is opened as: the rows of its head, and then its commands, one after another. Both are read by the
-- version of their area.
use Rattle.std.specs.Prelude.{◌≡◌, ◌⊎◌, ℕ, ◌+◌, ◌==◌, List, [], ◌∷◌, length, map, Option, Some, None, Result, Ok, Err, if◌then◌else◌}
use Rattle.disk_trait.specs.Past.{Image}
use Rattle.disk_trait.specs.declared.area.Area.{Area}
use Rattle.wire_fields.specs.Reading.{◌>>=◌}
use Rattle.bbs_codec.specs.Command.{reading}
use Rattle.head_codec.specs.Head.{head_reading, fault_place}
use Rattle.bbs_codec.specs.declared.fault.CodecFault.{CodecFault}
use Rattle.bbs_index.specs.Index.{Indexed}
use Rattle.bbs_journal.specs.Opening.{IsOpening, headed}
use Rattle.bbs_journal.specs.declared.load_fault.LoadFault.{LoadFault}
use Rattle.bbs_journal.specs.declared.load_fault.LoadFault.TheVariants.{Disk, NotABoard, Damaged, OutOfMemory}
use Rattle.lrp_records.specs.declared.actual.Actual.{Actual}
use Rattle.bbs_model.specs.Lrps.{domain_of}
use Rattle.bbs_model.specs.Runs.{if_legal}
use Rattle.bbs_model.specs.Step.{verdict_of, rows_after}
use Rattle.bbs_model.specs.Tables.{find_desired}
use Rattle.bbs_model.specs.declared.command.Command.{Command}
use Rattle.bbs_model.specs.declared.rows.Rows.{Rows}

-- the row with the domain of its process among these rows, or without one where that isn't desired
abbrev pub with_domain : Rows → Actual → Actual
with_domain rows a = record a { domain = domain_of (find_desired rows a.key.process) }

-- each actual row with the domain of its process
abbrev pub with_domains : Rows → Rows
with_domains rows = record rows { actual = map (with_domain rows) rows.actual }

-- the rows that a board begins with, by those that its head tells in a version: in version 1 it tells no domain of an
-- actual row
abbrev pub settled : ℕ → Rows → Rows
settled version rows = if version == 1 then with_domains rows else rows

-- what was read of the head of an area, which stands at 23: the rows that it comes to, or its defect at its place there
abbrev pub in_area : ℕ → Area → Result Rows CodecFault → Result Rows LoadFault
in_area version area (Ok rows) = Ok (settled version rows)
in_area version area (Err fault) = Err (Damaged area (23 + fault_place fault))

-- the rows that the head of an area comes to, or its first defect
abbrev pub rows_in : ℕ → Area → List ℕ → Result Rows LoadFault
rows_in version area head = in_area version area (head_reading version head)

-- the rows after a command, where it is legal
abbrev pub after_legal : Rows → Command → Option Rows
after_legal rows c = if_legal (verdict_of rows c) (Some (rows_after rows c)) None

-- the rows after what was read of a payload
abbrev pub after_read : Rows → Result Command CodecFault → Option Rows
after_read rows (Ok c) = after_legal rows c
after_read rows (Err fault) = None

-- the rows after a payload, where it is a command that areas of the version may have, and is legal there
abbrev pub after_payload : ℕ → Rows → List ℕ → Option Rows
after_payload version rows payload = after_read rows (reading version payload)

-- what comes of rows, if there are any, and else a defect at this place
abbrev pub or_damaged : Area → ℕ → Option Rows → (Rows → Result Rows LoadFault) → Result Rows LoadFault
or_damaged area at None go = Err (Damaged area at)
or_damaged area at (Some rows) go = go rows

-- rows that stand, unless there is a defect behind them
abbrev pub unless_broken : Area → Option ℕ → Rows → Result Rows LoadFault
unless_broken area None rows = Ok rows
unless_broken area (Some place) rows = Err (Damaged area place)

-- the rows after the frames of these payloads, which stand from a place on, or the defect that stands
-- first: a frame whose payload isn't a legal command there, at its gate, or what is broken behind them
abbrev pub followed : ℕ → Area → Option ℕ → Rows → ℕ → List (List ℕ) → Result Rows LoadFault
followed version area broken rows at [] = unless_broken area broken rows
followed version area broken rows at (payload ∷ payloads) =
    or_damaged area at (after_payload version rows payload)
    (λ next. followed version area broken next (at + 3 + length payload) payloads)

-- the defect that a reader tells is the one told; want of memory says nothing of what is read
abbrev pub Blames : LoadFault → Result Rows LoadFault → Type 0
Blames Disk told = ⊥
Blames (NotABoard area) told = told ≡ Err (NotABoard area)
Blames (Damaged area at) told = told ≡ Err (Damaged area at)
Blames OutOfMemory told = Unit {0}

-- an answer of a reader that left these rows: they are the ones told, or the defect is
abbrev pub Tells : Result (Unit {0}) LoadFault → Rows → Result Rows LoadFault → Type 0
Tells (Ok done) rows told = told ≡ Ok rows
Tells (Err fault) rows told = Blames fault told

-- the same of an answer that has the rows
abbrev pub Gives : Result Indexed LoadFault → Result Rows LoadFault → Type 0
Gives (Ok index) told = told ≡ Ok index.rows
Gives (Err fault) told = Blames fault told

-- the rows of a head and then of the frames behind it, or the defect that stands first
abbrev pub board_of : ℕ → Area → List ℕ → List (List ℕ) → Option ℕ → Result Rows LoadFault
board_of version area head payloads broken =
    rows_in version area head >>= λ rows. followed version area broken rows (23 + length head) payloads

-- the image is a board with these rows
pub record IsBoard (rows : Rows) (c : Image) : Type 0 where
  pub area : Area
  pub version : ℕ
  pub generation : ℕ
  pub head : List ℕ
  pub payloads : List (List ℕ)
  pub end : ℕ
  pub opening : IsOpening c area version generation head payloads None end
  pub rows_are : board_of version area head payloads None ≡ Ok rows

-- the image has whole headers and a head, and this is the first defect from there on
pub record IsDamaged (fault : LoadFault) (c : Image) : Type 0 where
  pub area : Area
  pub version : ℕ
  pub generation : ℕ
  pub head : List ℕ
  pub payloads : List (List ℕ)
  pub broken : Option ℕ
  pub end : ℕ
  pub opening : IsOpening c area version generation head payloads broken end
  pub fault_is : board_of version area head payloads broken ≡ Err fault

-- the image is no board, and this is its first defect
abbrev pub IsRefused : LoadFault → Image → Type 0
IsRefused fault c = (headed c ≡ Err fault) ⊎ IsDamaged fault c

-- the fault of a load, where the content of the disk is its cause
abbrev pub Refuses : LoadFault → Image → Type 0
Refuses Disk c = Unit {0}
Refuses (NotABoard area) c = IsRefused (NotABoard area) c
Refuses (Damaged area at) c = IsRefused (Damaged area at) c
Refuses OutOfMemory c = Unit {0}
