-- Why no journal was loaded.
use Rattle.std.specs.Prelude.{◌≡◌, ℕ, ◌<◌, Bool, true, false, List, ◌++◌, length, Ok}
use Rattle.disk_trait.specs.Past.{Image}
use Rattle.bbs_journal.specs.Header.{IsVersion}
use Rattle.bbs_journal.specs.LoadFaults.{is_load_disk_fault, Fails}
use Rattle.bbs_journal.specs.Opening.{headed}
use Rattle.bbs_journal.specs.declared.not_loaded.LongHead.{LongHead}
use Rattle.bbs_journal.specs.declared.not_loaded.NotLoaded.{NotLoaded}
use Rattle.bbs_journal.specs.declared.not_loaded.NotLoaded.TheVariants as why

-- the image has a head, which begins with these bytes and is longer
pub record HasLongHead (long : LongHead) (c : Image) : Type 0 where
  pub generation : ℕ
  pub rest : List ℕ
  pub longer : 0 < length rest
  pub head_is : headed c ≡ Ok (record {
    area = long.area;
    version = long.version;
    generation = generation;
    head = long.begin.items ++ rest;
  })

-- the image is why there is no journal, where the content of the disk is the cause
abbrev pub IsWhy : NotLoaded → Image → Type 0
IsWhy (why.Fault fault) c = Fails fault (headed c)
IsWhy (why.LongHead long) c = HasLongHead long c

-- so many bytes of a long head were read, of a version that is read
abbrev pub IsCutAt : ℕ → NotLoaded → Type 0
IsCutAt most (why.Fault fault) = Unit {0}
IsCutAt most (why.LongHead long) = (length long.begin.items ≡ most) × IsVersion long.version

-- the disk failed
abbrev pub is_disk_why : NotLoaded → Bool
is_disk_why (why.Fault fault) = is_load_disk_fault fault
is_disk_why (why.LongHead long) = false
