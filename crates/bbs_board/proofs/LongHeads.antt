-- A head that is longer than that of any board is refused with the defect that its first bytes tell.
use Rattle.std.proofs.Common.{◌≡◌, ◌⊎◌, inl, inr, ℕ, ◌+◌, ◌<◌, ◌≤◌, List, ◌++◌, length, Result, Ok, Err, refl, sym, ap, subst, ◌∙◌, arith}
use Rattle.wire_fields.specs.Reading.{◌>>=◌}
use Rattle.disk_trait.specs.Past.{Image}
use Rattle.disk_trait.specs.declared.area.Area.{Area}
use Rattle.bbs_codec.specs.declared.fault.CodecFault.{CodecFault}
use Rattle.head_codec.specs.Head.{head_reading, longest_head}
use Rattle.head_codec.proofs.Public.{long_same, head_shorter}
use Rattle.bbs_journal.specs.NotLoaded.{HasLongHead}
use Rattle.bbs_journal.specs.Opening.{Headed, headed}
use Rattle.bbs_journal.specs.Outcomes.{IsHeadless, IsOpened}
use Rattle.bbs_journal.specs.declared.load_fault.LoadFault.{LoadFault}
use Rattle.bbs_journal.specs.declared.load_fault.LoadFault.TheVariants.{Disk, NotABoard, Damaged, OutOfMemory}
use Rattle.bbs_journal.specs.declared.not_loaded.LongHead.{LongHead}
use Rattle.bbs_journal.proofs.Public.{opens_or_not}
use Rattle.bbs_model.specs.declared.rows.Rows.{Rows}
use Rattle.bbs_board.specs.Opening.{in_area, rows_in, followed, board_of, Blames, IsRefused, Refuses}

-- bytes that no head is as long as are none
no_head : (version : ℕ) (area : Area) (read : Result Rows CodecFault) (rows : Rows)
    → ((x : Rows) → read ≡ Ok x → ⊥) → in_area version area read ≡ Ok rows → ⊥
no_head version area (Ok x) rows never e = never x refl
no_head version area (Err fault) rows never e = cc

pub long_unread : (version : ℕ) (area : Area) (begin : List ℕ) (rows : Rows) → length begin ≡ longest_head
    → rows_in version area begin ≡ Ok rows → ⊥
long_unread version area begin rows long e =
    no_head version area (head_reading version begin) rows
    (λ x is. let shorter = head_shorter version begin x is in omega (arith, shorter, long)) e

-- they tell the defect of all that begins with them
pub long_blames : (version : ℕ) (area : Area) (begin rest : List ℕ) (fault : LoadFault) → length begin ≡ longest_head
    → Blames fault (rows_in version area begin) → Blames fault (rows_in version area (begin ++ rest))
long_blames version area begin rest fault long blames =
    subst (λ (r : Result Rows CodecFault). Blames fault (in_area version area r))
    (sym (long_same version begin rest (omega (arith, long)))) blames

-- what was read has no defect of the disk's own
pub blames_no_disk : (told : Result Rows LoadFault) → Blames Disk told → ⊥
blames_no_disk told h = h

same_headed : (a b : Headed) (r : Result Headed LoadFault) → r ≡ Ok a → r ≡ Ok b → a ≡ b
same_headed a b r first second = cc

module _ (long : LongHead) (c : Image) (is : HasLongHead long c) where
  abbrev pub head : List ℕ
  head = long.begin.items ++ is.rest

  at_opening : (fault : LoadFault) → rows_in long.version long.area head ≡ Err fault → IsHeadless c ⊎ IsOpened c
      → IsRefused fault c
  at_opening fault e (inl headless) = absurd (let none = headless.refused in let some = is.head_is in cc)
  at_opening fault e (inr opened) =
      let same = same_headed (record {
        area = opened.area;
        version = opened.version;
        generation = opened.generation;
        head = opened.head;
      }) (record {
        area = long.area;
        version = long.version;
        generation = is.generation;
        head = head;
      }) (headed c) opened.opening.head_is is.head_is in
      let read : rows_in opened.version opened.area opened.head ≡ Err fault =
      ap (λ (h : Headed). rows_in h.version h.area h.head) same ∙ e in
      inr (record {
        area = opened.area;
        version = opened.version;
        generation = opened.generation;
        head = opened.head;
        payloads = opened.payloads;
        broken = opened.broken;
        end = opened.end;
        opening = opened.opening;
        fault_is = ap (λ (r : Result Rows LoadFault). r >>= λ rows. followed opened.version opened.area opened.broken
            rows (23 + length opened.head) opened.payloads) read;
      })

  refused : (fault : LoadFault) → rows_in long.version long.area head ≡ Err fault → IsRefused fault c
  refused fault e = at_opening fault e (opens_or_not c)

  pub long_refused : (fault : LoadFault) → Blames fault (rows_in long.version long.area head) → Refuses fault c
  long_refused Disk blames = tt
  long_refused (NotABoard area) blames = refused (NotABoard area) blames
  long_refused (Damaged area at) blames = refused (Damaged area at) blames
  long_refused OutOfMemory blames = tt
