-- What a log of lock commands keeps, as lockets.
use Rattle.std.proofs.Common.{◌≡◌, ◌⊎◌, inl, inr, ℕ, ◌+◌, None, Ok, List, [], ◌∷◌, ◌++◌, map, take, refl, sym, subst, append_assoc}
use Rattle.std.proofs.lemmas.List.{map-append}
use Rattle.disk_trait.specs.Past.{Past, Image}
use Rattle.payload_log.specs.Entries.{done_in, stored_in}
use Rattle.payload_log.specs.Kept.{KeptList, IsListed, ShowsDoubt}
use Rattle.payload_log.specs.Opened.{Opened, OpensBehind}
use Rattle.locket.specs.Bytes.{FitsLock, lock_spelled}
use Rattle.locket.specs.Kept.{IsFoundLocket, KeptLocks}
use Rattle.locket.specs.Lives.{LockLog, state_from, state_of, IsChange, AreChanges, IsLawful, lived}
use Rattle.locket.specs.Opening.{locks_of, commands_in, IsLocket}
use Rattle.locket.specs.View.{AreSpelled}
use Rattle.locket.specs.declared.command.LockCommand.{LockCommand}
use Rattle.locket.proofs.Payloads.{more_is_locket}
use Rattle.locket.proofs.Living.{AllFit, done_fit, fit-append, spelled_take, spelled_doubt, lawful_changes, lawful_take, lawful_doubt, changes-append}

-- a log that began with a lock journal
abbrev pub BeganAsLocks : Opened → Type 0
BeganAsLocks start = locks_of start.version start.area start.head start.payloads None
    ≡ Ok (state_of (commands_in start.payloads))

module _ (start : Opened) (opened : BeganAsLocks start) where
  abbrev base : List LockCommand
  base = commands_in start.payloads

  -- an image with these commands behind what was opened is a locket
  pub behind_locket : (cs : List LockCommand) (image : Image) → AllFit cs → AreChanges (state_of base) cs
      → OpensBehind start (map lock_spelled cs) image → IsLocket (base ++ cs) image
  behind_locket cs image fit are opening = more_is_locket image start.area start.version start.generation start.head
      start.payloads _ cs opened fit are opening

  -- and with those of a log, and one more
  pub behind_more : (log : LockLog) (c : LockCommand) (image : Image) → AreSpelled log → IsLawful (state_of base) log
      → FitsLock c → IsChange (state_from (state_of base) (done_in log)) c
      → OpensBehind start (stored_in lock_spelled log ++ lock_spelled c ∷ []) image
      → IsLocket (lived base log ++ c ∷ []) image
  behind_more log c image fits lawful fit change opening =
      subst (λ (life : List LockCommand). IsLocket life image) (sym (append_assoc base (done_in log) (c ∷ [])))
      (behind_locket (done_in log ++ c ∷ []) image (fit-append (done_in log) (c ∷ []) (done_fit log fits) (fit, tt))
      (changes-append (state_of base) (done_in log) (c ∷ []) (lawful_changes (state_of base) log lawful) (change, tt))
      (subst (λ (l : List (List ℕ)). OpensBehind start l image)
      (sym (map-append lock_spelled (done_in log) (c ∷ []))) opening))

  pub behind_log : (log : LockLog) (image : Image) → AreSpelled log → IsLawful (state_of base) log
      → OpensBehind start (stored_in lock_spelled log) image → IsLocket (lived base log) image
  behind_log log image fits lawful opening = behind_locket (done_in log) image (done_fit log fits)
      (lawful_changes (state_of base) log lawful) opening

  module _ (log : LockLog) (fits : AreSpelled log) (lawful : IsLawful (state_of base) log) where
    listed_found : (from : ℕ) (image : Image) → IsListed lock_spelled start log from image
        → IsFoundLocket base log from image
    listed_found from image is = by_opening is.opens
      where
        front : LockLog
        front = take is.place log

        by_opening : OpensBehind start (stored_in lock_spelled (take is.place log)) image
            ⊎ ShowsDoubt lock_spelled start log is.place image → IsFoundLocket base log from image
        by_opening (inl opening) = record {
          life = lived base (take is.place log);
          locket = behind_log (take is.place log) image (spelled_take log is.place fits)
              (lawful_take (state_of base) log is.place lawful) opening;
          led = record { place = is.place; low = is.low; high = is.high; ends = inl refl };
        }
        by_opening (inr shows) = record {
          life = lived base (take is.place log) ++ shows.payload ∷ [];
          locket = behind_more (take is.place log) shows.payload image (spelled_take log is.place fits)
              (lawful_take (state_of base) log is.place lawful)
              (spelled_doubt log is.place shows.payload fits shows.doubt)
              (lawful_doubt (state_of base) log is.place shows.payload lawful shows.doubt) shows.shown;
          led = record {
            place = is.place;
            low = is.low;
            high = is.high;
            ends =
                inr (record { command = shows.payload; doubt = shows.doubt; life_is = refl });
          };
        }

    pub kept_locks : (marks : List ℕ) (since : ℕ) (p : Past) → KeptList lock_spelled start log marks since p
        → KeptLocks base log marks since p
    kept_locks marks since p kept = record {
      lock_count = kept.list_count;
      lock_rising = kept.list_rising;
      lock_found = λ image images. listed_found 0 image (kept.list_found image images);
      lock_acknowledged = λ place mark command item marked image images.
          listed_found (place + 1) image (kept.list_acknowledged place mark command item marked image images);
    }
