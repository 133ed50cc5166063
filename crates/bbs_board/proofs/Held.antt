-- The whole board after an item was added to its log, or none.
use Rattle.std.proofs.Common.{◌≡◌, ℕ, ◌+◌, ◌≤◌, Bool, true, false, List, [], ◌∷◌, ◌++◌, Option, Some, Result, Ok, Err, refl, sym, ap, subst, ◌∙◌, arith, if◌then◌else◌}
use Rattle.std.specs.Prelude.{not, is_err, OnOk}
use Rattle.std.specs.Option.{ForSome}
use Rattle.disk_trait.specs.Past.{Past}
use Rattle.disk_trait.specs.Runs.{Extends}
use Rattle.disk_trait.specs.Steps.{Goes}
use Rattle.disk_trait.proofs.Public.{goes_back}
use Rattle.byte_ports.specs.Cause.{HasCause}
use Rattle.bbs_codec.specs.Command.{spelled, FitsCommand}
use Rattle.bbs_journal.specs.View.{JournalView, is_waiting, frame_waits}
use Rattle.bbs_model.specs.Replay.{replay_log, IsLawful, after_item, command_in}
use Rattle.bbs_model.specs.Step.{IsLegal}
use Rattle.bbs_model.specs.Told.{told_by, told_in}
use Rattle.bbs_model.specs.Valid.{IsValid}
use Rattle.bbs_model.specs.declared.command.Command.{Command}
use Rattle.bbs_model.specs.declared.event.Events.{Events}
use Rattle.bbs_model.specs.declared.item.Item.{Item}
use Rattle.bbs_model.specs.declared.item.Item.TheVariants.{Done, Doubt}
use Rattle.bbs_model.specs.declared.verdict.Verdict.TheVariants as verdict
use Rattle.bbs_model.specs.declared.rows.Rows.{Rows}
use Rattle.bbs_laws.proofs.Public.{IsLawful-append, IsValid-rows_after, next-rows_after, told_in-one_more}
use Rattle.bbs_board.specs.Calls.{Passes}
use Rattle.bbs_board.specs.Checkpoint.{Checkpoints, HasCompacted, StandsCompacted, has_to_compact}
use Rattle.bbs_board.specs.Doubts.{doubts_in, RoseForEach}
use Rattle.bbs_board.specs.KeptIn.{StaysShort, most_after}
use Rattle.bbs_board.specs.Puts.{item_of}
use Rattle.bbs_board.specs.Storing.{IsHeadOf, StoresItem, HasStored}
use Rattle.bbs_board.specs.View.{IsSound, StandsOn, wants_checkpoint}
use Rattle.bbs_board.proofs.Doubting.{rose_more}
use Rattle.bbs_board.proofs.Filling.{not_due, low_generation}
use Rattle.bbs_board.proofs.Logs.{replay_more}
use Rattle.bbs_board.proofs.Short.{has_at_most}
use Rattle.bbs_board.proofs.Storing.{passes_both}

-- with an item
pub sound_more : {D : Type 0} (told : D → Option Past) (fault_count : D → ℕ) (rows base : Rows) (log : List Item)
    (marks : List ℕ) (events : List (Option Events)) (since faults : ℕ) (journal later : JournalView D)
    → IsSound told fault_count rows base log marks events since faults journal
    → (by : ℕ) (c : Command) → FitsCommand c → IsLegal rows c
    → (ok : Bool) (rows' : Rows) (log' : List Item) (marks' : List ℕ) (events' : List (Option Events)) (mark : ℕ)
    → rows' ≡ after_item rows (item_of ok by c) → log' ≡ log ++ item_of ok by c ∷ [] → marks' ≡ marks ++ mark ∷ []
    → events' ≡ events ++ told_by rows (item_of ok by c) ∷ [] → IsValid rows' → (head : List ℕ)
    → (wants_checkpoint journal ≡ true → IsHeadOf rows head)
    → StoresItem told ok head (spelled c) mark journal later → HasStored ok journal later
    → HasCause (not ok) (fault_count journal.disk) (fault_count later.disk)
    → IsSound told fault_count rows' base log' marks' events' since faults later
sound_more {D} told fault_count rows base log marks events since faults journal later sound by c fits legal ok rows'
    log' marks' events' mark rows_is log_is marks_is events_are valid head heads stores has cause =
    let law : IsLegal (replay_log base log) c = subst (λ (r : Rows). IsLegal r c) sound.rows_are legal in
    let longer : List Item = log ++ item_of ok by c ∷ [] in
    let lead : rows' ≡ replay_log base longer = rows_is ∙ ap
    (λ (r : Rows). after_item r (item_of ok by c)) sound.rows_are ∙ sym (replay_more base log (item_of ok by c)) in
    record {
      opened = sound.opened;
      valid = valid;
      lawful = subst (IsLawful base) (sym log_is) (IsLawful-append base log (item_of ok by c ∷ []) sound.lawful
          (legal_item ok, tt));
      rows_are = lead ∙ ap (replay_log base) (sym log_is);
      events_are = events_are ∙ ap (λ (ts : List (Option Events)). ts ++ told_by rows (item_of ok by c) ∷ [])
          sound.events_are
          ∙ ap (λ (r : Rows). told_in base log ++ told_by r (item_of ok by c) ∷ []) sound.rows_are
          ∙ sym (told_in-one_more base log (item_of ok by c)) ∙ ap (told_in base) (sym log_is);
      whole = has.whole;
      counted = counts ok rows_is has.frames;
      crowded = has.crowded sound.crowded;
      doubted = subst (λ (l : List Item). RoseForEach (doubts_in l) faults (fault_count later.disk)) (sym log_is)
          (rose_more log ok by c faults (fault_count journal.disk) (fault_count later.disk) sound.doubted cause);
      holds = rw (log_is, marks_is) (stores base log marks since sound.lawful
          (subst IsValid sound.rows_are sound.valid) sound.holds
          (λ due. subst (λ (r : Rows). IsHeadOf r head) sound.rows_are (heads due)) by c fits law refl).0.stands;
    }
  where
    legal_item : (done : Bool) → IsLegal (replay_log base log) (command_in (item_of done by c))
    legal_item true = subst (λ (r : Rows). IsLegal r c) sound.rows_are legal
    legal_item false = subst (λ (r : Rows). IsLegal r c) sound.rows_are legal

    counts : (done : Bool) → rows' ≡ after_item rows (item_of done by c)
        → later.frames ≤ (if done then journal.frames + 1 else journal.frames) → later.frames ≤ rows'.next
    counts true is frames =
        let few = sound.counted in
        omega (arith, few, frames, ap (λ (r : Rows). r.next) is, next-rows_after rows c legal)
    counts false is frames = let few = sound.counted in omega (arith, few, frames, ap (λ (r : Rows). r.next) is)

-- after a checkpoint, without an item
module _ {D : Type 0} (told : D → Option Past) (fault_count : D → ℕ) (rows base : Rows) (log : List Item)
    (marks : List ℕ) (events : List (Option Events)) (since faults : ℕ) (journal later : JournalView D)
    (sound : IsSound told fault_count rows base log marks events since faults journal)
    (ok : Bool) (head : List ℕ) (heads : has_to_compact journal ≡ true → IsHeadOf rows head)
    (stands : StandsCompacted told ok head journal later) where
  pub stands_compacted : StandsOn told base log marks since later
      × Goes (told journal.disk) (told later.disk) (Checkpoints ok (is_waiting journal.waiting) (replay_log base log))
  stands_compacted =
      stands base log marks since sound.lawful (subst IsValid sound.rows_are sound.valid) sound.holds
      (λ due. subst (λ (r : Rows). IsHeadOf r head) sound.rows_are (heads due))

  pub sound_compacted : (failed : Bool) → HasCompacted ok journal later
      → HasCause failed (fault_count journal.disk) (fault_count later.disk)
      → IsSound told fault_count rows base log marks events since faults later
  sound_compacted failed has cause = record {
    opened = sound.opened;
    valid = sound.valid;
    lawful = sound.lawful;
    rows_are = sound.rows_are;
    events_are = sound.events_are;
    whole = has.whole;
    counted = let few = sound.counted in let fewer = has.frames in omega (arith, few, fewer);
    crowded = has.crowded sound.crowded;
    doubted = let rose = sound.doubted in let more = cause.later in omega (arith, rose, more);
    holds = stands_compacted.0;
  }

-- ---- how long it takes to open

module _ {D : Type 0} (told : D → Option Past) (base : Rows) (log : List Item) (marks : List ℕ) (since : ℕ)
    (journal : JournalView D) (valid : IsValid (replay_log base log))
    (stands : StandsOn told base log marks since journal)
    (crowded : frame_waits journal.waiting ≡ true → wants_checkpoint journal ≡ false) where
  pub stays_short : (most : ℕ) → 4096 ≤ most → ((p : Past) → told journal.disk ≡ Some p → journal.frames ≤ most)
      → ForSome (told journal.disk) (StaysShort most journal.frames)
  stays_short most enough few p is =
      let h = stands p is in
      let low = low_generation base log marks since journal.area journal.version journal.generation journal.end
      journal.frames journal.waiting journal.gate p h valid in
      record {
        few = few p is;
        opened = has_at_most base log marks since journal.area journal.version journal.generation journal.end
            journal.frames journal.waiting journal.gate p h most (few p is)
            (λ frame. let short = not_due journal (crowded frame) low in omega (arith, short, enough));
      }

-- where nothing is stored
pub sound_short : {D : Type 0} (told : D → Option Past) (fault_count : D → ℕ) (rows base : Rows) (log : List Item)
    (marks : List ℕ) (events : List (Option Events)) (since faults : ℕ) (journal : JournalView D)
    → IsSound told fault_count rows base log marks events since faults journal
    → ForSome (told journal.disk) (StaysShort (most_after false journal.frames) journal.frames)
sound_short told fault_count rows base log marks events since faults journal sound =
    stays_short told base log marks since journal (subst IsValid sound.rows_are sound.valid) sound.holds sound.crowded
    (most_after false journal.frames) (omega arith) (λ p is. omega arith)

-- where a command was, or was tried
pub stored_short : {D : Type 0} (told : D → Option Past) (fault_count : D → ℕ) (rows base : Rows) (log : List Item)
    (marks : List ℕ) (events : List (Option Events)) (since faults : ℕ) (journal later : JournalView D)
    → IsSound told fault_count rows base log marks events since faults journal
    → (by : ℕ) (c : Command) → FitsCommand c → IsLegal (replay_log base log) c → (ok : Bool) (mark : ℕ) (head : List ℕ)
    → (wants_checkpoint journal ≡ true → IsHeadOf rows head)
    → StoresItem told ok head (spelled c) mark journal later → HasStored ok journal later
    → ForSome (told later.disk) (StaysShort (most_after ok journal.frames) later.frames)
stored_short {D} told fault_count rows base log marks events since faults journal later sound by c fits legal ok mark
    head heads stores has =
    let valid = subst IsValid sound.rows_are sound.valid in
    let stored = stores base log marks since sound.lawful valid sound.holds
    (λ due. subst (λ (r : Rows). IsHeadOf r head) sound.rows_are (heads due)) by c fits legal refl in
    let longer : List Item = log ++ item_of ok by c ∷ [] in
    stays_short told base longer (marks ++ mark ∷ []) since later (valid_more ok valid) stored.0.stands
    (has.crowded sound.crowded) (most_after ok journal.frames) (enough ok)
    (λ q is.
    let back = goes_back (told journal.disk) (told later.disk) Extends stored.0.extends q is in
    few ok has.frames (λ done. has.short done (low_generation base log marks since journal.area journal.version
    journal.generation journal.end journal.frames journal.waiting journal.gate back.0
    (sound.holds back.0 back.1) valid)))
  where
    enough : (done : Bool) → 4096 ≤ most_after done journal.frames
    enough true = omega arith
    enough false = omega arith

    few : (done : Bool) → later.frames ≤ (if done then journal.frames + 1 else journal.frames)
        → (done ≡ true → later.frames ≤ 4096) → later.frames ≤ most_after done journal.frames
    few true more short = short refl
    few false more short = omega (arith, more)

    valid_more : (done : Bool) → IsValid (replay_log base log)
        → IsValid (replay_log base (log ++ item_of done by c ∷ []))
    valid_more true valid = subst IsValid (sym (replay_more base log (Done by c)))
        (IsValid-rows_after (replay_log base log) c valid legal)
    valid_more false valid = subst IsValid (sym (replay_more base log (Doubt by c))) valid

-- the bytes of a command that was stored, or was tried
pub stored_passes : {D : Type 0} (told : D → Option Past) (fault_count : D → ℕ) (rows base : Rows) (log : List Item)
    (marks : List ℕ) (events : List (Option Events)) (since faults : ℕ) (journal later : JournalView D)
    → IsSound told fault_count rows base log marks events since faults journal
    → (by : ℕ) (c : Command) → FitsCommand c → IsLegal (replay_log base log) c → (ok : Bool) (mark : ℕ) (head : List ℕ)
    → (wants_checkpoint journal ≡ true → IsHeadOf rows head)
    → StoresItem told ok head (spelled c) mark journal later
    → Goes (told journal.disk) (told later.disk) (Passes (is_waiting journal.waiting) verdict.Ok ok
    (replay_log base log) c)
stored_passes told fault_count rows base log marks events since faults journal later sound by c fits legal ok mark head
    heads stores =
    let stored = stores base log marks since sound.lawful (subst IsValid sound.rows_are sound.valid) sound.holds
    (λ due. subst (λ (r : Rows). IsHeadOf r head) sound.rows_are (heads due)) by c fits legal refl in
    passes_both (told journal.disk) (told later.disk) (is_waiting journal.waiting) ok
    (replay_log base log) c stored.0.extends stored.1

-- ---- said of what was written

pub stores_as : {D : Type 0} (told : D → Option Past) (v0 v1 : JournalView D) (ok done : Bool) (mark : ℕ)
    (head payload text : List ℕ) → ok ≡ done → payload ≡ text → StoresItem told ok head payload mark v0 v1
    → StoresItem told done head text mark v0 v1
stores_as told v0 v1 ok done mark head payload text done_is is stores =
    subst (λ (l : List ℕ). StoresItem told done head l mark v0 v1) is
    (subst (λ (b : Bool). StoresItem told b head payload mark v0 v1) done_is stores)

pub on_ok : {T E : Type 0} (r : Result T E) (P : Type 0) → is_err r ≡ false → OnOk r P → P
on_ok (Ok x) P is holds = holds
on_ok (Err e) P is holds = absurd (cc (is))
