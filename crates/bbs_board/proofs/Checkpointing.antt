-- The whole of a checkpoint: where there is something to make away with a switch, else a mend of what waits.
use Rattle.std.proofs.Common.{◌≡◌, ◌⊎◌, inl, inr, ℕ, ◌<◌, ◌≤◌, ◌-◌, ◌^◌, Bool, true, false, ◌||◌, ◌==◌, nat_lt, List, Option, Some, None, refl, sym, ap, subst, ◌∙◌, arith}
use Rattle.std.specs.Prelude.{if◌then◌else◌}
use Rattle.std.proofs.lemmas.Bool.Decides.{nat_tests}
use Rattle.disk_trait.specs.Past.{Past}
use Rattle.disk_trait.specs.Runs.{Extends}
use Rattle.disk_trait.specs.Steps.{Goes}
use Rattle.disk_trait.proofs.Public.{goes_same, extends_same}
use Rattle.bbs_journal.specs.Calls.{Settles}
use Rattle.bbs_journal.specs.Header.{IsVersion}
use Rattle.bbs_journal.specs.View.{JournalView, is_waiting, frame_waits}
use Rattle.bbs_journal.specs.declared.waiting.Waiting.{Waiting}
use Rattle.bbs_journal.specs.declared.waiting.Waiting.TheVariants.{Nothing}
use Rattle.bbs_model.specs.Replay.{replay_log}
use Rattle.bbs_model.specs.Valid.{IsValid}
use Rattle.bbs_model.specs.declared.item.Item.{Item}
use Rattle.bbs_model.specs.declared.rows.Rows.{Rows}
use Rattle.bbs_board.specs.Checkpoint.{Compacts, Checkpoints, HasCompacted, MovesOn, MovedOn, StandsCompacted, StaysCompacted, has_to_compact}
use Rattle.bbs_board.specs.Puts.{StillStands}
use Rattle.bbs_board.specs.View.{Holds, StandsOn, View}
use Rattle.bbs_board.proofs.Beside.{calm_nothing}
use Rattle.bbs_board.proofs.Filling.{by_tests, due_same, not_by_tests, low_generation, short_not_due}
use Rattle.bbs_board.proofs.Moving.{compacts_not, compacts_none}
use Rattle.bbs_board.proofs.Settling.{newer_version}

none_by_tests : (frames version : ℕ) → nat_lt 0 frames || version == 1 ≡ false → (frames ≡ 0) × (version ≡ 1 → ⊥)
none_by_tests frames version is = (grind (arith, nat_tests), λ old. grind (arith, nat_tests))

compact_by_tests : (frames version : ℕ) → nat_lt 0 frames || version == 1 ≡ true → (0 < frames) ⊎ (version ≡ 1)
compact_by_tests frames version is = grind (arith, nat_tests)

compact_some : {D : Type 0} (j : JournalView D) → has_to_compact j ≡ true → (0 < j.frames) ⊎ (j.version ≡ 1)
compact_some j is = compact_by_tests j.frames j.version
    (by_tests (nat_lt 0 j.frames || j.version == 1) j.generation (2 ^ 64 - 1) is).0

checkpoints_both : (t0 t1 : Option Past) (waits ok : Bool) (rows : Rows) → Goes t0 t1 Extends
    → (waits ≡ false → Goes t0 t1 (Compacts ok rows)) → Goes t0 t1 (Checkpoints ok waits rows)
checkpoints_both None None waits ok rows extends compacts = tt
checkpoints_both None (Some q) waits ok rows extends compacts = extends
checkpoints_both (Some p) None waits ok rows extends compacts = extends
checkpoints_both (Some p) (Some q) waits ok rows extends compacts = record { extends = extends; compacts = compacts }

module _ {D : Type 0} (told : D → Option Past) (j : JournalView D) (base : Rows) (log : List Item) (marks : List ℕ)
    (since : ℕ) (stands : StandsOn told base log marks since j) where
  calmly : is_waiting j.waiting ≡ false → (p : Past) → told j.disk ≡ Some p
      → Holds base log marks since j.area j.version j.generation j.end j.frames Nothing j.gate p
  calmly calm p is = subst (λ (w : Waiting). Holds base log marks since j.area j.version j.generation j.end j.frames w
      j.gate p) (calm_nothing j.waiting calm) (stands p is)

  same_extends : Goes (told j.disk) (told j.disk) Extends
  same_extends = goes_same (told j.disk) Extends (λ p is. extends_same p)

  -- it is given up before the first call
  pub checkpoint_starved : Goes (told j.disk) (told j.disk)
      (Checkpoints false (is_waiting j.waiting) (replay_log base log))
  checkpoint_starved = checkpoints_both (told j.disk) (told j.disk) (is_waiting j.waiting) false
      (replay_log base log) same_extends
      (λ calm. goes_same (told j.disk) (Compacts false (replay_log base log))
      (λ p is. compacts_not base log marks since j.area j.version j.generation j.end j.frames j.gate p
      (calmly calm p is)))

  -- there is nothing to make away with; no disk that tells its past has the last generation
  compacts_idle : has_to_compact j ≡ false → IsValid (replay_log base log) → is_waiting j.waiting ≡ false
      → Goes (told j.disk) (told j.disk) (Compacts true (replay_log base log))
  compacts_idle idle valid calm = goes_same (told j.disk) (Compacts true (replay_log base log))
      (λ p is.
      let low = low_generation base log marks since j.area j.version j.generation j.end j.frames j.waiting j.gate p
      (stands p is) valid in
      let rest = none_by_tests j.frames j.version (not_by_tests (nat_lt 0 j.frames || j.version == 1) j.generation
      (2 ^ 64 - 1) idle low) in
      compacts_none base log marks since j.area j.version j.generation j.end j.frames j.gate p
      (calmly calm p is) rest.0 rest.1)

module _ {D : Type 0} (told : D → Option Past) (v0 v1 : JournalView D) (ok : Bool) (head : List ℕ) where
  -- there is nothing to make away with, and what waited was mended, or that failed
  pub stands_settled : has_to_compact v0 ≡ false → Settles ok v0 v1 → StillStands told v0 v1
      → StandsCompacted told ok head v0 v1
  stands_settled idle settles still base log marks since lawful valid stands heads =
      let stood = still base log marks since lawful stands in (
        stood.stands,
        checkpoints_both (told v0.disk) (told v1.disk) (is_waiting v0.waiting) ok (replay_log base log) stood.extends
            (λ calm.
            let same = settles.idle (calm_nothing v0.waiting calm) in
            subst (λ (v : JournalView D). Goes (told v0.disk) (told v.disk) (Compacts ok (replay_log base log)))
            (sym same.1)
            (subst (λ (b : Bool). Goes (told v0.disk) (told v0.disk) (Compacts b (replay_log base log))) (sym same.0)
            (compacts_idle told v0 base log marks since stands idle valid calm))),
      )

  -- there is, and it was tried
  pub stands_moved : has_to_compact v0 ≡ true → MovesOn told ok head v0 v1 → StandsCompacted told ok head v0 v1
  stands_moved due moves base log marks since lawful valid stands heads =
      let written = heads due in
      let moved = moves base log marks since lawful stands (compact_some v0 due) written.fits written.bytes_are in (
        moved.0.stands,
        checkpoints_both (told v0.disk) (told v1.disk) (is_waiting v0.waiting) ok
            (replay_log base log) moved.0.extends moved.1,
      )

-- ---- and what the journal knows

module _ {D : Type 0} (v0 v1 : JournalView D) where
  not_failed : (ok : Bool) → is_waiting v1.waiting ≡ (if ok then false else true) → ok ≡ true
      → is_waiting v1.waiting ≡ false
  not_failed true waits is = waits
  not_failed false waits is = absurd (cc (is))

  -- the gate behind the frames waits only where it did, and the mend failed
  still_waits : (ok : Bool) → v1.waiting ≡ (if ok then Nothing else v0.waiting) → frame_waits v1.waiting ≡ true
      → frame_waits v0.waiting ≡ true
  still_waits true waiting is = absurd (let never : frame_waits v1.waiting ≡ false = ap frame_waits waiting in cc)
  still_waits false waiting is = ap frame_waits (sym waiting) ∙ is

  pub settled_has : (ok : Bool) → has_to_compact v0 ≡ false → IsVersion v0.version → v0.broken ≡ false
      → Settles ok v0 v1 → HasCompacted ok v0 v1
  settled_has ok idle read whole settles =
      let frames : v1.frames ≡ v0.frames = settles.frames in
      record {
        whole = settles.stays.broken ∙ whole;
        frames = omega (arith, frames);
        stood = λ is. (settles.stays.version, settles.stays.generation, frames);
        turned = λ is. inl settles.stays.generation;
        waits = λ is. not_failed ok settles.waits is;
        left = λ is low.
            let rest = none_by_tests v0.frames v0.version (not_by_tests
            (nat_lt 0 v0.frames || v0.version == 1) v0.generation (2 ^ 64 - 1) idle low) in
            (frames ∙ rest.0, settles.stays.version ∙ newer_version v0.version read rest.1);
        crowded = λ before is. due_same v0 v1 frames settles.stays.version settles.stays.generation ∙ before
            (still_waits ok settles.waiting is);
      }

  made_has : MovedOn true v0 v1 → HasCompacted true v0 v1
  made_has moved =
      let none : v1.frames ≡ 0 = moved.frames in
      record {
        whole = moved.whole;
        frames = omega (arith, none);
        stood = λ never. absurd (cc (never));
        turned = λ is. inr moved.generation;
        waits = moved.waits;
        left = λ is low. (none, moved.version);
        crowded = λ before is. short_not_due v1 (omega (arith, none)) moved.version;
      }

  failed_has : MovedOn false v0 v1 → HasCompacted false v0 v1
  failed_has moved =
      let frames : v1.frames ≡ v0.frames = moved.frames in
      record {
        whole = moved.whole;
        frames = omega (arith, frames);
        stood = λ is. (moved.version, moved.generation, frames);
        turned = λ never. absurd (cc (never));
        waits = moved.waits;
        left = λ never. absurd (cc (never));
        crowded = λ before is. due_same v0 v1 frames moved.version moved.generation ∙ before (moved.frame is);
      }

  pub moved_has : (ok : Bool) → MovedOn ok v0 v1 → HasCompacted ok v0 v1
  moved_has true moved = made_has moved
  moved_has false moved = failed_has moved

-- ---- as the board's callers see it

module _ {D : Type 0} (base : Rows) (log : List Item) (marks : List ℕ) (since faults : ℕ) where
  abbrev pub seen : JournalView D → ℕ → View D
  seen j spare = record {
    disk = j.disk;
    base = base;
    log = log;
    marks = marks;
    since = since;
    faults = faults;
    waits = is_waiting j.waiting;
    version = j.version;
    generation = j.generation;
    frames = j.frames;
    spare = spare;
  }

  pub stays_compacted : (ok : Bool) (j later : JournalView D) (spare more : ℕ) → HasCompacted ok j later → spare ≤ more
      → StaysCompacted ok (seen j spare) (seen later more)
  stays_compacted ok j later spare more has room = record {
    same = refl;
    frames = has.frames;
    room = room;
    stood = has.stood;
    turned = has.turned;
    calm = has.waits;
    left = has.left;
  }
