-- Storing a command in a journal whose area may be full.
use Rattle.std.proofs.Common.{◌≡◌, ◌⊎◌, inl, inr, ⊎_elim, ℕ, ◌+◌, ◌-◌, ◌^◌, ◌<◌, ◌≤◌, Bool, true, false, ◌&&◌, ◌||◌, ◌==◌, nat_le, nat_lt, Option, Some, List, [], ◌∷◌, ◌++◌, refl, sym, ap, subst, ◌∙◌, arith, if◌then◌else◌}
use Rattle.std.proofs.lemmas.Bool.Decides.{nat_tests}
use Rattle.disk_trait.specs.Past.{Past}
use Rattle.disk_trait.specs.Runs.{Extends}
use Rattle.disk_trait.specs.Steps.{Goes}
use Rattle.disk_trait.specs.declared.area.Area.{Area}
use Rattle.disk_trait.proofs.Public.{goes_then, goes_weaker, extends_then}
use Rattle.bbs_codec.specs.Command.{spelled, IsReadIn}
use Rattle.bbs_codec.proofs.Public.{command_known}
use Rattle.bbs_journal.specs.Calls.{AddsFrame, mend_calls}
use Rattle.bbs_journal.specs.Header.{IsVersion, newest}
use Rattle.bbs_journal.specs.View.{JournalView, is_waiting, frame_waits}
use Rattle.bbs_journal.specs.declared.other_gate.OtherGate.{OtherGate}
use Rattle.bbs_journal.specs.declared.waiting.Waiting.{Waiting}
use Rattle.bbs_journal.specs.declared.waiting.Waiting.TheVariants.{Nothing}
use Rattle.bbs_model.specs.Replay.{replay_log}
use Rattle.bbs_model.specs.Valid.{IsValid}
use Rattle.bbs_model.specs.declared.item.Item.{Item}
use Rattle.bbs_model.specs.declared.item.Item.TheVariants.{Doubt}
use Rattle.bbs_model.specs.declared.rows.Rows.{Rows}
use Rattle.bbs_board.specs.Checkpoint.{Compacts, MovesOn, MovedOn, SwitchTakes}
use Rattle.bbs_board.specs.Puts.{MayTake, PutsItem, PutTakes, HasPut}
use Rattle.bbs_board.specs.Stops.{Stores}
use Rattle.bbs_board.specs.Storing.{StoresItem, HasStored, StoreTakes}
use Rattle.bbs_board.specs.View.{Holds, wants_checkpoint}
use Rattle.bbs_board.specs.Written.{Reading, ReadsAs, is_due}
use Rattle.bbs_board.proofs.Adding.{holds_doubted}
use Rattle.bbs_board.proofs.Adds.{stores_short, stores_moved, stores_unmoved}
use Rattle.bbs_board.proofs.Beside.{calm_nothing}
use Rattle.bbs_board.proofs.Moving.{not_above}
use Rattle.bbs_board.proofs.Settling.{few_version, newer_version}
use Rattle.bbs_board.proofs.Storing.{adds_behind, reads_due, goes_both}

-- ---- whether a checkpoint is due

pub by_tests : (due : Bool) (generation top : ℕ) → due && nat_lt generation top ≡ true
    → (due ≡ true) × (generation < top)
by_tests true generation top is = (refl, grind (arith, nat_tests))
by_tests false generation top is = absurd (cc (is))

pub not_by_tests : (due : Bool) (generation top : ℕ) → due && nat_lt generation top ≡ false → generation < top
    → due ≡ false
not_by_tests true generation top is low = absurd (let over : top ≤ generation = grind (arith, nat_tests) in
    omega (arith, over, low))
not_by_tests false generation top is low = refl

some_by_tests : (frames version : ℕ) → nat_le 4096 frames || version == 1 ≡ true → (0 < frames) ⊎ (version ≡ 1)
some_by_tests frames version is = grind (arith, nat_tests)

short_by_tests : (frames version : ℕ) → nat_le 4096 frames || version == 1 ≡ false → (frames < 4096) × (version ≡ 1 → ⊥)
short_by_tests frames version is = (grind (arith, nat_tests), λ old. grind (arith, nat_tests))

long_by_tests : (frames version : ℕ) → nat_le 4096 frames || version == 1 ≡ true → frames < 4096 → version ≡ newest → ⊥
long_by_tests frames version is short new = grind (arith, nat_tests)

never_by_tests : (frames version generation top : ℕ) → frames < 4096 → version ≡ newest
    → (nat_le 4096 frames || version == 1) && nat_lt generation top ≡ false
never_by_tests frames version generation top short new = grind (arith, nat_tests)

module _ {D : Type 0} (j : JournalView D) where
  abbrev pub is_full_or_old : Bool
  is_full_or_old = nat_le 4096 j.frames || j.version == 1

  pub due_is : wants_checkpoint j ≡ true → (is_full_or_old ≡ true) × (j.generation < 2 ^ 64 - 1)
  due_is is = by_tests is_full_or_old j.generation (2 ^ 64 - 1) is

  -- a checkpoint makes away with something then
  pub due_some : wants_checkpoint j ≡ true → (0 < j.frames) ⊎ (j.version ≡ 1)
  due_some is = some_by_tests j.frames j.version (due_is is).0

  pub due_long : wants_checkpoint j ≡ true → j.frames < 4096 → j.version ≡ newest → ⊥
  due_long is = long_by_tests j.frames j.version (due_is is).0

  pub not_full_or_old : wants_checkpoint j ≡ false → j.generation < 2 ^ 64 - 1 → is_full_or_old ≡ false
  not_full_or_old is low = not_by_tests is_full_or_old j.generation (2 ^ 64 - 1) is low

  pub not_due : wants_checkpoint j ≡ false → j.generation < 2 ^ 64 - 1 → j.frames < 4096
  not_due is low = (short_by_tests j.frames j.version (not_full_or_old is low)).0

  -- an area that no checkpoint is due in has the newest version
  pub not_due_new : wants_checkpoint j ≡ false → j.generation < 2 ^ 64 - 1 → IsVersion j.version → j.version ≡ newest
  not_due_new is low read = newer_version j.version read (short_by_tests j.frames j.version (not_full_or_old is low)).1

  pub short_not_due : j.frames < 4096 → j.version ≡ newest → wants_checkpoint j ≡ false
  short_not_due short new = never_by_tests j.frames j.version j.generation (2 ^ 64 - 1) short new

-- it is due as it was before
pub due_same : {D : Type 0} (v w : JournalView D) → w.frames ≡ v.frames → w.version ≡ v.version
    → w.generation ≡ v.generation → wants_checkpoint w ≡ wants_checkpoint v
due_same v w frames version generation =
    ap (λ (n : ℕ). (nat_le 4096 n || w.version == 1) && nat_lt w.generation (2 ^ 64 - 1)) frames
    ∙ ap (λ (n : ℕ). (nat_le 4096 v.frames || n == 1) && nat_lt w.generation (2 ^ 64 - 1)) version
    ∙ ap (λ (n : ℕ). (nat_le 4096 v.frames || v.version == 1) && nat_lt n (2 ^ 64 - 1)) generation

-- ---- a board over a disk that tells its past

module _ (base : Rows) (log : List Item) (marks : List ℕ) (since : ℕ) (area : Area) (version generation end frames : ℕ)
    (waiting : Waiting) (known : OtherGate) (p : Past) (h : Holds base log marks since area version generation end
    frames waiting known p) where
  -- it hasn't come to the last generation
  pub low_generation : IsValid (replay_log base log) → generation < 2 ^ 64 - 1
  low_generation valid =
      let few = not_above base log marks since area version generation end frames waiting known p h in
      omega (arith, few, few_version version h.goes_with.version_is, valid.next)

  pub still_nothing : is_waiting waiting ≡ false → Holds base log marks since area version generation end frames Nothing
      known p
  still_nothing calm = subst (λ (w : Waiting). Holds base log marks since area version generation end frames w known p)
      (calm_nothing waiting calm) h

  -- what is read is full or old as the area is
  pub reads_so : is_waiting waiting ≡ false → (due : Bool) → (nat_le 4096 frames || version == 1) ≡ due → (r : Reading)
      → ReadsAs r p → is_due r ≡ due
  reads_so calm due is r reads = reads_due base log marks since area version generation end frames known p
      (still_nothing calm) r reads ∙ is

-- ---- the three ways

module _ {D : Type 0} (told : D → Option Past) (head payload : List ℕ) (mark : ℕ) where
  -- behind the frames that are there
  pub stores_put : (v0 v1 : JournalView D) (ok : Bool) → wants_checkpoint v0 ≡ false
      → PutsItem told ok payload mark v0 v1
      → (is_waiting v0.waiting ≡ false → Goes (told v0.disk) (told v1.disk)
      (AddsFrame v0.area ok (is_waiting v1.waiting) payload v0.end)) → StoresItem told ok head payload mark v0 v1
  stores_put v0 v1 ok due puts appends base log marks since lawful valid stands heads by c fits legal is =
      let low = λ (p : Past) (i : told v0.disk ≡ Some p). low_generation base log marks since v0.area v0.version
      v0.generation v0.end v0.frames v0.waiting v0.gate p (stands p i) valid in
      let may : MayTake told v0 c = λ p i. subst (λ (n : ℕ). IsReadIn n c)
      (sym (not_due_new v0 due (low p i) (stands p i).goes_with.version_is)) (command_known c) in (
        puts base log marks since lawful stands by c fits may legal is,
        λ calm.
            goes_weaker (told v0.disk) (told v1.disk) (AddsFrame v0.area ok (is_waiting v1.waiting) (spelled c) v0.end)
            (Stores ok (replay_log base log) c)
            (λ p q i j adds.
            let h = stands p i in
            let still = still_nothing base log marks since v0.area v0.version v0.generation v0.end v0.frames v0.waiting
            v0.gate p h calm in
            stores_short ok (replay_log base log) c p q
            (adds_behind base log marks since v0.area v0.version v0.generation v0.end v0.frames v0.gate p still c fits
            (may p i) legal q ok (is_waiting v1.waiting) adds)
            (reads_so base log marks since v0.area v0.version v0.generation v0.end v0.frames v0.waiting v0.gate p h calm
            false (not_full_or_old v0 due (low p i))))
            (subst (λ (l : List ℕ). Goes (told v0.disk) (told v1.disk)
            (AddsFrame v0.area ok (is_waiting v1.waiting) l v0.end)) is (appends calm)),
      )

  -- behind a checkpoint
  pub stores_then : (v0 v1 v2 : JournalView D) (ok : Bool) → wants_checkpoint v0 ≡ true → MovesOn told true head v0 v1
      → MovedOn true v0 v1 → PutsItem told ok payload mark v1 v2
      → (is_waiting v1.waiting ≡ false → Goes (told v1.disk) (told v2.disk)
      (AddsFrame v1.area ok (is_waiting v2.waiting) payload v1.end)) → StoresItem told ok head payload mark v0 v2
  stores_then v0 v1 v2 ok due moves knows puts appends base log marks since lawful valid stands heads by c fits legal
      is =
      let some = due_some v0 due in
      let written = heads due in
      let moved = moves base log marks since lawful stands some written.fits written.bytes_are in
      let known : IsReadIn v1.version c = subst (λ (n : ℕ). IsReadIn n c) (sym knows.version) (command_known c) in
      let second = puts base log marks since lawful moved.0.stands by c fits (λ p i. known) legal is in
      let calm1 = knows.waits refl in (
        record {
          extends = goes_then (told v0.disk) (told v1.disk) (told v2.disk) Extends Extends Extends
              (λ p q r i j k a b. extends_then p q r a b) moved.0.extends second.extends;
          stands = second.stands;
        },
        λ calm.
            goes_then (told v0.disk) (told v1.disk) (told v2.disk)
            (λ p q. Extends p q × Compacts true (replay_log base log) p q)
            (AddsFrame v1.area ok (is_waiting v2.waiting) (spelled c) v1.end) (Stores ok (replay_log base log) c)
            (λ p q r i j k both adds.
            let still = still_nothing base log marks since v1.area v1.version v1.generation v1.end v1.frames v1.waiting
            v1.gate q (moved.0.stands q j) calm1 in
            stores_moved ok (replay_log base log) c p q r both.0 both.1
            (adds_behind base log marks since v1.area v1.version v1.generation v1.end v1.frames v1.gate q still c fits
            known legal r ok (is_waiting v2.waiting) adds)
            (reads_so base log marks since v0.area v0.version v0.generation v0.end v0.frames v0.waiting v0.gate p
            (stands p i) calm true (due_is v0 due).0))
            (goes_both (told v0.disk) (told v1.disk) Extends (Compacts true (replay_log base log)) moved.0.extends
            (moved.1 calm))
            (subst (λ (l : List ℕ). Goes (told v1.disk) (told v2.disk)
            (AddsFrame v1.area ok (is_waiting v2.waiting) l v1.end)) is (appends calm1)),
      )

  -- the checkpoint before it failed
  pub stores_not : (v0 v1 : JournalView D) → wants_checkpoint v0 ≡ true
      → ((q : Past) → told v1.disk ≡ Some q → q.clock ≡ mark) → MovesOn told false head v0 v1
      → StoresItem told false head payload mark v0 v1
  stores_not v0 v1 due timed moves base log marks since lawful valid stands heads by c fits legal is =
      let some = due_some v0 due in
      let written = heads due in
      let moved = moves base log marks since lawful stands some written.fits written.bytes_are in (
        record {
          extends = moved.0.extends;
          stands = λ q j.
              subst (λ (m : ℕ). Holds base (log ++ Doubt by c ∷ [])
              (marks ++ m ∷ []) since v1.area v1.version v1.generation v1.end v1.frames v1.waiting v1.gate q)
              (timed q j)
              (holds_doubted base log marks since v1.area v1.version v1.generation v1.end v1.frames v1.waiting v1.gate q
              (moved.0.stands q j) by c);
        },
        λ calm.
            goes_weaker (told v0.disk) (told v1.disk) (λ p q. Extends p q × Compacts false (replay_log base log) p q)
            (Stores false (replay_log base log) c)
            (λ p q i j both.
            stores_unmoved (replay_log base log) c p q both.0 both.1
            (reads_so base log marks since v0.area v0.version v0.generation v0.end v0.frames v0.waiting v0.gate p
            (stands p i) calm true (due_is v0 due).0))
            (goes_both (told v0.disk) (told v1.disk) Extends (Compacts false (replay_log base log)) moved.0.extends
            (moved.1 calm)),
      )

-- ---- what the journal knows then

no_more : (ok : Bool) (n m : ℕ) → n ≡ (if ok then m + 1 else m) → n ≤ (if ok then m + 1 else m)
no_more ok n m is = omega (arith, is)

module _ {D : Type 0} (v0 v1 v2 : JournalView D) where
  frames_done : (ok : Bool) (n m : ℕ) → n ≡ (if ok then m + 1 else m) → ok ≡ true → n ≡ m + 1
  frames_done true n m frames is = frames
  frames_done false n m frames is = absurd (cc (is))

  frames_not : (ok : Bool) (n m : ℕ) → n ≡ (if ok then m + 1 else m) → ok ≡ false → n ≡ m
  frames_not true n m frames is = absurd (cc (is))
  frames_not false n m frames is = frames

  -- the gate behind the frames waits only where the put failed
  not_done : (ok : Bool) (w : Waiting) → (ok ≡ true → w ≡ Nothing) → frame_waits w ≡ true → ok ≡ false
  not_done true w waits is = absurd (let none = waits refl in let calm = ap frame_waits none in cc)
  not_done false w waits is = refl

  pub has_put_there : (ok : Bool) → v0.broken ≡ false → IsVersion v0.version → wants_checkpoint v0 ≡ false
      → HasPut ok v0 v1 → HasStored ok v0 v1
  has_put_there ok whole read due has = record {
    whole = has.stays.broken ∙ whole;
    frames = no_more ok v1.frames v0.frames has.frames;
    short = λ is low. omega (arith, frames_done ok v1.frames v0.frames has.frames is, not_due v0 due low);
    renewed = λ is low. has.stays.version ∙ not_due_new v0 due low read;
    waits = λ is. ap is_waiting (has.waits is);
    crowded = λ before is. due_same v0 v1 (frames_not ok v1.frames v0.frames has.frames
        (not_done ok v1.waiting has.waits is)) has.stays.version has.stays.generation ∙ due;
  }

  few_there : (ok : Bool) (n m k : ℕ) → n ≡ (if ok then m + 1 else m) → m ≡ 0
      → (n ≤ (if ok then k + 1 else k)) × (n ≤ 1)
  few_there true n m k frames none = (omega (arith, frames, none), omega (arith, frames, none))
  few_there false n m k frames none = (omega (arith, frames, none), omega (arith, frames, none))

  pub has_put_then : (ok : Bool) → MovedOn true v0 v1 → HasPut ok v1 v2 → HasStored ok v0 v2
  has_put_then ok moved has =
      let few = few_there ok v2.frames v1.frames v0.frames has.frames moved.frames in
      let new : v2.version ≡ newest = has.stays.version ∙ moved.version in
      record {
        whole = has.stays.broken ∙ moved.whole;
        frames = few.0;
        short = λ is low. omega (arith, few.1);
        renewed = λ is low. new;
        waits = λ is. ap is_waiting (has.waits is);
        crowded = λ before is. short_not_due v2 (omega (arith, few.1)) new;
      }

  pub has_not_moved : wants_checkpoint v0 ≡ true → MovedOn false v0 v1 → HasStored false v0 v1
  has_not_moved due moved =
      let frames : v1.frames ≡ v0.frames = moved.frames in
      record {
        whole = moved.whole;
        frames = omega (arith, frames);
        short = λ never. absurd (cc (never));
        renewed = λ never. absurd (cc (never));
        waits = λ never. absurd (cc (never));
        crowded = λ before is. absurd (let never = before (moved.frame is) in cc);
      }

-- ---- the device calls

-- behind a checkpoint, which was due
pub takes_then : (ok waits still : Bool) (version frames before mid after : ℕ) → still ≡ false
    → (frames < 4096 → version ≡ newest → ⊥) → SwitchTakes true waits before mid → PutTakes ok still mid after
    → StoreTakes ok waits version frames before after
takes_then ok waits still version frames before mid after calm due switch put =
    let none : mend_calls still ≡ 0 = ap mend_calls calm in
    let most = put.most in
    ⊎_elim
    (λ six. record {
      switch = 6;
      kind = inr (inl refl);
      none = λ short new. absurd (due short new);
      done = λ is. let done = put.done is in omega (arith, none, six, done);
      most = omega (arith, none, six, most);
    })
    (λ eight. record {
      switch = 8;
      kind = inr (inr refl);
      none = λ short new. absurd (due short new);
      done = λ is. let done = put.done is in omega (arith, none, eight, done);
      most = omega (arith, none, eight, most);
    })
    (switch.done refl)

-- a checkpoint that failed
pub takes_not : (waits : Bool) (version frames before after : ℕ) → (frames < 4096 → version ≡ newest → ⊥)
    → SwitchTakes false waits before after → StoreTakes false waits version frames before after
takes_not waits version frames before after due switch = record {
  switch = 8;
  kind = inr (inr refl);
  none = λ short new. absurd (due short new);
  done = λ never. absurd (cc (never));
  most = let most = switch.most in omega (arith, most);
}

-- nothing was tried
pub takes_none : (waits : Bool) (version frames at : ℕ) → StoreTakes false waits version frames at at
takes_none waits version frames at = record {
  switch = 0;
  kind = inl refl;
  none = λ short new. refl;
  done = λ never. absurd (cc (never));
  most = omega arith;
}
