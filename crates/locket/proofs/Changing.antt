-- How a locket stands after a command was put, and what that did to its disk.
use Rattle.std.proofs.Common.{◌≡◌, inl, inr, ⊎_elim, ◌<◌, ◌^◌, Bool, true, false, Option, None, Ok, List, [], ◌∷◌, ◌++◌, length, sym, ap, subst, ◌∙◌, arith, if◌then◌else◌, length-append, append_assoc, append-nil}
use Rattle.std.proofs.lemmas.List.{length-map}
use Rattle.disk_trait.specs.Past.{Past, Image}
use Rattle.disk_trait.specs.Steps.{Goes}
use Rattle.disk_trait.proofs.Public.{goes_weaker}
use Rattle.payload_log.specs.Adds.{AddsOne, PassesAdd}
use Rattle.payload_log.specs.Entries.{entry_of, done_in, stored_in}
use Rattle.payload_log.specs.Opened.{Opened, OpensBehind}
use Rattle.payload_log.specs.View.{LogView, payloads_in}
use Rattle.payload_log.specs.declared.entry.Entry.TheVariants.{Done, Doubt}
use Rattle.payload_log.proofs.Public.{done-append}
use Rattle.locket.specs.Bytes.{FitsLock, lock_spelled}
use Rattle.locket.specs.Calls.{LivesOn, PassesLock}
use Rattle.locket.specs.Lives.{LockLog, IsCounted, unused, state_after, state_from, state_of, IsChange, IsLife, IsLawful, lived}
use Rattle.locket.specs.Opening.{locks_of, commands_in, IsLocket}
use Rattle.locket.specs.View.{AreSpelled, IsSoundLocket}
use Rattle.locket.specs.declared.command.LockCommand.{LockCommand}
use Rattle.locket.specs.declared.state.LockState.{LockState}
use Rattle.locket.proofs.Payloads.{locks_lived}
use Rattle.locket.proofs.Keeping.{BeganAsLocks, behind_more, behind_log}
use Rattle.locket.proofs.Living.{from-append, changes-append, counted_from, counted_unused, count_from, lawful_changes, lawful_more, spelled_more}

-- a log that began with a lock journal is one of a locket
pub loaded_sound : {D : Type 0} (v : LogView D LockCommand) (start : Opened) (s : LockState) → v.start ≡ start
    → v.log ≡ [] → locks_of start.version start.area start.head start.payloads None ≡ Ok s → IsSoundLocket v s
loaded_sound {D} v start s start_is log_is is =
    let life : List LockCommand = commands_in start.payloads in
    let l = locks_lived start.version start.area start.head start.payloads s is in
    let opened : BeganAsLocks start = is ∙ ap Ok l.state_is in
    record {
      opened = subst BeganAsLocks (sym start_is) opened;
      lawful = subst (IsLawful (state_of (commands_in v.start.payloads))) (sym log_is) tt;
      fits = subst AreSpelled (sym log_is) tt;
      state_is = l.state_is ∙ ap state_of (sym (append-nil life)) ∙ ap (λ (l : LockLog). state_of (lived life l))
          (sym log_is)
          ∙ ap (λ (o : Opened). state_of (lived (commands_in o.payloads) v.log)) (sym start_is);
    }

-- one command more, done or in doubt
pub lived-done : (base : List LockCommand) (log : LockLog) (c : LockCommand)
    → lived base (log ++ Done c ∷ []) ≡ lived base log ++ c ∷ []
lived-done base log c = ap (λ (l : List LockCommand). base ++ l) (done-append log (Done c ∷ [])) ∙ sym
    (append_assoc base (done_in log) (c ∷ []))

pub lived-doubt : (base : List LockCommand) (log : LockLog) (c : LockCommand)
    → lived base (log ++ Doubt c ∷ []) ≡ lived base log
lived-doubt base log c = ap (λ (l : List LockCommand). base ++ l)
    (done-append log (Doubt c ∷ []) ∙ append-nil (done_in log))

module _ {D : Type 0} (v : LogView D LockCommand) (state : LockState) (sound : IsSoundLocket v state) where
  abbrev base : List LockCommand
  base = commands_in v.start.payloads

  base_life : IsLife base
  base_life = let l = locks_lived v.start.version v.start.area v.start.head v.start.payloads
      (state_of base) sound.opened in l.changes

  -- the commands so far are a life
  pub life_lived : IsLife (lived base v.log)
  life_lived = changes-append unused base (done_in v.log) base_life (lawful_changes (state_of base) v.log sound.lawful)

  pub state_counted : IsCounted state
  state_counted = subst IsCounted (sym sound.state_is) (counted_from unused
      (lived base v.log) counted_unused life_lived)

  -- there are no more payloads than changes that a locket makes
  pub few_payloads : length (payloads_in lock_spelled v) < 2 ^ 48
  few_payloads =
      let l = locks_lived v.start.version v.start.area v.start.head v.start.payloads (state_of base) sound.opened in
      let count_is = l.count_is in
      let changes = state_counted.changes in
      let count = ap (λ (s : LockState). s.count) sound.state_is in
      let lived_count = count_from unused (lived base v.log) life_lived in
      omega (
        arith,
        count_is,
        changes,
        count,
        lived_count,
        length-append base (done_in v.log),
        length-append v.start.payloads (stored_in lock_spelled v.log),
        length-map (done_in v.log) lock_spelled,
      )

  -- what changes the state now would change it behind what is done
  pub change_behind : (c : LockCommand) → IsChange state c → IsChange (state_from (state_of base) (done_in v.log)) c
  change_behind c is = subst (λ (s : LockState). IsChange s c)
      (sound.state_is ∙ from-append unused base (done_in v.log)) is

  after_one : (ok : Bool) (c : LockCommand) → (if ok then state_after state c else state)
      ≡ state_of (lived base (v.log ++ entry_of ok c ∷ []))
  after_one true c =
      ap (λ (s : LockState). state_after s c) sound.state_is ∙ sym
      (from-append unused (lived base v.log) (c ∷ [])) ∙ ap state_of (sym (lived-done base v.log c))
  after_one false c = sound.state_is ∙ ap state_of (sym (lived-doubt base v.log c))

  -- and so it stands with one command more
  pub sound_more : (new : LogView D LockCommand) (ok : Bool) (c : LockCommand) (next : LockState) → new.start ≡ v.start
      → new.log ≡ v.log ++ entry_of ok c ∷ [] → FitsLock c → IsChange state c
      → next ≡ (if ok then state_after state c else state) → IsSoundLocket new next
  sound_more new ok c next start_is log_is fits change next_is = record {
    opened = subst BeganAsLocks (sym start_is) sound.opened;
    lawful = subst (λ (o : Opened). IsLawful (state_of (commands_in o.payloads)) new.log) (sym start_is)
        (subst (IsLawful (state_of base)) (sym log_is) (lawful_more (state_of base) v.log ok c sound.lawful
        (change_behind c change)));
    fits = subst AreSpelled (sym log_is) (spelled_more v.log ok c sound.fits fits);
    state_is = next_is ∙ after_one ok c ∙ ap (λ (l : LockLog). state_of (lived base l)) (sym log_is)
        ∙ ap (λ (o : Opened). state_of (lived (commands_in o.payloads) new.log)) (sym start_is);
  }

  -- where the state alone is as it was, it stands still
  pub sound_still : (new : LogView D LockCommand) → new.start ≡ v.start → new.log ≡ v.log → IsSoundLocket new state
  sound_still new start_is log_is = record {
    opened = subst BeganAsLocks (sym start_is) sound.opened;
    lawful = subst (λ (o : Opened). IsLawful (state_of (commands_in o.payloads)) new.log) (sym start_is)
        (subst (IsLawful (state_of base)) (sym log_is) sound.lawful);
    fits = subst AreSpelled (sym log_is) sound.fits;
    state_is = sound.state_is ∙ ap (λ (l : LockLog). state_of (lived base l)) (sym log_is) ∙ ap
        (λ (o : Opened). state_of (lived (commands_in o.payloads) new.log)) (sym start_is);
  }

  -- ---- what putting it did to the disk

  module _ (c : LockCommand) (fits : FitsLock c) (change : IsChange state c) where
    with_it : (image : Image) → OpensBehind v.start (stored_in lock_spelled v.log ++ lock_spelled c ∷ []) image
        → IsLocket (lived base v.log ++ c ∷ []) image
    with_it image opening = behind_more v.start sound.opened v.log c image sound.fits sound.lawful fits
        (change_behind c change) opening

    without_it : (image : Image) → OpensBehind v.start (stored_in lock_spelled v.log) image
        → IsLocket (lived base v.log) image
    without_it image opening = behind_log v.start sound.opened v.log image sound.fits sound.lawful opening

    lives_on : (ok waits : Bool) (p q : Past) → AddsOne ok waits v.start (stored_in lock_spelled v.log)
        (lock_spelled c) p q → LivesOn ok waits (lived base v.log) c p q
    lives_on ok waits p q adds = record {
      each = λ image images. ⊎_elim (λ before. inl (without_it image before)) (λ after. inr (with_it image after))
          (adds.each image images);
      done = λ is image images. with_it image (adds.done is image images);
      undone = λ refused calm image images. without_it image (adds.undone refused calm image images);
    }

    pub passes_lock : (t0 t1 : Option Past) (waited ok waits : Bool)
        → Goes t0 t1 (PassesAdd waited ok waits v.start (stored_in lock_spelled v.log) (lock_spelled c))
        → Goes t0 t1 (PassesLock waited ok waits (lived base v.log) c)
    passes_lock t0 t1 waited ok waits goes =
        goes_weaker t0 t1 (PassesAdd waited ok waits v.start (stored_in lock_spelled v.log) (lock_spelled c))
        (PassesLock waited ok waits (lived base v.log) c)
        (λ p q i j passes. record {
          extends = passes.extends;
          lives = λ calm.
              lives_on ok waits p q (passes.adds calm);
        }) goes
