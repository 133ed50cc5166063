-- How a pair stands behind a call of one of its boards.
use Rattle.std.proofs.Common.{◌≡◌, ◌≤◌, ◌<◌, ◌⊎◌, ℕ, ◌+◌, Bool, true, false, not, List, [], ◌∷◌, ◌++◌, length, map, drop, slice_get, Option, Some, None, Result, Ok, Err, refl, sym, ap, subst, inl, inr, ◌∙◌, arith, length-append}
use Rattle.std.proofs.lemmas.List.{length-map}
use Rattle.std.proofs.Math.Seq.{drop-length}
use Rattle.std.specs.Option.{ForSome}
use Rattle.byte_ports.specs.Cause.{HasCause}
use Rattle.disk_trait.specs.Past.{Past}
use Rattle.disk_trait.specs.Steps.{Goes}
use Rattle.bbs_board.specs.Calls.{Grows, Passes}
use Rattle.bbs_board.specs.Kept.{Kept}
use Rattle.bbs_board.specs.View.{View, rows_of}
use Rattle.bbs_model.specs.Calls.{Ends, added, is_done, is_disk_fault, is_starved}
use Rattle.bbs_model.specs.Replay.{IsLawful}
use Rattle.bbs_model.specs.Step.{verdict_of, IsLegal}
use Rattle.bbs_model.specs.declared.command.Command.{Command}
use Rattle.bbs_model.specs.declared.item.Item.{Item}
use Rattle.bbs_model.specs.declared.item.Item.TheVariants.{Done, Doubt}
use Rattle.bbs_model.specs.declared.reply.CallFault.{CallFault}
use Rattle.bbs_model.specs.declared.reply.CallFault.TheVariants as board_fault
use Rattle.bbs_model.specs.declared.reply.Reply.{Reply}
use Rattle.bbs_model.specs.declared.reply.Reply.TheVariants as reply
use Rattle.bbs_model.specs.declared.rows.Rows.{Rows}
use Rattle.bbs_model.specs.declared.verdict.Verdict.{Verdict}
use Rattle.bbs_model.specs.declared.verdict.Verdict.TheVariants as verdict
use Rattle.fenced_board.specs.Fences.{FenceView}
use Rattle.standby_board.specs.Pairs.{PairView, IsCalm, IsPaired, StandsPaired, TriesNext, dones, owed}
use Rattle.standby_board.specs.Steps.{CatchesUp, TurnsOut, lacked_after}
use Rattle.standby_board.proofs.Standing.{not_gone, gone_further, paired_primary, paired_standby}

-- a pair that was just started
module _ {D E : Type 0} (told : D → Option Past) (told' : E → Option Past) (p : View D) (s : View E) (f : FenceView)
    (equal : rows_of p ≡ rows_of s) (calm : IsCalm s.log)
    (numbers : f.numbers ≡ []) (kept : ForSome (told' s.disk) (Kept s.base s.log s.marks s.since)) where
  stands_new : StandsPaired told told' (record {
    primary = p;
    standby = s;
    primary_start = p;
    standby_start = s;
    fence =
        f;
    missing = None;
  })
  stands_new =
      let none : length f.numbers ≡ 0 = ap length numbers in
      record {
        primary = not_gone told p;
        standby = not_gone told' s;
        begun = kept;
        paired = record {
          equal = equal;
          calm = calm;
          mirrors = ap dones (drop-length p.log) ∙ sym (ap (λ (xs : List Item). dones xs ++ []) (drop-length s.log));
          tries = subst (λ (xs : List Item). TriesNext xs []) (sym (drop-length s.log)) tt;
          level = equal;
          ready = tt;
          counted = omega (arith, none);
        };
      }

  pub stands_started : (p_start : View D) (s_start : View E) → p_start ≡ p → s_start ≡ s
      → StandsPaired told told' (record {
        primary = p;
        standby = s;
        primary_start = p_start;
        standby_start =
            s_start;
        fence = f;
        missing = None;
      })
  stands_started p_start s_start primary standby =
      subst (λ (x : View D). StandsPaired told told' (record
      { primary = p; standby = s; primary_start = x; standby_start = s_start; fence = f; missing = None }))
      (sym primary)
      (subst (λ (x : View E). StandsPaired told told' (record
      { primary = p; standby = s; primary_start = p; standby_start = x; fence = f; missing = None })) (sym standby)
      stands_new)

-- what a call for a legal command adds, with room for it
stored_item : (place stamp by : ℕ) (c : Command) (end : Result Reply CallFault) → Ends verdict.Ok place stamp end
    → is_done end ≡ true → added end by c ≡ Done by c ∷ []
stored_item place stamp by c (Ok (reply.Ok place' stamp')) ends done = refl
stored_item place stamp by c (Ok (reply.Same place')) ends done = absurd (cc (done))
stored_item place stamp by c (Ok (reply.Refused why place')) ends done = absurd (cc (done))
stored_item place stamp by c (Err why) ends done = absurd (cc (done))

failed_item : (place stamp by : ℕ) (c : Command) (end : Result Reply CallFault) → Ends verdict.Ok place stamp end
    → is_starved end ≡ false → is_done end ≡ false
    → (added end by c ≡ Doubt by c ∷ []) × (is_disk_fault end ≡ true)
failed_item place stamp by c (Ok (reply.Ok place' stamp')) ends fed done = absurd (cc (done))
failed_item place stamp by c (Ok (reply.Same place')) ends fed done = absurd (not_so ends)
  where
    not_so : Ends verdict.Ok place stamp (Ok (reply.Same place')) → ⊥
    not_so ends = elim ends as (λ _. ⊥) [
      | inl is ↦ cc (is)
      | inr e ↦ elim e as
          (λ _. ⊥) [ inl is ↦ cc (is) | inr is ↦ cc (is) ]
    ]
failed_item place stamp by c (Ok (reply.Refused why place')) ends fed done = absurd (not_so ends)
  where
    not_so : Ends verdict.Ok place stamp (Ok (reply.Refused why place')) → ⊥
    not_so ends = elim ends as (λ _. ⊥) [
      | inl is ↦ cc (is)
      | inr e ↦ elim e as
          (λ _. ⊥) [ inl is ↦ cc (is) | inr is ↦ cc (is) ]
    ]
failed_item place stamp by c (Err (board_fault.Disk place')) ends fed done = (refl, refl)
failed_item place stamp by c (Err board_fault.OutOfMemory) ends fed done = absurd (cc (fed))

not_stored : (end : Result Reply CallFault) → is_done end ≡ true → is_disk_fault end ≡ false
not_stored (Ok r) done = refl
not_stored (Err why) done = absurd (cc (done))

-- what is done for a command is what the standby lacks then
owes : (end : Result Reply CallFault) (by : ℕ) (c : Command) → dones (added end by c) ≡ owed (lacked_after end by c)
owes (Ok (reply.Ok place stamp)) by c = refl
owes (Ok (reply.Same place)) by c = refl
owes (Ok (reply.Refused why place)) by c = refl
owes (Err (board_fault.Disk place)) by c = refl
owes (Err board_fault.OutOfMemory) by c = refl

-- and it is legal
owes_legal : (v : Verdict) (place stamp by : ℕ) (c : Command) (rows : Rows) (end : Result Reply CallFault)
    → verdict_of rows c ≡ v → Ends v place stamp end
    → IsLawful rows (owed (lacked_after end by c))
owes_legal verdict.Ok place stamp by c rows (Ok (reply.Ok place' stamp')) is ends = (is, tt)
owes_legal verdict.Same place stamp by c rows (Ok (reply.Ok place' stamp')) is ends = absurd (cc (ends))
owes_legal (verdict.Refused why) place stamp by c rows (Ok (reply.Ok place' stamp')) is ends = absurd (cc (ends))
owes_legal v place stamp by c rows (Ok (reply.Same place')) is ends = tt
owes_legal v place stamp by c rows (Ok (reply.Refused why place')) is ends = tt
owes_legal v place stamp by c rows (Err why) is ends = tt

module _ {D E : Type 0} (told : D → Option Past) (told' : E → Option Past) (v : PairView D E)
    (stands : StandsPaired told told' v) where
  -- the standby was called for what it lacked
  module _ (s : View E) (by : ℕ) (c : Command) (end : Result Reply CallFault) (moment : ℕ)
      (missing : v.missing ≡ Some (by, c))
      (ends : Ends (verdict_of (rows_of v.standby) c) (length v.standby.log) (rows_of v.standby).next end)
      (grows : Grows (is_done end) (added end by c) moment v.standby s)
      (does : Goes (told' v.standby.disk) (told' s.disk) (Passes v.standby.waits (verdict_of (rows_of v.standby) c)
      (is_done end) (rows_of v.standby) c)) where
    legal : IsLegal (rows_of v.standby) c
    legal =
        let ready : IsLawful (rows_of v.standby) (Done by c ∷ []) =
        subst (λ (m : Option (ℕ × Command)). IsLawful (rows_of v.standby) (owed m)) missing stands.paired.ready in
        ready.0

    ends_ok : Ends verdict.Ok (length v.standby.log) (rows_of v.standby).next end
    ends_ok = subst (λ (x : Verdict). Ends x (length v.standby.log) (rows_of v.standby).next end) legal ends

    abbrev Timed : Type 0
    Timed = (q : Past) → told' s.disk ≡ Some q → q.clock ≡ moment

    turned : (items : List Item) (lacks : Option (ℕ × Command)) → Timed → added end by c ≡ items
        → owed v.missing ≡ dones items ++ owed lacks
        → TriesNext items (owed lacks) → StandsPaired told told' (record v { standby = s; missing = lacks })
    turned items lacks timed is parts tries = record {
      primary = stands.primary;
      standby = gone_further told' v.standby_start v.standby s c end by moment ends grows timed does stands.standby;
      begun = stands.begun;
      paired = paired_standby v stands.paired s stands.standby.fresh items lacks stands.standby.goes.grows grows.base
          (grows.log ∙ ap (λ (xs : List Item). v.standby.log ++ xs) is) parts tries;
    }

    pub stands_stored : Timed → is_done end ≡ true → StandsPaired told told' (record v { standby = s; missing = None })
    stands_stored timed done =
        turned (Done by c ∷ []) None timed (stored_item (length v.standby.log) (rows_of v.standby).next by c end ends_ok done)
        (ap owed missing) tt

    pub stands_failed : Timed → is_starved end ≡ false → is_done end ≡ false
        → StandsPaired told told' (record v { standby = s })
    stands_failed timed fed done =
        let item = failed_item (length v.standby.log) (rows_of v.standby).next by c end ends_ok fed done in
        let lacks : owed v.missing ≡ Done by c ∷ [] = ap owed missing in
        turned (Doubt by c ∷ []) v.missing timed item.0 refl (ap (λ (xs : List Item). slice_get xs 0) lacks, tt)

    module _ (moment_of fault_count : E → ℕ) (at : moment ≡ moment_of s.disk)
        (cause : HasCause (is_disk_fault end) (fault_count v.standby.disk) (fault_count s.disk)) where
      caught : (ok : Bool) (after : Option (ℕ × Command)) (item : Item) → added end by c ≡ item ∷ []
          → TurnsOut ok (Some (by, c)) after (item ∷ [])
          → is_disk_fault end ≡ not ok → CatchesUp moment_of fault_count ok v.missing after v.standby s
      caught ok after item is turns failed = record {
        tried = item ∷ [];
        turns = subst (λ (m : Option (ℕ × Command)). TurnsOut ok m after (item ∷ [])) (sym missing) turns;
        log = grows.log ∙ ap (λ (xs : List Item). v.standby.log ++ xs) is;
        marks = grows.marks ∙ ap (λ (xs : List Item). v.standby.marks ++ map (λ item. moment) xs) is ∙ ap
            (λ (n : ℕ). v.standby.marks ++ n ∷ []) at;
        idle = λ none. absurd (cc (none));
        cause = subst (λ (b : Bool). HasCause b (fault_count v.standby.disk) (fault_count s.disk)) failed cause;
      }

      pub caught_up : is_done end ≡ true → CatchesUp moment_of fault_count true v.missing None v.standby s
      caught_up done =
          caught true None (Done by c) (stored_item (length v.standby.log)
          (rows_of v.standby).next by c end ends_ok done) (refl, refl) (not_stored end done)

      pub not_caught_up : is_starved end ≡ false → is_done end ≡ false
          → CatchesUp moment_of fault_count false v.missing v.missing v.standby s
      not_caught_up fed done =
          let item = failed_item (length v.standby.log) (rows_of v.standby).next by c end ends_ok fed done in
          caught false v.missing (Doubt by c) item.0 (missing, refl) item.1

  -- the primary was called where nothing was missing
  pub stands_called : (p : View D) (f : FenceView) (by : ℕ) (c : Command) (end : Result Reply CallFault)
      (moment number : ℕ) → v.missing ≡ None
      → Ends (verdict_of (rows_of v.primary) c) (length v.primary.log) (rows_of v.primary).next end
      → Grows (is_done end) (added end by c) moment v.primary p → ((q : Past) → told p.disk ≡ Some q → q.clock ≡ moment)
      → Goes (told v.primary.disk) (told p.disk) (Passes v.primary.waits (verdict_of (rows_of v.primary) c)
      (is_done end) (rows_of v.primary) c)
      → f.numbers ≡ v.fence.numbers ++ map (λ item. number) (added end by c)
      → StandsPaired told told' (record v { primary = p; fence = f; missing = lacked_after end by c })
  stands_called p f by c end moment number missing ends grows timed does numbers =
      let counted : length f.numbers ≡ length v.fence.numbers + length (added end by c) =
      ap length numbers ∙ length-append v.fence.numbers (map (λ item. number) (added end by c))
      ∙ ap (λ (n : ℕ). length v.fence.numbers + n) (length-map (added end by c) (λ (item : Item). number)) in
      record {
        primary = gone_further told v.primary_start v.primary p c end by moment ends grows timed does stands.primary;
        standby = stands.standby;
        begun = stands.begun;
        paired = paired_primary v stands.paired p f stands.primary.fresh (added end by c)
            (lacked_after end by c) missing stands.primary.goes.grows grows.base
            grows.log (owes end by c)
            (owes_legal (verdict_of (rows_of v.primary) c) (length v.primary.log) (rows_of v.primary).next by c
            (rows_of v.primary) end refl ends) counted;
      }
