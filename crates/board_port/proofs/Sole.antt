-- A call of the board and a look at it, as its one caller sees them.
use Rattle.std.proofs.Common.{◌≡◌, ◌≢◌, ◌==◌, ◌<◌, ◌^◌, ℕ, Bool, true, false, List, [], ◌∷◌, ◌++◌, length, Option, Some, Result, Ok, Err, refl, sym, ap, subst, ◌∙◌, arith}
use Rattle.std.proofs.lemmas.List.Elements.{filter-append}
use Rattle.disk_trait.specs.Past.{Past}
use Rattle.disk_trait.specs.Runs.{Extends}
use Rattle.disk_trait.specs.Steps.{Goes}
use Rattle.disk_trait.proofs.Public.{goes_same, goes_weaker}
use Rattle.bbs_model.specs.Calls.{Ends, added, is_done, by_of, by_number}
use Rattle.bbs_model.specs.PortView.{after_own, IsCalled}
use Rattle.bbs_model.specs.Step.{verdict_of}
use Rattle.bbs_model.specs.declared.command.Command.{Command}
use Rattle.bbs_model.specs.declared.item.Item.{Item}
use Rattle.bbs_model.specs.declared.item.Item.TheVariants.{Done}
use Rattle.bbs_model.specs.declared.reply.CallFault.{CallFault}
use Rattle.bbs_model.specs.declared.reply.CallFault.TheVariants as fault
use Rattle.bbs_model.specs.declared.reply.Reply.{Reply}
use Rattle.bbs_model.specs.declared.reply.Reply.TheVariants as reply
use Rattle.bbs_model.specs.declared.rows.Rows.{Rows}
use Rattle.bbs_model.proofs.Public.{called_alone}
use Rattle.bbs_board.specs.Calls.{Grows, Passes}
use Rattle.bbs_board.specs.Doubts.{doubts_in}
use Rattle.bbs_board.specs.View.{View, rows_of}
use Rattle.bbs_board.specs.Written.{WritesOn}
use Rattle.bbs_board.proofs.Public.{writes_nothing, stores_writes}
use Rattle.board_port.specs.Went.{seen_of, Went}
use Rattle.board_port.proofs.Marks.{call_leaves, call_marks, was_stored}

same_number : (by : ℕ) → (by == by) ≡ true
same_number by = grind arith

other_number : (by n : ℕ) → n ≢ by → (by == n) ≡ false
other_number by n ne = grind arith

-- what a call adds is the caller's own
own_added : (end : Result Reply CallFault) (by : ℕ) (c : Command) → by_number by (added end by c) ≡ added end by c
own_added (Ok (reply.Ok place stamp)) by c = rw (same_number by) refl
own_added (Ok (reply.Same place)) by c = refl
own_added (Ok (reply.Refused why place)) by c = refl
own_added (Err (fault.Disk place)) by c = rw (same_number by) refl
own_added (Err fault.OutOfMemory) by c = refl

-- and of nobody else
no_others : (end : Result Reply CallFault) (by : ℕ) (c : Command) (n : ℕ) → n ≢ by → by_number n (added end by c) ≡ []
no_others (Ok (reply.Ok place stamp)) by c n ne = rw (other_number by n ne) refl
no_others (Ok (reply.Same place)) by c n ne = refl
no_others (Ok (reply.Refused why place)) by c n ne = refl
no_others (Err (fault.Disk place)) by c n ne = rw (other_number by n ne) refl
no_others (Err fault.OutOfMemory) by c n ne = refl

module _ {D : Type 0} (told : D → Option Past) (v w : View D) (c : Command) (by moment : ℕ) where
  abbrev Writes : Result Reply CallFault → Type 0
  Writes end = v.waits ≡ false → doubts_in (added end by c) ≡ 0
      → (w.waits ≡ false) × Goes (told v.disk) (told w.disk) (WritesOn (rows_of v) (added end by c))

  -- a call that adds nothing leaves the disk as it was
  idle_writes : (done : Bool) → Grows done [] moment v w → v.waits ≡ false
      → (w.waits ≡ false) × Goes (told v.disk) (told w.disk) (WritesOn (rows_of v) [])
  idle_writes done grows calm =
      let same = grows.idle refl in (
        ap (λ (x : View D). x.waits) same ∙ calm,
        subst (λ (d : D). Goes (told v.disk) (told d) (WritesOn (rows_of v) []))
            (sym (ap (λ (x : View D). x.disk) same)) (goes_same (told v.disk) (WritesOn (rows_of v) [])
            (λ p is. writes_nothing (rows_of v) p)),
      )

  pub call_writes : (end : Result Reply CallFault) → Ends (verdict_of (rows_of v) c) (length v.log) (rows_of v).next end
      → Grows (is_done end) (added end by c) moment v w
      → Goes (told v.disk) (told w.disk) (Passes v.waits (verdict_of (rows_of v) c) (is_done end) (rows_of v) c)
      → Writes end
  call_writes (Ok (reply.Ok place stamp)) ends grows goes calm none = (
    grows.calm refl,
    goes_weaker (told v.disk) (told w.disk) (Passes v.waits (verdict_of (rows_of v) c) true (rows_of v) c)
        (WritesOn (rows_of v) (Done by c ∷ []))
        (λ p q i j passes. stores_writes by (rows_of v) c p q
        (was_stored (verdict_of (rows_of v) c) (length v.log) (rows_of v).next place stamp (rows_of v) c p q ends
        (passes.stores calm))) goes,
  )
  call_writes (Ok (reply.Same place)) ends grows goes calm none = idle_writes false grows calm
  call_writes (Ok (reply.Refused why place)) ends grows goes calm none = idle_writes false grows calm
  call_writes (Err (fault.Disk place)) ends grows goes calm none = absurd (omega (arith, none))
  call_writes (Err fault.OutOfMemory) ends grows goes calm none = idle_writes false grows calm

module _ {D : Type 0} (by : ℕ) (v w : View D) (c : Command) (end : Result Reply CallFault) (moment : ℕ)
    (ends : Ends (verdict_of (rows_of v) c) (length v.log) (rows_of v).next end)
    (grows : Grows (is_done end) (added end by c) moment v w) where
  mine_more : (log : List Item) → log ≡ v.log ++ added end by c
      → by_number by log ≡ by_number by v.log ++ added end by c
  mine_more log is =
      ap (by_number by) is ∙ filter-append (λ (i : Item). by_of i == by) v.log (added end by c)
      ∙ ap (λ (xs : List Item). by_number by v.log ++ xs) (own_added end by c)

  sees_more : seen_of by w ≡ after_own (seen_of by v) (added end by c)
  sees_more = view_is w.base w.log grows.base grows.log
    where
      view_is : (base : Rows) (log : List Item) → base ≡ v.base → log ≡ v.log ++ added end by c
          → record { base = base; seen = log; mine = by_number by log } ≡ after_own (seen_of by v) (added end by c)
      view_is base log base_is log_is =
          ap (λ (r : Rows). record { base = r; seen = log; mine = by_number by log }) base_is
          ∙ ap (λ (l : List Item). record { base = v.base; seen = l; mine = by_number by log }) log_is
          ∙ ap (λ (l : List Item). record { base = v.base; seen = v.log ++ added end by c; mine = l })
          (mine_more log log_is)

  pub sole_called : length w.log < 2 ^ 64 → IsCalled by (seen_of by v) c end (seen_of by w)
  sole_called few = called_alone by (seen_of by v) c end (seen_of by w) ends sees_more few

  pub sole_went : (told : D → Option Past) (name : ℕ) → ((q : Past) → told w.disk ≡ Some q → q.clock ≡ moment)
      → Goes (told v.disk) (told w.disk)
      (Passes v.waits (verdict_of (rows_of v) c) (is_done end) (rows_of v) c) → Went told by by name name v w
  sole_went told name timed goes = record {
    by_is = refl;
    name_is = refl;
    more = added end by c;
    goes = record {
      base = grows.base;
      since = grows.since;
      faults = grows.faults;
      grows = grows.log;
      marks = call_marks told v w moment (is_done end) (added end by c) grows timed later;
      disk = later;
      writes = call_writes told v w c by moment end ends grows goes;
      leaves = call_leaves told v w moment by c end ends grows goes;
    };
    own = own_added end by c;
    others = no_others end by c;
  }
    where
      later : Goes (told v.disk) (told w.disk) Extends
      later = goes_weaker (told v.disk) (told w.disk) (Passes v.waits (verdict_of (rows_of v) c) (is_done end)
          (rows_of v) c) Extends (λ p q i j passes. passes.extends) goes
