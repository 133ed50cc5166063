-- A head that is longer than a prepared one is refused at its first byte.
use Rattle.std.proofs.Common.{◌≡◌, ◌⊎◌, inl, inr, ℕ, ◌+◌, ◌<◌, ◌≤◌, Bool, true, false, cond, eqb, ◌&&◌, List, ◌++◌, length, Result, Ok, Err, ap, ◌∙◌, arith, length-append}
use Rattle.std.specs.List.{list_all}
use Rattle.std.proofs.lemmas.Bool.Decides.{nat_tests}
use Rattle.disk_trait.specs.Past.{Image}
use Rattle.bbs_journal.specs.NotLoaded.{HasLongHead}
use Rattle.bbs_journal.specs.Opening.{Headed, headed}
use Rattle.bbs_journal.specs.Outcomes.{IsHeadless, IsOpened}
use Rattle.bbs_journal.specs.declared.load_fault.LoadFault.{LoadFault}
use Rattle.bbs_journal.specs.declared.load_fault.LoadFault.TheVariants.{Damaged}
use Rattle.bbs_journal.specs.declared.not_loaded.LongHead.{LongHead}
use Rattle.bbs_journal.proofs.Public.{opens_or_not}
use Rattle.locket.specs.Lives.{unused}
use Rattle.locket.specs.Opening.{prepared_size, is_prepared, followed, locks_of, IsNotLocket}

size_at_most : (b : Bool) → cond b 24 28 ≤ 28
size_at_most true = omega arith
size_at_most false = omega arith

-- a head of more bytes is no prepared one
longer_unprepared : (version : ℕ) (head : List ℕ) → 28 < length head → is_prepared version head ≡ false
longer_unprepared version head longer =
    let most = size_at_most (eqb version 1) in
    let other : eqb (length head) (prepared_size version) ≡ false = grind (arith, nat_tests, longer, most) in
    ap (λ (b : Bool). b && list_all (λ b. eqb b 0) head) other

same_headed : (a b : Headed) (r : Result Headed LoadFault) → r ≡ Ok a → r ≡ Ok b → a ≡ b
same_headed a b r first second = cc

module _ (long : LongHead) (c : Image) (is : HasLongHead long c) (cut : length long.begin.items ≡ 28) where
  abbrev pub head : List ℕ
  head = long.begin.items ++ is.rest

  at_opening : IsHeadless c ⊎ IsOpened c → IsNotLocket (Damaged long.area 23) c
  at_opening (inl headless) = absurd (let none = headless.refused in let some = is.head_is in cc)
  at_opening (inr opened) =
      let same = same_headed (record {
        area = opened.area;
        version = opened.version;
        generation = opened.generation;
        head = opened.head;
      }) (record {
        area = long.area;
        version = long.version;
        generation = is.generation;
        head = head;
      }) (headed c) opened.opening.head_is is.head_is in
      let longer : 28 < length opened.head = omega (
        arith,
        cut,
        is.longer,
        length-append long.begin.items is.rest,
        ap (λ (h : Headed). length h.head) same,
      ) in
      let none = longer_unprepared opened.version opened.head longer in
      inr (record {
        area = opened.area;
        version = opened.version;
        generation = opened.generation;
        head = opened.head;
        payloads = opened.payloads;
        broken = opened.broken;
        end = opened.end;
        opening = opened.opening;
        fault_is = ap (λ (b : Bool). cond b
            (followed opened.area opened.broken unused (23 + length opened.head) opened.payloads)
            (Err (Damaged opened.area 23))) none
            ∙ ap (λ (h : Headed). Err (Damaged h.area 23)) same;
      })

  pub long_refused : IsNotLocket (Damaged long.area 23) c
  long_refused = at_opening (opens_or_not c)
