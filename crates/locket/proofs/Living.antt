-- Commands that change the state, one after another.
use Rattle.std.proofs.Common.{◌≡◌, ℕ, zero, suc, ◌+◌, Bool, true, false, List, [], ◌∷◌, ◌++◌, length, take, slice_get, Some, refl, sym, subst, arith}
use Rattle.payload_log.specs.Entries.{entry_of, done_in}
use Rattle.payload_log.specs.declared.entry.Entry.TheVariants.{Done, Doubt}
use Rattle.locket.specs.Laws.{LivesNeverFall}
use Rattle.locket.specs.Lives.{LockLog, unused, IsCounted, state_after, state_from, IsChange, AreChanges, IsLawful}
use Rattle.locket.specs.View.{AreSpelled}
use Rattle.locket.specs.Bytes.{FitsLock}
use Rattle.locket.specs.declared.command.LockCommand.{LockCommand}
use Rattle.locket.specs.declared.state.LockState.{LockState}
use Rattle.locket.proofs.Stepping.{IsAfter, change_is, after_is, after_step}

pub from-append : (s : LockState) (xs ys : List LockCommand) → state_from s (xs ++ ys) ≡ state_from (state_from s xs) ys
from-append s [] ys = refl
from-append s (c ∷ xs) ys = from-append (state_after s c) xs ys

pub changes-append : (s : LockState) (xs ys : List LockCommand) → AreChanges s xs → AreChanges (state_from s xs) ys
    → AreChanges s (xs ++ ys)
changes-append s [] ys first second = second
changes-append s (c ∷ xs) ys first second = (first.0, changes-append (state_after s c) xs ys first.1 second)

pub changes-front : (s : LockState) (xs ys : List LockCommand) → AreChanges s (xs ++ ys) → AreChanges s xs
changes-front s [] ys both = tt
changes-front s (c ∷ xs) ys both = (both.0, changes-front (state_after s c) xs ys both.1)

pub changes-back : (s : LockState) (xs ys : List LockCommand) → AreChanges s (xs ++ ys)
    → AreChanges (state_from s xs) ys
changes-back s [] ys both = both
changes-back s (c ∷ xs) ys both = changes-back (state_after s c) xs ys both.1

-- ---- what each change does

pub after_change : (s : LockState) (c : LockCommand) → IsChange s c → IsAfter s c (state_after s c)
after_change s c is =
    let v = change_is s c is in
    subst (IsAfter s c) (sym (after_is s c v.next v.answer v.verdict)) (after_step s c v.next v.answer v.verdict)

pub counted_after : (s : LockState) (c : LockCommand) → IsCounted s → IsChange s c → IsCounted (state_after s c)
counted_after s c counted is =
    let a = after_change s c is in
    let fences = counted.fences in
    let changes = counted.changes in
    let count = a.count in
    let few = a.few in
    let by_one = a.by_one in
    record { fences = omega (arith, fences, count, by_one); changes = omega (arith, changes, count, few) }

pub counted_unused : IsCounted unused
counted_unused = record { fences = omega arith; changes = omega arith }

pub counted_from : (s : LockState) (cs : List LockCommand) → IsCounted s → AreChanges s cs → IsCounted (state_from s cs)
counted_from s [] counted are = counted
counted_from s (c ∷ cs) counted are = counted_from (state_after s c) cs (counted_after s c counted are.0) are.1

-- the count is that of the changes
pub count_from : (s : LockState) (cs : List LockCommand) → AreChanges s cs
    → (state_from s cs).count ≡ s.count + length cs
count_from s [] are = omega arith
count_from s (c ∷ cs) are =
    let a = after_change s c are.0 in
    let count = a.count in
    let rest = count_from (state_after s c) cs are.1 in
    omega (arith, count, rest)

pub never_falls : LivesNeverFall
never_falls s [] are = record { seen = omega arith; last = omega arith }
never_falls s (c ∷ cs) are =
    let a = after_change s c are.0 in
    let rest = never_falls (state_after s c) cs are.1 in
    let seen = a.seen in
    let later = a.later in
    let last = a.last in
    let rest_seen = rest.seen in
    let rest_last = rest.last in
    record { seen = omega (arith, seen, later, rest_seen); last = omega (arith, last, rest_last) }

-- ---- logs

-- what is done in a lawful log changes the state
pub lawful_changes : (s : LockState) (log : LockLog) → IsLawful s log → AreChanges s (done_in log)
lawful_changes s [] lawful = tt
lawful_changes s (Done c ∷ log) lawful = (lawful.0, lawful_changes (state_after s c) log lawful.1)
lawful_changes s (Doubt c ∷ log) lawful = lawful_changes s log lawful.1

pub lawful_take : (s : LockState) (log : LockLog) (place : ℕ) → IsLawful s log → IsLawful s (take place log)
lawful_take s [] zero lawful = tt
lawful_take s [] (suc place) lawful = tt
lawful_take s (item ∷ log) zero lawful = tt
lawful_take s (Done c ∷ log) (suc place) lawful = (lawful.0, lawful_take (state_after s c) log place lawful.1)
lawful_take s (Doubt c ∷ log) (suc place) lawful = (lawful.0, lawful_take s log place lawful.1)

-- a doubt would change the state that what is done before it leaves
pub lawful_doubt : (s : LockState) (log : LockLog) (place : ℕ) (c : LockCommand) → IsLawful s log
    → slice_get log place ≡ Some (Doubt c) → IsChange (state_from s (done_in (take place log))) c
lawful_doubt s [] place c lawful is = absurd cc
lawful_doubt s (Done d ∷ log) zero c lawful is = absurd cc
lawful_doubt s (Done d ∷ log) (suc place) c lawful is = lawful_doubt (state_after s d) log place c lawful.1 is
lawful_doubt s (Doubt d ∷ log) zero c lawful is = let same : d ≡ c = cc in subst (IsChange s) same lawful.0
lawful_doubt s (Doubt d ∷ log) (suc place) c lawful is = lawful_doubt s log place c lawful.1 is

pub lawful_more : (s : LockState) (log : LockLog) (ok : Bool) (c : LockCommand) → IsLawful s log
    → IsChange (state_from s (done_in log)) c → IsLawful s (log ++ entry_of ok c ∷ [])
lawful_more s [] true c lawful is = (is, tt)
lawful_more s [] false c lawful is = (is, tt)
lawful_more s (Done d ∷ log) ok c lawful is = (lawful.0, lawful_more (state_after s d) log ok c lawful.1 is)
lawful_more s (Doubt d ∷ log) ok c lawful is = (lawful.0, lawful_more s log ok c lawful.1 is)

-- ---- spellings

-- each of these has one
abbrev pub AllFit : List LockCommand → Type 0
AllFit [] = Unit {0}
AllFit (c ∷ cs) = FitsLock c × AllFit cs

pub done_fit : (log : LockLog) → AreSpelled log → AllFit (done_in log)
done_fit [] fits = tt
done_fit (Done c ∷ log) fits = (fits.0, done_fit log fits.1)
done_fit (Doubt c ∷ log) fits = done_fit log fits.1

pub spelled_take : (log : LockLog) (place : ℕ) → AreSpelled log → AreSpelled (take place log)
spelled_take [] zero fits = tt
spelled_take [] (suc place) fits = tt
spelled_take (item ∷ log) zero fits = tt
spelled_take (Done c ∷ log) (suc place) fits = (fits.0, spelled_take log place fits.1)
spelled_take (Doubt c ∷ log) (suc place) fits = (fits.0, spelled_take log place fits.1)

pub spelled_doubt : (log : LockLog) (place : ℕ) (c : LockCommand) → AreSpelled log
    → slice_get log place ≡ Some (Doubt c) → FitsLock c
spelled_doubt [] place c fits is = absurd cc
spelled_doubt (Done d ∷ log) zero c fits is = absurd cc
spelled_doubt (Done d ∷ log) (suc place) c fits is = spelled_doubt log place c fits.1 is
spelled_doubt (Doubt d ∷ log) zero c fits is = let same : d ≡ c = cc in subst FitsLock same fits.0
spelled_doubt (Doubt d ∷ log) (suc place) c fits is = spelled_doubt log place c fits.1 is

pub spelled_more : (log : LockLog) (ok : Bool) (c : LockCommand) → AreSpelled log → FitsLock c
    → AreSpelled (log ++ entry_of ok c ∷ [])
spelled_more [] true c fits is = (is, tt)
spelled_more [] false c fits is = (is, tt)
spelled_more (Done d ∷ log) ok c fits is = (fits.0, spelled_more log ok c fits.1 is)
spelled_more (Doubt d ∷ log) ok c fits is = (fits.0, spelled_more log ok c fits.1 is)

pub fit-append : (xs ys : List LockCommand) → AllFit xs → AllFit ys → AllFit (xs ++ ys)
fit-append [] ys first second = second
fit-append (c ∷ xs) ys first second = (first.0, fit-append xs ys first.1 second)
