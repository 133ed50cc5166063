-- The items of a locket's log, counted.
use Rattle.std.proofs.Common.{◌≡◌, ◌∙◌, ◌+◌, [], ◌∷◌, length, refl, sym, arith}
use Rattle.std.specs.Prelude.{count_by, filter}
use Rattle.std.proofs.lemmas.List.Sums.{length-filter}
use Rattle.payload_log.specs.Entries.{done_in, doubts_in}
use Rattle.payload_log.specs.declared.entry.Entry.TheVariants.{Done, Doubt}
use Rattle.locket.specs.Lives.{LockLog}
use Rattle.lock_runs.specs.Courses.{is_done}

done_filtered : (log : LockLog) → length (filter is_done log) ≡ length (done_in log)
done_filtered [] = refl
done_filtered (Done c ∷ log) = let rest = done_filtered log in omega (arith, rest)
done_filtered (Doubt c ∷ log) = done_filtered log

pub done_counted : (log : LockLog) → count_by is_done log ≡ length (done_in log)
done_counted log = sym (length-filter is_done log) ∙ done_filtered log

-- each is done or in doubt
pub both_counted : (log : LockLog) → length (done_in log) + doubts_in log ≡ length log
both_counted [] = refl
both_counted (Done c ∷ log) = let rest = both_counted log in omega (arith, rest)
both_counted (Doubt c ∷ log) = let rest = both_counted log in omega (arith, rest)
