use Rattle.std.proofs.Common.{◌≡◌, ◌≤◌, ◌-◌, ℕ, length, List, arith, sym, ap, rules, IfOk, subst, Result}
use Rattle.std.specs.Prelude.{count_by}
use Rattle.payload_log.specs.Entries.{done_in, doubts_in}
use Rattle.locket.specs.Lives.{LockLog, lived, state_of}
use Rattle.lock_runs.specs.Courses.{is_done}
use Rattle.lock_runs.proofs.Counting.{both_counted, done_counted}
use Rattle.lock_runs.proofs.summing.summary_of.Goals as goal

pub overflow_sub-doubts : goal.overflow_sub-doubts
overflow_sub-doubts g c =
    let all = both_counted c.log-log.result.now in
    let some = done_counted c.log-log.result.now in
    omega (arith, all, some, c.done_in-done.ensures)

pub returns : goal.returns
returns g c =
    let log : c.log-log.result.now ≡ c.args.locket.now.log = c.log-log.ensures in
    let done : c.done_in-done.result ≡ length (done_in c.args.locket.now.log) =
    rw (c.done_in-done.ensures, log) (done_counted c.args.locket.now.log) in
    let all = both_counted c.args.locket.now.log in
    let doubts : length c.log-log.result.now - c.done_in-done.result ≡ doubts_in c.args.locket.now.log =
    omega (arith, all, done, ap length log) in
    rw (sym done, sym doubts, sym c.state.ensures) c.summary_text.ensures
