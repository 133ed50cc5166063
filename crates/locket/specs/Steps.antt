-- The step of a lock command: whether it changes the state, and what is answered.
use Rattle.std.specs.Prelude.{ℕ, ◌+◌, ◌==◌, ◌&&◌, nat_eq, nat_lt, nat_le, Bool, Option, Some, None, List, if◌then◌else◌}
use Rattle.std.specs.Cmp.Lexicographic.{pointwise}
use Rattle.crash_backoff.specs.declared.moment.Moment.{Moment}
use Rattle.locket.specs.declared.command.LockCommand.{LockCommand}
use Rattle.locket.specs.declared.command.LockOp.{LockOp}
use Rattle.locket.specs.declared.command.LockOp.TheVariants.{Acquire, Renew, Release}
use Rattle.locket.specs.declared.reply.LockRefusal.{LockRefusal}
use Rattle.locket.specs.declared.reply.LockRefusal.TheVariants.{Past, Held, NotHolder, Expired, LockFull}
use Rattle.locket.specs.declared.reply.LockReply.{LockReply}
use Rattle.locket.specs.declared.reply.LockReply.TheVariants as reply
use Rattle.locket.specs.declared.state.Lease.{Lease}
use Rattle.locket.specs.declared.state.LockState.{LockState}
use Rattle.locket.specs.declared.verdict.LockVerdict.{LockVerdict}
use Rattle.locket.specs.declared.verdict.LockVerdict.TheVariants.{Changes, Stays}

-- how many changes a locket makes in its life at most
abbrev pub most_changes : ℕ
most_changes = 1000000

-- the state after one change more, at this moment
abbrev pub changed : LockState → Moment → ℕ → Option Lease → LockState
changed s now last held = record { last = last; seen = now; held = held; count = s.count + 1 }

-- nothing changes, for this reason
abbrev pub refusing : LockRefusal → LockVerdict
refusing why = Stays (reply.Refused why)

-- a change with its answer, unless the locket has made its last
abbrev pub unless_full : LockState → LockState → LockReply → LockVerdict
unless_full s next answer = if s.count == most_changes then refusing LockFull else Changes next answer

-- a lease with the next fence
abbrev pub next_lease : LockState → Moment → List ℕ → ℕ → Lease
next_lease s now owner ttl = record { owner = owner; fence = s.last + 1; until = now.0 + ttl }

-- it is given
abbrev pub given : LockState → Moment → List ℕ → ℕ → LockVerdict
given s now owner ttl =
    let lease = next_lease s now owner ttl in
    unless_full s (changed s now lease.fence (Some lease)) (reply.Ok lease)

-- two names are one
abbrev pub same_owner : List ℕ → List ℕ → Bool
same_owner a b = pointwise nat_eq a b

-- a lease that holds is asked for by an owner: it has it already, or another has
abbrev pub taken : Lease → List ℕ → LockVerdict
taken lease owner =
    if same_owner lease.owner owner then Stays (reply.Same lease) else refusing (Held lease.owner lease.until)

-- a lease is asked for by an owner, where this one wasn't released, if there is one
abbrev pub acquired : Option Lease → LockState → Moment → List ℕ → ℕ → LockVerdict
acquired None s now owner ttl = given s now owner ttl
acquired (Some lease) s now owner ttl =
    if nat_lt now.0 lease.until then taken lease owner else given s now owner ttl

-- the lease that isn't released, if it is of that owner and has that fence
abbrev pub own_lease : Option Lease → List ℕ → ℕ → Option Lease
own_lease None owner fence = None
own_lease (Some lease) owner fence = if same_owner lease.owner owner && lease.fence == fence then Some lease else None

-- the same lease with another end
abbrev pub ending : Lease → ℕ → Lease
ending lease until = record { owner = lease.owner; fence = lease.fence; until = until }

-- an owner asks for its own lease to end then and then, counted from now
abbrev pub renewed : Option Lease → LockState → Moment → ℕ → LockVerdict
renewed None s now ttl = refusing (NotHolder s.last)
renewed (Some lease) s now ttl =
    if nat_le lease.until now.0 then refusing (Expired lease.until)
    else (if lease.until == now.0 + ttl then Stays (reply.Same lease)
    else (let longer = ending lease (now.0 + ttl) in
    unless_full s (changed s now s.last (Some longer)) (reply.Ok longer)))

-- an owner gives its own lease back
abbrev pub released : Option Lease → LockState → Moment → LockVerdict
released None s now = refusing (NotHolder s.last)
released (Some lease) s now = unless_full s (changed s now s.last None) (reply.Released lease.fence)

-- what an operation comes to at a moment that isn't before the last change
abbrev pub by_op : LockState → Moment → LockOp → LockVerdict
by_op s now (Acquire owner ttl) = acquired s.held s now owner ttl
by_op s now (Renew owner fence ttl) = renewed (own_lease s.held owner fence) s now ttl
by_op s now (Release owner fence) = released (own_lease s.held owner fence) s now

-- what a command comes to
unfoldable pub lock_step : LockState → LockCommand → LockVerdict
lock_step s c = if nat_lt c.now.0 s.seen.0 then refusing (Past s.seen) else by_op s c.now c.op
