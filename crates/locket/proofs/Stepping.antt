-- What a command does that changes the state.
use Rattle.std.proofs.Common.{◌≡◌, ◌≢◌, ℕ, ◌+◌, ◌<◌, ◌≤◌, Bool, true, false, Option, Some, None, List, refl, ap, ◌∙◌, arith, nat_lt, nat_le, ◌==◌, ◌&&◌, if◌then◌else◌, ltb-false, leb-false}
use borrow.Author.Tests.{eqb-false}
use Rattle.crash_backoff.specs.declared.moment.Moment.{Moment}
use Rattle.locket.specs.Lives.{is_change, left_by, state_after, IsChange}
use Rattle.locket.specs.Steps.{most_changes, changed, refusing, unless_full, next_lease, given, same_owner, taken, acquired, own_lease, ending, renewed, released, by_op, lock_step}
use Rattle.locket.specs.declared.command.LockCommand.{LockCommand}
use Rattle.locket.specs.declared.command.LockOp.{LockOp}
use Rattle.locket.specs.declared.command.LockOp.TheVariants.{Acquire, Renew, Release}
use Rattle.locket.specs.declared.reply.LockRefusal.TheVariants.{Past, Held, Expired, LockFull}
use Rattle.locket.specs.declared.reply.LockReply.{LockReply}
use Rattle.locket.specs.declared.reply.LockReply.TheVariants as reply
use Rattle.locket.specs.declared.state.Lease.{Lease}
use Rattle.locket.specs.declared.state.LockState.{LockState}
use Rattle.locket.specs.declared.verdict.LockVerdict.{LockVerdict}
use Rattle.locket.specs.declared.verdict.LockVerdict.TheVariants.{Changes, Stays}

-- a lease, if there is one, has run out at this moment
abbrev pub HasRunOut : Option Lease → ℕ → Type 0
HasRunOut None now = Unit {0}
HasRunOut (Some lease) now = lease.until ≤ now

-- it was a change, and not the last that can be: to this state, and with this answer
pub record IsMade (s next : LockState) (answer : LockReply) (next' : LockState) (answer' : LockReply) : Type 0 where
  pub few : s.count ≢ most_changes
  pub next_is : next' ≡ next
  pub answer_is : answer' ≡ answer

-- a lease was given
pub record IsGiven (s : LockState) (now : Moment) (owner : List ℕ) (ttl : ℕ) (next : LockState)
    (answer : LockReply) : Type 0 where
  pub ran_out : HasRunOut s.held now.0
  pub made : IsMade s (changed s now (s.last + 1) (Some (next_lease s now owner ttl)))
      (reply.Ok (next_lease s now owner ttl)) next answer

-- the lease that was given last was renewed
pub record IsRenewed (s : LockState) (now : Moment) (ttl : ℕ) (next : LockState) (answer : LockReply) : Type 0 where
  pub lease : Lease
  pub held : s.held ≡ Some lease
  pub holds : now.0 < lease.until
  pub made : IsMade s (changed s now s.last (Some (ending lease (now.0 + ttl))))
      (reply.Ok (ending lease (now.0 + ttl))) next answer

-- it was released
pub record IsReleased (s : LockState) (now : Moment) (next : LockState) (answer : LockReply) : Type 0 where
  pub lease : Lease
  pub held : s.held ≡ Some lease
  pub made : IsMade s (changed s now s.last None) (reply.Released lease.fence) next answer

-- what an operation did
abbrev pub Happened : LockState → Moment → LockOp → LockState → LockReply → Type 0
Happened s now (Acquire owner ttl) next answer = IsGiven s now owner ttl next answer
Happened s now (Renew owner fence ttl) next answer = IsRenewed s now ttl next answer
Happened s now (Release owner fence) next answer = IsReleased s now next answer

full_made : (s next : LockState) (answer : LockReply) (b : Bool) → (s.count == most_changes) ≡ b
    → (next' : LockState) (answer' : LockReply)
    → (if b then refusing LockFull else Changes next answer) ≡ Changes next' answer'
    → IsMade s next answer next' answer'
full_made s next answer true is next' answer' e = absurd cc
full_made s next answer false is next' answer' e = record
    { few = eqb-false s.count most_changes is; next_is = cc; answer_is = cc }

made : (s next : LockState) (answer : LockReply) (next' : LockState) (answer' : LockReply)
    → unless_full s next answer ≡ Changes next' answer' → IsMade s next answer next' answer'
made s next answer next' answer' e = full_made s next answer (s.count == most_changes) refl next' answer' e

-- one that is asked for while it holds changes nothing
taken_stays : (lease : Lease) (owner : List ℕ) (next : LockState) (answer : LockReply)
    → taken lease owner ≡ Changes next answer → ⊥
taken_stays lease owner next answer e =
    elim (same_owner lease.owner owner) as (λ (b : Bool).
    (if b then Stays (reply.Same lease) else refusing (Held lease.owner lease.until)) ≡ Changes next answer → ⊥) [
      | true ↦ λ x. cc
      | false ↦ λ x. cc
    ] e

acquired_so : (held : Option Lease) (s : LockState) (now : Moment) (owner : List ℕ) (ttl : ℕ) (next : LockState)
    (answer : LockReply) → acquired held s now owner ttl ≡ Changes next answer
    → HasRunOut held now.0 × (given s now owner ttl ≡ Changes next answer)
acquired_so None s now owner ttl next answer e = (tt, e)
acquired_so (Some lease) s now owner ttl next answer e = by_end (nat_lt now.0 lease.until) refl e
  where
    by_end : (b : Bool) → nat_lt now.0 lease.until ≡ b → (if b then taken lease owner else given s now owner ttl)
        ≡ Changes next answer
        → (lease.until ≤ now.0) × (given s now owner ttl ≡ Changes next answer)
    by_end true is f = absurd (taken_stays lease owner next answer f)
    by_end false is f = (ltb-false now.0 lease.until is, f)

-- the lease that an owner has is the one that was given last
own_held : (held : Option Lease) (owner : List ℕ) (fence : ℕ) (lease : Lease) → own_lease held owner fence ≡ Some lease
    → held ≡ Some lease
own_held None owner fence lease e = absurd cc
own_held (Some own) owner fence lease e = by_test (same_owner own.owner owner && own.fence == fence) e
  where
    by_test : (b : Bool) → (if b then Some own else None) ≡ Some lease → Some own ≡ Some lease
    by_test true f = f
    by_test false f = absurd cc

renewed_so : (own : Option Lease) (s : LockState) (now : Moment) (ttl : ℕ) (next : LockState) (answer : LockReply)
    → renewed own s now ttl ≡ Changes next answer
    → (lease : Lease) × (own ≡ Some lease) × (now.0 < lease.until)
    × IsMade s (changed s now s.last (Some (ending lease (now.0 + ttl))))
    (reply.Ok (ending lease (now.0 + ttl))) next answer
renewed_so None s now ttl next answer e = absurd cc
renewed_so (Some lease) s now ttl next answer e = by_end (nat_le lease.until now.0) refl e
  where
    longer : LockVerdict
    longer = unless_full s (changed s now s.last (Some (ending lease (now.0 + ttl))))
        (reply.Ok (ending lease (now.0 + ttl)))

    by_same : (b : Bool) → (if b then Stays (reply.Same lease) else longer) ≡ Changes next answer
        → longer ≡ Changes next answer
    by_same true f = absurd cc
    by_same false f = f

    by_end : (b : Bool) → nat_le lease.until now.0 ≡ b
        → (if b then refusing (Expired lease.until) else (if lease.until == now.0 + ttl then Stays
        (reply.Same lease) else longer)) ≡ Changes next answer
        → (found : Lease) × (Some lease ≡ Some found) × (now.0 < found.until)
        × IsMade s (changed s now s.last (Some (ending found (now.0 + ttl))))
        (reply.Ok (ending found (now.0 + ttl))) next answer
    by_end true is f = absurd cc
    by_end false is f = (
      lease,
      refl,
      leb-false lease.until now.0 is,
      made s (changed s now s.last (Some (ending lease (now.0 + ttl))))
          (reply.Ok (ending lease (now.0 + ttl))) next answer (by_same (lease.until == now.0 + ttl) f),
    )

released_so : (own : Option Lease) (s : LockState) (now : Moment) (next : LockState) (answer : LockReply)
    → released own s now ≡ Changes next answer
    → (lease : Lease) × (own ≡ Some lease) × IsMade s (changed s now s.last None)
    (reply.Released lease.fence) next answer
released_so None s now next answer e = absurd cc
released_so (Some lease) s now next answer e = (
  lease,
  refl,
  made s (changed s now s.last None) (reply.Released lease.fence) next answer e,
)

op_happened : (s : LockState) (now : Moment) (op : LockOp) (next : LockState) (answer : LockReply)
    → by_op s now op ≡ Changes next answer → Happened s now op next answer
op_happened s now (Acquire owner ttl) next answer e =
    let so = acquired_so s.held s now owner ttl next answer e in
    record {
      ran_out = so.0;
      made = made s (changed s now (s.last + 1) (Some (next_lease s now owner ttl)))
          (reply.Ok (next_lease s now owner ttl)) next answer so.1;
    }
op_happened s now (Renew owner fence ttl) next answer e =
    let so = renewed_so (own_lease s.held owner fence) s now ttl next answer e in
    record { lease = so.0; held = own_held s.held owner fence so.0 so.1; holds = so.2; made = so.3 }
op_happened s now (Release owner fence) next answer e =
    let so = released_so (own_lease s.held owner fence) s now next answer e in
    record { lease = so.0; held = own_held s.held owner fence so.0 so.1; made = so.2 }

-- a change comes no earlier than the one before it, and is one of these
pub record IsStep (s : LockState) (c : LockCommand) (next : LockState) (answer : LockReply) : Type 0 where
  pub seen : s.seen.0 ≤ c.now.0
  pub happened : Happened s c.now c.op next answer

pub stepped : (s : LockState) (c : LockCommand) (next : LockState) (answer : LockReply)
    → lock_step s c ≡ Changes next answer → IsStep s c next answer
unfolding lock_step
stepped s c next answer e = by_moment (nat_lt c.now.0 s.seen.0) refl e
  where
    by_moment : (b : Bool) → nat_lt c.now.0 s.seen.0 ≡ b → (if b then refusing (Past s.seen) else by_op s c.now c.op)
        ≡ Changes next answer → IsStep s c next answer
    by_moment true is f = absurd cc
    by_moment false is f = record {
      seen = ltb-false c.now.0 s.seen.0 is;
      happened =
          op_happened s c.now c.op next answer f;
    }

-- ---- a change as a verdict

pub record IsVerdict (v : LockVerdict) : Type 0 where
  pub next : LockState
  pub answer : LockReply
  pub verdict : v ≡ Changes next answer

verdict_of : (v : LockVerdict) → is_change v ≡ true → IsVerdict v
verdict_of (Changes next answer) is = record { next = next; answer = answer; verdict = refl }
verdict_of (Stays answer) is = absurd cc

pub change_is : (s : LockState) (c : LockCommand) → IsChange s c → IsVerdict (lock_step s c)
change_is s c is = verdict_of (lock_step s c) is

pub is_changed : (s : LockState) (c : LockCommand) (next : LockState) (answer : LockReply)
    → lock_step s c ≡ Changes next answer → IsChange s c
is_changed s c next answer e = ap is_change e

pub after_is : (s : LockState) (c : LockCommand) (next : LockState) (answer : LockReply)
    → lock_step s c ≡ Changes next answer → state_after s c ≡ next
after_is s c next answer e = ap (left_by s) e

-- the state after a change counts one more, and its moment is the command's
pub record IsAfter (s : LockState) (c : LockCommand) (next : LockState) : Type 0 where
  pub count : next.count ≡ s.count + 1
  pub few : s.count ≢ most_changes
  pub seen : next.seen.0 ≡ c.now.0
  pub later : s.seen.0 ≤ c.now.0
  pub last : s.last ≤ next.last
  pub by_one : next.last ≤ s.last + 1

after_made : (s next next' : LockState) (answer answer' : LockReply) (c : LockCommand) (last : ℕ) (held : Option Lease)
    → next ≡ changed s c.now last held → s.last ≤ last → last ≤ s.last + 1 → s.seen.0 ≤ c.now.0
    → IsMade s next answer next' answer' → IsAfter s c next'
after_made s next next' answer answer' c last held is low high seen m =
    let e : next' ≡ changed s c.now last held = m.next_is ∙ is in
    record {
      count = ap (λ (x : LockState). x.count) e;
      few = m.few;
      seen = ap (λ (x : LockState). x.seen.0) e;
      later = seen;
      last = omega (arith, low, ap (λ (x : LockState). x.last) e);
      by_one = omega (arith, high, ap (λ (x : LockState). x.last) e);
    }

after_op : (s : LockState) (c : LockCommand) (op : LockOp) (next : LockState) (answer : LockReply) → s.seen.0 ≤ c.now.0
    → Happened s c.now op next answer → IsAfter s c next
after_op s c (Acquire owner ttl) next answer seen h = after_made s _ next _ answer c (s.last + 1) _ refl (omega arith)
    (omega arith) seen h.made
after_op s c (Renew owner fence ttl) next answer seen h =
    after_made s _ next _ answer c s.last _ refl (omega arith) (omega arith) seen h.made
after_op s c (Release owner fence) next answer seen h =
    after_made s _ next _ answer c s.last _ refl (omega arith) (omega arith) seen h.made

pub after_step : (s : LockState) (c : LockCommand) (next : LockState) (answer : LockReply)
    → lock_step s c ≡ Changes next answer → IsAfter s c next
after_step s c next answer e = let step = stepped s c next answer e in
    after_op s c c.op next answer step.seen step.happened
