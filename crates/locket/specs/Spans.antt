-- The leases of a life: from when until when each is held.
use Rattle.std.specs.Prelude.{◌≡◌, ℕ, ◌+◌, ◌<◌, ◌≤◌, List, [], ◌∷◌}
use Rattle.locket.specs.declared.command.LockCommand.{LockCommand}
use Rattle.locket.specs.declared.command.LockOp.TheVariants.{Acquire, Renew, Release}
use Rattle.locket.specs.declared.state.Lease.{Lease}

-- a lease in a life: its fence and its owner, the moment from which it is held, and that at which it ends
pub record Span : Type 0 where
  pub fence : ℕ
  pub owner : List ℕ
  pub from : ℕ
  pub to : ℕ

-- when a lease ends that runs out at this moment, by what is done behind: a renewal moves its end, a release ends it,
-- and the next lease comes when it has run out
abbrev pub end_behind : ℕ → List LockCommand → ℕ
end_behind until [] = until
end_behind until (c ∷ cs) = elim c.op [
  | Acquire owner ttl ↦ until
  | Renew owner fence ttl ↦ end_behind (c.now.0 + ttl) cs
  | Release owner fence ↦ c.now.0
]

-- the leases that these commands of a life give, behind one that gave this fence: each has the next
abbrev pub spans_behind : ℕ → List LockCommand → List Span
spans_behind last [] = []
spans_behind last (c ∷ cs) = elim c.op [
  | Acquire owner ttl ↦
      record { fence = last + 1; owner = owner; from = c.now.0; to = end_behind (c.now.0 + ttl) cs }
      ∷ spans_behind (last + 1) cs
  | Renew owner fence ttl ↦ spans_behind last cs
  | Release owner fence ↦ spans_behind last cs
]

-- the leases of a life, in order
abbrev pub spans : List LockCommand → List Span
spans life = spans_behind 0 life

-- the lease that was given at this moment, if it is held to its end
abbrev pub span_of : ℕ → Lease → Span
span_of from lease = record { fence = lease.fence; owner = lease.owner; from = from; to = lease.until }

-- a lease is held at this moment
abbrev pub IsHeldAt : Span → ℕ → Type 0
IsHeldAt span moment = (span.from ≤ moment) × (moment < span.to)

-- of two leases the later one has a greater fence, and begins when the earlier one has ended
pub record IsApart (a b : Span) : Type 0 where
  pub fences : a.fence < b.fence
  pub ends : a.to ≤ b.from

-- the same lease, which may end at another moment
pub record IsSameLease (a b : Span) : Type 0 where
  pub fence : b.fence ≡ a.fence
  pub owner : b.owner ≡ a.owner
  pub from : b.from ≡ a.from
