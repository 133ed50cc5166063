-- What holds of every life of a locket, and of the lives that stops leave.
use Rattle.std.specs.Prelude.{◌≡◌, ◌⊎◌, ℕ, ◌+◌, ◌<◌, ◌≤◌, Some, List, [], ◌∷◌, ◌++◌, length, take}
use Rattle.std.specs.List.{slice_get}
use Rattle.disk_trait.specs.Past.{Past, Image, ImagesSince}
use Rattle.bbs_journal.specs.declared.load_fault.LoadFault.{LoadFault}
use Rattle.payload_log.specs.declared.entry.Entry.TheVariants.{Done}
use Rattle.locket.specs.Kept.{KeptLocks}
use Rattle.locket.specs.Lives.{LockLog, lived, state_from, state_of, AreChanges, IsLife}
use Rattle.locket.specs.Opening.{IsLocket, IsNotLocket}
use Rattle.locket.specs.Spans.{Span, IsHeldAt, IsApart, IsSameLease, span_of, spans}
use Rattle.locket.specs.Steps.{lock_step}
use Rattle.locket.specs.declared.command.LockCommand.{LockCommand}
use Rattle.locket.specs.declared.command.LockOp.TheVariants.{Acquire}
use Rattle.locket.specs.declared.reply.LockReply.TheVariants as reply
use Rattle.locket.specs.declared.state.Lease.{Lease}
use Rattle.locket.specs.declared.state.LockState.{LockState}
use Rattle.locket.specs.declared.verdict.LockVerdict.TheVariants.{Changes}

-- ---- an image

-- an image is a locket with one life only
abbrev pub LocketOpensInOneWay : Type 0
LocketOpensInOneWay = (a b : List LockCommand) (c : Image) → IsLocket a c → IsLocket b c → a ≡ b

-- what is a locket is refused for no defect
abbrev pub LocketOrRefused : Type 0
LocketOrRefused = (life : List LockCommand) (fault : LoadFault) (c : Image) → IsLocket life c → IsNotLocket fault c → ⊥

-- what is refused is refused for one defect only
abbrev pub LocketRefusedOnce : Type 0
LocketRefusedOnce = (a b : LoadFault) (c : Image) → IsNotLocket a c → IsNotLocket b c → a ≡ b

-- the image is a locket
pub record IsSomeLocket (c : Image) : Type 0 where
  pub life : List LockCommand
  pub locket : IsLocket life c

-- the image is none
pub record IsNoLocket (c : Image) : Type 0 where
  pub fault : LoadFault
  pub refused : IsNotLocket fault c

-- each image is a locket, or is refused, whatever stands in it
abbrev pub LocketOpensOrIsRefused : Type 0
LocketOpensOrIsRefused = (c : Image) → IsSomeLocket c ⊎ IsNoLocket c

-- a locket's commands are a life
abbrev pub LocketsHaveLives : Type 0
LocketsHaveLives = (life : List LockCommand) (c : Image) → IsLocket life c → IsLife life

-- ---- a life

-- neither the moment of the last change nor the last fence ever falls
pub record NeverFalls (old new : LockState) : Type 0 where
  pub seen : old.seen.0 ≤ new.seen.0
  pub last : old.last ≤ new.last

-- from any state on
abbrev pub LivesNeverFall : Type 0
LivesNeverFall = (s : LockState) (cs : List LockCommand) → AreChanges s cs → NeverFalls s (state_from s cs)

-- of two leases of a life, whatever was done between, the later one is apart from the earlier one
abbrev pub LeasesAreApart : Type 0
LeasesAreApart =
    (life : List LockCommand) → IsLife life → (i j : ℕ) (a b : Span) → slice_get (spans life) i ≡ Some a
    → slice_get (spans life) j ≡ Some b → i < j → IsApart a b

-- so each fence is that of one lease
abbrev pub FencesComeOnce : Type 0
FencesComeOnce =
    (life : List LockCommand) → IsLife life → (i j : ℕ) (a b : Span) → slice_get (spans life) i ≡ Some a
    → slice_get (spans life) j ≡ Some b → a.fence ≡ b.fence → i ≡ j

-- and at each moment one lease is held at most
abbrev pub OneIsHeld : Type 0
OneIsHeld =
    (life : List LockCommand) → IsLife life → (i j moment : ℕ) (a b : Span) → slice_get (spans life) i ≡ Some a
    → slice_get (spans life) j ≡ Some b → IsHeldAt a moment → IsHeldAt b moment → i ≡ j

-- the command gives a lease, in this state: it asks for one, and this is the answer
pub record GivesLease (s : LockState) (c : LockCommand) (lease : Lease) : Type 0 where
  pub owner : List ℕ
  pub ttl : ℕ
  pub asks : c.op ≡ Acquire owner ttl
  pub next : LockState
  pub answers : lock_step s c ≡ Changes next (reply.Ok lease)

-- a lease that is answered is the next one of its life, from that moment to its end
abbrev pub AnswersAreLeases : Type 0
AnswersAreLeases =
    (life : List LockCommand) → IsLife life → (c : LockCommand) (lease : Lease) → GivesLease (state_of life) c lease
    → spans (life ++ c ∷ []) ≡ spans life ++ span_of c.now.0 lease ∷ []

-- the lease that a state holds is the last one of its life, and ends as the state says
pub record IsLastLease (life : List LockCommand) (lease : Lease) : Type 0 where
  pub earlier : List Span
  pub from : ℕ
  pub spans_are : spans life ≡ earlier ++ span_of from lease ∷ []

-- in each life
abbrev pub HeldIsTheLast : Type 0
HeldIsTheLast =
    (life : List LockCommand) → IsLife life → (lease : Lease) → (state_of life).held ≡ Some lease
    → IsLastLease life lease

-- a lease of a life is one of what follows, at the same place
pub record StaysLease (place : ℕ) (span : Span) (life : List LockCommand) : Type 0 where
  pub later : Span
  pub there : slice_get (spans life) place ≡ Some later
  pub same : IsSameLease span later

-- however it goes on
abbrev pub LeasesStay : Type 0
LeasesStay =
    (life more : List LockCommand) (place : ℕ) (span : Span) → slice_get (spans life) place ≡ Some span
    → StaysLease place span (life ++ more)

-- ---- over stops

-- the list begins with this front
pub record GoesOnFrom (front life : List LockCommand) : Type 0 where
  pub more : List LockCommand
  pub parts : life ≡ front ++ more

-- whatever a stop since an item was acknowledged left, its life goes on from that item
abbrev pub LivesGoOnOverStops : Type 0
LivesGoOnOverStops =
    (base : List LockCommand) (log : LockLog) (marks : List ℕ) (since : ℕ) (p : Past)
    → KeptLocks base log marks since p → (place mark : ℕ) (c : LockCommand)
    → slice_get log place ≡ Some (Done c) → slice_get marks place ≡ Some mark
    → (image : Image) (life : List LockCommand) → ImagesSince p mark image → IsLocket life image
    → GoesOnFrom (lived base (take (place + 1) log)) life

-- a lease that was acknowledged is one of the leases of what is opened after a stop since then, and of all that follows
-- there, at its place: so what is given there is apart from it
abbrev pub LeasesStayOverStops : Type 0
LeasesStayOverStops =
    (base : List LockCommand) (log : LockLog) (marks : List ℕ) (since : ℕ) (p : Past)
    → KeptLocks base log marks since p → (place mark : ℕ) (c : LockCommand) (lease : Lease)
    → slice_get log place ≡ Some (Done c)
    → GivesLease (state_of (lived base (take place log))) c lease → slice_get marks place ≡ Some mark
    → (image : Image) (life more : List LockCommand) → ImagesSince p mark image → IsLocket life image
    → StaysLease (length (spans (lived base (take place log)))) (span_of c.now.0 lease) (life ++ more)
