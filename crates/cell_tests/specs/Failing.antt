-- A board in memory whose disk fails once.
use Rattle.std.specs.Prelude.{◌≡◌, ◌⊎◌, ◌==◌, ℕ, Bool, true, false, Option, Result, Ok, Err, refl}
use Rattle.std.proofs.Common.{◌∙◌}
use Rattle.std.specs.Option.{option_map_or}
use Rattle.bbs_model.specs.PortView.{PortView}
use Rattle.bbs_model.specs.declared.reply.CallFault.{CallFault}
use Rattle.bbs_model.specs.declared.reply.CallFault.TheVariants as fault
use Rattle.bbs_model.specs.declared.reply.Reply.{Reply}
use Rattle.bbs_model.specs.declared.reply.Reply.TheVariants as reply
use Rattle.plain_step.specs.Plain.{PlainBoard, plain_seen_of, GoesOnFrom, goes_same, goes_then}

-- a board in memory, and the place of its log whose item meets the fault of the disk, if any
pub record FailingBoard : Type 0 where
  pub board : PlainBoard
  pub fails_at : Option ℕ

-- what its caller has seen
abbrev pub failing_seen_of : FailingBoard → PortView
failing_seen_of p = plain_seen_of p.board

-- it is the same caller's, fails at the same place, and more was done
pub record FailsOn (p q : FailingBoard) : Type 0 where
  pub board : GoesOnFrom p.board q.board
  pub fails_at : q.fails_at ≡ p.fails_at

pub fails_same : (p : FailingBoard) → FailsOn p p
fails_same p = record { board = goes_same p.board; fails_at = refl }

pub fails_then : (p q r : FailingBoard) → FailsOn p q → FailsOn q r → FailsOn p r
fails_then p q r f g = record {
  board = goes_then p.board q.board r.board f.board g.board;
  fails_at = g.fails_at ∙ f.fails_at;
}

-- the disk fails at this place
abbrev pub is_failing : Option ℕ → ℕ → Bool
is_failing fails_at place = option_map_or (λ at. at == place) fails_at false

-- how a legal call ends: by a fault of the disk where that fails, and by being done elsewhere; or memory ran out
abbrev pub EndsHere : Bool → ℕ → ℕ → Result Reply CallFault → Type 0
EndsHere true place stamp end = (end ≡ Err (fault.Disk place)) ⊎ (end ≡ Err fault.OutOfMemory)
EndsHere false place stamp end = (end ≡ Ok (reply.Ok place stamp)) ⊎ (end ≡ Err fault.OutOfMemory)
