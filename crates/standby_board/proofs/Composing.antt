-- One step of a call after another.
use Rattle.std.proofs.Common.{◌≡◌, ◌≤◌, ◌⊎◌, ℕ, ◌+◌, Bool, true, false, not, List, [], ◌∷◌, ◌++◌, length, map, Option, Some, None, Result, Ok, Err, refl, sym, ap, subst, inl, inr, ◌∙◌, append_assoc, arith}
use Rattle.std.specs.Prelude.{OnOk, is_err}
use Rattle.std.proofs.lemmas.List.{append-nil}
use Rattle.byte_ports.specs.Cause.{HasCause}
use Rattle.bbs_board.specs.Calls.{Grows}
use Rattle.bbs_board.specs.View.{View, rows_of}
use Rattle.bbs_model.specs.Calls.{Ends, added, is_done, is_disk_fault}
use Rattle.bbs_model.specs.Step.{verdict_of}
use Rattle.bbs_model.specs.declared.command.Command.{Command}
use Rattle.bbs_model.specs.declared.item.Item.{Item}
use Rattle.bbs_model.specs.declared.item.Item.TheVariants.{Done, Doubt}
use Rattle.bbs_model.specs.declared.reply.CallFault.{CallFault}
use Rattle.bbs_model.specs.declared.reply.CallFault.TheVariants as board_fault
use Rattle.bbs_model.specs.declared.reply.Reply.{Reply}
use Rattle.bbs_model.specs.declared.reply.Reply.TheVariants as reply
use Rattle.bbs_model.specs.declared.verdict.Verdict.{Verdict}
use Rattle.bbs_model.specs.declared.verdict.Verdict.TheVariants as verdict
use Rattle.standby_board.specs.Calls.{End, Answers, Decides, Copies, FailsAgain, Follows, HasCauses, IsPairCall, IsSamePair, gained, is_acknowledged, is_primary_fault, is_standby_fault, is_stored}
use Rattle.standby_board.specs.Pairs.{PairView, owed}
use Rattle.standby_board.specs.Steps.{CatchesUp, KeepsAll, TurnsOut, lacked_after, told_by}
use Rattle.standby_board.specs.declared.answers.PairFault.TheVariants as fault
use Rattle.standby_board.specs.declared.answers.PairReply.TheVariants as pair

-- of what ended well
pub on_ok : {T E : Type 0} (r : Result T E) (P : Type 0) → is_err r ≡ false → OnOk r P → P
on_ok (Ok x) P is holds = holds
on_ok (Err e) P is holds = absurd (cc (is))

-- what the answer of the primary's step comes to
pub answered : (ok : Bool) (v : Verdict) (place stamp : ℕ) (end : Result Reply CallFault) → Ends v place stamp end
    → Answers v place stamp (told_by ok end)
answered true verdict.Ok place stamp end ends = elim ends as (λ _. Answers verdict.Ok place stamp (told_by true end)) [
  | inl is ↦ inl (inl (ap (told_by true) is))
  | inr ends ↦ elim ends as (λ _. Answers verdict.Ok place stamp (told_by true end)) [
    | inl is ↦ inl (inr (inl (ap (told_by true) is)))
    | inr is ↦ inr (inr (ap (told_by true) is))
  ]
]
answered false verdict.Ok place stamp end ends = elim ends as
    (λ _. Answers verdict.Ok place stamp (told_by false end)) [
      | inl is ↦ inl (inr (inr (ap (told_by false) is)))
      | inr ends ↦ elim ends as (λ _. Answers verdict.Ok place stamp (told_by false end)) [
        | inl is ↦ inl (inr (inl (ap (told_by false) is)))
        | inr is ↦ inr (inr (ap (told_by false) is))
      ]
    ]
answered true verdict.Same place stamp end ends = inl (ap (told_by true) ends)
answered false verdict.Same place stamp end ends = inl (ap (told_by false) ends)
answered true (verdict.Refused why) place stamp end ends = inl (ap (told_by true) ends)
answered false (verdict.Refused why) place stamp end ends = inl (ap (told_by false) ends)

-- what is stored for it is what the primary's log gained
pub same_gain : (ok : Bool) (end : Result Reply CallFault) (by : ℕ) (c : Command)
    → gained (told_by ok end) by c ≡ added end by c
same_gain true (Ok (reply.Ok place stamp)) by c = refl
same_gain false (Ok (reply.Ok place stamp)) by c = refl
same_gain true (Ok (reply.Same place)) by c = refl
same_gain false (Ok (reply.Same place)) by c = refl
same_gain true (Ok (reply.Refused why place)) by c = refl
same_gain false (Ok (reply.Refused why place)) by c = refl
same_gain true (Err (board_fault.Disk place)) by c = refl
same_gain false (Err (board_fault.Disk place)) by c = refl
same_gain true (Err board_fault.OutOfMemory) by c = refl
same_gain false (Err board_fault.OutOfMemory) by c = refl

pub same_stored : (ok : Bool) (end : Result Reply CallFault) → is_stored (told_by ok end) ≡ is_done end
same_stored true (Ok (reply.Ok place stamp)) = refl
same_stored false (Ok (reply.Ok place stamp)) = refl
same_stored true (Ok (reply.Same place)) = refl
same_stored false (Ok (reply.Same place)) = refl
same_stored true (Ok (reply.Refused why place)) = refl
same_stored false (Ok (reply.Refused why place)) = refl
same_stored true (Err (board_fault.Disk place)) = refl
same_stored false (Err (board_fault.Disk place)) = refl
same_stored true (Err board_fault.OutOfMemory) = refl
same_stored false (Err board_fault.OutOfMemory) = refl

pub same_primary : (ok : Bool) (end : Result Reply CallFault) → is_primary_fault (told_by ok end) ≡ is_disk_fault end
same_primary true (Ok (reply.Ok place stamp)) = refl
same_primary false (Ok (reply.Ok place stamp)) = refl
same_primary true (Ok (reply.Same place)) = refl
same_primary false (Ok (reply.Same place)) = refl
same_primary true (Ok (reply.Refused why place)) = refl
same_primary false (Ok (reply.Refused why place)) = refl
same_primary true (Err (board_fault.Disk place)) = refl
same_primary false (Err (board_fault.Disk place)) = refl
same_primary true (Err board_fault.OutOfMemory) = refl
same_primary false (Err board_fault.OutOfMemory) = refl

-- the standby's disk failed exactly where it hasn't stored what it lacked
pub same_standby : (ok : Bool) (end : Result Reply CallFault) (by : ℕ) (c : Command) (after : Option (ℕ × Command))
    (tried : List Item)
    → TurnsOut ok (lacked_after end by c) after tried → is_standby_fault (told_by ok end) ≡ not ok
same_standby true (Ok (reply.Ok place stamp)) by c after tried turns = refl
same_standby false (Ok (reply.Ok place stamp)) by c after tried turns = refl
same_standby true (Ok (reply.Same place)) by c after tried turns = refl
same_standby false (Ok (reply.Same place)) by c after tried turns = absurd (cc (turns.0))
same_standby true (Ok (reply.Refused why place)) by c after tried turns = refl
same_standby false (Ok (reply.Refused why place)) by c after tried turns = absurd (cc (turns.0))
same_standby true (Err (board_fault.Disk place)) by c after tried turns = refl
same_standby false (Err (board_fault.Disk place)) by c after tried turns = absurd (cc (turns.0))
same_standby true (Err board_fault.OutOfMemory) by c after tried turns = refl
same_standby false (Err board_fault.OutOfMemory) by c after tried turns = absurd (cc (turns.0))

-- the standby follows a call before which nothing was missing
pub follows_level : (ok : Bool) (end : Result Reply CallFault) (by : ℕ) (c : Command) (after : Option (ℕ × Command))
    (tried : List Item)
    → TurnsOut ok (lacked_after end by c) after tried → Follows (told_by ok end) by c None after tried
follows_level true (Ok (reply.Ok place stamp)) by c after tried turns = (turns.0, turns.1)
follows_level false (Ok (reply.Ok place stamp)) by c after tried turns = (turns.0, turns.1)
follows_level true (Ok (reply.Same place)) by c after tried turns = (turns.1, turns.2)
follows_level false (Ok (reply.Same place)) by c after tried turns = (turns.1, turns.2)
follows_level true (Ok (reply.Refused why place)) by c after tried turns = (turns.1, turns.2)
follows_level false (Ok (reply.Refused why place)) by c after tried turns = (turns.1, turns.2)
follows_level true (Err (board_fault.Disk place)) by c after tried turns = (turns.1, turns.2)
follows_level false (Err (board_fault.Disk place)) by c after tried turns = (turns.1, turns.2)
follows_level true (Err board_fault.OutOfMemory) by c after tried turns = inl (turns.1, turns.2)
follows_level false (Err board_fault.OutOfMemory) by c after tried turns = inl (turns.1, turns.2)

-- where the standby has stored what it lacked, nothing is missing
pub turned_out : (before after : Option (ℕ × Command)) (tried : List Item) → TurnsOut true before after tried
    → (after ≡ None) × (tried ≡ owed before)
turned_out None after tried turns = (turns.1, turns.2)
turned_out (Some m) after tried turns = (turns.0, turns.1)

-- where it hasn't, that is missing still
pub fails_again : (before after : Option (ℕ × Command)) (tried : List Item) → TurnsOut false before after tried
    → FailsAgain before after tried
fails_again None after tried turns = absurd (cc (turns.0))
fails_again (Some m) after tried turns = record {
  lacked = m;
  before_is = refl;
  after_is = turns.0;
  stored_is =
      turns.1;
}

-- a call with a number that isn't stale doesn't say that it is
pub not_stale : (v : Verdict) (place stamp greatest : ℕ) → Answers v place stamp (Ok (pair.StaleFence greatest)) → ⊥
not_stale verdict.Ok place stamp greatest answers = elim answers as (λ _. ⊥) [
  | inl a ↦ elim a as (λ _. ⊥) [ inl is ↦ cc (is) | inr b ↦ elim b as (λ _. ⊥) [ inl is ↦ cc (is) | inr is ↦ cc (is) ] ]
  | inr a ↦ elim a as (λ _. ⊥) [ inl is ↦ cc (is) | inr is ↦ cc (is) ]
]
not_stale verdict.Same place stamp greatest answers = elim answers as (λ _. ⊥) [
  | inl is ↦ cc (is)
  | inr a ↦ elim a as (λ _. ⊥) [ inl is ↦ cc (is) | inr is ↦ cc (is) ]
]
not_stale (verdict.Refused why) place stamp greatest answers = elim answers as (λ _. ⊥) [
  | inl is ↦ cc (is)
  | inr a ↦ elim a as (λ _. ⊥) [ inl is ↦ cc (is) | inr is ↦ cc (is) ]
]

-- the standby follows a call before which it has stored what it lacked
pub follows_caught : (v : Verdict) (place stamp : ℕ) (end : End) (by : ℕ) (c : Command)
    (before after final : Option (ℕ × Command))
    (tried stored : List Item) → Answers v place stamp end → after ≡ None → tried ≡ owed before
    → Follows end by c after final stored
    → Follows end by c before final (tried ++ stored)
follows_caught v place stamp (Ok (pair.Reply r)) by c before after final tried stored answers level caught follows = (
  follows.0,
  ap (λ (xs : List Item). xs ++ stored) caught ∙ ap (λ (xs : List Item). owed before ++ xs)
      (follows.1 ∙ ap (λ (m : Option (ℕ × Command)). owed m ++ added (Ok r) by c) level),
)
follows_caught v place stamp (Ok (pair.StaleFence greatest)) by c before after final tried stored answers level caught
    follows =
    absurd (not_stale v place stamp greatest answers)
follows_caught v place stamp (Err (fault.Disk at)) by c before after final tried stored answers level caught follows =
    (follows.0, ap (λ (xs : List Item). tried ++ xs) (follows.1 ∙ ap owed level) ∙ append-nil tried ∙ caught)
follows_caught v place stamp (Err (fault.StandbyDisk at)) by c before after final tried stored answers level caught
    follows =
    let lacks = follows.before_is in
    absurd (cc (lacks, level))
follows_caught v place stamp (Err (fault.Behind at)) by c before after final tried stored _ level caught follows = (
  follows.0,
  ap (λ (xs : List Item). xs ++ stored) caught ∙ ap (λ (xs : List Item). owed before ++ xs)
      (follows.1 ∙ ap (λ (m : Option (ℕ × Command)). owed m ++ Doubt by c ∷ []) level),
)
follows_caught v place stamp (Err fault.OutOfMemory) by c before after final tried stored answers level caught follows =
    elim follows as (λ _. Follows (Err fault.OutOfMemory) by c before final (tried ++ stored)) [
      | inl is ↦ inr (is.0 ∙ level, ap (λ (xs : List Item). tried ++ xs) is.1 ∙ append-nil tried ∙ caught)
      | inr is ↦ inr (is.0, ap (λ (xs : List Item). tried ++ xs) (is.1 ∙ ap owed level) ∙ append-nil tried ∙ caught)
    ]

-- the last mark of a call that is acknowledged is that of its command, and no other call is
pub acknowledges : (ok : Bool) (end : Result Reply CallFault) (by : ℕ) (c : Command) (after : Option (ℕ × Command))
    (tried : List Item)
    → TurnsOut ok (lacked_after end by c) after tried → is_acknowledged (told_by ok end) ≡ true → tried ≡ Done by c ∷ []
acknowledges true (Ok (reply.Ok place stamp)) by c after tried turns is = turns.1
acknowledges false (Ok (reply.Ok place stamp)) by c after tried turns is = absurd (cc (is))
acknowledges true (Ok (reply.Same place)) by c after tried turns is = absurd (cc (is))
acknowledges false (Ok (reply.Same place)) by c after tried turns is = absurd (cc (is))
acknowledges true (Ok (reply.Refused why place)) by c after tried turns is = absurd (cc (is))
acknowledges false (Ok (reply.Refused why place)) by c after tried turns is = absurd (cc (is))
acknowledges true (Err (board_fault.Disk place)) by c after tried turns is = absurd (cc (is))
acknowledges false (Err (board_fault.Disk place)) by c after tried turns is = absurd (cc (is))
acknowledges true (Err board_fault.OutOfMemory) by c after tried turns is = absurd (cc (is))
acknowledges false (Err board_fault.OutOfMemory) by c after tried turns is = absurd (cc (is))
