-- What a call of a shared pair is, and how the pair comes back.
use Rattle.std.specs.Prelude.{◌≡◌, ◌⊎◌, ℕ, ◌<◌, ◌≤◌, ◌^◌, List, [], ◌++◌, length, Ok}
use Rattle.bbs_model.specs.Calls.{by_number}
use Rattle.bbs_model.specs.PortView.{PortView, after_others, after_own, rows_seen}
use Rattle.bbs_model.specs.Step.{verdict_of}
use Rattle.bbs_model.specs.declared.command.Command.{Command}
use Rattle.bbs_model.specs.declared.item.Item.{Item}
use Rattle.bbs_shared.specs.Passes.{seen_by}
use Rattle.standby_board.specs.Calls.{End, Answers, gained, HasCauses, IsPairCall, IsSamePair, ShowsFence}
use Rattle.standby_board.specs.Pairs.{PairView}
use Rattle.standby_board.specs.declared.answers.PairReply.TheVariants as pair
use Rattle.ticket_desk.specs.Views.{Begins, EachAt}
use Rattle.ticket_desk.specs.declared.pass.Pass.{Pass}
use Rattle.bbs_shared.specs.declared.origin.Origin.{Origin}

-- a greater number was shown before
abbrev pub IsStale : ℕ → End → Type 0
IsStale number end = (greatest : ℕ) × (number < greatest) × (end ≡ Ok (pair.StaleFence greatest))

module _ {D E : Type 0} where
  -- all that a call of a pair promises to its one caller
  pub record IsSoleCall (moment : D → ℕ) (moment' : E → ℕ) (fault_count : D → ℕ) (fault_count' : E → ℕ)
      (number by : ℕ) (c : Command) (old new : PairView D E) (end : End) : Type 0 where
    pub shows : ShowsFence number end old.fence.greatest new.fence.greatest
    pub idle : number < old.fence.greatest → new ≡ old
    pub calls : old.fence.greatest ≤ number → IsPairCall moment moment' number by c old new end
    pub causes : HasCauses fault_count fault_count' end old new
    pub same : IsSamePair old new

  -- a call has its turn behind what others did: it is the call of a pair whose primary's log is that; its answer is
  -- that of the primary's step there, unless the number is stale or the primary wasn't called; and its item is added
  pub record IsCalled (moment : D → ℕ) (moment' : E → ℕ) (fault_count : D → ℕ) (fault_count' : E → ℕ)
      (number by : ℕ) (c : Command) (v w : PortView) (end : End) : Type 0 where
    pub others : List Item
    pub before : PairView D E
    pub after : PairView D E
    pub base : before.primary.base ≡ v.base
    pub log : before.primary.log ≡ v.seen ++ others
    pub call : IsSoleCall moment moment' fault_count fault_count' number by c before after end
    pub answers : IsStale number end ⊎ Answers (verdict_of (rows_seen (after_others v others)) c)
        (length (v.seen ++ others)) (rows_seen (after_others v others)).next end
    pub is : w ≡ after_own (after_others v others) (gained end by c)
    pub few : length w.seen < 2 ^ 64

  -- the pair went on: it was started as it was, fresh items came behind its primary's log, each pass's own are those
  -- with its number, there are no others, and what a pass has seen is a beginning of the log
  pub record CameBack {V S : Type 0} (before left : PairView D E) (passes : List (Pass V Item (Origin S))) : Type 0 where
    pub fresh : List Item
    pub history : left.primary.log ≡ before.primary.log ++ fresh
    pub same : IsSamePair before left
    pub base : left.primary.base ≡ before.primary.base
    pub since : left.primary.since ≡ before.primary.since
    pub faults : left.primary.faults ≡ before.primary.faults
    pub own : EachAt (λ k p. (seen_by p).mine ≡ by_number k fresh) passes
    pub seen : EachAt (λ _ p. Begins (seen_by p).seen left.primary.log) passes
    pub no_others : (n : ℕ) → length passes ≤ n → by_number n fresh ≡ []
