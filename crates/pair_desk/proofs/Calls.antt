-- What a call of a pair leaves of what a desk looks at.
use Rattle.std.proofs.Common.{◌≡◌, ℕ, ◌⊎◌, inl, inr, ◌<◌, ◌++◌, length, Ok, sym, ap, ◌∙◌}
use Rattle.std.proofs.lemmas.Bool.Decides.{leb_tells}
use Rattle.std.proofs.lemmas.List.{append-nil}
use Rattle.bbs_board.specs.View.{rows_of}
use Rattle.bbs_model.specs.Step.{verdict_of}
use Rattle.bbs_model.specs.declared.command.Command.{Command}
use Rattle.standby_board.specs.Calls.{End, Answers, gained, IsSamePair}
use Rattle.standby_board.specs.Pairs.{PairView}
use Rattle.standby_board.specs.declared.answers.PairReply.TheVariants as pair
use Rattle.pair_desk.specs.Standing.{origin_of}
use Rattle.pair_desk.specs.Turns.{IsStale, IsSoleCall}

module _ {D E : Type 0} where
  -- the same pair whose primary was loaded in the same way has the same origin
  pub same_origin : (v w : PairView D E) → IsSamePair v w → w.primary.base ≡ v.primary.base
      → w.primary.since ≡ v.primary.since → w.primary.faults ≡ v.primary.faults → origin_of w ≡ origin_of v
  same_origin v w same base since faults = λ i. record {
    base = base i;
    since = since i;
    faults = faults i;
    start = record { primary = same.primary i; standby = same.standby i; floor = same.floor i };
  }

  module _ (moment : D → ℕ) (moment' : E → ℕ) (faults : D → ℕ) (faults' : E → ℕ) (number by : ℕ) (c : Command)
      (old new : PairView D E) (end : End)
      (call : IsSoleCall moment moment' faults faults' number by c old new end) where
    is_stale : number < old.fence.greatest → end ≡ Ok (pair.StaleFence old.fence.greatest)
    is_stale lower = call.shows.stale.1 lower

    pub sole_log : new.primary.log ≡ old.primary.log ++ gained end by c
    sole_log = elim (leb_tells old.fence.greatest number) [
      | inl taken ↦ (call.calls taken.1).primary.log
      | inr lower ↦ ap (λ (v : PairView D E). v.primary.log) (call.idle lower.1) ∙ sym (append-nil old.primary.log)
          ∙ ap (λ (e : End). old.primary.log ++ gained e by c) (sym (is_stale lower.1))
    ]

    pub sole_origin : origin_of new ≡ origin_of old
    sole_origin = elim (leb_tells old.fence.greatest number) [
      | inl taken ↦ let grows = (call.calls taken.1).primary in
          same_origin old new call.same grows.base grows.since grows.faults
      | inr lower ↦ ap (λ (v : PairView D E). origin_of v) (call.idle lower.1)
    ]

    pub sole_answers : IsStale number end ⊎ Answers (verdict_of (rows_of old.primary) c) (length old.primary.log)
        (rows_of old.primary).next end
    sole_answers = elim (leb_tells old.fence.greatest number) [
      | inl taken ↦ inr (call.calls taken.1).answers
      | inr lower ↦ inl (old.fence.greatest, lower.1, is_stale lower.1)
    ]
