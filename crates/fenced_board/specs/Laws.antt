-- What holds of calls behind a fence, one after the other.
use Rattle.std.specs.Prelude.{◌≡◌, ℕ, ◌<◌, List, [], ◌∷◌, Some, Result, Ok}
use Rattle.std.specs.List.{slice_get}
use Rattle.bbs_model.specs.declared.reply.CallFault.{CallFault}
use Rattle.fenced_board.specs.Calls.{ShowsNumber}
use Rattle.fenced_board.specs.Fences.{FencedView}
use Rattle.fenced_board.specs.declared.reply.FencedReply.{FencedReply}
use Rattle.fenced_board.specs.declared.reply.FencedReply.TheVariants as fenced

-- a call: the number that it showed, how it ended, and how the board was before and after it
pub record FencedCall (D : Type 0) : Type 0 where
  pub number : ℕ
  pub end : Result FencedReply CallFault
  pub old : FencedView D
  pub new : FencedView D

-- what each call ensures of its number
pub record HasShown {D : Type 0} (call : FencedCall D) : Type 0 where
  pub shows : ShowsNumber call.number call.end call.old.fence.greatest call.new.fence.greatest
  pub idle : call.number < call.old.fence.greatest → call.new ≡ call.old

-- calls one after the other, the first of them where this number was the greatest; whatever was done between two of
-- them left the greatest one
abbrev pub AreShown : {D : Type 0} → List (FencedCall D) → ℕ → Type 0
AreShown [] greatest = Unit {0}
AreShown (call ∷ calls) greatest =
    (call.old.fence.greatest ≡ greatest) × (HasShown call × AreShown calls call.new.fence.greatest)

-- the call was told that its number is stale, and nothing was done
pub record IsStale {D : Type 0} (call : FencedCall D) : Type 0 where
  pub greatest : ℕ
  pub answer : call.end ≡ Ok (fenced.StaleFence greatest)
  pub idle : call.new ≡ call.old

-- a call with a lower number than one that was shown before is stale
abbrev pub LowerNumbersAreStale : Type 0 → Type 0
LowerNumbersAreStale D =
    (calls : List (FencedCall D)) (greatest : ℕ) → AreShown calls greatest → (i j : ℕ) (earlier later : FencedCall D)
    → slice_get calls i ≡ Some earlier → slice_get calls j ≡ Some later → i < j → later.number < earlier.number
    → IsStale later
