-- What a server keeps, from call to call.
use Rattle.std.proofs.Common.{ℕ, Option, refl, ◌∙◌}
use Rattle.disk_trait.specs.Past.{Past}
use Rattle.disk_trait.specs.Runs.{Extends}
use Rattle.disk_trait.proofs.Public.{extends_same, extends_then, goes_same, goes_then}
use Rattle.fenced_board.specs.Fences.{FencedView}
use Rattle.standby_board.specs.Pairs.{PairView}
use Rattle.pair_top.specs.Servers.{KeepsAlone, KeepsPair}

module _ {D E : Type 0} where
  -- it is the pair that it is
  pub kept_pair : (v : PairView D E) (n : ℕ) → KeepsPair v n v n
  kept_pair v n = record { pair = record { primary = refl; standby = refl; floor = refl }; fence_is = refl }

  -- what is kept twice is kept
  pub kept_pair_then : (u v w : PairView D E) (k m n : ℕ) → KeepsPair u k v m → KeepsPair v m w n → KeepsPair u k w n
  kept_pair_then u v w k m n a b = record {
    pair = record {
      primary = b.pair.primary ∙ a.pair.primary;
      standby = b.pair.standby ∙ a.pair.standby;
      floor = b.pair.floor ∙ a.pair.floor;
    };
    fence_is = b.fence_is ∙ a.fence_is;
  }

module _ {E : Type 0} where
  -- it is the board that it is
  pub kept_alone : (told : E → Option Past) (v : FencedView E) (n : ℕ) → KeepsAlone told v n v n
  kept_alone told v n = record {
    base = refl;
    since = refl;
    faults = refl;
    goes = goes_same (told v.board.disk) Extends (λ p is. extends_same p);
    fence_is = refl;
  }

  -- what is kept twice is kept
  pub kept_alone_then : (told : E → Option Past) (u v w : FencedView E) (k m n : ℕ) → KeepsAlone told u k v m
      → KeepsAlone told v m w n → KeepsAlone told u k w n
  kept_alone_then told u v w k m n a b = record {
    goes = goes_then (told u.board.disk) (told v.board.disk) (told w.board.disk) Extends Extends Extends
        (λ p q r i j l. extends_then p q r) a.goes b.goes;
    base = b.base ∙ a.base;
    since = b.since ∙ a.since;
    faults = b.faults ∙ a.faults;
    fence_is = b.fence_is ∙ a.fence_is;
  }
