-- Numbers that never fall.
use Rattle.std.proofs.Common.{ℕ, ◌≤◌, List, [], ◌∷◌, ◌++◌, arith}
use Rattle.bbs_board.specs.Kept.{RiseBetween}

-- below a higher number too
pub rises_below : (low : ℕ) (numbers : List ℕ) (high higher : ℕ) → RiseBetween low numbers high → high ≤ higher
    → RiseBetween low numbers higher
rises_below low [] high higher rising le = omega (arith, rising, le)
rises_below low (n ∷ numbers) high higher rising le = (rising.0, rises_below n numbers high higher rising.1 le)

-- with the highest one behind them
pub rises_more : (low : ℕ) (numbers : List ℕ) (high : ℕ) → RiseBetween low numbers high
    → RiseBetween low (numbers ++ high ∷ []) high
rises_more low [] high rising = (rising, omega arith)
rises_more low (n ∷ numbers) high rising = (rising.0, rises_more n numbers high rising.1)
