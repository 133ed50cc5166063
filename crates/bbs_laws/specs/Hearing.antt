-- What readers of a log hear, one reading after another.
use Rattle.std.specs.Prelude.{◌≡◌, ℕ, ◌+◌, ◌≤◌, List, ◌++◌, length}
use Rattle.bbs_model.specs.Told.{heard_from}
use Rattle.bbs_model.specs.declared.item.Item.{Item}
use Rattle.bbs_model.specs.declared.rows.Rows.{Rows}

-- a reading goes on where an earlier one ended: nothing is heard twice or passed over
abbrev pub HearsOn : Rows → List Item → ℕ → ℕ → ℕ → Type 0
HearsOn base log from n m =
    heard_from base log from n ++ heard_from base log (from + n) m ≡ heard_from base log from (n + m)

-- what was heard of a log is heard of a longer one
abbrev pub HearsTheSame : Rows → List Item → List Item → ℕ → ℕ → Type 0
HearsTheSame base log more from n =
    from + n ≤ length log → heard_from base (log ++ more) from n ≡ heard_from base log from n
