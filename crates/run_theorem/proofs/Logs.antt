-- Places of a log that goes on from another.
use Rattle.std.proofs.Common.{◌≡◌, ◌≤◌, List, [], ◌∷◌, ◌++◌, length, take, drop, Some, refl, sym, ap, ◌∙◌, append_assoc, length-append, arith}
use Rattle.std.specs.List.{slice_get}
use Rattle.std.proofs.lemmas.List.{append-nil, drop_at, take_at}
use Rattle.bbs_model.specs.declared.item.Item.{Item}
use Rattle.phase_runs.specs.Actors.{LogBegins}
use Rattle.run_theorem.specs.Phases.{between}

-- an element behind others stands at their number
pub stands_behind : {X : Type 0} (xs ys : List X) (x : X) → slice_get (xs ++ x ∷ ys) (length xs) ≡ Some x
stands_behind [] ys x = refl
stands_behind (y ∷ xs) ys x = stands_behind xs ys x

pub begins_same : (log : List Item) → LogBegins log log
begins_same log = ([], sym (append-nil log))

pub begins_then : (first mid log : List Item) → LogBegins first mid → LogBegins mid log → LogBegins first log
begins_then first mid log f g =
    (f.0 ++ g.0, g.1 ∙ ap (λ (xs : List Item). xs ++ g.0) f.1 ∙ append_assoc first f.0 g.0)

-- what stands first of a log is as long at most, and is the first so many of its items
pub begins_within : (first log : List Item) → LogBegins first log → length first ≤ length log
begins_within first log f = omega (arith, ap length f.1 ∙ length-append first f.0)

pub begins_taken : (first log : List Item) → LogBegins first log → take (length first) log ≡ first
begins_taken first log f = ap (take (length first)) f.1 ∙ take_at first f.0 (length first) refl

-- the items behind a log, of one that goes on behind them
pub fresh_between : (before fresh log : List Item) → LogBegins (before ++ fresh) log
    → between (length before) (length (before ++ fresh)) log ≡ fresh
fresh_between before fresh log f =
    ap (drop (length before)) (begins_taken (before ++ fresh) log f) ∙ drop_at before fresh (length before) refl

-- a log that goes on from one with items behind it has them there
pub begins_behind : (before items log : List Item) → LogBegins (before ++ items) log → LogBegins before log
begins_behind before items log f = (items ++ f.0, f.1 ∙ append_assoc before items f.0)
