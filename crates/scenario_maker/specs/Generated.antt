-- The scenario of a number: ten cells join, fifty processes are desired, and twenty times over their instances are updated
-- and a round goes over the cells. Each phase has one actor, or a round alone.
use Rattle.std.specs.Prelude.{ℕ, zero, suc, ◌+◌, ◌*◌, ◌%◌, List, [], ◌++◌}
use Rattle.scenario_maker.specs.Draws.{first_number, behind, drawn}
use Rattle.scenario_maker.specs.Lines.{at_line, join_line, fresh_line, desire_line, update_line, round_line}

-- the texts of the numbers below this one, one behind another
unfoldable pub each_below : ℕ → (ℕ → List ℕ) → List ℕ
each_below zero text = []
each_below (suc n) text = each_below n text ++ text n

-- one cell joins, in a phase of its own: the even ones in one zone, the odd ones in another
abbrev pub join_phase : ℕ → List ℕ
join_phase cell = at_line 0 ++ join_line cell (cell % 2)

-- one process is desired, behind this number: its instances are drawn first, then its memory
abbrev pub desire_of : ℕ → ℕ → List ℕ
desire_of x process = desire_line process (1 + drawn (2 * process + 1) 4 x) (32 * (1 + drawn (2 * process + 2) 8 x))

-- the processes are desired in one phase, behind this number
abbrev pub desire_phase : ℕ → List ℕ
desire_phase x = at_line 0 ++ (fresh_line ++ each_below 50 (desire_of x))

-- one process is updated, behind this number and as many updates: which one is drawn first, then its instances
abbrev pub update_of : ℕ → ℕ → List ℕ
update_of x before = update_line (drawn (2 * before + 1) 50 x) (drawn (2 * before + 2) 6 x)

-- a phase of updates behind this number, at this moment, and a round in the next second
abbrev pub update_phases : ℕ → ℕ → List ℕ
update_phases x at = at_line at ++ (each_below 97 (update_of x) ++ (at_line (at + 1) ++ round_line))

-- the same behind as many such pairs, each of which draws twice for an update, and ten seconds after the one before
abbrev pub update_phases_behind : ℕ → ℕ → List ℕ
update_phases_behind x before = update_phases (behind (194 * before) x) (10 * before + 10)

-- the whole scenario of a number; behind its desires stand a hundred draws
unfoldable pub generated : ℕ → List ℕ
generated number =
    each_below 10 join_phase
    ++ (desire_phase (first_number number) ++ each_below 20 (update_phases_behind (behind 100 (first_number number))))
