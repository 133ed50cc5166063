-- Indexes of instances as runs, as `3,5-7`.
use Rattle.std.specs.Prelude.{ℕ, ◌+◌, ◌==◌, ◌&&◌, nat_le, Bool, cond, List, [], ◌∷◌, ◌++◌, map, fold, codes}
use Rattle.std.specs.List.{list_any}
use Rattle.std.specs.Fmt.{decimal}
use Rattle.headroom_tables.specs.declared.runs.Run.{Run}
use Rattle.headroom_tables.specs.Layout.{joined}

-- a run of one index
abbrev pub single : ℕ → Run
single n = record { first = n; last = n }

-- whether an index is in a run
abbrev pub covers : ℕ → Run → Bool
covers n r = nat_le r.first n && nat_le n r.last

-- a run with one index more: it grows by the one that follows it, and any other is a run of its own
abbrev pub followed : Run → ℕ → List Run
followed r n = cond (r.last + 1 == n) (record { first = r.first; last = n } ∷ []) (r ∷ single n ∷ [])

-- runs with one index more, which is put behind the last of them
unfoldable pub extended : List Run → ℕ → List Run
extended [] n = single n ∷ []
extended (r ∷ []) n = followed r n
extended (r ∷ s ∷ rs) n = r ∷ extended (s ∷ rs) n

-- the same; an index that is in one of them already is passed over
abbrev pub with_index : List Run → ℕ → List Run
with_index rs n = cond (list_any (covers n) rs) rs (extended rs n)

-- the runs of some indexes
abbrev pub runs_of : List ℕ → List Run
runs_of ns = fold with_index [] ns

-- a run: its index, or the first and the last one
abbrev pub run_text : Run → List ℕ
run_text r = cond (r.first == r.last) (decimal r.first) (decimal r.first ++ (codes "-" ++ decimal r.last))

-- indexes, each once
abbrev pub indexes_text : List ℕ → List ℕ
indexes_text ns = joined (codes ",") (map run_text (runs_of ns))
