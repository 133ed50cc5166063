-- What was put into a log of payloads: each is acknowledged, or in doubt.
use Rattle.std.specs.Prelude.{ℕ, ◌+◌, Bool, true, false, List, [], ◌∷◌, map}
use Rattle.payload_log.specs.declared.entry.Entry.{Entry}
use Rattle.payload_log.specs.declared.entry.Entry.TheVariants.{Done, Doubt}

-- the entry of a payload that was put, or whose put failed
abbrev pub entry_of : {X : Type 0} → Bool → X → Entry X
entry_of true x = Done x
entry_of false x = Doubt x

-- those that are acknowledged, in order
abbrev pub done_in : {X : Type 0} → List (Entry X) → List X
done_in [] = []
done_in (Done x ∷ log) = x ∷ done_in log
done_in (Doubt x ∷ log) = done_in log

-- their bytes
abbrev pub stored_in : {X : Type 0} → (X → List ℕ) → List (Entry X) → List (List ℕ)
stored_in spelling log = map spelling (done_in log)

-- how many are in doubt
abbrev pub doubts_in : {X : Type 0} → List (Entry X) → ℕ
doubts_in [] = 0
doubts_in (Done x ∷ log) = doubts_in log
doubts_in (Doubt x ∷ log) = doubts_in log + 1
