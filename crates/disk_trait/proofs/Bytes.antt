-- A write to an area in memory can be undone by what it was laid over.
use Rattle.std.proofs.Common.{◌≡◌, ℕ, ◌+◌, ◌-◌, ◌≤◌, min, List, ◌++◌, length, take, drop, sym, ◌∙◌, ap, append_assoc, take-append-drop}
use Rattle.std.proofs.lemmas.List.{drop-drop, take_min}
use Rattle.disk_trait.specs.Steps.{overwritten}
use Rattle.disk_trait.proofs.Ranges.{take_overwritten, drop_overwritten}

pub undone_overwritten : (at len : ℕ) (bytes old over : List ℕ) → at ≤ length old → len ≡ length bytes
    → over ≡ take len (drop at old)
    → take at (overwritten at bytes old) ++ over ++ drop (at + len) (overwritten at bytes old) ≡ old
undone_overwritten at len bytes old over within long is =
    let front = take_overwritten at bytes old within in
    let back : drop (at + len) (overwritten at bytes old) ≡ drop (at + len) old =
    rw long (drop_overwritten at bytes old within) in
    ap (λ (l : List ℕ). l ++ over ++ drop (at + len) (overwritten at bytes old)) front
    ∙ ap (λ (l : List ℕ). take at old ++ over ++ l) back
    ∙ ap (λ (l : List ℕ). take at old ++ l ++ drop (at + len) old) is
    ∙ append_assoc (take at old) (take len (drop at old)) (drop (at + len) old)
    ∙ ap (λ (l : List ℕ). take at old ++ (take len (drop at old) ++ l)) (sym (drop-drop len at old))
    ∙ ap (λ (l : List ℕ). take at old ++ l) (take-append-drop len (drop at old))
    ∙ take-append-drop at old

-- the part that a write is laid over ends where the area ends
pub over_is : (at end len : ℕ) (old : List ℕ) → end - at ≡ min len (length (drop at old))
    → take (end - at) (drop at old) ≡ take len (drop at old)
over_is at end len old is = ap (λ (n : ℕ). take n (drop at old)) is ∙ take_min len (drop at old)
