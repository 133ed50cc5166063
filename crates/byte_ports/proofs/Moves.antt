-- Pieces moved one after another.
use Rattle.std.specs.Prelude.{◌≡◌, ℕ, ◌+◌, ◌-◌, ◌<◌, ◌≤◌, min, List, [], ◌++◌, length, take, drop, Option}
use Rattle.std.proofs.Common.{arith, sym, ap, ◌∙◌, append_assoc, take-append-drop, length-append, length-take, length-drop, drop-drop, take_at, drop_of_length-le}
use Rattle.std.proofs.lemmas.List.{take_rest}
use Rattle.std.specs.Io.KnownBytes.{Consumes}
use Rattle.std.proofs.KnownBytes.{Consumes-trans}
use Rattle.byte_ports.specs.Content.{Lost}

-- the first n bytes go from the rest to what is done
pub done_grows : (text done rest : List ℕ) (n : ℕ) → text ≡ done ++ rest
    → text ≡ (done ++ take n rest) ++ take (length rest - n) (drop n rest)
done_grows text done rest n split =
    split ∙ ap (λ l. done ++ l) (sym (take-append-drop n rest))
    ∙ sym (append_assoc done (take n rest) (drop n rest))
    ∙ ap (λ l. (done ++ take n rest) ++ l) (sym (take_rest rest n))

-- bytes that were taken, and then the first m of a room
pub lost_more : (a b c : Option (List ℕ)) (bytes room : List ℕ) (m : ℕ) → m ≤ length room
    → Consumes a b bytes → Consumes b c (take m room) → Lost a c (length bytes + m)
lost_more a b c bytes room m fits first second =
    let long : length (bytes ++ take m room) ≡ length bytes + m =
    omega (arith, length-append bytes (take m room), length-take m room) in
    (bytes ++ take m room, long, Consumes-trans a b c _ _ first second)

-- the first n bytes from a place on were copied to the front of a room, as many as there are or fit
pub copied_front : (bytes rest room copied : List ℕ) (at n : ℕ) → rest ≡ drop at bytes
    → n ≡ min (length rest) (length room) → copied ≡ take n rest
    → (drop at bytes ≡ take n (copied ++ drop n room) ++ drop (at + n) bytes)
    × (n ≡ 0 → 0 < length (copied ++ drop n room) → drop (at + n) bytes ≡ [])
copied_front bytes rest room copied at n whole count copy =
    let long : length copied ≡ n = omega (arith, ap length copy, length-take n rest) in
    let behind : List ℕ = drop n room in
    let back : drop (at + n) bytes ≡ drop n rest =
    sym (drop-drop n at bytes) ∙ ap (drop n) (sym whole) in
    let front : take n (copied ++ behind) ≡ take n rest = take_at copied behind n long ∙ copy in (
      sym whole ∙ sym (take-append-drop n rest) ∙ ap (λ l. l ++ drop n rest) (sym front)
          ∙ ap (λ l. take n (copied ++ behind) ++ l) (sym back),
      λ none free. back ∙ drop_of_length-le rest
          (omega (arith, length-append copied behind, length-drop n room)),
    )
