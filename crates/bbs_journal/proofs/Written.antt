-- What an append that was made has written, byte for byte.
use Rattle.std.proofs.Common.{◌≡◌, ℕ, ◌+◌, ◌≤◌, true, Option, List, [], ◌∷◌, ◌++◌, length, take, drop, sym, ap, ◌∙◌, arith, append_assoc, drop_at}
use Rattle.std.specs.Option.{ForSome}
use Rattle.std.proofs.lemmas.List.{take-take, length-take-le}
use Rattle.disk_trait.specs.Past.{Past, content}
use Rattle.disk_trait.specs.Steps.{Goes, overwritten}
use Rattle.disk_trait.proofs.Public.{take_overwritten, wrote_content, synced_content, goes_then}
use Rattle.disk_trait.specs.declared.area.Area.{Area}
use Rattle.bbs_journal.specs.Areas.{body_of}
use Rattle.bbs_journal.specs.Calls.{WritesSynced, WritesFrame}

written : (area : Area) (at : ℕ) (bytes : List ℕ) (p q : Past) → WritesSynced true area at bytes p q
    → content q area ≡ overwritten at bytes (content p area)
written area at bytes p q (r, wrote, synced) = synced_content true area r q synced ∙ wrote_content area at bytes p r
    wrote

-- a body, and then the gate in front of it
gate_and_body : (end gate : ℕ) (body old : List ℕ) → end + 1 ≤ length old
    → overwritten end (gate ∷ []) (overwritten (end + 1) body old) ≡ overwritten end (gate ∷ body) old
gate_and_body end gate body old within =
    let new : List ℕ = overwritten (end + 1) body old in
    let rest : List ℕ = drop (end + 1 + length body) old in
    let front : take end new ≡ take end old =
    sym (take-take end (end + 1) new (omega arith)) ∙ ap (take end)
    (take_overwritten (end + 1) body old within) ∙ take-take end (end + 1) old (omega arith) in
    let behind : drop (end + 1) new ≡ body ++ rest =
    ap (drop (end + 1)) (append_assoc (take (end + 1) old) body rest) ∙ drop_at (take (end + 1) old) (body ++ rest)
    (end + 1) (omega (arith, length-take-le (end + 1) old within)) in
    let place : end + 1 + length body ≡ end + length (gate ∷ body) = omega arith in
    ap (λ (l : List ℕ). (l ++ gate ∷ []) ++ drop (end + 1) new) front
    ∙ ap (λ (l : List ℕ). (take end old ++ gate ∷ []) ++ l) behind
    ∙ append_assoc (take end old) (gate ∷ []) (body ++ rest)
    ∙ sym (append_assoc (take end old) (gate ∷ body) rest)
    ∙ ap (λ (n : ℕ). (take end old ++ gate ∷ body) ++ drop n old) place

pub frame_written : (t0 t1 t2 : Option Past) (area : Area) (end : ℕ) (payload body : List ℕ) → body ≡ body_of payload
    → ForSome t0 (λ p. end + 1 ≤ length (content p area))
    → Goes t0 t1 (WritesSynced true area (end + 1) body) → Goes t1 t2 (WritesSynced true area end (1 ∷ []))
    → Goes t0 t2 (WritesFrame area end payload)
frame_written t0 t1 t2 area end payload body is within first second =
    goes_then t0 t1 t2 (WritesSynced true area (end + 1) body) (WritesSynced true area end (1 ∷ []))
    (WritesFrame area end payload)
    (λ p q r i j k f s.
    written area end (1 ∷ []) q r s ∙ ap (overwritten end (1 ∷ []))
    (written area (end + 1) body p q f) ∙ gate_and_body end 1 body (content p area) (within p i)
    ∙ ap (λ (l : List ℕ). overwritten end (1 ∷ l) (content p area)) is) first second
