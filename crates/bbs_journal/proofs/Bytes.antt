-- What torn ranges and writes leave of bytes that begin so.
use Rattle.std.proofs.Common.{◌≡◌, ℕ, suc, ◌+◌, ◌<◌, ◌≤◌, List, [], ◌∷◌, ◌++◌, length, take, drop, get_or, refl, sym, ap, ◌∙◌, arith, append_assoc, length-append, take_at, drop_at, take-append-drop, drop-cons}
use Rattle.std.proofs.lemmas.List.{take-take}
use Rattle.disk_trait.specs.Held.{Range}
use Rattle.disk_trait.specs.Steps.{overwritten}
use Rattle.disk_trait.proofs.Public.{Bears}
use Rattle.bbs_journal.specs.Areas.{Begins, Staged}

begins_front : (front bytes : List ℕ) → take (length front) bytes ≡ front → Begins front bytes
begins_front front bytes is = record {
  rest = drop (length front) bytes;
  parts = sym (take-append-drop (length front) bytes) ∙ ap (λ (l : List ℕ). l ++ drop (length front) bytes) is;
}

pub begins_take : (front bytes : List ℕ) → Begins front bytes → take (length front) bytes ≡ front
begins_take front bytes b = ap (take (length front)) b.parts ∙ take_at front b.rest (length front) refl

pub begins_length : (front bytes : List ℕ) → Begins front bytes → length front ≤ length bytes
begins_length front bytes b = omega (arith, ap length b.parts, length-append front b.rest)

-- what is torn behind a front leaves the front
pub bears_begins : (front : List ℕ) (range : Range) → length front ≤ range.from → Bears (Begins front) range
bears_begins front range le old new begins torn are =
    begins_front front new
    (sym (take-take (length front) range.from new le) ∙ ap (take (length front)) torn.before ∙ take-take
    (length front) range.from old le
    ∙ begins_take front old begins)

pub staged_length : (front body bytes : List ℕ) → Staged front body bytes → length front < length bytes
staged_length front body bytes s = omega (arith, ap length s.parts, length-append front (s.gate ∷ (body ++ s.rest)))

-- any gate with the body behind it
pub staged_of : (front body : List ℕ) (gate : ℕ) (bytes : List ℕ) → Begins (front ++ gate ∷ body) bytes
    → Staged front body bytes
staged_of front body gate bytes b = record {
  gate = gate;
  rest = b.rest;
  parts =
      b.parts ∙ append_assoc front (gate ∷ body) b.rest;
}

behind_gate : (front : List ℕ) (gate at : ℕ) (rest : List ℕ) → at ≡ length front + 1
    → drop at (front ++ gate ∷ rest) ≡ rest
behind_gate front gate at rest is =
    ap (drop at) (sym (append_assoc front (gate ∷ []) rest)) ∙ drop_at (front ++ gate ∷ []) rest at
    (omega (arith, is, length-append front (gate ∷ [])))

-- a torn gate leaves a gate
pub bears_staged : (front body : List ℕ) (range : Range) → range.from ≡ length front → range.len ≡ 1
    → Bears (Staged front body) range
bears_staged front body range from len old new staged torn are =
    let long : length front < length new = omega (arith, staged_length front body old staged, torn.no_shorter) in
    let n : ℕ = range.from in
    let before : take n new ≡ front = torn.before ∙ ap (take n) staged.parts ∙ take_at front
    (staged.gate ∷ (body ++ staged.rest)) n (sym from) in
    let after : drop (n + range.len) new ≡ body ++ staged.rest =
    torn.after ∙ ap (drop (n + range.len)) staged.parts ∙ behind_gate front staged.gate (n + range.len)
    (body ++ staged.rest) (omega (arith, from, len)) in
    let next : suc n ≡ n + range.len = omega (arith, len) in
    record {
      gate = get_or new n 0;
      rest = staged.rest;
      parts = sym (take-append-drop n new) ∙ ap (λ (l : List ℕ). l ++ drop n new) before
          ∙ ap (λ (l : List ℕ). front ++ l) (drop-cons new n 0 (omega (arith, long, from)))
          ∙ ap (λ (l : List ℕ). front ++ get_or new n 0 ∷ l) (ap (λ (k : ℕ). drop k new) next ∙ after);
    }

-- a body that was written behind a closed gate
pub body_written : (front body old : List ℕ) (end : ℕ) → end ≡ length front → Begins (front ++ 0 ∷ []) old
    → Begins (front ++ 0 ∷ body) (overwritten (end + 1) body old)
body_written front body old end is b =
    let rest : List ℕ = drop (end + 1 + length body) old in
    let before : take (end + 1) old ≡ front ++ 0 ∷ [] =
    ap (take (end + 1)) b.parts ∙ take_at (front ++ 0 ∷ []) b.rest (end + 1)
    (omega (arith, is, length-append front (0 ∷ []))) in
    record {
      rest = rest;
      parts = ap (λ (l : List ℕ). (l ++ body) ++ rest) before ∙ ap (λ (l : List ℕ). l ++ rest)
          (append_assoc front (0 ∷ []) body);
    }

-- a gate that was written before its body
pub gate_written : (front body : List ℕ) (gate : ℕ) (old : List ℕ) (end : ℕ) → end ≡ length front
    → Staged front body old → Begins (front ++ gate ∷ body) (overwritten end (gate ∷ []) old)
gate_written front body gate old end is s =
    let before : take end old ≡ front = ap (take end) s.parts ∙ take_at front (s.gate ∷ (body ++ s.rest)) end
    (sym is) in
    let after : drop (end + 1) old ≡ body ++ s.rest = ap (drop (end + 1)) s.parts ∙ behind_gate front s.gate (end + 1)
    (body ++ s.rest) (omega (arith, is)) in
    record {
      rest = s.rest;
      parts = ap (λ (l : List ℕ). (l ++ gate ∷ []) ++ drop (end + 1) old) before
          ∙ ap (λ (l : List ℕ). (front ++ gate ∷ []) ++ l) after
          ∙ append_assoc front (gate ∷ []) (body ++ s.rest)
          ∙ sym (append_assoc front (gate ∷ body) s.rest);
    }
