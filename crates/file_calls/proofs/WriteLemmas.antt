-- Calls that write a file leave the other, and join to one write.
use Rattle.std.specs.Prelude.{nat_le, nat_lt}
use Rattle.std.specs.List.{list_all}
use Rattle.std.proofs.Common.{◌≡◌, inl, inr, ℕ, ◌+◌, ◌-◌, ◌^◌, ◌<◌, ◌≤◌, min, true, false, ◌&&◌, Result, Ok, Err, MatchResult, is_ok, IsErr, List, [], ◌∷◌, ◌++◌, length, take, drop, slice_index_or, Fits, w8, refl, sym, ◌∙◌, ap, subst, arith, length-take, length-drop, length-append, append_assoc, append-nil, add-zero, take-append-drop}
use Rattle.std.proofs.lemmas.Bool.{leb-true, le-leb, lt-ltb}
use Rattle.std.proofs.lemmas.Bool.Decides.{leb_tells}
use Rattle.std.proofs.lemmas.List.{drop-drop, drop_at, take_at, take_all, length-take-le, get_or_default}
use Rattle.std.proofs.lemmas.List.Elements.{All-take, All-drop}
use Rattle.std.proofs.lemmas.List.Sums.{list_all-from_AllPass, AllPass-from_list_all}
use Rattle.std.proofs.Math.Seq.{take-add}
use Rattle.disk_trait.specs.Held.{Held, Range}
use Rattle.disk_trait.specs.Past.{other}
use Rattle.disk_trait.specs.Steps.{Wrote, pend, range_of, overwritten}
use Rattle.disk_trait.proofs.Public.{length_overwritten, torn_overwritten}
use Rattle.disk_trait.specs.declared.area.Area.{Area}
use Rattle.disk_trait.specs.declared.area.Area.TheVariants.{A, B}
use Rattle.file_calls.specs.declared.call_error.CallError.{CallError}
use Rattle.file_calls.specs.Call.{Call, began, means, measured, read, written, named, flushed}
use Rattle.file_calls.specs.Files.{First, same_area, is_announced, is_ready, held_by}
use Rattle.file_calls.specs.Possible.{torn_within, torn_same}
use Rattle.file_calls.specs.Honest.{is_honest}
use Rattle.file_calls.specs.Made.{AddsCalls, writes}
use Rattle.file_calls.specs.Moved.{laid_over}
use Rattle.file_calls.proofs.Records.{Works, and_first, and_second, and_both, area_here, adds_one, honest_before}
use Rattle.file_calls.proofs.ReadLemmas.{Spares}

pub writes_work : (area : Area) → Works (writes area)
writes_work area (measured here ok count) is = refl
writes_work area began is = absurd (cc)
writes_work area (means here at len) is = refl
writes_work area (read here at ok bytes) is = refl
writes_work area (written here at ok bytes) is = refl
writes_work area (named here ok) is = refl
writes_work area (flushed here ok) is = refl

apart : (area here : Area) → same_area area here ≡ true → same_area (other area) here ≡ false
apart A A is = refl
apart A B is = absurd (cc)
apart B A is = absurd (cc)
apart B B is = refl

pub writes_spare : (area : Area) → Spares (writes area) (other area)
writes_spare area (measured here ok count) is n held = refl
writes_spare area began is n held = refl
writes_spare area (means here at len) is n held = rw (apart area here is) refl
writes_spare area (read here at ok bytes) is n held = refl
writes_spare area (written here at ok bytes) is n held = rw (apart area here is) refl
writes_spare area (named here ok) is n held = refl
writes_spare area (flushed here ok) is n held = absurd (cc)

-- One call.

-- what is noted of a write
abbrev pub WriteNoted : Result ℕ CallError → Area → ℕ → List ℕ → List Call → List Call → Type 0
WriteNoted result area at bytes old new = MatchResult result (λ n. new ≡ written area at true (take n bytes) ∷ old)
    (λ _. new ≡ written area at false [] ∷ old)

pub write_adds : (result : Result ℕ CallError) (area : Area) (at : ℕ) (bytes : List ℕ) (old new : List Call)
    → WriteNoted result area at bytes old new → AddsCalls (writes area) old new
write_adds (Ok n) area at bytes old new noted = adds_one (writes area) old new _ (area_here area) noted
write_adds (Err e) area at bytes old new noted = adds_one (writes area) old new _ (area_here area) noted

-- a write that was refused changed nothing
pub refused_same : (first : First) (area : Area) (at : ℕ) (old new : List Call) → new ≡ written area at false [] ∷ old
    → held_by first area new ≡ held_by first area old
refused_same first area at old new noted = ap (held_by first area) noted ∙ rw (area_here area) refl

shorter : (ranges : List Range) (at few many : ℕ) → few ≤ many → is_announced ranges at many ≡ true
    → is_announced ranges at few ≡ true
shorter [] at few many le is = is
shorter (range ∷ ranges) at few many le is =
    let end = leb-true (at + many) (range.from + range.len) (and_second (nat_le range.from at) _ is) in
    and_both _ _ (and_first (nat_le range.from at) _ is) (le-leb (at + few) (range.from + range.len) (omega arith))

all_taken : (n : ℕ) (bytes : List ℕ) → list_all (λ b. nat_lt b 256) bytes ≡ true
    → list_all (λ b. nat_lt b 256) (take n bytes) ≡ true
all_taken n bytes all = list_all-from_AllPass (λ b. nat_lt b 256) (take n bytes)
    (All-take (λ b. nat_lt b 256 ≡ true) n bytes (AllPass-from_list_all (λ b. nat_lt b 256) bytes all))

all_dropped : (n : ℕ) (bytes : List ℕ) → list_all (λ b. nat_lt b 256) bytes ≡ true
    → list_all (λ b. nat_lt b 256) (drop n bytes) ≡ true
all_dropped n bytes all = list_all-from_AllPass (λ b. nat_lt b 256) (drop n bytes)
    (All-drop (λ b. nat_lt b 256 ≡ true) n bytes (AllPass-from_list_all (λ b. nat_lt b 256) bytes all))

taken_ready : (held : Held) (at n : ℕ) (bytes : List ℕ) → is_ready held at bytes ≡ true
    → is_ready held at (take n bytes) ≡ true
taken_ready held at n bytes ready =
    let place = and_first (nat_le at (length held.reads)) _ (and_first _ _ ready) in
    let range = and_second (nat_le at (length held.reads)) _ (and_first _ _ ready) in
    let good = and_second (nat_le at (length held.reads) && is_announced held.pending at (length bytes)) _ ready in
    and_both _ _ (and_both _ _ place (shorter held.pending at (length (take n bytes)) (length bytes)
    (omega (arith, length-take n bytes)) range)) (all_taken n bytes good)

-- what a file holds after one call
pub write_here : (result : Result ℕ CallError) (first : First) (area : Area) (at : ℕ) (bytes : List ℕ)
    (start old new : List Call) → held_by first area old ≡ held_by first area start
    → (is_honest first old ≡ true → is_ready (held_by first area old) at bytes ≡ true)
    → WriteNoted result area at bytes old new
    → is_honest first new ≡ true → MatchResult result (λ n. held_by first area new
    ≡ laid_over (held_by first area start) at (take n bytes))
    (λ _. held_by first area new ≡ held_by first area start)
write_here (Ok n) first area at bytes start old new same ready noted honest =
    let was : is_honest first old ≡ true = subst (λ (l : List Call). is_honest first l ≡ true) noted honest in
    ap (held_by first area) noted ∙ rw (area_here area, taken_ready (held_by first area old) at n bytes (ready was))
    (ap (λ (h : Held). laid_over h at (take n bytes)) same)
write_here (Err e) first area at bytes start old new same ready noted honest =
    refused_same first area at old new noted ∙ same

-- Writes in a row.

-- what a slice of bytes holds is bytes
pub bytes_all : (bytes : List ℕ) → ((i : ℕ) → Fits w8 (slice_index_or bytes i 0))
    → list_all (λ b. nat_lt b 256) bytes ≡ true
bytes_all bytes fits = list_all-from_AllPass (λ b. nat_lt b 256) bytes
    (λ k d within. let here = fits k in let same = get_or_default bytes k d 0 within in
    let low : slice_index_or bytes k d < 256 = omega arith in lt-ltb (slice_index_or bytes k d) 256 low)

overwritten_none : (at : ℕ) (old : List ℕ) → overwritten at [] old ≡ old
overwritten_none at old = ap (λ (l : List ℕ). l ++ drop (at + 0) old) (append-nil (take at old)) ∙ ap
    (λ (n : ℕ). take at old ++ drop n old) (add-zero at) ∙ take-append-drop at old

end_is : (at a b c : ℕ) → c ≡ a + b → at + a + b ≡ at + c
end_is at a b c is = omega arith

overwritten_more : (at from : ℕ) (front part old : List ℕ) → at ≤ length old → from ≡ at + length front
    → overwritten from part (overwritten at front old) ≡ overwritten at (front ++ part) old
overwritten_more at from front part old within is =
    let before : List ℕ = take at old ++ front in
    let rest : List ℕ = drop (at + length front) old in
    let len : length before ≡ from = omega (arith, length-append (take at old) front, length-take-le at old within) in
    let head : take from (before ++ rest) ≡ before = take_at before rest from len in
    let tail : drop (from + length part) (before ++ rest) ≡ drop (at + length (front ++ part)) old =
    sym (drop-drop (length part) from (before ++ rest)) ∙ ap (drop (length part))
    (drop_at before rest from len) ∙ drop-drop (length part) (at + length front) old
    ∙ ap (λ (n : ℕ). drop n old) (end_is at (length front) (length part) (length (front ++ part))
    (length-append front part)) in
    ap (λ (l : List ℕ). l ++ part ++ drop (from + length part) (before ++ rest)) head
    ∙ ap (λ (l : List ℕ). before ++ part ++ l) tail
    ∙ ap (λ (l : List ℕ). l ++ drop (at + length (front ++ part)) old) (append_assoc (take at old) front part)

-- the state after so many bytes of a write
abbrev pub half_written : Held → ℕ → ℕ → List ℕ → Held
half_written old at done bytes = pend old (range_of at bytes) (overwritten at (take done bytes) old.reads)

pub announced : (first : First) (area : Area) (at len : ℕ) (bytes : List ℕ) (old new : List Call) → len ≡ length bytes
    → new ≡ means area at len ∷ old → held_by first area new ≡ half_written (held_by first area old) at 0 bytes
announced first area at len bytes old new long noted =
    ap (held_by first area) noted ∙ rw (area_here area, long)
    (ap (λ (l : List ℕ). pend (held_by first area old) (range_of at bytes) l)
    (sym (overwritten_none at (held_by first area old).reads)))

pub half_ready : (old : Held) (at done from : ℕ) (bytes : List ℕ) → at ≤ length old.reads → done ≤ length bytes
    → from ≡ at + done → ((i : ℕ) → Fits w8 (slice_index_or bytes i 0))
    → is_ready (half_written old at done bytes) from (drop done bytes) ≡ true
half_ready old at done from bytes within few is fits =
    let part : List ℕ = take done bytes in
    let len = length_overwritten at part old.reads within in
    and_both _ _
    (and_both _ _ (le-leb from (length (overwritten at part old.reads)) (omega (arith, len, length-take done bytes)))
    (and_both _ _ (le-leb at from (omega arith)) (le-leb (from + length (drop done bytes)) (at + length bytes)
    (omega (arith, length-drop done bytes)))))
    (all_dropped done bytes (bytes_all bytes fits))

pub half_more : (old : Held) (at done from n : ℕ) (bytes : List ℕ) → at ≤ length old.reads → done ≤ length bytes
    → from ≡ at + done → laid_over (half_written old at done bytes) from (take n (drop done bytes))
    ≡ half_written old at (done + n) bytes
half_more old at done from n bytes within few is =
    let next : from ≡ at + length (take done bytes) = omega (arith, length-take done bytes) in
    ap (λ (l : List ℕ). pend old (range_of at bytes) l) (overwritten_more at from (take done bytes)
    (take n (drop done bytes)) old.reads within next ∙ ap (λ (l : List ℕ). overwritten at l old.reads)
    (sym (take-add done n bytes)))

pub half_whole : (old : Held) (at done : ℕ) (bytes : List ℕ) → length bytes ≤ done
    → half_written old at done bytes ≡ pend old (range_of at bytes) (overwritten at bytes old.reads)
half_whole old at done bytes all = ap (λ (l : List ℕ). pend old (range_of at bytes) (overwritten at l old.reads))
    (take_all done bytes all)

pub half_torn : (old new : Held) (at done : ℕ) (bytes : List ℕ) → at ≤ length old.reads → done ≤ length bytes
    → new ≡ half_written old at done bytes → Wrote false at bytes old new
half_torn old new at done bytes within few is =
    let part : List ℕ = take done bytes in
    let torn = torn_within (range_of at bytes) (range_of at part) old.reads old.reads (overwritten at part old.reads)
    (omega arith) (omega (arith, length-take done bytes)) (torn_same (range_of at bytes) old.reads)
    (torn_overwritten at part old.reads within) in
    subst (Wrote false at bytes old) (sym is) (inr (record { torn = torn; pending = refl }))

-- what was ready stays so while nothing changes
pub ready_still : (first : First) (area : Area) (at : ℕ) (bytes : List ℕ) (start old : List Call)
    → AddsCalls (writes area) start old → held_by first area old ≡ held_by first area start
    → (is_honest first start ≡ true → is_ready (held_by first area start) at bytes ≡ true) → is_honest first old ≡ true
    → is_ready (held_by first area old) at bytes ≡ true
ready_still first area at bytes start old adds same ready honest =
    subst (λ (h : Held). is_ready h at bytes ≡ true) (sym same)
    (ready (honest_before first (writes area) start old adds honest))

pub means_adds : (area : Area) (at len : ℕ) (old new : List Call) → new ≡ means area at len ∷ old
    → AddsCalls (writes area) old new
means_adds area at len old new noted = adds_one (writes area) old new (means area at len) (area_here area) noted

-- a write that broke off
pub wrote_err : (result : Result (Unit {0}) CallError) (old new : Held) (at done : ℕ) (bytes : List ℕ) → IsErr result
    → at ≤ length old.reads → done ≤ length bytes → new ≡ half_written old at done bytes
    → Wrote (is_ok result) at bytes old new
wrote_err (Ok x) old new at done bytes is within few half = absurd (cc)
wrote_err (Err e) old new at done bytes is within few half = half_torn old new at done bytes within few half

-- where the next part of a write begins
pub next_is : (at done from : ℕ) → from ≡ min (at + done) (2 ^ 64 - 1) → at < 2 ^ 64 → done < 2 ^ 63
    → (0 < done → at < 2 ^ 63) → from ≡ at + done
next_is at done from is fits few small = elim (leb_tells done 0) [
  | inl none ↦ omega (arith, none.1)
  | inr some ↦ let low : at < 2 ^ 63 = small some.1 in omega arith
]
