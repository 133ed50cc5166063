-- Calls that read change nothing, and what they give joins to one read.
use Rattle.std.specs.Prelude.{nat_le, nat_lt}
use Rattle.std.proofs.Common.{◌≡◌, ◌⊎◌, inl, inr, ℕ, ◌+◌, ◌-◌, ◌^◌, ◌<◌, ◌≤◌, Bool, true, false, ◌||◌, Result, Ok, Err, IfOk, OnErr, MatchResult, List, [], ◌∷◌, ◌++◌, length, take, drop, refl, sym, ◌∙◌, ap, subst, arith, length-take, length-drop}
use Rattle.std.specs.List.{list_all}
use Rattle.std.proofs.lemmas.Bool.{or_cases, ltb-true, leb-true}
use Rattle.std.proofs.lemmas.List.{drop-drop, drop_at, take-append-le, length-take-le}
use Rattle.std.proofs.lemmas.Slice.{take-put_mid_below}
use Rattle.std.proofs.lemmas.Slice.Eq.{bytes_eq-Decides}
use Rattle.std.proofs.Math.Seq.{take-add}
use borrow.Rule.Slice.PartMut.{put_mid, post_of}
use Rattle.disk_trait.specs.Held.{Held}
use Rattle.disk_trait.specs.Steps.{Filled}
use Rattle.disk_trait.specs.declared.area.Area.{Area}
use Rattle.file_calls.specs.declared.call_error.CallError.{CallError}
use Rattle.file_calls.specs.Call.{Call, began, means, measured, read, written, named, flushed}
use Rattle.file_calls.specs.Files.{First, held_after_call, held_by}
use Rattle.file_calls.specs.Honest.{gives, is_honest}
use Rattle.file_calls.specs.Made.{AddsCalls, measures, reads, ends_refused}
use Rattle.file_calls.specs.Moved.{GivesBytes}
use Rattle.file_calls.proofs.Records.{Works, and_first, and_second, area_here, adds_one}

-- such calls leave what this file holds
abbrev pub Spares : (Call → Bool) → Area → Type 0
Spares kind area = (call : Call) → kind call ≡ true → (has_name : Bool) (held : Held)
    → held_after_call area call has_name held ≡ held

module _ (first : First) (area : Area) (kind : Call → Bool) (spares : Spares kind area) (old : List Call) where
  held_more : (calls : List Call) → list_all kind calls ≡ true
      → held_by first area (calls ++ old) ≡ held_by first area old
  held_more [] all = refl
  held_more (call ∷ calls) all = spares call (and_first (kind call) _ all) _ _ ∙ held_more calls
      (and_second (kind call) _ all)

pub held_same : (first : First) (area : Area) (kind : Call → Bool) → Spares kind area → (old new : List Call)
    → AddsCalls kind old new → held_by first area new ≡ held_by first area old
held_same first area kind spares old new adds = ap (held_by first area) adds.1 ∙ held_more first area kind spares old
    adds.0 adds.2

pub measures_work : (area : Area) → Works (measures area)
measures_work area (measured here ok count) is = refl
measures_work area began is = absurd (cc)
measures_work area (means here at len) is = refl
measures_work area (read here at ok bytes) is = refl
measures_work area (written here at ok bytes) is = refl
measures_work area (named here ok) is = refl
measures_work area (flushed here ok) is = refl

pub measures_spare : (area a : Area) → Spares (measures area) a
measures_spare area a (measured here ok count) is n held = refl
measures_spare area a began is n held = refl
measures_spare area a (means here at len) is n held = absurd (cc)
measures_spare area a (read here at ok bytes) is n held = refl
measures_spare area a (written here at ok bytes) is n held = absurd (cc)
measures_spare area a (named here ok) is n held = refl
measures_spare area a (flushed here ok) is n held = absurd (cc)

pub reads_work : (area : Area) → Works (reads area)
reads_work area (measured here ok count) is = refl
reads_work area began is = absurd (cc)
reads_work area (means here at len) is = refl
reads_work area (read here at ok bytes) is = refl
reads_work area (written here at ok bytes) is = refl
reads_work area (named here ok) is = refl
reads_work area (flushed here ok) is = refl

pub reads_spare : (area a : Area) → Spares (reads area) a
reads_spare area a (measured here ok count) is n held = refl
reads_spare area a began is n held = refl
reads_spare area a (means here at len) is n held = absurd (cc)
reads_spare area a (read here at ok bytes) is n held = refl
reads_spare area a (written here at ok bytes) is n held = absurd (cc)
reads_spare area a (named here ok) is n held = refl
reads_spare area a (flushed here ok) is n held = absurd (cc)

-- One call.

-- what is noted of a read
abbrev pub ReadNoted : Result ℕ CallError → Area → ℕ → List ℕ → List Call → List Call → Type 0
ReadNoted result area at room old new = MatchResult result (λ n. new ≡ read area at true (take n room) ∷ old)
    (λ _. new ≡ read area at false [] ∷ old)

pub read_adds : (result : Result ℕ CallError) (area : Area) (at : ℕ) (room : List ℕ) (old new : List Call)
    → ReadNoted result area at room old new → AddsCalls (reads area) old new
read_adds (Ok n) area at room old new noted = adds_one (reads area) old new _ (area_here area) noted
read_adds (Err e) area at room old new noted = adds_one (reads area) old new _ (area_here area) noted

pub read_refused : (result : Result ℕ CallError) (area : Area) (at : ℕ) (room : List ℕ) (old new : List Call)
    → ReadNoted result area at room old new → OnErr result (ends_refused new ≡ true)
read_refused (Ok n) area at room old new noted = tt
read_refused (Err e) area at room old new noted = rw noted refl

ends_if : (count len at : ℕ) → (nat_lt 0 count || nat_le len at) ≡ true → count ≡ 0 → len ≤ at
ends_if count len at is none = elim (or_cases (nat_lt 0 count) (nat_le len at) is) [
  | inl some ↦ omega (arith, ltb-true 0 count some)
  | inr ended ↦ leb-true len at ended
]

gives_of : (held : List ℕ) (at count : ℕ) (room : List ℕ) → count ≤ length room → gives held at (take count room) ≡ true
    → GivesBytes held at count room
gives_of held at count room few is =
    let len : length (take count room) ≡ count = omega (arith, length-take count room) in
    let same = (bytes_eq-Decides (take (length (take count room)) (drop at held)) (take count room)).0
    (and_first _ _ is) in
    let front : take count (drop at held) ≡ take count room = ap (λ (n : ℕ). take n (drop at held)) (sym len) ∙ same in
    record {
      within = omega (arith, ap length front, len, length-take count (drop at held), length-drop at held);
      front = sym front;
      ends = λ none. ends_if (length (take count room)) (length held) at (and_second _ _ is) (len ∙ none);
    }

pub read_gives : (result : Result ℕ CallError) (first : First) (area : Area) (at len : ℕ) (room : List ℕ)
    (start old new : List Call) → AddsCalls (reads area) start old → length room ≡ len
    → IfOk result (λ n. (n ≤ len) × (at < 2 ^ 63))
    → ReadNoted result area at room old new → IfOk result
    (λ n. is_honest first new ≡ true → GivesBytes (held_by first area start).reads at n room)
read_gives (Ok n) first area at len room start old new adds long few noted = λ honest.
    let here = subst (λ (l : List Call). is_honest first l ≡ true) noted honest in
    let same = held_same first area (reads area) (reads_spare area area) start old adds in
    gives_of (held_by first area start).reads at n room (omega (arith, few.0))
    (subst (λ (h : Held). gives h.reads at (take n room) ≡ true) same
    (and_first (gives (held_by first area old).reads at (take n room)) _ here))
read_gives (Err e) first area at len room start old new adds long few noted = tt

-- Reads in a row.

module _ (bytes room new : List ℕ) (at count got from : ℕ) (next : from ≡ at + count) (bound : count ≤ length room)
    (rest : length new ≡ length room - count) (few : got ≤ length new) (within : count ≤ length bytes - at)
    (front : take count room ≡ take count (drop at bytes)) (given : GivesBytes bytes from got new) where
  pub read_within : count + got ≤ length bytes - at
  read_within = omega (arith, given.within)

  pub read_front : take (count + got) (put_mid count (length room - count) room new)
      ≡ take (count + got) (drop at bytes)
  read_front =
      let whole = put_mid count (length room - count) room new in
      let before : take count whole ≡ take count room = take-put_mid_below count (length room - count) room new count
      (omega arith) bound in
      let behind : drop count whole ≡ new ++ post_of count (length room - count) room =
      drop_at (take count room) (new ++ post_of count (length room - count) room) count
      (length-take-le count room bound) in
      let there : drop count (drop at bytes) ≡ drop from bytes =
      drop-drop count at bytes ∙ ap (λ (n : ℕ). drop n bytes) (sym next) in
      take-add count got whole ∙ ap (λ (l : List ℕ). l ++ take got (drop count whole)) (before ∙ front)
      ∙ ap (λ (l : List ℕ). take count (drop at bytes) ++ l)
      (ap (take got) behind ∙ take-append-le got new (post_of count (length room - count) room) few ∙ given.front ∙
      ap (take got) (sym there))
      ∙ sym (take-add count got (drop at bytes))

-- the room is full, or the file ends
pub filled : (bytes before room : List ℕ) (at count : ℕ) → length before ≡ length room → count ≤ length room
    → count ≤ length bytes - at → take count room ≡ take count (drop at bytes)
    → (length room ≤ count) ⊎ (length bytes ≤ at + count)
    → Filled bytes at count before room
filled bytes before room at count long bound within front done = record {
  count_is = elim done [ inl full ↦ omega arith | inr ended ↦ omega arith ];
  front = front;
}

-- what was given after calls that changed nothing
pub gives_same : (first : First) (area : Area) (start old : List Call) (at count : ℕ) (room : List ℕ)
    → AddsCalls (reads area) start old → GivesBytes (held_by first area old).reads at count room
    → GivesBytes (held_by first area start).reads at count room
gives_same first area start old at count room adds given =
    subst (λ (h : Held). GivesBytes h.reads at count room)
    (held_same first area (reads area) (reads_spare area area) start old adds) given
