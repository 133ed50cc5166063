-- Why what a file reads is always one of the things that a stop may leave of it.
use Rattle.std.specs.Prelude.{◌≡◌, ℕ, ◌+◌, ◌-◌, ◌<◌, ◌≤◌, Bool, true, false, ◌&&◌, nat_le, nat_lt, if◌then◌else◌, List, [], ◌∷◌, length, take, drop, refl}
use Rattle.std.specs.List.{list_all}
use Rattle.std.proofs.Common.{sym, ap, ◌∙◌, inl, inr, arith}
use Rattle.std.proofs.lemmas.Bool.{cases_Bool}
use Rattle.std.proofs.lemmas.List.{take-take, drop-drop}
use Rattle.std.proofs.lemmas.List.Elements.{All-cons, All-nil}
use Rattle.std.proofs.lemmas.Bool.Decides.{nat_tests}
use Rattle.disk_trait.specs.Held.{Held, Range, Torn, Leaves, MayLeave, AreBytes}
use Rattle.disk_trait.specs.Steps.{pend, settle, overwritten, range_of}
use Rattle.disk_trait.proofs.Public.{torn_overwritten, bytes_overwritten}
use Rattle.disk_trait.specs.declared.area.Area.{Area}
use Rattle.file_calls.specs.Call.{Call, began, means, measured, read, written, named, flushed}
use Rattle.file_calls.specs.Files.{First, same_area, is_announced, is_ready, put, has_its_name, held_after_call, held_by}

and_first : (a b : Bool) → (a && b) ≡ true → a ≡ true
and_first true b h = refl
and_first false b h = absurd (cc)

and_second : (a b : Bool) → (a && b) ≡ true → b ≡ true
and_second true b h = h
and_second false b h = absurd (cc)

-- a range that lies within another is torn with it
pub torn_within : (outer inner : Range) (a b c : List ℕ) → outer.from ≤ inner.from
    → inner.from + inner.len ≤ outer.from + outer.len → Torn outer a b → Torn inner b c → Torn outer a c
torn_within outer inner a b c low high first second = record {
  before = front ∙ first.before;
  after = back ∙ first.after;
  no_shorter = omega (arith, first.no_shorter, second.no_shorter);
  no_longer = omega (arith, first.no_longer, second.no_longer);
}
  where
    front : take outer.from c ≡ take outer.from b
    front = sym (take-take outer.from inner.from c low) ∙ ap (take outer.from) second.before ∙ take-take outer.from inner.from b low

    end : inner.from + inner.len + (outer.from + outer.len - (inner.from + inner.len)) ≡ outer.from + outer.len
    end = omega arith

    back : drop (outer.from + outer.len) c ≡ drop (outer.from + outer.len) b
    back = ap (λ (n : ℕ). drop n c) (sym end)
        ∙ sym (drop-drop (outer.from + outer.len - (inner.from + inner.len)) (inner.from + inner.len) c)
        ∙ ap (drop (outer.from + outer.len - (inner.from + inner.len))) second.after
        ∙ drop-drop (outer.from + outer.len - (inner.from + inner.len)) (inner.from + inner.len) b ∙ ap (λ (n : ℕ). drop n b) end

pub torn_same : (range : Range) (bytes : List ℕ) → Torn range bytes bytes
torn_same range bytes = record { before = refl; after = refl; no_shorter = omega arith; no_longer = omega arith }

below : (b : ℕ) → nat_lt b 256 ≡ true → b < 256
below b is = grind (arith, nat_tests, is)

pub le_if : (a b : ℕ) → nat_le a b ≡ true → a ≤ b
le_if a b is = grind (arith, nat_tests, is)

all_bytes : (bytes : List ℕ) → list_all (λ b. nat_lt b 256) bytes ≡ true → AreBytes bytes
all_bytes [] is = All-nil (λ b. b < 256)
all_bytes (b ∷ bytes) is = All-cons (λ b. b < 256) b bytes (below b (and_first (nat_lt b 256) _ is))
    (all_bytes bytes (and_second (nat_lt b 256) _ is))

pend_possible : (held : Held) (range : Range) → Leaves held held.reads → Leaves (pend held range held.reads) held.reads
pend_possible held range possible =
    record { torn = (held.reads, possible.torn, possible.bytes, torn_same range held.reads); bytes = possible.bytes }

put_torn : (synced : List ℕ) (ranges : List Range) (reads : List ℕ) (at : ℕ) (bytes : List ℕ)
    → is_announced ranges at (length bytes) ≡ true → at ≤ length reads → MayLeave synced ranges reads
    → MayLeave synced ranges (overwritten at bytes reads)
put_torn synced [] reads at bytes is within may = absurd (cc)
put_torn synced (range ∷ ranges) reads at bytes is within may = (
  may.0,
  may.1,
  may.2,
  torn_within range (range_of at bytes) may.0 reads (overwritten at bytes reads)
      (le_if range.from at (and_first (nat_le range.from at) _ is))
      (le_if _ _ (and_second (nat_le range.from at) _ is)) may.3 (torn_overwritten at bytes reads within),
)

put_possible : (held : Held) (at : ℕ) (bytes : List ℕ) → Leaves held held.reads → Leaves (put held at bytes) (put held at bytes).reads
put_possible held at bytes possible = elim (cases_Bool (is_ready held at bytes)) [
  | inl ready ↦
      let within : at ≤ length held.reads = le_if at (length held.reads)
      (and_first (nat_le at (length held.reads)) _ (and_first _ _ ready)) in
      let announced = and_second (nat_le at (length held.reads)) _ (and_first _ _ ready) in
      let good : AreBytes bytes = all_bytes bytes
      (and_second (nat_le at (length held.reads) && is_announced held.pending at (length bytes)) _ ready) in
      rw ready (record {
        torn = put_torn held.synced held.pending held.reads at bytes announced within possible.torn;
        bytes = bytes_overwritten at bytes held.reads good possible.bytes;
      })
  | inr not_ready ↦ rw not_ready possible
]

pub possible_after : (area : Area) (call : Call) (has_name : Bool) (held : Held) → Leaves held held.reads
    → Leaves (held_after_call area call has_name held) (held_after_call area call has_name held).reads
possible_after area began n held possible = possible
possible_after area (measured here ok count) n held possible = possible
possible_after area (read here at ok bytes) n held possible = possible
possible_after area (named here ok) n held possible = possible
possible_after area (means here at len) n held possible =
    elim (same_area area here) as (λ (t : Bool).
    let h = if t then pend held (record { from = at; len = len }) held.reads else held in Leaves h h.reads) [
      | true ↦ pend_possible held (record { from = at; len = len }) possible
      | false ↦ possible
    ]
possible_after area (written here at ok bytes) n held possible =
    elim (same_area area here && ok) as (λ (t : Bool). let h = if t then put held at bytes else held in Leaves h h.reads) [
      | true ↦ put_possible held at bytes possible
      | false ↦ possible
    ]
possible_after area (flushed here ok) n held possible =
    elim (same_area area here && ok && n) as (λ (t : Bool). let h = if t then settle held else held in Leaves h h.reads) [
      | true ↦ record { torn = refl; bytes = possible.bytes }
      | false ↦ possible
    ]

-- what the file reads after these calls is one of the things that a stop may leave
pub possible_by : (first : First) (area : Area) (history : List Call)
    → Leaves (held_by first area history) (held_by first area history).reads
possible_by first area [] = first.possible area
possible_by first area (call ∷ earlier) =
    possible_after area call (has_its_name area earlier) (held_by first area earlier) (possible_by first area earlier)
