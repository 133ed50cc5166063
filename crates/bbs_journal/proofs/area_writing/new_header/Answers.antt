use Rattle.std.proofs.Common.{◌≡◌, ◌∙◌, ℕ, ◌+◌, List, [], ◌∷◌, ◌++◌, length, drop, refl, ap, arith, length-append, append_assoc}
use Rattle.std.specs.Int.{w32, w64}
use Rattle.std.proofs.lemmas.List.{append-nil}
use Rattle.wire_fields.specs.Field.{field_number, written, PutsText}
use Rattle.wire_fields.proofs.Public.{length-field_number, Puts-then}
use Rattle.bbs_journal.specs.Header.{mark, newest}
use Rattle.bbs_journal.proofs.area_writing.new_header.Goals as goal

abbrev zeros : List ℕ
zeros = 0 ∷ 0 ∷ 0 ∷ 0 ∷ 0 ∷ 0 ∷ 0 ∷ 0 ∷ 0 ∷ 0 ∷ 0 ∷ 0 ∷ 0 ∷ 0 ∷ 0 ∷ 0 ∷ 0 ∷ 0 ∷ 0 ∷ 0 ∷ 0 ∷ 0 ∷ []

-- a text of 22 bytes is all that is there
puts_all : (text new : List ℕ) (after : ℕ) → length text ≡ 22 → PutsText zeros 0 text new after → new ≡ text
unfolding written
puts_all text new after size puts =
    let all : 0 + length text ≡ 22 = omega (arith, size) in
    puts.bytes ∙ ap (λ (n : ℕ). text ++ drop n zeros) all ∙ append-nil text

-- the mark, byte by byte
abbrev marked : List ℕ
marked = 68 ∷ 73 ∷ 69 ∷ 71 ∷ 79 ∷ 66 ∷ 66 ∷ 83 ∷ 0 ∷ 2 ∷ []

marked_is : marked ≡ mark newest
unfolding field_number
marked_is = refl

header_text : (generation size : ℕ) → (marked ++ field_number w64 generation) ++ field_number w32 size ≡ mark newest
    ++ (field_number w64 generation ++ field_number w32 size)
header_text generation size =
    append_assoc marked (field_number w64 generation) (field_number w32 size) ∙ ap
    (λ (l : List ℕ). l ++ (field_number w64 generation ++ field_number w32 size)) marked_is

pub put_u64-numbered-requires : goal.put_u64-numbered-requires
put_u64-numbered-requires c = omega (
  arith,
  length-field_number w64 c.args.generation,
  c.put_bytes-marked.ensures.place,
  c.put_bytes-marked.auto.out,
)

pub put_u32-end-requires : goal.put_u32-end-requires
put_u32-end-requires c =
    omega (
      arith,
      length-field_number w64 c.args.generation,
      length-field_number w32 c.args.size,
      c.put_bytes-marked.ensures.place,
      c.put_bytes-marked.auto.out,
      c.put_u64-numbered.ensures.place,
      c.put_u64-numbered.auto.out,
    )

pub returns : goal.returns
returns c =
    puts_all _ _ _
    (omega (
      arith,
      length-append (marked ++ field_number w64 c.args.generation) (field_number w32 c.args.size),
      length-append marked (field_number w64 c.args.generation),
      length-field_number w64 c.args.generation,
      length-field_number w32 c.args.size,
    ))
    (Puts-then (omega arith) (Puts-then (omega arith) c.put_bytes-marked.ensures c.put_u64-numbered.ensures)
    c.put_u32-end.ensures)
    ∙ header_text c.args.generation c.args.size
