use Rattle.std.proofs.Common.{◌≡◌, ◌∙◌, ℕ, ◌+◌, List, ◌++◌, length, take, drop, refl, ap, arith, take_at}
use Rattle.std.specs.Int.{w8, w16}
use Rattle.wire_fields.specs.Field.{field_number, written, PutsText}
use Rattle.wire_fields.proofs.Public.{length-field_number, Puts-then}
use Rattle.bbs_journal.specs.Areas.{body_of}
use Rattle.bbs_journal.proofs.body.put_body.Goals as goal

take_puts : (old text new : List ℕ) (after : ℕ) → PutsText old 0 text new after → take after new ≡ text
unfolding written
take_puts old text new after puts =
    ap (take after) puts.bytes ∙ take_at text (drop (0 + length text) old) after (omega (arith, puts.place))

body_text : (payload : List ℕ) → (field_number w16 (length payload) ++ payload) ++ field_number w8 0 ≡ body_of payload
unfolding field_number
body_text payload = refl

pub put_u16-at-requires : goal.put_u16-at-requires
put_u16-at-requires c = omega (arith, length-field_number w16 (length c.args.payload.now), c.requires.room)

pub put_bytes-end-requires : goal.put_bytes-end-requires
put_bytes-end-requires c =
    omega (
      arith,
      length-field_number w16 (length c.args.payload.now),
      c.requires.room,
      c.requires.fits.1,
      c.put_u16-at.ensures.place,
      c.put_u16-at.auto.out,
    )

pub put_u8-requires : goal.put_u8-requires
put_u8-requires c =
    omega (
      arith,
      length-field_number w16 (length c.args.payload.now),
      length-field_number w8 0,
      c.requires.room,
      c.requires.fits.1,
      c.put_u16-at.ensures.place,
      c.put_u16-at.auto.out,
      c.put_bytes-end.ensures.place,
      c.put_bytes-end.auto.out,
    )

pub returns-clause-len : goal.returns-clause-len
returns-clause-len c =
    omega (
      arith,
      length-field_number w16 (length c.args.payload.now),
      length-field_number w8 0,
      c.put_u16-at.ensures.place,
      c.put_bytes-end.ensures.place,
      c.put_u8.ensures.place,
    )

pub returns-clause-bytes : goal.returns-clause-bytes
returns-clause-bytes c =
    take_puts _ _ _ _ (Puts-then (omega arith) (Puts-then (omega arith) c.put_u16-at.ensures c.put_bytes-end.ensures)
    c.put_u8.ensures)
    ∙ body_text c.args.payload.now
