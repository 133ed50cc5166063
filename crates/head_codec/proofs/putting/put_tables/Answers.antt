use Rattle.std.proofs.Common.{◌≡◌, ℕ, ◌+◌, List, length, ap, subst, arith}
use Rattle.std.specs.List.{flat_map}
use Rattle.cell_records.specs.declared.cell_row.CellRow.{CellRow}
use Rattle.lrp_records.specs.declared.actual.Actual.{Actual}
use Rattle.lrp_records.specs.declared.desired.Desired.{Desired}
use Rattle.task_records.specs.declared.task.Task.{Task}
use Rattle.bbs_model.specs.declared.domain_row.DomainRow.{DomainRow}
use Rattle.bbs_model.specs.declared.rows.Rows.{Rows}
use Rattle.bbs_codec.specs.Formats.{desired}
use Rattle.bbs_codec.specs.RowFormats.{actual, task_row, cell_row, domain_row}
use Rattle.wire_fields.specs.Field.{PutsText}
use Rattle.head_codec.specs.Head.{Counts, counts, head_counts, head_spelled}
use Rattle.head_codec.proofs.PutTexts.{Puts-more, joined, length-joined}
use Rattle.head_codec.proofs.putting.put_tables.Goals as goal

-- the length of a head is that of its parts
parts : (rows : Rows) → length (head_spelled 2 rows) ≡ length (counts.spelling (head_counts rows)) +
    (length (flat_map desired.spelling rows.desired)
    + (length (flat_map actual.spelling rows.actual) + (length (flat_map task_row.spelling rows.tasks)
    + (length (flat_map cell_row.spelling rows.cells) + length (flat_map domain_row.spelling rows.domains)))))
unfolding head_spelled
parts rows =
    length-joined (counts.spelling (head_counts rows)) (flat_map desired.spelling rows.desired)
    (flat_map actual.spelling rows.actual)
    (flat_map task_row.spelling rows.tasks) (flat_map cell_row.spelling rows.cells)
    (flat_map domain_row.spelling rows.domains)

pub put_at-place-requires : goal.put_at-place-requires
put_at-place-requires c = omega (
  arith,
  parts c.args.rows.now,
  c.requires.room,
  ap (λ (n : Counts). length (counts.spelling n)) c.counts.ensures,
)

pub put_rows-place-requires : goal.put_rows-place-requires
put_rows-place-requires c =
    omega (
      arith,
      parts c.args.rows.now,
      c.requires.room,
      ap (λ (n : Counts). length (counts.spelling n)) c.counts.ensures,
      c.put_at-place.ensures.place,
      c.put_at-place.auto.out,
      ap (λ (l : List Desired). length (flat_map desired.spelling l)) c.items.ensures,
    )

pub put_rows-place-requires-2 : goal.put_rows-place-requires-2
put_rows-place-requires-2 c =
    omega (
      arith,
      parts c.args.rows.now,
      c.requires.room,
      ap (λ (n : Counts). length (counts.spelling n)) c.counts.ensures,
      c.put_at-place.ensures.place,
      c.put_at-place.auto.out,
      ap (λ (l : List Desired). length (flat_map desired.spelling l)) c.items.ensures,
      c.put_rows-place.ensures.place,
      c.put_rows-place.auto.out,
      ap (λ (l : List Actual). length (flat_map actual.spelling l)) c.items-2.ensures,
    )

pub put_rows-place-requires-3 : goal.put_rows-place-requires-3
put_rows-place-requires-3 c =
    omega (
      arith,
      parts c.args.rows.now,
      c.requires.room,
      ap (λ (n : Counts). length (counts.spelling n)) c.counts.ensures,
      c.put_at-place.ensures.place,
      c.put_at-place.auto.out,
      ap (λ (l : List Desired). length (flat_map desired.spelling l)) c.items.ensures,
      c.put_rows-place.ensures.place,
      c.put_rows-place.auto.out,
      ap (λ (l : List Actual). length (flat_map actual.spelling l)) c.items-2.ensures,
      c.put_rows-place-2.ensures.place,
      c.put_rows-place-2.auto.out,
      ap (λ (l : List Task). length (flat_map task_row.spelling l)) c.items-3.ensures,
    )

pub put_rows-place-requires-4 : goal.put_rows-place-requires-4
put_rows-place-requires-4 c =
    omega (
      arith,
      parts c.args.rows.now,
      c.requires.room,
      ap (λ (n : Counts). length (counts.spelling n)) c.counts.ensures,
      c.put_at-place.ensures.place,
      c.put_at-place.auto.out,
      ap (λ (l : List Desired). length (flat_map desired.spelling l)) c.items.ensures,
      c.put_rows-place.ensures.place,
      c.put_rows-place.auto.out,
      ap (λ (l : List Actual). length (flat_map actual.spelling l)) c.items-2.ensures,
      c.put_rows-place-2.ensures.place,
      c.put_rows-place-2.auto.out,
      ap (λ (l : List Task). length (flat_map task_row.spelling l)) c.items-3.ensures,
      c.put_rows-place-3.ensures.place,
      c.put_rows-place-3.auto.out,
      ap (λ (l : List CellRow). length (flat_map cell_row.spelling l)) c.items-4.ensures,
    )

pub put_rows-requires : goal.put_rows-requires
put_rows-requires c =
    omega (
      arith,
      parts c.args.rows.now,
      c.requires.room,
      ap (λ (n : Counts). length (counts.spelling n)) c.counts.ensures,
      c.put_at-place.ensures.place,
      c.put_at-place.auto.out,
      ap (λ (l : List Desired). length (flat_map desired.spelling l)) c.items.ensures,
      c.put_rows-place.ensures.place,
      c.put_rows-place.auto.out,
      ap (λ (l : List Actual). length (flat_map actual.spelling l)) c.items-2.ensures,
      c.put_rows-place-2.ensures.place,
      c.put_rows-place-2.auto.out,
      ap (λ (l : List Task). length (flat_map task_row.spelling l)) c.items-3.ensures,
      c.put_rows-place-3.ensures.place,
      c.put_rows-place-3.auto.out,
      ap (λ (l : List CellRow). length (flat_map cell_row.spelling l)) c.items-4.ensures,
      c.put_rows-place-4.ensures.place,
      c.put_rows-place-4.auto.out,
      ap (λ (l : List DomainRow). length (flat_map domain_row.spelling l)) c.items-5.ensures,
    )

pub returns : goal.returns
unfolding head_spelled
returns c =
    let rows = c.args.rows.now in
    let front = subst (λ (n : Counts). PutsText c.args.out.now 0
    (counts.spelling n) c.put_at-place.new.out c.put_at-place.result) c.counts.ensures c.put_at-place.ensures in
    let d = Puts-more front c.put_rows-place.ensures (ap (λ (l : List Desired). flat_map desired.spelling l)
    c.items.ensures) in
    let a = Puts-more d c.put_rows-place-2.ensures (ap (λ (l : List Actual). flat_map actual.spelling l)
    c.items-2.ensures) in
    let t = Puts-more a c.put_rows-place-3.ensures (ap (λ (l : List Task). flat_map task_row.spelling l)
    c.items-3.ensures) in
    let r = Puts-more t c.put_rows-place-4.ensures (ap (λ (l : List CellRow). flat_map cell_row.spelling l)
    c.items-4.ensures) in
    let m = Puts-more r c.put_rows.ensures (ap (λ (l : List DomainRow). flat_map domain_row.spelling l)
    c.items-5.ensures) in
    subst (λ (text : List ℕ). PutsText c.args.out.now 0 text c.put_rows.new.out c.put_rows.result)
    (joined (counts.spelling (head_counts rows)) (flat_map desired.spelling rows.desired)
    (flat_map actual.spelling rows.actual)
    (flat_map task_row.spelling rows.tasks) (flat_map cell_row.spelling rows.cells)
    (flat_map domain_row.spelling rows.domains)) m
