use Rattle.std.proofs.Common.{◌≡◌, ◌+◌, ◌++◌, ℕ, List, length, take, get_or, sym, ap, subst, ◌∙◌, arith}
use Rattle.std.specs.List.{flat_map}
use Rattle.std.proofs.lemmas.List.Folds.{length-flat_map-take}
use Rattle.wire_fields.specs.Field.{PutsText}
use Rattle.wire_fields.proofs.Public.{Puts-then}
use Rattle.head_codec.proofs.PutTexts.{Puts-nothing, flat_map-next}
use Rattle.head_codec.proofs.putting.put_rows.Goals as goal

pub loop-row-init : goal.loop-row-init
loop-row-init g c = Puts-nothing c.args.out.now c.args.at

pub put_at-place-requires : goal.put_at-place-requires
put_at-place-requires g c =
    let f = g.X.Fields.format.spelling in
    let i = c.loop-row.row-index in
    let row = c.row-item.result in
    let same : length (f row) ≡ length (f (get_or c.args.rows.now i row)) = ap (λ x. length (f x)) c.row-item.is in
    omega (
      arith,
      same,
      length-flat_map-take f c.args.rows.now i row c.loop-row-test.true,
      c.requires,
      c.loop-row.invariant.place,
      c.loop-row.auto.out,
    )

pub loop-row-preserved : goal.loop-row-preserved
loop-row-preserved g c =
    let f = g.X.Fields.format.spelling in
    let rows = c.args.rows.now in
    let i = c.loop-row.row-index in
    let row = c.row-item.result in
    let text : flat_map f (take i rows) ++ f row ≡ flat_map f (take (i + 1) rows) =
    ap (λ x. flat_map f (take i rows) ++ f x) c.row-item.is ∙ sym (flat_map-next f rows i row c.loop-row-test.true) in
    subst (λ (t : List ℕ). PutsText c.args.out.now c.args.at t c.put_at-place.new.out c.put_at-place.result) text
    (Puts-then (omega (arith, c.requires)) c.loop-row.invariant c.put_at-place.ensures)
