use Rattle.std.proofs.Common.{◌≡◌, ◌+◌, ◌++◌, ◌∷◌, [], take, get_or, sym, ap, subst, ◌∙◌, arith}
use Rattle.std.specs.List.{AllByRecursion}
use Rattle.std.specs.Option.{unwrap_or}
use Rattle.std.proofs.ByRecursion.{All-push}
use Rattle.std.proofs.lemmas.Option.{slice_get_within}
use Rattle.bbs_board.proofs.Drafting.{numbered_there, numbered_length, bytes_more}
use Rattle.bbs_board.proofs.draft.put_numbered.Goals as goal

pub at-requires : goal.at-requires
at-requires g c =
    let there = numbered_there c.args.shelf.now.numbered c.args.numbers.now c.args.shelf.now.rows
    c.loop-number.number-index c.requires.numbered c.loop-number-test.true in
    slice_get_within c.args.shelf.now.numbered (get_or c.args.numbers.now c.loop-number.number-index 0) there.0 there.1

pub loop-number-preserved : goal.loop-number-preserved
loop-number-preserved g c =
    let rows = c.args.shelf.now.rows in
    let i = c.loop-number.number-index in
    let there = numbered_there c.args.shelf.now.numbered c.args.numbers.now rows i c.requires.numbered
    c.loop-number-test.true in
    let same : there.0 ≡ c.at.result.now = ap (λ s. unwrap_or s there.0) (sym there.1 ∙ c.at.ensures) in
    let one : take (i + 1) rows ≡ take i rows ++ c.at.result.now ∷ [] =
    there.2 ∙ ap (λ x. take i rows ++ x ∷ []) same in
    record {
      bytes = bytes_more g.X.Fields.format.spelling rows c.args.out.now.items c.loop-number.out.items
          c.put_row.new.out.items i c.at.result.now c.loop-number.invariant.bytes c.put_row.ensures.bytes one;
      fits = subst (AllByRecursion g.X.Fields.format.Fits) (sym one)
          (All-push g.X.Fields.format.Fits (take i rows) c.at.result.now c.loop-number.invariant.fits
          c.put_row.ensures.fits);
      few = omega (arith, c.put_row.ensures.few, c.loop-number.invariant.few);
      kept = omega (arith, c.put_row.ensures.kept, c.loop-number.invariant.kept);
    }

pub returns-clause-few : goal.returns-clause-few
returns-clause-few g c =
    let same = numbered_length c.args.shelf.now.numbered c.args.numbers.now c.args.shelf.now.rows c.requires.numbered in
    omega (arith, same, c.loop-number.invariant.few, c.loop-number.auto.number-index-end, c.loop-number-test.false)
