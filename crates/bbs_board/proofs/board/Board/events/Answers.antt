use Rattle.std.proofs.Common.{◌∙◌, ap, length, arith, List, Option}
use Rattle.bbs_model.specs.Told.{told_in}
use Rattle.bbs_model.specs.declared.event.Events.{Events}
use Rattle.bbs_laws.proofs.Public.{length-told_in, heard_of_told}
use Rattle.bbs_board.specs.declared.board.Board.TheInside.{Inside}
use Rattle.bbs_board.specs.View.{View}
use Rattle.bbs_board.proofs.board.Board.events.Goals as goal

pub hear-requires : goal.hear-requires
hear-requires g c =
    let told = c.deref.ensures.value ∙ ap (λ (b : Inside g.row.D.Denot). b.history.told) c.self-inside.view_is ∙
    c.self.invariant.events_are in
    let seen = ap (λ (v : View g.row.D.Denot). length v.log) c.self.view_is in
    omega (
      arith,
      ap (λ (ts : List (Option Events)). length ts) told,
      length-told_in c.self.inside.base.value.rows c.self.inside.history.log,
      seen,
      c.requires,
    )

pub returns : goal.returns
returns g c =
    heard_of_told c.args.self.now.base c.args.self.now.log c.deref.result.now c.args.from c.args.max c.hear.result
    (c.deref.ensures.value ∙ ap (λ (b : Inside g.row.D.Denot). b.history.told) c.self-inside.view_is ∙
    c.self.invariant.events_are ∙ ap (λ (v : View g.row.D.Denot). told_in v.base v.log) c.self.view_is)
    c.hear.ensures.events c.hear.ensures.upto
