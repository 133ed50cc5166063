-- The pair stands whatever the primary's call came to.
use Rattle.std.proofs.Common.{◌≡◌, ℕ, Option, None, ap, sym, subst, ◌∙◌}
use Rattle.bbs_model.specs.declared.command.Command.{Command}
use Rattle.standby_board.specs.Pairs.{PairView, StandsPaired}
use Rattle.standby_board.proofs.Turning.{stands_called}
use Rattle.standby_board.proofs.pair.Pair.call_primary.Goals as goal

pub invariant_of-self : goal.invariant_of-self
invariant_of-self g c =
    let e = c.call-end in
    let b = c.self.inside in
    let level : b.missing ≡ None =
    ap (λ (v : PairView g.row.D.Denot g.row.E.Denot). v.missing) c.self.view_is ∙ c.requires.level in
    subst (λ (m : Option (ℕ × Command)). StandsPaired g.D.Disk.told g.E.Disk.told (record {
      primary = e.new.self;
      standby = b.standby;
      primary_start = b.primary_start.value;
      standby_start = b.standby_start.value;
      fence = c.note.new.fence;
      missing = m;
    })) (sym c.lacked_after-self-inside.ensures)
    (stands_called g.D.Disk.told g.E.Disk.told _ c.self.invariant e.new.self c.note.new.fence c.args.by c.args.command
    e.result _ _ level e.ensures.ends e.ensures.grows (λ q told. g.met.D.Disk.timed e.new.self.disk q told)
    e.ensures.does c.note.ensures.numbers)
