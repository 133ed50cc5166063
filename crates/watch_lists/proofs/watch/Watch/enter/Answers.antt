use Rattle.std.proofs.Common.{sym, subst}
use Rattle.watch_lists.proofs.Apart.{TellsApart}
use Rattle.watch_lists.proofs.Timing.{timed_enter}
use Rattle.watch_lists.specs.Watching.{Watching, IsTimed}
use Rattle.watch_lists.proofs.watch.Watch.enter.Goals as goal

pub returns-clause-timed : goal.returns-clause-timed
returns-clause-timed g c f h first last timed =
    let t : TellsApart g.C.PartialEq.eq = record { exact = g.met.C.Tag.exact; itself = g.met.C.Eq.laws.refl } in
    timed_enter t g.K.PartialEq.eq _ _ c.args.cause c.args.key c.args.times.start c.args.times.stop c.enter.ensures.items
    c.note.ensures.items c.note-2.ensures.items f h first last
    (subst (λ (w : Watching _ _). IsTimed g.C.PartialEq.eq g.K.PartialEq.eq f h w) (sym c.self.view_is) timed)
