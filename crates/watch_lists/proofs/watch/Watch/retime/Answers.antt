use Rattle.std.proofs.Common.{refl, sym, subst}
use Rattle.watch_lists.proofs.Apart.{TellsApart}
use Rattle.watch_lists.proofs.Timing.{timed_retime}
use Rattle.watch_lists.specs.Watching.{Watching, IsTimed}
use Rattle.watch_lists.proofs.watch.Watch.retime.Goals as goal

pub returns-clause-timed : goal.returns-clause-timed
returns-clause-timed g c f h f2 h2 others others2 first last timed =
    let t : TellsApart g.C.PartialEq.eq = record { exact = g.met.C.Tag.exact; itself = g.met.C.Eq.laws.refl } in
    timed_retime t g.K.PartialEq.eq _ _ c.forget.new.calendar.items c.forget-2.new.calendar.items c.args.cause c.args.new.start
    c.args.new.stop (λ d k. refl) c.forget.ensures.items c.forget-2.ensures.items c.note.ensures.items
    c.note-2.ensures.items f h f2 h2 others others2 first last
    (subst (λ (w : Watching _ _). IsTimed g.C.PartialEq.eq g.K.PartialEq.eq f h w) (sym c.self.view_is) timed)
