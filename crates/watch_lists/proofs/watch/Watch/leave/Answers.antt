use Rattle.std.proofs.Common.{refl, sym, subst, ◌∙◌}
use Rattle.watch_lists.proofs.Apart.{TellsApart}
use Rattle.watch_lists.proofs.Timing.{none_listed, timed_leave, timed_less}
use Rattle.watch_lists.specs.Watching.{Watching, IsTimed}
use Rattle.watch_lists.proofs.watch.Watch.leave.Goals as goal

pub returns-then-len-eq0-clause-timed : goal.returns-then-len-eq0-clause-timed
returns-then-len-eq0-clause-timed g c f h first last timed =
    let t : TellsApart g.C.PartialEq.eq = record { exact = g.met.C.Tag.exact; itself = g.met.C.Eq.laws.refl } in
    timed_leave t g.K.PartialEq.eq _ _ c.args.cause c.args.key c.leave.ensures.items c.forget.ensures.items
    c.forget-then-len-eq0.ensures.items
    (none_listed t g.K.PartialEq.eq c.leave.new.self c.args.cause c.len.ensures.listed (sym c.len.ensures.len ∙ c.if-len-eq0.true)) f h
    (subst (λ (w : Watching _ _). IsTimed g.C.PartialEq.eq g.K.PartialEq.eq f h w) (sym c.self.view_is) timed)

pub returns-else-len-eq0-clause-timed : goal.returns-else-len-eq0-clause-timed
returns-else-len-eq0-clause-timed g c f h first last timed =
    let t : TellsApart g.C.PartialEq.eq = record { exact = g.met.C.Tag.exact; itself = g.met.C.Eq.laws.refl } in
    timed_less t g.K.PartialEq.eq _ _ c.args.cause c.args.key c.leave.ensures.items refl refl f h
    (subst (λ (w : Watching _ _). IsTimed g.C.PartialEq.eq g.K.PartialEq.eq f h w) (sym c.self.view_is) timed)
