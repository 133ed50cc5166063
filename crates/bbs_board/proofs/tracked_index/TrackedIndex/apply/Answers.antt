use Rattle.std.proofs.Common.{◌≡◌, ap, sym, subst}
use Rattle.bbs_index.specs.Index.{Indexed}
use Rattle.bbs_model.specs.Step.{IsLegal}
use Rattle.bbs_model.specs.Valid.{IsValid}
use Rattle.bbs_model.specs.declared.rows.Rows.{Rows}
use Rattle.bbs_board.proofs.Tracking.{follows_command}
use Rattle.bbs_board.proofs.tracked_index.TrackedIndex.apply.Goals as goal

pub follow-requires-clause-follows : goal.follow-requires-clause-follows
follow-requires-clause-follows c =
    let same : c.self.inside.index.rows ≡ c.args.self.now.rows = ap (λ (i : Indexed). i.rows) c.self.view_is in
    let valid : IsValid c.self.inside.index.rows = subst IsValid (sym same) c.requires.valid in
    let legal : IsLegal c.self.inside.index.rows c.args.command.now =
    subst (λ (r : Rows). IsLegal r c.args.command.now) (sym same) c.requires.legal in
    follows_command c.self.inside.index.rows c.apply-events.new.store.rows c.args.command.now
    c.self.inside.differences c.apply-events.result _ valid c.apply-events.ensures.valid c.self.invariant
    (c.events_tell_all.ensures _ _ legal) c.apply-events.ensures.events c.apply-events.ensures.state
    c.as_ref.ensures.value
