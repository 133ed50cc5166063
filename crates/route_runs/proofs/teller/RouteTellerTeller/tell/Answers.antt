use Rattle.std.proofs.Common.{◌∙◌}
use Rattle.route_runs.proofs.Answered.{if_ok, on_ok}
use Rattle.route_runs.proofs.Follows.{stands_after, told_by}
use Rattle.route_runs.proofs.teller.RouteTellerTeller.tell.Goals as goal

pub returns-clause-text : goal.returns-clause-text
returns-clause-text g c =
    let base = c.args.board.now.base in
    let log = c.args.board.now.log in
    let from = c.args.from in
    let old = c.args.self.now.emitter in
    let new = c.take.new.self in
    let stands = stands_after base log from c.emitters_follow_boards.ensures c.holds.ensures.lawful.1 c.requires.from
    c.deref.result.now (c.deref.ensures.value ∙ c.in_ok-events.ensures) old new c.requires.told
    c.in_ok-change.ensures.follows in
    if_ok c.change_text.result _ _
    (λ text is. told_by base log from old new c.requires.told stands c.in_ok-change.change.register
    c.in_ok-change.change.unregister
    c.in_ok-change.ensures.register c.in_ok-change.ensures.unregister text.items is)
    c.change_text.ensures

pub returns-clause-told : goal.returns-clause-told
returns-clause-told g c =
    on_ok c.change_text.result _ (stands_after c.args.board.now.base c.args.board.now.log c.args.from
    c.emitters_follow_boards.ensures
    c.holds.ensures.lawful.1 c.requires.from c.deref.result.now
    (c.deref.ensures.value ∙ c.in_ok-events.ensures) c.args.self.now.emitter c.take.new.self
    c.requires.told c.in_ok-change.ensures.follows)
