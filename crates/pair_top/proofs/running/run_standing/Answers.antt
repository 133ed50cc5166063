use Rattle.std.proofs.Common.{ℕ, ◌^◌, List, None, sym, ap, subst, ◌∙◌}
use Rattle.bbs_model.specs.declared.rows.Rows.{Rows}
use Rattle.pair_lines.specs.Answers.{summary_line}
use Rattle.pair_lines.specs.declared.answered.PairAnswered.{PairAnswered}
use Rattle.pair_top.specs.Runs.{Finishes, counts_of}
use Rattle.pair_top.specs.Servers.{pair_server}
use Rattle.pair_top.specs.TakeOvers.{HandsOver}
use Rattle.pair_top.proofs.Begun.{copy_behind, covers_behind, log_behind, primary_base, standby_base}
use Rattle.pair_top.proofs.Parts.{behind_at, few_before, k_first, k_within, parts, room_for}
use Rattle.pair_top.proofs.RunsOn.{at_done, from_none, goes_on}
use Rattle.pair_top.proofs.Ways.{Comes, stays}
use Rattle.pair_top.proofs.running.run_standing.Goals as goal

pub hand_over-requires-clause-later : goal.hand_over-requires-clause-later
hand_over-requires-clause-later g c =
    let s = c.split_at in
    k_first c.args.k c.count_of-all.result c.phases_before.result c.args.script.now.phases c.items-phases.result.now
    s.result.0.now s.result.1.now c.items-phases.ensures c.count_of-all.ensures c.phases_before.ensures.value
    s.ensures.front s.ensures.back s.ensures.front_len s.ensures.back_len
    (c.is_due.ensures.due c.if-is_due.true).1

pub hand_over-requires-clause-room : goal.hand_over-requires-clause-room
hand_over-requires-clause-room g c =
    let s = c.split_at in
    room_for c.args.k c.count_of-all.result c.phases_before.result c.args.script.now.phases c.items-phases.result.now
    s.result.0.now s.result.1.now c.items-phases.ensures c.count_of-all.ensures c.phases_before.ensures.value
    s.ensures.front s.ensures.back s.ensures.front_len s.ensures.back_len
    (c.is_due.ensures.due c.if-is_due.true).1 (2 ^ 64) c.count_of-all.type_inv

pub hand_over-requires-clause-log : goal.hand_over-requires-clause-log
hand_over-requires-clause-log g c =
    let s = c.split_at in
    let r = c.run_phases-ended in
    let u = c.args.server.pair in
    let v = r.new.server.pair in
    log_behind g.D.Disk.fault_count g.E.Disk.fault_count u v c.requires.fresh.0 c.args.script.now s.result.0.now
    r.result.1 r.new.account.answers _ _ _ _ r.result.0
    (from_none c.args.script.now s.result.0.now r.result.0 r.result.1
    (pair_server g.D.Disk.fault_count g.E.Disk.fault_count u) (pair_server g.D.Disk.fault_count g.E.Disk.fault_count v)
    c.args.account.answers r.new.account.answers _ _ _ _ c.requires.none r.ensures.ends)

pub hand_over-requires-clause-covers : goal.hand_over-requires-clause-covers
hand_over-requires-clause-covers g c =
    let s = c.split_at in
    let r = c.run_phases-ended in
    let u = c.args.server.pair in
    let v = r.new.server.pair in
    covers_behind g.D.Disk.fault_count g.E.Disk.fault_count u v c.requires.fresh.0 c.args.script.now s.result.0.now
    r.result.1 r.new.account.answers _ _ _ _ r.result.0
    (from_none c.args.script.now s.result.0.now r.result.0 r.result.1
    (pair_server g.D.Disk.fault_count g.E.Disk.fault_count u) (pair_server g.D.Disk.fault_count g.E.Disk.fault_count v)
    c.args.account.answers r.new.account.answers _ _ _ _ c.requires.none r.ensures.ends)

pub hand_over-requires-clause-copy : goal.hand_over-requires-clause-copy
hand_over-requires-clause-copy g c =
    let s = c.split_at in
    let r = c.run_phases-ended in
    let u = c.args.server.pair in
    let v = r.new.server.pair in
    copy_behind g.D.Disk.fault_count g.E.Disk.fault_count u v c.requires.fresh.0 c.args.script.now s.result.0.now
    r.result.1 r.new.account.answers _ _ _ _ c.requires.fresh.1 c.requires.fresh.2
    (at_done c.args.script.now s.result.0.now r.result.0 r.result.1
    (pair_server g.D.Disk.fault_count g.E.Disk.fault_count u) (pair_server g.D.Disk.fault_count g.E.Disk.fault_count v)
    r.new.account.answers _ _ _ _ (c.is_due.ensures.due c.if-is_due.true).0
    (from_none c.args.script.now s.result.0.now r.result.0 r.result.1
    (pair_server g.D.Disk.fault_count g.E.Disk.fault_count u) (pair_server g.D.Disk.fault_count g.E.Disk.fault_count v)
    c.args.account.answers r.new.account.answers _ _ _ _ c.requires.none r.ensures.ends))

pub hand_over-requires-clause-start : goal.hand_over-requires-clause-start
hand_over-requires-clause-start g c =
    let r = c.run_phases-ended in
    let u = c.args.server.pair in
    let v = r.new.server.pair in (
      c.requires.start ∙ ap (λ (b : Rows). b.next) (sym (primary_base g.D.Disk.told g.E.Disk.told u v c.requires.fresh.0
          c.requires.fresh.1 c.requires.begun.0 c.requires.begun.1 c.holds.ensures.stands r.ensures.keeps.pair
          c.holds-2.ensures.stands)),
      c.requires.start ∙ ap (λ (b : Rows). b.next) (sym (standby_base g.D.Disk.told g.E.Disk.told u v c.requires.fresh.0
          c.requires.fresh.1 c.requires.begun.0 c.requires.begun.1 c.holds.ensures.stands r.ensures.keeps.pair
          c.holds-2.ensures.stands)),
    )

pub closed-requires-clause-log : goal.closed-requires-clause-log
closed-requires-clause-log g c =
    let s = c.split_at in
    let r = c.run_phases-ended in
    let u = c.args.server.pair in
    let v = r.new.server.pair in
    log_behind g.D.Disk.fault_count g.E.Disk.fault_count u v c.requires.fresh.0 c.args.script.now s.result.0.now
    r.result.1 r.new.account.answers _ _ _ _ r.result.0
    (from_none c.args.script.now s.result.0.now r.result.0 r.result.1
    (pair_server g.D.Disk.fault_count g.E.Disk.fault_count u) (pair_server g.D.Disk.fault_count g.E.Disk.fault_count v)
    c.args.account.answers r.new.account.answers _ _ _ _ c.requires.none r.ensures.ends)

pub closed-requires-clause-covers : goal.closed-requires-clause-covers
closed-requires-clause-covers g c =
    let s = c.split_at in
    let r = c.run_phases-ended in
    let u = c.args.server.pair in
    let v = r.new.server.pair in
    covers_behind g.D.Disk.fault_count g.E.Disk.fault_count u v c.requires.fresh.0 c.args.script.now s.result.0.now
    r.result.1 r.new.account.answers _ _ _ _ r.result.0
    (from_none c.args.script.now s.result.0.now r.result.0 r.result.1
    (pair_server g.D.Disk.fault_count g.E.Disk.fault_count u) (pair_server g.D.Disk.fault_count g.E.Disk.fault_count v)
    c.args.account.answers r.new.account.answers _ _ _ _ c.requires.none r.ensures.ends)

pub closed-requires-clause-start : goal.closed-requires-clause-start
closed-requires-clause-start g c =
    let r = c.run_phases-ended in
    let u = c.args.server.pair in
    let v = r.new.server.pair in
    c.requires.start ∙ ap (λ (b : Rows). b.next) (sym (primary_base g.D.Disk.told g.E.Disk.told u v c.requires.fresh.0
    c.requires.fresh.1 c.requires.begun.0 c.requires.begun.1 c.holds.ensures.stands r.ensures.keeps.pair
    c.holds-2.ensures.stands))

pub returns-then-is_due : goal.returns-then-is_due
returns-then-is_due g c =
    let s = c.split_at in
    let r = c.run_phases-ended in
    let u = c.args.server.pair in
    let v = r.new.server.pair in
    let due = c.is_due.ensures.due c.if-is_due.true in
    let e = c.hand_over.ensures in
    let t = goes_on g.D.Disk.told g.D.Disk.fault_count g.E.Disk.told g.E.Disk.fault_count g.E.Disk.moment
    c.args.script.now c.args.k u c.requires.fresh.0 c.requires.fresh.1 c.requires.fresh.2 v r.ensures.keeps.pair
    c.requires.begun.0 c.requires.begun.1 c.holds.ensures.stands c.holds-2.ensures.stands s.result.0.now s.result.1.now
    (parts c.args.k c.count_of-all.result c.phases_before.result c.args.script.now.phases c.items-phases.result.now
    s.result.0.now s.result.1.now c.items-phases.ensures c.count_of-all.ensures c.phases_before.ensures.value
    s.ensures.front s.ensures.back s.ensures.front_len s.ensures.back_len)
    r.result.0 r.result.1 r.new.account.answers _ _ _ _
    (from_none c.args.script.now s.result.0.now r.result.0 r.result.1
    (pair_server g.D.Disk.fault_count g.E.Disk.fault_count u) (pair_server g.D.Disk.fault_count g.E.Disk.fault_count v)
    c.args.account.answers r.new.account.answers _ _ _ _ c.requires.none r.ensures.ends)
    (k_first c.args.k c.count_of-all.result c.phases_before.result c.args.script.now.phases c.items-phases.result.now
    s.result.0.now s.result.1.now c.items-phases.ensures c.count_of-all.ensures c.phases_before.ensures.value
    s.ensures.front s.ensures.back s.ensures.front_len s.ensures.back_len due.1)
    (k_within c.args.k c.count_of-all.result c.phases_before.result c.args.script.now.phases c.items-phases.result.now
    s.result.0.now s.result.1.now c.items-phases.ensures c.count_of-all.ensures c.phases_before.ensures.value
    s.ensures.front s.ensures.back s.ensures.front_len s.ensures.back_len due.1)
    (behind_at c.args.k c.count_of-all.result c.phases_before.result c.args.script.now.phases c.items-phases.result.now
    s.result.0.now s.result.1.now c.items-phases.ensures c.count_of-all.ensures c.phases_before.ensures.value
    s.ensures.front s.ensures.back s.ensures.front_len s.ensures.back_len due.1)
    due.1 due.0 c.hand_over.result.account.answers e.0 _ _ c.hand_over.result.primary c.hand_over.result.standby
    (subst (λ (n : ℕ). HandsOver g.D.Disk.told g.D.Disk.fault_count g.E.Disk.told g.E.Disk.fault_count g.E.Disk.moment
    c.args.script.now s.result.1.now c.args.k n v r.new.account.answers c.hand_over.result.account.answers e.0
    (g.K.Sink.held r.new.sink) (g.K.Sink.held c.hand_over.new.sink) (g.K.Sink.faults r.new.sink)
    (g.K.Sink.faults c.hand_over.new.sink) c.hand_over.result.primary c.hand_over.result.standby) c.requires.start e.2) in
    (e.0, t.0, e.1, t.1.0, t.1.1)

pub returns : goal.returns
returns g c =
    let s = c.split_at in
    let r = c.run_phases-ended in
    let u = c.args.server.pair in
    let v = r.new.server.pair in
    let e = c.closed.ensures.ending in
    let t = subst (λ (l : List PairAnswered). Comes g.D.Disk.told g.D.Disk.fault_count g.E.Disk.told
    g.E.Disk.fault_count g.E.Disk.moment c.args.script.now c.args.k u c.requires.fresh.0 c.requires.fresh.1
    c.requires.fresh.2 e.0 l None (g.K.Sink.held c.args.sink.now) (g.K.Sink.held c.closed.new.sink)
    (g.K.Sink.faults c.args.sink.now) (g.K.Sink.faults c.closed.new.sink) c.closed.result.primary c.closed.result.standby)
    (sym c.closed.ensures.account)
    (stays g.D.Disk.told g.D.Disk.fault_count g.E.Disk.told g.E.Disk.fault_count g.E.Disk.moment
    c.args.script.now c.args.k u c.requires.fresh.0 c.requires.fresh.1 c.requires.fresh.2 v r.ensures.keeps.pair
    s.result.0.now s.result.1.now
    (parts c.args.k c.count_of-all.result c.phases_before.result c.args.script.now.phases c.items-phases.result.now
    s.result.0.now s.result.1.now c.items-phases.ensures c.count_of-all.ensures c.phases_before.ensures.value
    s.ensures.front s.ensures.back s.ensures.front_len s.ensures.back_len)
    r.result.0 r.result.1 r.new.account.answers _ _ _ _
    (from_none c.args.script.now s.result.0.now r.result.0 r.result.1
    (pair_server g.D.Disk.fault_count g.E.Disk.fault_count u) (pair_server g.D.Disk.fault_count g.E.Disk.fault_count v)
    c.args.account.answers r.new.account.answers _ _ _ _ c.requires.none r.ensures.ends)
    (c.is_due.ensures.none c.if-is_due.false)
    (few_before c.args.k c.count_of-all.result c.phases_before.result c.args.script.now.phases c.items-phases.result.now
    s.result.0.now s.result.1.now c.items-phases.ensures c.count_of-all.ensures c.phases_before.ensures.value
    s.ensures.front s.ensures.back s.ensures.front_len s.ensures.back_len)
    e.0 (g.K.Sink.held c.closed.new.sink) (g.K.Sink.faults c.closed.new.sink)
    (subst (λ (n : ℕ). Finishes r.result.0 e.0 (summary_line (counts_of n r.new.account.answers r.result.1 0))
    (g.K.Sink.held r.new.sink) (g.K.Sink.held c.closed.new.sink) (g.K.Sink.faults r.new.sink)
    (g.K.Sink.faults c.closed.new.sink)) c.requires.start e.2)
    c.closed.result.primary c.closed.result.standby c.closed.ensures.disks c.closed.ensures.leaves) in
    (e.0, None, e.1, t.0, t.1)
