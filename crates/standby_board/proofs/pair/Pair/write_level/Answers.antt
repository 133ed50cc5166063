-- The primary first, and then the standby.
use Rattle.std.proofs.Common.{◌≡◌, ◌≤◌, ℕ, Bool, false, None, is_err, is_ok, sym, ap, subst, ◌∙◌, arith, rules}
use Rattle.bbs_board.specs.View.{View}
use Rattle.fenced_board.specs.Fences.{FenceView}
use Rattle.standby_board.specs.Calls.{End, HasCauses, IsPairCall}
use Rattle.standby_board.specs.Pairs.{PairView}
use Rattle.standby_board.specs.Steps.{told_by}
use Rattle.standby_board.proofs.Chaining.{called_level, causes_level, call_roomier, causes_roomier, call_starved, causes_starved}
use Rattle.standby_board.proofs.Composing.{on_ok}
use Rattle.standby_board.proofs.pair.Pair.write_level.Goals as goal

pub returns-then-is_err-clause-calls : goal.returns-then-is_err-clause-calls
returns-then-is_err-clause-calls g c =
    call_starved g.D.Disk.moment g.D.Disk.fault_count g.E.Disk.moment g.E.Disk.fault_count _ _ _ _ _
    c.make_room_again.ensures.keeps

pub returns-then-is_err-clause-causes : goal.returns-then-is_err-clause-causes
returns-then-is_err-clause-causes g c =
    causes_starved g.D.Disk.moment g.D.Disk.fault_count g.E.Disk.moment g.E.Disk.fault_count 0 c.args.by c.args.command
    _ _
    c.make_room_again.ensures.keeps

pub returns-then-is_err-clause-same : goal.returns-then-is_err-clause-same
returns-then-is_err-clause-same g c =
    let k = c.make_room_again.ensures.keeps in
    record { primary = k.primary_start; standby = k.standby_start; floor = ap (λ (f : FenceView). f.floor) k.fence }

pub returns-then-is_err-clause-greatest : goal.returns-then-is_err-clause-greatest
returns-then-is_err-clause-greatest g c = ap (λ (f : FenceView). f.greatest) c.make_room_again.ensures.keeps.fence

pub call_primary-end-requires : goal.call_primary-end-requires
call_primary-end-requires g c =
    let k = c.make_room_again.ensures.keeps in
    let more = k.more_fence in
    let room = c.requires.room in
    record { level = k.missing ∙ c.requires.level; room = omega (arith, more, room) }

pub returns-clause-calls : goal.returns-clause-calls
returns-clause-calls g c =
    let k = c.make_room_again.ensures.keeps in
    let p = c.call_primary-end in
    let u = c.catch_up-caught in
    let old = c.args.self.now in
    let mid = c.make_room_again.new.self in
    let last = u.new.self in
    let called = called_level g.D.Disk.moment g.D.Disk.fault_count g.E.Disk.moment g.E.Disk.fault_count
    mid.fence.greatest c.args.by c.args.command (is_ok u.result) p.result mid p.new.self last p.ensures.missing
    (ap (λ (v : PairView g.row.D.Denot g.row.E.Denot). v.standby) p.ensures.stays) u.ensures.catches
    (ap (λ (v : PairView g.row.D.Denot g.row.E.Denot). v.primary) u.ensures.stays)
    (ap (λ (v : PairView g.row.D.Denot g.row.E.Denot). v.fence) u.ensures.stays)
    p.ensures.ends p.ensures.grows p.ensures.numbers (k.missing ∙ c.requires.level) in
    let numbered = subst (λ (n : ℕ). IsPairCall g.D.Disk.moment g.E.Disk.moment n c.args.by c.args.command mid last
    (told_by (is_ok u.result) p.result))
    (ap (λ (f : FenceView). f.greatest) k.fence) called in
    subst (λ (r : End). IsPairCall g.D.Disk.moment g.E.Disk.moment old.fence.greatest c.args.by c.args.command old last
    r)
    (sym c.answer.ensures)
    (call_roomier g.D.Disk.moment g.D.Disk.fault_count g.E.Disk.moment g.E.Disk.fault_count old.fence.greatest c.args.by
    c.args.command (told_by (is_ok u.result) p.result) old mid last k numbered)

pub returns-clause-causes : goal.returns-clause-causes
returns-clause-causes g c =
    let k = c.make_room_again.ensures.keeps in
    let p = c.call_primary-end in
    let u = c.catch_up-caught in
    let old = c.args.self.now in
    let mid = c.make_room_again.new.self in
    let last = u.new.self in
    let caused = causes_level g.D.Disk.moment g.D.Disk.fault_count g.E.Disk.moment g.E.Disk.fault_count
    mid.fence.greatest c.args.by c.args.command (is_ok u.result) p.result mid p.new.self last p.ensures.missing
    (ap (λ (v : PairView g.row.D.Denot g.row.E.Denot). v.standby) p.ensures.stays) u.ensures.catches
    (ap (λ (v : PairView g.row.D.Denot g.row.E.Denot). v.primary) u.ensures.stays)
    (ap (λ (v : PairView g.row.D.Denot g.row.E.Denot). v.fence) u.ensures.stays) p.ensures.cause in
    subst (λ (r : End). HasCauses g.D.Disk.fault_count g.E.Disk.fault_count r old last) (sym c.answer.ensures)
    (causes_roomier g.D.Disk.moment g.D.Disk.fault_count g.E.Disk.moment g.E.Disk.fault_count 0 c.args.by c.args.command
    (told_by (is_ok u.result) p.result) old mid last k caused)

pub returns-clause-same : goal.returns-clause-same
returns-clause-same g c =
    let k = c.make_room_again.ensures.keeps in
    let p = c.call_primary-end.ensures.stays in
    let u = c.catch_up-caught.ensures.stays in
    record {
      primary = ap (λ (v : PairView g.row.D.Denot g.row.E.Denot). v.primary_start) u
          ∙ ap (λ (v : PairView g.row.D.Denot g.row.E.Denot). v.primary_start) p ∙ k.primary_start;
      standby = ap (λ (v : PairView g.row.D.Denot g.row.E.Denot). v.standby_start) u
          ∙ ap (λ (v : PairView g.row.D.Denot g.row.E.Denot). v.standby_start) p ∙ k.standby_start;
      floor = ap (λ (v : PairView g.row.D.Denot g.row.E.Denot). v.fence.floor) u
          ∙ ap (λ (v : PairView g.row.D.Denot g.row.E.Denot). v.fence.floor) p ∙ ap
          (λ (f : FenceView). f.floor) k.fence;
    }

pub returns-clause-greatest : goal.returns-clause-greatest
returns-clause-greatest g c =
    ap (λ (v : PairView g.row.D.Denot g.row.E.Denot). v.fence.greatest) c.catch_up-caught.ensures.stays
    ∙ ap (λ (v : PairView g.row.D.Denot g.row.E.Denot). v.fence.greatest) c.call_primary-end.ensures.stays
    ∙ ap (λ (f : FenceView). f.greatest) c.make_room_again.ensures.keeps.fence

pub catch_up-caught-requires : goal.catch_up-caught-requires
catch_up-caught-requires g c =
    let fine : is_err c.make_room_again.result ≡ false = search rules in
    let room = on_ok c.make_room_again.result _ fine c.make_room_again.ensures.room in
    let same = ap (λ (v : PairView g.row.D.Denot g.row.E.Denot). v.standby.spare) c.call_primary-end.ensures.stays in
    omega (arith, room, same)
