-- What was missing first, and then the call.
use Rattle.std.proofs.Common.{◌≡◌, ◌≤◌, ℕ, Bool, true, false, length, is_err, is_ok, refl, sym, ap, subst, ◌∙◌, arith, rules}
use Rattle.fenced_board.specs.Fences.{FenceView}
use Rattle.standby_board.specs.Calls.{IsPairCall}
use Rattle.standby_board.specs.Pairs.{PairView}
use Rattle.standby_board.specs.Steps.{CatchesUp}
use Rattle.standby_board.proofs.Chaining.{call_roomier, causes_roomier, call_caught, causes_caught, call_starved, causes_starved, call_behind, causes_behind}
use Rattle.standby_board.proofs.Composing.{on_ok, turned_out}
use Rattle.standby_board.proofs.pair.Pair.write.Goals as goal

pub returns-then-is_err-clause-calls : goal.returns-then-is_err-clause-calls
returns-then-is_err-clause-calls g c =
    call_starved g.D.Disk.moment g.D.Disk.fault_count g.E.Disk.moment g.E.Disk.fault_count _ _ _ _ _
    c.make_room.ensures.keeps

pub returns-then-is_err-clause-causes : goal.returns-then-is_err-clause-causes
returns-then-is_err-clause-causes g c =
    causes_starved g.D.Disk.moment g.D.Disk.fault_count g.E.Disk.moment g.E.Disk.fault_count 0 c.args.by c.args.command
    _ _
    c.make_room.ensures.keeps

pub returns-then-is_err-clause-same : goal.returns-then-is_err-clause-same
returns-then-is_err-clause-same g c =
    let k = c.make_room.ensures.keeps in
    record { primary = k.primary_start; standby = k.standby_start; floor = ap (λ (f : FenceView). f.floor) k.fence }

pub returns-then-is_err-clause-greatest : goal.returns-then-is_err-clause-greatest
returns-then-is_err-clause-greatest g c = ap (λ (f : FenceView). f.greatest) c.make_room.ensures.keeps.fence

pub returns-then-is_err-2-clause-calls : goal.returns-then-is_err-2-clause-calls
returns-then-is_err-2-clause-calls g c =
    let k = c.make_room.ensures.keeps in
    let u = c.catch_up in
    let mid = c.make_room.new.self in
    let failed : is_ok u.result ≡ false = search rules in
    let caught = subst (λ (b : Bool). CatchesUp g.E.Disk.moment g.E.Disk.fault_count b mid.missing u.new.self.missing
    mid.standby u.new.self.standby) failed u.ensures.catches in
    let primary = ap (λ (v : PairView g.row.D.Denot g.row.E.Denot). v.primary) u.ensures.stays in
    let place = c.place.ensures ∙ ap (λ (v : PairView g.row.D.Denot g.row.E.Denot). length v.primary.log) c.self.view_is
    ∙ ap (λ (v : PairView g.row.D.Denot g.row.E.Denot). length v.primary.log) u.ensures.stays in
    call_roomier g.D.Disk.moment g.D.Disk.fault_count g.E.Disk.moment g.E.Disk.fault_count
    c.args.self.now.fence.greatest
    c.args.by c.args.command _ _ mid u.new.self k
    (call_behind g.D.Disk.moment g.D.Disk.fault_count g.E.Disk.moment g.E.Disk.fault_count
    c.args.self.now.fence.greatest
    c.args.by c.args.command mid u.new.self caught primary c.place.result place
    (ap (λ (v : PairView g.row.D.Denot g.row.E.Denot). v.fence) u.ensures.stays))

pub returns-then-is_err-2-clause-causes : goal.returns-then-is_err-2-clause-causes
returns-then-is_err-2-clause-causes g c =
    let k = c.make_room.ensures.keeps in
    let u = c.catch_up in
    let mid = c.make_room.new.self in
    let failed : is_ok u.result ≡ false = search rules in
    let caught = subst (λ (b : Bool). CatchesUp g.E.Disk.moment g.E.Disk.fault_count b mid.missing u.new.self.missing
    mid.standby u.new.self.standby) failed u.ensures.catches in
    let primary = ap (λ (v : PairView g.row.D.Denot g.row.E.Denot). v.primary) u.ensures.stays in
    causes_roomier g.D.Disk.moment g.D.Disk.fault_count g.E.Disk.moment g.E.Disk.fault_count 0 c.args.by c.args.command
    _ _ mid u.new.self k
    (causes_behind g.D.Disk.moment g.D.Disk.fault_count g.E.Disk.moment g.E.Disk.fault_count 0 c.args.by c.args.command
    mid u.new.self caught primary c.place.result)

pub returns-then-is_err-2-clause-same : goal.returns-then-is_err-2-clause-same
returns-then-is_err-2-clause-same g c =
    let k = c.make_room.ensures.keeps in
    let u = c.catch_up.ensures.stays in
    record {
      primary = ap (λ (v : PairView g.row.D.Denot g.row.E.Denot). v.primary_start) u ∙ k.primary_start;
      standby = ap (λ (v : PairView g.row.D.Denot g.row.E.Denot). v.standby_start) u ∙ k.standby_start;
      floor = ap (λ (v : PairView g.row.D.Denot g.row.E.Denot). v.fence.floor) u ∙ ap
          (λ (f : FenceView). f.floor) k.fence;
    }

pub returns-then-is_err-2-clause-greatest : goal.returns-then-is_err-2-clause-greatest
returns-then-is_err-2-clause-greatest g c =
    ap (λ (v : PairView g.row.D.Denot g.row.E.Denot). v.fence.greatest) c.catch_up.ensures.stays
    ∙ ap (λ (f : FenceView). f.greatest) c.make_room.ensures.keeps.fence

pub returns-clause-calls : goal.returns-clause-calls
returns-clause-calls g c =
    let k = c.make_room.ensures.keeps in
    let u = c.catch_up in
    let mid = c.make_room.new.self in
    let ok : is_ok u.result ≡ true = search rules in
    let caught = subst (λ (b : Bool). CatchesUp g.E.Disk.moment g.E.Disk.fault_count b mid.missing u.new.self.missing
    mid.standby u.new.self.standby) ok u.ensures.catches in
    let fence = ap (λ (v : PairView g.row.D.Denot g.row.E.Denot). v.fence) u.ensures.stays in
    let number = ap (λ (f : FenceView). f.greatest) fence ∙ ap (λ (f : FenceView). f.greatest) k.fence in
    let w = c.write_level in
    let called = subst (λ (n : ℕ). IsPairCall g.D.Disk.moment g.E.Disk.moment n c.args.by c.args.command u.new.self
    w.new.self w.result) number w.ensures.calls in
    call_roomier g.D.Disk.moment g.D.Disk.fault_count g.E.Disk.moment g.E.Disk.fault_count _ c.args.by c.args.command
    w.result _ mid w.new.self k
    (call_caught g.D.Disk.moment g.D.Disk.fault_count g.E.Disk.moment g.E.Disk.fault_count _ c.args.by c.args.command
    w.result mid u.new.self w.new.self caught
    (ap (λ (v : PairView g.row.D.Denot g.row.E.Denot). v.primary) u.ensures.stays) fence called)

pub returns-clause-causes : goal.returns-clause-causes
returns-clause-causes g c =
    let k = c.make_room.ensures.keeps in
    let u = c.catch_up in
    let mid = c.make_room.new.self in
    let ok : is_ok u.result ≡ true = search rules in
    let caught = subst (λ (b : Bool). CatchesUp g.E.Disk.moment g.E.Disk.fault_count b mid.missing u.new.self.missing
    mid.standby u.new.self.standby) ok u.ensures.catches in
    let fence = ap (λ (v : PairView g.row.D.Denot g.row.E.Denot). v.fence) u.ensures.stays in
    let w = c.write_level in
    causes_roomier g.D.Disk.moment g.D.Disk.fault_count g.E.Disk.moment g.E.Disk.fault_count 0 c.args.by c.args.command
    w.result _ mid w.new.self k
    (causes_caught g.D.Disk.moment g.D.Disk.fault_count g.E.Disk.moment g.E.Disk.fault_count 0 c.args.by c.args.command
    w.result mid u.new.self w.new.self caught
    (ap (λ (v : PairView g.row.D.Denot g.row.E.Denot). v.primary) u.ensures.stays) fence w.ensures.causes)

pub returns-clause-same : goal.returns-clause-same
returns-clause-same g c =
    let k = c.make_room.ensures.keeps in
    let u = c.catch_up.ensures.stays in
    let s = c.write_level.ensures.same in
    record {
      primary = s.primary ∙ ap (λ (v : PairView g.row.D.Denot g.row.E.Denot). v.primary_start) u ∙ k.primary_start;
      standby = s.standby ∙ ap (λ (v : PairView g.row.D.Denot g.row.E.Denot). v.standby_start) u ∙ k.standby_start;
      floor = s.floor ∙ ap (λ (v : PairView g.row.D.Denot g.row.E.Denot). v.fence.floor) u
          ∙ ap (λ (f : FenceView). f.floor) k.fence;
    }

pub returns-clause-greatest : goal.returns-clause-greatest
returns-clause-greatest g c =
    c.write_level.ensures.greatest
    ∙ ap (λ (v : PairView g.row.D.Denot g.row.E.Denot). v.fence.greatest) c.catch_up.ensures.stays
    ∙ ap (λ (f : FenceView). f.greatest) c.make_room.ensures.keeps.fence

pub write_level-requires : goal.write_level-requires
write_level-requires g c =
    let u = c.catch_up in
    let mid = c.make_room.new.self in
    let ok : is_ok u.result ≡ true = search rules in
    let caught = subst (λ (b : Bool). CatchesUp g.E.Disk.moment g.E.Disk.fault_count b mid.missing u.new.self.missing
    mid.standby u.new.self.standby) ok u.ensures.catches in
    let fence = ap (λ (v : PairView g.row.D.Denot g.row.E.Denot). v.fence.room) u.ensures.stays in
    let fine : is_err c.make_room.result ≡ false = search rules in
    let room = (on_ok c.make_room.result _ fine c.make_room.ensures.room).fence in
    record {
      level = (turned_out mid.missing u.new.self.missing caught.tried caught.turns).0;
      room = omega (arith, room, fence);
    }

pub catch_up-requires : goal.catch_up-requires
catch_up-requires g c =
    let fine : is_err c.make_room.result ≡ false = search rules in
    (on_ok c.make_room.result _ fine c.make_room.ensures.room).standby
