-- The number is shown, and then the call is made.
use Rattle.std.proofs.Common.{◌≡◌, ◌≤◌, ◌<◌, Ok, ap, ◌∙◌, arith, rules}
use Rattle.standby_board.specs.Pairs.{PairView}
use Rattle.standby_board.specs.declared.answers.PairReply.TheVariants as pair
use Rattle.standby_board.proofs.Chaining.{same_stale, shows_stale, shows_taken, call_shown, causes_shown, causes_idle}
use Rattle.standby_board.proofs.pair.Pair.show_and_write.Goals as goal

pub returns-then-not-show-clause-shows : goal.returns-then-not-show-clause-shows
returns-then-not-show-clause-shows g c =
    let lower : c.args.fence < c.args.self.now.fence.greatest = first_of (search rules, grind arith) in
    shows_stale c.args.self.now c.show.new.self c.args.fence c.show.ensures.shown lower _
    (ap (λ n. Ok (pair.StaleFence n)) c.greatest.ensures)

pub returns-then-not-show-clause-idle : goal.returns-then-not-show-clause-idle
returns-then-not-show-clause-idle g c = λ lower.
    same_stale c.args.self.now c.show.new.self c.args.fence c.show.ensures.shown lower

pub returns-then-not-show-clause-calls : goal.returns-then-not-show-clause-calls
returns-then-not-show-clause-calls g c = λ taken.
    let lower : c.args.fence < c.args.self.now.fence.greatest = first_of (search rules, grind arith) in
    absurd (omega (arith, lower, taken))

pub returns-then-not-show-clause-causes : goal.returns-then-not-show-clause-causes
returns-then-not-show-clause-causes g c =
    let lower : c.args.fence < c.args.self.now.fence.greatest = first_of (search rules, grind arith) in
    causes_idle g.D.Disk.fault_count g.E.Disk.fault_count c.greatest.result c.args.self.now c.show.new.self
    (same_stale c.args.self.now c.show.new.self c.args.fence c.show.ensures.shown lower)

pub returns-then-not-show-clause-same : goal.returns-then-not-show-clause-same
returns-then-not-show-clause-same g c =
    let s = c.show.ensures.shown in
    record {
      primary = ap (λ (v : PairView g.row.D.Denot g.row.E.Denot). v.primary_start) s;
      standby = ap (λ (v : PairView g.row.D.Denot g.row.E.Denot). v.standby_start) s;
      floor = ap (λ (v : PairView g.row.D.Denot g.row.E.Denot). v.fence.floor) s;
    }

pub returns-clause-shows : goal.returns-clause-shows
returns-clause-shows g c =
    let taken : c.args.self.now.fence.greatest ≤ c.args.fence = first_of (search rules, grind arith) in
    let w = c.write in
    shows_taken c.args.self.now c.show.new.self c.args.fence c.show.ensures.shown taken w.new.self w.result
    g.D.Disk.moment g.D.Disk.fault_count g.E.Disk.moment g.E.Disk.fault_count c.args.by c.args.command w.ensures.calls
    w.ensures.greatest

pub returns-clause-idle : goal.returns-clause-idle
returns-clause-idle g c = λ lower.
    let taken : c.args.self.now.fence.greatest ≤ c.args.fence = first_of (search rules, grind arith) in
    absurd (omega (arith, lower, taken))

pub returns-clause-calls : goal.returns-clause-calls
returns-clause-calls g c = λ taken.
    let w = c.write in
    call_shown c.args.self.now c.show.new.self c.args.fence c.show.ensures.shown taken w.new.self w.result
    g.D.Disk.moment g.D.Disk.fault_count g.E.Disk.moment g.E.Disk.fault_count c.args.by c.args.command w.ensures.calls

pub returns-clause-causes : goal.returns-clause-causes
returns-clause-causes g c =
    let taken : c.args.self.now.fence.greatest ≤ c.args.fence = first_of (search rules, grind arith) in
    let w = c.write in
    causes_shown c.args.self.now c.show.new.self c.args.fence c.show.ensures.shown taken w.new.self w.result
    g.D.Disk.moment g.D.Disk.fault_count g.E.Disk.moment g.E.Disk.fault_count c.args.by c.args.command w.ensures.causes

pub returns-clause-same : goal.returns-clause-same
returns-clause-same g c =
    let s = c.show.ensures.shown in
    let w = c.write.ensures.same in
    record {
      primary = w.primary ∙ ap (λ (v : PairView g.row.D.Denot g.row.E.Denot). v.primary_start) s;
      standby = w.standby ∙ ap (λ (v : PairView g.row.D.Denot g.row.E.Denot). v.standby_start) s;
      floor = w.floor ∙ ap (λ (v : PairView g.row.D.Denot g.row.E.Denot). v.fence.floor) s;
    }
