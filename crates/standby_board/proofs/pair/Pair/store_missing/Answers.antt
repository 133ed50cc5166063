-- The pair stands whether the standby has stored what it lacked or not.
use Rattle.std.proofs.Common.{◌≡◌, ◌<◌, Bool, true, false, None, Some, refl, ap, subst, ◌∙◌, arith, rules}
use Rattle.bbs_model.specs.Calls.{is_done, is_starved}
use Rattle.standby_board.specs.Pairs.{PairView}
use Rattle.standby_board.specs.Steps.{CatchesUp}
use Rattle.standby_board.proofs.Turning.{stands_stored, stands_failed, caught_up, not_caught_up}
use Rattle.standby_board.proofs.pair.Pair.store_missing.Goals as goal

pub invariant_of-self : goal.invariant_of-self
invariant_of-self g c =
    let e = c.call-end in
    let missing : c.self.inside.missing ≡ Some (c.args.by, c.args.command) =
    ap (λ (v : PairView g.row.D.Denot g.row.E.Denot). v.missing) c.self.view_is ∙ c.requires.missing in
    let b = c.self.inside in
    let spare = ap (λ (v : PairView g.row.D.Denot g.row.E.Denot). v.standby.spare) c.self.view_is in
    let room = c.requires.room in
    let fed : is_starved e.result ≡ false = e.ensures.fed (omega (arith, spare, room)) in
    let failed : is_done e.result ≡ false = search rules in
    stands_failed g.D.Disk.told g.E.Disk.told _ c.self.invariant e.new.self c.args.by c.args.command e.result _ missing
    e.ensures.ends
    e.ensures.grows e.ensures.does (λ q told. g.met.E.Disk.timed e.new.self.disk q told) fed failed

pub invariant_of-self-2 : goal.invariant_of-self-2
invariant_of-self-2 g c =
    let e = c.call-end in
    let missing : c.self.inside.missing ≡ Some (c.args.by, c.args.command) =
    ap (λ (v : PairView g.row.D.Denot g.row.E.Denot). v.missing) c.self.view_is ∙ c.requires.missing in
    let done : is_done e.result ≡ true = search rules in
    stands_stored g.D.Disk.told g.E.Disk.told _ c.self.invariant e.new.self c.args.by c.args.command e.result _ missing
    e.ensures.ends
    e.ensures.grows e.ensures.does (λ q told. g.met.E.Disk.timed e.new.self.disk q told) done

pub returns-then-not-is_done-clause-catches : goal.returns-then-not-is_done-clause-catches
returns-then-not-is_done-clause-catches g c =
    let e = c.call-end in
    let missing : c.self.inside.missing ≡ Some (c.args.by, c.args.command) =
    ap (λ (v : PairView g.row.D.Denot g.row.E.Denot). v.missing) c.self.view_is ∙ c.requires.missing in
    let b = c.self.inside in
    let spare = ap (λ (v : PairView g.row.D.Denot g.row.E.Denot). v.standby.spare) c.self.view_is in
    let room = c.requires.room in
    let fed : is_starved e.result ≡ false = e.ensures.fed (omega (arith, spare, room)) in
    let failed : is_done e.result ≡ false = search rules in
    subst (λ (v : PairView g.row.D.Denot g.row.E.Denot). CatchesUp g.E.Disk.moment g.E.Disk.fault_count false v.missing
    b.missing v.standby e.new.self) c.self.view_is
    (not_caught_up g.D.Disk.told g.E.Disk.told _ c.self.invariant e.new.self c.args.by c.args.command e.result _ missing
    e.ensures.ends
    e.ensures.grows e.ensures.does g.E.Disk.moment g.E.Disk.fault_count refl e.ensures.uses.faults.cause fed failed)

pub returns-clause-catches : goal.returns-clause-catches
returns-clause-catches g c =
    let e = c.call-end in
    let missing : c.self.inside.missing ≡ Some (c.args.by, c.args.command) =
    ap (λ (v : PairView g.row.D.Denot g.row.E.Denot). v.missing) c.self.view_is ∙ c.requires.missing in
    let done : is_done e.result ≡ true = search rules in
    subst (λ (v : PairView g.row.D.Denot g.row.E.Denot). CatchesUp g.E.Disk.moment g.E.Disk.fault_count true v.missing
    None v.standby e.new.self) c.self.view_is
    (caught_up g.D.Disk.told g.E.Disk.told _ c.self.invariant e.new.self c.args.by c.args.command e.result _ missing
    e.ensures.ends
    e.ensures.grows e.ensures.does g.E.Disk.moment g.E.Disk.fault_count refl e.ensures.uses.faults.cause done)
