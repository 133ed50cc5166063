use Rattle.std.proofs.Common.{◌≡◌, true, false, sym, subst}
use Rattle.diego_names.proofs.Public.{IsKeyOrder-name_order}
use Rattle.lrp_records.proofs.Public.{IsKeyOrder-place_order}
use Rattle.differences.specs.Noted.{Keeping, noted_of}
use Rattle.differences.proofs.Emptiness.{AreNoneDue, none_of}
use Rattle.differences.proofs.kept.Kept.due.Goals as goal

pub in_order-requires : goal.in_order-requires
in_order-requires c = IsKeyOrder-name_order

pub in_order-requires-2 : goal.in_order-requires-2
in_order-requires-2 c = IsKeyOrder-name_order

pub in_order-requires-3 : goal.in_order-requires-3
in_order-requires-3 c = IsKeyOrder-place_order

pub in_order-requires-4 : goal.in_order-requires-4
in_order-requires-4 c = IsKeyOrder-name_order

pub returns-in_err-cells-clause-free : goal.returns-in_err-cells-clause-free
returns-in_err-cells-clause-free c none =
    let nothing : AreNoneDue (noted_of c.args.self.now) c.args.now =
    none_of (noted_of c.args.self.now) c.args.now none in
    let never : false ≡ true =
    c.in_err-cells.ensures.free (subst (λ (k : Keeping). AreNoneDue (noted_of k) c.args.now)
    (sym c.self.view_is) nothing).cells in
    absurd cc

pub returns-in_err-domains-clause-free : goal.returns-in_err-domains-clause-free
returns-in_err-domains-clause-free c none =
    let nothing : AreNoneDue (noted_of c.args.self.now) c.args.now =
    none_of (noted_of c.args.self.now) c.args.now none in
    let never : false ≡ true =
    c.in_err-domains.ensures.free (subst (λ (k : Keeping). AreNoneDue (noted_of k) c.args.now)
    (sym c.self.view_is) nothing).domains in
    absurd cc

pub returns-in_err-places-clause-free : goal.returns-in_err-places-clause-free
returns-in_err-places-clause-free c none =
    let nothing : AreNoneDue (noted_of c.args.self.now) c.args.now =
    none_of (noted_of c.args.self.now) c.args.now none in
    let never : false ≡ true =
    c.in_err-places.ensures.free (subst (λ (k : Keeping). AreNoneDue (noted_of k) c.args.now)
    (sym c.self.view_is) nothing).places in
    absurd cc

pub returns-in_err-tasks-clause-free : goal.returns-in_err-tasks-clause-free
returns-in_err-tasks-clause-free c none =
    let nothing : AreNoneDue (noted_of c.args.self.now) c.args.now =
    none_of (noted_of c.args.self.now) c.args.now none in
    let never : false ≡ true =
    c.in_err-tasks.ensures.free (subst (λ (k : Keeping). AreNoneDue (noted_of k) c.args.now)
    (sym c.self.view_is) nothing).tasks in
    absurd cc
