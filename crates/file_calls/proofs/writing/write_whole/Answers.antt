use Rattle.std.proofs.Common.{◌≡◌, List, ℕ, ◌+◌, ◌<◌, ◌^◌, true, length, take, drop, slice_range, ◌∙◌, ap, arith, rules}
use Rattle.std.proofs.lemmas.List.{places}
use Rattle.disk_trait.specs.Held.{Held}
use Rattle.file_calls.specs.Files.{held_by}
use Rattle.file_calls.specs.Honest.{is_honest}
use Rattle.file_calls.specs.Made.{writes}
use Rattle.file_calls.specs.Moved.{laid_over}
use Rattle.file_calls.proofs.Records.{adds_then, honest_before}
use Rattle.file_calls.proofs.WriteLemmas.{announced, half_ready, half_more, means_adds, wrote_err, next_is}
use Rattle.file_calls.proofs.writing.write_whole.Goals as goal

pub loop-done-init : goal.loop-done-init
loop-done-init g c = record {
  bound = omega arith;
  small = λ (none : 0 < 0). omega arith;
  adds = means_adds c.args.area c.args.at _ _ _ c.announce.ensures;
  here = λ _. announced g.C.Calls.first c.args.area c.args.at (length c.args.bytes.now) c.args.bytes.now _ _
      (λ i. length c.args.bytes.now) c.announce.ensures;
}

pub write_again-requires-clause-ready : goal.write_again-requires-clause-ready
write_again-requires-clause-ready g c honest =
    let inv = c.loop-done.invariant in
    let first = g.C.Calls.first in
    let area = c.args.area in
    let old = held_by first area (g.C.Calls.history c.args.calls.now) in
    let was = honest_before first (writes area) (g.C.Calls.history c.args.calls.now)
    (g.C.Calls.history c.loop-done.calls) inv.adds honest in
    let fits : c.args.at < 2 ^ 64 = omega (arith, c.ranges.at.fits) in
    let few : c.loop-done.done < 2 ^ 63 = omega arith in
    let next = next_is c.args.at c.loop-done.done c.saturating_add-from.result c.saturating_add-from.ensures fits few
    inv.small in
    let part : slice_range c.args.bytes.now c.loop-done.done (length c.args.bytes.now)
    ≡ drop c.loop-done.done c.args.bytes.now = search (rules, places) in
    rw (inv.here honest, part) (half_ready old c.args.at c.loop-done.done c.saturating_add-from.result c.args.bytes.now
    (c.requires was) inv.bound next c.type_inv.bytes)

pub returns-in_err-done-clause-adds : goal.returns-in_err-done-clause-adds
returns-in_err-done-clause-adds g c = adds_then (writes c.args.area) _ _ _ c.loop-done.invariant.adds
    c.write_again.ensures.adds

pub returns-in_err-done-clause-here : goal.returns-in_err-done-clause-here
returns-in_err-done-clause-here g c honest =
    let inv = c.loop-done.invariant in
    let first = g.C.Calls.first in
    let area = c.args.area in
    let between = honest_before first (writes area) (g.C.Calls.history c.loop-done.calls)
    (g.C.Calls.history c.write_again.new.calls) c.write_again.ensures.adds honest in
    let was = honest_before first (writes area) (g.C.Calls.history c.args.calls.now)
    (g.C.Calls.history c.loop-done.calls) inv.adds between in
    wrote_err c.from_residual.result (held_by first area (g.C.Calls.history c.args.calls.now))
    (held_by first area (g.C.Calls.history c.write_again.new.calls)) c.args.at c.loop-done.done c.args.bytes.now
    c.from_residual.ensures.0 (c.requires was) inv.bound (c.in_err-done.ensures.here honest ∙ inv.here between)

pub loop-done-preserved : goal.loop-done-preserved
loop-done-preserved g c =
    let inv = c.loop-done.invariant in
    let e = c.in_ok-done.ensures in
    let first = g.C.Calls.first in
    let area = c.args.area in
    let bytes = c.args.bytes.now in
    let done = c.loop-done.done in
    let old = held_by first area (g.C.Calls.history c.args.calls.now) in
    let fits : c.args.at < 2 ^ 64 = omega (arith, c.ranges.at.fits) in
    let few : done < 2 ^ 63 = omega arith in
    let next = next_is c.args.at done c.saturating_add-from.result c.saturating_add-from.ensures fits few inv.small in
    let part : slice_range bytes done (length bytes) ≡ drop done bytes = search (rules, places) in
    record {
      bound = search (rules, places);
      small = λ (some : 0 < done + c.in_ok-done.field-0). omega (arith, e.count.2, next);
      adds = adds_then (writes area) _ _ _ inv.adds e.adds;
      here = λ (honest : is_honest first (g.C.Calls.history c.write_again.new.calls) ≡ true).
          let between = honest_before first (writes area) (g.C.Calls.history c.loop-done.calls)
          (g.C.Calls.history c.write_again.new.calls) e.adds honest in
          let was = honest_before first (writes area) (g.C.Calls.history c.args.calls.now)
          (g.C.Calls.history c.loop-done.calls) inv.adds between in
          let step = e.here honest in
          e.here honest ∙ ap (λ (l : List ℕ). laid_over (held_by first area (g.C.Calls.history c.loop-done.calls))
          c.saturating_add-from.result (take c.in_ok-done.field-0 l)) part
          ∙ ap (λ (h : Held). laid_over h c.saturating_add-from.result (take c.in_ok-done.field-0 (drop done bytes)))
          (inv.here between)
          ∙ half_more old c.args.at done c.saturating_add-from.result c.in_ok-done.field-0 bytes
          (c.requires was) inv.bound next;
    }
