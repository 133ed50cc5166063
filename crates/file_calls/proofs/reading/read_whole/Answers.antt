use Rattle.std.proofs.Common.{◌≡◌, ◌∙◌, ◌+◌, ◌-◌, ◌≤◌, true, length, take, inr, arith, rules}
use Rattle.std.proofs.lemmas.List.{places}
use Rattle.std.proofs.lemmas.Slice.{take-put_mid_below}
use borrow.Rule.Slice.PartMut.{put_mid}
use Rattle.file_calls.specs.Files.{held_by}
use Rattle.file_calls.specs.Honest.{is_honest}
use Rattle.file_calls.specs.Made.{reads}
use Rattle.file_calls.specs.Moved.{GivesBytes}
use Rattle.file_calls.proofs.Records.{adds_then, honest_before}
use Rattle.file_calls.proofs.ReadLemmas.{read_within, read_front, filled, gives_same}
use Rattle.file_calls.proofs.reading.read_whole.Goals as goal

pub returns-in_err-got-clause-adds : goal.returns-in_err-got-clause-adds
returns-in_err-got-clause-adds g c = adds_then (reads c.args.area) _ _ _ c.loop-count.invariant.adds
    c.read_again.ensures.adds

pub loop-count-preserved : goal.loop-count-preserved
loop-count-preserved g c =
    let inv = c.loop-count.invariant in
    let e = c.in_ok-got.ensures in
    let first = g.C.Calls.first in
    let area = c.args.area in
    let bytes = (held_by first area (g.C.Calls.history c.args.calls.now)).reads in
    let count = c.loop-count.count in
    let got = c.in_ok-got.got in
    let new = c.read_again.new.room in
    let next : c.saturating_add-from.result ≡ c.args.at + count =
    omega (arith, c.saturating_add-from.ensures, e.count.1) in
    let rest : length new ≡ length c.loop-count.room - count = search (rules, places) in
    let few : got ≤ length new = search (rules, places) in
    let before : is_honest first (g.C.Calls.history c.read_again.new.calls) ≡ true
    → is_honest first (g.C.Calls.history c.loop-count.calls) ≡ true = λ h.
    honest_before first (reads area) (g.C.Calls.history c.loop-count.calls)
    (g.C.Calls.history c.read_again.new.calls) e.adds h in
    let gives : is_honest first (g.C.Calls.history c.read_again.new.calls) ≡ true
    → GivesBytes bytes c.saturating_add-from.result got new = λ h.
    gives_same first area (g.C.Calls.history c.args.calls.now)
    (g.C.Calls.history c.loop-count.calls) c.saturating_add-from.result got new inv.adds (e.bytes h) in
    record {
      bound = search (rules, places);
      adds = adds_then (reads area) _ _ _ inv.adds e.adds;
      within = λ h. read_within bytes c.loop-count.room new c.args.at count got c.saturating_add-from.result next
          inv.bound rest few (inv.within (before h)) (inv.front (before h)) (gives h);
      front = λ h. read_front bytes c.loop-count.room new c.args.at count got c.saturating_add-from.result next
          inv.bound rest few (inv.within (before h)) (inv.front (before h)) (gives h);
    }

pub returns-then-got-eq0-clause-adds : goal.returns-then-got-eq0-clause-adds
returns-then-got-eq0-clause-adds g c = adds_then (reads c.args.area) _ _ _ c.loop-count.invariant.adds
    c.read_again.ensures.adds

pub returns-then-got-eq0-clause-bytes : goal.returns-then-got-eq0-clause-bytes
returns-then-got-eq0-clause-bytes g c honest =
    let inv = c.loop-count.invariant in
    let e = c.in_ok-got.ensures in
    let first = g.C.Calls.first in
    let area = c.args.area in
    let bytes = (held_by first area (g.C.Calls.history c.args.calls.now)).reads in
    let count = c.loop-count.count in
    let new = c.read_again.new.room in
    let next : c.saturating_add-from.result ≡ c.args.at + count =
    omega (arith, c.saturating_add-from.ensures, e.count.1) in
    let was = honest_before first (reads area) (g.C.Calls.history c.loop-count.calls)
    (g.C.Calls.history c.read_again.new.calls) e.adds honest in
    let gives = gives_same first area (g.C.Calls.history c.args.calls.now)
    (g.C.Calls.history c.loop-count.calls) c.saturating_add-from.result c.in_ok-got.got new inv.adds
    (e.bytes honest) in
    let ended : length bytes ≤ c.args.at + count = omega (arith, gives.ends c.if-got-eq0.true, next) in
    let whole = put_mid count (length c.loop-count.room - count) c.loop-count.room new in
    let before : take count whole ≡ take count c.loop-count.room =
    take-put_mid_below count (length c.loop-count.room - count) c.loop-count.room new count
    (omega arith) inv.bound in
    let long : length c.args.room.now ≡ length whole = search (rules, places) in
    let bound : count ≤ length whole = search (rules, places) in
    filled bytes c.args.room.now whole c.args.at count long bound (inv.within was) (before ∙ inv.front was) (inr ended)
