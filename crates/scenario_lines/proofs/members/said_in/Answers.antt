use Rattle.std.proofs.Common.{string_bytes, slice_set, refl, arith, ◌≡◌, ◌∷◌, sym, subst, rules, Some, None}
use Rattle.std.proofs.lemmas.Option.{slice_get-get_or}
use Rattle.scenario_lines.specs.Places.{member_named, place, KeepsAll}
use Rattle.scenario_lines.proofs.Kept.{Entry, all_kept, empty_step, full_step, none_kept, unnamed_step, KeptSoFar}
use Rattle.scenario_lines.proofs.members.said_in.Goals as goal

pub loop-name-init : goal.loop-name-init
loop-name-init c = none_kept _

pub loop-name-preserved-then-is_none : goal.loop-name-preserved-then-is_none
loop-name-preserved-then-is_none c =
    let all = c.into_iter-name-iterator.result in
    let entry : Entry = (c.in-Some.name.now, c.in-Some.value.now) in
    let step : c.loop-name.name-iterator ≡ entry ∷ c.next.new.self = search rules in
    let so_far = subst (λ es. KeptSoFar c.loop-name.said es all) step c.loop-name.invariant in
    let named : member_named (string_bytes c.in-Some.name.now) ≡ Some c.in-Some-named.member = search rules in
    let at = slice_get-get_or c.loop-name.said (place c.in-Some-named.member) c.index-said-place.result (omega arith) in
    subst (λ n. KeptSoFar (slice_set c.loop-name.said n (Some c.in-Some.value)) c.next.new.self all)
    (sym c.place-place.ensures.is)
    (empty_step c.loop-name.said entry c.next.new.self all c.in-Some-named.member _ c.in-Some.value refl named at
    (search rules) so_far)

pub loop-name-preserved-else-is_none : goal.loop-name-preserved-else-is_none
loop-name-preserved-else-is_none c =
    let all = c.into_iter-name-iterator.result in
    let entry : Entry = (c.in-Some.name.now, c.in-Some.value.now) in
    let step : c.loop-name.name-iterator ≡ entry ∷ c.next.new.self = search rules in
    let so_far = subst (λ es. KeptSoFar c.loop-name.said es all) step c.loop-name.invariant in
    let named : member_named (string_bytes c.in-Some.name.now) ≡ Some c.in-Some-named.member = search rules in
    let at = slice_get-get_or c.loop-name.said (place c.in-Some-named.member) c.index-said-place.result (omega arith) in
    full_step c.loop-name.said entry c.next.new.self all c.in-Some-named.member _ named at (search rules) so_far

pub loop-name-preserved : goal.loop-name-preserved
loop-name-preserved c =
    let all = c.into_iter-name-iterator.result in
    let entry : Entry = (c.in-Some.name.now, c.in-Some.value.now) in
    let step : c.loop-name.name-iterator ≡ entry ∷ c.next.new.self = search rules in
    let so_far = subst (λ es. KeptSoFar c.loop-name.said es all) step c.loop-name.invariant in
    let unnamed : member_named (string_bytes c.in-Some.name.now) ≡ None = search rules in
    unnamed_step c.loop-name.said entry c.next.new.self all unnamed so_far

pub returns : goal.returns
returns c =
    let all = c.into_iter-name-iterator.result in
    let end = subst (λ es. KeptSoFar c.loop-name.said es all) c.in-None.ensures.steps.0 c.loop-name.invariant in
    let whole : all ≡ c.args.object.now.entries = search rules in
    subst (λ es. KeepsAll c.loop-name.said es) whole (all_kept c.loop-name.said all end)
