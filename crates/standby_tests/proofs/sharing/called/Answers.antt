-- All passes stay passes of their pair.
use Rattle.std.proofs.Common.{◌≡◌, ℕ, ◌<◌, List, ◌++◌, length, get_or, take, drop, ap, sym, ◌∙◌, subst, arith}
use Rattle.std.proofs.lemmas.List.{append-nil, take_all, drop_all}
use Rattle.ticket_desk.specs.Passes.{IsPass, IsSamePass, AreAll}
use Rattle.ticket_desk.proofs.Public.{by_index, all_stay}
use Rattle.standby_tests.proofs.sharing.called.Goals as goal

-- what a list is after all of it was lent
lent_whole : {A : Type 0} (n : ℕ) (new old : List A) → length new ≡ length old → n ≡ length old
    → take n (new ++ drop (length new) old) ≡ new
lent_whole n new old same is =
    ap (λ xs. take n (new ++ xs)) (drop_all (length new) old (omega arith)) ∙ ap (λ xs. take n xs)
    (append-nil new) ∙ take_all n new (omega arith)

pub call_at_once-requires-clause-pair : goal.call_at_once-requires-clause-pair
call_at_once-requires-clause-pair g c =
    let z = c.in-Ok.shared.desk.table.shared.table_id in let items = c.in-Ok.passes.items in
    let all : AreAll z items = c.in-Ok.ensures.passes.1 in
    λ _ _ k d lt. subst (λ xs. (get_or xs k d).place.table_id ≡ z) (sym c.as_mut_slice.ensures.value)
    (by_index (IsPass z (length items)) items all.1 k d (subst
    (λ xs. k < length xs) c.as_mut_slice.ensures.value lt)).desk

pub close-requires : goal.close-requires
close-requires g c =
    let z = c.in-Ok.shared.desk.table.shared.table_id in let items = c.in-Ok.passes.items in let new =
    c.call_at_once.new.passes in
    let all : AreAll z items = c.in-Ok.ensures.passes.1 in
    let same : length new ≡ length items = c.call_at_once.auto.passes ∙ ap length c.as_mut_slice.ensures.value in
    let whole = lent_whole c.in-Ok.passes.len new items same c.in-Ok.passes.ok.0 in
    subst (λ xs. AreAll z xs) (sym whole)
    (all_stay z items new same
    (λ k d lt. subst (λ xs. IsSamePass (get_or xs k d) (get_or new k d)) c.as_mut_slice.ensures.value
    (c.call_at_once.ensures k d (subst (λ xs. k < length xs) (sym c.as_mut_slice.ensures.value) lt)).pass) all)
