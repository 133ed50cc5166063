-- The orders of answers and of events, and what a stable sort by them leaves.
use Rattle.std.proofs.Common.{◌≡◌, ℕ, ◌<◌, Bool, true, false, cond, nat_lt, ◌==◌, Bor, List, map, refl, ap, ◌∙◌}
use Rattle.std.specs.Cmp.{IsStrictWeakOrder, IsTotalOrder, nat_cmp_total, on_total, then_total}
use Rattle.std.specs.List.Sorted.{IsSortedBy, IsSortedByKey, IsStableBy, IsStableByKey}
use Rattle.std.specs.Ordering.{is_lt, nat_cmp, ordering_then}
use Rattle.std.specs.declared.cmp.Ordering.{Ordering}
use Rattle.std.specs.declared.cmp.Ordering.TheVariants.{Less, Equal, Greater}
use Rattle.std.proofs.lemmas.List.Sorted.{ranks_by}
use Rattle.std.proofs.lemmas.Bool.{lt-ltb}
use Rattle.bbs_model.specs.declared.event.Event.{Event}
use Rattle.diego_names.specs.Order.{name_order}
use Rattle.diego_names.proofs.Public.{IsKeyOrder-name_order}
use Rattle.lrp_records.specs.Presence.{rank_of}
use Rattle.scenario_lines.specs.declared.answered.Answered.{Answered}
use Rattle.phase_text.specs.Laws.{StandsInOrder}
use Rattle.phase_text.specs.Sorting.{by_key, event_order, is_earlier_line, is_earlier_row, sorted_by, spot_of}
use Rattle.phase_text.proofs.Referring.{sorted_map}
use Rattle.phase_text.proofs.StableSorts.{sorted_by_is}

less_by_test : (b c : Bool) → is_lt (cond b Less (cond c Equal Greater)) ≡ b
less_by_test true c = refl
less_by_test false true = refl
less_by_test false false = refl

-- the order of numbers, as a test
less_is : (x y : ℕ) → is_lt (nat_cmp x y) ≡ nat_lt x y
less_is x y = less_by_test (nat_lt x y) (x == y)

pub by_line_is : (xs ys : List Answered) → IsSortedByKey (λ (a : Answered). a.line) nat_cmp ys
    → IsStableByKey (λ (a : Answered). a.line) nat_cmp xs ys → ys ≡ sorted_by is_earlier_line xs
by_line_is xs ys sorted stable =
    sorted_by_is (λ (a b : Answered). is_lt (nat_cmp a.line b.line))
    (ranks_by nat_cmp_total (λ (a : Answered). a.line)) xs ys sorted stable
    ∙ ap (λ (is_before : Answered → Answered → Bool). sorted_by is_before xs) (λ i a b. less_is a.line b.line i)

-- any two spots compare
spots_total : IsTotalOrder event_order
spots_total =
    then_total (on_total (λ s. s.table) nat_cmp_total)
    (then_total (on_total (λ s. s.name) IsKeyOrder-name_order.total)
    (then_total (on_total (λ s. s.index) nat_cmp_total) (on_total (λ s. s.presence) (on_total rank_of nat_cmp_total))))

-- an event that is referred to stands before another
abbrev pub is_earlier : Bor Event → Bor Event → Bool
is_earlier a b = is_earlier_row a.now b.now

pub events_rank : IsStrictWeakOrder is_earlier
events_rank = ranks_by spots_total (λ (e : Bor Event). spot_of e.now.row)

pub by_key_is : (xs ys : List (Bor Event)) → IsSortedBy is_earlier ys → IsStableBy is_earlier xs ys
    → map (λ (e : Bor Event). e.now) ys ≡ by_key (map (λ (e : Bor Event). e.now) xs)
by_key_is xs ys sorted stable =
    ap (map (λ (e : Bor Event). e.now)) (sorted_by_is is_earlier events_rank xs ys sorted stable)
    ∙ sorted_map (λ (e : Bor Event). e.now) is_earlier_row xs

-- a tie of what isn't there leaves the order as it is
then_tied : (o : Ordering) → ordering_then o Equal ≡ o
then_tied Less = refl
then_tied Equal = refl
then_tied Greater = refl

then_assoc : (a b c : Ordering) → ordering_then a (ordering_then b c) ≡ ordering_then (ordering_then a b) c
then_assoc Less b c = refl
then_assoc Equal b c = refl
then_assoc Greater b c = refl

less_first : (m n : ℕ) (rest : Ordering) → m < n → ordering_then (nat_cmp m n) rest ≡ Less
less_first m n rest h = ap (λ b. ordering_then (cond b Less (cond (m == n) Equal Greater)) rest) (lt-ltb m n h)

pub stands_in_order : StandsInOrder
stands_in_order = record {
  desired = λ a b. then_tied (name_order a.process b.process);
  actual = λ a b. then_assoc (name_order a.key.process b.key.process) (nat_cmp a.key.index b.key.index) _;
  tasks = λ a b. then_tied (name_order a.name b.name);
  cells = λ a b. then_tied (name_order a.cell b.cell);
  domains = λ a b. then_tied (name_order a.domain b.domain);
  tables = λ a b h. less_first (spot_of a).table (spot_of b).table _ h;
}
