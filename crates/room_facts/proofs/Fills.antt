-- Of jobs alike the auction places as many as there is room for.
use Rattle.std.proofs.Common.{◌≡◌, ℕ, ◌+◌, ◌≤◌, true, false, cond, min, List, [], ◌∷◌, length, map, Option, Some, None, inl, inr, refl, sym, ap, subst, ◌∙◌, arith}
use Rattle.std.specs.List.{All, Contains, count_by}
use Rattle.std.proofs.lemmas.Bool.{cases_lt}
use Rattle.std.proofs.lemmas.List.Elements.{All-head, All-tail}
use Rattle.std.proofs.lemmas.List.Sums.{sum_by-cons}
use Rattle.row_tables.specs.Table.{IsRising}
use Rattle.diego_names.specs.Order.{name_order}
use Rattle.cell_records.specs.declared.job.Job.{Job}
use Rattle.auctioneer.proofs.Public.{takes_room}
use Rattle.auctioneer.specs.Auction.{placement_on, stands_with, auction_from}
use Rattle.auctioneer.specs.Laws.{UsesRoom}
use Rattle.auctioneer.specs.Least.{best}
use Rattle.auctioneer.specs.Stands.{same_name, can_take, with_job, placed}
use Rattle.auctioneer.specs.declared.stand.Stand.{Stand}
use Rattle.room_facts.specs.Lacks.{has_tag}
use Rattle.room_facts.specs.Placings.{IsAlike, is_placed}
use Rattle.room_facts.specs.Rooms.{at_most, share_of, room_on, room_for}
use Rattle.room_facts.proofs.Fits.{HasRoom-can_take, can_take-HasRoom}
use Rattle.room_facts.proofs.Lists.{Apart, contains_cases, first, later, other_key, sum_by-none}
use Rattle.room_facts.proofs.Names.{test_from_same, other_from_test, Apart-from_rising}
use Rattle.room_facts.proofs.Placings.{Apart-after}
use Rattle.room_facts.proofs.Shares.{at_most-le, at_most-short, share-less}

-- what doesn't fit has no room there
share-none : (job : Job) (s : Stand) → has_tag job.tag s ≡ true → can_take job s ≡ false → share_of job s.free ≡ 0
share-none job s own unfit =
    let inner : ℕ = at_most s.free.containers s.free.memory job.memory in
    let by_disk : share_of job s.free ≤ inner = at_most-le inner s.free.disk job.disk in
    let by_slots : inner ≤ s.free.containers = at_most-le s.free.containers s.free.memory job.memory in
    elim (cases_lt s.free.memory job.memory) [
      | (inl memory) ↦ let none : inner ≡ 0 = at_most-short s.free.containers s.free.memory job.memory memory in
          omega (arith, none, by_disk)
      | (inr memory) ↦ elim (cases_lt s.free.disk job.disk) [
        | (inl disk) ↦ at_most-short inner s.free.disk job.disk disk
        | (inr disk) ↦ elim (cases_lt 0 s.free.containers) [
          | (inl slot) ↦
              let fit : can_take job s ≡ true = can_take-HasRoom job s
              (record { tag = own; memory = memory; disk = disk; container = slot }) in
              cc
          | (inr none) ↦ omega (arith, none, by_disk, by_slots)
        ]
      ]
    ]

room-none : (job : Job) (s : Stand) → can_take job s ≡ false → room_on job s ≡ 0
room-none job s unfit =
    elim (has_tag job.tag s) as (λ b. has_tag job.tag s ≡ b → cond b (share_of job s.free) 0 ≡ 0) [
      | true ↦ λ own. share-none job s own unfit
      | false ↦ λ other. refl
    ] refl

-- a job that is placed takes the room of one on its cell
room-with_job : (job : Job) (s : Stand) → can_take job s ≡ true → room_on job (with_job job s) + 1 ≡ room_on job s
room-with_job job s can =
    let room = HasRoom-can_take job s can in
    ap (λ b. cond b (share_of job (with_job job s).free) 0 + 1) room.tag
    ∙ share-less job s.free room.memory room.disk room.container
    ∙ ap (λ b. cond b (share_of job s.free) 0) (sym room.tag)

-- where no cell has the name, nothing changes
placed-none : (job : Job) (cell : List ℕ) (ss : List Stand)
    → ((s : Stand) → Contains ss s → same_name s.cell cell ≡ false)
    → room_for job (placed job cell ss) ≡ room_for job ss
placed-none job cell [] h = refl
placed-none job cell (s ∷ ss) h =
    let head : room_on job (cond (same_name s.cell cell) (with_job job s) s) ≡ room_on job s =
    ap (λ b. room_on job (cond b (with_job job s) s)) (h s (first s ss)) in
    let rest : room_for job (placed job cell ss) ≡ room_for job ss =
    placed-none job cell ss (λ t i. h t (later s ss t i)) in
    sum_by-cons (room_on job) (cond (same_name s.cell cell) (with_job job s) s) (placed job cell ss)
    ∙ (λ i. head i + rest i) ∙ sym (sum_by-cons (room_on job) s ss)

-- and of room on all cells
room-placed : (job : Job) (cell : List ℕ) (ss : List Stand) (u : Stand) → Apart (map (λ (s : Stand). s.cell) ss)
    → Contains ss u → u.cell ≡ cell → can_take job u ≡ true → room_for job (placed job cell ss) + 1 ≡ room_for job ss
room-placed job cell [] u apart (k, lt, at) name can = absurd (omega arith)
room-placed job cell (s ∷ ss) u apart inside name can =
    let now : Stand = cond (same_name s.cell cell) (with_job job s) s in
    let whole : room_for job (now ∷ placed job cell ss) ≡ room_on job now + room_for job (placed job cell ss) =
    sum_by-cons (room_on job) now (placed job cell ss) in
    let before : room_for job (s ∷ ss) ≡ room_on job s + room_for job ss = sum_by-cons (room_on job) s ss in
    elim (contains_cases s ss u inside) [
      | (inl one) ↦
          let named : s.cell ≡ cell = ap (λ (x : Stand). x.cell) one ∙ name in
          let here : room_on job now ≡ room_on job (with_job job s) =
          ap (λ b. room_on job (cond b (with_job job s) s)) (test_from_same s.cell cell named) in
          let less : room_on job (with_job job s) + 1 ≡ room_on job s =
          room-with_job job s (subst (λ (x : Stand). can_take job x ≡ true) (sym one) can) in
          let rest : room_for job (placed job cell ss) ≡ room_for job ss =
          placed-none job cell ss (λ t i. other_from_test t.cell cell
          (λ e. other_key (λ (x : Stand). x.cell) s ss t apart.0 i (named ∙ sym e))) in
          omega (arith, whole, before, here, less, rest)
      | (inr there) ↦
          let other : same_name s.cell cell ≡ false = other_from_test s.cell cell
          (λ e. other_key (λ (x : Stand). x.cell) s ss u apart.0 there (e ∙ sym name)) in
          let here : room_on job now ≡ room_on job s = ap (λ b. room_on job (cond b (with_job job s) s)) other in
          let rest : room_for job (placed job cell ss) + 1 ≡ room_for job ss =
          room-placed job cell ss u apart.1 there name can in
          omega (arith, whole, before, here, rest)
    ]

-- jobs alike have the same room
same_room : (size job : Job) → IsAlike size job → (ss : List Stand) → room_for job ss ≡ room_for size ss
same_room size job e ss = λ i. room_for (record size { tag = e.tag i; memory = e.memory i; disk = e.disk i }) ss

step : (size job : Job) (stands : List Stand) (n count : ℕ) → IsAlike size job
    → Apart (map (λ (s : Stand). s.cell) stands) → (o : Option Stand) → UsesRoom stands job (placement_on job o)
    → count ≡ min n (room_for size (stands_with job o stands))
    → cond (is_placed (placement_on job o)) 1 0 + count ≡ min (n + 1) (room_for size stands)
step size job stands n count alike apart None none rest =
    let no_room : room_for size stands ≡ 0 = sym (same_room size job alike stands) ∙ sum_by-none (room_on job) stands
    (λ s i. room-none job s (none s i)) in
    omega (arith, rest, no_room)
step size job stands n count alike apart (Some s) (u, inside, name, can) rest =
    let one_less : room_for job (placed job s.cell stands) + 1 ≡ room_for job stands =
    room-placed job s.cell stands u apart inside name can in
    let now = same_room size job alike stands in
    let left = same_room size job alike (placed job s.cell stands) in
    omega (arith, rest, one_less, now, left)

fill_from : (size : Job) (stands : List Stand) (jobs : List Job) → Apart (map (λ (s : Stand). s.cell) stands)
    → All (IsAlike size) jobs → count_by is_placed (auction_from stands jobs) ≡ min (length jobs) (room_for size stands)
fill_from size stands [] apart alike = omega arith
fill_from size stands (job ∷ jobs) apart alike =
    let o : Option Stand = best stands job in
    let rest = fill_from size (stands_with job o stands) jobs (Apart-after job o stands apart)
    (All-tail (IsAlike size) job jobs alike) in
    let one : min (length jobs + 1) (room_for size stands) ≡ min (length (job ∷ jobs)) (room_for size stands) =
    omega arith in
    sum_by-cons (λ p. cond (is_placed p) 1 0) (placement_on job o) (auction_from (stands_with job o stands) jobs)
    ∙ step size job stands (length jobs) (count_by is_placed (auction_from (stands_with job o stands) jobs))
    (All-head (IsAlike size) job jobs alike) apart o (takes_room stands (job ∷ jobs)).0 rest
    ∙ one

pub alike_fill : (size : Job) (stands : List Stand) (jobs : List Job) → IsRising name_order (λ s. s.cell) stands
    → All (IsAlike size) jobs → count_by is_placed (auction_from stands jobs) ≡ min (length jobs) (room_for size stands)
alike_fill size stands jobs rising alike = fill_from size stands jobs (Apart-from_rising stands rising) alike
