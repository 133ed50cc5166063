-- Of jobs of one size all find room, or it is shown that not all can.
use Rattle.std.proofs.Common.{◌≡◌, ℕ, ◌+◌, ◌<◌, ◌≤◌, Bool, true, cond, leb, ltb, min, List, [], ◌∷◌, length, Option, Some, None, sym, ap, ◌∙◌, arith}
use Rattle.std.specs.List.{All, count_by, list_any}
use Rattle.std.proofs.lemmas.Bool.{and_from, le-leb, lt-leb, lt-ltb, or_left}
use Rattle.std.proofs.lemmas.List.Elements.{All-cons, All-contains, All-head, All-tail}
use Rattle.std.proofs.lemmas.List.Sums.{sum_by-cons}
use Rattle.cell_records.specs.declared.job.Job.{Job}
use Rattle.auctioneer.specs.Auction.{auction_from, placement_on, stands_with}
use Rattle.auctioneer.specs.Least.{best}
use Rattle.auctioneer.specs.declared.placement.Placement.{Placement}
use Rattle.auctioneer.specs.declared.placement.Placement.TheVariants.{On, NoRoom}
use Rattle.auctioneer.specs.declared.stand.Stand.{Stand}
use Rattle.forecast_records.specs.declared.verdict.Verdict.TheVariants.{Room, Short}
use Rattle.room_facts.specs.Placings.{IsAlike, is_placed}
use Rattle.room_facts.specs.Rooms.{as_large, is_as_large, is_for, is_short, room_for}
use Rattle.room_facts.proofs.Lists.{sum_by-filter, sum_by-ones}
use Rattle.room_facts.proofs.Names.{test_from_tag}
use Rattle.what_if.specs.Plans.{if_none, jobs_left}
use Rattle.what_if.specs.Verdicts.{short_if, verdict_of}

-- a job alike counts as one as large
counts : (size x : Job) → IsAlike size x → ◌≡◌ {A = ℕ} (cond (is_for size.tag x) (cond (is_as_large size x) 1 0) 0) 1
counts size x e =
    let one : ℕ = 1 in
    let none : ℕ = 0 in
    ap (λ (b : Bool). cond b (cond (is_as_large size x) one none) none) (test_from_tag size.tag x.tag (sym e.tag))
    ∙ ap (λ (b : Bool). cond b one none) (and_from _ _ (le-leb size.memory x.memory (omega (arith, e.memory)))
    (le-leb size.disk x.disk (omega (arith, e.disk))))

all_as_large : (size : Job) (jobs : List Job) → All (IsAlike size) jobs → as_large size jobs ≡ length jobs
all_as_large size jobs alike =
    sum_by-filter (λ (j : Job). cond (is_as_large size j) 1 0) (is_for size.tag) jobs
    ∙ sum_by-ones (λ (j : Job). cond (is_for size.tag j) (cond (is_as_large size j) 1 0) 0) jobs
    (λ j i. counts size j (All-contains (IsAlike size) jobs j alike i))

-- a job has a cell or is left over
one_of_both : (o : Option Stand) (job : Job) (left : List Job) (ps : List Placement) (n : ℕ)
    → length left + count_by is_placed ps ≡ n → length (if_none o job left) + count_by is_placed
    (placement_on job o ∷ ps) ≡ n + 1
one_of_both None job left ps n h =
    let more : count_by is_placed (NoRoom job.job ∷ ps) ≡ 0 + count_by is_placed ps =
    sum_by-cons (λ (p : Placement). cond (is_placed p) 1 0) (NoRoom job.job) ps in
    let all : length (job ∷ left) + count_by is_placed (NoRoom job.job ∷ ps) ≡ n + 1 = omega (arith, h, more) in
    all
one_of_both (Some s) job left ps n h =
    let more : count_by is_placed (On job.job s.cell ∷ ps) ≡ 1 + count_by is_placed ps =
    sum_by-cons (λ (p : Placement). cond (is_placed p) 1 0) (On job.job s.cell) ps in
    let all : length left + count_by is_placed (On job.job s.cell ∷ ps) ≡ n + 1 = omega (arith, h, more) in
    all

left_and_placed : (stands : List Stand) (jobs : List Job)
    → length (jobs_left stands jobs) + count_by is_placed (auction_from stands jobs) ≡ length jobs
left_and_placed stands [] = omega arith
left_and_placed stands (job ∷ jobs) =
    let next : List Stand = stands_with job (best stands job) stands in
    let one = one_of_both (best stands job) job (jobs_left next jobs) (auction_from next jobs) (length jobs)
    (left_and_placed next jobs) in
    let more : length jobs + 1 ≡ length (job ∷ jobs) = omega arith in
    one ∙ more

-- what holds of each job holds of those left over
if_none-all : (P : Job → Type 0) (o : Option Stand) (job : Job) (left : List Job) → P job → All P left
    → All P (if_none o job left)
if_none-all P None job left one h = All-cons P job left one h
if_none-all P (Some s) job left one h = h

left-all : (P : Job → Type 0) (stands : List Stand) (jobs : List Job) → All P jobs → All P (jobs_left stands jobs)
left-all P stands [] h = h
left-all P stands (job ∷ jobs) h =
    let next : List Stand = stands_with job (best stands job) stands in
    if_none-all P (best stands job) job (jobs_left next jobs) (All-head P job jobs h)
    (left-all P next jobs (All-tail P job jobs h))

-- jobs alike are short alike
same_shortage : (size job : Job) → IsAlike size job → (stands : List Stand) (jobs : List Job)
    → is_short stands jobs job ≡ is_short stands jobs size
same_shortage size job e stands jobs = λ i. is_short stands jobs
    (record size { tag = e.tag i; memory = e.memory i; disk = e.disk i })

shown_short : (size : Job) (stands : List Stand) (jobs : List Job) → All (IsAlike size) jobs
    → room_for size stands < length jobs → is_short stands jobs size ≡ true
shown_short size stands jobs alike less =
    let all = all_as_large size jobs alike in
    or_left (ltb (room_for size stands) (as_large size jobs)) _
    (lt-ltb (room_for size stands) (as_large size jobs) (omega (arith, less, all)))

decide : (size : Job) (stands : List Stand) (jobs left : List Job) → All (IsAlike size) jobs → All (IsAlike size) left
    → length left + min (length jobs) (room_for size stands) ≡ length jobs
    → verdict_of stands jobs left ≡ cond (leb (length jobs) (room_for size stands)) Room Short
decide size stands jobs [] alike same e =
    let fits : length jobs ≤ room_for size stands = omega (arith, e) in
    ap (λ (b : Bool). cond b Room Short) (sym (le-leb (length jobs) (room_for size stands) fits))
decide size stands jobs (j ∷ js) alike same e =
    let less : room_for size stands < length jobs = omega (arith, e) in
    let here : is_short stands jobs j ≡ true = same_shortage size j
    (All-head (IsAlike size) j js same) stands jobs ∙ shown_short size stands jobs alike less in
    ap short_if (or_left (is_short stands jobs j) (list_any (is_short stands jobs) js) here)
    ∙ ap (λ (b : Bool). cond b Room Short) (sym (lt-leb (length jobs) (room_for size stands) less))

-- room where as many find room as are asked for, and else short
pub verdict_by_room : (size : Job) (stands : List Stand) (jobs : List Job) → All (IsAlike size) jobs
    → count_by is_placed (auction_from stands jobs) ≡ min (length jobs) (room_for size stands)
    → verdict_of stands jobs (jobs_left stands jobs) ≡ cond (leb (length jobs) (room_for size stands)) Room Short
verdict_by_room size stands jobs alike placed =
    let both = left_and_placed stands jobs in
    decide size stands jobs (jobs_left stands jobs) alike (left-all (IsAlike size) stands jobs alike)
    (omega (arith, both, placed))
