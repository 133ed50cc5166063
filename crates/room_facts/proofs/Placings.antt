-- Where the auction places each job, there is a placing.
use Rattle.std.proofs.Common.{◌≡◌, ◌≢◌, ℕ, suc, ◌<◌, Bool, true, false, ◌&&◌, cond, eqb, List, [], ◌∷◌, length, map, filter, get_or, Option, Some, None, refl, sym, ap, subst, ◌∙◌, arith}
use Rattle.std.specs.List.{All, AllPairs, Contains}
use Rattle.std.proofs.lemmas.Bool.{and_parts, and_from, eqb-true, eq-eqb, false_from_ne_true}
use Rattle.std.proofs.lemmas.List.{length-map, get_or-map}
use Rattle.std.proofs.lemmas.List.Elements.{All-nil, All-cons, All-head, All-tail, Contains-get_or}
use Rattle.std.proofs.lemmas.List.Sums.{sum_by-cons}
use Rattle.row_tables.specs.Table.{IsRising}
use Rattle.diego_names.specs.Order.{name_order}
use Rattle.cell_records.specs.declared.job.Job.{Job}
use Rattle.cell_records.specs.declared.job_name.JobName.{JobName}
use Rattle.cell_records.specs.declared.job_name.JobName.TheVariants.{Lrp, Task}
use Rattle.auction_scoring.specs.Fits.{IsWithin}
use Rattle.auctioneer.proofs.Public.{jobs_placed, takes_room}
use Rattle.auctioneer.specs.Asked.{AreJobs}
use Rattle.auctioneer.specs.Auction.{placement_on, stands_with, auction_from}
use Rattle.auctioneer.specs.Laws.{job_in, UsesRoom}
use Rattle.auctioneer.specs.Least.{best}
use Rattle.auctioneer.specs.Stands.{same_name, can_take, with_job, placed}
use Rattle.auctioneer.specs.declared.placement.Placement.{Placement}
use Rattle.auctioneer.specs.declared.placement.Placement.TheVariants.{On, NoRoom}
use Rattle.auctioneer.specs.declared.stand.Stand.{Stand}
use Rattle.room_facts.specs.Placings.{IsPlacing, GoesBy, is_placed}
use Rattle.room_facts.specs.Rooms.{sums}
use Rattle.room_facts.proofs.Fits.{HasRoom-can_take}
use Rattle.room_facts.proofs.Lists.{Apart, same_element}
use Rattle.room_facts.proofs.Names.{same_from_test, test_from_same, other_from_test, same_tag, Apart-from_rising, name_kept, tag_kept, names_kept}

-- a cell behind a placement is one from before it
cell_before : (job : Job) (cell : List ℕ) (ss : List Stand) (t : Stand) → Contains (placed job cell ss) t
    → (s : Stand) × Contains ss s × (t.cell ≡ s.cell) × (t.tag ≡ s.tag)
cell_before job cell ss t (k, lt, at) =
    let below : k < length ss = simp length-map at lt in
    let s : Stand = get_or ss k t in
    let b : Bool = same_name s.cell cell in
    let is : t ≡ cond b (with_job job s) s = sym at ∙ get_or-map
    (λ (s : Stand). cond (same_name s.cell cell) (with_job job s) s) ss k t t below in (
      s,
      Contains-get_or ss k t below,
      ap (λ (x : Stand). x.cell) is ∙ name_kept b job s,
      ap (λ (x : Stand). x.tag) is ∙ tag_kept b job s,
    )

-- one cell with the first job and the others
module _ (job : Job) (jobs : List Job) (on : JobName → List ℕ) (cell : List ℕ) (goes : on job.job ≡ cell)
    (t : Stand) where
  abbrev WithinAt : Bool → Type 0
  WithinAt b = IsWithin (sums (filter (λ j. same_name (on j.job) (cond b (with_job job t) t).cell) jobs))
      (cond b (with_job job t) t).free

  abbrev WithinBoth : Bool → Type 0
  WithinBoth b =
      IsWithin (sums (cond b (job ∷ filter (λ j. same_name (on j.job) t.cell) jobs)
      (filter (λ j. same_name (on j.job) t.cell) jobs))) t.free

  here : (b : Bool) → (b ≡ true → can_take job t ≡ true) → WithinAt b → WithinBoth b
  here true can h =
      let room = HasRoom-can_take job t (can refl) in
      let left = filter (λ j. same_name (on j.job) t.cell) jobs in
      record {
        memory = omega (arith, sum_by-cons (λ (j : Job). j.memory) job left, h.memory, room.memory);
        disk = omega (arith, sum_by-cons (λ (j : Job). j.disk) job left, h.disk, room.disk);
        containers = omega (arith, h.containers, room.container);
      }
  here false can h = h

  asked_here : same_name (on job.job) t.cell ≡ same_name t.cell cell
  asked_here =
      elim (same_name t.cell cell) as (λ b. same_name t.cell cell ≡ b → same_name (on job.job) t.cell ≡ b) [
        | true ↦ λ e. test_from_same (on job.job) t.cell (goes ∙ sym (same_from_test t.cell cell e))
        | false ↦ λ e. other_from_test (on job.job) t.cell
            (λ same. let yes : same_name t.cell cell ≡ true = test_from_same t.cell cell (sym same ∙ goes) in cc)
      ] refl

  pub within_both : (same_name t.cell cell ≡ true → can_take job t ≡ true) → WithinAt (same_name t.cell cell)
      → IsWithin (sums (filter (λ j. same_name (on j.job) t.cell) (job ∷ jobs))) t.free
  within_both can h = subst WithinBoth (sym asked_here) (here (same_name t.cell cell) can h)

-- the first job and a placing of the others
step : (stands : List Stand) (job : Job) (jobs : List Job) (on : JobName → List ℕ)
    → Apart (map (λ (s : Stand). s.cell) stands) → (o : Option Stand) → UsesRoom stands job (placement_on job o)
    → is_placed (placement_on job o) ≡ true → GoesBy on (placement_on job o)
    → IsPlacing (stands_with job o stands) jobs on → IsPlacing stands (job ∷ jobs) on
step stands job jobs on apart None room is goes h = cc
step stands job jobs on apart (Some s) (u, inside, name, can) is goes h = record {
  tags =
      All-cons (λ j. (s : Stand) × Contains stands s × (s.cell ≡ on j.job) × (s.tag ≡ j.tag)) job jobs
      (u, inside, name ∙ sym goes, sym (same_tag job.tag u.tag (HasRoom-can_take job u can).tag))
      (λ k d below.
      let at = h.tags k d below in
      let was = cell_before job s.cell stands at.0 at.1 in
      (was.0, was.1, sym was.2 ∙ at.2, sym was.3 ∙ at.3));
  within = λ k d below.
      let t : Stand = get_or stands k d in
      let there : k < length (placed job s.cell stands) = simp length-map below in
      let now = get_or-map (λ (s' : Stand). cond (same_name s'.cell s.cell) (with_job job s') s') stands k d d below in
      within_both job jobs on s.cell goes t
      (λ e. subst (λ (x : Stand). can_take job x ≡ true)
      (same_element (λ (x : Stand). x.cell) stands u t apart inside (Contains-get_or stands k d below)
      (name ∙ sym (same_from_test t.cell s.cell e))) can)
      (subst (λ (x : Stand). IsWithin (sums (filter (λ j. same_name (on j.job) x.cell) jobs)) x.free) now
      (h.within k d there));
}

names_after : (job : Job) (o : Option Stand) (stands : List Stand)
    → map (λ (s : Stand). s.cell) (stands_with job o stands) ≡ map (λ (s : Stand). s.cell) stands
names_after job None stands = refl
names_after job (Some s) stands = names_kept job s.cell stands

pub Apart-after : (job : Job) (o : Option Stand) (stands : List Stand) → Apart (map (λ (s : Stand). s.cell) stands)
    → Apart (map (λ (s : Stand). s.cell) (stands_with job o stands))
Apart-after job o stands h = subst Apart (sym (names_after job o stands)) h

placing_from : (stands : List Stand) (jobs : List Job) (on : JobName → List ℕ)
    → Apart (map (λ (s : Stand). s.cell) stands) → All (λ p. is_placed p ≡ true) (auction_from stands jobs)
    → All (GoesBy on) (auction_from stands jobs) → IsPlacing stands jobs on
placing_from stands [] on apart all goes = record {
  tags = All-nil (λ (j : Job). (s : Stand) × Contains stands s × (s.cell ≡ on j.job) × (s.tag ≡ j.tag));
  within = λ k d below. record { memory = omega arith; disk = omega arith; containers = omega arith };
}
placing_from stands (job ∷ jobs) on apart all goes =
    let o : Option Stand = best stands job in
    let rest = auction_from (stands_with job o stands) jobs in
    step stands job jobs on apart o (takes_room stands (job ∷ jobs)).0
    (All-head (λ p. is_placed p ≡ true) (placement_on job o) rest all)
    (All-head (GoesBy on) (placement_on job o) rest goes)
    (placing_from (stands_with job o stands) jobs on (Apart-after job o stands apart)
    (All-tail (λ p. is_placed p ≡ true) (placement_on job o) rest all)
    (All-tail (GoesBy on) (placement_on job o) rest goes))

pub auction_is_a_placing : (stands : List Stand) (jobs : List Job) → IsRising name_order (λ s. s.cell) stands
    → All (λ p. is_placed p ≡ true) (auction_from stands jobs) → (on : JobName → List ℕ)
    → All (GoesBy on) (auction_from stands jobs) → IsPlacing stands jobs on
auction_is_a_placing stands jobs rising all on goes = placing_from stands jobs on
    (Apart-from_rising stands rising) all goes

-- whether two jobs have one name
same_job : JobName → JobName → Bool
same_job (Lrp a) (Lrp b) = same_name a.process b.process && eqb a.index b.index
same_job (Lrp a) (Task b) = false
same_job (Task a) (Lrp b) = false
same_job (Task a) (Task b) = same_name a b

job_itself : (a : JobName) → same_job a a ≡ true
unfolding same_job
job_itself (Lrp k) = and_from _ _ (test_from_same k.process k.process refl) (eq-eqb k.index k.index refl)
job_itself (Task n) = test_from_same n n refl

job_from_test : (a b : JobName) → same_job a b ≡ true → a ≡ b
unfolding same_job
job_from_test (Lrp a) (Lrp b) e =
    let parts = and_parts _ _ e in
    let process : a.process ≡ b.process = same_from_test a.process b.process parts.0 in
    let index : a.index ≡ b.index = eqb-true a.index b.index parts.1 in
    λ i. Lrp (record { process = process i; index = index i })
job_from_test (Lrp a) (Task b) e = cc
job_from_test (Task a) (Lrp b) e = cc
job_from_test (Task a) (Task b) e = ap Task (same_from_test a b e)

-- where the jobs' names differ, some function goes by the placements
keeps_going : (job : JobName) (cell : List ℕ) (on : JobName → List ℕ) (p : Placement) → job ≢ job_in p → GoesBy on p
    → GoesBy (λ j. cond (same_job job j) cell (on j)) p
keeps_going job cell on (On other there) apart goes =
    ap (λ b. cond b cell (on other)) (false_from_ne_true (same_job job other) (λ e. apart (job_from_test job other e)))
    ∙ goes
keeps_going job cell on (NoRoom other) apart goes = tt

other_job : (job : JobName) (ps : List Placement) (k : ℕ) (d : Placement) → All (λ n. job ≢ n) (map job_in ps)
    → k < length ps → job ≢ job_in (get_or ps k d)
other_job job ps k d h below =
    subst (λ n. job ≢ n) (get_or-map job_in ps k d (job_in d) below) (h k (job_in d) (simp length-map below))

goes_by : (ps : List Placement) → Apart (map job_in ps) → (on : JobName → List ℕ) × All (GoesBy on) ps
goes_by [] h = (λ j. [], All-nil (GoesBy (λ j. [])))
goes_by (On job cell ∷ ps) h =
    let rest = goes_by ps h.1 in
    let on : JobName → List ℕ = λ j. cond (same_job job j) cell (rest.0 j) in (
      on,
      All-cons (GoesBy on) (On job cell) ps (ap (λ b. cond b cell (rest.0 job)) (job_itself job))
          (λ k d below.
          keeps_going job cell rest.0 (get_or ps k d) (other_job job ps k d h.0 below) (rest.1 k d below)),
    )
goes_by (NoRoom job ∷ ps) h =
    let rest = goes_by ps h.1 in
    (rest.0, All-cons (GoesBy rest.0) (NoRoom job) ps tt rest.1)

Apart-from_pairs : {X : Type 0} (xs : List X) → AllPairs (λ a b. a ≢ b) xs → Apart xs
Apart-from_pairs [] h = tt
Apart-from_pairs (x ∷ xs) h = (
  (λ k d below. h 0 (suc k) d (omega arith) (omega arith)),
  Apart-from_pairs xs (λ i j d lt below. h (suc i) (suc j) d (omega arith) (omega arith)),
)

pub some_placing : (stands : List Stand) (jobs : List Job) → IsRising name_order (λ s. s.cell) stands → AreJobs jobs
    → All (λ p. is_placed p ≡ true) (auction_from stands jobs)
    → (on : JobName → List ℕ) × All (GoesBy on) (auction_from stands jobs) × IsPlacing stands jobs on
some_placing stands jobs rising differ all =
    let ps = auction_from stands jobs in
    let apart : Apart (map job_in ps) = subst Apart (sym (jobs_placed stands jobs))
    (Apart-from_pairs (map (λ j. j.job) jobs) differ) in
    let found = goes_by ps apart in
    (found.0, found.1, auction_is_a_placing stands jobs rising all found.0 found.1)
