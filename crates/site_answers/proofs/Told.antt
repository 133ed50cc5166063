-- What is told of tags by a plan, whose cells are as far as room goes.
use Rattle.std.proofs.Common.{◌≡◌, ℕ, suc, ◌≤◌, ◌^◌, List, [], ◌∷◌, length, map, filter, if◌then◌else◌, Option, Some, None, refl, sym, subst, ◌∙◌, arith}
use Rattle.std.proofs.lemmas.List.{length-append, length-map}
use Rattle.cell_records.specs.declared.job.Job.{Job}
use Rattle.auctioneer.specs.Auction.{stands_with}
use Rattle.auctioneer.specs.Least.{best}
use Rattle.auctioneer.specs.Order.{turn_of, turn_order}
use Rattle.auctioneer.specs.Stands.{same_name, with_job}
use Rattle.auctioneer.specs.declared.stand.Stand.{Stand}
use Rattle.auctioneer.proofs.Public.{IsKeyOrder-turn_order, same_turn}
use Rattle.room_facts.specs.Lacks.{has_tag}
use Rattle.room_facts.specs.Rooms.{of_tag, sums}
use Rattle.site_answers.specs.Sums.{as_sums}
use Rattle.site_answers.specs.Tags.{tag_room, tag_rooms, tags_of}
use Rattle.what_if.specs.Plans.{if_none, jobs_of_loss, left_of, left_over, stands_before, stands_from, stands_then, without_jobs}
use Rattle.what_if.specs.Sites.{IsSite}
use Rattle.what_if.specs.Stays.{open_cells}
use Rattle.what_if.specs.Waiting.{does_wait, instance_job, waits}
use Rattle.what_if.specs.declared.site.Site.{Site}
use Rattle.what_if.proofs.Agreeing.{count-map, map-same}
use Rattle.what_if.proofs.Bare.{free_of_tag-bare, verdict_of-bare}
use Rattle.what_if.proofs.Differing.{differ-by, length-table}
use Rattle.what_if.proofs.Few.{few_bare, few_jobs, few_stands}
use Rattle.what_if.proofs.Lists.{shorter}
use Rattle.what_if.proofs.Open.{AreAnswers-open}

tag_room-bare : (ss : List Stand) (jobs left counting : List Job) (tag : Option (List ℕ))
    → tag_room (map without_jobs ss) jobs left counting tag ≡ tag_room ss jobs left counting tag
tag_room-bare ss jobs left counting tag = λ i. record {
  tag = tag;
  cells_left = count-map (has_tag tag) without_jobs ss i;
  jobs = length (of_tag tag jobs);
  asked = as_sums (sums (of_tag tag jobs));
  free = as_sums (free_of_tag-bare tag ss i);
  unplaced = length (of_tag tag left);
  unplaced_memory = (sums (of_tag tag left)).memory;
  verdict = verdict_of-bare ss jobs (of_tag tag counting) i;
}

-- the rooms of all tags, by the parts of a plan
pub rooms-of_plan : (site : Site) (lost : List (List ℕ)) (counting : List Job) (before : List Stand)
    (jobs left : List Job) → before ≡ map without_jobs (stands_before site lost) → jobs ≡ jobs_of_loss site lost
    → left ≡ left_of site lost → map (tag_room before jobs left counting) (tags_of site.cells jobs)
    ≡ tag_rooms site lost counting
rooms-of_plan site lost counting before jobs left b j l =
    (λ i. map (tag_room (b i) (j i) (l i) counting) (tags_of site.cells (j i)))
    ∙ map-same (tag_room (map without_jobs (stands_before site lost)) (jobs_of_loss site lost)
    (left_of site lost) counting) (tag_room (stands_before site lost) (jobs_of_loss site lost)
    (left_of site lost) counting)
    (tag_room-bare (stands_before site lost) (jobs_of_loss site lost) (left_of site lost) counting)
    (tags_of site.cells (jobs_of_loss site lost))

-- cells and jobs are few
pub few_before : (site : Site) (lost : List (List ℕ)) (ss : List Stand) → IsSite site
    → ss ≡ map without_jobs (stands_before site lost) → length ss ≤ 2 ^ 32
few_before site lost ss h e = few_bare ss (open_cells site lost) (AreAnswers-open site lost h.cells) e

few_waits : (site : Site) (lost : List (List ℕ)) → IsSite site → length (waits site lost) ≤ 2 ^ 32
few_waits site lost h =
    let passed = filter (does_wait site lost) site.wanted in
    omega (
      arith,
      length-append (map instance_job passed) site.pending,
      length-map passed instance_job,
      shorter (does_wait site lost) site.wanted,
      h.few,
    )

pub few_waiting : (site : Site) (lost : List (List ℕ)) (jobs : List Job) → IsSite site → jobs ≡ jobs_of_loss site lost
    → length jobs ≤ 2 ^ 32
few_waiting site lost jobs h e = few_jobs jobs (waits site lost) (few_waits site lost h) e

fewer_left : {X : Type 0} (tell : List Stand → Job → X) (ss : List Stand) (jobs : List Job)
    → length (left_over tell ss jobs) ≤ length jobs
fewer_left tell ss [] = omega arith
fewer_left tell ss (job ∷ jobs) =
    let rest = fewer_left tell (stands_with job (best ss job) ss) jobs in
    either (best ss job) (tell ss job) (left_over tell (stands_with job (best ss job) ss) jobs) (length jobs) rest
  where
    either : {X : Type 0} (o : Option Stand) (x : X) (xs : List X) (n : ℕ) → length xs ≤ n
        → length (if_none o x xs) ≤ suc n
    either None x xs n h = omega arith
    either (Some s) x xs n h = omega arith

pub few_left : (site : Site) (lost : List (List ℕ)) (left : List Job) → IsSite site → left ≡ left_of site lost
    → length left ≤ 2 ^ 32
few_left site lost left h e =
    subst (λ (js : List Job). length js ≤ 2 ^ 32) (sym e)
    (omega (
      arith,
      fewer_left (λ turn (j : Job). j) (stands_before site lost) (jobs_of_loss site lost),
      few_waiting site lost (jobs_of_loss site lost) h refl,
    ))

-- all that waits has its turn
pub all_in_order : (site : Site) (lost : List (List ℕ)) → IsSite site
    → length (jobs_of_loss site lost) ≡ length (waits site lost)
all_in_order site lost h =
    length-table turn_order turn_of IsKeyOrder-turn_order (waits site lost)
    (differ-by (λ (j : Job). j.job) turn_of same_turn (waits site lost) (h.jobs (does_wait site lost)))

-- an auction leaves as many cells as it begins with
same_many : (ss : List Stand) (jobs : List Job) → length (stands_from ss jobs) ≡ length ss
same_many ss [] = refl
same_many ss (job ∷ jobs) = same_many (stands_with job (best ss job) ss) jobs ∙ either (best ss job)
  where
    either : (o : Option Stand) → length (stands_with job o ss) ≡ length ss
    either None = refl
    either (Some s) = length-map ss (λ (t : Stand). if same_name t.cell s.cell then with_job job t else t)

pub few_then : (site : Site) (lost : List (List ℕ)) (ss : List Stand) → IsSite site → ss ≡ stands_then site lost
    → length ss ≤ 2 ^ 32
few_then site lost ss h e =
    subst (λ (xs : List Stand). length xs ≤ 2 ^ 32) (sym e)
    (omega (
      arith,
      same_many (stands_before site lost) (jobs_of_loss site lost),
      few_stands (stands_before site lost) (open_cells site lost) (AreAnswers-open site lost h.cells) refl,
    ))
