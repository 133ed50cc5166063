-- How many jobs and cells there are at most.
use Rattle.std.proofs.Common.{◌≡◌, ℕ, ◌+◌, ◌≤◌, ◌^◌, Bool, true, false, cond, List, [], ◌∷◌, length, map, filter, is_some, sym, subst, arith}
use Rattle.std.specs.declared.cmp.Ordering.{Ordering}
use Rattle.std.proofs.lemmas.List.{length-append, length-map}
use Rattle.diego_names.specs.Order.{name_order}
use Rattle.diego_names.proofs.Public.{IsKeyOrder-name_order}
use Rattle.row_tables.specs.Table.{find_row, table, IsKeyOrder}
use Rattle.row_tables.proofs.Public.{length-put_row, IsRising-table}
use Rattle.cell_records.specs.declared.answer.Answer.{Answer}
use Rattle.cell_records.specs.declared.job.Job.{Job}
use Rattle.auctioneer.specs.Asked.{AreAnswers}
use Rattle.auctioneer.specs.Order.{in_order, turn_of, turn_order}
use Rattle.auctioneer.specs.Stands.{stand_of, stands_of}
use Rattle.auctioneer.specs.declared.stand.Stand.{Stand}
use Rattle.auctioneer.proofs.Public.{IsKeyOrder-turn_order}
use Rattle.what_if.specs.Holders.{does_wait_by, waits_by}
use Rattle.what_if.specs.Plans.{without_jobs}
use Rattle.what_if.specs.Waiting.{instance_job}
use Rattle.what_if.specs.declared.site.Site.{Site}
use Rattle.what_if.specs.declared.standing.Holders.{Holders}
use Rattle.what_if.proofs.Lists.{shorter}

-- a row more or none
one_more : (b : Bool) (n m : ℕ) → n ≤ m → cond b n (n + 1) ≤ m + 1
one_more true n m h = omega arith
one_more false n m h = omega arith

-- a table has no more rows than there are
pub table_few : {K X : Type 0} (R : K → K → Ordering) (key : X → K) → IsKeyOrder R → (xs : List X)
    → length (table R key xs) ≤ length xs
table_few R key o [] = omega arith
table_few R key o (x ∷ xs) =
    let rest = table_few R key o xs in
    let more = one_more (is_some (find_row R key (key x) (table R key xs))) (length (table R key xs))
    (length xs) rest in
    let same = length-put_row R key o x (table R key xs) (IsRising-table R key o xs) in
    omega (arith, more, same)

pub in_order_few : (jobs : List Job) → length (in_order jobs) ≤ length jobs
in_order_few jobs = table_few turn_order turn_of IsKeyOrder-turn_order jobs

pub stands_few : (cells : List Answer) → length (stands_of cells) ≤ length cells
stands_few cells =
    let few = table_few name_order (λ (s : Stand). s.cell) IsKeyOrder-name_order (map stand_of cells) in
    omega (arith, few, length-map cells stand_of)

pub waits_few : (site : Site) (h : Holders) → length (waits_by site h) ≤ length site.wanted + length site.pending
waits_few site h =
    let both = length-append (map instance_job (filter (does_wait_by h) site.wanted)) site.pending in
    omega (
      arith,
      both,
      length-map (filter (does_wait_by h) site.wanted) instance_job,
      shorter (does_wait_by h) site.wanted,
    )

-- the cells of an auction, and the jobs of one, are few
pub few_stands : (ss : List Stand) (cells : List Answer) → AreAnswers cells → ss ≡ stands_of cells → length ss ≤ 2 ^ 32
few_stands ss cells h e =
    subst (λ (xs : List Stand). length xs ≤ 2 ^ 32) (sym e) (omega (arith, stands_few cells, h.few))

pub few_bare : (ss : List Stand) (cells : List Answer) → AreAnswers cells → ss ≡ map without_jobs (stands_of cells)
    → length ss ≤ 2 ^ 32
few_bare ss cells h e =
    subst (λ (xs : List Stand). length xs ≤ 2 ^ 32) (sym e)
    (omega (arith, stands_few cells, h.few, length-map (stands_of cells) without_jobs))

pub few_jobs : (jobs waiting : List Job) → length waiting ≤ 2 ^ 32 → jobs ≡ in_order waiting → length jobs ≤ 2 ^ 32
few_jobs jobs waiting few e =
    subst (λ (xs : List Job). length xs ≤ 2 ^ 32) (sym e) (omega (arith, in_order_few waiting, few))
