-- Cells that lack room, and the spots that are kept where these are left out.
use Rattle.std.proofs.Common.{◌≡◌, ℕ, ◌+◌, ◌<◌, ◌≤◌, true, false, ◌&&◌, List, [], ◌∷◌, ◌++◌, length, set, get_or, inl, inr, ◌⊎◌, refl, sym, ap, subst, ◌∙◌, arith}
use Rattle.std.specs.BTreeSet.{contains, IsFromIterResult}
use Rattle.std.specs.List.{Contains}
use Rattle.std.proofs.lemmas.Bool.{cases_eq, cases_lt, and_parts, leb-true, le-leb}
use Rattle.std.proofs.lemmas.List.{get_or_default, get_or_read, get_or-set_same, get_or-set_other}
use Rattle.std.proofs.lemmas.List.Elements.{Contains-append_left, Contains-push, Contains-push_cases}
use Rattle.cell_records.specs.declared.job.Job.{Job}
use Rattle.cell_records.specs.declared.job_name.JobName.{JobName}
use Rattle.auctioneer.specs.Needs.{asks_for, LacksRoom, IsUpTo}
use Rattle.auctioneer.specs.Spots.{spot_order, AreSpotsFor, IsRanking}
use Rattle.auctioneer.specs.Stands.{can_take, with_job}
use Rattle.auctioneer.specs.declared.groups.Group.{Group}
use Rattle.auctioneer.specs.declared.needs.Need.{Need}
use Rattle.auctioneer.specs.declared.spots.Spot.{Spot}
use Rattle.auctioneer.specs.declared.spots.Spots.{Spots}
use Rattle.auctioneer.specs.declared.stand.Stand.{Stand}
use Rattle.auctioneer.proofs.Placings.{HasRoom, HasRoom-can_take}
use Rattle.auctioneer.proofs.Refusals.{unfit_later}
use Rattle.auctioneer.proofs.SpotOrders.{AreAmong, AreCellsOf, IsOrderOf-made, IsOrderOf-whole}

-- each job asks for nothing at least
pub asks_for_nothing : (job : Job) → asks_for job (record { memory = 0; disk = 0 }) ≡ true
asks_for_nothing job =
    let memory = le-leb 0 job.memory (omega arith) in
    let disk = le-leb 0 job.disk (omega arith) in
    λ i. memory i && disk i

-- a cell that lacks something lacks more
pub LacksRoom-more : (need more : Need) (s : Stand) → IsUpTo need more → LacksRoom need s → LacksRoom more s
LacksRoom-more need more s upto lacks job asks =
    let parts = and_parts _ _ asks in
    let memory : more.memory ≤ job.memory = leb-true more.memory job.memory parts.0 in
    let disk : more.disk ≤ job.disk = leb-true more.disk job.disk parts.1 in
    let memory_too = le-leb need.memory job.memory (omega (arith, upto.memory)) in
    let disk_too = le-leb need.disk job.disk (omega (arith, upto.disk)) in
    lacks job (λ i. memory_too i && disk_too i)

-- where a job that asks for so much can't have room, the cell lacks it
pub LacksRoom-from : (need : Need) (s : Stand)
    → ((job : Job) → need.memory ≤ job.memory → need.disk ≤ job.disk → HasRoom job s → ⊥) → LacksRoom need s
LacksRoom-from need s none job asks =
    let parts = and_parts _ _ asks in
    let memory : need.memory ≤ job.memory = leb-true need.memory job.memory parts.0 in
    let disk : need.disk ≤ job.disk = leb-true need.disk job.disk parts.1 in
    elim (can_take job s) as (λ b. can_take job s ≡ b → b ≡ false) [
      | true ↦ λ yes. absurd (none job memory disk (HasRoom-can_take job s yes))
      | false ↦ λ no. refl
    ] refl

-- it lacks it still once jobs are put on cells
pub LacksRoom-put : (need : Need) (stands : List Stand) (at : ℕ) (s : Stand) (job : Job) (k : ℕ) (x : Stand)
    → at < length stands → s ≡ get_or stands at s → LacksRoom need (get_or stands k x)
    → LacksRoom need (get_or (set stands at (with_job job s)) k x)
LacksRoom-put need stands at s job k x inside is lacks other asks =
    elim (cases_eq k at) [
      | (inl same) ↦
          let was : get_or stands k x ≡ s = ap (λ n. get_or stands n x) same ∙ get_or_default stands at x s inside
          ∙ sym is in
          let here : get_or (set stands at (with_job job s)) k x ≡ with_job job s =
          ap (λ n. get_or (set stands at (with_job job s)) n x) same
          ∙ get_or-set_same stands at (with_job job s) x inside in
          ap (can_take other) here ∙ unfit_later job other s (sym (ap (can_take other) was) ∙ lacks other asks)
      | (inr apart) ↦ ap (can_take other) (get_or-set_other stands at k (with_job job s) x apart) ∙ lacks other asks
    ]

-- of the first cells the spots are kept of all that don't lack what is needed
pub record AreKept (all kept : List Spot) (stands : List Stand) (need : Need) (upto : ℕ) : Type 0 where
  pub among : AreCellsOf all → AreAmong kept all
  pub covered : (k : ℕ) (s : Stand) (p : Spot) → k < upto
      → Contains kept (get_or all k p) ⊎ LacksRoom need (get_or stands k s)

module _ (all kept : List Spot) (stands : List Stand) (need : Need) (at : ℕ) (h : AreKept all kept stands need at) where
  -- a cell more that is kept
  pub AreKept-push : (x : Spot) → at < length all → x ≡ get_or all at x
      → AreKept all (kept ++ x ∷ []) stands need (at + 1)
  AreKept-push x inside is = record {
    among = λ cells q there.
        elim (Contains-push_cases kept x q there) [
          | (inl old) ↦ h.among cells q old
          | (inr same) ↦
              let cell : q.cell ≡ at = sym (ap (λ (y : Spot). y.cell) (sym is ∙ same)) ∙ cells at x inside in (
                subst (λ n. n < length all) (sym cell) inside,
                ap (λ n. get_or all n q) cell
                    ∙ get_or_default all at q x inside ∙ sym is ∙ same,
              )
        ];
    covered = λ k s p below.
        elim (cases_lt k at) [
          | (inl lt) ↦
              elim (h.covered k s p lt) [
                | (inl old) ↦ inl (Contains-append_left kept (x ∷ []) (get_or all k p) old)
                | (inr lacks) ↦ inr lacks
              ]
          | (inr ge) ↦
              let same : k ≡ at = omega arith in
              let here : x ≡ get_or all k p = get_or_read all at x inside is p ∙ ap (λ n. get_or all n p) (sym same) in
              inl (subst (Contains (kept ++ x ∷ [])) here (Contains-push kept x))
        ];
  }

  -- a cell more that is left out, since it lacks more
  pub AreKept-more : (more : Need) (x : Stand) → IsUpTo need more → LacksRoom more x → at < length stands
      → x ≡ get_or stands at x → AreKept all kept stands more (at + 1)
  AreKept-more more x upto lacks inside is = record {
    among = h.among;
    covered = λ k s p below.
        elim (cases_lt k at) [
          | (inl lt) ↦
              elim (h.covered k s p lt) [
                | (inl old) ↦ inl old
                | (inr less) ↦ inr (LacksRoom-more need more (get_or stands k s) upto less)
              ]
          | (inr ge) ↦
              let same : k ≡ at = omega arith in
              inr (subst (LacksRoom more)
              (get_or_read stands at x inside is s ∙ ap (λ n. get_or stands n s) (sym same)) lacks)
        ];
  }

-- with their order they serve for each job that asks for so much
pub IsRanking-kept : (job : JobName) (groups : List Group) (stands : List Stand) (made : Spots) (kept : List Spot)
    (upto : ℕ) → length made.all.items ≤ upto → AreKept made.all.items kept stands made.need upto
    → IsFromIterResult spot_order kept made.order → AreSpotsFor job groups stands made.all.items
    → IsRanking job groups stands made
IsRanking-kept job groups stands made kept upto whole h order spots =
    let all = made.all.items in
    let cells : AreCellsOf all = λ k p below. (spots.each k p (omega (arith, spots.all))).cell in
    record {
      spots = spots;
      order = IsOrderOf-made made.order kept all (h.among cells) order;
      left_out = λ k s p below out.
          elim (h.covered k s p (omega arith)) [
            | (inl there) ↦
                let yes : contains spot_order made.order (get_or all k p) ≡ true =
                subst (λ (q : Spot). contains spot_order made.order q ≡ true) there.2
                (IsOrderOf-whole made.order kept order there.0 (get_or all k p) there.1) in
                absurd cc
            | (inr lacks) ↦ lacks
          ];
    }
