-- Orders of the cells: in groups of one tag and mostly of one zone, by what a cell scores at least, then by name.
use Rattle.std.specs.Prelude.{◌≡◌, ℕ, ◌<◌, ◌≤◌, true, false, is_some, List, length, slice_index_or, IfSome}
use Rattle.std.specs.BTreeSet.{BTreeSet, contains}
use Rattle.std.specs.Ordering.{nat_cmp, on, then_cmp}
use Rattle.std.specs.declared.cmp.Ordering.{Ordering}
use Rattle.auction_scoring.specs.Score.{load_of}
use Rattle.cell_records.specs.declared.job_name.JobName.{JobName}
use Rattle.auctioneer.specs.Needs.{LacksRoom}
use Rattle.auctioneer.specs.Stands.{view_of, in_zone, held_of}
use Rattle.auctioneer.specs.declared.groups.Group.{Group}
use Rattle.auctioneer.specs.declared.spots.Spot.{Spot}
use Rattle.auctioneer.specs.declared.spots.Spots.{Spots}
use Rattle.auctioneer.specs.declared.stand.Stand.{Stand}

-- by group, then by what the cell scores at least, then by its place in the order of names
abbrev pub spot_order : Spot → Spot → Ordering
spot_order =
    then_cmp (on (λ p. p.group) nat_cmp)
    (then_cmp (on (λ p. p.in_zone) nat_cmp)
    (then_cmp (on (λ p. p.on_cell) nat_cmp)
    (then_cmp (on (λ p. p.load) nat_cmp) (on (λ p. p.cell) nat_cmp))))

-- how full the cell is
abbrev pub load_in : Stand → ℕ
load_in s = load_of (view_of s 0 0)

-- the group of that number has the cell's tag, and if it is of one zone its zone
pub record IsGroupOf (groups : List Group) (s : Stand) (number : ℕ) : Type 0 where
  pub inside : number < length groups
  pub tag : (g : Group) → (slice_index_or groups number g).tag ≡ s.tag
  pub zone : (g : Group) → IfSome (slice_index_or groups number g).zone (λ zone. zone ≡ s.zone)

-- the spot of the cell at that place: it says no more than what the cell scores for the job
pub record IsSpotOf (job : JobName) (groups : List Group) (stands : List Stand) (k : ℕ) (p : Spot) : Type 0 where
  pub cell : p.cell ≡ k
  pub group : (s : Stand) → IsGroupOf groups (slice_index_or stands k s) p.group
  pub flat : (g : Group) → is_some (slice_index_or groups p.group g).zone ≡ true → p.in_zone ≡ 0
  pub zone : (s : Stand) → p.in_zone ≤ in_zone stands job (slice_index_or stands k s).zone
  pub on : (s : Stand) → p.on_cell ≤ held_of job (slice_index_or stands k s)
  pub load : (s : Stand) → p.load ≤ load_in (slice_index_or stands k s)

-- each cell has a spot, which serves for the job
pub record AreSpotsFor (job : JobName) (groups : List Group) (stands : List Stand) (spots : List Spot) : Type 0 where
  pub all : length spots ≡ length stands
  pub each : (k : ℕ) (p : Spot) → k < length stands → IsSpotOf job groups stands k (slice_index_or spots k p)

-- each cell has a spot by its load alone
pub record AreFirstSpots (groups : List Group) (stands : List Stand) (spots : List Spot) : Type 0 where
  pub all : length spots ≡ length stands
  pub cell : (k : ℕ) (p : Spot) → k < length spots → (slice_index_or spots k p).cell ≡ k
  pub zone : (k : ℕ) (p : Spot) → k < length spots → (slice_index_or spots k p).in_zone ≡ 0
  pub on : (k : ℕ) (p : Spot) → k < length spots → (slice_index_or spots k p).on_cell ≡ 0
  pub load : (k : ℕ) (s : Stand) (p : Spot) → k < length stands →
      (slice_index_or spots k p).load ≤ load_in (slice_index_or stands k s)
  pub group : (k : ℕ) (s : Stand) (p : Spot) → k < length stands →
      IsGroupOf groups (slice_index_or stands k s) (slice_index_or spots k p).group

-- the set holds spots of cells and nothing else
pub record IsOrderOf (order : BTreeSet Spot) (spots : List Spot) : Type 0 where
  pub inside : (q : Spot) → contains spot_order order q ≡ true → q.cell < length spots
  pub is : (q : Spot) → contains spot_order order q ≡ true → slice_index_or spots q.cell q ≡ q

-- the spots and their order serve for the job if it asks for what is needed, since a cell that is left out lacks that
pub record IsRanking (job : JobName) (groups : List Group) (stands : List Stand) (ranking : Spots) : Type 0 where
  pub spots : AreSpotsFor job groups stands ranking.all.items
  pub order : IsOrderOf ranking.order ranking.all.items
  pub left_out : (k : ℕ) (s : Stand) (p : Spot) → k < length ranking.all.items →
      contains spot_order ranking.order (slice_index_or ranking.all.items k p) ≡ false →
      LacksRoom ranking.need (slice_index_or stands k s)
