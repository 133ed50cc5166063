-- What a stop leaves of the disks of a pair.
use Rattle.std.specs.Prelude.{◌⊎◌, ℕ, ◌+◌, List, Option, Some, None}
use Rattle.std.specs.List.{AllByRecursion}
use Rattle.std.specs.Option.{ForSome}
use Rattle.disk_trait.specs.Past.{Past, Image, Images, ImagesSince}
use Rattle.bbs_board.specs.Kept.{IsFound}
use Rattle.bbs_board.specs.Opening.{IsBoard}
use Rattle.bbs_model.specs.Replay.{replay_log}
use Rattle.bbs_model.specs.declared.item.Item.{Item}
use Rattle.bbs_model.specs.declared.rows.Rows.{Rows}

-- from p to q whatever a stop left was what a stop at p could leave, or a board that the log reaches
abbrev pub ReachesLog : Rows → List Item → Past → Past → Type 0
ReachesLog base log p q = (image : Image) → ImagesSince q p.clock image → Images p image ⊎ IsFound base log 0 image

-- what a stop at q leaves is a board that the log reaches with each of these places
abbrev pub HoldsPlaces : Rows → List Item → List ℕ → Past → Type 0
HoldsPlaces base log places q =
    AllByRecursion (λ place. (image : Image) → Images q image → IsFound base log (place + 1) image) places

-- both
pub record KeepsLog (base : Rows) (log : List Item) (places : List ℕ) (p q : Past) : Type 0 where
  pub reaches : ReachesLog base log p q
  pub holds : HoldsPlaces base log places q

-- whatever a stop at q leaves is the board after these items
abbrev pub StandsAt : Rows → List Item → Past → Type 0
StandsAt base items q = (image : Image) → Images q image → IsBoard (replay_log base items) image

-- the disk of a board that was given up behind these items
pub record GaveUp (base : Rows) (log items : List Item) (p q : Past) : Type 0 where
  pub reaches : ReachesLog base log p q
  pub stands : StandsAt base items q

-- the disk of the primary: it keeps the log, or it was given up behind the items before a take-over
abbrev pub KeepsPrimary : Option (List Item) → Rows → List Item → List ℕ → Past → Past → Type 0
KeepsPrimary None base log places p q = KeepsLog base log places p q
KeepsPrimary (Some items) base log places p q = GaveUp base log items p q

-- both disks, where each tells its past at entry and at the end
pub record PairDisks (base : Rows) (log : List Item) (places : List ℕ) (before : Option (List Item))
    (told told' : Option Past) (standby standby' : Option Past) : Type 0 where
  pub primary_keeps : ForSome told (λ p. ForSome told' (λ q. KeepsPrimary before base log places p q))
  pub standby_keeps : ForSome standby (λ p. ForSome standby' (λ q. KeepsLog base log places p q))
