-- What a disk shows, and what looking at it does.
use Rattle.std.specs.Prelude.{◌≡◌, ℕ, ◌≤◌, Bool, true, false, Option, Some, None, List}
use Rattle.disk_trait.specs.Held.{Leaves}
use Rattle.disk_trait.specs.Past.{Past, Image, now, content, IsSettled}
use Rattle.disk_trait.specs.Runs.{Extends}
use Rattle.disk_trait.specs.declared.area.Area.{Area}

-- a disk that tells its past is read as this image; of one that tells nothing nothing is said
abbrev pub Shows : Option Past → Image → Type 0
Shows None c = ⊥
Shows (Some p) c = (area : Area) → content p area ≡ c area

-- no content has changed, and all the while a stop leaves only what it could leave at first
pub record KeepsContent (p q : Past) : Type 0 where
  pub extends : Extends p q
  pub same : (area : Area) → content q area ≡ content p area
  pub leaves : (moment : ℕ) → p.clock ≤ moment → moment ≤ q.clock → (area : Area) (left : List ℕ)
      → Leaves (q.held moment area) left → Leaves (now p area) left

-- only looking has been done
pub record Peeks (p q : Past) : Type 0 where
  pub keeps : KeepsContent p q
  pub still : (area : Area) → now q area ≡ now p area

-- and now a stop leaves what a read gives, and nothing else
pub record Secures (p q : Past) : Type 0 where
  pub keeps : KeepsContent p q
  pub settled : IsSettled q

-- a sync of both areas, or one that failed
abbrev pub Syncs : Bool → Past → Past → Type 0
Syncs true p q = Secures p q
Syncs false p q = KeepsContent p q
