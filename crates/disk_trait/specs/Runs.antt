-- What a run of device calls does to what a disk tells.
use Rattle.std.specs.Prelude.{◌≡◌, ℕ, ◌≤◌, Bool, true, false, List}
use Rattle.disk_trait.specs.Held.{Leaves, Has}
use Rattle.disk_trait.specs.Past.{Past, now, other}
use Rattle.disk_trait.specs.declared.area.Area.{Area}

-- time has gone on, and what the disk was before stays told
pub record Extends (p q : Past) : Type 0 where
  pub later : p.clock ≤ q.clock
  pub before : (moment : ℕ) → moment ≤ p.clock → q.held moment ≡ p.held moment

-- from p to q a stop at any moment leaves of this area what has P, and nothing changes in the other
pub record Runs (area : Area) (P : List ℕ → Type 0) (p q : Past) : Type 0 where
  pub extends : Extends p q
  pub each : (moment : ℕ) → p.clock ≤ moment → moment ≤ q.clock → (left : List ℕ) → Leaves (q.held moment area) left → P left
  pub there : (moment : ℕ) → p.clock ≤ moment → moment ≤ q.clock → q.held moment (other area) ≡ now p (other area)

-- such a run that leaves what has Q where it succeeds, and what has P where it fails
pub record Turns (area : Area) (ok : Bool) (P Q : List ℕ → Type 0) (p q : Past) : Type 0 where
  pub runs : Runs area P p q
  pub done : ok ≡ true → Has Q (now q area)
  pub failed : ok ≡ false → Has P (now q area)
