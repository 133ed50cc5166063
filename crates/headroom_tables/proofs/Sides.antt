-- The sides of columns are those of their headings.
use Rattle.std.proofs.Common.{◌≡◌, List, [], ◌∷◌, map, refl, ap}
use Rattle.headroom_tables.specs.declared.layout.Heading.{Heading}
use Rattle.headroom_tables.specs.Written.{columns_of}

pub sides_same : (hs : List Heading) → map (λ h. h.0) hs ≡ map (λ c. c.0) (columns_of hs)
sides_same [] = refl
sides_same (h ∷ hs) = ap (λ sides. h.0 ∷ sides) (sides_same hs)
