-- How two calls of a disk join, whether it tells its past or not.
use Rattle.std.proofs.Common.{◌≡◌, Option, Some, None, refl, subst}
use Rattle.disk_trait.specs.Past.{Past}
use Rattle.disk_trait.specs.Steps.{Goes}

-- where it tells its past after a call, it told it before
pub goes_back : (before after : Option Past) (Does : Past → Past → Type 0) → Goes before after Does → (q : Past)
    → after ≡ Some q → (p : Past) × (before ≡ Some p) × Does p q
goes_back None None Does goes q is = absurd (cc)
goes_back None (Some x) Does goes q is = absurd goes
goes_back (Some p) None Does goes q is = absurd (cc)
goes_back (Some p) (Some x) Does goes q is = let e : x ≡ q = cc in (p, refl, subst (Does p) e goes)

-- a call without which nothing was told differently
pub goes_same : (told : Option Past) (Does : Past → Past → Type 0) → ((p : Past) → told ≡ Some p → Does p p)
    → Goes told told Does
goes_same None Does does = tt
goes_same (Some p) Does does = does p refl

-- what was done, said with less
pub goes_weaker : (before after : Option Past) (Does Less : Past → Past → Type 0)
    → ((p q : Past) → before ≡ Some p → after ≡ Some q → Does p q → Less p q) → Goes before after Does
    → Goes before after Less
goes_weaker None None Does Less weaker goes = tt
goes_weaker None (Some q) Does Less weaker goes = goes
goes_weaker (Some p) None Does Less weaker goes = tt
goes_weaker (Some p) (Some q) Does Less weaker goes = weaker p q refl refl goes

-- one call, and then another
pub goes_then : (before between after : Option Past) (First Second Both : Past → Past → Type 0)
    → ((p q r : Past) → before ≡ Some p → between ≡ Some q → after ≡ Some r → First p q → Second q r → Both p r)
    → Goes before between First → Goes between after Second → Goes before after Both
goes_then None None None First Second Both both first second = tt
goes_then None None (Some r) First Second Both both first second = second
goes_then None (Some q) after First Second Both both first second = absurd first
goes_then (Some p) None None First Second Both both first second = tt
goes_then (Some p) None (Some r) First Second Both both first second = absurd second
goes_then (Some p) (Some q) None First Second Both both first second = tt
goes_then (Some p) (Some q) (Some r) First Second Both both first second = both p q r refl refl refl first second
