-- Keys by causes, and causes that are noted under the moments from which or up to which they hold.
use Rattle.std.specs.Prelude.{◌≡◌, ◌≢◌, ℕ, Bool, true, nat_eq, Option, Some}
use Rattle.watch_lists.specs.Groups.{Grouped, is_in}

-- which keys have which causes, which causes are noted under which moments of either kind; and for how many causes
-- of keys more there is room
pub record Watching (C K : Type 0) : Type 0 where
  pub keys : Grouped C K
  pub starts : Grouped ℕ C
  pub stops : Grouped ℕ C
  pub spare : ℕ

module _ {C : Type 0} (eq : C → C → Bool) where
  -- the item is noted under the moment, if there is one
  abbrev pub IsNoted : Grouped ℕ C → C → Option ℕ → Type 0
  IsNoted items c when = (m : ℕ) → when ≡ Some m → is_in nat_eq eq items m c ≡ true

  -- the item is noted under the moment, and what was noted still is
  pub record IsNotedAt (when : Option ℕ) (c : C) (old new : Grouped ℕ C) : Type 0 where
    pub here : IsNoted new c when
    pub others : (m : ℕ) (d : C) → is_in nat_eq eq old m d ≡ true → is_in nat_eq eq new m d ≡ true

  -- what was noted still is, but for one item
  abbrev pub LosesOnly : C → Grouped ℕ C → Grouped ℕ C → Type 0
  LosesOnly c old new = (m : ℕ) (d : C) → c ≢ d → is_in nat_eq eq old m d ≡ true → is_in nat_eq eq new m d ≡ true

module _ {C K : Type 0} (eq : C → C → Bool) (same : K → K → Bool) where
  -- each cause that a key has is noted under the moments that these functions tell
  pub record IsTimed (start stop : C → Option ℕ) (w : Watching C K) : Type 0 where
    pub starts : (c : C) (k : K) → is_in eq same w.keys c k ≡ true → IsNoted eq w.starts c (start c)
    pub stops : (c : C) (k : K) → is_in eq same w.keys c k ≡ true → IsNoted eq w.stops c (stop c)

  -- where causes were noted under the moments that hold, and those of this one are given rightly, they still are
  abbrev pub KeepsTimes : C → Option ℕ → Option ℕ → Watching C K → Watching C K → Type 0
  KeepsTimes c start stop old new = (f g : C → Option ℕ) → f c ≡ start → g c ≡ stop → IsTimed f g old → IsTimed f g new

  -- they are noted under the moments of other functions, which differ for this cause alone and are given for it
  abbrev pub Retimes : C → Option ℕ → Option ℕ → Watching C K → Watching C K → Type 0
  Retimes c start stop old new = (f g f2 g2 : C → Option ℕ) → ((d : C) → c ≢ d → f2 d ≡ f d)
      → ((d : C) → c ≢ d → g2 d ≡ g d) → f2 c ≡ start → g2 c ≡ stop → IsTimed f g old → IsTimed f2 g2 new

  -- keys have the causes that they had, and causes are noted where they were
  pub record IsSame (old new : Watching C K) : Type 0 where
    pub keys : (c : C) (k : K) → is_in eq same new.keys c k ≡ is_in eq same old.keys c k
    pub starts : (m : ℕ) (c : C) → is_in nat_eq eq new.starts m c ≡ is_in nat_eq eq old.starts m c
    pub stops : (m : ℕ) (c : C) → is_in nat_eq eq new.stops m c ≡ is_in nat_eq eq old.stops m c
