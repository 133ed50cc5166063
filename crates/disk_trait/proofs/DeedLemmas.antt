-- One more deed at the end of those done to an area.
use Rattle.std.proofs.Common.{◌≡◌, ℕ, ◌<◌, ◌≤◌, nat_le, if◌then◌else◌, List, [], ◌∷◌, ◌++◌, refl, sym, ◌∙◌, ap, subst, arith}
use Rattle.std.proofs.lemmas.Bool.Decides.{nat_tests}
use Rattle.disk_trait.specs.Held.{Held, Torn, AreBytes}
use Rattle.disk_trait.specs.Deeds.{undone, before, range_named, Sound, held_after, held_until, NumberedTo}
use Rattle.disk_trait.specs.declared.deed.Entry.{Entry}
use Rattle.disk_trait.specs.Possible.{reads_after}

pub before_push : (entries : List Entry) (entry : Entry) (after : List ℕ)
    → before (entries ++ entry ∷ []) after ≡ before entries (undone entry.deed after)
before_push [] entry after = refl
before_push (e ∷ entries) entry after = ap (undone e.deed) (before_push entries entry after)

pub numbered_later : (m n : ℕ) (entries : List Entry) → m ≤ n → NumberedTo m entries → NumberedTo n entries
numbered_later m n [] later numbered = tt
numbered_later m n (e ∷ entries) later numbered = (
  omega (arith, numbered.0),
  numbered_later m n entries later numbered.1,
)

pub numbered_push : (m : ℕ) (entries : List Entry) (entry : Entry) → NumberedTo m entries → entry.call ≤ m
    → NumberedTo m (entries ++ entry ∷ [])
numbered_push m [] entry numbered le = (le, tt)
numbered_push m (e ∷ entries) entry numbered le = (numbered.0, numbered_push m entries entry numbered.1 le)

-- a deed that was done by then counts, and one that wasn't doesn't
pub done : (call m : ℕ) (x y : Held) → call ≤ m → (if nat_le call m then x else y) ≡ x
done call m x y le = grind (arith, nat_tests)

pub not_done : (call m : ℕ) (x y : Held) → m < call → (if nat_le call m then x else y) ≡ y
not_done call m x y lt = grind (arith, nat_tests)

module _ (entry : Entry) (old new : List ℕ) (undoes : undone entry.deed new ≡ old) where
  before_same : (entries : List Entry) → before (entries ++ entry ∷ []) new ≡ before entries old
  before_same entries = before_push entries entry new ∙ ap (before entries) undoes

  -- earlier moments don't see it
  pub until_earlier : (m : ℕ) (entries : List Entry) (held : Held) → m < entry.call
      → held_until m (entries ++ entry ∷ []) held new ≡ held_until m entries held old
  until_earlier m [] held early = not_done entry.call m _ held early
  until_earlier m (e ∷ entries) held early =
      ap (λ (h : Held). if nat_le e.call m then h else held)
      (until_earlier m entries (held_after e.deed held (before (entries ++ entry ∷ []) new)) early
      ∙ ap (λ (l : List ℕ). held_until m entries (held_after e.deed held l) old) (before_same entries))

  -- later ones see it last
  pub until_push : (m : ℕ) (entries : List Entry) (held : Held) → NumberedTo m entries → entry.call ≤ m
      → held_until m (entries ++ entry ∷ []) held new ≡ held_after entry.deed (held_until m entries held old) new
  until_push m [] held numbered le = done entry.call m _ held le
  until_push m (e ∷ entries) held numbered le =
      done e.call m _ held numbered.0
      ∙ until_push m entries (held_after e.deed held (before (entries ++ entry ∷ []) new)) numbered.1 le
      ∙ ap (λ (l : List ℕ). held_after entry.deed (held_until m entries (held_after e.deed held l) old) new)
      (before_same entries)
      ∙ ap (λ (h : Held). held_after entry.deed h new) (sym
      (done e.call m (held_until m entries (held_after e.deed held (before entries old)) old) held numbered.0))

  pub sound_push : (entries : List Entry) → Sound entries old → Torn (range_named entry.deed) old new → AreBytes old
      → AreBytes new → Sound (entries ++ entry ∷ []) new
  sound_push [] sound torn old_bytes new_bytes = (
    subst AreBytes (sym undoes) old_bytes,
    subst (λ (l : List ℕ). Torn (range_named entry.deed) l new)
        (sym undoes) torn,
    new_bytes,
  )
  sound_push (e ∷ entries) sound torn old_bytes new_bytes =
      let same = sym (before_same entries) in (
        subst (λ (l : List ℕ). AreBytes (undone e.deed l)) same sound.0,
        subst (λ (l : List ℕ). Torn (range_named e.deed) (undone e.deed l) l) same sound.1,
        sound_push entries sound.2 torn old_bytes new_bytes,
      )

-- after all deeds it holds what it holds
pub until_all : (m n : ℕ) (entries : List Entry) (held : Held) (after : List ℕ) → NumberedTo m entries
    → NumberedTo n entries → held_until m entries held after ≡ held_until n entries held after
until_all m n [] held after here there = refl
until_all m n (e ∷ entries) held after here there =
    done e.call m _ held here.0
    ∙ until_all m n entries (held_after e.deed held (before entries after)) after here.1 there.1
    ∙ sym (done e.call n _ held there.0)

pub reads_all : (m : ℕ) (entries : List Entry) (held : Held) (after : List ℕ) → NumberedTo m entries
    → held.reads ≡ before entries after → (held_until m entries held after).reads ≡ after
reads_all m [] held after numbered is = is
reads_all m (e ∷ entries) held after numbered is =
    ap (λ (h : Held). h.reads) (done e.call m _ held numbered.0)
    ∙ reads_all m entries (held_after e.deed held (before entries after)) after numbered.1
    (reads_after e.deed held (before entries after) is)
