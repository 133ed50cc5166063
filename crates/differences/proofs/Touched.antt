-- What the renewal of entries makes of what is kept.
use Rattle.std.proofs.Common.{◌≡◌, ◌≢◌, ◌⊎◌, ℕ, ◌+◌, ◌<◌, ◌≤◌, Bool, true, false, cond, List, [], max, min, nat_eq, nat_lt, Option, Some, None, IsSome, inl, inr, refl, ap, sym, subst, ◌∙◌, arith}
use Rattle.std.proofs.lemmas.Bool.Decides.{nat_tests}
use Rattle.std.specs.Cmp.Lexicographic.{pointwise}
use Rattle.std.specs.Map.{lookup}
use Rattle.std.specs.Option.{option_map_or, unwrap_or}
use Rattle.diego_names.specs.declared.key.Key.{Key}
use Rattle.lrp_records.specs.declared.presence.Presence.{Presence}
use Rattle.lrp_records.specs.declared.presence.Presence.TheVariants.{Ordinary, Evacuating, Suspect}
use Rattle.bbs_model.specs.declared.rows.Rows.{Rows}
use Rattle.convergence.specs.Subjects.{OfPlace}
use Rattle.work_causes.specs.Causes.{causes_of, listed}
use Rattle.work_causes.specs.declared.cause.Cause.{Cause}
use Rattle.work_causes.specs.declared.cause.Causes.{Causes}
use Rattle.differences.specs.Noted.{causes_at, is_below, is_counted, is_place, named}
use Rattle.differences.specs.Renewal.{IsBlank, IsOutside, IsRenewed, IsUnchanged}
use Rattle.differences.proofs.Keys.{TellsApart-names, TellsApart-places, apart, differ}

-- the entries of places
abbrev pub Entries : Type 0
Entries = List ((Key × Presence) × Causes)

-- new entries have this at a place, and at all others what the old ones had
abbrev pub PutsAt : Key × Presence → Option Causes → Entries → Entries → Type 0
PutsAt place w m n = (q : Key × Presence) → lookup (is_place q) n ≡ cond (is_place place q) w (lookup (is_place q) m)

module _ (rows : Rows) where
  -- the causes of a place are renewed, and no others
  pub place_renewed : (place : Key × Presence) (w : Option Causes) (m n : Entries) → PutsAt place w m n
      → option_map_or listed w [] ≡ causes_of rows (OfPlace place)
      → (p : Key × Presence) → IsRenewed (causes_of rows (OfPlace p)) (causes_at m p) (causes_at n p) (place ≢ p)
  place_renewed place w m n puts now p =
      let put : causes_at n p ≡ option_map_or listed (cond (is_place place p) w (lookup (is_place p) m)) [] =
      ap (λ (c : Option Causes). option_map_or listed c []) (puts p) in
      elim (is_place place p) as (λ (b : Bool). is_place place p ≡ b
      → causes_at n p ≡ option_map_or listed (cond b w (lookup (is_place p) m)) []
      → IsRenewed (causes_of rows (OfPlace p)) (causes_at m p) (causes_at n p) (place ≢ p)) [
        | true ↦ λ is e. inl (e ∙ now ∙ ap (λ (q : Key × Presence). causes_of rows (OfPlace q))
            (TellsApart-places.exact place p is))
        | false ↦ λ is e. inr (e, differ TellsApart-places place p is)
      ] refl put

  -- the same where only a known entry is written over
  pub aside_renewed : (place : Key × Presence) (w : Option Causes) (m n : Entries)
      → (IsSome (lookup (is_place place) m) → PutsAt place w m n) → (lookup (is_place place) m ≡ None → n ≡ m)
      → option_map_or listed w [] ≡ causes_of rows (OfPlace place)
      → (p : Key × Presence) → IsRenewed (causes_of rows (OfPlace p)) (causes_at m p) (causes_at n p)
      ((place ≢ p) ⊎ ((place ≡ p) × (causes_at m p ≡ [])))
  aside_renewed place w m n known unknown now p =
      elim (lookup (is_place place) m) as (λ (s : Option Causes). lookup (is_place place) m ≡ s
      → (IsSome s → PutsAt place w m n) → (s ≡ None → n ≡ m)
      → IsRenewed (causes_of rows (OfPlace p)) (causes_at m p) (causes_at n p)
      ((place ≢ p) ⊎ ((place ≡ p) × (causes_at m p ≡ [])))) [
        | None ↦ λ is k u.
            let same : causes_at n p ≡ causes_at m p = ap (λ (es : Entries). causes_at es p) (u refl) in
            elim (is_place place p) as (λ (b : Bool). is_place place p ≡ b
            → IsRenewed (causes_of rows (OfPlace p)) (causes_at m p) (causes_at n p)
            ((place ≢ p) ⊎ ((place ≡ p) × (causes_at m p ≡ [])))) [
              | true ↦ λ at.
                  let one : place ≡ p = TellsApart-places.exact place p at in
                  inr (
                    same,
                    inr (
                      one,
                      subst (λ (q : Key × Presence). causes_at m q ≡ []) one
                          (ap (λ (c : Option Causes). option_map_or listed c []) is),
                    ),
                  )
              | false ↦ λ at. inr (same, inl (differ TellsApart-places place p at))
            ] refl
        | (Some c) ↦ λ is k u. elim (place_renewed place w m n (k refl) now p) as
            (λ _. IsRenewed (causes_of rows (OfPlace p)) (causes_at m p) (causes_at n p)
            ((place ≢ p) ⊎ ((place ≡ p) × (causes_at m p ≡ [])))) [
              | (inl e) ↦ inl e
              | (inr h) ↦ inr (h.0, inl h.1)
            ]
      ] refl known unknown

-- the three places of an instance
pub not_of : (key : Key) (p : Key × Presence) → (key, Ordinary) ≢ p → (key, Evacuating) ≢ p → (key, Suspect) ≢ p
    → key ≢ p.0
not_of key (k, Ordinary) first second third e = first (λ i. (e i, Ordinary))
not_of key (k, Evacuating) first second third e = second (λ i. (e i, Evacuating))
not_of key (k, Suspect) first second third e = third (λ i. (e i, Suspect))

-- a place aside that had no causes
pub blank_at : (key : Key) (presence : Presence) (p : Key × Presence) (m : Entries) → presence ≢ Ordinary
    → (key, presence) ≡ p → causes_at m p ≡ [] → IsBlank m p
blank_at key presence p m aside is none = record {
  aside = λ e. aside (ap (λ (q : Key × Presence). q.1) is ∙ e);
  none =
      none;
}

pub evacuating_aside : Evacuating ≢ Ordinary
evacuating_aside e = cc

pub suspect_aside : Suspect ≢ Ordinary
suspect_aside e = cc

-- none of the three places was renewed: the instance is another, or the place was blank
pub all_apart : (key : Key) (p : Key × Presence) (a b c : Entries) → causes_at b p ≡ causes_at a p
    → causes_at c p ≡ causes_at b p
    → (key, Ordinary) ≢ p → (((key, Evacuating) ≢ p) ⊎ (((key, Evacuating) ≡ p) × (causes_at b p ≡ [])))
    → (((key, Suspect) ≢ p) ⊎ (((key, Suspect) ≡ p) × (causes_at c p ≡ []))) → (key ≢ p.0) ⊎ IsBlank a p
all_apart key p a b c ba cb first (inl second) (inl third) = inl (not_of key p first second third)
all_apart key p a b c ba cb first (inr h) third = inr (blank_at key Evacuating p a evacuating_aside h.0 (sym ba ∙ h.1))
all_apart key p a b c ba cb first (inl second) (inr h) =
    inr (blank_at key Suspect p a suspect_aside h.0 (sym ba ∙ sym cb ∙ h.1))

-- a range with one index more
pub outside_more : (process : List ℕ) (low i j : ℕ) (key : Key) → j ≡ i + 1 → IsOutside process low i key
    → record { process = process; index = i } ≢ key → IsOutside process low j key
outside_more process low i j key next (inl other) apart = inl other
outside_more process low i j key next (inr (inl below)) apart = inr (inl below)
outside_more process low i j key next (inr (inr above)) apart =
    elim (nat_lt i key.index) as (λ (b : Bool). nat_lt i key.index ≡ b → IsOutside process low j key) [
      | true ↦ λ is. inr (inr (grind (arith, nat_tests)))
      | false ↦ λ is.
          let at : i ≡ key.index = grind (arith, nat_tests) in
          elim (pointwise nat_eq process key.process) as (λ (b : Bool). pointwise nat_eq process key.process ≡ b
          → IsOutside process low j key) [
            | true ↦ λ same. absurd (apart (λ k. record {
              process =
                  TellsApart-names.exact process key.process same k;
              index = at k;
            }))
            | false ↦ λ same. inl (differ TellsApart-names process key.process same)
          ] refl
    ] refl

-- the apart of one index more
pub range_more : (process : List ℕ) (low i j : ℕ) (p : Key × Presence) (a b : Entries) → j ≡ i + 1
    → causes_at b p ≡ causes_at a p
    → (IsOutside process low i p.0 ⊎ IsBlank a p) → ((record { process = process; index = i } ≢ p.0) ⊎ IsBlank b p)
    → IsOutside process low j p.0 ⊎ IsBlank a p
range_more process low i j p a b next same (inr blank) q = inr blank
range_more process low i j p a b next same (inl o) (inl other) = inl (outside_more process low i j p.0 next o other)
range_more process low i j p a b next same (inl o) (inr blank) =
    inr (record { aside = blank.aside; none = sym same ∙ blank.none })

-- before the first index every instance is outside
pub outside_none : (process : List ℕ) (low : ℕ) (key : Key) → IsOutside process low low key
outside_none process low key =
    elim (nat_lt key.index low) as (λ (b : Bool). nat_lt key.index low ≡ b → IsOutside process low low key) [
      | true ↦ λ is. inr (inl (grind (arith, nat_tests)))
      | false ↦ λ is. inr (inr (grind (arith, nat_tests)))
    ] refl

-- an index below both counts, or above both, is wanted by one as by the other
below_both : (n index : ℕ) → index < n → nat_lt index n ≡ true
below_both n index h = grind (arith, nat_tests)

above_both : (n index : ℕ) → n ≤ index → nat_lt index n ≡ false
above_both n index h = grind (arith, nat_tests)

is_below-some : (count : Option ℕ) (index : ℕ) → is_below count index ≡ nat_lt index (unwrap_or count 0)
is_below-some None index = sym (above_both 0 index (omega arith))
is_below-some (Some n) index = refl

-- outside of the range between two counts nothing changes
pub outside_unchanged : (process : List ℕ) (before after : Option ℕ) (key : Key)
    → IsOutside process (min (unwrap_or before 0) (unwrap_or after 0))
    (max (unwrap_or before 0) (unwrap_or after 0)) key → IsUnchanged process before after key
outside_unchanged process before after key (inl other) = inl other
outside_unchanged process before after key (inr (inl below)) =
    inr (is_below-some after key.index ∙ below_both (unwrap_or after 0) key.index (omega arith)
    ∙ sym (is_below-some before key.index ∙ below_both (unwrap_or before 0) key.index (omega arith)))
outside_unchanged process before after key (inr (inr above)) =
    inr (is_below-some after key.index ∙ above_both (unwrap_or after 0) key.index (omega arith)
    ∙ sym (is_below-some before key.index ∙ above_both (unwrap_or before 0) key.index (omega arith)))

-- what is kept under one name is renewed, and under no other
pub named_renewed : {V : Type 0} (name : List ℕ) (fresh : List ℕ → Option V) (m n : List (List ℕ × V))
    → named n name ≡ fresh name
    → ((q : List ℕ) → name ≢ q → named n q ≡ named m q) → (q : List ℕ)
    → IsRenewed (fresh q) (named m q) (named n q) (name ≢ q)
named_renewed name fresh m n there others q =
    elim (pointwise nat_eq name q) as (λ (b : Bool). pointwise nat_eq name q ≡ b
    → IsRenewed (fresh q) (named m q) (named n q) (name ≢ q)) [
      | true ↦ λ is. inl (subst (λ (r : List ℕ). named n r ≡ fresh r) (TellsApart-names.exact name q is) there)
      | false ↦ λ is. let other = differ TellsApart-names name q is in inr (others q other, other)
    ] refl

-- what is apart is apart of one row alone
pub apart_of_one : {A P : Type 0} (fresh old new : A) → IsRenewed fresh old new P
    → IsRenewed fresh old new (P × Unit {0})
apart_of_one fresh old new (inl e) = inl e
apart_of_one fresh old new (inr h) = inr (h.0, (h.1, tt))

-- the three places of an instance, any of which may have come or gone
pub instance_renewed : (key : Key) (p : Key × Presence) (fresh a b c d : List Cause)
    → IsRenewed fresh a b ((key, Ordinary) ≢ p) → IsRenewed fresh b c ((key, Evacuating) ≢ p)
    → IsRenewed fresh c d ((key, Suspect) ≢ p) → IsRenewed fresh a d (key ≢ p.0)
instance_renewed key p fresh a b c d f g (inl z) = inl z
instance_renewed key p fresh a b c d f (inl y) (inr (z, third)) = inl (z ∙ y)
instance_renewed key p fresh a b c d (inl x) (inr (y, second)) (inr (z, third)) = inl (z ∙ y ∙ x)
instance_renewed key p fresh a b c d (inr (x, first)) (inr (y, second)) (inr (z, third)) =
    inr (z ∙ y ∙ x, not_of key p first second third)

-- the three places of an instance whose rows neither came nor went
pub index_renewed : (key : Key) (p : Key × Presence) (fresh : List Cause) (a b c d : Entries)
    → IsRenewed fresh (causes_at a p) (causes_at b p) ((key, Ordinary) ≢ p)
    → IsRenewed fresh (causes_at b p) (causes_at c p) (((key, Evacuating) ≢ p)
    ⊎ (((key, Evacuating) ≡ p) × (causes_at b p ≡ [])))
    → IsRenewed fresh (causes_at c p) (causes_at d p) (((key, Suspect) ≢ p)
    ⊎ (((key, Suspect) ≡ p) × (causes_at c p ≡ [])))
    → IsRenewed fresh (causes_at a p) (causes_at d p) ((key ≢ p.0) ⊎ IsBlank a p)
index_renewed key p fresh a b c d f g (inl z) = inl z
index_renewed key p fresh a b c d f (inl y) (inr (z, third)) = inl (z ∙ y)
index_renewed key p fresh a b c d (inl x) (inr (y, second)) (inr (z, third)) = inl (z ∙ y ∙ x)
index_renewed key p fresh a b c d (inr (x, first)) (inr (y, second)) (inr (z, third)) =
    inr (z ∙ y ∙ x, all_apart key p a b c x y first second third)

-- a range with one index more
pub range_renewed : (process : List ℕ) (low i j : ℕ) (p : Key × Presence) (fresh : List Cause) (a b c : Entries)
    → j ≡ i + 1
    → IsRenewed fresh (causes_at a p) (causes_at b p) (IsOutside process low i p.0 ⊎ IsBlank a p)
    → IsRenewed fresh (causes_at b p) (causes_at c p) ((record { process = process; index = i } ≢ p.0) ⊎ IsBlank b p)
    → IsRenewed fresh (causes_at a p) (causes_at c p) (IsOutside process low j p.0 ⊎ IsBlank a p)
range_renewed process low i j p fresh a b c next f (inl y) = inl y
range_renewed process low i j p fresh a b c next (inl x) (inr (y, q)) = inl (y ∙ x)
range_renewed process low i j p fresh a b c next (inr (x, o)) (inr (y, q)) =
    inr (y ∙ x, range_more process low i j p a b next x o q)

-- the range between two counts
pub changed_renewed : (process : List ℕ) (before after : Option ℕ) (was is low high : ℕ) (p : Key × Presence)
    (fresh a b : List Cause) {Blank : Type 0}
    → was ≡ unwrap_or before 0 → is ≡ unwrap_or after 0 → low ≡ min was is → high ≡ max was is
    → IsRenewed fresh a b (IsOutside process low high p.0 ⊎ Blank)
    → IsRenewed fresh a b (IsUnchanged process before after p.0 ⊎ Blank)
changed_renewed process before after was is low high p fresh a b w i l h (inl e) = inl e
changed_renewed process before after was is low high p fresh a b w i l h (inr (e, inr blank)) = inr (e, inr blank)
changed_renewed process before after was is low high p fresh a b w i l h (inr (e, inl o)) =
    let least : low ≡ min (unwrap_or before 0) (unwrap_or after 0) = l ∙ (λ k. min (w k) (i k)) in
    let most : high ≡ max (unwrap_or before 0) (unwrap_or after 0) = h ∙ (λ k. max (w k) (i k)) in
    let between : IsOutside process (min (unwrap_or before 0) (unwrap_or after 0))
    (max (unwrap_or before 0) (unwrap_or after 0)) p.0 =
    subst (λ (n : ℕ). IsOutside process n (max (unwrap_or before 0) (unwrap_or after 0)) p.0) least
    (subst (λ (n : ℕ). IsOutside process low n p.0) most o) in
    inr (e, inl (outside_unchanged process before after p.0 between))

-- where one count was put, an instance whose want is unchanged is counted as before
counted_same : (process : List ℕ) (m n : List (List ℕ × ℕ)) (before after : Option ℕ) → before ≡ named m process
    → ((q : List ℕ) → named n q ≡ cond (pointwise nat_eq process q) after (named m q)) → (key : Key)
    → IsUnchanged process before after key → is_counted n key ≡ is_counted m key
counted_same process m n before after was puts key h =
    elim (pointwise nat_eq process key.process) as (λ (b : Bool). pointwise nat_eq process key.process ≡ b
    → named n key.process ≡ cond b after (named m key.process) → is_counted n key ≡ is_counted m key) [
      | true ↦ λ is put.
          let one : process ≡ key.process = TellsApart-names.exact process key.process is in
          elim h as (λ _. is_counted n key ≡ is_counted m key) [
            | (inl other) ↦ absurd (other one)
            | (inr e) ↦ ap (λ (c : Option ℕ). is_below c key.index) put ∙ e ∙ ap
                (λ (c : Option ℕ). is_below c key.index) (was ∙ ap (named m) one)
          ]
      | false ↦ λ is put. ap (λ (c : Option ℕ). is_below c key.index) put
    ] refl (puts key.process)

pub desired_renewed : (process : List ℕ) (m n : List (List ℕ × ℕ)) (before after : Option ℕ) → before ≡ named m process
    → ((q : List ℕ) → named n q ≡ cond (pointwise nat_eq process q) after (named m q))
    → (p : Key × Presence) (fresh a b : List Cause) {Blank : Type 0}
    → IsRenewed fresh a b (IsUnchanged process before after p.0 ⊎ Blank)
    → IsRenewed fresh a b ((is_counted n p.0 ≡ is_counted m p.0) ⊎ Blank)
desired_renewed process m n before after was puts p fresh a b (inl e) = inl e
desired_renewed process m n before after was puts p fresh a b (inr (e, inr blank)) = inr (e, inr blank)
desired_renewed process m n before after was puts p fresh a b (inr (e, inl h)) =
    inr (e, inl (counted_same process m n before after was puts p.0 h))

-- what was put under one name
pub put_renewed : {V : Type 0} (name : List ℕ) (fresh : List ℕ → Option V) (value : Option V) (m n : List (List ℕ × V))
    → value ≡ fresh name
    → ((q : List ℕ) → named n q ≡ cond (pointwise nat_eq name q) value (named m q)) → (q : List ℕ)
    → IsRenewed (fresh q) (named m q) (named n q) (name ≢ q)
put_renewed name fresh value m n now puts q =
    elim (pointwise nat_eq name q) as (λ (b : Bool). pointwise nat_eq name q ≡ b → named n q ≡ cond b value (named m q)
    → IsRenewed (fresh q) (named m q) (named n q) (name ≢ q)) [
      | true ↦ λ is put. inl (put ∙ now ∙ ap fresh (TellsApart-names.exact name q is))
      | false ↦ λ is put. inr (put, differ TellsApart-names name q is)
    ] refl (puts q)
