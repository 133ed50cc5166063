-- An instance is a field, and so is an optional one.
use Rattle.std.proofs.Common.{◌≡◌, ℕ, zero, suc, ◌+◌, ◌<◌, Bool, true, false, cond, List, [], ◌∷◌, length, take, drop, Option, Some, None, Result, Ok, Err, refl, sym, ap, subst, ◌∙◌, arith}
use Rattle.std.specs.Prelude.{IfSome}
use Rattle.std.proofs.lemmas.List.{drop-drop}
use Rattle.diego_names.specs.declared.instance.Instance.{Instance}
use Rattle.wire_fields.specs.declared.fault.FieldFault.{FieldFault}
use Rattle.wire_fields.specs.declared.fault.FieldFault.TheVariants.{Short}
use Rattle.wire_fields.specs.Field.{field_truth, field_instance, field_optional_instance}
use Rattle.wire_fields.specs.Laws.{IsBytes, TextStandsAt, FitsInstance, IsField}
use Rattle.wire_fields.specs.Reading.{◌>>=◌, truth_at, instance_at, optional_instance_at}
use Rattle.wire_fields.proofs.Numbers.{IsField-u32, IsField-u64}
use Rattle.wire_fields.proofs.Places.{StandsAt-append, StandsAt-front, StandsAt-back}
use Rattle.wire_fields.proofs.Fronts.{IsRead-written, ok_is}
use Rattle.wire_fields.proofs.Truths.{IsField-truth}
use Rattle.wire_fields.proofs.Pairs.{bind_ok, IsField-pair}

pub IsField-instance : IsField FitsInstance field_instance instance_at
unfolding field_instance instance_at
IsField-instance =
    IsField-pair {Z = Instance} (λ epoch number. record { epoch = epoch; number = number }) (λ i. i.epoch)
    (λ i. i.number)
    (record { made = λ z. refl; one_of = λ x y. refl; other_of = λ x y. refl }) IsField-u64 IsField-u32

-- ---- an instance or none

abbrev FitsOptional : Option Instance → Type 0
FitsOptional o = IfSome o FitsInstance

-- the value is spelled at the place, and ends at another
record Spells (bytes : List ℕ) (at : ℕ) (o : Option Instance) (after : ℕ) : Type 0 where
  stands : TextStandsAt bytes at (field_optional_instance o)
  place : after ≡ at + length (field_optional_instance o)
  fits : FitsOptional o

-- the instance behind a truth value
abbrev seen : Instance × ℕ → Result (Option Instance × ℕ) FieldFault
seen i = Ok (Some i.0, i.1)

abbrev behind : List ℕ → Bool × ℕ → Result (Option Instance × ℕ) FieldFault
behind bytes t = cond t.0 (instance_at bytes t.1 >>= seen) (Ok (None, t.1))

told : (bytes : List ℕ) (at : ℕ) (b : Bool) (start : ℕ) (o : Option Instance) (after : ℕ) → IsBytes bytes
    → TextStandsAt bytes at (field_truth b) → start ≡ at + length (field_truth b)
    → behind bytes (b, start) ≡ Ok (o, after) → Spells bytes at o after
unfolding field_truth field_optional_instance
told bytes at false start o after ib stands place e =
    let pair = ok_is {X = Option Instance × ℕ} (None, start) (o, after) e in
    subst (λ (p : Option Instance × ℕ). Spells bytes at p.0 p.1) pair
    (record { stands = stands; place = place; fits = tt })
told bytes at true start o after ib stands place e =
    let i = bind_ok (instance_at bytes start) seen (o, after) e in
    let inner = IsField-instance.spelled bytes start i.0.0 i.0.1 ib i.1 in
    let there : TextStandsAt bytes (at + length (field_truth true)) (field_instance i.0.0) =
    subst (λ (n : ℕ). TextStandsAt bytes n (field_instance i.0.0)) place inner.0 in
    let pair = ok_is {X = Option Instance × ℕ} (Some i.0.0, i.0.1) (o, after) i.2 in
    subst (λ (p : Option Instance × ℕ). Spells bytes at p.0 p.1) pair (record {
      stands = StandsAt-append bytes at (field_truth true) (field_instance i.0.0) stands there;
      place = omega (arith, inner.1, place);
      fits = inner.2;
    })

optional_again : (bytes : List ℕ) (at : ℕ) (o : Option Instance) → FitsOptional o
    → TextStandsAt bytes at (field_optional_instance o)
    → optional_instance_at bytes at ≡ Ok (o, at + length (field_optional_instance o))
unfolding field_truth field_optional_instance optional_instance_at
optional_again bytes at None fits stands = ap (λ (r : Result (Bool × ℕ) FieldFault). r >>= behind bytes)
    (IsField-truth.again bytes at false tt stands)
optional_again bytes at (Some i) fits stands =
    let flag = IsField-truth.again bytes at true tt (StandsAt-front bytes at (1 ∷ []) (field_instance i) stands) in
    let inner = IsField-instance.again bytes (at + 1) i fits
    (StandsAt-back bytes at (1 ∷ []) (field_instance i) stands) in
    let place : at + 1 + length (field_instance i) ≡ at + length (1 ∷ field_instance i) = omega arith in
    ap (λ (r : Result (Bool × ℕ) FieldFault). r >>= behind bytes) flag
    ∙ ap (λ (r : Result (Instance × ℕ) FieldFault). r >>= seen) inner
    ∙ ap (λ (n : ℕ). Ok (Some i, n)) place

optional_cut : (bytes : List ℕ) (at k : ℕ) (o : Option Instance) → FitsOptional o
    → k < length (field_optional_instance o)
    → drop at bytes ≡ take k (field_optional_instance o) → optional_instance_at bytes at ≡ Err (Short (length bytes))
unfolding field_truth field_optional_instance optional_instance_at
optional_cut bytes at zero o fits lt e = ap (λ (r : Result (Bool × ℕ) FieldFault). r >>= behind bytes)
    (IsField-truth.cut bytes at 0 true tt (omega arith) e)
optional_cut bytes at (suc k) None fits lt e = absurd (omega arith)
optional_cut bytes at (suc k) (Some i) fits lt e =
    let flag = IsField-truth.again bytes at true tt (record { rest = take k (field_instance i); parts = e }) in
    let rest-is : drop (at + 1) bytes ≡ take k (field_instance i) = sym (drop-drop 1 at bytes) ∙ ap (drop 1) e in
    let inner = IsField-instance.cut bytes (at + 1) k i fits (omega arith) rest-is in
    ap (λ (r : Result (Bool × ℕ) FieldFault). r >>= behind bytes) flag ∙ ap
    (λ (r : Result (Instance × ℕ) FieldFault). r >>= seen) inner

pub IsField-optional_instance : IsField (λ o. IfSome o FitsInstance) field_optional_instance optional_instance_at
unfolding optional_instance_at
IsField-optional_instance = record {
  spelled = λ bytes at o after ib e.
      let t = bind_ok (truth_at bytes at) (behind bytes) (o, after) e in
      let flag = IsField-truth.spelled bytes at t.0.0 t.0.1 ib t.1 in
      let spells = told bytes at t.0.0 t.0.1 o after ib flag.0 flag.1 t.2 in
      (spells.stands, spells.place, spells.fits);
  again = optional_again;
  back = IsRead-written (record { again = optional_again });
  cut = optional_cut;
}
