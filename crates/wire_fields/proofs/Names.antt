-- A name is a field, and so is an optional one.
use Rattle.std.proofs.Common.{◌≡◌, ℕ, zero, suc, ◌+◌, ◌<◌, ◌≤◌, Bool, true, false, cond, ltb, eqb, ◌||◌, List, [], ◌∷◌, ◌++◌, length, take, drop, Option, Some, None, Result, Ok, Err, refl, sym, ap, subst, ◌∙◌, arith}
use Rattle.std.specs.Prelude.{IfSome, IfOk}
use Rattle.std.specs.Result.{result_ok}
use Rattle.diego_names.specs.declared.name.NameFault.{NameFault}
use Rattle.std.specs.List.{list_all}
use Rattle.std.proofs.lemmas.Bool.{ltb-false, le-ltb, lt-ltb, eqb-true, eqb-false, ne_eqb}
use Rattle.std.proofs.lemmas.List.{take_at, take-append-drop, length-append, length-take, length-take-le}
use Rattle.std.proofs.lemmas.List.Sums.{AllPass-from_list_all, list_all-from_AllPass}
use Rattle.diego_names.specs.Name.{is_name_byte, IsName}
use Rattle.wire_fields.specs.Field.{field_name, field_optional_name}
use Rattle.wire_fields.specs.Front.{Front, Holds, Ends, Bad, front_map, name_bytes_front, name_front, optional_name_front}
use Rattle.wire_fields.specs.Laws.{IsField}
use Rattle.wire_fields.specs.Reading.{name_at, optional_name_at}
use Rattle.wire_fields.proofs.Fronts.{Takes, IsFront, not_bad, not_ended, held, IsField-from_front}

if_held : {X : Type 0} (b : Bool) (x y : X) (m n : ℕ) → cond b (Holds x m) Bad ≡ Holds y n
    → (b ≡ true) × (x ≡ y) × (m ≡ n)
if_held true x y m n e = let same = held x y m n e in (refl, same.0, same.1)
if_held false x y m n e = absurd cc

neither : (a b : Bool) → (a || b) ≡ false → (a ≡ false) × (b ≡ false)
neither true b e = absurd cc
neither false b e = (refl, e)

name_spelled : (bytes name : List ℕ) (n : ℕ) → name_front bytes ≡ Holds name n → Takes IsName field_name bytes name n
unfolding field_name
name_spelled [] name n e = absurd cc
name_spelled (len ∷ rest) name n e =
    let fit = not_bad (eqb len 0 || ltb 80 len) (name_bytes_front len rest) name n e in
    let tests = neither (eqb len 0) (ltb 80 len) fit.0 in
    let more = eqb-false len 0 tests.0 in
    let most : len ≤ 80 = ltb-false 80 len tests.1 in
    let open_ = not_ended (ltb (length rest) len) (cond (list_all is_name_byte (take len rest))
    (Holds (take len rest) (1 + len)) Bad) name n fit.1 in
    let there : len ≤ length rest = ltb-false (length rest) len open_.0 in
    let good = if_held (list_all is_name_byte (take len rest)) (take len rest) name (1 + len) n open_.1 in
    let taken : length (take len rest) ≡ len = length-take-le len rest there in
    let len-is : length name ≡ len = ap length (sym good.1) ∙ taken in
    record {
      rest = drop len rest;
      parts = ap (λ (l : ℕ). l ∷ rest) (sym len-is) ∙ ap (λ (r : List ℕ). length name ∷ r)
          (sym (take-append-drop len rest) ∙ ap (λ (t : List ℕ). t ++ drop len rest) good.1);
      count = sym good.2 ∙ omega (arith, len-is);
      fits = record {
        not_empty = let ne : len ≡ 0 → ⊥ = more in omega (arith, len-is);
        not_too_long = omega (arith, len-is, most);
        each = AllPass-from_list_all is_name_byte name (ap (list_all is_name_byte) (sym good.1) ∙ good.0);
      };
    }

name_opens : (name : List ℕ) → IsName name → (eqb (length name) 0 || ltb 80 (length name)) ≡ false
name_opens name is =
    let positive : 0 < length name = is.not_empty in
    let a : eqb (length name) 0 ≡ false = ne_eqb (length name) 0 (λ e. absurd (omega arith)) in
    let b : ltb 80 (length name) ≡ false = le-ltb 80 (length name) is.not_too_long in
    rw (a, b) refl

name_again : (name rest : List ℕ) → IsName name → name_front (field_name name ++ rest)
    ≡ Holds name (length (field_name name))
unfolding field_name
name_again name rest is =
    let long : ltb (length (name ++ rest)) (length name) ≡ false =
    le-ltb _ _ (omega (arith, length-append name rest)) in
    let good : list_all is_name_byte name ≡ true = list_all-from_AllPass is_name_byte name is.each in
    let count : 1 + length name ≡ suc (length name) = omega arith in
    rw (name_opens name is, long, take_at name rest (length name) refl, good, count) refl

name_cut : (name : List ℕ) (k : ℕ) → IsName name → k < length (field_name name)
    → name_front (take k (field_name name)) ≡ Ends
unfolding field_name
name_cut name zero is lt = refl
name_cut name (suc k) is lt =
    let short : ltb (length (take k name)) (length name) ≡ true = lt-ltb _ _ (omega (arith, length-take k name)) in
    rw (name_opens name is, short) refl

IsFront-name : IsFront IsName field_name name_front
IsFront-name = record {
  spelled = λ bytes name n ib e. name_spelled bytes name n e;
  again = name_again;
  cut = name_cut;
}

pub IsField-name : IsField IsName field_name name_at
unfolding name_at
IsField-name = IsField-from_front IsFront-name

-- ---- a name or none

abbrev FitsOptional : Option (List ℕ) → Type 0
FitsOptional o = IfSome o IsName

-- the value that is seen in another way
map_held : (f : Front (List ℕ)) (o : Option (List ℕ)) (n : ℕ) → front_map Some f ≡ Holds o n
    → (name : List ℕ) × (f ≡ Holds name n) × (Some name ≡ o)
map_held (Holds name m) o n e =
    let same = held (Some name) o m n e in
    (name, ap (λ (k : ℕ). Holds name k) same.1, same.0)
map_held Ends o n e = absurd cc
map_held Bad o n e = absurd cc

none_spelled : (len : ℕ) (rest : List ℕ) (o : Option (List ℕ)) (n : ℕ) → len ≡ 0
    → ◌≡◌ {A = Front (Option (List ℕ))} (Holds None 1) (Holds o n)
    → Takes FitsOptional field_optional_name (len ∷ rest) o n
unfolding field_optional_name
none_spelled len rest o n zero_is e =
    let same = held None o 1 n e in
    subst (λ (p : Option (List ℕ)). Takes FitsOptional field_optional_name (len ∷ rest) p n) same.0
    (record { rest = rest; parts = ap (λ (l : ℕ). l ∷ rest) zero_is; count = sym same.1; fits = tt })

some_spelled : (bytes : List ℕ) (o : Option (List ℕ)) (n : ℕ) → front_map Some (name_front bytes) ≡ Holds o n
    → Takes FitsOptional field_optional_name bytes o n
unfolding field_optional_name
some_spelled bytes o n e =
    let name = map_held (name_front bytes) o n e in
    let takes = name_spelled bytes name.0 n name.1 in
    subst (λ (p : Option (List ℕ)). Takes FitsOptional field_optional_name bytes p n) name.2
    (record { rest = takes.rest; parts = takes.parts; count = takes.count; fits = takes.fits })

optional_name_spelled : (bytes : List ℕ) (o : Option (List ℕ)) (n : ℕ) → optional_name_front bytes ≡ Holds o n
    → Takes FitsOptional field_optional_name bytes o n
optional_name_spelled [] o n e = absurd cc
optional_name_spelled (len ∷ rest) o n e =
    elim (eqb len 0) as (λ b. eqb len 0 ≡ b → cond b (Holds None 1) (front_map Some (name_front (len ∷ rest)))
    ≡ Holds o n → Takes FitsOptional field_optional_name (len ∷ rest) o n) [
      | true ↦ λ is_zero f. none_spelled len rest o n (eqb-true len 0 is_zero) f
      | false ↦ λ more f. some_spelled (len ∷ rest) o n f
    ] refl e

otherwise : {X : Type 0} (b : Bool) (x y : X) → b ≡ false → cond b x y ≡ y
otherwise b x y is_false = rw is_false refl

name_is_some : (name : List ℕ) → IsName name → eqb (length name) 0 ≡ false
name_is_some name is = let positive : 0 < length name = is.not_empty in
    ne_eqb (length name) 0 (λ e. absurd (omega arith))

optional_name_again : (o : Option (List ℕ)) (rest : List ℕ) → FitsOptional o
    → optional_name_front (field_optional_name o ++ rest) ≡ Holds o (length (field_optional_name o))
unfolding field_name field_optional_name
optional_name_again None rest fits = refl
optional_name_again (Some name) rest is =
    otherwise _ _ _ (name_is_some name is) ∙ ap (front_map Some) (name_again name rest is)

optional_name_cut : (o : Option (List ℕ)) (k : ℕ) → FitsOptional o → k < length (field_optional_name o)
    → optional_name_front (take k (field_optional_name o)) ≡ Ends
unfolding field_name field_optional_name
optional_name_cut None zero fits lt = refl
optional_name_cut None (suc k) fits lt = absurd (omega arith)
optional_name_cut (Some name) zero is lt = refl
optional_name_cut (Some name) (suc k) is lt =
    otherwise _ _ _ (name_is_some name is) ∙ ap (front_map Some) (name_cut name (suc k) is lt)

pub IsField-optional_name : IsField (λ o. IfSome o IsName) field_optional_name optional_name_at
unfolding optional_name_at
IsField-optional_name = IsField-from_front (record {
  spelled = λ bytes o n ib e. optional_name_spelled bytes o n e;
  again = optional_name_again;
  cut = optional_name_cut;
})

-- ---- reading the bytes of a name

none_is : (field : List ℕ) (r : Result (List ℕ) NameFault) → list_all is_name_byte field ≡ false
    → IfOk r (λ name. IsName name × (name ≡ field)) → result_ok r ≡ None
none_is field (Err fault) bad ok = refl
none_is field (Ok name) bad ok =
    let good : list_all is_name_byte field ≡ true = ap (list_all is_name_byte)
    (sym ok.1) ∙ list_all-from_AllPass is_name_byte name ok.0.each in
    let apart : true ≡ false = sym good ∙ bad in
    absurd cc

-- what reading a name gives, where the length is one of a name
pub result_ok-reading : (field : List ℕ) (r : Result (List ℕ) NameFault) → 0 < length field → length field ≤ 80
    → IfOk r (λ name. IsName name × (name ≡ field)) → (IsName field → r ≡ Ok field)
    → result_ok r ≡ cond (list_all is_name_byte field) (Some field) None
result_ok-reading field r more most ok whole =
    elim (list_all is_name_byte field) as (λ b. list_all is_name_byte field ≡ b
    → result_ok r ≡ cond b (Some field) None) [
      | true ↦ λ good. ap result_ok (whole (record {
        not_empty = more;
        not_too_long = most;
        each =
            AllPass-from_list_all is_name_byte field good;
      }))
      | false ↦ λ bad. none_is field r bad ok
    ] refl
