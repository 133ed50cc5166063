-- When an image can be opened, and why not where it can't be.
use Rattle.std.proofs.Common.{◌≡◌, ◌⊎◌, ⊎_elim, inl, inr, ℕ, zero, suc, ◌+◌, ◌<◌, ◌≤◌, Bool, true, false, List, [], ◌∷◌, ◌++◌, length, take, drop, refl, sym, ap, ◌∙◌, subst, arith, Result, Ok, Err}
use Rattle.std.specs.Prelude.{if◌then◌else◌, ◌==◌, nat_lt}
use Rattle.std.proofs.lemmas.Bool.Decides.{nat_tests}
use Rattle.disk_trait.specs.Past.{Image, other}
use Rattle.disk_trait.specs.declared.area.Area.{Area}
use Rattle.disk_trait.specs.declared.area.Area.TheVariants.{A, B}
use Rattle.bbs_journal.specs.Header.{front, header_of, behind_gate, gate_of}
use Rattle.bbs_journal.specs.Other.{Yields}
use Rattle.bbs_journal.specs.Beside.{unframed, IsBeside}
use Rattle.bbs_journal.specs.Opening.{active_of, newer, size_of, Headed, headed, ◌>>=◌}
use Rattle.bbs_journal.specs.LoadFaults.{IsFree, Fails}
use Rattle.bbs_journal.specs.declared.active.Active.{Active}
use Rattle.bbs_journal.specs.declared.header.Header.{Header}
use Rattle.bbs_journal.specs.declared.header.Header.TheVariants.{Closed, Foreign, Cut, Open}
use Rattle.bbs_journal.specs.declared.other_gate.OtherGate.{OtherGate}
use Rattle.bbs_journal.specs.declared.other_gate.OtherGate.TheVariants.{Shut, Loose, Written}
use Rattle.bbs_journal.specs.declared.load_fault.LoadFault.{LoadFault}
use Rattle.bbs_journal.specs.declared.load_fault.LoadFault.TheVariants.{Disk, NotABoard, Damaged, OutOfMemory}

-- ---- a fault is what reading comes to

pub fails_is : {X : Type 0} (e : LoadFault) (read : Result X LoadFault) → read ≡ Err e → Fails e read
fails_is Disk read is = tt
fails_is (NotABoard area) read is = is
fails_is (Damaged area at) read is = is
fails_is OutOfMemory read is = tt

pub fails_free : {X : Type 0} (e : LoadFault) (read : Result X LoadFault) → IsFree e → Fails e read
fails_free Disk read free = tt
fails_free (NotABoard area) read free = absurd free
fails_free (Damaged area at) read free = absurd free
fails_free OutOfMemory read free = tt

-- ---- the tests, one after another

pub ok_is : {X : Type 0} (x y : X) (r : Result X LoadFault) → r ≡ Ok x → r ≡ Ok y → x ≡ y
ok_is x y r first second = cc

bind_ok : {X Y : Type 0} (r : Result X LoadFault) (f : X → Result Y LoadFault) (y : Y) → (r >>= f) ≡ Ok y
    → (x : X) × (r ≡ Ok x) × (f x ≡ Ok y)
bind_ok (Ok x) f y is = (x, refl, is)
bind_ok (Err e) f y is = absurd (cc)

bind_is : {X Y : Type 0} (r : Result X LoadFault) (f : X → Result Y LoadFault) (x : X) → r ≡ Ok x → (r >>= f) ≡ f x
bind_is {X = X} r f x is = ap (λ (s : Result X LoadFault). s >>= f) is

bind_err : {X Y : Type 0} (r : Result X LoadFault) (f : X → Result Y LoadFault) (e : LoadFault) → r ≡ Err e
    → (r >>= f) ≡ Err e
bind_err {X = X} r f e is = ap (λ (s : Result X LoadFault). s >>= f) is

pub headed_none : (c : Image) (e : LoadFault) → active_of (header_of (front (c A))) (header_of (front (c B))) ≡ Err e
    → headed c ≡ Err e
unfolding headed
headed_none c e is = bind_err (active_of (header_of (front (c A))) (header_of (front (c B)))) _ e is

pub headed_err : (c : Image) (active : Active) (e : LoadFault)
    → active_of (header_of (front (c A))) (header_of (front (c B))) ≡ Ok active
    → size_of active (front (c active.area)) (length (c active.area)) ≡ Err e → headed c ≡ Err e
unfolding headed
headed_err c active e chosen is =
    bind_is (active_of (header_of (front (c A))) (header_of (front (c B)))) _ active chosen ∙ bind_err
    (size_of active (front (c active.area)) (length (c active.area))) _ e is

pub headed_ok : (c : Image) (active : Active) (size : ℕ)
    → active_of (header_of (front (c A))) (header_of (front (c B))) ≡ Ok active
    → size_of active (front (c active.area)) (length (c active.area)) ≡ Ok size
    → headed c ≡ Ok (record {
      area = active.area;
      version = active.version;
      generation = active.generation;
      head =
          take size (drop 23 (c active.area));
    })
unfolding headed
headed_ok c active size chosen is =
    bind_is (active_of (header_of (front (c A))) (header_of (front (c B)))) _ active chosen ∙ bind_is
    (size_of active (front (c active.area)) (length (c active.area))) _ size is

-- what has been tested of an image that is opened
pub record Tested (c : Image) (headed : Headed) : Type 0 where
  pub active : Active
  pub size : ℕ
  pub chosen : active_of (header_of (front (c A))) (header_of (front (c B))) ≡ Ok active
  pub sized : size_of active (front (c active.area)) (length (c active.area)) ≡ Ok size
  pub parts : record {
    area = active.area;
    version = active.version;
    generation = active.generation;
    head =
        take size (drop 23 (c active.area));
  } ≡ headed
  pub area_is : active.area ≡ headed.area
  pub version_is : active.version ≡ headed.version
  pub generation_is : active.generation ≡ headed.generation
  pub head_is : take size (drop 23 (c active.area)) ≡ headed.head

pub tested : (c : Image) (h : Headed) → headed c ≡ Ok h → Tested c h
unfolding headed
tested c h is =
    let first = bind_ok (active_of (header_of (front (c A))) (header_of (front (c B)))) _ h is in
    let active : Active = first.0 in
    let second = bind_ok (size_of active (front (c active.area)) (length (c active.area))) _ h first.2 in
    let parts : record {
      area = active.area;
      version = active.version;
      generation = active.generation;
      head =
          take second.0 (drop 23 (c active.area));
    } ≡ h = ok_is _ h _ refl second.2 in
    record {
      active = active;
      size = second.0;
      chosen = first.1;
      sized = second.1;
      parts = parts;
      area_is = ap (λ (x : Headed). x.area) parts;
      version_is = ap (λ (x : Headed). x.version) parts;
      generation_is = ap (λ (x : Headed). x.generation) parts;
      head_is = ap (λ (x : Headed). x.head) parts;
    }

pub size_fits : (active : Active) (bytes : List ℕ) (len size : ℕ) → size_of active bytes len ≡ Ok size → 23 + size ≤ len
unfolding size_of
size_fits active bytes len size is = grind (arith, nat_tests)

-- ---- the other area gives way

-- the first of two is read, and the other one is of this smaller generation
pub record Newer (first second active : Active) : Type 0 where
  pub is : active ≡ first
  pub less : second.generation < first.generation

by_tests : (a b : Active) (same less : Bool) (active : Active)
    → (same ≡ false → less ≡ false → a.generation < b.generation) → (less ≡ true → b.generation < a.generation)
    → (if same then Err (Damaged B 11) else (if less then Ok a else Ok b)) ≡ Ok active
    → Newer a b active ⊎ Newer b a active
by_tests a b true less active up down is = absurd (cc)
by_tests a b false true active up down is = inl (record { is = sym (ok_is _ active _ refl is); less = down refl })
by_tests a b false false active up down is = inr (record { is = sym (ok_is _ active _ refl is); less = up refl refl })

pub newer_gives : (a b active : Active) → newer a b ≡ Ok active → Newer a b active ⊎ Newer b a active
newer_gives a b active is =
    by_tests a b (a.generation == b.generation) (nat_lt b.generation a.generation) active
    (λ x y. grind (arith, nat_tests)) (λ x. grind (arith, nat_tests)) is

-- what the header of an area tells, where that is open
abbrev pub opened : Area → ℕ → ℕ → Active
opened area version generation = record { area = area; version = version; generation = generation }

-- a header that gives way to this generation
abbrev pub GivesWay : ℕ → Header → Type 0
GivesWay generation (Closed gate) = Unit {0}
GivesWay generation Foreign = ⊥
GivesWay generation (Cut at) = ⊥
GivesWay generation (Open version older) = older < generation

-- the header beside the one that is read gives way to it
abbrev pub beside : Area → Header → Header → Header
beside A a b = b
beside B a b = a

no_ok : {X : Type 0} (e : LoadFault) (x : X) (r : Result X LoadFault) → r ≡ Err e → r ≡ Ok x → ⊥
no_ok e x r first second = cc

a_read : (a b : Header) (active : Active) (version generation : ℕ) → opened A version generation ≡ active
    → GivesWay generation b → GivesWay active.generation (beside active.area a b)
a_read a b active version generation is gives = subst (λ (x : Active). GivesWay x.generation (beside x.area a b)) is
    gives

b_read : (a b : Header) (active : Active) (version generation : ℕ) → opened B version generation ≡ active
    → GivesWay generation a → GivesWay active.generation (beside active.area a b)
b_read a b active version generation is gives = subst (λ (x : Active). GivesWay x.generation (beside x.area a b)) is
    gives

both_open : (v a w b : ℕ) (active : Active) → newer (opened A v a) (opened B w b) ≡ Ok active
    → GivesWay active.generation (beside active.area (Open v a) (Open w b))
both_open v a w b active is = ⊎_elim
    (λ first. subst (λ (x : Active). GivesWay x.generation (beside x.area (Open v a) (Open w b)))
    (sym first.is) first.less)
    (λ second. subst (λ (x : Active). GivesWay x.generation (beside x.area (Open v a) (Open w b)))
    (sym second.is) second.less)
    (newer_gives (opened A v a) (opened B w b) active is)

pub beside_gives : (a b : Header) (active : Active) → active_of a b ≡ Ok active
    → GivesWay active.generation (beside active.area a b)
beside_gives Foreign b active is = absurd (no_ok _ active _ refl is)
beside_gives (Closed x) Foreign active is = absurd (no_ok _ active _ refl is)
beside_gives (Closed x) (Closed y) active is = absurd (no_ok _ active _ refl is)
beside_gives (Closed x) (Cut at) active is = absurd (no_ok _ active _ refl is)
beside_gives (Closed x) (Open v generation) active is =
    b_read (Closed x) (Open v generation) active v generation (ok_is _ active _ refl is) tt
beside_gives (Cut at) Foreign active is = absurd (no_ok _ active _ refl is)
beside_gives (Cut at) (Closed y) active is = absurd (no_ok _ active _ refl is)
beside_gives (Cut at) (Cut n) active is = absurd (no_ok _ active _ refl is)
beside_gives (Cut at) (Open v generation) active is = absurd (no_ok _ active _ refl is)
beside_gives (Open v generation) Foreign active is = absurd (no_ok _ active _ refl is)
beside_gives (Open v generation) (Closed y) active is =
    a_read (Open v generation) (Closed y) active v generation (ok_is _ active _ refl is) tt
beside_gives (Open v generation) (Cut at) active is = absurd (no_ok _ active _ refl is)
beside_gives (Open v a) (Open w b) active is = both_open v a w b active is

-- the header of the area that is read
abbrev pub own : Area → Header → Header → Header
own A a b = a
own B a b = b

own_a : (a b : Header) (active : Active) (version generation : ℕ) → opened A version generation ≡ active
    → a ≡ Open version generation → own active.area a b ≡ Open active.version active.generation
own_a a b active version generation is here = subst (λ (x : Active). own x.area a b ≡ Open x.version x.generation) is
    here

own_b : (a b : Header) (active : Active) (version generation : ℕ) → opened B version generation ≡ active
    → b ≡ Open version generation → own active.area a b ≡ Open active.version active.generation
own_b a b active version generation is here = subst (λ (x : Active). own x.area a b ≡ Open x.version x.generation) is
    here

both_own : (v a w b : ℕ) (active : Active) → newer (opened A v a) (opened B w b) ≡ Ok active
    → own active.area (Open v a) (Open w b) ≡ Open active.version active.generation
both_own v a w b active is = ⊎_elim
    (λ first. subst (λ (x : Active). own x.area (Open v a) (Open w b) ≡ Open x.version x.generation)
    (sym first.is) refl)
    (λ second. subst (λ (x : Active). own x.area (Open v a) (Open w b) ≡ Open x.version x.generation)
    (sym second.is) refl)
    (newer_gives (opened A v a) (opened B w b) active is)

pub own_open : (a b : Header) (active : Active) → active_of a b ≡ Ok active
    → own active.area a b ≡ Open active.version active.generation
own_open Foreign b active is = absurd (no_ok _ active _ refl is)
own_open (Closed x) Foreign active is = absurd (no_ok _ active _ refl is)
own_open (Closed x) (Closed y) active is = absurd (no_ok _ active _ refl is)
own_open (Closed x) (Cut at) active is = absurd (no_ok _ active _ refl is)
own_open (Closed x) (Open v generation) active is = own_b (Closed x) (Open v generation) active v generation
    (ok_is _ active _ refl is) refl
own_open (Cut at) Foreign active is = absurd (no_ok _ active _ refl is)
own_open (Cut at) (Closed y) active is = absurd (no_ok _ active _ refl is)
own_open (Cut at) (Cut n) active is = absurd (no_ok _ active _ refl is)
own_open (Cut at) (Open v generation) active is = absurd (no_ok _ active _ refl is)
own_open (Open v generation) Foreign active is = absurd (no_ok _ active _ refl is)
own_open (Open v generation) (Closed y) active is = own_a (Open v generation) (Closed y) active v generation
    (ok_is _ active _ refl is) refl
own_open (Open v generation) (Cut at) active is = absurd (no_ok _ active _ refl is)
own_open (Open v a) (Open w b) active is = both_own v a w b active is

own_area : (area : Area) (c : Image) → own area (header_of (front (c A))) (header_of (front (c B)))
    ≡ header_of (front (c area))
own_area A c = refl
own_area B c = refl

-- the area that is read is open, and its header tells the version and the generation
pub own_is : (c : Image) (active : Active) → active_of (header_of (front (c A))) (header_of (front (c B))) ≡ Ok active
    → header_of (front (c active.area)) ≡ Open active.version active.generation
own_is c active is =
    subst (λ (h : Header). h ≡ Open active.version active.generation) (own_area active.area c)
    (own_open (header_of (front (c A))) (header_of (front (c B))) active is)

beside_area : (area : Area) (c : Image) → beside area (header_of (front (c A))) (header_of (front (c B)))
    ≡ header_of (front (c (other area)))
beside_area A c = refl
beside_area B c = refl

-- the header of the other area gives way to the generation of the one that is read
pub other_gives : (c : Image) (active : Active) → active_of (header_of (front (c A))) (header_of (front (c B)))
    ≡ Ok active → GivesWay active.generation (header_of (front (c (other active.area))))
other_gives c active is =
    subst (GivesWay active.generation) (beside_area active.area c)
    (beside_gives (header_of (front (c A))) (header_of (front (c B))) active is)

-- ---- and its gate is shut, or loose before an older header

closed_behind : (bytes : List ℕ) (gate : OtherGate) → behind_gate bytes ≡ Closed gate
    → (gate ≡ Loose) × (length bytes ≡ 0)
unfolding behind_gate
closed_behind bytes gate is = (grind (arith, nat_tests), grind (arith, nat_tests))

length_front : (n : ℕ) (bytes : List ℕ) → length (take (suc n) bytes) ≡ 0 → length bytes ≡ 0
length_front n [] is = refl
length_front n (x ∷ bytes) is = absurd (omega (arith, is))

behind_stands : (gate generation : ℕ) (behind : List ℕ) (h : Header) → behind_gate (take 30 behind) ≡ h
    → GivesWay generation h → IsBeside [] (gate_of h) generation (gate ∷ behind)
behind_stands gate generation behind (Closed x) is gives =
    let closed = closed_behind (take 30 behind) x is in
    subst (λ (y : OtherGate). IsBeside [] y generation (gate ∷ behind)) (sym closed.0)
    (inl (omega (arith, length_front 29 behind closed.1)))
behind_stands gate generation behind Foreign is gives = absurd gives
behind_stands gate generation behind (Cut at) is gives = absurd gives
behind_stands gate generation behind (Open version older) is gives =
    inr (record {
      gate = gate;
      behind = behind;
      version = version;
      older = older;
      parts = refl;
      header = is;
      below =
          gives;
    })

not_zero : (n : ℕ) → (suc n == 0) ≡ false
not_zero n = grind (arith, nat_tests)

pub open_gate : (n : ℕ) (bytes : List ℕ) → header_of (suc n ∷ bytes) ≡ behind_gate bytes
open_gate n bytes = ap (λ (b : Bool). if b then Closed Shut else behind_gate bytes) (not_zero n)

pub front_stands : (generation : ℕ) (bytes : List ℕ) → GivesWay generation (header_of (front bytes))
    → IsBeside [] (gate_of (header_of (front bytes))) generation bytes
front_stands generation [] gives = inl (omega arith)
front_stands generation (zero ∷ behind) gives = record { rest = behind; parts = refl }
front_stands generation (suc n ∷ behind) gives =
    let e = open_gate n (take 30 behind) in
    subst (λ (h : Header). IsBeside [] (gate_of h) generation (suc n ∷ behind)) (sym e)
    (behind_stands (suc n) generation behind (behind_gate (take 30 behind)) refl (subst (GivesWay generation) e gives))

-- what stands beside an area gives way to it, while its gate isn't in doubt
pub stands_yields : (next : List ℕ) (gate : OtherGate) (generation : ℕ) (bytes : List ℕ)
    → IsBeside next gate generation bytes → Yields gate generation bytes
stands_yields next Shut generation bytes beside = beside
stands_yields next Loose generation bytes beside = beside
stands_yields next (Written size) generation bytes (len, begins) =
    record { rest = unframed (generation + 1) next ++ begins.rest; parts = begins.parts }

pub front_yields : (generation : ℕ) (bytes : List ℕ) → GivesWay generation (header_of (front bytes))
    → Yields (gate_of (header_of (front bytes))) generation bytes
front_yields generation bytes gives = stands_yields [] (gate_of (header_of (front bytes))) generation bytes
    (front_stands generation bytes gives)
