-- A device call from its beginning to its answer.
use Rattle.std.specs.Option.{ForSome}
use Rattle.std.proofs.Common.{◌≡◌, inl, inr, ℕ, ◌+◌, ◌-◌, ◌^◌, ◌<◌, ◌≤◌, Bool, true, false, Some, None, Result, Ok, Err, IfOk, OnErr, MatchResult, is_ok, is_err, List, ◌∷◌, length, refl, sym, ◌∙◌, ap, subst}
use Rattle.std.proofs.lemmas.Bool.{cases_Bool}
use Rattle.std.proofs.lemmas.Bool.Decides.{leb_tells}
use Rattle.disk_trait.specs.Held.{Held}
use Rattle.disk_trait.specs.Past.{Past, content, other}
use Rattle.disk_trait.specs.Steps.{Goes, ChangesNothing, Changes, Ticks, Filled}
use Rattle.disk_trait.specs.declared.area.Area.{Area}
use Rattle.byte_ports.specs.declared.failed.Failed.{Failed}
use Rattle.file_calls.specs.declared.call_error.CallError.{CallError}
use Rattle.file_calls.specs.Call.{Call, began, measured}
use Rattle.file_calls.specs.Files.{First, has_its_name, held_by, ticks}
use Rattle.file_calls.specs.Honest.{is_honest}
use Rattle.file_calls.specs.Told.{files_past, told_past}
use Rattle.file_calls.specs.Made.{AddsCalls, Made, measures, reads, ends_refused}
use Rattle.file_calls.proofs.Records.{Works, area_here, adds_one, ticks_same, honest_was, looks_on, changes_on, goes_on, now_is}
use Rattle.file_calls.proofs.ReadLemmas.{Spares, held_same, reads_spare}
use Rattle.file_calls.proofs.SyncLemmas.{still_named}

-- Time.

low_if : (m : ℕ) (ok : Bool) → ok ≡ true → (2 ^ 64 - 1 ≤ m → ok ≡ false) → m < 2 ^ 64 - 1
low_if m ok is fails = elim (leb_tells (2 ^ 64 - 1) m)
    [ inl last ↦ let no : true ≡ false = sym is ∙ fails last.1 in absurd (cc) | inr low ↦ low.1 ]

-- a call that was begun took one moment
pub ticked : (m n : ℕ) (ok : Bool) → Ticks ok m n → ok ≡ true → n ≡ m + 1
ticked m n ok time is = time.goes (low_if m ok is time.fails)

module _ (kind : Call → Bool) (old between new : List Call) (begun : between ≡ began ∷ old)
    (adds : AddsCalls kind between new) where
  pub adds_begun : AddsCalls kind (began ∷ old) new
  adds_begun = subst (λ (l : List Call). AddsCalls kind l new) begun adds

  pub timed_on : (m n k : ℕ) (ok : Bool) → Works kind → Ticks ok m n → ok ≡ true → k ≡ n → m ≡ ticks old → k ≡ ticks new
  timed_on m n k ok works time is same was = same ∙ ticked m n ok time is ∙ ap (λ (t : ℕ). t + 1) was ∙ sym
      (ticks_same kind works (began ∷ old) new adds_begun)

  pub named_on : (area : Area) → has_its_name area old ≡ true → has_its_name area new ≡ true
  named_on area was = still_named kind area (began ∷ old) new adds_begun was

  -- a call that changes nothing
  pub look_goes : (first : First) → Works kind → ((area : Area) → Spares kind area)
      → Goes (told_past first old) (told_past first new) ChangesNothing
  look_goes first works spares =
      goes_on first old new ChangesNothing (honest_was first kind works old new adds_begun)
      (λ honest. looks_on first kind works old new adds_begun
      (λ area. held_same first area kind (spares area) (began ∷ old) new adds_begun))

  -- a call that makes this step in its file
  pub change_goes : (first : First) (area : Area) (Step : Bool → Held → Held → Type 0) (said ok : Bool) → Works kind
      → Spares kind (other area) → said ≡ ok
      → (is_honest first new ≡ true → Step ok (held_by first area between) (held_by first area new))
      → Goes (told_past first old) (told_past first new) (Changes area (Step said))
  change_goes first area Step said ok works spares same step =
      goes_on first old new (Changes area (Step said)) (honest_was first kind works old new adds_begun) (λ honest.
      changes_on first kind works old new adds_begun area (Step said)
      (held_same first (other area) kind spares (began ∷ old) new adds_begun)
      (subst (λ (b : Bool). Step b (held_by first area old) (held_by first area new)) (sym same)
      (subst (λ (l : List Call). Step ok (held_by first area l) (held_by first area new)) begun (step honest))))

-- What is told.

pub for_told : (first : First) (area : Area) (history : List Call) (P : List ℕ → Type 0)
    → (is_honest first history ≡ true → P (held_by first area history).reads)
    → ForSome (told_past first history) (λ p. P (content p area))
for_told first area history P holds p is = elim (cases_Bool (is_honest first history)) [
  | inl honest ↦
      let told : Some (files_past first history) ≡ Some p = rw honest at is in let same : files_past first history ≡ p =
      cc in
      subst (λ (x : Past). P (content x area)) same (subst (λ (h : Held). P h.reads) (sym (now_is first history area))
      (holds honest))
  | inr silent ↦ let none : None ≡ Some p = rw silent at is in absurd (cc)
]

pub told_holds : (first : First) (area : Area) (history : List Call) (P : List ℕ → Type 0)
    → ForSome (told_past first history) (λ p. P (content p area)) → is_honest first history ≡ true
    → P (held_by first area history).reads
told_holds first area history P told honest =
    subst (λ (h : Held). P h.reads) (now_is first history area) (told (files_past first history) (rw honest refl))

-- where a write may begin
pub place_begun : (first : First) (area : Area) (at : ℕ) (old between : List Call) → between ≡ began ∷ old
    → ForSome (told_past first old) (λ p. at ≤ length (content p area)) → is_honest first between ≡ true
    → at ≤ length (held_by first area between).reads
place_begun first area at old between begun told honest =
    subst (λ (l : List Call). at ≤ length (held_by first area l).reads) (sym begun)
    (told_holds first area old (λ bytes. at ≤ length bytes) told
    (subst (λ (l : List Call). is_honest first l ≡ true) begun honest))

-- An answer that was counted.

pub carried : {T : Type 0} (result : Result T Failed) (answer : Result T CallError) (P : T → Type 0)
    → is_ok result ≡ is_ok answer → IfOk result (λ x. IfOk answer (λ y. x ≡ y)) → IfOk answer P → IfOk result P
carried (Ok x) (Ok y) P ok same holds = subst P (sym same) holds
carried (Ok x) (Err e) P ok same holds = absurd (cc)
carried (Err e) answer P ok same holds = tt

-- what a whole read gave
pub read_told : (first : First) (area : Area) (at count : ℕ) (before after : List ℕ) (between new : List Call)
    → AddsCalls (reads area) between new → (is_honest first new ≡ true
    → Filled (held_by first area between).reads at count before after)
    → ForSome (told_past first new) (λ p. Filled (content p area) at count before after)
read_told first area at count before after between new adds filled =
    for_told first area new (λ bytes. Filled bytes at count before after)
    (λ honest. subst (λ (h : Held). Filled h.reads at count before after)
    (sym (held_same first area (reads area) (reads_spare area area) between new adds)) (filled honest))

-- The length of a file.

abbrev pub LenNoted : Result ℕ CallError → Area → List Call → List Call → Type 0
LenNoted result area old new = MatchResult result (λ n. new ≡ measured area true n ∷ old)
    (λ _. new ≡ measured area false 0 ∷ old)

pub len_adds : (result : Result ℕ CallError) (area : Area) (old new : List Call) → LenNoted result area old new
    → AddsCalls (measures area) old new
len_adds (Ok n) area old new noted = adds_one (measures area) old new _ (area_here area) noted
len_adds (Err e) area old new noted = adds_one (measures area) old new _ (area_here area) noted

pub len_refused : (result : Result ℕ CallError) (area : Area) (old new : List Call) → LenNoted result area old new
    → OnErr result (ends_refused new ≡ true)
len_refused (Ok n) area old new noted = tt
len_refused (Err e) area old new noted = rw noted refl

-- What a device call has made.

refused_if : {T : Type 0} (result : Result T Failed) (answer : Result T CallError) (P : Type 0)
    → is_ok result ≡ is_ok answer → OnErr answer P → is_err result ≡ true → P
refused_if (Ok x) answer P ok holds is = absurd (cc)
refused_if (Err e) (Ok y) P ok holds is = absurd (cc)
refused_if (Err e) (Err d) P ok holds is = holds

pub made_on : {T : Type 0} (kind : Call → Bool) (result : Result T Failed) (answer : Result T CallError) (m n : ℕ)
    (ok : Bool) (old between new : List Call) → Ticks ok m n → ok ≡ true → is_ok result ≡ is_ok answer
    → between ≡ began ∷ old
    → AddsCalls kind between new → OnErr answer (ends_refused new ≡ true) → Made kind (is_err result) m old new
made_on kind result answer m n ok old between new time is same begun adds refused = record {
  calls = λ low. adds_begun kind old between new begun adds;
  refused = λ low failed. refused_if result answer (ends_refused new ≡ true) same refused failed;
  none = λ last. let no : true ≡ false = sym is ∙ time.fails last in absurd (cc);
}

pub read_told_all : (result : Result ℕ Failed) (answer : Result ℕ CallError) (first : First) (area : Area) (at : ℕ)
    (before after : List ℕ) (between new : List Call) → is_ok result ≡ is_ok answer
    → IfOk result (λ x. IfOk answer (λ y. x ≡ y))
    → AddsCalls (reads area) between new → IfOk answer (λ n. is_honest first new ≡ true
    → Filled (held_by first area between).reads at n before after)
    → IfOk result (λ n. ForSome (told_past first new) (λ p. Filled (content p area) at n before after))
read_told_all (Ok n) (Ok y) first area at before after between new ok same adds bytes =
    read_told first area at n before after between new adds
    (λ honest. subst (λ (k : ℕ). Filled (held_by first area between).reads at k before after) (sym same)
    (bytes honest))
read_told_all (Ok n) (Err e) first area at before after between new ok same adds bytes = absurd (cc)
read_told_all (Err e) answer first area at before after between new ok same adds bytes = tt
