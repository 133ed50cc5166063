-- What a disk tells whose calls are on record.
use Rattle.std.specs.Prelude.{◌≡◌, ℕ, if◌then◌else◌, List, Option, Some, None}
use Rattle.std.proofs.Common.{sym, ap, ◌∙◌, inl, inr}
use Rattle.std.proofs.lemmas.Bool.{cases_Bool}
use Rattle.disk_trait.specs.Past.{Past}
use Rattle.file_calls.specs.Call.{Call}
use Rattle.file_calls.specs.Files.{First, held_by, ticks, up_to}
use Rattle.file_calls.specs.Possible.{possible_by}
use Rattle.file_calls.specs.Honest.{is_honest}

-- what the files have been at each moment
abbrev pub files_past : First → List Call → Past
files_past first history = record {
  clock = ticks history;
  held = λ moment area. held_by first area (up_to moment history);
  possible = λ moment area. possible_by first area (up_to moment history);
}

-- it tells that as long as the answers are those of a disk, and then nothing more
abbrev pub told_past : First → List Call → Option Past
told_past first history = if is_honest first history then Some (files_past first history) else None

-- the clock of what is told counts the device calls
pub told_clock : (first : First) (history : List Call) (p : Past) (clock : ℕ) → clock ≡ ticks history
    → told_past first history ≡ Some p → p.clock ≡ clock
told_clock first history p clock is told = elim (cases_Bool (is_honest first history)) [
  | inl honest ↦
      let same : Some (files_past first history) ≡ Some p = rw honest at told in
      let e : files_past first history ≡ p = cc in sym (ap (λ (x : Past). x.clock) e) ∙ sym is
  | inr silent ↦ let none : None ≡ Some p = rw silent at told in absurd (cc)
]
