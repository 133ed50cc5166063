-- What a text stands for, by whether it is UTF-8.
use Rattle.std.proofs.Common.{◌≡◌, ℕ, Bool, true, false, if◌then◌else◌, List, Result, Err, refl, ap}
use Rattle.std.proofs.lemmas.Str.{IsUtf8-from_is_utf8, is_utf8-from_IsUtf8}
use Rattle.std.specs.Str.{IsUtf8, is_utf8}
use Rattle.serde_json.specs.Data.{Data}
use Rattle.serde_json.specs.Read.{read}
use Rattle.dump_lines.specs.Faults.{json_said, or_json}
use Rattle.dump_lines.specs.declared.fault.LineFault.{LineFault}
use Rattle.dump_lines.specs.declared.fault.LineFault.TheVariants.{BadJson}

-- a test that can't pass chooses the other value
not_chosen : (b : Bool) (x y : Result Data LineFault) → (b ≡ true → ⊥) → (if b then x else y) ≡ y
not_chosen true x y fails = absurd (fails refl)
not_chosen false x y fails = refl

-- bytes that aren't UTF-8 stand for nothing
pub json_of-not_utf8 : (bytes : List ℕ) → (IsUtf8 bytes → ⊥) → json_said bytes ≡ Err BadJson
json_of-not_utf8 bytes isnt = not_chosen (is_utf8 bytes) (or_json (read bytes)) (Err BadJson)
    (λ passes. isnt (IsUtf8-from_is_utf8 bytes passes))

-- UTF-8 stands for what is read of it
pub json_of-utf8 : (bytes : List ℕ) → IsUtf8 bytes → json_said bytes ≡ or_json (read bytes)
json_of-utf8 bytes is = ap (λ b. if b then or_json (read bytes) else Err BadJson) (is_utf8-from_IsUtf8 bytes is)
