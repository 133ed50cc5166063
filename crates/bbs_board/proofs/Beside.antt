-- What stands beside the area of a board: it gives way, or is the next one behind an open gate.
use Rattle.std.proofs.Common.{◌≡◌, ◌⊎◌, inl, inr, ℕ, zero, suc, ◌+◌, ◌<◌, false, List, [], ◌∷◌, ◌++◌, refl, ◌∙◌, arith, append_assoc}
use Rattle.bbs_journal.specs.Areas.{Begins, IsArea}
use Rattle.bbs_journal.specs.Beside.{unframed, Beside}
use Rattle.bbs_journal.specs.Grammar.{heading}
use Rattle.bbs_journal.specs.Other.{Yields}
use Rattle.bbs_journal.specs.View.{is_waiting}
use Rattle.bbs_journal.specs.Header.{newest}
use Rattle.bbs_journal.specs.declared.other_gate.OtherGate.{OtherGate}
use Rattle.bbs_journal.specs.declared.other_gate.OtherGate.TheVariants.{Shut, Loose, Written}
use Rattle.bbs_journal.specs.declared.waiting.Waiting.{Waiting}
use Rattle.bbs_journal.specs.declared.waiting.Waiting.TheVariants.{Nothing, Frame, Header}
use Rattle.bbs_journal.proofs.Public.{stands_yields}

-- the gate of the next area was in doubt, and is open
pub record IsOpenNext (waiting : Waiting) (known : OtherGate) (next : List ℕ) (generation : ℕ)
    (bytes : List ℕ) : Type 0 where
  pub waits : waiting ≡ Header
  pub size : ℕ
  pub written : known ≡ Written size
  pub byte : ℕ
  pub is_open : 0 < byte
  pub begins : Begins (byte ∷ unframed (generation + 1) next) bytes

by_byte : (next : List ℕ) (size generation : ℕ) (bytes : List ℕ) (gate : ℕ) (rest : List ℕ)
    → bytes ≡ gate ∷ (unframed (generation + 1) next ++ rest)
    → Yields (Written size) generation bytes ⊎ IsOpenNext Header (Written size) next generation bytes
by_byte next size generation bytes zero rest is = inl (record
    { rest = unframed (generation + 1) next ++ rest; parts = is })
by_byte next size generation bytes (suc n) rest is = inr (record {
  waits = refl;
  size = size;
  written = refl;
  byte = suc n;
  is_open = omega arith;
  begins = record { rest = rest; parts = is };
})

pub besides : (next : List ℕ) (waiting : Waiting) (known : OtherGate) (generation : ℕ) (bytes : List ℕ)
    → Beside next waiting known generation bytes
    → Yields known generation bytes ⊎ IsOpenNext waiting known next generation bytes
besides next Nothing known generation bytes beside = inl (stands_yields next known generation bytes beside)
besides next Frame known generation bytes beside = inl (stands_yields next known generation bytes beside)
besides next Header Shut generation bytes beside = absurd beside
besides next Header Loose generation bytes beside = inl beside
besides next Header (Written size) generation bytes (len, staged) =
    by_byte next size generation bytes staged.gate staged.rest staged.parts

-- where no gate waits it gives way
pub calm_yields : (next : List ℕ) (waiting : Waiting) (known : OtherGate) (generation : ℕ) (bytes : List ℕ)
    → waiting ≡ Nothing → Beside next waiting known generation bytes → Yields known generation bytes
calm_yields next Nothing known generation bytes calm beside = stands_yields next known generation bytes beside
calm_yields next Frame known generation bytes calm beside = absurd (cc)
calm_yields next Header known generation bytes calm beside = absurd (cc)

-- behind an open gate an area without frames takes some
pub unframed_area : (byte generation : ℕ) (next bytes : List ℕ) → Begins (byte ∷ unframed generation next) bytes
    → IsArea (byte ∷ heading newest generation next) [] bytes
unframed_area byte generation next bytes b = record {
  frames = [];
  whole = refl;
  begins =
      record { rest = b.rest; parts = b.parts ∙ regroup b.rest };
}
  where
    regroup : (rest : List ℕ) → (byte ∷ unframed generation next) ++ rest
        ≡ ((byte ∷ heading newest generation next) ++ [] ++ 0 ∷ []) ++ rest
    regroup rest = simp append_assoc

-- ---- what waits

pub calm_nothing : (w : Waiting) → is_waiting w ≡ false → w ≡ Nothing
calm_nothing Nothing is = refl
calm_nothing Frame is = absurd (cc)
calm_nothing Header is = absurd (cc)
