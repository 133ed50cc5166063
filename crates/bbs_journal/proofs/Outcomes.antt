-- Each image has a head that can't be read, or is opened.
use Rattle.std.proofs.Common.{◌≡◌, ◌≢◌, ◌⊎◌, inl, inr, ℕ, zero, suc, ◌+◌, ◌<◌, ◌≤◌, Option, Some, None, List, [], ◌∷◌, ◌++◌, length, take, drop, refl, sym, ap, ◌∙◌, arith, Result, Ok, Err, append_assoc, length-drop, take-append-drop, take_at}
use Rattle.std.specs.Int.{w16, from_be_bytes}
use Rattle.std.proofs.lemmas.List.{length-take-le}
use Rattle.std.proofs.lemmas.Bool.Decides.{eqb_tells, leb_tells}
use Rattle.disk_trait.specs.Past.{Image}
use Rattle.wire_fields.specs.Field.{field_number}
use Rattle.wire_fields.proofs.Public.{length-field_number}
use Rattle.bbs_journal.specs.Frames.{frame_spelled, IsFrame}
use Rattle.bbs_journal.specs.Opening.{IsBroken, AreFrames, Headed, headed}
use Rattle.bbs_journal.specs.Outcomes.{IsHeadless, IsOpened, OpensOrHasNoHead}
use Rattle.bbs_journal.specs.declared.load_fault.LoadFault.{LoadFault}
use Rattle.bbs_journal.proofs.FrameAt.{spelled_number, length-spelled_on}

-- lists of numbers are the same, or not
same_or_not : (x y : List ℕ) → (x ≡ y) ⊎ (x ≢ y)
same_or_not [] [] = inl refl
same_or_not [] (b ∷ y) = inr (λ e. cc)
same_or_not (a ∷ x) [] = inr (λ e. cc)
same_or_not (a ∷ x) (b ∷ y) =
    elim (eqb_tells a b) [
      | inl one ↦ elim (same_or_not x y) [
        | inl rest ↦ let first : a ≡ b = one.1 in inl (cc)
        | inr other ↦ inr (λ e. other (cc (e)))
      ]
      | inr two ↦ let other : a ≢ b = two.1 in inr (λ e. other (cc (e)))
    ]

behind_is : (gate other : ℕ) (a b : List ℕ) → gate ∷ a ≡ other ∷ b → (gate ≡ other) × (a ≡ b)
behind_is gate other a b e = (cc, cc)

-- behind an open gate stand a length, spelled in two bytes, and as many bytes
module _ (behind : List ℕ) where
  abbrev len : ℕ
  len = from_be_bytes w16 (take 2 behind)

  record HoldsFrame : Type 0 where
    pub low : 1 ≤ len
    pub high : len ≤ 512
    pub within : 2 + len ≤ length behind
    pub number : field_number w16 len ≡ take 2 behind

  holds_or_not : HoldsFrame ⊎ (HoldsFrame → ⊥)
  holds_or_not =
      elim (leb_tells 1 len) [
        | inr past ↦ let few = past.1 in inr (λ h. let low = h.low in omega (arith, few, low))
        | inl low ↦ elim (leb_tells len 512) [
          | inr past ↦ let many = past.1 in inr (λ h. let high = h.high in omega (arith, many, high))
          | inl high ↦ elim (leb_tells (2 + len) (length behind)) [
            | inr past ↦ let short = past.1 in inr (λ h. let within = h.within in omega (arith, short, within))
            | inl within ↦ elim (same_or_not (field_number w16 len) (take 2 behind)) [
              | inr other ↦ inr (λ h. other h.number)
              | inl number ↦ inl (record { low = low.1; high = high.1; within = within.1; number = number })
            ]
          ]
        ]
      ]

  -- and then they are a frame
  held_frame : (gate : ℕ) → 0 < gate → HoldsFrame → IsFrame (take len (drop 2 behind)) (gate ∷ behind)
      (drop len (drop 2 behind))
  held_frame gate is_open h =
      let payload : List ℕ = take len (drop 2 behind) in
      let rest : List ℕ = drop len (drop 2 behind) in
      let low = h.low in
      let high = h.high in
      let within = h.within in
      let size : length payload ≡ len = length-take-le len (drop 2 behind)
      (omega (arith, length-drop 2 behind, within)) in
      let number : field_number w16 (length payload) ≡ take 2 behind = ap (field_number w16) size ∙ h.number in
      let whole : behind ≡ take 2 behind ++ (payload ++ rest) =
      sym (ap (λ (l : List ℕ). take 2 behind ++ l) (take-append-drop len (drop 2 behind)) ∙ take-append-drop 2
      behind) in
      record {
        gate = gate;
        is_open = is_open;
        fits = (omega (arith, size, low), omega (arith, size, high));
        parts = ap (λ (l : List ℕ). gate ∷ l) (whole ∙ ap (λ (l : List ℕ). l ++ (payload ++ rest)) (sym number) ∙ sym
            (append_assoc (field_number w16 (length payload)) payload rest));
      }

  -- and no frame stands there else
  frame_holds : (gate : ℕ) (payload rest : List ℕ) → IsFrame payload (gate ∷ behind) rest → HoldsFrame
  frame_holds gate payload rest frame =
      let same = behind_is gate frame.gate behind (frame_spelled payload ++ rest) frame.parts in
      let number : len ≡ length payload = ap (λ (l : List ℕ). from_be_bytes w16 (take 2 l)) same.1 ∙ spelled_number
      payload rest frame.fits in
      let long : length behind ≡ 2 + length payload + length rest = ap length same.1 ∙ length-spelled_on payload rest in
      let size = field_number w16 (length payload) in
      let front : take 2 behind ≡ size =
      ap (take 2) (same.1 ∙ append_assoc size payload rest) ∙ take_at size (payload ++ rest) 2
      (length-field_number w16 (length payload)) in
      let fits = frame.fits in
      record {
        low = omega (arith, number, fits.0);
        high = omega (arith, number, fits.1);
        within = omega (arith, number, long);
        number = ap (field_number w16) number ∙ sym front;
      }

-- what stands from a place on
record Follow (at : ℕ) (bytes : List ℕ) : Type 0 where
  pub payloads : List (List ℕ)
  pub broken : Option ℕ
  pub end : ℕ
  pub frames : AreFrames payloads broken end at bytes

follow_defect : (at : ℕ) (bytes : List ℕ) → IsBroken bytes → Follow at bytes
follow_defect at bytes broken = record { payloads = []; broken = Some at; end = at; frames = (refl, (refl, broken)) }

nothing_broken : IsBroken []
nothing_broken = record {
  no_gate = λ b. absurd (cc (b.parts));
  no_frame = λ payload rest frame.
      absurd (cc (frame.parts));
}

defect_broken : (gate : ℕ) (behind : List ℕ) → 0 < gate → (HoldsFrame behind → ⊥) → IsBroken (gate ∷ behind)
defect_broken gate behind is_open none = record {
  no_gate = λ b. let same = behind_is gate 0 behind b.rest b.parts in omega (arith, same.0, is_open);
  no_frame = λ payload rest frame. none (frame_holds behind gate payload rest frame);
}

-- the frames of bytes that are no more than so many
follow : (n : ℕ) (bytes : List ℕ) (at : ℕ) → length bytes ≤ n → Follow at bytes
follow n [] at within = follow_defect at [] nothing_broken
follow n (zero ∷ behind) at within = record {
  payloads = [];
  broken = None;
  end = at;
  frames =
      (refl, record { rest = behind; parts = refl });
}
follow zero (suc g ∷ behind) at within = absurd (omega (arith, within))
follow (suc n) (suc g ∷ behind) at within =
    elim (holds_or_not behind) [
      | inr none ↦ follow_defect at (suc g ∷ behind) (defect_broken (suc g) behind (omega arith) none)
      | inl holds ↦
          let payload : List ℕ = take (len behind) (drop 2 behind) in
          let rest : List ℕ = drop (len behind) (drop 2 behind) in
          let shorter : length rest ≤ n = omega (
            arith,
            length-drop (len behind) (drop 2 behind),
            length-drop 2 behind,
            within,
          ) in
          let more = follow n rest (at + 3 + length payload) shorter in
          record {
            payloads = payload ∷ more.payloads;
            broken = more.broken;
            end = more.end;
            frames = (rest, held_frame behind (suc g) (omega arith) holds, more.frames);
          }
    ]

opens_headed : (c : Image) (h : Headed) → headed c ≡ Ok h → IsOpened c
opens_headed c h is =
    let bytes : List ℕ = drop (23 + length h.head) (c h.area) in
    let all = follow (length bytes) bytes (23 + length h.head) (omega arith) in
    record {
      area = h.area;
      version = h.version;
      generation = h.generation;
      head = h.head;
      payloads = all.payloads;
      broken = all.broken;
      end = all.end;
      opening = record { head_is = is; frames = all.frames };
    }

by_head : (c : Image) (r : Result Headed LoadFault) → headed c ≡ r → IsHeadless c ⊎ IsOpened c
by_head c (Ok h) is = inr (opens_headed c h is)
by_head c (Err fault) is = inl (record { fault = fault; refused = is })

pub opens_or_not : OpensOrHasNoHead
opens_or_not c = by_head c (headed c) refl
