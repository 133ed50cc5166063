-- One frame more, and what bytes with a new frame in its place are.
use Rattle.std.proofs.Common.{◌≡◌, ℕ, zero, suc, ◌+◌, ◌<◌, List, [], ◌∷◌, ◌++◌, length, refl, sym, ap, ◌∙◌, arith, inl, inr, append_assoc, append-nil, length-append}
use Rattle.std.specs.Int.{w16}
use Rattle.wire_fields.proofs.Public.{length-field_number}
use Rattle.bbs_journal.specs.Frames.{IsPayload, frame_spelled, Whole}
use Rattle.bbs_journal.specs.Areas.{Begins, Staged, BeforeOrAfter, body_of}

pub length-spelled : (payload : List ℕ) → length (frame_spelled payload) ≡ 2 + length payload
length-spelled payload = omega (arith, length-append {A = ℕ}, length-field_number w16 (length payload))

-- frames with one more behind them are frames
pub whole_more : (payloads : List (List ℕ)) (frames payload : List ℕ) (gate : ℕ) → 0 < gate → IsPayload payload
    → Whole payloads frames → Whole (payloads ++ payload ∷ []) (frames ++ gate ∷ frame_spelled payload)
whole_more [] frames payload gate is_open fits whole = (
  [],
  record {
    gate = gate;
    is_open = is_open;
    fits = fits;
    parts =
        ap (λ (l : List ℕ). l ++ gate ∷ frame_spelled payload) whole ∙ simp append-nil;
  },
  refl,
)
whole_more (first ∷ payloads) frames payload gate is_open fits (rest, frame, whole) = (
  rest ++ gate ∷ frame_spelled payload,
  record {
    gate = frame.gate;
    is_open = frame.is_open;
    fits = frame.fits;
    parts = ap (λ (l : List ℕ). l ++ gate ∷ frame_spelled payload) frame.parts ∙ ap (λ (l : List ℕ). frame.gate ∷ l)
        (append_assoc (frame_spelled first) rest (gate ∷ frame_spelled payload));
  },
  whole_more payloads rest payload gate is_open fits whole,
)

module _ (head frames payload : List ℕ) where
  regroup : (gate : ℕ) (rest : List ℕ) → (head ++ frames) ++ gate ∷ (body_of payload ++ rest)
      ≡ (head ++ (frames ++ gate ∷ frame_spelled payload) ++ 0 ∷ []) ++ rest
  regroup gate rest = simp append_assoc

  -- an open gate makes the body behind it a frame
  pub framed : (gate : ℕ) (bytes : List ℕ) → Begins ((head ++ frames) ++ gate ∷ body_of payload) bytes
      → Begins (head ++ (frames ++ gate ∷ frame_spelled payload) ++ 0 ∷ []) bytes
  framed gate bytes b = record {
    rest = b.rest;
    parts = b.parts ∙ append_assoc (head ++ frames)
        (gate ∷ body_of payload) b.rest ∙ regroup gate b.rest;
  }

  -- a closed one leaves the body out
  pub closed : (bytes : List ℕ) → Begins ((head ++ frames) ++ 0 ∷ body_of payload) bytes
      → Begins (head ++ frames ++ 0 ∷ []) bytes
  closed bytes b = record {
    rest = body_of payload ++ b.rest;
    parts = b.parts ∙ append_assoc (head ++ frames) (0 ∷ body_of payload) b.rest ∙ sym
        (append_assoc (head ++ frames) (0 ∷ []) (body_of payload ++ b.rest));
  }

  by_gate : (payloads : List (List ℕ)) → Whole payloads frames → IsPayload payload → (gate : ℕ) (rest bytes : List ℕ)
      → bytes ≡ (head ++ frames) ++ gate ∷ (body_of payload ++ rest) → BeforeOrAfter head payloads payload bytes
  by_gate payloads whole fits zero rest bytes is = inl (record {
    frames = frames;
    whole = whole;
    begins = record {
      rest = body_of payload ++ rest;
      parts =
          is ∙ sym (append_assoc (head ++ frames) (0 ∷ []) (body_of payload ++ rest));
    };
  })
  by_gate payloads whole fits (suc n) rest bytes is = inr (record {
    frames = frames ++ suc n ∷ frame_spelled payload;
    whole = whole_more payloads frames payload (suc n) (omega arith) fits whole;
    begins = record { rest = rest; parts = is ∙ regroup (suc n) rest };
  })

  -- whatever the gate is, the area holds the payloads before it, or the new one too
  pub before_or_after : (payloads : List (List ℕ)) → Whole payloads frames → IsPayload payload → (bytes : List ℕ)
      → Staged (head ++ frames) (body_of payload) bytes → BeforeOrAfter head payloads payload bytes
  before_or_after payloads whole fits bytes s = by_gate payloads whole fits s.gate s.rest bytes s.parts

  pub place_more : (end gate : ℕ) → end ≡ length (head ++ frames)
      → end + 3 + length payload ≡ length (head ++ (frames ++ gate ∷ frame_spelled payload))
  place_more end gate is =
      omega (
        arith,
        is,
        length-append head frames,
        length-append head (frames ++ gate ∷ frame_spelled payload),
        length-append frames (gate ∷ frame_spelled payload),
        length-spelled payload,
      )
