-- A journal that was found may be gone on with.
use Rattle.std.proofs.Common.{◌≡◌, ℕ, ◌+◌, None, List, [], ◌∷◌, ◌++◌, length, refl, sym, ap, ◌∙◌, arith, append_assoc}
use Rattle.bbs_journal.specs.Frames.{frame_spelled, Whole}
use Rattle.bbs_journal.specs.Areas.{Begins}
use Rattle.bbs_journal.specs.Opening.{AreFrames}
use Rattle.bbs_journal.proofs.FrameAt.{length-spelled_on}

-- frames that end with a closed gate
pub record AreWhole (payloads : List (List ℕ)) (end at : ℕ) (bytes : List ℕ) : Type 0 where
  pub frames : List ℕ
  pub whole : Whole payloads frames
  pub place : end ≡ at + length frames
  pub begins : Begins (frames ++ 0 ∷ []) bytes

pub are_whole : (payloads : List (List ℕ)) (end at : ℕ) (bytes : List ℕ) → AreFrames payloads None end at bytes
    → AreWhole payloads end at bytes
are_whole [] end at bytes (place, gate) = record {
  frames = [];
  whole = refl;
  place = omega (arith, place);
  begins =
      gate;
}
are_whole (payload ∷ payloads) end at bytes (rest, frame, more) =
    let others = are_whole payloads end (at + 3 + length payload) rest more in
    let text = frame_spelled payload ++ others.frames in
    record {
      frames = frame.gate ∷ text;
      whole = (
        others.frames,
        record { gate = frame.gate; is_open = frame.is_open; fits = frame.fits; parts = refl },
        others.whole,
      );
      place = omega (arith, others.place, length-spelled_on payload others.frames);
      begins = record {
        rest = others.begins.rest;
        parts = frame.parts ∙ ap (λ (l : List ℕ). frame.gate ∷ (frame_spelled payload ++ l)) others.begins.parts
            ∙ ap (λ (l : List ℕ). frame.gate ∷ l) (sym (append_assoc (frame_spelled payload)
            (others.frames ++ 0 ∷ []) others.begins.rest) ∙ ap (λ (l : List ℕ). l ++ others.begins.rest)
            (sym (append_assoc (frame_spelled payload) others.frames (0 ∷ []))));
      };
    }
