-- What the bytes that a reader has before it tell of all that follow.
use Rattle.std.proofs.Common.{◌≡◌, ℕ, suc, ◌+◌, ◌-◌, ◌≤◌, min, Option, List, [], ◌∷◌, ◌++◌, length, take, drop, refl, sym, ap, ◌∙◌, subst, arith, Global, Vec, append_assoc, append-nil, take-append-drop, drop_at}
use Rattle.std.proofs.lemmas.List.{drop-drop, map_push}
use Rattle.std.proofs.lemmas.List.Sums.{sum_by_push}
use Rattle.bbs_journal.specs.Frames.{frame_spelled, IsFrame}
use Rattle.bbs_journal.specs.Areas.{Begins}
use Rattle.bbs_journal.specs.Opening.{IsBroken, AreFrames, Stops}
use Rattle.bbs_journal.specs.Reading.{IsAt, IsFrameWithin, payloads_of, bytes_of}
use Rattle.bbs_journal.specs.declared.frame.Next.{Next}
use Rattle.bbs_journal.specs.declared.frame.Next.TheVariants.{Frame, Gate, Defect}
use Rattle.bbs_journal.proofs.FrameAt.{length-spelled_on}

frame_length : (payload bytes rest : List ℕ) → IsFrame payload bytes rest
    → length bytes ≡ 3 + length payload + length rest
frame_length payload bytes rest frame = omega (arith, ap length frame.parts, length-spelled_on payload rest)

-- bytes that are whole up to the longest frame
whole_take : (n : ℕ) (bytes : List ℕ) → bytes ≡ take n bytes ++ drop n bytes
whole_take n bytes = sym (take-append-drop n bytes)

begins_more : (front part more : List ℕ) → Begins front part → Begins front (part ++ more)
begins_more front part more b = record {
  rest = b.rest ++ more;
  parts =
      ap (λ (l : List ℕ). l ++ more) b.parts ∙ append_assoc front b.rest more;
}

frame_more : (payload part more rest : List ℕ) → IsFrame payload part rest
    → IsFrame payload (part ++ more) (rest ++ more)
frame_more payload part more rest frame = record {
  gate = frame.gate;
  is_open = frame.is_open;
  fits = frame.fits;
  parts = ap (λ (l : List ℕ). l ++ more) frame.parts ∙ ap (λ (l : List ℕ). frame.gate ∷ l)
      (append_assoc (frame_spelled payload) rest more);
}

-- a frame lies within the first 515 bytes
frame_less : (n : ℕ) (payload bytes rest : List ℕ) → n ≡ min 515 (length bytes) → IsFrame payload bytes rest
    → IsFrame payload (take n bytes) (take (n - 3 - length payload) rest)
frame_less n payload bytes rest is frame =
    let long = frame_length payload bytes rest frame in
    let fits = frame.fits in
    let k : ℕ = n - 3 - length payload in
    let text = frame.gate ∷ frame_spelled payload in
    let size : length text ≡ 3 + length payload = omega (
      arith,
      length-spelled_on payload [],
      ap length (append-nil (frame_spelled payload)),
    ) in
    record {
      gate = frame.gate;
      is_open = frame.is_open;
      fits = frame.fits;
      parts = ap (take n) frame.parts ∙ taken n k text rest (omega (arith, is, long, fits.1, size));
    }
  where
    taken : (n k : ℕ) (text rest : List ℕ) → n ≡ length text + k → take n (text ++ rest) ≡ text ++ take k rest
    taken n k [] rest e = ap (λ (m : ℕ). take m rest) (omega (arith, e))
    taken n k (x ∷ text) rest e =
        let m : n ≡ suc (length text + k) = omega (arith, e) in
        ap (λ (m : ℕ). take m (x ∷ (text ++ rest))) m ∙ ap (λ (l : List ℕ). x ∷ l)
        (taken (length text + k) k text rest refl)

broken_whole : (n : ℕ) (bytes : List ℕ) → n ≡ min 515 (length bytes) → IsBroken (take n bytes) → IsBroken bytes
broken_whole n bytes is broken = record {
  no_gate = λ b. broken.no_gate (gate_less n bytes is b);
  no_frame = λ payload rest frame. broken.no_frame payload (take (n - 3 - length payload) rest)
      (frame_less n payload bytes rest is frame);
}
  where
    gate_less : (n : ℕ) (bytes : List ℕ) → n ≡ min 515 (length bytes) → Begins (0 ∷ []) bytes
        → Begins (0 ∷ []) (take n bytes)
    gate_less n bytes is b =
        let long : length bytes ≡ suc (length b.rest) = ap length b.parts in
        let more : n ≡ suc (n - 1) = omega (arith, is, long) in
        record { rest = take (n - 1) b.rest; parts = ap (take n) b.parts ∙ ap (λ (m : ℕ). take m (0 ∷ b.rest)) more }

pub at_whole : (n : ℕ) (bytes : List ℕ) (next : Next) → n ≡ min 515 (length bytes) → IsAt next (take n bytes)
    → IsAt next bytes
at_whole n bytes (Frame payload) is (rest, frame) = (
  rest ++ drop n bytes,
  subst (λ (l : List ℕ). IsFrame payload.items l (rest ++ drop n bytes)) (take-append-drop n bytes)
      (frame_more payload.items (take n bytes) (drop n bytes) rest frame),
)
at_whole n bytes Gate is b = subst (Begins (0 ∷ [])) (take-append-drop n bytes)
    (begins_more (0 ∷ []) (take n bytes) (drop n bytes) b)
at_whole n bytes Defect is broken = broken_whole n bytes is broken

pub within_at : (next : Next) (bytes : List ℕ) (n : ℕ) → length bytes ≤ n → IsAt next bytes → IsFrameWithin next n
within_at (Frame payload) bytes n fits (rest, frame) =
    (frame.fits.1, omega (arith, fits, frame_length payload.items bytes rest frame))
within_at Gate bytes n fits b = omega (arith, fits, ap length b.parts)
within_at Defect bytes n fits broken = tt

-- one more frame in front of those that follow
payloads_push : (frames : List (Vec ℕ Global)) (frame : Vec ℕ Global)
    → payloads_of (frames ++ frame ∷ []) ≡ payloads_of frames ++ frame.items ∷ []
payloads_push frames frame = map_push (λ (v : Vec ℕ Global). v.items) frames frame

pub bytes_push : (frames : List (Vec ℕ Global)) (frame : Vec ℕ Global)
    → bytes_of (payloads_of (frames ++ frame ∷ [])) ≡ bytes_of (payloads_of frames) + (3 + length frame.items)
bytes_push frames frame = ap bytes_of (payloads_push frames frame) ∙ sum_by_push
    (λ (payload : List ℕ). 3 + length payload) (payloads_of frames) frame.items

drop_frame : (payload bytes rest : List ℕ) → IsFrame payload bytes rest → drop (3 + length payload) bytes ≡ rest
drop_frame payload bytes rest frame =
    let size : length (frame.gate ∷ frame_spelled payload) ≡ 3 + length payload =
    omega (arith, length-spelled_on payload [], ap length (append-nil (frame_spelled payload))) in
    ap (drop (3 + length payload)) frame.parts ∙ drop_at (frame.gate ∷ frame_spelled payload) rest
    (3 + length payload) size

module _ (bytes : List ℕ) (frames : List (Vec ℕ Global)) (start at : ℕ) where
  -- whatever frames follow, those so far stand before them
  abbrev Precede : List (Vec ℕ Global) → ℕ → Type 0
  Precede frames at = (more : List (List ℕ)) (broken : Option ℕ) (end : ℕ)
      → AreFrames more broken end at (drop at bytes) → AreFrames (payloads_of frames ++ more) broken end start
      (drop start bytes)

  pub one_more : (frame : Vec ℕ Global) (at' : ℕ) (frames' : List (Vec ℕ Global)) → frames' ≡ frames ++ frame ∷ []
      → at' ≡ at + 3 + length frame.items → IsAt (Frame frame) (drop at bytes) → Precede frames at → Precede frames' at'
  one_more frame at' frames' frames_is at_is (rest, here) before more broken end follow =
      let behind : drop at' bytes ≡ rest = ap (λ (n : ℕ). drop n bytes) (omega (arith, at_is)) ∙ sym
      (drop-drop (3 + length frame.items) at bytes) ∙ drop_frame frame.items (drop at bytes) rest here in
      let there : AreFrames more broken end (at + 3 + length frame.items) rest =
      subst (λ (l : List ℕ). AreFrames more broken end (at + 3 + length frame.items) l) behind
      (subst (λ (n : ℕ). AreFrames more broken end n (drop at' bytes)) at_is follow) in
      let lists : payloads_of frames ++ (frame.items ∷ more) ≡ payloads_of frames' ++ more =
      sym (ap (λ (l : List (Vec ℕ Global)). payloads_of l ++ more) frames_is ∙ ap (λ (l : List (List ℕ)). l ++ more)
      (payloads_push frames frame) ∙ append_assoc (payloads_of frames) (frame.items ∷ []) more) in
      subst (λ (l : List (List ℕ)). AreFrames l broken end start (drop start bytes)) lists
      (before (frame.items ∷ more) broken end (rest, here, there))

  pub all_stop : (broken : Option ℕ) → Stops broken at (drop at bytes) → Precede frames at
      → AreFrames (payloads_of frames) broken at start (drop start bytes)
  all_stop broken stops before = subst (λ (l : List (List ℕ)). AreFrames l broken at start (drop start bytes))
      (append-nil (payloads_of frames)) (before [] broken at (refl, stops))
