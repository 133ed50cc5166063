-- An image is opened in one way.
use Rattle.std.proofs.Common.{◌≡◌, ℕ, ◌+◌, Option, Some, None, List, [], ◌∷◌, ◌++◌, length, drop, refl, sym, ap, ◌∙◌, subst, arith}
use Rattle.disk_trait.specs.declared.area.Area.{Area}
use Rattle.bbs_journal.specs.Frames.{frame_spelled, IsFrame}
use Rattle.bbs_journal.specs.Areas.{Begins}
use Rattle.bbs_journal.specs.Opening.{Stops, AreFrames, Headed, headed}
use Rattle.bbs_journal.specs.Grammar.{OpensOnce}
use Rattle.bbs_journal.proofs.Opening.{ok_is}
use Rattle.bbs_journal.proofs.Unique.{spelled_one}

behind : (x y : ℕ) (a b : List ℕ) → x ∷ a ≡ y ∷ b → (x ≡ y) × (a ≡ b)
behind x y a b e = (cc, cc)

-- bytes begin with one frame at most
frame_one : (a b bytes r s : List ℕ) → IsFrame a bytes r → IsFrame b bytes s → (a ≡ b) × (r ≡ s)
frame_one a b bytes r s first second =
    let both = behind first.gate second.gate (frame_spelled a ++ r) (frame_spelled b ++ s)
    (sym first.parts ∙ second.parts) in
    spelled_one a b r s first.fits second.fits both.1

-- and with none where they begin with a closed gate
no_both : (payload bytes rest : List ℕ) → Begins (0 ∷ []) bytes → IsFrame payload bytes rest → ⊥
no_both payload bytes rest b frame =
    let both = behind 0 frame.gate b.rest (frame_spelled payload ++ rest) (sym b.parts ∙ frame.parts) in
    omega (arith, both.0, frame.is_open)

pub record Same (a b : List (List ℕ)) (broken broken' : Option ℕ) (end end' : ℕ) : Type 0 where
  pub payloads_are : a ≡ b
  pub broken_is : broken ≡ broken'
  pub end_is : end ≡ end'

stops_one : (broken broken' : Option ℕ) (at : ℕ) (bytes : List ℕ) → Stops broken at bytes → Stops broken' at bytes
    → broken ≡ broken'
stops_one None None at bytes first second = refl
stops_one None (Some y) at bytes first second = absurd (second.1.no_gate first)
stops_one (Some x) None at bytes first second = absurd (first.1.no_gate second)
stops_one (Some x) (Some y) at bytes first second = ap Some (first.0 ∙ sym second.0)

no_more : (broken : Option ℕ) (at : ℕ) (payload bytes rest : List ℕ) → Stops broken at bytes
    → IsFrame payload bytes rest → ⊥
no_more None at payload bytes rest stops frame = no_both payload bytes rest stops frame
no_more (Some x) at payload bytes rest stops frame = stops.1.no_frame payload rest frame

frames_one : (a b : List (List ℕ)) (broken broken' : Option ℕ) (end end' at : ℕ) (bytes : List ℕ)
    → AreFrames a broken end at bytes → AreFrames b broken' end' at bytes → Same a b broken broken' end end'
frames_one [] [] broken broken' end end' at bytes first second = record {
  payloads_are = refl;
  broken_is = stops_one broken broken' at bytes first.1 second.1;
  end_is = first.0 ∙ sym second.0;
}
frames_one [] (y ∷ b) broken broken' end end' at bytes first (rest, frame, more) =
    absurd (no_more broken at y bytes rest first.1 frame)
frames_one (x ∷ a) [] broken broken' end end' at bytes (rest, frame, more) second =
    absurd (no_more broken' at x bytes rest second.1 frame)
frames_one (x ∷ a) (y ∷ b) broken broken' end end' at bytes (rest, frame, more) (rest', frame', more') =
    let same = frame_one x y bytes rest rest' frame frame' in
    let other : AreFrames b broken' end' (at + 3 + length x) rest =
    subst (λ (l : List ℕ). AreFrames b broken' end' (at + 3 + length x) l) (sym same.1)
    (subst (λ (n : List ℕ). AreFrames b broken' end' (at + 3 + length n) rest') (sym same.0) more') in
    let others = frames_one a b broken broken' end end' (at + 3 + length x) rest more other in
    record {
      payloads_are = ap (λ (p : List ℕ). p ∷ a) same.0 ∙ ap (λ (l : List (List ℕ)). y ∷ l) others.payloads_are;
      broken_is = others.broken_is;
      end_is = others.end_is;
    }

pub opens_once : OpensOnce
opens_once c area area' version version' generation generation' head head' payloads payloads' broken broken' end end'
    first second =
    let one : record { area = area; version = version; generation = generation; head = head }
    ≡ record { area = area'; version = version'; generation = generation'; head = head' } =
    ok_is _ _ (headed c) first.head_is second.head_is in
    let area_is : area ≡ area' = ap (λ (x : Headed). x.area) one in
    let head_is : head ≡ head' = ap (λ (x : Headed). x.head) one in
    let frames : AreFrames payloads' broken' end' (23 + length head) (drop (23 + length head) (c area)) =
    subst (λ (x : Area). AreFrames payloads' broken' end' (23 + length head) (drop (23 + length head) (c x)))
    (sym area_is)
    (subst (λ (l : List ℕ). AreFrames payloads' broken' end' (23 + length l) (drop (23 + length l) (c area')))
    (sym head_is) second.frames) in
    let same = frames_one payloads payloads' broken broken' end end' (23 + length head)
    (drop (23 + length head) (c area)) first.frames frames in
    record {
      area_is = area_is;
      version_is = ap (λ (x : Headed). x.version) one;
      generation_is = ap (λ (x : Headed). x.generation) one;
      head_is = head_is;
      payloads_are = same.payloads_are;
      broken_is = same.broken_is;
      end_is = same.end_is;
    }
