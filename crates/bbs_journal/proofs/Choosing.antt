-- What the steps of a reader come to together.
use Rattle.std.proofs.Common.{◌≡◌, ℕ, ◌+◌, ◌<◌, ◌≤◌, List, ◌++◌, length, take, drop, sym, ap, ◌∙◌, subst, arith, length-drop, take-append-drop, Result, Ok}
use Rattle.std.proofs.lemmas.List.{length-take-le, take-take}
use Rattle.disk_trait.specs.Past.{Image, other}
use Rattle.disk_trait.specs.declared.area.Area.{Area}
use Rattle.disk_trait.specs.declared.area.Area.TheVariants.{A, B}
use Rattle.bbs_journal.specs.Header.{front, header_of, gate_of}
use Rattle.bbs_journal.specs.NotLoaded.{HasLongHead}
use Rattle.bbs_journal.specs.Opening.{active_of, size_of, AreFrames}
use Rattle.bbs_journal.specs.Reading.{payloads_of}
use Rattle.bbs_journal.specs.Found.{IsChosen, IsSized, IsFoundIn}
use Rattle.bbs_journal.specs.declared.active.Active.{Active}
use Rattle.bbs_journal.specs.declared.find.Chosen.{Chosen}
use Rattle.bbs_journal.specs.declared.find.Found.{Found}
use Rattle.bbs_journal.specs.declared.header.Header.{Header}
use Rattle.bbs_journal.specs.declared.load_fault.LoadFault.{LoadFault}
use Rattle.bbs_journal.specs.declared.not_loaded.LongHead.{LongHead}
use Rattle.bbs_journal.proofs.Opening.{headed_ok}

pub active_is : (c : Image) (a b : Header) (r : Result Active LoadFault) → a ≡ header_of (front (c A))
    → b ≡ header_of (front (c B)) → r ≡ active_of a b → active_of (header_of (front (c A))) (header_of (front (c B)))
    ≡ r
active_is c a b r a_is b_is is = sym (is ∙ ap (λ (x : Header). active_of x b) a_is ∙ ap
    (λ (x : Header). active_of (header_of (front (c A))) x) b_is)

pub chosen_in : (c : Image) (chosen : Chosen) (area : Area) (beside : Header) → chosen.active.area ≡ area
    → active_of (header_of (front (c A))) (header_of (front (c B))) ≡ Ok chosen.active
    → take chosen.front.count chosen.front.room ≡ front (c area)
    → chosen.gate ≡ gate_of beside → beside ≡ header_of (front (c (other area))) → IsChosen c chosen
chosen_in c chosen area beside area_is active front_is gate_is beside_is = record {
  active = active;
  front_is = front_is ∙ ap (λ (x : Area). front (c x)) (sym area_is);
  gate = gate_is ∙ ap gate_of (beside_is ∙ ap (λ (x : Area). header_of (front (c (other x)))) (sym area_is));
}

-- the length of the head, by what was read of the area
pub size_is : (c : Image) (chosen : Chosen) (bytes : List ℕ) (len : ℕ) (r : Result ℕ LoadFault) → IsChosen c chosen
    → bytes ≡ take chosen.front.count chosen.front.room → len ≡ length (c chosen.active.area)
    → r ≡ size_of chosen.active bytes len
    → size_of chosen.active (front (c chosen.active.area)) (length (c chosen.active.area)) ≡ r
size_is c chosen bytes len r is bytes_are len_is r_is =
    sym (r_is ∙ ap (λ (l : List ℕ). size_of chosen.active l len) (bytes_are ∙ is.front_is) ∙ ap
    (λ (n : ℕ). size_of chosen.active (front (c chosen.active.area)) n) len_is)

pub found_is : (c : Image) (chosen : Chosen) (found : Found) (len size : ℕ) → IsChosen c chosen
    → IsSized c chosen.active len size → found.place.area ≡ chosen.active.area
    → found.place.version ≡ chosen.active.version → found.place.generation ≡ chosen.active.generation
    → found.place.gate ≡ chosen.gate
    → found.head.items ≡ take size (drop 23 (c chosen.active.area)) → length found.head.items ≡ size
    → AreFrames (payloads_of found.payloads.items) found.broken found.place.end (23 + size)
    (drop (23 + size) (c chosen.active.area)) → IsFoundIn c found
found_is c chosen found len size is sized area_is version_is generation_is gate_is head_is head_len frames = record {
  opening = record {
    head_is = headed_ok c chosen.active size is.active sized.size_is ∙ cc (area_is, version_is, generation_is, head_is);
    frames = subst (λ (x : Area). AreFrames (payloads_of found.payloads.items) found.broken found.place.end
        (23 + length found.head.items) (drop (23 + length found.head.items) (c x))) (sym area_is)
        (subst (λ (n : ℕ). AreFrames (payloads_of found.payloads.items) found.broken found.place.end (23 + n)
        (drop (23 + n) (c chosen.active.area))) (sym head_len) frames);
  };
  gate = gate_is ∙ is.gate ∙ ap (λ (x : Area). gate_of (header_of (front (c (other x))))) (sym area_is);
}

-- the first bytes of a head that has more
pub long_is : (c : Image) (chosen : Chosen) (long : LongHead) (len size most : ℕ) → IsChosen c chosen
    → IsSized c chosen.active len size → 23 + size ≤ len → most < size → long.area ≡ chosen.active.area
    → long.version ≡ chosen.active.version
    → long.begin.items ≡ take most (drop 23 (c chosen.active.area)) → HasLongHead long c
long_is c chosen long len size most is sized fits longer area_is version_is begin_is =
    let behind : List ℕ = drop 23 (c chosen.active.area) in
    let rest : List ℕ = drop most (take size behind) in
    let there : length (take size behind) ≡ size = length-take-le size behind
    (omega (arith, fits, sized.len_is, length-drop 23 (c chosen.active.area))) in
    let front : take most (take size behind) ≡ take most behind = take-take most size behind (omega (arith, longer)) in
    let whole : take size behind ≡ long.begin.items ++ rest =
    sym (take-append-drop most (take size behind)) ∙ ap (λ (l : List ℕ). l ++ rest) (front ∙ sym begin_is) in
    record {
      generation = chosen.active.generation;
      rest = rest;
      longer = omega (arith, longer, there, length-drop most (take size behind));
      head_is = headed_ok c chosen.active size is.active sized.size_is
          ∙ cc (sym area_is, sym version_is, whole);
    }
