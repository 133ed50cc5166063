-- What a call does to an area held in memory, from what it does to its deeds.
use Rattle.std.proofs.Common.{◌≡◌, ℕ, ◌+◌, Bool, true, false, Result, Ok, Err, is_ok, IsErr, List, [], ◌∷◌, ◌++◌, length, Vec, slice_index_or, Fits, w8, refl, sym, ◌∙◌, ap, subst, arith}
use Rattle.std.proofs.lemmas.List.{get_or_default}
use Rattle.std.specs.declared.alloc.Global.{Global}
use Rattle.disk_trait.specs.Held.{Held, AreBytes, Torn}
use Rattle.disk_trait.specs.Steps.{Wrote, overwritten, pend, range_of}
use Rattle.disk_trait.specs.declared.deed.Deed.TheVariants.{Write}
use Rattle.disk_trait.specs.Deeds.{undone, before, range_named, Sound, held_after, held_until, settled_on, NumberedTo}
use Rattle.disk_trait.specs.MemoryPast.{held_at, AddsStep}
use Rattle.disk_trait.specs.declared.deed.Entry.{Entry}
use Rattle.disk_trait.specs.declared.memory_area.MemoryArea.{MemoryArea}
use Rattle.disk_trait.proofs.DeedLemmas.{before_push, numbered_later, numbered_push, until_earlier, until_push, until_all, reads_all, sound_push}
use Rattle.disk_trait.specs.Possible.{sound_bytes}

pub reads_now : (clock : ℕ) (area : MemoryArea) → NumberedTo clock area.entries.items
    → (held_at area clock).reads ≡ area.bytes.items
reads_now clock area numbered = reads_all clock area.entries.items _ area.bytes.items numbered refl

-- one deed more
pub adds : (clock : ℕ) (old new : MemoryArea) (entry : Entry) (Step : Held → Held → Type 0)
    → NumberedTo clock old.entries.items → new.entries.items ≡ old.entries.items ++ entry ∷ [] → entry.call ≡ clock + 1
    → undone entry.deed new.bytes.items ≡ old.bytes.items
    → ((held : Held) → held.reads ≡ old.bytes.items → Step held (held_after entry.deed held new.bytes.items))
    → AddsStep clock Step old new
adds clock old new entry Step numbered more call undoes step = record {
  earlier = λ m le.
      ap (λ (es : List Entry). held_until m es (settled_on (before es new.bytes.items)) new.bytes.items) more
      ∙ ap (λ (l : List ℕ). held_until m (old.entries.items ++ entry ∷ []) (settled_on l) new.bytes.items) begins
      ∙ until_earlier entry old.bytes.items new.bytes.items undoes m old.entries.items
      (settled_on (before old.entries.items old.bytes.items)) (omega arith);
  step = subst (Step (held_at old clock)) (sym now_is) (step (held_at old clock) (reads_now clock old numbered));
  numbered = subst (NumberedTo (clock + 1)) (sym more) (numbered_push (clock + 1) old.entries.items entry
      (numbered_later clock (clock + 1) old.entries.items (omega arith) numbered) (omega arith));
}
  where
    begins : before (old.entries.items ++ entry ∷ []) new.bytes.items ≡ before old.entries.items old.bytes.items
    begins = before_push old.entries.items entry new.bytes.items ∙ ap (before old.entries.items) undoes

    first : Held
    first = settled_on (before old.entries.items old.bytes.items)

    now_is : held_at new (clock + 1) ≡ held_after entry.deed (held_at old clock) new.bytes.items
    now_is =
        ap (λ (es : List Entry). held_until (clock + 1) es (settled_on (before es new.bytes.items)) new.bytes.items)
        more
        ∙ ap (λ (l : List ℕ). held_until (clock + 1) (old.entries.items ++ entry ∷ []) (settled_on l) new.bytes.items)
        begins
        ∙ until_push entry old.bytes.items new.bytes.items undoes (clock + 1) old.entries.items
        (settled_on (before old.entries.items old.bytes.items))
        (numbered_later clock (clock + 1) old.entries.items (omega arith) numbered) (omega arith)
        ∙ ap (λ (h : Held). held_after entry.deed h new.bytes.items)
        (until_all (clock + 1) clock old.entries.items (settled_on (before old.entries.items old.bytes.items))
        old.bytes.items (numbered_later clock (clock + 1) old.entries.items (omega arith) numbered) numbered)

-- no deed more
pub rests : (clock : ℕ) (old new : MemoryArea) (Step : Held → Held → Type 0) → NumberedTo clock old.entries.items
    → new.entries.items ≡ old.entries.items → new.bytes.items ≡ old.bytes.items
    → ((held : Held) → Step held held) → AddsStep clock Step old new
rests clock old new Step numbered entries bytes step = record {
  earlier = λ m le. same m;
  step = subst (Step (held_at old clock)) (sym (same (clock + 1) ∙ until_all (clock + 1) clock old.entries.items
      (settled_on (before old.entries.items old.bytes.items)) old.bytes.items later numbered))
      (step (held_at old clock));
  numbered = subst (NumberedTo (clock + 1)) (sym entries) later;
}
  where
    later : NumberedTo (clock + 1) old.entries.items
    later = numbered_later clock (clock + 1) old.entries.items (omega arith) numbered

    same : (m : ℕ) → held_at new m ≡ held_at old m
    same m = ap (λ (es : List Entry). held_until m es (settled_on (before es new.bytes.items)) new.bytes.items) entries
        ∙ ap (λ (l : List ℕ). held_until m old.entries.items (settled_on (before old.entries.items l)) l) bytes

-- a call for which there was no memory
pub refused : {T E : Type 0} (result : Result T E) (clock : ℕ) (old new : MemoryArea)
    (Step : Bool → Held → Held → Type 0) → IsErr result → NumberedTo clock old.entries.items
    → new.entries.items ≡ old.entries.items → new.bytes.items ≡ old.bytes.items
    → ((held : Held) → Step false held held) → AddsStep clock (Step (is_ok result)) old new
refused (Ok x) clock old new Step is numbered entries bytes step = absurd (cc)
refused (Err e) clock old new Step is numbered entries bytes step =
    rests clock old new (Step false) numbered entries bytes step

-- what a slice of bytes holds is bytes
pub bytes_from_fits : (bytes : List ℕ) → ((i : ℕ) → Fits w8 (slice_index_or bytes i 0)) → AreBytes bytes
bytes_from_fits bytes fits k d within = let here = fits k in let same = get_or_default bytes k d 0 within in omega arith

pub sound_adds : (old : MemoryArea) (entries : List Entry) (bytes : List ℕ) (entry : Entry)
    → entries ≡ old.entries.items ++ entry ∷ [] → undone entry.deed bytes ≡ old.bytes.items
    → Torn (range_named entry.deed) old.bytes.items bytes → AreBytes bytes → Sound entries bytes
sound_adds old entries bytes entry more undoes torn are_bytes =
    subst (λ (es : List Entry). Sound es bytes) (sym more)
    (sound_push entry old.bytes.items bytes undoes old.entries.items old.sound torn
    (sound_bytes old.entries.items old.bytes.items old.sound) are_bytes)

pub area_bytes : (area : MemoryArea) → AreBytes area.bytes.items
area_bytes area = sound_bytes area.entries.items area.bytes.items area.sound

-- a write that was made
pub wrote_step : (at len : ℕ) (bytes before_it after : List ℕ) (over : Vec ℕ Global) (held : Held) → len ≡ length bytes
    → after ≡ overwritten at bytes before_it → held.reads ≡ before_it
    → Wrote true at bytes held (held_after (Write at len over) held after)
wrote_step at len bytes before_it after over held long is reads =
    ap (λ (n : ℕ). pend held (record { from = at; len = n }) after) long
    ∙ ap (λ (l : List ℕ). pend held (range_of at bytes) l) (is ∙ ap (overwritten at bytes) (sym reads))
