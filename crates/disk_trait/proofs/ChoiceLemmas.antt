-- What a test asked a stop to leave, from deed to deed.
use Rattle.std.specs.Prelude.{if◌then◌else◌, nat_lt}
use Rattle.std.proofs.Common.{◌≡◌, ◌∙◌, ℕ, ◌≤◌, ◌<◌, Bool, true, false, List, [], ◌∷◌, length, replicate, Result, Ok, Err, IfOk, Vec, refl, sym, ap, subst, arith}
use Rattle.std.proofs.lemmas.Bool.Decides.{nat_tests}
use Rattle.std.specs.declared.alloc.Global.{Global}
use Rattle.disk_trait.specs.Steps.{overwritten}
use Rattle.disk_trait.specs.Held.{Held}
use Rattle.disk_trait.specs.Deeds.{before, held_after, settled_on}
use Rattle.disk_trait.specs.Possible.{reads_after}
use Rattle.disk_trait.specs.MemoryPast.{held_at}
use Rattle.disk_trait.specs.Chosen.{covered_in, left_as, picked_as, Chooses, ChoosesAll}
use Rattle.disk_trait.specs.declared.image.Torn.{Torn}
use Rattle.disk_trait.specs.declared.image.Torn.TheVariants.{Old, New, Byte}
use Rattle.disk_trait.specs.declared.memory_area.MemoryArea.{MemoryArea}
use Rattle.disk_trait.specs.declared.deed.Deed.TheVariants.{Write, Tear, Sync}
use Rattle.disk_trait.specs.declared.deed.Entry.{Entry}
use Rattle.disk_trait.proofs.DeedLemmas.{done, not_done}

by_test : (b : Bool) (x y : List ℕ) → b ≡ false → (if b then x else y) ≡ y
by_test true x y is = absurd (cc)
by_test false x y is = refl

by_test_true : (b : Bool) (x y : List ℕ) → b ≡ true → (if b then x else y) ≡ x
by_test_true true x y is = refl
by_test_true false x y is = absurd (cc)

-- a range behind the end covers nothing, and each other one is overwritten
pub covered_none : (byte from len : ℕ) (left : List ℕ) → length left < from → left ≡ covered_in byte from len left
covered_none byte from len left behind = sym (by_test_true (nat_lt (length left) from) _ _ (grind (arith, nat_tests)))

pub covered_here : (byte from len : ℕ) (left next fill : List ℕ) → from ≤ length left → fill ≡ replicate len byte
    → next ≡ overwritten from fill left → next ≡ covered_in byte from len left
covered_here byte from len left next fill within is laid =
    laid ∙ ap (λ (l : List ℕ). overwritten from l left) is ∙ sym
    (by_test (nat_lt (length left) from) _ _ (grind (arith, nat_tests)))

-- a pending range is torn as it was asked
pub pend_chooses : (torn : Torn) (held : Held) (from len : ℕ) (left after next : List ℕ) → left ≡ left_as torn held
    → next ≡ picked_as torn from len left after
    → next ≡ left_as torn (record {
      reads = after;
      synced = held.synced;
      pending = record { from = from; len = len }
          ∷ held.pending;
    })
pend_chooses Old held from len left after next is picked = picked ∙ is
pend_chooses New held from len left after next is picked = picked
pend_chooses (Byte byte) held from len left after next is picked = picked ∙ ap (covered_in byte from len) is

settled_chooses : (torn : Torn) (bytes : List ℕ) → bytes ≡ left_as torn (settled_on bytes)
settled_chooses Old bytes = refl
settled_chooses New bytes = refl
settled_chooses (Byte byte) bytes = refl

pub write_chooses : (torn : Torn) (from len : ℕ) (over : _) (left after next : List ℕ)
    → next ≡ picked_as torn from len left after → Chooses torn (Write from len over) left after next
write_chooses torn from len over left after next picked held reads is =
    pend_chooses torn held from len left after next is picked

pub tear_chooses : (torn : Torn) (from len : ℕ) (left after next : List ℕ) → next ≡ picked_as torn from len left after
    → Chooses torn (Tear from len) left after next
tear_chooses torn from len left after next picked held reads is =
    pend_chooses torn held from len left held.reads next is (picked ∙ ap (picked_as torn from len left) (sym reads))

pub sync_chooses : (torn : Torn) (left after : List ℕ) → Chooses torn Sync left after after
sync_chooses torn left after held reads is = subst (λ (l : List ℕ). l ≡ left_as torn (settled_on held.reads)) reads
    (settled_chooses torn held.reads)

pub chooses_none : (torn : Torn) (moment : ℕ) (bytes left : List ℕ) → ChoosesAll torn moment [] bytes left left
chooses_none torn moment bytes left held reads is = is

pub chooses_stop : (torn : Torn) (moment : ℕ) (entry : Entry) (entries : List Entry) (bytes left : List ℕ)
    → moment < entry.call → ChoosesAll torn moment (entry ∷ entries) bytes left left
chooses_stop torn moment entry entries bytes left late held reads is =
    is ∙ ap (left_as torn) (sym (not_done entry.call moment _ held late))

pub chooses_more : (torn : Torn) (moment : ℕ) (entry : Entry) (entries : List Entry) (bytes left next last : List ℕ)
    → entry.call ≤ moment → Chooses torn entry.deed left (before entries bytes) next
    → ChoosesAll torn moment entries bytes next last
    → ChoosesAll torn moment (entry ∷ entries) bytes left last
chooses_more torn moment entry entries bytes left next last early first more held reads is =
    let after = before entries bytes in
    more (held_after entry.deed held after) (reads_after entry.deed held after reads) (first held reads is) ∙ ap
    (left_as torn) (sym (done entry.call moment _ held early))

pub chooses_ok : {E : Type 0} (result : Result (Vec ℕ Global) E) (torn : Torn) (moment : ℕ) (entries later : List Entry)
    (entry : Entry) (bytes left next after : List ℕ) → entries ≡ entry ∷ later → entry.call ≤ moment
    → after ≡ before later bytes → Chooses torn entry.deed left after next
    → IfOk result (λ last. ChoosesAll torn moment later bytes next last.items)
    → IfOk result (λ last. ChoosesAll torn moment entries bytes left last.items)
chooses_ok (Ok last) torn moment entries later entry bytes left next after split early is first more =
    subst (λ (es : List Entry). ChoosesAll torn moment es bytes left last.items) (sym split)
    (chooses_more torn moment entry later bytes left next last.items early
    (subst (λ (l : List ℕ). Chooses torn entry.deed left l next) is first) more)
chooses_ok (Err e) torn moment entries later entry bytes left next after split early is first more = tt

left_chosen : (torn : Torn) (area : MemoryArea) (moment : ℕ) (first last : List ℕ)
    → first ≡ before area.entries.items area.bytes.items → ChoosesAll torn moment area.entries.items area.bytes.items
    first last → last ≡ left_as torn (held_at area moment)
left_chosen torn area moment first last is chooses =
    let start = before area.entries.items area.bytes.items in
    chooses (settled_on start) refl (is ∙ settled_chooses torn start)

pub chosen_ok : {E : Type 0} (result : Result (Vec ℕ Global) E) (torn : Torn) (area : MemoryArea) (moment : ℕ)
    (entries : List Entry) (bytes first : List ℕ) → entries ≡ area.entries.items → bytes ≡ area.bytes.items
    → first ≡ before area.entries.items area.bytes.items
    → IfOk result (λ last. ChoosesAll torn moment entries bytes first last.items)
    → IfOk result (λ last. last.items ≡ left_as torn (held_at area moment))
chosen_ok (Ok last) torn area moment entries bytes first same_entries same_bytes is chooses =
    left_chosen torn area moment first last.items is
    (subst (λ (es : List Entry). ChoosesAll torn moment es area.bytes.items first last.items) same_entries
    (subst (λ (l : List ℕ). ChoosesAll torn moment entries l first last.items) same_bytes chooses))
chosen_ok (Err e) torn area moment entries bytes first same_entries same_bytes is chooses = tt
