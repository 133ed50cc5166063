-- How a stop's image follows the deeds.
use Rattle.std.proofs.Common.{◌≡◌, ◌∙◌, ⊎_elim, ℕ, ◌≤◌, ◌<◌, List, [], ◌∷◌, length, replicate, Result, Ok, Err, IfOk, Vec, refl, sym, ap, subst}
use Rattle.std.proofs.lemmas.List.{length-replicate}
use Rattle.std.proofs.lemmas.List.Elements.{All-replicate}
use Rattle.std.specs.declared.alloc.Global.{Global}
use Rattle.disk_trait.proofs.Ranges.{torn_overwritten, bytes_overwritten}
use Rattle.disk_trait.specs.Steps.{overwritten, range_of}
use Rattle.disk_trait.specs.Held.{Held, Torn, AreBytes, Leaves}
use Rattle.disk_trait.specs.Deeds.{before, held_after, settled_on}
use Rattle.disk_trait.specs.Possible.{reads_after, possible_after, sound_before}
use Rattle.disk_trait.specs.Picks.{image_of, Tears, Picked, FollowsDeed, ReachesAt}
use Rattle.disk_trait.specs.MemoryPast.{held_at}
use Rattle.disk_trait.specs.MemoryAreas.{part}
use Rattle.disk_trait.specs.declared.area.Area.{Area}
use Rattle.disk_trait.specs.declared.area.Area.TheVariants.{A, B}
use Rattle.disk_trait.specs.declared.areas.Areas.{Areas}
use Rattle.disk_trait.specs.declared.memory_area.MemoryArea.{MemoryArea}
use Rattle.disk_trait.specs.declared.deed.Deed.{Deed}
use Rattle.disk_trait.specs.declared.deed.Deed.TheVariants.{Write, Tear}
use Rattle.disk_trait.specs.declared.deed.Entry.{Entry}
use Rattle.disk_trait.proofs.DeedLemmas.{done, not_done}

-- what is read after any deed
pub read_follows : (deed : Deed) (left after next : List ℕ) → next ≡ after → FollowsDeed deed left after next
read_follows deed left after next is held leaves possible reads torn bytes =
    subst (Leaves (held_after deed held after)) (reads_after deed held after reads ∙ sym is)
    (possible_after deed held after reads torn bytes possible)

pub write_follows : (from len : ℕ) (over : _) (left after next : List ℕ) → Picked from len left after next
    → FollowsDeed (Write from len over) left after next
write_follows from len over left after next picked held leaves possible reads torn bytes = ⊎_elim
    (λ tears. record { torn = (left, leaves.torn, leaves.bytes, tears.0); bytes = tears.1 leaves.bytes })
    (λ is. read_follows (Write from len over) left after next is held leaves possible reads torn bytes)
    picked

pub tear_follows : (from len : ℕ) (left after next : List ℕ) → Picked from len left after next
    → FollowsDeed (Tear from len) left after next
tear_follows from len left after next picked held leaves possible reads torn bytes = ⊎_elim
    (λ tears. record { torn = (left, leaves.torn, leaves.bytes, tears.0); bytes = tears.1 leaves.bytes })
    (λ is. read_follows (Tear from len) left after next is held leaves possible reads torn bytes)
    picked

pub reaches_none : (moment : ℕ) (bytes left : List ℕ) → ReachesAt moment [] bytes left left
reaches_none moment bytes left held leaves possible reads sound = leaves

pub reaches_stop : (moment : ℕ) (entry : Entry) (entries : List Entry) (bytes left : List ℕ) → moment < entry.call
    → ReachesAt moment (entry ∷ entries) bytes left left
reaches_stop moment entry entries bytes left late held leaves possible reads sound =
    subst (λ (h : Held). Leaves h left) (sym (not_done entry.call moment _ held late)) leaves

pub reaches_more : (moment : ℕ) (entry : Entry) (entries : List Entry) (bytes left next last : List ℕ)
    → entry.call ≤ moment → FollowsDeed entry.deed left (before entries bytes) next
    → ReachesAt moment entries bytes next last
    → ReachesAt moment (entry ∷ entries) bytes left last
reaches_more moment entry entries bytes left next last early follows reaches held leaves possible reads sound =
    let after = before entries bytes in
    let held' = held_after entry.deed held after in
    let bytes_after = sound_before entries bytes sound.2 in
    subst (λ (h : Held). Leaves h last) (sym (done entry.call moment _ held early))
    (reaches held' (follows held leaves possible reads sound.1 bytes_after)
    (possible_after entry.deed held after reads sound.1 bytes_after possible)
    (reads_after entry.deed held after reads) sound.2)

pub left_leaves : (area : MemoryArea) (moment : ℕ) (first last : List ℕ)
    → first ≡ before area.entries.items area.bytes.items → ReachesAt moment area.entries.items area.bytes.items first
    last → Leaves (held_at area moment) last
left_leaves area moment first last is reaches =
    let bytes = sound_before area.entries.items area.bytes.items area.sound in
    reaches (settled_on (before area.entries.items area.bytes.items))
    (record { torn = is; bytes = subst AreBytes (sym is) bytes })
    (record { torn = refl; bytes = bytes }) refl area.sound

pub both_leave : (areas : Areas) (moment : ℕ) (a b : List ℕ) → Leaves (held_at areas.a moment) a
    → Leaves (held_at areas.b moment) b → (area : Area) → Leaves (held_at (part areas area) moment) (image_of a b area)
both_leave areas moment a b in_a in_b A = in_a
both_leave areas moment a b in_a in_b B = in_b

pub reaches_ok : {E : Type 0} (result : Result (Vec ℕ Global) E) (moment : ℕ) (entries later : List Entry)
    (entry : Entry) (bytes left next after : List ℕ) → entries ≡ entry ∷ later → entry.call ≤ moment
    → after ≡ before later bytes → FollowsDeed entry.deed left after next
    → IfOk result (λ last. ReachesAt moment later bytes next last.items)
    → IfOk result (λ last. ReachesAt moment entries bytes left last.items)
reaches_ok (Ok last) moment entries later entry bytes left next after split early is follows reaches =
    subst (λ (es : List Entry). ReachesAt moment es bytes left last.items) (sym split)
    (reaches_more moment entry later bytes left next last.items early
    (subst (λ (l : List ℕ). FollowsDeed entry.deed left l next) is follows) reaches)
reaches_ok (Err e) moment entries later entry bytes left next after split early is follows reaches = tt

pub leaves_ok : {E : Type 0} (result : Result (Vec ℕ Global) E) (area : MemoryArea) (moment : ℕ) (entries : List Entry)
    (bytes first : List ℕ) → entries ≡ area.entries.items → bytes ≡ area.bytes.items
    → first ≡ before area.entries.items area.bytes.items
    → IfOk result (λ last. ReachesAt moment entries bytes first last.items)
    → IfOk result (λ last. Leaves (held_at area moment) last.items)
leaves_ok (Ok last) area moment entries bytes first same_entries same_bytes is reaches =
    left_leaves area moment first last.items is
    (subst (λ (es : List Entry). ReachesAt moment es area.bytes.items first last.items) same_entries
    (subst (λ (l : List ℕ). ReachesAt moment entries l first last.items) same_bytes reaches))
leaves_ok (Err e) area moment entries bytes first same_entries same_bytes is reaches = tt

pub cover_tears : (from len byte : ℕ) (left next fill : List ℕ) → byte < 256 → from ≤ length left
    → fill ≡ replicate len byte → next ≡ overwritten from fill left → Tears from len left next
cover_tears from len byte left next fill small within is laid =
    let long : length fill ≡ len = ap length is ∙ length-replicate len byte in
    let fill_bytes : AreBytes fill = subst AreBytes (sym is) (All-replicate (λ b. b < 256) len byte small) in (
      subst (λ (n : ℕ). Torn (record { from = from; len = n }) left next) long
          (subst (λ (l : List ℕ). Torn (range_of from fill) left l) (sym laid)
          (torn_overwritten from fill left within)),
      λ bytes. subst AreBytes (sym laid) (bytes_overwritten from fill left fill_bytes bytes),
    )
