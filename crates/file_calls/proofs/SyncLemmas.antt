-- Calls that sync a file leave the other, and names stay on the disk.
use Rattle.std.specs.List.{list_all}
use Rattle.std.proofs.Common.{◌≡◌, Bool, true, false, ◌||◌, Result, Ok, Err, is_ok, IsErr, List, [], ◌∷◌, ◌++◌, refl, sym, ◌∙◌, ap, subst}
use Rattle.disk_trait.specs.Held.{Held}
use Rattle.disk_trait.specs.Past.{other}
use Rattle.disk_trait.specs.Steps.{Synced}
use Rattle.disk_trait.specs.declared.area.Area.{Area}
use Rattle.disk_trait.specs.declared.area.Area.TheVariants.{A, B}
use Rattle.file_calls.specs.declared.call_error.CallError.{CallError}
use Rattle.file_calls.specs.Call.{Call, began, means, measured, read, written, named, flushed}
use Rattle.file_calls.specs.Files.{First, same_area, names, has_its_name, held_by}
use Rattle.file_calls.specs.Made.{AddsCalls, is_naming, syncs, was_synced}
use Rattle.file_calls.proofs.Records.{Works, and_first, and_second, and_both, area_here, adds_one}
use Rattle.file_calls.proofs.ReadLemmas.{Spares, held_same}

pub naming_spares : (a : Area) → Spares is_naming a
naming_spares a (measured here ok count) is n held = refl
naming_spares a began is n held = refl
naming_spares a (means here at len) is n held = absurd (cc)
naming_spares a (read here at ok bytes) is n held = refl
naming_spares a (written here at ok bytes) is n held = absurd (cc)
naming_spares a (named here ok) is n held = refl
naming_spares a (flushed here ok) is n held = absurd (cc)

naming_syncs : (area : Area) (call : Call) → is_naming call ≡ true → syncs area call ≡ true
naming_syncs area (measured here ok count) is = is
naming_syncs area began is = is
naming_syncs area (means here at len) is = is
naming_syncs area (read here at ok bytes) is = is
naming_syncs area (written here at ok bytes) is = is
naming_syncs area (named here ok) is = refl
naming_syncs area (flushed here ok) is = absurd (cc)

pub syncs_work : (area : Area) → Works (syncs area)
syncs_work area (measured here ok count) is = refl
syncs_work area began is = absurd (cc)
syncs_work area (means here at len) is = refl
syncs_work area (read here at ok bytes) is = refl
syncs_work area (written here at ok bytes) is = refl
syncs_work area (named here ok) is = refl
syncs_work area (flushed here ok) is = refl

apart : (area here : Area) → same_area area here ≡ true → same_area (other area) here ≡ false
apart A A is = refl
apart A B is = absurd (cc)
apart B A is = absurd (cc)
apart B B is = refl

pub syncs_spare : (area : Area) → Spares (syncs area) (other area)
syncs_spare area (measured here ok count) is n held = refl
syncs_spare area began is n held = refl
syncs_spare area (means here at len) is n held = absurd (cc)
syncs_spare area (read here at ok bytes) is n held = refl
syncs_spare area (written here at ok bytes) is n held = absurd (cc)
syncs_spare area (named here ok) is n held = refl
syncs_spare area (flushed here ok) is n held = rw (apart area here is) refl

-- calls that put names on the disk are among those of a sync
all_wider : (area : Area) (calls : List Call) → list_all is_naming calls ≡ true → list_all (syncs area) calls ≡ true
all_wider area [] all = refl
all_wider area (call ∷ calls) all = and_both (syncs area call) _
    (naming_syncs area call (and_first (is_naming call) _ all))
    (all_wider area calls (and_second (is_naming call) _ all))

pub adds_wider : (area : Area) (old new : List Call) → AddsCalls is_naming old new → AddsCalls (syncs area) old new
adds_wider area old new adds = (adds.0, adds.1, all_wider area adds.0 adds.2)

pub sync_adds : (area : Area) (ok : Bool) (old new : List Call) → new ≡ flushed area ok ∷ old
    → AddsCalls (syncs area) old new
sync_adds area ok old new noted = adds_one (syncs area) old new (flushed area ok) (area_here area) noted

pub name_adds : (area : Area) (ok : Bool) (old new : List Call) → new ≡ named area ok ∷ old
    → AddsCalls is_naming old new
name_adds area ok old new noted = adds_one is_naming old new (named area ok) refl noted

-- names that are put on the disk leave the files unsynced
unsynced_call : (area : Area) (call : Call) (old : List Call) → is_naming call ≡ true
    → was_synced area (call ∷ old) ≡ was_synced area old
unsynced_call area (measured here ok count) old is = refl
unsynced_call area began old is = absurd (cc)
unsynced_call area (means here at len) old is = refl
unsynced_call area (read here at ok bytes) old is = refl
unsynced_call area (written here at ok bytes) old is = refl
unsynced_call area (named here ok) old is = refl
unsynced_call area (flushed here ok) old is = absurd (cc)

unsynced_more : (area : Area) (old calls : List Call) → list_all is_naming calls ≡ true
    → was_synced area (calls ++ old) ≡ was_synced area old
unsynced_more area old [] all = refl
unsynced_more area old (call ∷ calls) all = unsynced_call area call (calls ++ old)
    (and_first (is_naming call) _ all) ∙ unsynced_more area old calls (and_second (is_naming call) _ all)

pub still_unsynced : (area : Area) (old new : List Call) → AddsCalls is_naming old new → was_synced area old ≡ false
    → was_synced area new ≡ false
still_unsynced area old new adds is = ap (was_synced area) adds.1 ∙ unsynced_more area old adds.0 adds.2 ∙ is

-- a name that is on the disk stays
or_second : (a b : Bool) → b ≡ true → (a || b) ≡ true
or_second true b is = refl
or_second false b is = is

named_more : (area : Area) (old calls : List Call) → has_its_name area old ≡ true
    → has_its_name area (calls ++ old) ≡ true
named_more area old [] is = is
named_more area old (call ∷ calls) is = or_second (names area call) _ (named_more area old calls is)

pub still_named : (kind : Call → Bool) (area : Area) (old new : List Call) → AddsCalls kind old new
    → has_its_name area old ≡ true → has_its_name area new ≡ true
still_named kind area old new adds is = subst (λ (l : List Call). has_its_name area l ≡ true) (sym adds.1)
    (named_more area old adds.0 is)

-- what a file holds whose name is on the disk, after a sync
sync_step : (first : First) (area : Area) (ok : Bool) (old new : List Call) → has_its_name area old ≡ true
    → new ≡ flushed area ok ∷ old → Synced ok (held_by first area old) (held_by first area new)
sync_step first area true old new is noted = ap (held_by first area) noted ∙ rw (area_here area, is) refl
sync_step first area false old new is noted = ap (held_by first area) noted ∙ rw (area_here area) refl

pub sync_here : (first : First) (area : Area) (ok : Bool) (start old new : List Call) → AddsCalls is_naming start old
    → has_its_name area old ≡ true → new ≡ flushed area ok ∷ old
    → Synced ok (held_by first area start) (held_by first area new)
sync_here first area ok start old new adds is noted =
    subst (λ (h : Held). Synced ok h (held_by first area new))
    (held_same first area is_naming (naming_spares area) start old adds) (sync_step first area ok old new is noted)

-- a sync that didn't come so far
pub sync_none : (first : First) (area : Area) (result : Result (Unit {0}) CallError) (start old : List Call)
    → IsErr result → AddsCalls is_naming start old → Synced (is_ok result) (held_by first area start)
    (held_by first area old)
sync_none first area (Ok x) start old is adds = absurd (cc)
sync_none first area (Err e) start old is adds = held_same first area is_naming (naming_spares area) start old adds
