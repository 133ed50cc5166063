-- The rows that a board begins with by a head of version 1: they are valid as those of the head are.
use Rattle.std.proofs.Common.{◌≡◌, inl, inr, ℕ, ◌≤◌, Bool, true, false, ◌&&◌, T, List, [], ◌∷◌, map, Result, Ok, Err, refl, sym, ap, subst, ◌∙◌, arith, IfOk, if◌then◌else◌, ◌==◌}
use Rattle.std.specs.FinMap.Entries.{is_sorted, below_all}
use Rattle.std.specs.List.{AllByRecursion}
use Rattle.std.specs.Ordering.{is_lt}
use Rattle.std.proofs.lemmas.List.{length-map}
use Rattle.diego_names.specs.declared.key.Key.{Key}
use Rattle.disk_trait.specs.declared.area.Area.{Area}
use Rattle.lrp_records.specs.Place.{place_of, place_order}
use Rattle.lrp_records.specs.declared.actual.Actual.{Actual}
use Rattle.lrp_records.specs.declared.presence.Presence.{Presence}
use Rattle.lrp_records.specs.declared.presence.Presence.TheVariants.{Ordinary, Evacuating, Suspect}
use Rattle.row_tables.specs.Table.{keyed}
use Rattle.head_codec.specs.Head.{head_reading}
use Rattle.bbs_codec.specs.declared.fault.CodecFault.{CodecFault}
use Rattle.bbs_journal.specs.Header.{IsVersion}
use Rattle.bbs_model.specs.Limits.{most_actual}
use Rattle.bbs_model.specs.Valid.{IsValid, IsActualRow, SuitsPresence}
use Rattle.bbs_model.specs.declared.rows.Rows.{Rows}
use Rattle.bbs_board.specs.Opening.{in_area, rows_in, settled, with_domain, with_domains}

-- ---- the places of the rows stay, and so does all that makes them rows of a board

same_below : (rows : Rows) (place : Key × Presence) (xs : List Actual)
    → below_all place_order place (keyed place_order place_of (map (with_domain rows) xs))
    ≡ below_all place_order place (keyed place_order place_of xs)
same_below rows place [] = refl
same_below rows place (x ∷ xs) = ap (λ b. is_lt (place_order place (place_of x)) && b) (same_below rows place xs)

same_rise : (rows : Rows) (xs : List Actual)
    → is_sorted place_order (keyed place_order place_of (map (with_domain rows) xs))
    ≡ is_sorted place_order (keyed place_order place_of xs)
same_rise rows [] = refl
same_rise rows (x ∷ xs) =
    ap (λ b. b && is_sorted place_order (keyed place_order place_of (map (with_domain rows) xs)))
    (same_below rows (place_of x) xs)
    ∙ ap (λ b. below_all place_order (place_of x) (keyed place_order place_of xs) && b) (same_rise rows xs)

suits_still : (rows : Rows) (presence : Presence) (a : Actual) → SuitsPresence presence a
    → SuitsPresence presence (with_domain rows a)
suits_still rows Ordinary a suits = tt
suits_still rows Evacuating a suits = suits
suits_still rows Suspect a suits = suits

each_still : (rows : Rows) (next : ℕ) (xs : List Actual) → AllByRecursion (IsActualRow next) xs
    → AllByRecursion (IsActualRow next) (map (with_domain rows) xs)
each_still rows next [] each = tt
each_still rows next (x ∷ xs) each = (
  record { held = each.0.held; suits = suits_still rows x.presence x each.0.suits },
  each_still rows next xs each.1,
)

pub IsValid-with_domains : (rows : Rows) → IsValid rows → IsValid (with_domains rows)
IsValid-with_domains rows valid = record {
  desired = valid.desired;
  actual = record {
    rising = subst T (sym (same_rise rows rows.actual)) valid.actual.rising;
    few = let few = valid.actual.few in subst (λ n. n ≤ most_actual)
        (sym (length-map rows.actual (with_domain rows))) few;
    each = each_still rows rows.next rows.actual valid.actual.each;
  };
  tasks = valid.tasks;
  cells = valid.cells;
  domains = valid.domains;
  next = valid.next;
}

-- ---- what a head comes to

next_by : (old : Bool) (rows : Rows) → (if old then with_domains rows else rows).next ≡ rows.next
next_by true rows = refl
next_by false rows = refl

-- a board begins with as many transitions as its head tells
pub next-settled : (version : ℕ) (rows : Rows) → (settled version rows).next ≡ rows.next
next-settled version rows = next_by (version == 1) rows

in_area_ok : (version : ℕ) (area : Area) (r : Result Rows CodecFault) (rows : Rows) → in_area version area r ≡ Ok rows
    → (told : Rows) × (r ≡ Ok told) × (settled version told ≡ rows)
in_area_ok version area (Ok told) rows is = (told, refl, cc (is))
in_area_ok version area (Err fault) rows is = cc

-- the rows that a board begins with are those of its head, with their domains
pub rows_read : (version : ℕ) (area : Area) (head : List ℕ) (rows : Rows) → rows_in version area head ≡ Ok rows
    → (told : Rows) × (head_reading version head ≡ Ok told) × (settled version told ≡ rows)
rows_read version area head rows is = in_area_ok version area (head_reading version head) rows is

-- and those of a head of the newest version are its own
pub rows_newest : (area : Area) (head : List ℕ) (rows : Rows) → head_reading 2 head ≡ Ok rows
    → rows_in 2 area head ≡ Ok rows
rows_newest area head rows is = ap (in_area 2 area) is

-- the version of an area is a small number
pub few_version : (version : ℕ) → IsVersion version → version ≤ 2
few_version version (inl old) = omega (arith, old)
few_version version (inr new) = omega (arith, new)

-- and where it isn't 1, it is 2
pub newer_version : (version : ℕ) → IsVersion version → (version ≡ 1 → ⊥) → version ≡ 2
newer_version version (inl old) not = absurd (not old)
newer_version version (inr new) not = new

-- ---- what holds of each value of an answer

pub ok_as : {X E : Type 0} (result : Result X E) (P Q : X → Type 0) → ((x : X) → P x → Q x) → IfOk result P
    → IfOk result Q
ok_as (Ok x) P Q f p = f x p
ok_as (Err e) P Q f p = tt
