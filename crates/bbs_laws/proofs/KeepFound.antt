-- What a command finds stands in the tables, under its own key.
use Rattle.std.proofs.Common.{◌≡◌, List, Option, Some, None, inl, inr, ap, ◌∙◌}
use Rattle.std.specs.Option.{option_and_then}
use Rattle.std.specs.declared.cmp.Ordering.{Ordering}
use Rattle.diego_names.specs.Order.{name_order}
use Rattle.diego_names.specs.declared.key.Key.{Key}
use Rattle.diego_names.proofs.Public.{IsKeyOrder-name_order}
use Rattle.lrp_records.specs.Place.{place_of, place_order}
use Rattle.lrp_records.specs.declared.actual.Actual.{Actual}
use Rattle.lrp_records.specs.declared.presence.Presence.{Presence}
use Rattle.lrp_records.specs.declared.presence.Presence.TheVariants.{Ordinary, Evacuating, Suspect}
use Rattle.row_tables.specs.Table.{IsKeyOrder, find_row}
use Rattle.row_tables.proofs.Public.{key-find_row}
use Rattle.bbs_model.specs.Found.{process_in, key_in, evacuating_in, suspect_in, looked_cell, domain_in, ordinary_of, found_by}
use Rattle.bbs_laws.specs.Events.{StandsIn}
use Rattle.bbs_model.specs.Tables.{process_of, cell_name_of, domain_name_of, find_actual}
use Rattle.bbs_model.specs.declared.command.Op.{Op}
use Rattle.bbs_model.specs.declared.event.Row.{Row}
use Rattle.bbs_model.specs.declared.event.Row.TheVariants as row
use Rattle.bbs_model.specs.declared.rows.Rows.{Rows}
use Rattle.bbs_laws.proofs.KeepActual.{found-there}
use Rattle.bbs_laws.proofs.KeepWalk.{IsOfFound}

-- a row that is found at a key, if there is one, is found at its own
pub there : {K X : Type 0} (R : K → K → Ordering) (key : X → K) → IsKeyOrder R → (xs : List X) (q : Option K) (x : X)
    → option_and_then (λ k. find_row R key k xs) q ≡ Some x → find_row R key (key x) xs ≡ Some x
there R key o xs None x known = cc
there R key o xs (Some k) x known = ap (λ q. find_row R key q xs) (key-find_row R key o k x xs known) ∙ known

actual-there : (rows : Rows) (presence : Presence) (q : Option Key) (a : Actual)
    → option_and_then (λ key. find_actual rows key presence) q ≡ Some a
    → find_row place_order place_of (place_of a) rows.actual ≡ Some a
actual-there rows presence None a known = cc
actual-there rows presence (Some key) a known = found-there rows key presence a known

pub Stands-found : (rows : Rows) (asked : Op) (r : Row) → IsOfFound (found_by rows asked) r → StandsIn rows r
Stands-found rows asked (row.Desired d) known = there name_order process_of IsKeyOrder-name_order rows.desired
    (process_in asked) d known
Stands-found rows asked (row.Actual a) (inl known) = actual-there rows Ordinary (key_in asked) a known
Stands-found rows asked (row.Actual a) (inr (inl known)) = actual-there rows Evacuating (evacuating_in asked) a known
Stands-found rows asked (row.Actual a) (inr (inr known)) = actual-there rows Suspect (suspect_in asked) a known
Stands-found rows asked (row.Task t) known = absurd known
Stands-found rows asked (row.Cell c) known =
    there name_order cell_name_of IsKeyOrder-name_order rows.cells (looked_cell asked (ordinary_of rows asked)) c known
Stands-found rows asked (row.Domain d) known =
    there name_order domain_name_of IsKeyOrder-name_order rows.domains (domain_in asked) d known
