-- The laws of the format of each row that a head has.
use Rattle.std.proofs.Common.{ℕ, zero, suc, ◌≡◌, ◌≢◌, ◌≤◌, true, false, List, [], length, Option, Some, None, refl, sym, ap, arith, length-append}
use Rattle.std.specs.Prelude.{slice_index_or, if◌then◌else◌}
use Rattle.std.specs.Int.{w8, w64}
use Rattle.lrp_records.specs.declared.actual.Actual.{Actual}
use Rattle.lrp_records.specs.declared.presence.Presence.{Presence}
use Rattle.lrp_records.specs.declared.presence.Presence.TheVariants.{Ordinary, Evacuating, Suspect}
use Rattle.lrp_records.specs.declared.state.LrpState.{LrpState}
use Rattle.lrp_records.specs.declared.state.LrpState.TheVariants as lrp
use Rattle.task_records.specs.declared.state.TaskState.{TaskState}
use Rattle.task_records.specs.declared.state.TaskState.TheVariants as task
use Rattle.wire_fields.specs.Field.{field_number}
use Rattle.wire_fields.proofs.Public.{length-field_u8, length-field_u64}
use Rattle.bbs_codec.specs.Format.{IsFormat}
use Rattle.bbs_codec.specs.RowFormats.{presence_case, presence_readers, presence, old_presence, end_case, end_readers, optional_end, old_actual, actual_in, domain_row, domain_in, holder, lrp_case, lrp_readers, lrp_state, task_case, task_readers, task_state, is_evacuating, old_actual_of, old_actual_parts, actual, task_row, cell_row}
use Rattle.bbs_codec.proofs.Cases.{none_at, IsCase, IsAgain, IsCase-none, IsCase-alone, IsCase-seen, IsAgain-alone, IsAgain-seen, laws-cases}
use Rattle.bbs_codec.proofs.Formats.{laws-number32, laws-number64, laws-truth, laws-name, laws-optional_name, laws-instance, laws-key, laws-amounts}
use Rattle.bbs_codec.proofs.Records.{HasLaws, IsFormat-nothing, IsFormat-in, laws-seen, laws-seen_where, laws-both, laws-three}

presence_found : (place n : ℕ) → IsCase presence_case n (slice_index_or presence_readers n (none_at place))
presence_found place zero = IsCase-alone Ordinary refl
presence_found place (suc zero) = IsCase-alone Evacuating refl
presence_found place (suc (suc zero)) = IsCase-alone Suspect refl
presence_found place (suc (suc (suc n))) = IsCase-none presence_case (suc (suc (suc n))) place

presence_each : (place : ℕ) (x : Presence)
    → IsAgain (presence_case x) x (slice_index_or presence_readers (presence_case x).number (none_at place))
presence_each place Ordinary = IsAgain-alone Ordinary (omega arith)
presence_each place Evacuating = IsAgain-alone Evacuating (omega arith)
presence_each place Suspect = IsAgain-alone Suspect (omega arith)

-- a presence takes one byte
length-presence : (x : Presence) → length (presence.spelling x) ≡ 1
length-presence Ordinary = omega (arith, length-append (field_number w8 0) [], length-field_u8 0)
length-presence Evacuating = omega (arith, length-append (field_number w8 1) [], length-field_u8 1)
length-presence Suspect = omega (arith, length-append (field_number w8 2) [], length-field_u8 2)

laws-presence : HasLaws presence 1 1
laws-presence = record {
  field = (laws-cases {readers = presence_readers} (record { found = presence_found; each = presence_each })).field;
  least = λ x fits. omega (arith, length-presence x);
  most = λ x fits. omega (arith, length-presence x);
}

-- a presence that version 1 has is told by a truth value
old_made : (x : Presence) → x ≢ Suspect → (if is_evacuating x then Evacuating else Ordinary) ≡ x
old_made Ordinary other = refl
old_made Evacuating other = refl
old_made Suspect other = absurd (other refl)

laws-old_presence : HasLaws old_presence 1 1
laws-old_presence =
    laws-seen_where (record {
      made = old_made;
      parted = elim [ true ↦ refl | false ↦ refl ];
      within = elim [ true ↦ λ e. absurd cc | false ↦ λ e. absurd cc ];
    }) laws-truth

laws-holder : HasLaws holder 14 93
laws-holder = laws-both laws-instance laws-name

lrp_found : (place n : ℕ) → IsCase lrp_case n (slice_index_or lrp_readers n (none_at place))
lrp_found place zero = IsCase-alone lrp.Unclaimed refl
lrp_found place (suc zero) = IsCase-seen _ laws-holder (λ p. refl)
lrp_found place (suc (suc zero)) = IsCase-seen _ laws-holder (λ p. refl)
lrp_found place (suc (suc (suc zero))) = IsCase-alone lrp.Crashed refl
lrp_found place (suc (suc (suc (suc n)))) = IsCase-none lrp_case (suc (suc (suc (suc n)))) place

lrp_each : (place : ℕ) (x : LrpState) → IsAgain (lrp_case x) x
    (slice_index_or lrp_readers (lrp_case x).number (none_at place))
lrp_each place lrp.Unclaimed = IsAgain-alone lrp.Unclaimed (omega arith)
lrp_each place (lrp.Claimed container cell) = IsAgain-seen _ (container, cell) laws-holder (omega arith) (omega arith)
lrp_each place (lrp.Running container cell) = IsAgain-seen _ (container, cell) laws-holder (omega arith) (omega arith)
lrp_each place lrp.Crashed = IsAgain-alone lrp.Crashed (omega arith)

laws-lrp_state : HasLaws lrp_state 1 94
laws-lrp_state = laws-cases {readers = lrp_readers} (record { found = lrp_found; each = lrp_each })

task_found : (place n : ℕ) → IsCase task_case n (slice_index_or task_readers n (none_at place))
task_found place zero = IsCase-alone task.Pending refl
task_found place (suc zero) = IsCase-seen _ laws-holder (λ p. refl)
task_found place (suc (suc zero)) = IsCase-seen _ laws-truth (λ p. refl)
task_found place (suc (suc (suc zero))) = IsCase-seen _ laws-truth (λ p. refl)
task_found place (suc (suc (suc (suc n)))) = IsCase-none task_case (suc (suc (suc (suc n)))) place

task_each : (place : ℕ) (x : TaskState) → IsAgain (task_case x) x
    (slice_index_or task_readers (task_case x).number (none_at place))
task_each place task.Pending = IsAgain-alone task.Pending (omega arith)
task_each place (task.Running container cell) = IsAgain-seen _ (container, cell) laws-holder (omega arith) (omega arith)
task_each place (task.Completed failed) = IsAgain-seen _ failed laws-truth (omega arith) (omega arith)
task_each place (task.Resolving failed) = IsAgain-seen _ failed laws-truth (omega arith) (omega arith)

laws-task_state : HasLaws task_state 1 94
laws-task_state = laws-cases {readers = task_readers} (record { found = task_found; each = task_each })

-- nothing else is left untold of a row without a domain
none_told : (y : Actual) → y.domain ≡ None → old_actual_of (old_actual_parts y) ≡ y
none_told y none = ap (λ (d : Option (List ℕ)). record y { domain = d }) (sym none)

laws-old_actual : HasLaws old_actual 17 189
laws-old_actual =
    laws-seen_where (record { made = none_told; parted = λ x. refl; within = λ x. refl })
    (laws-three (laws-three laws-key laws-old_presence laws-lrp_state) (laws-both laws-number32 laws-number32)
    laws-truth)

pub laws-actual : HasLaws actual 18 270
laws-actual =
    laws-seen (record { made = λ y. refl; parted = λ x. refl })
    (laws-three (laws-three laws-key laws-presence laws-lrp_state) (laws-both laws-number32 laws-number32)
    (laws-both laws-truth laws-optional_name))

pub IsFormat-actual_in : (version : ℕ) → IsFormat (actual_in version)
IsFormat-actual_in version = IsFormat-in laws-old_actual.field laws-actual.field version

pub laws-task_row : HasLaws task_row 24 276
laws-task_row =
    laws-seen (record { made = λ y. refl; parted = λ x. refl })
    (laws-three (laws-three laws-name laws-number64 laws-task_state)
    (laws-three laws-number32 laws-number32 laws-number32) laws-optional_name)

pub laws-cell_row : HasLaws cell_row 34 272
laws-cell_row =
    laws-seen (record { made = λ y. refl; parted = λ x. refl })
    (laws-three (laws-three laws-name laws-name laws-optional_name) laws-amounts
    (laws-three laws-number64 laws-number64 laws-truth))

end_found : (place n : ℕ) → IsCase end_case n (slice_index_or end_readers n (none_at place))
end_found place zero = IsCase-alone None refl
end_found place (suc zero) = IsCase-seen _ laws-number64 (λ p. refl)
end_found place (suc (suc n)) = IsCase-none end_case (suc (suc n)) place

end_each : (place : ℕ) (x : Option ℕ)
    → IsAgain (end_case x) x (slice_index_or end_readers (end_case x).number (none_at place))
end_each place None = IsAgain-alone None (omega arith)
end_each place (Some until) = IsAgain-seen _ until laws-number64 (omega arith) (omega arith)

-- an end takes at most nine bytes
most_end : (x : Option ℕ) → length (optional_end.spelling x) ≤ 9
most_end None = omega (arith, length-append (field_number w8 0) [], length-field_u8 0)
most_end (Some until) =
    omega (arith, length-append (field_number w8 1) (field_number w64 until), length-field_u8 1, length-field_u64 until)

laws-optional_end : HasLaws optional_end 1 9
laws-optional_end =
    let laws = laws-cases {readers = end_readers} (record { found = end_found; each = end_each }) in
    record { field = laws.field; least = laws.least; most = λ x fits. most_end x }

pub laws-domain_row : HasLaws domain_row 3 90
laws-domain_row = laws-seen (record { made = λ y. refl; parted = λ x. refl }) (laws-both laws-name laws-optional_end)

pub IsFormat-domain_in : (version : ℕ) → IsFormat (domain_in version)
IsFormat-domain_in version = IsFormat-in IsFormat-nothing laws-domain_row.field version
