-- The laws of each format that commands have.
use Rattle.std.proofs.Common.{ℕ, ◌≤◌, List, length, Option, Some, None, refl, arith}
use Rattle.wire_fields.proofs.Public.{IsField-instance, IsField-optional_instance, length-field_u16, length-field_u32, length-field_u64, length-field_name, length-field_truth, length-field_instance, length-no_name, length-some_name, length-no_instance, length-some_instance, IsField-name, IsField-optional_name, IsField-u16, IsField-u32, IsField-u64, IsField-truth}
use Rattle.diego_names.specs.declared.instance.Instance.{Instance}
use Rattle.bbs_codec.specs.Format.{number16, number32, number64, truth, name, optional_name, instance, optional_instance}
use Rattle.bbs_codec.specs.Formats.{key, amounts, desired, update_fields, work_fields, held, removal, new_task_fields, task_work_fields, outcome, joining, renewal, joined, freshness}
use Rattle.bbs_codec.proofs.Records.{HasLaws, laws-seen, laws-both, laws-three}

laws-number16 : HasLaws number16 2 2
laws-number16 = record {
  field = IsField-u16;
  least = λ n fits. omega (arith, length-field_u16 n);
  most = λ n fits.
      omega (arith, length-field_u16 n);
}

pub laws-number32 : HasLaws number32 4 4
laws-number32 = record {
  field = IsField-u32;
  least = λ n fits. omega (arith, length-field_u32 n);
  most = λ n fits.
      omega (arith, length-field_u32 n);
}

pub laws-number64 : HasLaws number64 8 8
laws-number64 = record {
  field = IsField-u64;
  least = λ n fits. omega (arith, length-field_u64 n);
  most = λ n fits.
      omega (arith, length-field_u64 n);
}

pub laws-truth : HasLaws truth 1 1
laws-truth = record {
  field = IsField-truth;
  least = λ b fits. omega (arith, length-field_truth b);
  most = λ b fits.
      omega (arith, length-field_truth b);
}

pub laws-name : HasLaws name 2 81
laws-name = record {
  field = IsField-name;
  least = λ n fits. omega (arith, length-field_name n, fits.not_empty);
  most = λ n fits. omega (arith, length-field_name n, fits.not_too_long);
}

least_name : (o : Option (List ℕ)) → optional_name.Fits o → 1 ≤ length (optional_name.spelling o)
least_name None fits = omega (arith, length-no_name)
least_name (Some n) fits = omega (arith, length-some_name n)

most_name : (o : Option (List ℕ)) → optional_name.Fits o → length (optional_name.spelling o) ≤ 81
most_name None fits = omega (arith, length-no_name)
most_name (Some n) fits = omega (arith, length-some_name n, fits.not_too_long)

pub laws-optional_name : HasLaws optional_name 1 81
laws-optional_name = record { field = IsField-optional_name; least = least_name; most = most_name }

pub laws-instance : HasLaws instance 12 12
laws-instance = record {
  field = IsField-instance;
  least = λ i fits. omega (arith, length-field_instance i);
  most =
      λ i fits. omega (arith, length-field_instance i);
}

least_instance : (o : Option Instance) → optional_instance.Fits o → 1 ≤ length (optional_instance.spelling o)
least_instance None fits = omega (arith, length-no_instance)
least_instance (Some i) fits = omega (arith, length-some_instance i)

most_instance : (o : Option Instance) → optional_instance.Fits o → length (optional_instance.spelling o) ≤ 13
most_instance None fits = omega (arith, length-no_instance)
most_instance (Some i) fits = omega (arith, length-some_instance i)

laws-optional_instance : HasLaws optional_instance 1 13
laws-optional_instance = record { field = IsField-optional_instance; least = least_instance; most = most_instance }

pub laws-key : HasLaws key 6 85
laws-key = laws-seen (record { made = λ y. refl; parted = λ x. refl }) (laws-both laws-name laws-number32)

pub laws-amounts : HasLaws amounts 12 12
laws-amounts = laws-seen (record { made = λ y. refl; parted = λ x. refl })
    (laws-three laws-number32 laws-number32 laws-number32)

pub laws-desired : HasLaws desired 20 338
laws-desired =
    laws-seen (record { made = λ y. refl; parted = λ x. refl })
    (laws-three (laws-both laws-name laws-name) (laws-three laws-number32 laws-number32 laws-number32)
    (laws-three laws-optional_name laws-optional_name laws-number16))

pub laws-update : HasLaws update_fields 9 168
laws-update = laws-three laws-name laws-number32 (laws-both laws-optional_name laws-number16)

pub laws-work : HasLaws work_fields 20 178
laws-work = laws-three laws-key laws-instance laws-name

pub laws-held : HasLaws held 18 97
laws-held = laws-both laws-key laws-instance

pub laws-removal : HasLaws removal 7 98
laws-removal = laws-both laws-key laws-optional_instance

pub laws-new_task : HasLaws new_task_fields 11 170
laws-new_task = laws-three laws-name (laws-both laws-number32 laws-number32) laws-optional_name

pub laws-task_work : HasLaws task_work_fields 16 174
laws-task_work = laws-three laws-name laws-instance laws-name

pub laws-outcome : HasLaws outcome 15 94
laws-outcome = laws-three laws-name laws-instance laws-truth

pub laws-joining : HasLaws joining 21 259
laws-joining = laws-three (laws-three laws-name laws-name laws-optional_name) laws-amounts laws-number32

pub laws-renewal : HasLaws renewal 14 93
laws-renewal = laws-three laws-name laws-number64 laws-number32

pub laws-joined : HasLaws joined 10 89
laws-joined = laws-both laws-name laws-number64

pub laws-freshness : HasLaws freshness 6 85
laws-freshness = laws-both laws-name laws-number32
