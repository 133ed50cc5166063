-- The counts in front of a head and each row of it take few bytes. It serves the law that a head which is too long is
-- told by its first bytes.
use Rattle.std.proofs.Common.{◌≡◌, ℕ, zero, suc, ◌+◌, ◌≤◌, true, false, List, ◌++◌, Err, refl, ap, arith}
use Rattle.std.specs.Prelude.{nat_eq, slice_index_or}
use Rattle.std.specs.Int.{w16, w32, w64}
use Rattle.wire_fields.specs.declared.fault.FieldFault.TheVariants.{BadField}
use Rattle.bbs_codec.specs.Format.{Format, old_or, format_in, nothing}
use Rattle.bbs_codec.specs.Formats.{key, amounts, desired}
use Rattle.bbs_codec.specs.RowFormats.{Reads, presence_readers, end_readers, holder, lrp_readers, task_readers, old_actual, actual, actual_in, task_row, cell_row, domain_row, domain_in}
use Rattle.bbs_codec.proofs.Public.{none_at}
use Rattle.head_codec.specs.Head.{counts, old_counts, counts_in}
use Rattle.head_codec.proofs.Local.{IsLocal, local-number, local-name, local-optional_name, local-truth, local-more, local-seen, local-both, local-three, local-instance, local-none, local-alone, local-cases}

local-holder : IsLocal 93 holder.read
local-holder = local-both local-instance local-name

presence_local : (place n : ℕ) → IsLocal 0 (slice_index_or presence_readers n (none_at place))
presence_local place zero = local-alone 0 _
presence_local place (suc zero) = local-alone 0 _
presence_local place (suc (suc zero)) = local-alone 0 _
presence_local place (suc (suc (suc n))) = local-none 0 place

end_local : (place n : ℕ) → IsLocal 8 (slice_index_or end_readers n (none_at place))
end_local place zero = local-alone 8 _
end_local place (suc zero) = local-seen _ (local-number w64)
end_local place (suc (suc n)) = local-none 8 place

lrp_local : (place n : ℕ) → IsLocal 93 (slice_index_or lrp_readers n (none_at place))
lrp_local place zero = local-alone 93 _
lrp_local place (suc zero) = local-seen _ local-holder
lrp_local place (suc (suc zero)) = local-seen _ local-holder
lrp_local place (suc (suc (suc zero))) = local-alone 93 _
lrp_local place (suc (suc (suc (suc n)))) = local-none 93 place

task_local : (place n : ℕ) → IsLocal 93 (slice_index_or task_readers n (none_at place))
task_local place zero = local-alone 93 _
task_local place (suc zero) = local-seen _ local-holder
task_local place (suc (suc zero)) = local-more 1 93 (omega arith) (local-seen _ local-truth)
task_local place (suc (suc (suc zero))) = local-more 1 93 (omega arith) (local-seen _ local-truth)
task_local place (suc (suc (suc (suc n)))) = local-none 93 place

local-key : IsLocal 85 key.read
local-key = local-seen _ (local-both local-name (local-number w32))

local-amounts : IsLocal 12 amounts.read
local-amounts = local-seen _ (local-three (local-number w32) (local-number w32) (local-number w32))

pub local-desired : IsLocal 344 desired.read
local-desired =
    local-more 338 344 (omega arith) (local-seen _
    (local-three (local-both local-name local-name) (local-three (local-number w32) (local-number w32)
    (local-number w32))
    (local-three local-optional_name local-optional_name (local-number w16))))

-- in each version, where it holds of both formats
local-in : {X : Type 0} (most : ℕ) (old latest : Format X) → IsLocal most old.read → IsLocal most latest.read
    → (version : ℕ) → IsLocal most (format_in version old latest).read
local-in most old latest was is version =
    elim (nat_eq version 1) as (λ b. IsLocal most (old_or b old latest).read) [ true ↦ was | false ↦ is ]

local-old_actual : IsLocal 344 old_actual.read
local-old_actual =
    local-more 189 344 (omega arith) (local-seen _
    (local-three (local-three local-key (local-seen _ local-truth) (local-cases 93 lrp_readers lrp_local))
    (local-both (local-number w32) (local-number w32)) local-truth))

local-actual : IsLocal 344 actual.read
local-actual =
    local-more 270 344 (omega arith) (local-seen _
    (local-three (local-three local-key (local-cases 0 presence_readers presence_local)
    (local-cases 93 lrp_readers lrp_local))
    (local-both (local-number w32) (local-number w32)) (local-both local-truth local-optional_name)))

pub local-actual_in : (version : ℕ) → IsLocal 344 (actual_in version).read
local-actual_in version = local-in 344 old_actual actual local-old_actual local-actual version

pub local-task : IsLocal 344 task_row.read
local-task =
    local-more 276 344 (omega arith) (local-seen _
    (local-three (local-three local-name (local-number w64) (local-cases 93 task_readers task_local))
    (local-three (local-number w32) (local-number w32) (local-number w32)) local-optional_name))

pub local-cell : IsLocal 344 cell_row.read
local-cell =
    local-more 272 344 (omega arith) (local-seen _
    (local-three (local-three local-name local-name local-optional_name) local-amounts
    (local-three (local-number w64) (local-number w64) local-truth)))

local-domain : IsLocal 344 domain_row.read
local-domain =
    local-more 90 344 (omega arith) (local-seen _ (local-both local-name (local-cases 8 end_readers end_local)))

nothing_same : {X : Type 0} (bytes rest : List ℕ) (at : ℕ)
    → (nothing {X = X}).read (bytes ++ rest) at ≡ (nothing {X = X}).read bytes at
nothing_same bytes rest at = ap (λ (n : ℕ). Err (BadField n)) (refl {a = at})

local-nothing : {X : Type 0} → IsLocal 344 (nothing {X = X}).read
local-nothing = record { same = λ bytes rest at le. nothing_same bytes rest at; ends = λ bytes at. tt }

pub local-domain_in : (version : ℕ) → IsLocal 344 (domain_in version).read
local-domain_in version = local-in 344 nothing domain_row local-nothing local-domain version

local-old_counts : IsLocal 28 old_counts.read
local-old_counts =
    local-more 24 28 (omega arith) (local-seen _
    (local-both (local-number w64) (local-both (local-both (local-number w32) (local-number w32))
    (local-both (local-number w32) (local-number w32)))))

local-counts : IsLocal 28 counts.read
local-counts =
    local-both (local-number w64)
    (local-both (local-both (local-number w32) (local-number w32))
    (local-both (local-number w32) (local-both (local-number w32) (local-number w32))))

pub local-counts_in : (version : ℕ) → IsLocal 28 (counts_in version).read
local-counts_in version = local-in 28 old_counts counts local-old_counts local-counts version
