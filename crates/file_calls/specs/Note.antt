-- How a call is spelled where it is noted. Nothing reads the spelling but this definition.
use Rattle.std.specs.Prelude.{ℕ, List, ◌==◌, if◌then◌else◌, slice_index}
use Rattle.disk_trait.specs.declared.area.Area.{Area}
use Rattle.disk_trait.specs.declared.area.Area.TheVariants.{A, B}
use Rattle.file_calls.specs.Call.{Call, began, means, measured, read, written, named, flushed}

-- the area of this number
abbrev pub area_of : ℕ → Area
area_of n = if n == 0 then A else B

-- the call of this kind: the second number is the area, then comes 1 if it was done, and then a place and a count
abbrev pub call_of : List ℕ → List ℕ → Call
call_of numbers bytes =
    let kind = slice_index numbers 0 in
    let area = area_of (slice_index numbers 1) in
    let ok = slice_index numbers 2 == 1 in
    let at = slice_index numbers 3 in
    let count = slice_index numbers 4 in
    if kind == 1 then means area at count
    else if kind == 2 then measured area ok count
    else if kind == 3 then read area at ok bytes
    else if kind == 4 then written area at ok bytes
    else if kind == 5 then named area ok
    else if kind == 6 then flushed area ok
    else began
