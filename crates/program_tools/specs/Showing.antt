-- A text that is printed where there was memory for it.
use Rattle.std.specs.Prelude.{ℕ, Bool, true, false, List, [], Result, Ok, Err}
use Rattle.std.specs.declared.alloc.AllocError.{AllocError}
use Rattle.std.specs.declared.vec.Vec.{Vec}
use Rattle.program_ends.specs.declared.ending.Ending.{Ending}
use Rattle.program_ends.specs.declared.ending.Ending.TheVariants as ending

-- a text, and nothing where there was no memory for it
abbrev pub text_in : {Z : Type 0} → Result (Vec ℕ Z) AllocError → List ℕ
text_in (Ok text) = text.items
text_in (Err e) = []

-- how the program ends that printed a text, whole or not, where there was memory for it
abbrev pub ending_after : {Z : Type 0} → Result (Vec ℕ Z) AllocError → Bool → Ending
ending_after (Ok text) true = ending.Done
ending_after (Ok text) false = ending.Unwritten
ending_after (Err e) whole = ending.OutOfMemory
