-- What taking says of the bytes that a source tells.
use Rattle.std.specs.Prelude.{ℕ, ◌≤◌, List, length, Option, None, Some}
use Rattle.std.proofs.Common.{arith, ap, length-append}
use Rattle.byte_ports.specs.Content.{Lost}

-- no more is taken than there was
pub lost_fits : (bytes : List ℕ) (new : Option (List ℕ)) (n : ℕ) → Lost (Some bytes) new n
    → n ≤ length bytes
lost_fits bytes None n lost = absurd lost.2
lost_fits bytes (Some rest) n lost =
    omega (arith, lost.1, ap length lost.2, length-append lost.0 rest)
