-- Tickets wrap at 2 ^ 64.
use Rattle.std.proofs.Common.{◌≡◌, ℕ, ◌+◌, ◌%◌, ◌<◌, ◌≤◌, ◌≢◌, arith}
use Rattle.ticket_desk.specs.Views.{behind}

pub drawn_last : (served queue drawn : ℕ) → served < 18446744073709551616 → queue ≤ 4096
    → drawn ≡ (served + queue) % 18446744073709551616
    → (drawn < 18446744073709551616) × (behind served drawn ≡ queue)
drawn_last served queue drawn fits few is = (omega arith, omega arith)

pub drawn_next : (served queue drawn : ℕ) → drawn ≡ (served + queue) % 18446744073709551616
    → (drawn + 1) % 18446744073709551616 ≡ (served + (queue + 1)) % 18446744073709551616
drawn_next served queue drawn is = omega arith

pub served_next : (served queue queue' drawn : ℕ) → queue' + 1 ≡ queue → drawn ≡ (served + queue) % 18446744073709551616
    → drawn ≡ ((served + 1) % 18446744073709551616 + queue') % 18446744073709551616
served_next served queue queue' drawn less is = omega arith

-- a ticket that is not served comes nearer by one
pub nearer : (served t queue queue' : ℕ) → served < 18446744073709551616 → t < 18446744073709551616 → t ≢ served
    → queue' + 1 ≡ queue → behind served t < queue
    → behind ((served + 1) % 18446744073709551616) t < queue'
nearer served t queue queue' fits tfits other less near = omega arith

pub served_first : (served : ℕ) → served < 18446744073709551616 → behind served served ≡ 0
served_first served fits = omega arith
