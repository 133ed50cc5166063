-- What a wire does to the calls over it.
use Rattle.std.specs.Prelude.{◌≡◌, ℕ, ◌+◌, ◌==◌, ◌^◌, nat_lt, Bool, true, false, List, find, Option, Some, None, if◌then◌else◌}
use Rattle.std.specs.Option.{option_map_or}
use Rattle.cell_rep.specs.declared.wire.Delivery.{Delivery}
use Rattle.cell_rep.specs.declared.wire.Delivery.TheVariants.{Through, CallLost, ReplyLost}
use Rattle.cell_rep.specs.declared.wire.WireCall.{WireCall}

-- the ends of the next deliveries, by call and number
abbrev pub WireEnds : Type 0
WireEnds = WireCall → ℕ → Delivery

-- the call or its reply is lost
abbrev pub is_delivery_lost : Delivery → Bool
is_delivery_lost Through = false
is_delivery_lost CallLost = true
is_delivery_lost ReplyLost = true

-- a wire that tells its ends gives the first of them, and each later one moves up
abbrev pub Delivers : Option WireEnds → Option WireEnds → WireCall → Delivery → Type 0
Delivers None None call d = Unit {0}
Delivers None (Some later) call d = ⊥
Delivers (Some ends) None call d = ⊥
Delivers (Some ends) (Some later) call d =
    (d ≡ ends call 0) × ((c : WireCall) (n : ℕ) → later c n ≡ ends c (n + 1))

-- the ends don't depend on the number of the delivery
abbrev pub IsSteady : Option WireEnds → Type 0
IsSteady None = ⊥
IsSteady (Some ends) = (c : WireCall) (n : ℕ) → ends c n ≡ ends c 0

-- the end that is listed for a number of 64 bits, where the first entry counts
abbrev pub end_listed : List (ℕ × Delivery) → ℕ → Delivery
end_listed listed number =
    if nat_lt number (2 ^ 64) then option_map_or (λ e. e.1) (find (λ e. e.0 == number) listed) Through else Through
