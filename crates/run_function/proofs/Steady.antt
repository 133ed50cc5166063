-- What goes over the wire of a round, whose ends don't depend on the number.
use Rattle.std.proofs.Common.{◌≡◌, ℕ, Bool, true, false, not, List, Option, Some, None, refl, ap, subst, ◌∙◌}
use Rattle.cell_rep.specs.Wires.{Delivers, WireEnds, is_delivery_lost}
use Rattle.cell_rep.specs.declared.wire.CallKind.{CallKind}
use Rattle.cell_rep.specs.declared.wire.CallKind.TheVariants.{Ask, Stop, Start}
use Rattle.cell_rep.specs.declared.wire.Delivery.{Delivery}
use Rattle.cell_rep.specs.declared.wire.Delivery.TheVariants.{CallLost}
use Rattle.converge_round.specs.Sendings.{IsSent, WireAt}
use Rattle.phase_runs.specs.Names.{is_among}
use Rattle.phase_runs.specs.RoundMarks.{end_if, end_to, round_ends}
use Rattle.scenario_lines.specs.declared.script.RoundLine.{RoundLine}

-- the wire is still that of the line
abbrev pub IsOf : RoundLine → WireAt → Type 0
IsOf line s = s.ends ≡ Some (round_ends line)

-- it has delivered as the line says
pub record IsSteadySent (line : RoundLine) (cell : List ℕ) (kind : CallKind) (reached : Bool)
    (s' : WireAt) : Type 0 where
  pub reached_is : reached ≡ not (is_delivery_lost (end_to line cell kind))
  pub still : IsOf line s'

delivered_as : (line : RoundLine) (cell : List ℕ) (kind : CallKind) (later : Option WireEnds) (end : Delivery)
    → Delivers (Some (round_ends line)) later (record { actor = cell; kind = kind }) end
    → (end ≡ end_to line cell kind) × (later ≡ Some (round_ends line))
delivered_as line cell kind None end h = absurd h
delivered_as line cell kind (Some later) end h = (h.0, λ i. Some (λ c n. h.1 c n i))

pub steady_sent : (line : RoundLine) (cell : List ℕ) (kind : CallKind) (reached : Bool) (s s' : WireAt)
    → IsSent cell kind reached s s' → IsOf line s
    → IsSteadySent line cell kind reached s'
steady_sent line cell kind reached s s' h of =
    let d = delivered_as line cell kind s'.ends h.end (subst
    (λ (e : Option WireEnds). Delivers e s'.ends (record { actor = cell; kind = kind }) h.end) of h.ends) in
    record { reached_is = h.is ∙ ap (λ (e : Delivery). not (is_delivery_lost e)) d.0; still = d.1 }

lost_call : (b : Bool) → not (is_delivery_lost (end_if b CallLost)) ≡ not b
lost_call true = refl
lost_call false = refl

-- a question, a stop and a start reach the cell where the line doesn't lose them
pub reached_asked : (line : RoundLine) (cell : List ℕ) (reached : Bool) (s s' : WireAt) → IsSent cell Ask reached s s'
    → IsOf line s
    → (reached ≡ not (is_among line.lose_ask cell)) × IsOf line s'
reached_asked line cell reached s s' h of =
    let one = steady_sent line cell Ask reached s s' h of in
    (one.reached_is ∙ lost_call (is_among line.lose_ask cell), one.still)

pub reached_stopped : (line : RoundLine) (cell : List ℕ) (reached : Bool) (s s' : WireAt)
    → IsSent cell Stop reached s s' → IsOf line s
    → (reached ≡ not (is_among line.lose_stop cell)) × IsOf line s'
reached_stopped line cell reached s s' h of =
    let one = steady_sent line cell Stop reached s s' h of in
    (one.reached_is ∙ lost_call (is_among line.lose_stop cell), one.still)

pub reached_started : (line : RoundLine) (cell : List ℕ) (reached : Bool) (s s' : WireAt)
    → IsSent cell Start reached s s' → IsOf line s
    → (reached ≡ not (is_among line.lose_start cell)) × IsOf line s'
reached_started line cell reached s s' h of =
    let one = steady_sent line cell Start reached s s' h of in
    (one.reached_is ∙ lost_call (is_among line.lose_start cell), one.still)
