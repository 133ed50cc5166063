-- What a round's line loses.
use Rattle.std.specs.Prelude.{ℕ, Bool, List, if◌then◌else◌}
use Rattle.cell_rep.specs.Wires.{WireEnds}
use Rattle.cell_rep.specs.declared.wire.CallKind.{CallKind}
use Rattle.cell_rep.specs.declared.wire.CallKind.TheVariants.{Ask, Stop, Start, Board}
use Rattle.cell_rep.specs.declared.wire.Delivery.{Delivery}
use Rattle.cell_rep.specs.declared.wire.Delivery.TheVariants.{Through, CallLost, ReplyLost}
use Rattle.scenario_lines.specs.declared.script.RoundLine.{RoundLine}
use Rattle.phase_runs.specs.Names.{is_among}

-- a delivery that ends so, if it is lost
abbrev pub end_if : Bool → Delivery → Delivery
end_if lost end = if lost then end else Through

-- what becomes of a delivery of that kind to a cell
abbrev pub end_to : RoundLine → List ℕ → CallKind → Delivery
end_to r cell Ask = end_if (is_among r.lose_ask cell) CallLost
end_to r cell Stop = end_if (is_among r.lose_stop cell) CallLost
end_to r cell Start = end_if (is_among r.lose_start cell) CallLost
end_to r cell Board = end_if (is_among r.lose_reply cell) ReplyLost

-- the ends of a round's wire, which don't depend on the number
abbrev pub round_ends : RoundLine → WireEnds
round_ends r call n = end_to r call.actor call.kind
