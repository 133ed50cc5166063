-- What a line's mark loses.
use Rattle.std.specs.Prelude.{◌≡◌, zero, suc, Option, Some, None}
use Rattle.cell_rep.specs.Wires.{WireEnds}
use Rattle.cell_rep.specs.declared.wire.Delivery.{Delivery}
use Rattle.cell_rep.specs.declared.wire.Delivery.TheVariants.{Through, CallLost, ReplyLost}
use Rattle.scenario_lines.specs.declared.act.Loss.{Loss}
use Rattle.scenario_lines.specs.declared.act.Loss.TheVariants as loss
use Rattle.phase_actors.specs.declared.run_wire.RunWire.{RunWire}

-- what becomes of the first delivery under a mark
abbrev pub delivery_under : Option Loss → Delivery
delivery_under None = Through
delivery_under (Some loss.Call) = CallLost
delivery_under (Some loss.Reply) = ReplyLost

-- the first delivery ends so, and each later one gets through
abbrev pub ends_from : Delivery → WireEnds
ends_from first call zero = first
ends_from first call (suc n) = Through

-- the ends that a run's wire tells
abbrev pub ends_under : Option Loss → Option WireEnds
ends_under mark = Some (ends_from (delivery_under mark))

-- nothing was delivered over it, and nothing lost
pub record IsRunWire (mark : Option Loss) (w : RunWire) : Type 0 where
  pub next : w.next ≡ delivery_under mark
  pub losses : w.losses ≡ 0
