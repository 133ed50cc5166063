use Rattle.std.proofs.Common.{◌≡◌, ◌+◌, ◌≤◌, take, vec_len, vec_capacity}
use Rattle.std.specs.List.{filter_map}
use Rattle.cell_rep.specs.Acts.{each_todo}
use Rattle.cell_rep.specs.Follows.{stage, Performs}
use Rattle.cell_rep.proofs.Chains.{is_nil}
use Rattle.cell_rep.proofs.rep.CellRep.perform_each.Given as goal

abbrev pub invariant-loop-container : goal.invariant-loop-container
invariant-loop-container g l = record {
  performs : Performs (g.P.Port.number l.initial.port) l.initial.self.cell
      (filter_map (each_todo l.asked.act l.asked.moment l.initial.self.cell l.asked.draining)
      (take l.container-index l.containers))
      (stage l.initial.self (g.P.Port.view l.initial.port) (g.W.Wire.ends l.initial.wire)
      (g.W.Wire.losses l.initial.wire) l.initial.out.items)
      (stage l.self (g.P.Port.view l.port) (g.W.Wire.ends l.wire) (g.W.Wire.losses l.wire) l.out.items);
  keeps : g.P.Port.keeps l.initial.port l.port;
  number : g.P.Port.number l.port ≡ g.P.Port.number l.initial.port;
  cell : l.self.cell ≡ l.initial.self.cell;
  room : vec_len l.out ≤ vec_len l.initial.out + l.container-index;
  capacity : vec_capacity l.out ≡ vec_capacity l.initial.out;
  idle : l.idle ≡ is_nil (filter_map (each_todo l.asked.act l.asked.moment l.initial.self.cell l.asked.draining)
      (take l.container-index l.containers));
}
