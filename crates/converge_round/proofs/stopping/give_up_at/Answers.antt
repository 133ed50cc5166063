use Rattle.std.proofs.Common.{ap, get_or, set}
use Rattle.converge_round.proofs.RepLaws.{keep-set, stands-for, rep_stopped, rep_read}
use Rattle.converge_round.proofs.stopping.give_up_at.Goals as goal

pub returns-clause-gives_up : goal.returns-clause-gives_up
returns-clause-gives_up c e =
    let cells = c.args.cells.now in
    let rep = get_or cells c.args.at c.index-cells-at.result in
    record {
      place = c.args.at;
      rep = rep;
      stands = stands-for cells c.args.at _ rep e (rep_read cells c.args.at c.index-cells-at.result c.requires);
      is = ap (set cells c.args.at) c.give_up.ensures.is;
    }

pub returns-clause-cells : goal.returns-clause-cells
returns-clause-cells c =
    let cells = c.args.cells.now in
    let rep = get_or cells c.args.at c.index-cells-at.result in
    keep-set cells c.args.at rep c.give_up.new.rep c.requires
    (rep_read cells c.args.at c.index-cells-at.result c.requires)
    (rep_stopped rep c.give_up.new.rep c.args.stray.now.1 c.give_up.ensures.cell c.give_up.ensures.is)
