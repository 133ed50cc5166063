use Rattle.pair_top.proofs.closing.starved.Goals as goal

pub returns : goal.returns
returns g c =
    let e = c.closed.ensures.ending in (
      e.0,
      e.1,
      record {
        answers_are = c.closed.ensures.account;
        how_is = e.2.0;
        silent = (e.2.1, e.2.2);
        leaves = c.closed.ensures.leaves;
        disks = c.closed.ensures.disks;
      },
    )
