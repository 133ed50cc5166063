use Rattle.differences.proofs.Gathered.{goes_on_past, settled_here}
use Rattle.differences.proofs.gathering.settle.Goals as goal

pub returns-clause-here : goal.returns-clause-here
returns-clause-here c =
    settled_here c.args.rows.now c.args.place c.causes_in-causes.result c.args.places.now.entries c.add.new.map.entries
    c.in_ok-add.ensures.0 c.causes_in-causes.ensures

pub returns-clause-goes_on : goal.returns-clause-goes_on
returns-clause-goes_on c =
    goes_on_past c.args.rows.now c.args.place c.causes_in-causes.result c.args.places.now.entries c.add.new.map.entries
    c.in_ok-add.ensures.0 c.causes_in-causes.ensures
