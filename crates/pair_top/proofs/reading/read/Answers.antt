use Rattle.std.proofs.Common.{Bool, sym, subst}
use Rattle.byte_ports.specs.Cause.{HasCause}
use Rattle.pair_top.proofs.Readings.{as_pair, unread_same}
use Rattle.pair_top.proofs.reading.read.Goals as goal

pub returns-in-Err-clause-reads : goal.returns-in-Err-clause-reads
returns-in-Err-clause-reads g c = as_pair c.in-Err.ending _ _ c.in-Err.ensures.reads

pub returns-in-Err-clause-cause : goal.returns-in-Err-clause-cause
returns-in-Err-clause-cause g c = subst
    (λ (b : Bool). HasCause b (g.S.Source.faults c.args.source.now) (g.S.Source.faults c.read_scenario.new.source))
    (sym (unread_same c.in-Err.ending)) c.in-Err.ensures.cause
