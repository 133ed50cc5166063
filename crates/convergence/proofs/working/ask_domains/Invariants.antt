use Rattle.std.proofs.Common.{◌≡◌, ◌++◌, map, take}
use Rattle.std.specs.List.{filter_map}
use Rattle.bbs_model.specs.Work.{at, domain_work}
use Rattle.bbs_model.specs.declared.domain_row.DomainRow.{DomainRow}
use Rattle.convergence.proofs.working.ask_domains.Given as goal

abbrev pub invariant-loop-domain : goal.invariant-loop-domain
invariant-loop-domain l = l.asked ≡ l.fn.asked ++ map (at l.now)
    (filter_map (λ (d : DomainRow). domain_work d l.now) (take l.domain-index l.domains))
