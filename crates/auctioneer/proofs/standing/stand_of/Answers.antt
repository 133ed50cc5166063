use Rattle.std.proofs.Common.{◌≡◌, ◌<◌, ◌^◌, List, sym, ap, subst, ◌∙◌, arith}
use Rattle.cell_records.specs.declared.job_name.JobName.{JobName}
use Rattle.auctioneer.specs.Asked.{IsSoundStand}
use Rattle.auctioneer.specs.Stands.{jobs_of}
use Rattle.auctioneer.proofs.Standings.{IsSound-stand_of}
use Rattle.auctioneer.proofs.standing.stand_of.Goals as goal

pub returns-clause-sound : goal.returns-clause-sound
returns-clause-sound c =
    let a = c.args.answer.now in
    let jobs : c.in_ok-jobs_of.field-0 ≡ jobs_of a.containers = c.in_ok-jobs_of.ensures ∙ ap jobs_of c.items.ensures in
    let small : a.totals.containers < 2 ^ 32 = omega arith in
    subst (λ (js : List JobName). IsSoundStand (record {
      cell = a.cell;
      zone = a.zone;
      tag = a.tag;
      totals =
          a.totals;
      free = a.free;
      jobs = js;
    })) (sym jobs)
    (IsSound-stand_of a c.requires small)
