use Rattle.std.proofs.Common.{◌≡◌, Some, ap, map, string_bytes, rules}
use Rattle.program_tools.specs.Words.{asked_of}
use Rattle.program_tools.specs.declared.words.Asked.TheVariants.{Large, Run, Routes}
use Rattle.diego_engine.specs.Top.{run_of}
use Rattle.diego_engine.proofs.NumberLaws.{unread_cause}
use Rattle.diego_engine.proofs.Ran.{neither, of_number, source_unread}
use Rattle.diego_engine.proofs.TopLaws.{still_ends}
use Rattle.diego_engine.proofs.top.whole_top.Goals as goal

pub still_top-requires : goal.still_top-requires
still_top-requires g c =
    neither (asked_of (map (λ w. string_bytes w) c.args.words.now)) (search rules) (search rules) (search rules)

pub returns-then-asks_for_whole-clause-ends : goal.returns-then-asks_for_whole-clause-ends
returns-then-asks_for_whole-clause-ends g c =
    let is : asked_of (map (λ w. string_bytes w) c.args.words.now) ≡ Some Run = search rules in
    rw is c.run_top.ensures.ends

pub returns-then-asks_for_routes-clause-ends : goal.returns-then-asks_for_routes-clause-ends
returns-then-asks_for_routes-clause-ends g c =
    let is : asked_of (map (λ w. string_bytes w) c.args.words.now) ≡ Some Routes = search rules in
    rw is c.run_top-then-asks_for_routes.ensures.ends

pub returns-in-Some-clause-ends : goal.returns-in-Some-clause-ends
returns-in-Some-clause-ends g c =
    let is : asked_of (map (λ w. string_bytes w) c.args.words.now) ≡ Some (Large c.in-Some.number) =
    of_number (asked_of (map (λ w. string_bytes w) c.args.words.now)) c.in-Some.number (search rules) in
    let (how, status, ends) = c.large_top.ensures.ends in
    let apart = c.large_top.ensures.apart in
    rw is (
      how,
      status,
      record {
        large = ends;
        unread = ap g.S.Source.left apart.0;
        told = ap g.D.Disk.told apart.1;
        faults = ap g.D.Disk.fault_count apart.1;
      },
    )

pub returns-in-Some-clause-read : goal.returns-in-Some-clause-read
returns-in-Some-clause-read g c =
    unread_cause _ _ _ c.large_top.ensures.read (ap g.S.Source.faults c.large_top.ensures.apart.0)

pub returns-in-Some-clause-unread : goal.returns-in-Some-clause-unread
returns-in-Some-clause-unread g c is = c.large_top.ensures.apart.0

pub returns-in-Some-clause-unopened : goal.returns-in-Some-clause-unopened
returns-in-Some-clause-unopened g c is = c.large_top.ensures.apart.1

pub returns-in-Some-clause-apart : goal.returns-in-Some-clause-apart
returns-in-Some-clause-apart g c is = c.large_top.ensures.apart.1

pub returns-clause-ends : goal.returns-clause-ends
returns-clause-ends g c =
    let (how, status, ends) = c.still_top.ensures.ends in
    let lists = c.still_top.ensures.lists in (
      how,
      status,
      still_ends g.D.Disk.told g.D.Disk.fault_count g.D.Disk.moment _
          (run_of how c.still_top.result) _ _ _ _ _ lists.0 lists.1 lists.2 how _
          (neither (asked_of (map (λ w. string_bytes w) c.args.words.now)) (search rules) (search rules)
          (search rules)) ends
          c.still_top.ensures.locks
          (λ not_locks. ap g.S.Source.left (c.still_top.ensures.source not_locks)),
    )

pub returns-clause-unread : goal.returns-clause-unread
returns-clause-unread g c is =
    c.still_top.ensures.source (source_unread (asked_of (map (λ w. string_bytes w) c.args.words.now)) is)
