use Rattle.std.proofs.Common.{ap, ◌∙◌}
use Rattle.std.specs.List.{count_by}
use Rattle.auctioneer.specs.Stands.{same_name}
use Rattle.what_if.proofs.Agreeing.{count-map}
use Rattle.what_if.proofs.Names.{name_from_test}
use Rattle.what_if.specs.declared.site.Stay.{Stay}
use Rattle.site_spread.proofs.tallies.counts_standing.Goals as goal

pub counts_of-requires : goal.counts_of-requires
counts_of-requires c = name_from_test

pub returns : goal.returns
returns c = λ process.
    c.in_ok-counts.ensures process
    ∙ ap (count_by (same_name process)) (c.deref.ensures.value ∙ c.in_ok-names.ensures)
    ∙ count-map (same_name process) (λ (s : Stay). s.key.process) c.args.stays.now
