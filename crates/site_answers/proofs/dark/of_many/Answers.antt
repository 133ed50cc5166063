use Rattle.std.proofs.Common.{ℕ, List, nat_le, map, ap, ◌∙◌}
use Rattle.std.specs.HashMap.{get}
use Rattle.std.specs.Option.{unwrap_or}
use Rattle.auctioneer.specs.Stands.{same_name}
use Rattle.site_answers.specs.Losses.{is_of_many, process_of, times}
use Rattle.what_if.proofs.Agreeing.{filter-same}
use Rattle.site_answers.proofs.dark.of_many.Goals as goal

pub returns : goal.returns
returns c =
    let counts = c.in_ok-wanted.wanted in
    c.in_ok-many.ensures
    ∙ filter-same (λ (n : List ℕ). nat_le 2 (unwrap_or (get same_name counts n) 0)) (is_of_many c.args.site.now.wanted)
    (λ n. ap (nat_le 2)
    (c.in_ok-wanted.ensures n ∙ ap (times n) (c.deref.ensures.value ∙ c.in_ok-processes.ensures ∙ ap
    (map process_of) c.items.ensures))) c.args.names.now
