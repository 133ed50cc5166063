use Rattle.std.proofs.Common.{◌∙◌, Some}
use Rattle.container_store.proofs.Walks.{find-begin}
use Rattle.container_store.proofs.store.Store.first_of.Goals as goal

pub returns : goal.returns
returns c =
    let s = c.args.self.now in
    c.copied.ensures ∙ c.next_of.ensures ∙ find-begin (Some c.args.job.now) s.epoch s.last s.containers
    c.holds.ensures.given
