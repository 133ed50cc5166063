-- All of the list was lent.
use Rattle.std.proofs.Common.{◌<◌, length, get_or, ap, sym, ◌∙◌, subst}
use Rattle.phase_threads.specs.Acting.{ActsOut}
use Rattle.phase_threads.proofs.Pairs.{lent_whole}
use Rattle.phase_threads.proofs.at_once.act_at_once.Goals as goal

pub returns-then-not-is_empty-clause-acts : goal.returns-then-not-is_empty-clause-acts
returns-then-not-is_empty-clause-acts g c k d lt =
    let items = c.args.all.items in let new = c.act_each.new.all in let lent = c.as_mut_slice.ensures.value in
    let whole = lent_whole c.args.all.len new items (c.act_each.auto.all ∙ ap length lent) c.args.all.ok.0 in
    subst (λ xs. ActsOut (λ p. g.P.Port.view p.port) (λ p q. g.P.Port.keeps p.port q.port) c.args.now c.args.lines.now
    (get_or items k d) (get_or xs k d))
    (sym whole)
    (subst (λ xs. ActsOut (λ p. g.P.Port.view p.port) (λ p q. g.P.Port.keeps p.port q.port) c.args.now c.args.lines.now
    (get_or xs k d) (get_or new k d))
    lent (c.act_each.ensures.acts k d (subst (λ xs. k < length xs) (sym lent) lt)))
