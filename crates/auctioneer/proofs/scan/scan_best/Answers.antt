use Rattle.std.proofs.Common.{◌≡◌, ◌-◌, true, drop, suc, sym, ap, subst, ◌∙◌, arith}
use Rattle.auction_scoring.specs.Fits.{fits}
use Rattle.auction_scoring.specs.Score.{score_of}
use Rattle.auction_scoring.specs.declared.scores.Score.{Score}
use Rattle.auctioneer.specs.Candidates.{better_candidate, IsCandidate}
use Rattle.auctioneer.specs.Stands.{score_in, can_take}
use Rattle.auctioneer.proofs.Bests.{IsCandidate-next}
use Rattle.auctioneer.proofs.scan.scan_best.Goals as goal

pub loop-left-preserved-then-fits : goal.loop-left-preserved-then-fits
loop-left-preserved-then-fits c =
    let stands = c.args.stands.now in
    let job = c.args.job.now in
    let s = c.index-stands-left.result in
    let next : c.loop-left.left ≡ suc (c.loop-left.left - 1) = omega (arith, c.loop-left-test.true) in
    let fitting : can_take job s ≡ true = ap (fits job) (sym c.view_in-view.ensures) ∙ sym c.fits.ensures ∙
    c.if-fits.true in
    let scored : c.score-score.result ≡ score_in stands job.job s =
    c.score-score.ensures ∙ ap score_of c.view_in-view.ensures in
    record {
      within = omega (arith, c.loop-left.invariant.within);
      so_far =
          subst (IsCandidate stands job (drop (c.loop-left.left - 1) stands))
          (sym (c.better_of.ensures ∙ ap (λ (k : Score). better_candidate c.loop-left.best
          (record { at = c.loop-left.left - 1; score = k })) scored))
          (IsCandidate-next stands job (c.loop-left.left - 1) c.loop-left.left s c.loop-left.best next
          (omega arith) c.index-stands-left.is fitting c.loop-left.invariant.so_far);
    }
