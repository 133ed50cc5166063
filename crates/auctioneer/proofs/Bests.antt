-- The scan's steps: the best of the cells from a place on.
use Rattle.std.proofs.Common.{◌≡◌, ℕ, ◌<◌, true, false, cond, List, ◌∷◌, length, get_or, drop, suc, Option, Some, None, sym, ap, subst, ◌∙◌}
use Rattle.std.proofs.Math.Seq.{drop-cons}
use Rattle.std.proofs.lemmas.List.{get_or_read}
use Rattle.cell_records.specs.declared.job.Job.{Job}
use Rattle.auction_scoring.specs.Order.{is_better}
use Rattle.auction_scoring.specs.declared.scores.Score.{Score}
use Rattle.auctioneer.specs.Candidates.{better_candidate, IsCandidate, TracksBest}
use Rattle.auctioneer.specs.Least.{better_one, best_in}
use Rattle.auctioneer.specs.Stands.{can_take, score_in}
use Rattle.auctioneer.specs.declared.candidate.Candidate.{Candidate}
use Rattle.auctioneer.specs.declared.stand.Stand.{Stand}

module _ (stands : List Stand) (job : Job) where
  -- where a cell fits, it is the best with the others, or the best of the others is
  best_with : (s : Stand) (rest : List Stand) → can_take job s ≡ true
      → best_in stands job (s ∷ rest) ≡ better_one stands job s (best_in stands job rest)
  best_with s rest fits = ap (λ b. cond b (better_one stands job s (best_in stands job rest)) (best_in stands job rest))
      fits

  pub IsCandidate-more : (i : ℕ) (s : Stand) (rest : List Stand) (found : Option Candidate) → i < length stands
      → ((d : Stand) → get_or stands i d ≡ s) → can_take job s ≡ true → TracksBest stands job rest found
      → IsCandidate stands job (s ∷ rest) (better_candidate found
      (record { at = i; score = score_in stands job.job s }))
  IsCandidate-more i s rest None inside at fits none = record {
    inside = inside;
    score = λ d. ap (score_in stands job.job) (sym (at d));
    best = λ d. best_with s rest fits ∙ ap (better_one stands job s) none ∙ ap Some (sym (at d));
    fits = λ d. ap (can_take job) (at d) ∙ fits;
  }
  IsCandidate-more i s rest (Some c) inside at fits h =
      let chosen : (d : Stand) → best_in stands job (s ∷ rest)
      ≡ cond (is_better c.score (score_in stands job.job s)) (Some (get_or stands c.at d)) (Some s) =
      λ d. best_with s rest fits ∙ ap (better_one stands job s) (h.best d)
      ∙ ap (λ (k : Score). cond (is_better k (score_in stands job.job s)) (Some (get_or stands c.at d)) (Some s))
      (sym (h.score d)) in
      elim (is_better c.score (score_in stands job.job s)) as
      (λ b. ((d : Stand) → best_in stands job (s ∷ rest) ≡ cond b (Some (get_or stands c.at d)) (Some s))
      → IsCandidate stands job (s ∷ rest) (cond b c (record { at = i; score = score_in stands job.job s }))) [
        | true ↦ λ e. record { inside = h.inside; score = h.score; best = e; fits = h.fits }
        | false ↦ λ e. record {
          inside = inside;
          score = λ d. ap (score_in stands job.job) (sym (at d));
          best = λ d. e d ∙ ap Some (sym (at d));
          fits = λ d. ap (can_take job) (at d) ∙ fits;
        }
      ] chosen

  -- one step of the scan, which goes down from the last cell
  pub IsCandidate-next : (i left : ℕ) (s : Stand) (found : Option Candidate) → left ≡ suc i → i < length stands
      → s ≡ get_or stands i s → can_take job s ≡ true → TracksBest stands job (drop left stands) found
      → IsCandidate stands job (drop i stands) (better_candidate found
      (record { at = i; score = score_in stands job.job s }))
  IsCandidate-next i left s found next inside at fits h =
      let before : TracksBest stands job (drop (suc i) stands) found =
      subst (λ n. TracksBest stands job (drop n stands) found) next h in
      let first : drop i stands ≡ s ∷ drop (suc i) stands =
      drop-cons stands i s inside ∙ ap (λ x. x ∷ drop (suc i) stands) (sym at) in
      subst (λ xs. IsCandidate stands job xs (better_candidate found
      (record { at = i; score = score_in stands job.job s }))) (sym first)
      (IsCandidate-more i s (drop (suc i) stands) found inside
      (λ d. sym (get_or_read stands i s inside at d)) fits before)
