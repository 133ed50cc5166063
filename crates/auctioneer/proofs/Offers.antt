-- A cell more beside the best so far.
use Rattle.std.proofs.Common.{◌≡◌, ℕ, ◌<◌, ◌≤◌, true, false, cond, eqb, List, length, get_or, Option, Some, None, inl, inr, refl, sym, ap, subst, ◌∙◌, arith}
use Rattle.std.specs.Option.{IfSome}
use Rattle.std.specs.Cmp.{nat_cmp_total, tied_itself}
use Rattle.std.specs.Ordering.{nat_cmp, is_gt, ordering_then}
use Rattle.std.specs.declared.cmp.Ordering.{Ordering}
use Rattle.std.specs.declared.cmp.Ordering.TheVariants.{Less, Equal, Greater}
use Rattle.std.proofs.lemmas.Bool.{cases_order, lt-ltb}
use Rattle.std.proofs.lemmas.List.{get_or_read}
use Rattle.diego_names.specs.Order.{name_order}
use Rattle.cell_records.specs.declared.job.Job.{Job}
use Rattle.auction_scoring.specs.Order.{is_better}
use Rattle.auction_scoring.specs.Score.{score_of}
use Rattle.auction_scoring.specs.declared.scores.Score.{Score}
use Rattle.auctioneer.specs.Asked.{AreStands}
use Rattle.auctioneer.specs.Candidates.{better_candidate}
use Rattle.auctioneer.specs.Fields.{IsFitting, IsNoWorse}
use Rattle.auctioneer.specs.Stands.{can_take, score_in, in_zone, held_of, view_of}
use Rattle.auctioneer.specs.Tallies.{count_at}
use Rattle.auctioneer.specs.declared.candidate.Candidate.{Candidate}
use Rattle.auctioneer.specs.declared.stand.Stand.{Stand}
use Rattle.auctioneer.specs.declared.tally.Place.TheVariants.{Cell}
use Rattle.auctioneer.proofs.AuctionLaws.{emptier_zone}
use Rattle.auctioneer.proofs.Counts.{held-from_count}
use Rattle.auctioneer.proofs.Leasts.{better_is_worse, better_is_no_worse, no_better_chain}

module _ (stands : List Stand) (job : Job) where
  -- the better of two cells that fit is one
  pub IsFitting-better : (found : Option Candidate) (c : Candidate) → IfSome found (IsFitting stands job)
      → IsFitting stands job c → IsFitting stands job (better_candidate found c)
  IsFitting-better None c h fits = fits
  IsFitting-better (Some f) c h fits =
      elim (is_better f.score c.score) as (λ b. IsFitting stands job (cond b f c)) [ true ↦ h | false ↦ fits ]

  -- no worse than before
  pub no_worse_kept : (found : Option Candidate) (c : Candidate) (s : Stand) → IsNoWorse stands job found s
      → IsNoWorse stands job (Some (better_candidate found c)) s
  no_worse_kept None c s h = λ fits. cc
  no_worse_kept (Some f) c s h = λ fits.
      elim (is_better f.score c.score) as (λ b. is_better f.score c.score ≡ b
      → is_better (score_in stands job.job s) (cond b f c).score ≡ false) [
        | true ↦ λ e. h fits
        | false ↦ λ e. no_better_chain (score_in stands job.job s) f.score c.score (h fits) e
      ] refl

  -- no worse than what the new one is no worse than
  pub no_worse_new : (found : Option Candidate) (c : Candidate) (s : Stand)
      → is_better (score_in stands job.job s) c.score ≡ false → IsNoWorse stands job (Some (better_candidate found c)) s
  no_worse_new None c s h = λ fits. h
  no_worse_new (Some f) c s h = λ fits.
      elim (is_better f.score c.score) as (λ b. is_better f.score c.score ≡ b
      → is_better (score_in stands job.job s) (cond b f c).score ≡ false) [
        | true ↦ λ e. no_better_chain (score_in stands job.job s) c.score f.score h
            (better_is_no_worse f.score c.score e)
        | false ↦ λ e. h
      ] refl

  -- a cell that doesn't fit is no better
  pub no_worse_unfit : (found : Option Candidate) (s : Stand) → can_take job s ≡ false → IsNoWorse stands job found s
  no_worse_unfit None s e = e
  no_worse_unfit (Some c) s e = λ fits. cc

  -- nor is one in a zone with more containers
  pub no_worse_ahead : (c : Candidate) (s : Stand) → c.score.in_zone < in_zone stands job.job s.zone
      → IsNoWorse stands job (Some c) s
  no_worse_ahead c s below = λ fits.
      elim (is_better (score_in stands job.job s) c.score) as
      (λ b. is_better (score_in stands job.job s) c.score ≡ b → b ≡ false) [
        | true ↦ λ e. let most = emptier_zone c.score (score_in stands job.job s)
            (better_is_no_worse (score_in stands job.job s) c.score e) in absurd (omega (arith, most))
        | false ↦ λ e. refl
      ] refl

pub not_above_then : (o p : Ordering) → is_gt o ≡ false → (o ≡ Equal → is_gt p ≡ false)
    → is_gt (ordering_then o p) ≡ false
not_above_then Less p h k = refl
not_above_then Equal p h k = k refl
not_above_then Greater p h k = h

pub cmp_below : (a b : ℕ) → a < b → nat_cmp a b ≡ Less
cmp_below a b lt = ap (λ t. cond t Less (cond (eqb a b) Equal Greater)) (lt-ltb a b lt)

pub not_above : (a b : ℕ) → a ≤ b → is_gt (nat_cmp a b) ≡ false
not_above a b le =
    elim (cases_order a b) [
      | (inl same) ↦ ap is_gt (ap (nat_cmp a) (sym same) ∙ tied_itself nat_cmp_total a)
      | (inr (inl below)) ↦ ap is_gt (cmp_below a b below)
      | (inr (inr above)) ↦ absurd (omega arith)
    ]

-- in one zone a cell without the process is no worse than those of a larger load, or of a later name
pub later_is_no_better : (a b : Score) → a.in_zone ≡ b.in_zone → a.on_cell ≡ 0
    → is_gt (ordering_then (nat_cmp a.load b.load) (name_order a.cell b.cell)) ≡ false → is_better b a ≡ false
later_is_no_better a b zone none later =
    better_is_worse b a
    ∙ not_above_then (nat_cmp a.in_zone b.in_zone) _ (not_above a.in_zone b.in_zone (omega arith)) (λ e.
    not_above_then (nat_cmp a.on_cell b.on_cell) _ (not_above a.on_cell b.on_cell (omega arith)) (λ f. later))

-- a cell that fits, with its score by the counts that are kept
pub IsFitting-counted : (stands : List Stand) (job : Job) (at : ℕ) (d : Stand) (zone cell : ℕ) (score : Score)
    → AreStands stands → at < length stands → d ≡ get_or stands at d → zone ≡ in_zone stands job.job d.zone
    → cell ≡ count_at Cell stands job.job d.cell → score ≡ score_of (view_of d zone cell) → can_take job d ≡ true
    → IsFitting stands job (record { at = at; score = score })
IsFitting-counted stands job at d zone cell score sound inside is in_zone_is on_cell_is scored fits = record {
  inside = inside;
  score = λ s.
      let same : d ≡ get_or stands at s = get_or_read stands at d inside is s in
      let here : zone ≡ in_zone stands job.job (get_or stands at s).zone =
      in_zone_is ∙ ap (λ (x : Stand). in_zone stands job.job x.zone) same in
      let held : cell ≡ held_of job.job (get_or stands at s) =
      on_cell_is ∙ ap (λ (x : Stand). count_at Cell stands job.job x.cell) same ∙ held-from_count job.job stands at
      s sound.rising inside in
      scored ∙ (λ i. score_of (view_of (same i) (here i) (held i)));
  fits = λ s. subst (λ (x : Stand). can_take job x ≡ true) (get_or_read stands at d inside is s) fits;
}
