use Rattle.std.proofs.Common.{◌≡◌, ◌<◌, List, [], ◌∷◌, ◌++◌, length, get_or, inl, inr, sym, ap, subst, ◌∙◌, arith}
use Rattle.std.proofs.lemmas.Bool.{cases_lt}
use Rattle.std.proofs.lemmas.List.{length-append, get_or_append_left, get_or_push}
use Rattle.auctioneer.specs.Spots.{IsSpotOf}
use Rattle.auctioneer.specs.declared.spots.Spot.{Spot}
use Rattle.auctioneer.proofs.field.Field.spots_made.Goals as goal

pub loop-at-preserved : goal.loop-at-preserved
loop-at-preserved c =
    let f = c.args.self.now in
    let at = c.loop-at.at in
    let xs = c.loop-at.all.items in
    let x : Spot = c.spot_for.result in
    let items : c.push.new.self.items ≡ xs ++ x ∷ [] = c.in_ok-push.ensures.items in
    let so_far = c.loop-at.invariant in
    let pushed = length-append xs (x ∷ []) in (
      omega (arith, ap length items, pushed, so_far.0),
      omega (arith, c.loop-at-test.true, c.len-at-end.ensures),
      λ k p below.
          elim (cases_lt k at) [
            | (inl lt) ↦
                let within : k < length xs = omega (arith, so_far.0) in
                subst (IsSpotOf c.args.job.now f.groups.items f.stands.items k)
                (sym (ap (λ (ys : List Spot). get_or ys k p) items ∙ get_or_append_left xs (x ∷ []) p k within))
                (so_far.2 k p lt)
            | (inr ge) ↦
                let here : length xs ≡ k = omega (arith, so_far.0) in
                let last : at ≡ k = omega (arith, so_far.0) in
                subst (IsSpotOf c.args.job.now f.groups.items f.stands.items k)
                (sym (ap (λ (ys : List Spot). get_or ys k p) items ∙ get_or_push xs x p k here))
                (subst (λ n. IsSpotOf c.args.job.now f.groups.items f.stands.items n x) last c.spot_for.ensures)
          ],
    )

pub returns : goal.returns
returns c =
    let so_far = c.loop-at.invariant in
    let all : length c.loop-at.all.items ≡ length c.args.self.now.stands.items =
    omega (arith, so_far.0, so_far.1, c.loop-at-test.false, c.len-at-end.ensures) in
    record { all = all; each = λ k p below. so_far.2 k p (omega (arith, so_far.0, all)) }
