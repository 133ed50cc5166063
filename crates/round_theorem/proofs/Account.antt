-- The account of a round, part by part.
use Rattle.std.proofs.Common.{◌≡◌, ◌⊎◌, ℕ, Bool, true, false, List, [], ◌∷◌, length, sym, subst, arith, inl, inr, ⊎_elim}
use Rattle.std.specs.List.{Contains}
use Rattle.std.proofs.lemmas.List.Elements.{Contains-append_cases}
use Rattle.auctioneer.specs.declared.placement.Placement.{Placement}
use Rattle.bbs_model.specs.PortView.{PortView}
use Rattle.bbs_model.specs.Replay.{command_in}
use Rattle.bbs_model.specs.declared.command.Command.{Command}
use Rattle.bbs_model.specs.declared.item.Item.{Item}
use Rattle.bbs_model.specs.declared.rows.Rows.{Rows}
use Rattle.cell_records.specs.declared.answer.Answer.{Answer}
use Rattle.converge_round.specs.Each.{Each}
use Rattle.converge_round.specs.Items.{IsOfTable, IsAskedBetween}
use Rattle.converge_round.specs.Places.{jobs_on}
use Rattle.converge_round.specs.Starts.{IsClaim, IsClaimOfOne}
use Rattle.converge_round.specs.Stops.{if_done, Stopped, StopsOne}
use Rattle.cell_records.specs.declared.job.Job.{Job}
use Rattle.crash_backoff.specs.declared.moment.Moment.{Moment}
use Rattle.diego_names.specs.declared.instance.Instance.{Instance}
use Rattle.converge_laws.proofs.Public.{inside_first, inside_rest, first_or_rest}
use Rattle.round_theorem.specs.Accounts.{IsItemAsked}
use Rattle.round_theorem.specs.Alone.{AreClaimsOn, AreClaims}
use Rattle.round_theorem.proofs.Segments.{then-seen, after-seen, seen-grows}

-- a claim of these jobs is one of a job of them
claim_on_from : (now : Moment) (cell : List ℕ) (jobs : List Job) (n : ℕ) (cs : List Command) (c : Command)
    → AreClaimsOn now cell jobs n cs → Contains cs c → IsClaimOfOne now cell jobs c
claim_on_from now cell [] n cs c h inside = absurd (omega (arith, (subst (λ xs. Contains xs c) h.1 inside).1))
claim_on_from now cell (job ∷ jobs) n cs c (inl h) inside =
    let r = claim_on_from now cell jobs h.0 cs c h.2 inside in (r.0, inside_rest r.0 job jobs r.1, r.2)
claim_on_from now cell (job ∷ jobs) n cs c (inr h) inside =
    ⊎_elim
    (λ (is : h.0 ≡ c). (job, inside_first job jobs, subst (IsClaim now cell job) is h.3))
    (λ (rest : Contains h.1 c). let r = claim_on_from now cell jobs n h.1 c h.4 rest in
    (r.0, inside_rest r.0 job jobs r.1, r.2))
    (first_or_rest c h.0 h.1 (subst (λ xs. Contains xs c) h.2 inside))

pub claim_from : (now : Moment) (rows : Rows) (list : List Placement) (xs : List Answer) (n : ℕ) (cs : List Command)
    (c : Command) → AreClaims now rows list xs n cs → Contains cs c
    → (x : Answer) × Contains xs x × IsClaimOfOne now x.cell (jobs_on rows list x.cell) c
claim_from now rows list [] n cs c h inside = absurd (omega (arith, (subst (λ xs. Contains xs c) h.1 inside).1))
claim_from now rows list (x ∷ xs) n cs c h inside =
    ⊎_elim
    (λ (here : Contains h.2 c). (
      x,
      inside_first x xs,
      claim_on_from now x.cell
          (jobs_on rows list x.cell) h.0 h.2 c h.6 here,
    ))
    (λ (later : Contains h.3 c). let r = claim_from now rows list xs h.1 h.3 c h.7 later in
    (r.0, inside_rest r.0 x xs r.1, r.2))
    (Contains-append_cases h.2 h.3 c (subst (λ ys. Contains ys c) h.5 inside))

-- what was stopped is one of what was to be stopped
done_is : (b : Bool) (a x : List ℕ × Instance) → Contains (if_done b a) x → a ≡ x
done_is true a x inside = ⊎_elim (λ (is : a ≡ x). is) (λ (rest : Contains [] x). absurd (omega (arith, rest.1)))
    (first_or_rest x a [] inside)
done_is false a x inside = absurd (omega (arith, inside.1))

pub stopped_from : (strays : List (List ℕ × Instance)) (s t : Stopped) (x : List ℕ × Instance)
    → Each StopsOne strays s t → Contains t.stopped x → Contains s.stopped x ⊎ Contains strays x
stopped_from [] s t x f inside = inl (subst (λ (y : Stopped). Contains y.stopped x) f inside)
stopped_from (a ∷ strays) s t x f inside =
    ⊎_elim
    (λ (here : Contains f.0.stopped x).
    ⊎_elim
    (λ (old : Contains s.stopped x). inl old)
    (λ (new : Contains (if_done f.1.done a) x). inr (subst (Contains (a ∷ strays)) (done_is f.1.done a x new)
    (inside_first a strays)))
    (Contains-append_cases s.stopped (if_done f.1.done a) x (subst (λ xs. Contains xs x) f.1.stopped here)))
    (λ (later : Contains strays x). inr (inside_rest x a strays later))
    (stopped_from strays f.0 t x f.2 inside)

-- an item that rows asked for that were seen in between, by their place
pub item-asked : (by : ℕ) (now : Moment) (got roomy : List Answer) (v z : PortView) (start : ℕ) (i : Item)
    → start ≡ length v.seen → IsAskedBetween by (IsOfTable got roomy now) v z i
    → IsItemAsked by now got roomy start z i
item-asked by now got roomy v z start i is e = record {
  place = length e.read.seen;
  low = omega (arith, is, seen-grows v e.read e.before);
  behind = subst (λ xs. Contains xs i) (sym (after-seen e.read z e.after)) e.behind;
  by_is = e.by_is;
  asked = subst (λ (x : Rows). IsOfTable got roomy now x (command_in i)) (sym (then-seen e.read z e.after)) e.asked;
}
