-- A start that counts neither a loss nor a refusal: the claim of one container more.
use Rattle.std.proofs.Common.{◌≡◌, ℕ, Bool, true, false, cond, eqb, List, [], ◌∷◌, Option, Some, None, Result, Ok, Err, refl, sym, ap, subst, ◌∙◌, ⊎_elim}
use Rattle.std.specs.Prelude.{nat_lt}
use Rattle.std.specs.Result.{result_unwrap_or}
use Rattle.cell_records.specs.declared.job.Job.{Job}
use Rattle.cell_records.specs.declared.job_name.JobName.{JobName}
use Rattle.cell_records.specs.declared.job_name.JobName.TheVariants as name
use Rattle.cell_rep.specs.Acts.{claim_op, claim_todo, job_todo, job_begun}
use Rattle.cell_rep.specs.Claims.{claimed_next, store_claimed}
use Rattle.cell_rep.specs.Deliveries.{IsDelivered}
use Rattle.cell_rep.specs.Ends.{after_reply, left}
use Rattle.cell_rep.specs.Follows.{Stage, stage, Follows, IsStarted, starved}
use Rattle.cell_rep.specs.Reps.{with_store}
use Rattle.cell_rep.specs.declared.call_end.CallEnd.{CallEnd}
use Rattle.cell_rep.specs.declared.call_end.CallEnd.TheVariants.{Got, Fault, CallLost, ReplyLost, Local, Idle}
use Rattle.cell_rep.specs.declared.call_end.Called.{Called}
use Rattle.cell_rep.specs.declared.joined.Joined.{Joined}
use Rattle.cell_rep.specs.declared.rep.CellRep.{CellRep}
use Rattle.container_store.specs.Changes.{next_of, next_container, reserved, reserving}
use Rattle.container_store.specs.Store.{StoreView, free_of}
use Rattle.container_store.specs.declared.refusal.StoreRefusal.{StoreRefusal}
use Rattle.container_store.specs.declared.refusal.StoreRefusal.TheVariants.{NoMemoryLeft, NoDiskLeft, NoSlot}
use Rattle.crash_backoff.specs.declared.moment.Moment.{Moment}
use Rattle.diego_names.specs.declared.instance.Instance.{Instance}
use Rattle.bbs_model.specs.PortView.{PortView}
use Rattle.bbs_model.specs.Work.{at}
use Rattle.bbs_model.specs.declared.command.Command.{Command}
use Rattle.bbs_model.specs.declared.reply.Reply.{Reply}
use Rattle.bbs_model.specs.declared.reply.Reply.TheVariants as reply
use Rattle.converge_round.specs.Callings.{calling, IsNoted}
use Rattle.converge_round.specs.Sendings.{WireAt}
use Rattle.converge_round.specs.Starts.{Claiming, counted, counted_end, HasNoFault, IsFine, TakesIf, StartsOne}
use Rattle.converge_round.specs.Tallies.{noted, lost_one}
use Rattle.converge_round.specs.declared.claims.Claimed.{Claimed}
use Rattle.converge_round.specs.declared.claims.StartEnd.{StartEnd}
use Rattle.converge_round.specs.declared.tally.Tally.{Tally}
use Rattle.round_theorem.proofs.Losses.{one_more-some}
use Rattle.round_theorem.proofs.Tallied.{not_empty}

-- the claim of the next container of a cell for a job
abbrev pub next_claim : Moment → List ℕ → Job → Joined → Command
next_claim now cell job j = at now (claim_op cell job.job (next_of j.store))

-- the rep with that container
abbrev pub with_next : CellRep → Job → Joined → CellRep
with_next rep job j = with_store rep j (reserved j.store job.job job.memory job.disk)

-- the container was made room for, and the board took its claim
pub record IsClaimMade (by : ℕ) (now : Moment) (job : Job) (s s' : Claiming) (t t' : Tally) : Type 0 where
  pub joined : Joined
  pub was : s.rep.joined ≡ Some joined
  pub rep_is : s'.rep ≡ with_next s.rep job joined
  pub claim : IsNoted by (next_claim now s.rep.cell job joined) (calling s.view t) (calling s'.view t')

-- a claim that isn't refused leaves the rep as it is
kept_claim : (n : JobName) (cell : List ℕ) (i : Instance) (c : Command) (r : Reply) (t : Tally) (x : CellRep)
    → (noted c r t).refused ≡ [] → after_reply (claim_op cell n i) r x ≡ x
kept_claim (name.Lrp key) cell i c (reply.Ok place stamp) t x e = refl
kept_claim (name.Lrp key) cell i c (reply.Same place) t x e = refl
kept_claim (name.Lrp key) cell i c (reply.Refused why place) t x e = absurd (not_empty t.refused (c, why) e)
kept_claim (name.Task n) cell i c (reply.Ok place stamp) t x e = refl
kept_claim (name.Task n) cell i c (reply.Same place) t x e = refl
kept_claim (name.Task n) cell i c (reply.Refused why place) t x e = absurd (not_empty t.refused (c, why) e)

-- what is reserved is the next container
reserved_as : (s store : StoreView) (n : JobName) (memory disk : ℕ) (a b c : Bool)
    → cond a (Err NoMemoryLeft) (cond b (Err NoDiskLeft) (cond c (Err NoSlot) (Ok (reserved s n memory disk))))
    ≡ Ok store
    → store ≡ reserved s n memory disk
reserved_as s store n memory disk true b c e = absurd cc
reserved_as s store n memory disk false true c e = absurd cc
reserved_as s store n memory disk false false true e = absurd cc
reserved_as s store n memory disk false false false e =
    ap (λ (r : Result StoreView StoreRefusal). result_unwrap_or r store) (sym e)

module _ (by : ℕ) (now : Moment) (job : Job) (s s' : Claiming) (u u' : Tally) (wire : WireAt) (a : Called)
    (ended : HasNoFault a.end) (counts : u' ≡ counted a.command a.end u)
    (whole : u'.lost ≡ 0) (taken : u'.refused ≡ []) where
  lost_none : u' ≡ lost_one u → ⊥
  lost_none e = one_more-some u.lost (sym (ap (λ (t : Tally). t.lost) e) ∙ whole)

  counts_as : (b : Called) → a ≡ b → u' ≡ counted b.command b.end u
  counts_as b e = counts ∙ ap (λ (x : Called). counted x.command x.end u) e

  lost_reply : (c : Command) (r : Reply) → u' ≡ noted c r (lost_one u) → ⊥
  lost_reply c (reply.Ok place stamp) e = one_more-some u.lost (sym (ap (λ (t : Tally). t.lost) e) ∙ whole)
  lost_reply c (reply.Same place) e = one_more-some u.lost (sym (ap (λ (t : Tally). t.lost) e) ∙ whole)
  lost_reply c (reply.Refused why place) e = one_more-some u.lost (sym (ap (λ (t : Tally). t.lost) e) ∙ whole)

  module _ (j : Joined) (was : s.rep.joined ≡ Some j) where
    abbrev c : Command
    c = next_claim now s.rep.cell job j

    -- by the end of its call
    made_by : (e : CallEnd) → a.end ≡ e → a.command ≡ Some c → IsDelivered by s.view c e s'.view
        → s'.rep ≡ left c.op e (with_next s.rep job j) → IsClaimMade by now job s s' u u'
    made_by (Got r) is called h rep =
        let tally : u' ≡ noted c r u = counts_as (record { command = Some c; end = Got r })
        (λ i. record { command = called i; end = is i }) in
        record {
          joined = j;
          was = was;
          rep_is = rep ∙ kept_claim job.job s.rep.cell (next_of j.store) c r u (with_next s.rep job j)
              (sym (ap (λ (t : Tally). t.refused) tally) ∙ taken);
          claim = record { reply = r; called = h; tally_is = tally };
        }
    made_by (Fault why) is called h rep = absurd (subst HasNoFault is ended)
    made_by CallLost is called h rep = absurd (lost_none (counts_as (record { command = Some c; end = CallLost })
        (λ i. record { command = called i; end = is i })))
    made_by (ReplyLost (Ok r)) is called h rep =
        absurd (lost_reply c r (counts_as (record { command = Some c; end = ReplyLost (Ok r) })
        (λ i. record { command = called i; end = is i })))
    made_by (ReplyLost (Err why)) is called h rep = absurd (subst HasNoFault is ended)
    made_by (Local why) is called h rep = absurd h
    made_by Idle is called h rep = absurd h

    -- by whether there is room
    made_from : (x : Result StoreView StoreRefusal) → reserving j.store job.job job.memory job.disk ≡ x
        → Follows by s.rep.cell wire.ends (claim_todo now (λ d. claim_op s.rep.cell job.job d.instance)
        (claimed_next (next_container j.store job.job job.memory job.disk) x) ∷ [])
        (with_store s.rep j (store_claimed j.store (claimed_next
        (next_container j.store job.job job.memory job.disk) x))) s.view (a ∷ []) s'.rep s'.view
        → IsClaimMade by now job s s' u u'
    made_from (Ok store) is h =
        let room : store ≡ reserved j.store job.job job.memory job.disk =
        reserved_as j.store store job.job job.memory job.disk (nat_lt (free_of j.store).memory job.memory)
        (nat_lt (free_of j.store).disk job.disk) (eqb (free_of j.store).containers 0) is in
        made_by a.end refl h.1 (subst (λ (v : PortView). IsDelivered by s.view c a.end v) (sym h.3.1) h.2.1)
        (h.3.0 ∙ ap (λ (x : StoreView). left c.op a.end (with_store s.rep j x)) room)
    made_from (Err why) is h = absurd (lost_none (counts_as _ h.1))

  made_joined : (o : Option Joined) → s.rep.joined ≡ o
      → Follows by s.rep.cell wire.ends (job_todo job now s.rep.cell o ∷ []) (job_begun job s.rep o) s.view
      (a ∷ []) s'.rep s'.view → IsClaimMade by now job s s' u u'
  made_joined None is h = absurd (lost_none (counts_as _ h.1))
  made_joined (Some j) is h = made_from j is (reserving j.store job.job job.memory job.disk) refl h

  first_of : (x y : Called) → x ∷ [] ≡ y ∷ [] → x ≡ y
  first_of x y e = cc

  made_started : IsStarted by job now (stage s.rep s.view wire.ends wire.losses [])
      (stage s'.rep s'.view s'.wire.ends s'.wire.losses (a ∷ [])) → IsClaimMade by now job s s' u u'
  made_started h = ⊎_elim
      (λ p. made_joined s.rep.joined refl
      (subst (λ out. Follows by s.rep.cell wire.ends (job_todo job now s.rep.cell s.rep.joined ∷ [])
      (job_begun job s.rep s.rep.joined) s.view out s'.rep s'.view) (sym p.out_is) p.follows))
      (λ e. absurd (subst (λ (x : Called). HasNoFault x.end) (first_of a starved (ap (λ (x : Stage). x.out) e)) ended))
      h

made_if : (b : Bool) (by : ℕ) (now : Moment) (job : Job) (wire : WireAt) (s s' : Claiming) (e : StartEnd) (u u' : Tally)
    → IsFine e → u' ≡ counted_end e u → u'.lost ≡ 0 → u'.refused ≡ [] → TakesIf b by now job wire s s' e
    → IsClaimMade by now job s s' u u'
made_if true by now job wire s s' e u u' fine counts whole taken h =
    made_started by now job s s' u u' wire h.answer (subst IsFine h.end_is fine)
    (counts ∙ ap (λ (x : StartEnd). counted_end x u) h.end_is) whole taken h.started
made_if false by now job wire s s' e u u' fine counts whole taken h = absurd
    (one_more-some u.lost (sym (ap (λ (t : Tally). t.lost) (counts ∙ ap (λ (x : StartEnd). counted_end x u) h.end_is))
    ∙ whole))

-- a start that counts neither a loss nor a refusal made its claim
pub claim-made : (by : ℕ) (now : Moment) (x : Claimed) (s s' : Claiming) (u u' : Tally) → IsFine x.end
    → u' ≡ counted_end x.end u → u'.lost ≡ 0 → u'.refused ≡ [] → StartsOne by now x s s'
    → IsClaimMade by now x.start.job s s' u u'
claim-made by now x s s' u u' fine counts whole taken h =
    made_if h.reached by now x.start.job h.wire s s' x.end u u' fine counts whole taken h.takes
