-- What is counted of a caller's calls: no more than its items, and no refusal is forgotten.
use Rattle.std.proofs.Common.{◌≡◌, ℕ, ◌+◌, ◌≤◌, List, [], ◌∷◌, ◌++◌, length, sym, ap, subst, ◌∙◌, arith, length-append, Result, Ok}
use Rattle.bbs_model.specs.Calls.{added}
use Rattle.bbs_model.specs.PortView.{PortView, Looks, IsCalled, IsLater}
use Rattle.bbs_model.specs.declared.command.Command.{Command}
use Rattle.bbs_model.specs.declared.reply.CallFault.{CallFault}
use Rattle.bbs_model.specs.declared.reply.Reply.{Reply}
use Rattle.bbs_model.specs.declared.reply.Reply.TheVariants as reply
use Rattle.bbs_model.proofs.Public.{later_same, later_looks, later_called, later_then}
use Rattle.converge_round.specs.Callings.{Calling, calling, IsNoted}
use Rattle.converge_round.specs.Each.{Each}
use Rattle.converge_round.specs.Tallies.{one_more, noted}
use Rattle.converge_round.specs.declared.tally.Tally.{Tally}

-- from one view and count to others: no more was counted than was done, and refusals stay
pub record IsTallied (s s' : Calling) : Type 0 where
  pub later : IsLater s.view s'.view
  pub own : s'.tally.own + length s.view.mine ≤ s.tally.own + length s'.view.mine
  pub refused : s'.tally.refused ≡ [] → s.tally.refused ≡ []

pub one_more-least : (n : ℕ) → one_more n ≤ n + 1
one_more-least n = omega arith

pub not_empty : {X : Type 0} (xs : List X) (x : X) → xs ++ x ∷ [] ≡ [] → ⊥
not_empty xs x e = omega (arith, ap length e, length-append xs (x ∷ []))

pub tallied-same : (s : Calling) → IsTallied s s
tallied-same s = record { later = later_same s.view; own = omega arith; refused = λ e. e }

pub tallied-as : (s s' : Calling) → s' ≡ s → IsTallied s s'
tallied-as s s' e = subst (IsTallied s) (sym e) (tallied-same s)

pub tallied-then : (a b c : Calling) → IsTallied a b → IsTallied b c → IsTallied a c
tallied-then a b c f g = record {
  later = later_then a.view b.view c.view f.later g.later;
  own = omega (arith, f.own, g.own);
  refused = λ e. f.refused (g.refused e);
}

pub tallied-looks : (v w : PortView) (t : Tally) → Looks v w → IsTallied (calling v t) (calling w t)
tallied-looks v w t h =
    let mine : length w.mine ≡ length v.mine = ap (λ (x : PortView). length x.mine) h.is in
    record { later = later_looks v w h; own = omega (arith, mine); refused = λ e. e }

pub mine_more : (by : ℕ) (v : PortView) (c : Command) (end : Result Reply CallFault) (w : PortView)
    → IsCalled by v c end w
    → length w.mine ≡ length v.mine + length (added end by c)
mine_more by v c end w h = ap (λ (x : PortView). length x.mine) h.is ∙ length-append v.mine (added end by c)

pub tallied-reply : (by : ℕ) (v : PortView) (c : Command) (r : Reply) (w : PortView) (t : Tally)
    → IsCalled by v c (Ok r) w → IsTallied (calling v t) (calling w (noted c r t))
tallied-reply by v c (reply.Ok place stamp) w t h = record {
  later = later_called by v c (Ok (reply.Ok place stamp)) w h;
  own = omega (arith, mine_more by v c (Ok (reply.Ok place stamp)) w h, one_more-least t.own);
  refused = λ e. e;
}
tallied-reply by v c (reply.Same place) w t h = record {
  later = later_called by v c (Ok (reply.Same place)) w h;
  own = omega (arith, mine_more by v c (Ok (reply.Same place)) w h);
  refused = λ e. e;
}
tallied-reply by v c (reply.Refused why place) w t h = record {
  later = later_called by v c (Ok (reply.Refused why place)) w h;
  own = omega (arith, mine_more by v c (Ok (reply.Refused why place)) w h);
  refused = λ e. absurd (not_empty t.refused (c, why) e);
}

-- one call, with its reply
pub tallied-noted : (by : ℕ) (c : Command) (s s' : Calling) → IsNoted by c s s' → IsTallied s s'
tallied-noted by c s s' h =
    subst (λ t. IsTallied s (calling s'.view t)) (sym h.tally_is)
    (tallied-reply by s.view c h.reply s'.view s.tally h.called)

-- many of them
pub tallied-each : (by : ℕ) (cs : List Command) (s s' : Calling) → Each (IsNoted by) cs s s' → IsTallied s s'
tallied-each by [] s s' f = tallied-as s s' f
tallied-each by (c ∷ cs) s s' f = tallied-then s f.0 s' (tallied-noted by c s f.0 f.1) (tallied-each by cs f.0 s' f.2)
