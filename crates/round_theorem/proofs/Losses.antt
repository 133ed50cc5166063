-- Where no loss is counted at the end none was counted before.
use Rattle.std.proofs.Common.{◌≡◌, ℕ, List, [], ◌∷◌, Option, Some, None, Ok, Err, refl, sym, ap, ◌∙◌, arith, ⊎_elim}
use Rattle.cell_records.specs.declared.answer.Answer.{Answer}
use Rattle.cell_rep.specs.declared.call_end.CallEnd.{CallEnd}
use Rattle.cell_rep.specs.declared.call_end.CallEnd.TheVariants.{Got, Fault, CallLost, ReplyLost, Local, Idle}
use Rattle.crash_backoff.specs.declared.moment.Moment.{Moment}
use Rattle.bbs_model.specs.declared.command.Command.{Command}
use Rattle.bbs_model.specs.declared.reply.Reply.{Reply}
use Rattle.bbs_model.specs.declared.reply.Reply.TheVariants as reply
use Rattle.converge_round.specs.Callings.{Calling, IsNoted}
use Rattle.converge_round.specs.Each.{Each}
use Rattle.converge_round.specs.Phases.{Course, ServesOne}
use Rattle.converge_round.specs.Starts.{answered, counted, counted_end, counted_all}
use Rattle.converge_round.specs.Tallies.{one_more, noted, lost_one}
use Rattle.converge_round.specs.declared.claims.Claimed.{Claimed}
use Rattle.converge_round.specs.declared.claims.StartEnd.{StartEnd}
use Rattle.converge_round.specs.declared.claims.StartEnd.TheVariants.{Lost, Made}
use Rattle.converge_round.specs.declared.placing.Places.{Places}
use Rattle.converge_round.specs.declared.tally.Tally.{Tally}

pub one_more-some : (n : ℕ) → one_more n ≡ 0 → ⊥
one_more-some n e = omega (arith, e)

pub lost_noted : (c : Command) (r : Reply) (t : Tally) → (noted c r t).lost ≡ t.lost
lost_noted c (reply.Ok place stamp) t = refl
lost_noted c (reply.Same place) t = refl
lost_noted c (reply.Refused why place) t = refl

-- calls with replies lose nothing
pub lost_each : (by : ℕ) (cs : List Command) (s t : Calling) → Each (IsNoted by) cs s t → t.tally.lost ≡ s.tally.lost
lost_each by [] s t f = ap (λ (x : Calling). x.tally.lost) f
lost_each by (c ∷ cs) s t f = lost_each by cs f.0 t f.2 ∙ ap
    (λ (x : Tally). x.lost) f.1.tally_is ∙ lost_noted c f.1.reply s.tally

answered_lost : (o : Option Command) (r : Reply) (t : Tally) → (answered o r t).lost ≡ t.lost
answered_lost None r t = refl
answered_lost (Some c) r t = lost_noted c r t

counted_none : (o : Option Command) (e : CallEnd) (t : Tally) → (counted o e t).lost ≡ 0 → t.lost ≡ 0
counted_none o (Got r) t none = sym (answered_lost o r t) ∙ none
counted_none o (Fault why) t none = none
counted_none o CallLost t none = absurd (one_more-some t.lost none)
counted_none o (ReplyLost (Ok r)) t none = absurd (one_more-some t.lost (sym (answered_lost o r (lost_one t)) ∙ none))
counted_none o (ReplyLost (Err why)) t none = none
counted_none o (Local why) t none = absurd (one_more-some t.lost none)
counted_none o Idle t none = absurd (one_more-some t.lost none)

end_none : (e : StartEnd) (t : Tally) → (counted_end e t).lost ≡ 0 → t.lost ≡ 0
end_none Lost t none = absurd (one_more-some t.lost none)
end_none (Made a) t none = counted_none a.command a.end t none

-- starts that count no loss
pub lost-starts : (ends : List Claimed) (t : Tally) → (counted_all ends t).lost ≡ 0 → t.lost ≡ 0
lost-starts [] t none = none
lost-starts (x ∷ ends) t none = end_none x.end t (lost-starts ends (counted_end x.end t) none)

pub lost-serves : (by : ℕ) (now : Moment) (p : Places) (xs : List Answer) (s s' : Course)
    → Each (ServesOne by now p) xs s s' → s'.tally.lost ≡ 0 → s.tally.lost ≡ 0
lost-serves by now p [] s s' f none = sym (ap (λ (x : Course). x.tally.lost) f) ∙ none
lost-serves by now p (x ∷ xs) s s' f none =
    let later = lost-serves by now p xs f.0 s' f.2 none in
    ⊎_elim
    (λ c. lost-starts c.ends s.tally (sym (ap (λ (t : Tally). t.lost) c.counts) ∙ later))
    (λ e. sym (ap (λ (y : Course). y.tally.lost) e.1) ∙ later)
    f.1
