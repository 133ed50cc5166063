-- What many calls come to where nobody else moved the board and none was refused.
use Rattle.std.proofs.Common.{◌≡◌, ℕ, List, [], ◌∷◌, ◌++◌, length, refl, sym, ap, subst, ◌∙◌, Ok, ⊎_elim}
use Rattle.std.proofs.lemmas.List.{append-nil}
use Rattle.bbs_model.specs.Calls.{Ends, added}
use Rattle.bbs_model.specs.PortView.{PortView, rows_seen, after_others, Looks, IsCalled, IsQuiet}
use Rattle.bbs_model.specs.Replay.{replay_log, after_item}
use Rattle.bbs_model.specs.Runs.{state_after, state_after_all, if_legal}
use Rattle.bbs_model.specs.Step.{verdict_of, rows_after}
use Rattle.bbs_model.specs.declared.command.Command.{Command}
use Rattle.bbs_model.specs.declared.item.Item.{Item}
use Rattle.bbs_model.specs.declared.reply.Reply.{Reply}
use Rattle.bbs_model.specs.declared.reply.Reply.TheVariants as reply
use Rattle.bbs_model.specs.declared.rows.Rows.{Rows}
use Rattle.bbs_model.specs.declared.verdict.Verdict.{Verdict}
use Rattle.bbs_model.specs.declared.verdict.Verdict.TheVariants as verdict
use Rattle.bbs_model.proofs.Public.{quiet_first, quiet_second, quiet_looks, quiet_called}
use Rattle.converge_laws.specs.Accepted.{IsAccepted, AreAccepted}
use Rattle.converge_round.specs.Callings.{Calling, IsNoted}
use Rattle.converge_round.specs.Each.{Each}
use Rattle.converge_round.specs.Tallies.{noted}
use Rattle.converge_round.specs.declared.tally.Tally.{Tally}
use Rattle.round_theorem.proofs.Tallied.{tallied-noted, tallied-each, not_empty}

replay_more : (rows : Rows) (log more : List Item) → replay_log rows (log ++ more)
    ≡ replay_log (replay_log rows log) more
replay_more rows [] more = refl
replay_more rows (i ∷ log) more = replay_more (after_item rows i) log more

-- a look behind which nobody did anything shows the same rows
pub rows-looks : (v w : PortView) → Looks v w → IsQuiet v w → rows_seen w ≡ rows_seen v
rows-looks v w h q =
    ap rows_seen h.is ∙ ap (λ xs. replay_log v.base (v.seen ++ xs)) (quiet_looks v w h q) ∙ ap (replay_log v.base)
    (append-nil v.seen)

-- how a reply was come to: by that verdict, with the rows after it
record IsCallTaken (rows : Rows) (c : Command) (rows' : Rows) : Type 0 where
  accepted : IsAccepted (verdict_of rows c)
  rows_are : rows' ≡ state_after rows c

taken_as : (by : ℕ) (rows : Rows) (c : Command) (r : Reply) (t : Tally) (place stamp : ℕ) (x : Verdict)
    → verdict_of rows c ≡ x → Ends x place stamp (Ok r)
    → (noted c r t).refused ≡ [] → IsCallTaken rows c (replay_log rows (added (Ok r) by c))
taken_as by rows c (reply.Ok at number) t place stamp verdict.Ok e ends none = record {
  accepted = subst IsAccepted (sym e) tt;
  rows_are = sym (ap (λ (x : Verdict). if_legal x (rows_after rows c) rows) e);
}
taken_as by rows c (reply.Same at) t place stamp verdict.Ok e ends none = ⊎_elim
    (λ same. absurd cc) (λ rest. ⊎_elim (λ bad. absurd cc) (λ bad. absurd cc) rest) ends
taken_as by rows c (reply.Refused why at) t place stamp verdict.Ok e ends none =
    absurd (not_empty t.refused (c, why) none)
taken_as by rows c (reply.Ok at number) t place stamp verdict.Same e ends none = absurd cc
taken_as by rows c (reply.Same at) t place stamp verdict.Same e ends none = record {
  accepted = subst IsAccepted (sym e) tt;
  rows_are = sym (ap (λ (x : Verdict). if_legal x (rows_after rows c) rows) e);
}
taken_as by rows c (reply.Refused why at) t place stamp verdict.Same e ends none =
    absurd (not_empty t.refused (c, why) none)
taken_as by rows c (reply.Ok at number) t place stamp (verdict.Refused y) e ends none = absurd cc
taken_as by rows c (reply.Same at) t place stamp (verdict.Refused y) e ends none = absurd cc
taken_as by rows c (reply.Refused why at) t place stamp (verdict.Refused y) e ends none =
    absurd (not_empty t.refused (c, why) none)

taken_call : (by : ℕ) (v : PortView) (c : Command) (r : Reply) (w : PortView) (t : Tally) → IsCalled by v c (Ok r) w
    → IsQuiet v w → (noted c r t).refused ≡ [] → IsCallTaken (rows_seen v) c (rows_seen w)
taken_call by v c r w t h q none =
    let alone : h.others ≡ [] = quiet_called by v c (Ok r) w h q in
    let same : rows_seen (after_others v h.others) ≡ rows_seen v =
    ap (λ xs. replay_log v.base (v.seen ++ xs)) alone ∙ ap (replay_log v.base) (append-nil v.seen) in
    let rows : rows_seen w ≡ replay_log (rows_seen v) (added (Ok r) by c) =
    ap rows_seen h.is ∙ replay_more v.base (v.seen ++ h.others) (added (Ok r) by c) ∙ ap
    (λ (x : Rows). replay_log x (added (Ok r) by c)) same in
    let ends = subst (λ (x : Rows). Ends (verdict_of x c) (length (v.seen ++ h.others)) x.next (Ok r)) same h.ends in
    subst (IsCallTaken (rows_seen v) c) (sym rows) (taken_as by (rows_seen v) c r t (length (v.seen ++ h.others))
    (rows_seen v).next (verdict_of (rows_seen v) c) refl ends none)

-- all calls of a list were taken, and the rows are those after it
pub record AreTaken (rows : Rows) (cs : List Command) (rows' : Rows) : Type 0 where
  pub accepted : AreAccepted rows cs
  pub rows_are : rows' ≡ state_after_all rows cs

pub taken-each : (by : ℕ) (cs : List Command) (s s' : Calling) → Each (IsNoted by) cs s s' → IsQuiet s.view s'.view
    → s'.tally.refused ≡ [] → AreTaken (rows_seen s.view) cs (rows_seen s'.view)
taken-each by [] s s' f q none = record { accepted = tt; rows_are = ap (λ (x : Calling). rows_seen x.view) f }
taken-each by (c ∷ cs) s s' f q none =
    let m = f.0 in
    let one = tallied-noted by c s m f.1 in
    let rest = tallied-each by cs m s' f.2 in
    let first = taken_call by s.view c f.1.reply m.view s.tally f.1.called
    (quiet_first s.view m.view s'.view one.later rest.later q)
    (sym (ap (λ (t : Tally). t.refused) f.1.tally_is) ∙ rest.refused none) in
    let then = taken-each by cs m s' f.2 (quiet_second s.view m.view s'.view one.later rest.later q) none in
    record {
      accepted = (first.accepted, subst (λ (x : Rows). AreAccepted x cs) first.rows_are then.accepted);
      rows_are = then.rows_are ∙ ap (λ (x : Rows). state_after_all x cs) first.rows_are;
    }
