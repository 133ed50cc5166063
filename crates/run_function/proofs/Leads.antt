-- What holds of a part of a round in which nobody else calls.
use Rattle.std.proofs.Common.{◌≡◌, ℕ, List, [], ◌∷◌, ◌++◌, Ok, refl, sym, ap, subst, ◌∙◌}
use Rattle.std.proofs.lemmas.List.{append-nil}
use Rattle.bbs_model.specs.PortView.{IsLater, IsQuiet, Looks, PortView}
use Rattle.bbs_model.specs.declared.command.Command.{Command}
use Rattle.bbs_model.specs.declared.item.Item.{Item}
use Rattle.bbs_model.specs.declared.reply.Reply.{Reply}
use Rattle.bbs_model.proofs.Public.{later_called, later_looks, later_same, later_then, quiet_first, quiet_looks, quiet_second}
use Rattle.converge_round.specs.Callings.{Calling, IsNoted}
use Rattle.converge_round.specs.Each.{Each}
use Rattle.converge_round.specs.Tallies.{noted}
use Rattle.run_function.specs.Boards.{board_seen, reply_alone}
use Rattle.run_function.specs.Rounds.{SoleCalls, notes_alone, sole_calls}
use Rattle.run_function.proofs.Calls.{call_due}
use Rattle.run_function.proofs.Delivered.{same_reply}

-- from one view to a later one, and this holds if nobody else called
pub record Leads (v w : PortView) (P : Type 0) : Type 0 where
  pub later : IsLater v w
  pub holds : IsQuiet v w → P

pub leads_same : (v : PortView) (P : Type 0) → P → Leads v v P
leads_same v P p = record { later = later_same v; holds = λ q. p }

pub leads_then : (u v w : PortView) (P Q : Type 0) → Leads u v P → Leads v w Q → Leads u w (P × Q)
leads_then u v w P Q f g = record {
  later = later_then u v w f.later g.later;
  holds = λ q. (f.holds (quiet_first u v w f.later g.later q), g.holds (quiet_second u v w f.later g.later q));
}

pub leads_to : (u v : PortView) (P Q : Type 0) → Leads u v P → (P → Q) → Leads u v Q
leads_to u v P Q f so = record { later = f.later; holds = λ q. so (f.holds q) }

-- a look shows the same board
pub leads_looks : (v w : PortView) → Looks v w → Leads v w (board_seen w ≡ board_seen v)
leads_looks v w h = record {
  later = later_looks v w h;
  holds = λ q.
      ap board_seen h.is
      ∙ ap (λ (xs : List Item). record { base = v.base; log = xs })
      (ap (λ (xs : List Item). v.seen ++ xs) (quiet_looks v w h q) ∙ append-nil v.seen);
}

-- what was seen of the board and counted of the calls
abbrev pub calls_in : Calling → SoleCalls
calls_in s = sole_calls (board_seen s.view) s.tally

one_noted : (by : ℕ) (c : Command) (s s' : Calling) (h : IsNoted by c s s') → IsQuiet s.view s'.view
    → calls_in s' ≡ notes_alone by (c ∷ []) (calls_in s)
one_noted by c s s' h q =
    let one = call_due by s.view c (Ok h.reply) s'.view h.called q refl refl in
    let reply : h.reply ≡ reply_alone (board_seen s.view) c =
    same_reply h.reply (reply_alone (board_seen s.view) c) one.reply in
    let tally : s'.tally ≡ noted c (reply_alone (board_seen s.view) c) s.tally =
    h.tally_is ∙ ap (λ (r : Reply). noted c r s.tally) reply in
    λ i. sole_calls (one.board i) (tally i)

leads_noted : (by : ℕ) (c : Command) (s s' : Calling) → IsNoted by c s s'
    → Leads s.view s'.view (calls_in s' ≡ notes_alone by (c ∷ []) (calls_in s))
leads_noted by c s s' h = record {
  later = later_called by s.view c (Ok h.reply) s'.view h.called;
  holds =
      one_noted by c s s' h;
}

-- commands that are called one after another
pub leads_calls : (by : ℕ) (cs : List Command) (s s' : Calling) → Each (IsNoted by) cs s s'
    → Leads s.view s'.view (calls_in s' ≡ notes_alone by cs (calls_in s))
leads_calls by [] s s' f =
    subst (λ (x : Calling). Leads s.view x.view (calls_in x ≡ calls_in s)) (sym f)
    (leads_same s.view (calls_in s ≡ calls_in s) refl)
leads_calls by (c ∷ cs) s s' f =
    let One : Type 0 = calls_in f.0 ≡ notes_alone by (c ∷ []) (calls_in s) in
    let Rest : Type 0 = calls_in s' ≡ notes_alone by cs (calls_in f.0) in
    leads_to s.view s'.view (One × Rest) (calls_in s' ≡ notes_alone by (c ∷ cs) (calls_in s))
    (leads_then s.view f.0.view s'.view One Rest (leads_noted by c s f.0 f.1) (leads_calls by cs f.0 s' f.2))
    (λ both. both.1 ∙ ap (λ (x : SoleCalls). notes_alone by cs x) both.0)
