-- Calls that had replies: what they come to where nobody else calls, and what is counted of them.
use Rattle.std.proofs.Common.{◌≡◌, ℕ, ◌+◌, ◌<◌, ◌≤◌, ◌^◌, List, [], ◌∷◌, ◌++◌, length, map, refl, sym, ap, subst, ◌∙◌, arith, append_assoc, length-append, Ok, Result, ⊎_elim}
use Rattle.std.specs.List.{Contains}
use Rattle.std.proofs.lemmas.List.{append-nil}
use Rattle.bbs_model.specs.Calls.{Ends, added}
use Rattle.bbs_model.specs.PortView.{PortView, rows_seen, after_others, IsCalled, IsLater, IsQuiet}
use Rattle.bbs_model.specs.Replay.{replay_log}
use Rattle.bbs_model.specs.Runs.{if_legal, state_after, state_after_all, legal_ones}
use Rattle.bbs_model.specs.Step.{rows_after, verdict_of}
use Rattle.bbs_model.specs.declared.command.Command.{Command}
use Rattle.bbs_model.specs.declared.item.Item.{Item}
use Rattle.bbs_model.specs.declared.item.Item.TheVariants.{Done}
use Rattle.bbs_model.specs.declared.reply.CallFault.{CallFault}
use Rattle.bbs_model.specs.declared.reply.Reply.{Reply}
use Rattle.bbs_model.specs.declared.reply.Reply.TheVariants as reply
use Rattle.bbs_model.specs.declared.rows.Rows.{Rows}
use Rattle.bbs_model.specs.declared.verdict.BoardRefusal.{BoardRefusal}
use Rattle.bbs_model.specs.declared.verdict.Verdict.{Verdict}
use Rattle.bbs_model.specs.declared.verdict.Verdict.TheVariants as verdict
use Rattle.bbs_model.proofs.Public.{later_same, later_called, later_then, quiet_first, quiet_second, quiet_called}
use Rattle.bbs_laws.proofs.Public.{replay_log-append}
use Rattle.converge_laws.proofs.Public.{inside_first, inside_rest}
use Rattle.converge_round.specs.Callings.{Calling, IsNoted, AreOf}
use Rattle.converge_round.specs.Each.{Each}
use Rattle.converge_round.specs.Tallies.{one_more, noted}
use Rattle.converge_round.specs.declared.tally.Tally.{Tally}
use Rattle.converge_round.proofs.Public.{own_as, own_called, own_then, own_weaker}
use Rattle.round_theorem.specs.Alone.{items_of, refusal_by, refused_of}

-- what was seen, and what was counted of replies
pub record Had : Type 0 where
  pub view : PortView
  pub own : ℕ
  pub refused : List (Command × BoardRefusal)

abbrev pub had : Calling → Had
had s = record { view = s.view; own = s.tally.own; refused = s.tally.refused }

abbrev pub own_after : Reply → ℕ → ℕ
own_after (reply.Ok place stamp) n = one_more n
own_after (reply.Same place) n = n
own_after (reply.Refused why place) n = n

abbrev pub refusal_in : Command → Reply → List (Command × BoardRefusal)
refusal_in c (reply.Ok place stamp) = []
refusal_in c (reply.Same place) = []
refusal_in c (reply.Refused why place) = (c, why) ∷ []

-- a command had a reply, which counts
pub record IsHad (by : ℕ) (c : Command) (s s' : Had) : Type 0 where
  pub reply : Reply
  pub called : IsCalled by s.view c (Ok reply) s'.view
  pub own : s'.own ≡ own_after reply s.own
  pub refused : s'.refused ≡ s.refused ++ refusal_in c reply

pub own_noted : (c : Command) (r : Reply) (t : Tally) → (noted c r t).own ≡ own_after r t.own
own_noted c (reply.Ok place stamp) t = refl
own_noted c (reply.Same place) t = refl
own_noted c (reply.Refused why place) t = refl

pub refused_noted : (c : Command) (r : Reply) (t : Tally) → (noted c r t).refused ≡ t.refused ++ refusal_in c r
refused_noted c (reply.Ok place stamp) t = sym (append-nil t.refused)
refused_noted c (reply.Same place) t = sym (append-nil t.refused)
refused_noted c (reply.Refused why place) t = refl

had_noted : (by : ℕ) (c : Command) (s s' : Calling) → IsNoted by c s s' → IsHad by c (had s) (had s')
had_noted by c s s' h = record {
  reply = h.reply;
  called = h.called;
  own = ap (λ (t : Tally). t.own) h.tally_is ∙ own_noted c h.reply s.tally;
  refused = ap (λ (t : Tally). t.refused) h.tally_is ∙ refused_noted c h.reply s.tally;
}

pub each-had : (by : ℕ) (cs : List Command) (s s' : Calling) → Each (IsNoted by) cs s s'
    → Each (IsHad by) cs (had s) (had s')
each-had by [] s s' f = ap had f
each-had by (c ∷ cs) s s' f = (had f.0, had_noted by c s f.0 f.1, each-had by cs f.0 s' f.2)

-- what a reply comes to, by the verdict in its turn
record IsTurn (by : ℕ) (rows : Rows) (c : Command) (r : Reply) (x : Verdict) : Type 0 where
  items : added (Ok r) by c ≡ if_legal x (Done by c ∷ []) []
  refusal : refusal_in c r ≡ refusal_by c x
  rows_are : replay_log rows (added (Ok r) by c) ≡ if_legal x (rows_after rows c) rows

abbrev why_or : BoardRefusal → Result Reply CallFault → BoardRefusal
why_or other (Ok (reply.Refused why place)) = why
why_or other end = other

turn_by : (by : ℕ) (rows : Rows) (c : Command) (r : Reply) (place stamp : ℕ) (x : Verdict) → Ends x place stamp (Ok r)
    → IsTurn by rows c r x
turn_by by rows c (reply.Ok at n) place stamp verdict.Ok ends = record { items = refl; refusal = refl; rows_are = refl }
turn_by by rows c (reply.Same at) place stamp verdict.Ok ends =
    ⊎_elim (λ same. absurd cc) (λ rest. ⊎_elim (λ bad. absurd cc) (λ bad. absurd cc) rest) ends
turn_by by rows c (reply.Refused why at) place stamp verdict.Ok ends =
    ⊎_elim (λ same. absurd cc) (λ rest. ⊎_elim (λ bad. absurd cc) (λ bad. absurd cc) rest) ends
turn_by by rows c (reply.Ok at n) place stamp verdict.Same ends = absurd cc
turn_by by rows c (reply.Same at) place stamp verdict.Same ends =
    record { items = refl; refusal = refl; rows_are = refl }
turn_by by rows c (reply.Refused why at) place stamp verdict.Same ends = absurd cc
turn_by by rows c (reply.Ok at n) place stamp (verdict.Refused y) ends = absurd cc
turn_by by rows c (reply.Same at) place stamp (verdict.Refused y) ends = absurd cc
turn_by by rows c (reply.Refused why at) place stamp (verdict.Refused y) ends = record {
  items = refl;
  refusal = ap (λ (end : Result Reply CallFault). (c, why_or why end) ∷ []) ends;
  rows_are = refl;
}

-- calls where nobody else calls
pub record AreTurns (by : ℕ) (cs : List Command) (s s' : Had) : Type 0 where
  pub items : s'.view.seen ≡ s.view.seen ++ items_of by (rows_seen s.view) cs
  pub refused : s'.refused ≡ s.refused ++ refused_of (rows_seen s.view) cs
  pub rows_are : rows_seen s'.view ≡ state_after_all (rows_seen s.view) cs

abbrev pub done_by : ℕ → Command → Item
done_by by c = Done by c

legal_first : (by : ℕ) (c : Command) (later : List Command) (x : Verdict)
    → map (done_by by) (if_legal x (c ∷ later) later) ≡ if_legal x (done_by by c ∷ []) [] ++ map (done_by by) later
legal_first by c later verdict.Ok = refl
legal_first by c later verdict.Same = refl
legal_first by c later (verdict.Refused why) = refl

turn_one : (by : ℕ) (c : Command) (s s' : Had) (h : IsHad by c s s') → IsQuiet s.view s'.view
    → (s'.view.seen ≡ s.view.seen ++ if_legal (verdict_of (rows_seen s.view) c) (done_by by c ∷ []) [])
    × (s'.refused ≡ s.refused ++ refusal_by c (verdict_of (rows_seen s.view) c))
    × (rows_seen s'.view ≡ state_after (rows_seen s.view) c)
turn_one by c s s' h q =
    let none = quiet_called by s.view c (Ok h.reply) s'.view h.called q in
    let seen : s.view.seen ++ h.called.others ≡ s.view.seen =
    ap (λ xs. s.view.seen ++ xs) none ∙ append-nil s.view.seen in
    let same : rows_seen (after_others s.view h.called.others) ≡ rows_seen s.view = ap (replay_log s.view.base) seen in
    let ends = subst (λ (x : Rows). Ends (verdict_of x c) (length (s.view.seen ++ h.called.others)) x.next (Ok h.reply))
    same h.called.ends in
    let turn = turn_by by (rows_seen s.view) c h.reply (length (s.view.seen ++ h.called.others)) (rows_seen s.view).next
    (verdict_of (rows_seen s.view) c) ends in
    let all : s'.view.seen ≡ s.view.seen ++ added (Ok h.reply) by c =
    ap (λ (v : PortView). v.seen) h.called.is ∙ ap (λ xs. xs ++ added (Ok h.reply) by c) seen in
    let base : s'.view.base ≡ s.view.base = ap (λ (v : PortView). v.base) h.called.is in (
      all ∙ ap (λ xs. s.view.seen ++ xs) turn.items,
      h.refused ∙ ap (λ xs. s.refused ++ xs) turn.refusal,
      ap (λ (b : Rows). replay_log b s'.view.seen) base ∙ ap
          (replay_log s.view.base) all ∙ replay_log-append s.view.base s.view.seen
          (added (Ok h.reply) by c) ∙ turn.rows_are,
    )

pub later-had : (by : ℕ) (cs : List Command) (s s' : Had) → Each (IsHad by) cs s s' → IsLater s.view s'.view
later-had by [] s s' f = subst (λ (x : Had). IsLater s.view x.view) (sym f) (later_same s.view)
later-had by (c ∷ cs) s s' f =
    later_then s.view f.0.view s'.view (later_called by s.view c (Ok f.1.reply) f.0.view f.1.called)
    (later-had by cs f.0 s' f.2)

pub turns-had : (by : ℕ) (cs : List Command) (s s' : Had) → Each (IsHad by) cs s s' → IsQuiet s.view s'.view
    → AreTurns by cs s s'
turns-had by [] s s' f q =
    subst (AreTurns by [] s) (sym f) (record {
      items = sym (append-nil s.view.seen);
      refused =
          sym (append-nil s.refused);
      rows_are = refl;
    })
turns-had by (c ∷ cs) s s' f q =
    let rows : Rows = rows_seen s.view in
    let one_later = later_called by s.view c (Ok f.1.reply) f.0.view f.1.called in
    let rest_later = later-had by cs f.0 s' f.2 in
    let one = turn_one by c s f.0 f.1 (quiet_first s.view f.0.view s'.view one_later rest_later q) in
    let rest = turns-had by cs f.0 s' f.2 (quiet_second s.view f.0.view s'.view one_later rest_later q) in
    record {
      items = rest.items ∙ ap (λ (x : Rows). f.0.view.seen ++ items_of by x cs) one.2 ∙ ap
          (λ xs. xs ++ items_of by (state_after rows c) cs) one.0
          ∙ append_assoc s.view.seen (if_legal (verdict_of rows c) (done_by by c ∷ []) [])
          (items_of by (state_after rows c) cs)
          ∙ ap (λ xs. s.view.seen ++ xs) (sym (legal_first by c (legal_ones (state_after rows c) cs)
          (verdict_of rows c)));
      refused = rest.refused ∙ ap (λ (x : Rows). f.0.refused ++ refused_of x cs) one.2 ∙ ap
          (λ xs. xs ++ refused_of (state_after rows c) cs) one.1
          ∙ append_assoc s.refused (refusal_by c (verdict_of rows c)) (refused_of (state_after rows c) cs);
      rows_are = rest.rows_are ∙ ap (λ (x : Rows). state_after_all x cs) one.2;
    }

-- what is counted is what was done
pub record AreCountedIn (s s' : Had) : Type 0 where
  pub own : s'.own + length s.view.mine ≡ s.own + length s'.view.mine
  pub few : s'.own ≤ length s'.view.seen

count_ok : (own own' seen seen' mine mine' others : ℕ) → own' ≡ one_more own → seen' ≡ seen + others + 1
    → mine' ≡ mine + 1 → own ≤ seen → seen' < 2 ^ 64
    → (own' + mine ≡ own + mine') × (own' ≤ seen')
count_ok own own' seen seen' mine mine' others a b c d e = (omega (arith, a, b, c, d, e), omega (arith, a, b, c, d, e))

count_none : (own own' seen seen' mine mine' others : ℕ) → own' ≡ own → seen' ≡ seen + others + 0 → mine' ≡ mine + 0
    → own ≤ seen
    → (own' + mine ≡ own + mine') × (own' ≤ seen')
count_none own own' seen seen' mine mine' others a b c d = (omega (arith, a, b, c, d), omega (arith, a, b, c, d))

count_by : (by : ℕ) (c : Command) (r : Reply) (own own' seen seen' mine mine' others : ℕ) → own' ≡ own_after r own
    → seen' ≡ seen + others + length (added (Ok r) by c)
    → mine' ≡ mine + length (added (Ok r) by c) → own ≤ seen → seen' < 2 ^ 64
    → (own' + mine ≡ own + mine') × (own' ≤ seen')
count_by by c (reply.Ok at n) own own' seen seen' mine mine' others a b d e f =
    count_ok own own' seen seen' mine mine' others a b d e f
count_by by c (reply.Same at) own own' seen seen' mine mine' others a b d e f =
    count_none own own' seen seen' mine mine' others a b d e
count_by by c (reply.Refused why at) own own' seen seen' mine mine' others a b d e f =
    count_none own own' seen seen' mine mine' others a b d e

count_one : (by : ℕ) (c : Command) (s s' : Had) → IsHad by c s s' → s.own ≤ length s.view.seen → AreCountedIn s s'
count_one by c s s' h few =
    let items : List Item = added (Ok h.reply) by c in
    let seen : length s'.view.seen ≡ length s.view.seen + length h.called.others + length items =
    ap (λ (v : PortView). length v.seen) h.called.is ∙ length-append (s.view.seen ++ h.called.others) items ∙ ap
    (λ n. n + length items) (length-append s.view.seen h.called.others) in
    let mine : length s'.view.mine ≡ length s.view.mine + length items =
    ap (λ (v : PortView). length v.mine) h.called.is ∙ length-append s.view.mine items in
    let both = count_by by c h.reply s.own s'.own (length s.view.seen) (length s'.view.seen) (length s.view.mine)
    (length s'.view.mine) (length h.called.others) h.own seen mine few h.called.few in
    record { own = both.0; few = both.1 }

pub counted-had : (by : ℕ) (cs : List Command) (s s' : Had) → Each (IsHad by) cs s s' → s.own ≤ length s.view.seen
    → AreCountedIn s s'
counted-had by [] s s' f few = subst (AreCountedIn s) (sym f) (record { own = refl; few = few })
counted-had by (c ∷ cs) s s' f few =
    let one = count_one by c s f.0 f.1 few in
    let rest = counted-had by cs f.0 s' f.2 one.few in
    record { own = omega (arith, one.own, rest.own); few = rest.few }

-- each item is of one of the commands
pub own-had : (by : ℕ) (cs : List Command) (s s' : Had) → Each (IsHad by) cs s s'
    → AreOf by (Contains cs) s.view s'.view
own-had by [] s s' f = own_as by (Contains []) s.view s'.view (ap (λ (x : Had). x.view) f)
own-had by (c ∷ cs) s s' f =
    own_then by (Contains (c ∷ cs)) s.view f.0.view s'.view
    (own_weaker by (λ x. x ≡ c) (Contains (c ∷ cs)) s.view f.0.view
    (λ x is. subst (Contains (c ∷ cs)) (sym is) (inside_first c cs))
    (own_called by s.view c (Ok f.1.reply) f.0.view f.1.called))
    (own_weaker by (Contains cs) (Contains (c ∷ cs)) f.0.view s'.view (λ x inside. inside_rest x c cs inside)
    (own-had by cs f.0 s' f.2))
