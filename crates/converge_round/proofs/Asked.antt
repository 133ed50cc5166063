-- What a caller did, by what asked for it.
use Rattle.std.proofs.Common.{◌≡◌, ℕ, List, [], ◌++◌, refl, ap, subst, ◌∙◌, append_assoc, arith, inl, inr, ⊎_elim, Result, Ok, Err}
use Rattle.std.specs.Prelude.{OnOk}
use Rattle.std.specs.List.{Contains}
use Rattle.std.proofs.lemmas.List.Elements.{Contains-append_left, Contains-append_cases}
use Rattle.bbs_model.specs.PortView.{PortView, rows_seen, IsLater, Looks}
use Rattle.bbs_model.specs.Replay.{command_in}
use Rattle.bbs_model.specs.Work.{work}
use Rattle.bbs_model.specs.declared.command.Command.{Command}
use Rattle.bbs_model.specs.declared.rows.Rows.{Rows}
use Rattle.bbs_model.specs.declared.reply.CallFault.{CallFault}
use Rattle.bbs_model.proofs.Public.{later_looks, later_same, later_then}
use Rattle.cell_records.specs.declared.answer.Answer.{Answer}
use Rattle.cell_rep.specs.declared.rep.CellRep.{CellRep}
use Rattle.convergence.specs.Plans.{plan_of_answers}
use Rattle.crash_backoff.specs.declared.moment.Moment.{Moment}
use Rattle.converge_round.specs.Callings.{calling, IsNoted, AreOf}
use Rattle.converge_round.specs.Each.{Each}
use Rattle.converge_round.specs.Items.{AreAsked, IsClaimIn, IsOfTable, WasSeen, AreHeard, AreLeft, WereLeft, AreFirstItems, HasFirstItems, HasItems}
use Rattle.converge_round.specs.Phases.{AreCalledBy, ArePlaced, AreStopped, IsClaimFor, IsHearing, fails_in}
use Rattle.converge_round.specs.Places.{placements, jobs_on, unplaced, fails_of}
use Rattle.converge_round.specs.Reps.{KeepReps}
use Rattle.converge_round.specs.Sendings.{WireAt}
use Rattle.converge_round.specs.Starts.{IsClaimOfOne}
use Rattle.converge_round.specs.Stops.{stops_at}
use Rattle.converge_round.specs.declared.opening.Hearing.{Hearing}
use Rattle.converge_round.specs.declared.opening.Opening.{Opening}
use Rattle.converge_round.specs.declared.placing.Places.{Places}
use Rattle.converge_round.specs.declared.stopping.Stops.{Stops}
use Rattle.converge_round.specs.declared.tally.Tally.{Tally}
use Rattle.converge_round.proofs.GotLaws.{heard_in}
use Rattle.converge_round.proofs.Owns.{own_looks, own_weaker, own_then}

-- what holds where something is there
pub on_ok : {X E : Type 0} (A B : Type 0) (r : Result X E) → (A → B) → OnOk r A → OnOk r B
on_ok A B (Ok x) f h = f h
on_ok A B (Err e) f h = tt

-- what was asked by the rows that the caller began with
pub asked_here : (by : ℕ) (T : Rows → Command → Type 0) (v w : PortView) → AreOf by (T (rows_seen v)) v w
    → AreAsked by T v w
asked_here by T v w f = record {
  later = f.later;
  each = λ i here. let e = f.each i here in record {
    read = v;
    before = later_same v;
    after = f.later;
    by_is = e.0;
    asked = e.1;
    behind = e.2;
  };
}

pub asked_looks : (by : ℕ) (T : Rows → Command → Type 0) (v w : PortView) → Looks v w → AreAsked by T v w
asked_looks by T v w h =
    let none : AreOf by (λ c. ⊥) v w = own_looks by (λ c. ⊥) v w h in
    record { later = none.later; each = λ i here. absurd (none.each i here).1 }

pub asked_then : (by : ℕ) (T : Rows → Command → Type 0) (u v w : PortView) → AreAsked by T u v → AreAsked by T v w
    → AreAsked by T u w
asked_then by T u v w f g = record {
  later = record {
    base = g.later.base ∙ f.later.base;
    seen = (
      f.later.seen.0 ++ g.later.seen.0,
      g.later.seen.1 ∙ ap
          (λ xs. xs ++ g.later.seen.0) f.later.seen.1 ∙ append_assoc u.seen f.later.seen.0 g.later.seen.0,
    );
    mine = (
      f.later.mine.0 ++ g.later.mine.0,
      g.later.mine.1 ∙ ap
          (λ xs. xs ++ g.later.mine.0) f.later.mine.1 ∙ append_assoc u.mine f.later.mine.0 g.later.mine.0,
    );
    counts = omega (arith, f.later.counts, g.later.counts);
  };
  each = λ i here. ⊎_elim
      (λ h. let e = f.each i h in record {
        read = e.read;
        before = e.before;
        after = record {
          base = g.later.base ∙ e.after.base;
          seen = (
            e.after.seen.0 ++ g.later.seen.0,
            g.later.seen.1 ∙ ap
                (λ xs. xs ++ g.later.seen.0) e.after.seen.1 ∙ append_assoc e.read.seen e.after.seen.0 g.later.seen.0,
          );
          mine = (
            e.after.mine.0 ++ g.later.mine.0,
            g.later.mine.1 ∙ ap
                (λ xs. xs ++ g.later.mine.0) e.after.mine.1 ∙ append_assoc e.read.mine e.after.mine.0 g.later.mine.0,
          );
          counts = omega (arith, e.after.counts, g.later.counts);
        };
        by_is = e.by_is;
        asked = e.asked;
        behind = Contains-append_left e.after.seen.0 g.later.seen.0 i e.behind;
      })
      (λ h. let e = g.each i h in record {
        read = e.read;
        before = later_then u v e.read f.later e.before;
        after = e.after;
        by_is = e.by_is;
        asked = e.asked;
        behind = e.behind;
      })
      (Contains-append_cases f.later.mine.0 g.later.mine.0 i here);
}

pub asked_weaker : (by : ℕ) (T S : Rows → Command → Type 0) (v w : PortView)
    → ((rows : Rows) (c : Command) → T rows c → S rows c) → AreAsked by T v w → AreAsked by S v w
asked_weaker by T S v w more f = record {
  later = f.later;
  each = λ i here. let e = f.each i here in record {
    read = e.read;
    before = e.before;
    after = e.after;
    by_is = e.by_is;
    asked = more (rows_seen e.read) (command_in i) e.asked;
    behind = e.behind;
  };
}

-- a look, and then what was asked by what it showed, by a caller of that number
pub asked_read : (by by' : ℕ) (T : Rows → Command → Type 0) (v m w : PortView) → by' ≡ by → Looks v m
    → AreOf by' (T (rows_seen m)) m w → AreAsked by T v w
asked_read by by' T v m w same looks f =
    asked_then by T v m w (asked_looks by T v m looks) (asked_here by T m w
    (subst (λ n. AreOf n (T (rows_seen m)) m w) same f))

pub asked_by : (by by' : ℕ) (T : Rows → Command → Type 0) (v w : PortView) → by' ≡ by → AreAsked by' T v w
    → AreAsked by T v w
asked_by by by' T v w same f = subst (λ n. AreAsked n T v w) same f

-- the calls of a table at what a look showed
pub called_read : (by by' : ℕ) (table : Rows → List Command) (v m w : PortView) (t t' : Tally) (list : List Command)
    → by' ≡ by → Looks v m → list ≡ table (rows_seen m)
    → Each (IsNoted by') list (calling m t) (calling w t') → AreCalledBy by table (calling v t) (calling w t')
called_read by by' table v m w t t' list same looks is f = record {
  read = m;
  looks = looks;
  calls = subst (λ l. Each (IsNoted by) l (calling m t) (calling w t')) is
      (subst (λ n. Each (IsNoted n) list (calling m t) (calling w t')) same f);
}

-- the same of a list that a table gave
pub asked_list : (by by' : ℕ) (table : Rows → List Command) (v m w : PortView) (list : List Command) → by' ≡ by
    → Looks v m → list ≡ table (rows_seen m)
    → AreOf by' (Contains list) m w → AreAsked by (λ rows c. Contains (table rows) c) v w
asked_list by by' table v m w list same looks is f =
    asked_read by by' (λ rows c. Contains (table rows) c) v m w same looks
    (subst (λ l. AreOf by' (Contains l) m w) is f)

-- a claim and a note as the rows and the auction ask for them
pub claim_in : (now : Moment) (rows : Rows) (reps : List CellRep) (got : List Answer) (p : Places) (c : Command)
    → ArePlaced rows reps got p → IsClaimFor now p p.roomy c → IsClaimIn rows p.roomy now c
claim_in now rows reps got p c is h = (
  h.0,
  h.1,
  subst (λ list. IsClaimOfOne now h.0.cell (jobs_on rows list h.0.cell) c) is.placed
      (subst (λ rs. IsClaimOfOne now h.0.cell (jobs_on rs p.placements h.0.cell) c) is.rows_are h.2),
)

pub fail_in : (now : Moment) (rows : Rows) (reps : List CellRep) (got : List Answer) (p : Places) (c : Command)
    → ArePlaced rows reps got p → Contains (fails_in now p) c
    → Contains (fails_of rows now (unplaced (placements rows p.roomy))) c
fail_in now rows reps got p c is h =
    subst (λ list. Contains (fails_of rows now (unplaced list)) c) is.placed
    (subst (λ rs. Contains (fails_of rs now (unplaced p.placements)) c) is.rows_are h)

-- rows that were seen in between were so in a longer stretch
pub seen_then : (Of : Rows → Type 0) (u v w x : PortView) → IsLater u v → IsLater w x → WasSeen Of v w → WasSeen Of u x
seen_then Of u v w x f g h = record {
  read = h.read;
  before = later_then u v h.read f h.before;
  after = later_then h.read w x h.after g;
  holds = h.holds;
}

pub left_then : (reps : List CellRep) (got roomy : List Answer) (u v w x : PortView) → IsLater u v → IsLater w x
    → WereLeft reps got roomy v w → WereLeft reps got roomy u x
left_then reps got roomy u v w x f g h = record {
  read = h.read;
  before = later_then u v h.read f h.before;
  after = later_then h.read w x h.after g;
  holds = seen_then (AreLeft reps got roomy (rows_seen h.read)) u v w x f g h.holds;
}

-- no answers were heard
pub heard_none : (reps : List CellRep) (now : Moment) (v w : PortView) → IsLater v w
    → WasSeen (AreHeard reps now []) v w
heard_none reps now v w later = record {
  read = v;
  before = later_same v;
  after = later;
  holds = λ a inside. absurd (omega (arith, inside.1));
}

-- the items up to the claims are of a round
pub first_items : (by : ℕ) (now : Moment) (reps : List CellRep) (u v w : PortView) (r : Result Opening CallFault)
    → Looks u v → HasFirstItems by now reps v w r → HasItems by now reps u w
first_items by now reps u v w r looks h = record {
  got = h.got;
  roomy = [];
  heard = seen_then (AreHeard reps now h.got) u v w w (later_looks u v looks) (later_same w) h.items.heard;
  left = inl refl;
  asked = asked_then by (IsOfTable h.got [] now) u v w (asked_looks by (IsOfTable h.got [] now) u v looks)
      (asked_weaker by _ (IsOfTable h.got [] now) v w (λ rows c x. ⊎_elim (λ a. inl a) (λ b. inr (inl b)) x)
      h.items.asked);
}

pub no_items : (by : ℕ) (now : Moment) (reps : List CellRep) (u v : PortView) → Looks u v → HasItems by now reps u v
no_items by now reps u v looks = record {
  got = [];
  roomy = [];
  heard = heard_none reps now u v (later_looks u v looks);
  left = inl refl;
  asked = asked_looks by (IsOfTable [] [] now) u v looks;
}

-- and those that its auction asked for
auction_items : (by : ℕ) (now : Moment) (cells : List CellRep) (u v m w : PortView) (o : Opening) → Looks u v
    → (h : HasFirstItems by now cells v m (Ok o))
    → AreOf by (λ c. IsOfTable h.got o.places.roomy now (rows_seen m) c) m w → HasItems by now cells u w
auction_items by now cells u v m w o looks h f =
    let T : Rows → Command → Type 0 = IsOfTable h.got o.places.roomy now in
    record {
      got = h.got;
      roomy = o.places.roomy;
      heard = seen_then (AreHeard cells now h.got) u v m w (later_looks u v looks) f.later h.items.heard;
      left = inr (left_then cells h.got o.places.roomy u v m w (later_looks u v looks) f.later h.left);
      asked = asked_then by T u v w (asked_looks by T u v looks)
          (asked_then by T v m w (asked_weaker by _ T v m (λ rows c x. ⊎_elim (λ a. inl a) (λ b. inr (inl b)) x)
          h.items.asked) (asked_here by T m w f));
    }

-- and those of the claims
pub claim_items : (by : ℕ) (now : Moment) (cells : List CellRep) (u v m w : PortView) (reps : List CellRep)
    (got : List Answer) (o : Opening) → Looks u v → HasFirstItems by now cells v m (Ok o)
    → ArePlaced (rows_seen m) reps got o.places → AreOf by (IsClaimFor now o.places o.places.roomy) m w
    → HasItems by now cells u w
claim_items by now cells u v m w reps got o looks h is f =
    let T : Command → Type 0 = IsOfTable h.got o.places.roomy now (rows_seen m) in
    auction_items by now cells u v m w o looks h
    (own_weaker by (IsClaimFor now o.places o.places.roomy) T m w
    (λ c x. inr (inr (inl (claim_in now (rows_seen m) reps got o.places c is x)))) f)

-- and of the notes
pub note_items : (by : ℕ) (now : Moment) (cells : List CellRep) (u v m k w : PortView) (reps : List CellRep)
    (got : List Answer) (o : Opening) → Looks u v → HasFirstItems by now cells v m (Ok o)
    → ArePlaced (rows_seen m) reps got o.places → AreOf by (IsClaimFor now o.places o.places.roomy) m k
    → AreOf by (Contains (fails_in now o.places)) k w → HasItems by now cells u w
note_items by now cells u v m k w reps got o looks h is f g =
    let T : Command → Type 0 = IsOfTable h.got o.places.roomy now (rows_seen m) in
    auction_items by now cells u v m w o looks h (own_then by T m k w
    (own_weaker by (IsClaimFor now o.places o.places.roomy) T m k
    (λ c x. inr (inr (inl (claim_in now (rows_seen m) reps got o.places c is x)))) f)
    (own_weaker by (Contains (fails_in now o.places)) T k w
    (λ c x. inr (inr (inr (fail_in now (rows_seen m) reps got o.places c is x)))) g))

-- a look adds no items
pub items_look : (by : ℕ) (now : Moment) (reps : List CellRep) (u v w : PortView) → HasItems by now reps u v → Looks v w
    → HasItems by now reps u w
items_look by now reps u v w h looks = record {
  got = h.got;
  roomy = h.roomy;
  heard = seen_then (AreHeard reps now h.got) u u v w (later_same u) (later_looks v w looks) h.heard;
  left = ⊎_elim (λ none. inl none) (λ some. inr (left_then reps h.got h.roomy u u v w (later_same u)
      (later_looks v w looks) some)) h.left;
  asked = asked_then by (IsOfTable h.got h.roomy now) u v w h.asked
      (asked_looks by (IsOfTable h.got h.roomy now) v w looks);
}

-- items up to the claims, phase by phase
pub first_none : (by : ℕ) (now : Moment) (reps : List CellRep) (v w : PortView) → Looks v w
    → AreFirstItems by now reps [] v w
first_none by now reps v w looks = record {
  heard = heard_none reps now v w (later_looks v w looks);
  asked =
      asked_looks by _ v w looks;
}

pub first_look : (by : ℕ) (now : Moment) (reps : List CellRep) (got : List Answer) (u v w : PortView)
    → AreFirstItems by now reps got u v → Looks v w → AreFirstItems by now reps got u w
first_look by now reps got u v w h looks = record {
  heard = seen_then (AreHeard reps now got) u u v w (later_same u) (later_looks v w looks) h.heard;
  asked = asked_then by _ u v w h.asked (asked_looks by _ v w looks);
}

pub first_work : (by by' : ℕ) (now : Moment) (reps : List CellRep) (v m w : PortView) → by' ≡ by → Looks v m
    → AreAsked by' (λ rows c. Contains (work rows now) c) m w
    → AreFirstItems by now reps [] v w
first_work by by' now reps v m w same looks f = record {
  heard = heard_none reps now v w (later_then v m w (later_looks v m looks) f.later);
  asked = asked_then by _ v m w (asked_looks by _ v m looks)
      (asked_weaker by (λ rows c. Contains (work rows now) c) _ m w (λ rows c x. inl x) (asked_by by by' _ m w same f));
}

-- the same items by the answers that were heard
plan_asked : (by by' : ℕ) (now : Moment) (got got' : List Answer) (v w : PortView) → by' ≡ by → got' ≡ got
    → AreAsked by' (λ rows c. Contains (plan_of_answers rows got' now) c) v w
    → AreAsked by (λ rows c. Contains (plan_of_answers rows got now) c) v w
plan_asked by by' now got got' v w same is f =
    subst (λ (xs : List Answer). AreAsked by (λ rows c. Contains (plan_of_answers rows xs now) c) v w) is
    (asked_by by by' _ v w same f)

pub first_plan : (by by' by'' : ℕ) (now : Moment) (reps : List CellRep) (s s' : WireAt) (hearing : Hearing)
    (got : List Answer) (v m k w : PortView) → by' ≡ by → by'' ≡ by → Looks v m
    → IsHearing reps (rows_seen m) now s s' hearing → got ≡ hearing.got
    → AreAsked by' (λ rows c. Contains (work rows now) c) m k
    → AreAsked by'' (λ rows c. Contains (plan_of_answers rows got now) c) k w
    → AreFirstItems by now reps hearing.got v w
first_plan by by' by'' now reps s s' hearing got v m k w same same' looks heard is f g = record {
  heard = record {
    read = m;
    before = later_looks v m looks;
    after = later_then m k w f.later g.later;
    holds = heard_in reps (rows_seen m) now s s' hearing heard;
  };
  asked = asked_then by _ v m w (asked_looks by _ v m looks) (asked_then by _ m k w
      (asked_weaker by (λ rows c. Contains (work rows now) c) _ m k (λ rows c x. inl x) (asked_by by by' _ m k same f))
      (asked_weaker by (λ rows c. Contains (plan_of_answers rows hearing.got now) c) _ k w (λ rows c x. inr x)
      (plan_asked by by'' now hearing.got got k w same' is g)));
}

-- they ended so
pub first_ended : (by : ℕ) (now : Moment) (reps : List CellRep) (got : List Answer) (v w : PortView) (why : CallFault)
    → AreFirstItems by now reps got v w → HasFirstItems by now reps v w (Err why)
first_ended by now reps got v w why h = record { got = got; items = h; left = tt }

-- or the auction was held
pub first_opened : (by : ℕ) (now : Moment) (reps left : List CellRep) (got : List Answer) (v w x y : PortView)
    (s s' : WireAt) (stops : Stops) (o : Opening) → AreFirstItems by now reps got v w
    → Looks w x → Looks x y → KeepReps reps left → AreStopped (rows_seen x) got (stops_at s reps)
    (stops_at s' left) stops → ArePlaced (rows_seen y) left got o.places
    → HasFirstItems by now reps v y (Ok o)
first_opened by now reps left got v w x y s s' stops o h third last kept stopped placed = record {
  got = got;
  items = first_look by now reps got v x y (first_look by now reps got v w x h third) last;
  left = record {
    read = x;
    before = later_then v w x h.asked.later (later_looks w x third);
    after = later_looks x y last;
    holds = record {
      read = y;
      before = later_then v x y (later_then v w x h.asked.later (later_looks w x third)) (later_looks x y last);
      after = later_same y;
      holds = record {
        left = left;
        kept = kept;
        first_wire = s;
        last_wire = s';
        stops = stops;
        stopped = stopped;
        opens = placed.open_are;
      };
    };
  };
}
