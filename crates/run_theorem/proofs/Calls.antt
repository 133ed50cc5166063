-- What calls say of each log that goes on from what was seen behind them.
use Rattle.std.proofs.Common.{◌≡◌, ℕ, ◌+◌, ◌≤◌, List, [], ◌∷◌, ◌++◌, length, Option, Some, None, Result, Ok, Err, refl, sym, ap, subst, ◌∙◌, append_assoc, length-append, arith, inl, inr}
use Rattle.std.specs.Prelude.{All}
use Rattle.std.specs.List.{flat_map, slice_get}
use Rattle.std.proofs.lemmas.Grind.{flat_map-append}
use Rattle.std.proofs.lemmas.List.{append-nil}
use Rattle.std.proofs.lemmas.List.Elements.{All-append, All-cons, All-nil}
use Rattle.bbs_model.specs.Calls.{added, Ends}
use Rattle.bbs_model.specs.PortView.{IsCalled, PortView}
use Rattle.bbs_model.specs.Replay.{replay_log}
use Rattle.bbs_model.specs.Step.{verdict_of}
use Rattle.bbs_model.specs.declared.command.Command.{Command}
use Rattle.bbs_model.specs.declared.item.Item.{Item}
use Rattle.bbs_model.specs.declared.item.Item.TheVariants.{Done, Doubt}
use Rattle.bbs_model.specs.declared.reply.CallFault.{CallFault}
use Rattle.bbs_model.specs.declared.reply.CallFault.TheVariants as fault
use Rattle.bbs_model.specs.declared.reply.Reply.{Reply}
use Rattle.bbs_model.specs.declared.reply.Reply.TheVariants as reply
use Rattle.bbs_model.specs.declared.rows.Rows.{Rows}
use Rattle.bbs_model.specs.declared.verdict.Verdict.{Verdict}
use Rattle.bbs_model.specs.declared.verdict.Verdict.TheVariants as verdict
use Rattle.cell_rep.specs.Deliveries.{IsDelivered}
use Rattle.cell_rep.specs.declared.call_end.CallEnd.{CallEnd}
use Rattle.cell_rep.specs.declared.call_end.CallEnd.TheVariants.{Got, Fault, CallLost, ReplyLost, Local, Idle}
use Rattle.scenario_lines.specs.declared.answered.Answered.{Answered}
use Rattle.phase_runs.specs.Actors.{LogBegins}
use Rattle.run_theorem.specs.Answers.{answer_items, AnswerTells, board_answer, ComesTo, IsTrueOf, items_if, LieBetween, place_named, TellsIf}
use Rattle.run_theorem.proofs.Logs.{begins_behind, begins_same, begins_taken, begins_then, begins_within, stands_behind}

-- a place, or without one an earlier one, is no later
place_earlier : (n from : ℕ) (o : Option (Result Reply CallFault)) → n ≤ from → from ≤ place_named from o
    → (n ≤ place_named n o) × (place_named n o ≤ place_named from o)
place_earlier n from None le within = (omega arith, le)
place_earlier n from (Some (Ok (reply.Ok place stamp))) le within = (omega (arith, le, within), omega arith)
place_earlier n from (Some (Ok (reply.Same place))) le within = (omega (arith, le, within), omega arith)
place_earlier n from (Some (Ok (reply.Refused why place))) le within = (omega (arith, le, within), omega arith)
place_earlier n from (Some (Err (fault.Disk place))) le within = (omega (arith, le, within), omega arith)
place_earlier n from (Some (Err fault.OutOfMemory)) le within = (omega arith, le)

-- what lies between two places lies between an earlier and a later one
pub lie_wider : (n from upto m : ℕ) (as' : List Answered) → n ≤ from → upto ≤ m → LieBetween from upto as'
    → LieBetween n m as'
lie_wider n from upto m [] low high lie = omega (arith, low, high, lie)
lie_wider n from upto m (a ∷ as') low high lie =
    let earlier = place_earlier n from (board_answer a.end) low lie.0 in (
      earlier.0,
      lie_wider (place_named n (board_answer a.end) + length (answer_items a))
          (place_named from (board_answer a.end) + length (answer_items a)) upto m as'
          (omega (arith, earlier.1)) high lie.1,
    )

pub lie_both : (from mid upto : ℕ) (as' bs : List Answered) → LieBetween from mid as' → LieBetween mid upto bs
    → LieBetween from upto (as' ++ bs)
lie_both from mid upto [] bs f g = lie_wider from mid upto upto bs f (omega arith) g
lie_both from mid upto (a ∷ as') bs f g =
    (f.0, lie_both (place_named from (board_answer a.end) + length (answer_items a)) mid upto as' bs f.1 g)

-- what one call says, of the log that it left and of each longer one
record SaysOne (by : ℕ) (c : Command) (end : Result Reply CallFault) (base : Rows)
    (first before : List Item) : Type 0 where
  low : length first ≤ place_named (length first) (Some end)
  high : place_named (length first) (Some end) + length (added end by c) ≤ length (before ++ added end by c)
  tells : (log : List Item) → LogBegins (before ++ added end by c) log → AnswerTells base log by c end

module _ (base : Rows) (by : ℕ) (c : Command) (first before : List Item) (behind : length first ≤ length before) where
  -- the rows there are those that were seen
  comes : (items log : List Item) (v : Verdict) → verdict_of (replay_log base before) c ≡ v
      → LogBegins (before ++ items) log
      → ComesTo base log (length before) c v
  comes items log v is f =
      let g = begins_behind before items log f in
      record {
        within = begins_within before log g;
        verdict_is = ap (λ (xs : List Item). verdict_of (replay_log base xs) c) (begins_taken before log g) ∙ is;
      }

  stands : (i : Item) (log : List Item) → LogBegins (before ++ i ∷ []) log → slice_get log (length before) ≡ Some i
  stands i log f =
      ap (λ (xs : List Item). slice_get xs (length before))
      (f.1 ∙ append_assoc before (i ∷ []) f.0) ∙ stands_behind before f.0 i

  one_more : (i : Item) → length before + 1 ≤ length (before ++ i ∷ [])
  one_more i = omega (arith, length-append before (i ∷ []))

  none_more : length before + 0 ≤ length (before ++ [])
  none_more = omega (arith, length-append {A = Item} before [])

  says_ok : (end : Result Reply CallFault) → verdict_of (replay_log base before) c ≡ verdict.Ok
      → Ends verdict.Ok (length before) (replay_log base before).next end → SaysOne by c end base first before
  says_ok end is (inl e) = subst (λ (x : Result Reply CallFault). SaysOne by c x base first before) (sym e) (record {
    low = behind;
    high = one_more (Done by c);
    tells = λ log f. (
      stands (Done by c) log f,
      comes (Done by c ∷ []) log verdict.Ok is f,
      ap (λ (xs : List Item). (replay_log base xs).next) (sym
          (begins_taken before log (begins_behind before (Done by c ∷ []) log f))),
    );
  })
  says_ok end is (inr (inl e)) = subst (λ (x : Result Reply CallFault). SaysOne by c x base first before) (sym e)
      (record {
        low = behind;
        high = one_more (Doubt by c);
        tells = λ log f. (stands (Doubt by c) log f, comes (Doubt by c ∷ []) log verdict.Ok is f);
      })
  says_ok end is (inr (inr e)) = subst (λ (x : Result Reply CallFault). SaysOne by c x base first before) (sym e)
      (record {
        low = omega arith;
        high = omega (arith, behind, length-append {A = Item} before []);
        tells = λ log f. (length before, comes [] log verdict.Ok is f);
      })

  says_same : (end : Result Reply CallFault) → verdict_of (replay_log base before) c ≡ verdict.Same
      → end ≡ Ok (reply.Same (length before))
      → SaysOne by c end base first before
  says_same end is e = subst (λ (x : Result Reply CallFault). SaysOne by c x base first before) (sym e) (record {
    low = behind;
    high = none_more;
    tells = λ log f. comes [] log verdict.Same is f;
  })

  says_end : (v : Verdict) (end : Result Reply CallFault) → verdict_of (replay_log base before) c ≡ v
      → Ends v (length before) (replay_log base before).next end → SaysOne by c end base first before
  says_end verdict.Ok end is ends = says_ok end is ends
  says_end verdict.Same end is ends = says_same end is ends
  says_end (verdict.Refused why) end is ends = subst (λ (x : Result Reply CallFault). SaysOne by c x base first before)
      (sym ends) (record {
        low = behind;
        high = none_more;
        tells = λ log f. comes [] log (verdict.Refused why) is f;
      })

-- what the answers of a caller say, who saw a board so before and after its calls
pub record Says (answers : List Answered) (v w : PortView) : Type 0 where
  pub base_is : w.base ≡ v.base
  pub grows : LogBegins v.seen w.seen
  pub places : LieBetween (length v.seen) (length w.seen) answers
  pub items : w.mine ≡ v.mine ++ flat_map answer_items answers
  pub replies : (log : List Item) → LogBegins w.seen log → All (IsTrueOf v.base log) answers

-- nothing was done
pub says_none : (v : PortView) → Says [] v v
says_none v = record {
  base_is = refl;
  grows = begins_same v.seen;
  places = omega arith;
  items = sym (append-nil v.mine);
  replies = λ log f. All-nil (IsTrueOf v.base log);
}

-- the one thing that was done was no call
pub says_nothing : (a : Answered) (v : PortView) → board_answer a.end ≡ None → answer_items a ≡ [] → Says (a ∷ []) v v
says_nothing a v none no_items = record {
  base_is = refl;
  grows = begins_same v.seen;
  places = subst (λ (o : Option (Result Reply CallFault)). (length v.seen ≤ place_named (length v.seen) o)
      × (place_named (length v.seen) o + length (answer_items a) ≤ length v.seen)) (sym none)
      (subst (λ (xs : List Item). (length v.seen ≤ length v.seen) × (length v.seen + length xs ≤ length v.seen))
      (sym no_items) (omega arith, omega arith));
  items = sym (append-nil v.mine) ∙ ap (λ (xs : List Item). v.mine ++ (xs ++ [])) (sym no_items);
  replies = λ log f.
      All-cons (IsTrueOf v.base log) a [] (subst (TellsIf v.base log a.actor a.command) (sym none) tt)
      (All-nil (IsTrueOf v.base log));
}

-- the first, and then the others
pub says_then : (as' bs : List Answered) (u v w : PortView) → Says as' u v → Says bs v w → Says (as' ++ bs) u w
says_then as' bs u v w f g = record {
  base_is = g.base_is ∙ f.base_is;
  grows = begins_then u.seen v.seen w.seen f.grows g.grows;
  places = lie_both (length u.seen) (length v.seen) (length w.seen) as' bs f.places g.places;
  items = g.items ∙ ap (λ (xs : List Item). xs ++ flat_map answer_items bs) f.items
      ∙ append_assoc u.mine (flat_map answer_items as') (flat_map answer_items bs)
      ∙ ap (λ (xs : List Item). u.mine ++ xs) (sym (flat_map-append answer_items as' bs));
  replies = λ log h.
      All-append (IsTrueOf u.base log) as' bs (f.replies log (begins_then v.seen w.seen log g.grows h))
      (subst (λ (r : Rows). All (IsTrueOf r log) bs) f.base_is (g.replies log h));
}

-- an answer to a call that reached the board
module _ (by line : ℕ) (v : PortView) (c : Command) (e : CallEnd) (w : PortView) where
  abbrev its : Answered
  its = record { actor = by; line = line; command = Some c; end = e }

  says_called : (end : Result Reply CallFault) → board_answer e ≡ Some end → IsCalled by v c end w → Says (its ∷ []) v w
  says_called end is h = record {
    base_is = ap (λ (x : PortView). x.base) h.is;
    grows = (h.others ++ added end by c, seen ∙ append_assoc v.seen h.others (added end by c));
    places = subst (λ (o : Option (Result Reply CallFault)). (length v.seen ≤ place_named (length v.seen) o)
        × (place_named (length v.seen) o + length (items_if by (Some c) o) ≤ length w.seen)) (sym is) (
          one.low,
          subst (λ (xs : List Item). place_named (length v.seen) (Some end) + length (added end by c)
              ≤ length xs) (sym seen) one.high,
        );
    items = ap (λ (x : PortView). x.mine) h.is
        ∙ ap (λ (xs : List Item). v.mine ++ xs) (sym (append-nil (added end by c)))
        ∙ ap (λ (o : Option (Result Reply CallFault)). v.mine ++ (items_if by (Some c) o ++ [])) (sym is);
    replies = λ log f.
        All-cons (IsTrueOf v.base log) its []
        (subst (TellsIf v.base log by (Some c)) (sym is) (one.tells log
        (subst (λ (xs : List Item). LogBegins xs log) seen f)))
        (All-nil (IsTrueOf v.base log));
  }
    where
      before : List Item
      before = v.seen ++ h.others

      seen : w.seen ≡ (v.seen ++ h.others) ++ added end by c
      seen = ap (λ (x : PortView). x.seen) h.is

      one : SaysOne by c end v.base v.seen (v.seen ++ h.others)
      one = says_end v.base by c v.seen (v.seen ++ h.others) (omega (arith, length-append v.seen h.others))
          (verdict_of (replay_log v.base (v.seen ++ h.others)) c) end refl h.ends

-- so is an answer to a call that was made, whatever became of it
pub says_delivered : (by line : ℕ) (v : PortView) (c : Command) (e : CallEnd) (w : PortView) → IsDelivered by v c e w
    → Says (record { actor = by; line = line; command = Some c; end = e } ∷ []) v w
says_delivered by line v c (Got r) w h = says_called by line v c (Got r) w (Ok r) refl h
says_delivered by line v c (Fault why) w h = says_called by line v c (Fault why) w (Err why) refl h
says_delivered by line v c CallLost w h =
    subst (Says (record { actor = by; line = line; command = Some c; end = CallLost } ∷ []) v) (sym h)
    (says_nothing (record { actor = by; line = line; command = Some c; end = CallLost }) v refl refl)
says_delivered by line v c (ReplyLost answer) w h = says_called by line v c (ReplyLost answer) w answer refl h
says_delivered by line v c (Local why) w h = absurd h
says_delivered by line v c Idle w h = absurd h
