-- Views of a port one after another, and what nobody else did.
use Rattle.std.proofs.Common.{◌≡◌, ◌<◌, ◌+◌, ◌^◌, ℕ, List, [], ◌∷◌, ◌++◌, length, refl, sym, ap, subst, ◌∙◌, append_assoc, arith, length-append, Result}
use Rattle.std.proofs.lemmas.List.{append-nil}
use Rattle.bbs_model.specs.Calls.{Ends, added}
use Rattle.bbs_model.specs.PortView.{PortView, rows_seen, after_others, after_own, Looks, IsCalled, IsLater, IsQuiet}
use Rattle.bbs_model.specs.Step.{verdict_of}
use Rattle.bbs_model.specs.declared.command.Command.{Command}
use Rattle.bbs_model.specs.declared.item.Item.{Item}
use Rattle.bbs_model.specs.declared.reply.CallFault.{CallFault}
use Rattle.bbs_model.specs.declared.reply.Reply.{Reply}

-- a list of no length is empty
none_left : {X : Type 0} (xs : List X) → length xs ≡ 0 → xs ≡ []
none_left [] e = refl
none_left (x ∷ xs) e = absurd (omega (arith, e))

pub later_same : (v : PortView) → IsLater v v
later_same v = record {
  base = refl;
  seen = ([], sym (append-nil v.seen));
  mine = ([], sym (append-nil v.mine));
  counts = omega arith;
}

later_others : (v : PortView) (others : List Item) → IsLater v (after_others v others)
later_others v others = record {
  base = refl;
  seen = (others, refl);
  mine = ([], sym (append-nil v.mine));
  counts = omega (arith, length-append v.seen others);
}

later_own : (v : PortView) (items : List Item) → IsLater v (after_own v items)
later_own v items = record {
  base = refl;
  seen = (items, refl);
  mine = (items, refl);
  counts = omega (arith, length-append v.seen items, length-append v.mine items);
}

pub later_then : (u v w : PortView) → IsLater u v → IsLater v w → IsLater u w
later_then u v w f g = record {
  base = g.base ∙ f.base;
  seen = (f.seen.0 ++ g.seen.0, g.seen.1 ∙ ap (λ xs. xs ++ g.seen.0) f.seen.1 ∙ append_assoc u.seen f.seen.0 g.seen.0);
  mine = (f.mine.0 ++ g.mine.0, g.mine.1 ∙ ap (λ xs. xs ++ g.mine.0) f.mine.1 ∙ append_assoc u.mine f.mine.0 g.mine.0);
  counts = omega (arith, f.counts, g.counts);
}

pub later_looks : (v w : PortView) → Looks v w → IsLater v w
later_looks v w h = subst (IsLater v) (sym h.is) (later_others v h.others)

pub later_called : (by : ℕ) (v : PortView) (c : Command) (end : Result Reply CallFault) (w : PortView)
    → IsCalled by v c end w → IsLater v w
later_called by v c end w h =
    let middle = after_others v h.others in
    subst (IsLater v) (sym h.is)
    (later_then v middle (after_own middle (added end by c)) (later_others v h.others)
    (later_own middle (added end by c)))

pub quiet_same : (v : PortView) → IsQuiet v v
quiet_same v = omega arith

pub quiet_then : (u v w : PortView) → IsQuiet u v → IsQuiet v w → IsQuiet u w
quiet_then u v w f g = omega (arith, f, g)

-- where nobody else did anything over the whole, nobody did in the first part, nor in the second
pub quiet_first : (u v w : PortView) → IsLater u v → IsLater v w → IsQuiet u w → IsQuiet u v
quiet_first u v w f g q = omega (arith, f.counts, g.counts, q)

pub quiet_second : (u v w : PortView) → IsLater u v → IsLater v w → IsQuiet u w → IsQuiet v w
quiet_second u v w f g q = omega (arith, f.counts, g.counts, q)

-- then a look and a call come behind nothing of others
pub quiet_looks : (v w : PortView) (h : Looks v w) → IsQuiet v w → h.others ≡ []
quiet_looks v w h q =
    let seen : length w.seen ≡ length v.seen + length h.others =
    ap (λ (x : PortView). length x.seen) h.is ∙ length-append v.seen h.others in
    let mine : length w.mine ≡ length v.mine = ap (λ (x : PortView). length x.mine) h.is in
    none_left h.others (omega (arith, seen, mine, q))

pub quiet_called : (by : ℕ) (v : PortView) (c : Command) (end : Result Reply CallFault) (w : PortView)
    (h : IsCalled by v c end w)
    → IsQuiet v w → h.others ≡ []
quiet_called by v c end w h q =
    let items = added end by c in
    let seen : length w.seen ≡ length (v.seen ++ h.others) + length items =
    ap (λ (x : PortView). length x.seen) h.is ∙ length-append (v.seen ++ h.others) items in
    let mine : length w.mine ≡ length v.mine + length items =
    ap (λ (x : PortView). length x.mine) h.is ∙ length-append v.mine items in
    none_left h.others (omega (arith, seen, mine, length-append v.seen h.others, q))

-- a look, and a call, behind which nobody else did anything
pub looks_alone : (v : PortView) → length v.seen < 2 ^ 64 → Looks v v
looks_alone v few = record {
  others = [];
  is = ap (λ (xs : List Item). record v { seen = xs })
      (sym (append-nil v.seen));
  few = few;
}

pub called_alone : (by : ℕ) (v : PortView) (c : Command) (end : Result Reply CallFault) (w : PortView)
    → Ends (verdict_of (rows_seen v) c) (length v.seen) (rows_seen v).next end → w ≡ after_own v (added end by c)
    → length w.seen < 2 ^ 64
    → IsCalled by v c end w
called_alone by v c end w ends is few =
    let same : v ≡ after_others v [] = ap (λ (xs : List Item). record v { seen = xs }) (sym (append-nil v.seen)) in
    record {
      others = [];
      ends = subst (λ (x : PortView). Ends (verdict_of (rows_seen x) c) (length x.seen) (rows_seen x).next end) same
          ends;
      is = is ∙ ap (λ (x : PortView). after_own x (added end by c)) same;
      few = few;
    }
