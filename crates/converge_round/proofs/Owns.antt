-- What a caller did in between.
use Rattle.std.proofs.Common.{◌≡◌, ℕ, ◌<◌, List, [], ◌∷◌, ◌++◌, length, get_or, refl, sym, ap, subst, ◌∙◌, append_assoc, arith, length-append, Result, Ok, Err, ⊎_elim}
use Rattle.std.specs.List.{Contains}
use Rattle.std.proofs.lemmas.List.{append-nil}
use Rattle.std.proofs.lemmas.List.Elements.{Contains-append_left, Contains-append_right, Contains-append_cases, Contains-push_cases, Contains-get_or}
use Rattle.bbs_model.specs.Calls.{added, by_of}
use Rattle.bbs_model.specs.PortView.{PortView, Looks, IsCalled}
use Rattle.bbs_model.specs.Replay.{command_in}
use Rattle.bbs_model.specs.declared.command.Command.{Command}
use Rattle.bbs_model.specs.declared.item.Item.{Item}
use Rattle.bbs_model.specs.declared.item.Item.TheVariants.{Done, Doubt}
use Rattle.bbs_model.specs.declared.reply.CallFault.{CallFault}
use Rattle.bbs_model.specs.declared.reply.CallFault.TheVariants as fault
use Rattle.bbs_model.specs.declared.reply.Reply.{Reply}
use Rattle.bbs_model.specs.declared.reply.Reply.TheVariants as reply
use Rattle.converge_round.specs.Callings.{AreOf}

contains_none : (i : Item) → Contains [] i → ⊥
contains_none i here = omega (arith, here.1)

contains_one : (x i : Item) → Contains (x ∷ []) i → x ≡ i
contains_one x i here = ⊎_elim (λ h. absurd (contains_none i h)) (λ e. e) (Contains-push_cases [] x i here)

pub own_none : (by : ℕ) (A : Command → Type 0) (v : PortView) → AreOf by A v v
own_none by A v = record {
  later = record {
    base = refl;
    seen = ([], sym (append-nil v.seen));
    mine = ([], sym (append-nil v.mine));
    counts = omega arith;
  };
  each = λ i here. absurd (contains_none i here);
}

pub own_as : (by : ℕ) (A : Command → Type 0) (v w : PortView) → w ≡ v → AreOf by A v w
own_as by A v w e = subst (AreOf by A v) (sym e) (own_none by A v)

pub own_looks : (by : ℕ) (A : Command → Type 0) (v w : PortView) → Looks v w → AreOf by A v w
own_looks by A v w h =
    let seen : w.seen ≡ v.seen ++ h.others = ap (λ (x : PortView). x.seen) h.is in
    let mine : w.mine ≡ v.mine ++ [] = ap (λ (x : PortView). x.mine) h.is ∙ sym (append-nil v.mine) in
    record {
      later = record {
        base = ap (λ (x : PortView). x.base) h.is;
        seen = (h.others, seen);
        mine = ([], mine);
        counts = omega (arith, ap length seen, ap length mine, length-append v.seen h.others, length-append v.mine []);
      };
      each = λ i here. absurd (contains_none i here);
    }

own_item : (by : ℕ) (c : Command) (item : Item) (others : List Item) (i : Item) → by_of item ≡ by → command_in item ≡ c
    → Contains (item ∷ []) i → (by_of i ≡ by) × (command_in i ≡ c) × Contains (others ++ item ∷ []) i
own_item by c item others i b k here =
    let same : item ≡ i = contains_one item i here in
    (ap by_of (sym same) ∙ b, ap command_in (sym same) ∙ k, Contains-append_right others (item ∷ []) i here)

own_added : (by : ℕ) (c : Command) (end : Result Reply CallFault) (others : List Item) (i : Item)
    → Contains (added end by c) i → (by_of i ≡ by) × (command_in i ≡ c) × Contains (others ++ added end by c) i
own_added by c (Ok (reply.Ok place stamp)) others i here = own_item by c (Done by c) others i refl refl here
own_added by c (Ok (reply.Same place)) others i here = absurd (contains_none i here)
own_added by c (Ok (reply.Refused why place)) others i here = absurd (contains_none i here)
own_added by c (Err (fault.Disk place)) others i here = own_item by c (Doubt by c) others i refl refl here
own_added by c (Err fault.OutOfMemory) others i here = absurd (contains_none i here)

-- one call
pub own_called : (by : ℕ) (v : PortView) (c : Command) (end : Result Reply CallFault) (w : PortView)
    → IsCalled by v c end w → AreOf by (λ x. x ≡ c) v w
own_called by v c end w h =
    let items = added end by c in
    let seen : w.seen ≡ v.seen ++ (h.others ++ items) = ap
    (λ (x : PortView). x.seen) h.is ∙ append_assoc v.seen h.others items in
    let mine : w.mine ≡ v.mine ++ items = ap (λ (x : PortView). x.mine) h.is in
    record {
      later = record {
        base = ap (λ (x : PortView). x.base) h.is;
        seen = (h.others ++ items, seen);
        mine = (items, mine);
        counts = omega (
          arith,
          ap length seen,
          ap length mine,
          length-append v.seen (h.others ++ items),
          length-append h.others items,
          length-append v.mine items,
        );
      };
      each = λ i here. own_added by c end h.others i here;
    }

pub own_weaker : (by : ℕ) (A B : Command → Type 0) (v w : PortView) → ((c : Command) → A c → B c) → AreOf by A v w
    → AreOf by B v w
own_weaker by A B v w more f = record {
  later = f.later;
  each = λ i here. let e = f.each i here in (e.0, more (command_in i) e.1, e.2);
}

pub own_then : (by : ℕ) (A : Command → Type 0) (u v w : PortView) → AreOf by A u v → AreOf by A v w → AreOf by A u w
own_then by A u v w f g = record {
  later = record {
    base = g.later.base ∙ f.later.base;
    seen = (
      f.later.seen.0 ++ g.later.seen.0,
      g.later.seen.1 ∙ ap
          (λ xs. xs ++ g.later.seen.0) f.later.seen.1 ∙ append_assoc u.seen f.later.seen.0 g.later.seen.0,
    );
    mine = (
      f.later.mine.0 ++ g.later.mine.0,
      g.later.mine.1 ∙ ap
          (λ xs. xs ++ g.later.mine.0) f.later.mine.1 ∙ append_assoc u.mine f.later.mine.0 g.later.mine.0,
    );
    counts = omega (arith, f.later.counts, g.later.counts);
  };
  each = λ i here. ⊎_elim
      (λ h. let e = f.each i h in (e.0, e.1, Contains-append_left f.later.seen.0 g.later.seen.0 i e.2))
      (λ h. let e = g.each i h in (e.0, e.1, Contains-append_right f.later.seen.0 g.later.seen.0 i e.2))
      (Contains-append_cases f.later.mine.0 g.later.mine.0 i here);
}

-- one of a list more, by a caller of that number
pub own_more : (by by' : ℕ) (A B : Command → Type 0) (u v w : PortView) → by' ≡ by → ((c : Command) → B c → A c)
    → AreOf by A u v → AreOf by' B v w → AreOf by A u w
own_more by by' A B u v w same more f g =
    own_then by A u v w f (subst (λ n. AreOf n A v w) same (own_weaker by' B A v w more g))

-- an item of a list by its place
pub contains-as : (list : List Command) (k : ℕ) (x : Command) → k < length list → x ≡ get_or list k x → (c : Command)
    → c ≡ x → Contains list c
contains-as list k x within read c is =
    subst (Contains list) (sym (is ∙ read)) (Contains-get_or list k x within)
