-- Calls one after another: what was to be done, cut in two.
use Rattle.std.proofs.Common.{◌≡◌, ℕ, ◌+◌, ◌<◌, ◌≤◌, Bool, true, false, ◌||◌, ◌&&◌, List, [], ◌∷◌, ◌++◌, length, take, get_or, Option, Some, None, refl, sym, ap, subst, ◌∙◌, append_assoc, arith}
use Rattle.std.specs.List.{filter_map, cons_option}
use Rattle.std.specs.Option.{option_to_list, is_none}
use Rattle.std.proofs.lemmas.List.{append-nil, take_more}
use Rattle.std.proofs.lemmas.List.Elements.{filter_map-append}
use Rattle.cell_records.specs.declared.container.Container.{Container}
use Rattle.cell_rep.specs.declared.call_end.CallEnd.{CallEnd}
use Rattle.cell_rep.specs.declared.todo.Todo.TheVariants.{Call, Idle, Local}
use Rattle.byte_ports.specs.Cause.{HasCause, Rose}
use Rattle.bbs_model.specs.PortView.{PortView}
use Rattle.cell_rep.specs.Deliveries.{is_call_lost}
use Rattle.crash_backoff.specs.declared.moment.Moment.{Moment}
use Rattle.cell_rep.specs.Acts.{begun, plan, or_idle}
use Rattle.cell_rep.specs.declared.cell_act.CellAct.{CellAct}
use Rattle.cell_rep.specs.Follows.{Follows, Performs, Acts, IsMade, Stage, stage, answer_to, moved_by, moved_all, after_todo, is_any_lost}
use Rattle.cell_rep.specs.Wires.{WireEnds}
use Rattle.cell_rep.specs.declared.call_end.Called.{Called}
use Rattle.cell_rep.specs.declared.rep.CellRep.{CellRep}
use Rattle.cell_rep.specs.declared.todo.Todo.{Todo}

moved_all-append : (ts us : List Todo) (ends : Option WireEnds)
    → moved_all (ts ++ us) ends ≡ moved_all us (moved_all ts ends)
moved_all-append [] us ends = refl
moved_all-append (t ∷ ts) us ends = moved_all-append ts us (moved_by t ends)

Follows-append : (by : ℕ) (actor : List ℕ) (ends : Option WireEnds) (ts us : List Todo) (rep : CellRep) (v : PortView)
    (as' bs : List Called) (rep1 : CellRep) (m : PortView) (rep2 : CellRep) (w : PortView)
    → Follows by actor ends ts rep v as' rep1 m → Follows by actor (moved_all ts ends) us rep1 m bs rep2 w
    → Follows by actor ends (ts ++ us) rep v (as' ++ bs) rep2 w
Follows-append by actor ends [] us rep v [] bs rep1 m rep2 w f g =
    let G : CellRep → Type 0 = λ r. Follows by actor ends us r v bs rep2 w in
    subst G f.0 (let H : PortView → Type 0 = λ x. Follows by actor ends us rep1 x bs rep2 w in subst H f.1 g)
Follows-append by actor ends [] us rep v (a ∷ as') bs rep1 m rep2 w f g = absurd f
Follows-append by actor ends (t ∷ ts) us rep v [] bs rep1 m rep2 w f g = absurd f
Follows-append by actor ends (t ∷ ts) us rep v (a ∷ as') bs rep1 m rep2 w f g = (
  f.0,
  f.1,
  f.2,
  Follows-append by actor (moved_by t ends) ts us
      (after_todo t a.end rep) f.0 as' bs rep1 m rep2 w f.3 g,
)

any_lost-append : (as' bs : List Called) → is_any_lost (as' ++ bs) ≡ (is_any_lost as' || is_any_lost bs)
any_lost-append [] bs = refl
any_lost-append (a ∷ as') bs =
    let rest = any_lost-append as' bs in
    elim (is_call_lost a.end) as (λ b. (b || is_any_lost (as' ++ bs)) ≡ ((b || is_any_lost as') || is_any_lost bs))
    [ true ↦ refl | false ↦ rest ]

-- causes one after another
pub HasCause-then : (a b : Bool) (k m n : ℕ) → HasCause a k m → HasCause b m n → HasCause (a || b) k n
HasCause-then true b k m n f g = record {
  later = omega (arith, f.later, g.later);
  stood = λ e. cc;
  rose = λ e. let r : Rose k m = f.rose refl in let l : m ≤ n = g.later in omega (arith, r, l);
}
HasCause-then false b k m n f g =
    let same : m ≡ k = f.stood refl in
    record {
      later = omega (arith, g.later);
      stood = λ e. g.stood e ∙ same;
      rose = λ e. let r : Rose m n = g.rose e in omega (arith, r);
    }

-- what is done in two parts is done
pub Performs-append : (by : ℕ) (actor : List ℕ) (ts us : List Todo) (s m w : Stage) → Performs by actor ts s m
    → Performs by actor us m w → Performs by actor (ts ++ us) s w
Performs-append by actor ts us s m w f g = record {
  new = f.new ++ g.new;
  out_is = g.out_is ∙ ap (λ xs. xs ++ g.new) f.out_is ∙ append_assoc s.out f.new g.new;
  follows = Follows-append by actor s.ends ts us s.rep s.view f.new g.new m.rep m.view w.rep w.view f.follows
      (subst (λ e. Follows by actor e us m.rep m.view g.new w.rep w.view) f.ends_are g.follows);
  ends_are = g.ends_are ∙ ap (moved_all us) f.ends_are ∙ sym (moved_all-append ts us s.ends);
  cause = subst (λ b. HasCause b s.losses w.losses) (sym (any_lost-append f.new g.new))
      (HasCause-then (is_any_lost f.new) (is_any_lost g.new) s.losses m.losses w.losses f.cause g.cause);
}

-- what is done after an act began is the act
pub Acts-begun : (by : ℕ) (a : CellAct) (now : Moment) (s w : Stage) (rep : CellRep) (ts : List Todo)
    (out : List Called)
    → ts ≡ plan a now s.rep → rep ≡ begun a s.rep → out ≡ s.out → rep.cell ≡ s.rep.cell
    → Performs by rep.cell ts (stage rep s.view s.ends s.losses out) w → Acts by a now s w
Acts-begun by a now s w rep ts out e_plan e_rep e_out e_cell h =
    let h1 : Performs by s.rep.cell ts (stage rep s.view s.ends s.losses out) w =
    subst (λ cell. Performs by cell ts (stage rep s.view s.ends s.losses out) w) e_cell h in
    let h2 : Performs by s.rep.cell ts (stage (begun a s.rep) s.view s.ends s.losses out) w =
    subst (λ r. Performs by s.rep.cell ts (stage r s.view s.ends s.losses out) w) e_rep h1 in
    let h3 : Performs by s.rep.cell ts (stage (begun a s.rep) s.view s.ends s.losses s.out) w =
    subst (λ o. Performs by s.rep.cell ts (stage (begun a s.rep) s.view s.ends s.losses o) w) e_out h2 in
    subst (λ us. Performs by s.rep.cell us (stage (begun a s.rep) s.view s.ends s.losses s.out) w) e_plan h3

or_false : (b : Bool) → (b || false) ≡ b
or_false true = refl
or_false false = refl

follows_one : (by : ℕ) (ends : Option WireEnds) (t : Todo) (rep rep' : CellRep) (v w : PortView) (e : CallEnd)
    → IsMade by ends t rep rep' v w e → Follows by rep.cell ends (t ∷ []) rep v (answer_to t e ∷ []) rep' w
follows_one by ends (Call c) rep rep' v w e h = (w, h.answer, h.ended, (h.rep_is, refl))
follows_one by ends Idle rep rep' v w e h = (w, h.answer, h.ended, (h.rep_is, refl))
follows_one by ends (Local why) rep rep' v w e h = (w, h.answer, h.ended, (h.rep_is, refl))

end_in : (t : Todo) (e : CallEnd) → (answer_to t e).end ≡ e
end_in (Call c) e = refl
end_in Idle e = refl
end_in (Local why) e = refl

-- one thing that was made, as the only one
pub Performs-one : (by : ℕ) (ends ends' : Option WireEnds) (lost lost' : ℕ) (t : Todo) (rep rep' : CellRep)
    (v w : PortView) (e : CallEnd) (a : Called)
    → IsMade by ends t rep rep' v w e → ends' ≡ moved_by t ends → HasCause (is_call_lost e) lost lost'
    → a ≡ answer_to t e
    → Performs by rep.cell (t ∷ []) (stage rep v ends lost []) (stage rep' w ends' lost' (a ∷ []))
Performs-one by ends ends' lost lost' t rep rep' v w e a made later cause is =
    let lost_is : is_call_lost e ≡ is_any_lost (answer_to t e ∷ []) =
    sym (or_false (is_call_lost (answer_to t e).end) ∙ ap is_call_lost (end_in t e)) in
    record {
      new = answer_to t e ∷ [];
      out_is = ap (λ x. x ∷ []) is;
      follows = follows_one by ends t rep rep' v w e made;
      ends_are = later;
      cause = subst (λ b. HasCause b lost lost') lost_is cause;
    }

-- nothing was done
pub Performs-none : (by : ℕ) (actor : List ℕ) (s : Stage) → Performs by actor [] s s
Performs-none by actor s = record {
  new = [];
  out_is = sym (append-nil s.out);
  follows = (refl, refl);
  ends_are = refl;
  cause = record { later = omega arith; stood = λ e. refl; rose = λ e. cc };
}

option_list : (o : Option Todo) → cons_option o [] ≡ option_to_list o
option_list None = refl
option_list (Some t) = refl

filter_map-more : (h : Container → Option Todo) (cs : List Container) (k : ℕ) (x : Container) → k < length cs
    → x ≡ get_or cs k x → filter_map h (take (k + 1) cs) ≡ filter_map h (take k cs) ++ option_to_list (h x)
filter_map-more h cs k x within read =
    ap (filter_map h) (take_more cs k x within ∙ ap (λ y. take k cs ++ y ∷ []) (sym read))
    ∙ filter_map-append h (take k cs) (x ∷ []) ∙ ap (λ ts. filter_map h (take k cs) ++ ts) (option_list (h x))

-- what is done for one more of some containers
pub Performs-more : (by by' : ℕ) (actor cell : List ℕ) (f : List ℕ → Container → Option Todo) (cs : List Container)
    (k : ℕ) (x : Container) (s m w : Stage)
    → by' ≡ by → cell ≡ actor → k < length cs → x ≡ get_or cs k x
    → Performs by actor (filter_map (f actor) (take k cs)) s m → Performs by' cell (option_to_list (f cell x)) m w
    → Performs by actor (filter_map (f actor) (take (k + 1) cs)) s w
Performs-more by by' actor cell f cs k x s m w e_by e_cell within read g h =
    let h1 : Performs by cell (option_to_list (f cell x)) m w =
    subst (λ n. Performs n cell (option_to_list (f cell x)) m w) e_by h in
    let h2 : Performs by actor (option_to_list (f actor x)) m w =
    subst (λ a. Performs by a (option_to_list (f a x)) m w) e_cell h1 in
    subst (λ ts. Performs by actor ts s w) (sym (filter_map-more (f actor) cs k x within read))
    (Performs-append by actor (filter_map (f actor) (take k cs)) (option_to_list (f actor x)) s m w g h2)

-- whether nothing is to be done
abbrev pub is_nil : List Todo → Bool
is_nil [] = true
is_nil (t ∷ ts) = false

pub is_nil-more : (ts : List Todo) (o : Option Todo) → is_nil (ts ++ option_to_list o) ≡ (is_nil ts && is_none o)
is_nil-more [] None = refl
is_nil-more [] (Some t) = refl
is_nil-more (t ∷ ts) o = refl

-- the idle call comes where nothing was done
pub Performs-idle : (by by' : ℕ) (actor cell : List ℕ) (ts : List Todo) (s m w : Stage) → by' ≡ by → cell ≡ actor
    → is_nil ts ≡ true → Performs by actor ts s m → Performs by' cell (Idle ∷ []) m w
    → Performs by actor (or_idle ts) s w
Performs-idle by by' actor cell [] s m w e_by e_cell nil g h =
    let h1 : Performs by actor (Idle ∷ []) m w = subst (λ a. Performs by a (Idle ∷ []) m w) e_cell
    (subst (λ n. Performs n cell (Idle ∷ []) m w) e_by h) in
    Performs-append by actor [] (Idle ∷ []) s m w g h1
Performs-idle by by' actor cell (t ∷ ts) s m w e_by e_cell nil g h = cc

pub Performs-busy : (by : ℕ) (actor : List ℕ) (ts : List Todo) (s w : Stage) → is_nil ts ≡ false
    → Performs by actor ts s w → Performs by actor (or_idle ts) s w
Performs-busy by actor [] s w nil g = cc
Performs-busy by actor (t ∷ ts) s w nil g = g

pub Performs-same : (by : ℕ) (actor : List ℕ) (ts us : List Todo) (s w : Stage) → us ≡ ts → Performs by actor ts s w
    → Performs by actor us s w
Performs-same by actor ts us s w e h = subst (λ x. Performs by actor x s w) (sym e) h

pub idle-more : (actor cell : List ℕ) (f : List ℕ → Container → Option Todo) (cs : List Container) (k : ℕ)
    (x : Container) (idle now_idle : Bool)
    → cell ≡ actor → k < length cs → x ≡ get_or cs k x → idle ≡ is_nil (filter_map (f actor) (take k cs))
    → now_idle ≡ (idle && is_none (f cell x))
    → now_idle ≡ is_nil (filter_map (f actor) (take (k + 1) cs))
idle-more actor cell f cs k x idle now_idle e_cell within read was is =
    is ∙ ap (λ b. b && is_none (f cell x)) was ∙ ap (λ a. is_nil (filter_map (f actor) (take k cs)) && is_none (f a x))
    e_cell
    ∙ sym (is_nil-more (filter_map (f actor) (take k cs)) (f actor x)) ∙ ap is_nil
    (sym (filter_map-more (f actor) cs k x within read))
