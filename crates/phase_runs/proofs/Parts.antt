-- What an actor did in a phase, as more is done behind it.
use Rattle.std.proofs.Common.{◌≡◌, inl, ◌==◌, ℕ, List, [], ◌∷◌, ◌++◌, Option, refl, sym, ap, subst, ◌∙◌, append_assoc}
use Rattle.std.proofs.lemmas.List.{append-nil}
use Rattle.std.proofs.lemmas.List.Elements.{filter-append}
use Rattle.disk_trait.specs.Past.{Past}
use Rattle.bbs_board.specs.View.{View}
use Rattle.bbs_model.specs.Calls.{by_of, by_number}
use Rattle.bbs_model.specs.PortView.{PortView}
use Rattle.bbs_model.specs.declared.item.Item.{Item}
use Rattle.bbs_model.specs.declared.rows.Rows.{Rows}
use Rattle.crash_backoff.specs.declared.moment.Moment.{Moment}
use Rattle.scenario_lines.specs.declared.answered.Answered.{Answered}
use Rattle.scenario_lines.specs.declared.script.Line.{Line}
use Rattle.phase_actors.specs.Turns.{is_any_unfed, IsCutAt, IsCutShort, actor_standing, Takes, TakesTurns, turns_in, Turn}
use Rattle.phase_actors.specs.declared.actor_state.ActorState.{ActorState}
use Rattle.board_port.specs.Went.{seen_of, Went}
use Rattle.phase_runs.specs.Actors.{PartCut, PartRan, SeesPhase}
use Rattle.phase_runs.specs.Boards.{BoardGoesOn}

pub by_both : (by : ℕ) (xs ys : List Item) → by_number by (xs ++ ys) ≡ by_number by xs ++ by_number by ys
by_both by xs ys = filter-append (λ (i : Item). by_of i == by) xs ys

module _ (base : Rows) (before fresh more : List Item) (by : ℕ) (none : by_number by more ≡ []) where
  -- others do more
  pub sees_on : (v w : PortView) → SeesPhase base before fresh by v w → SeesPhase base before (fresh ++ more) by v w
  sees_on v w sees = record {
    base_is = sees.base_is;
    from = sees.from;
    upto = (
      sees.upto.0 ++ more,
      sym (append_assoc before fresh more) ∙ ap (λ (xs : List Item). xs ++ more) sees.upto.1 ∙ append_assoc w.seen
          sees.upto.0 more,
    );
    own = sees.own ∙ ap (λ (xs : List Item). v.mine ++ xs)
        (sym (append-nil (by_number by fresh)) ∙ ap (λ (xs : List Item). by_number by fresh ++ xs) (sym none) ∙ sym
        (by_both by fresh more));
  }

  pub ran_on : (now : Moment) (lines : List Line) (a a' : ActorState) (answers : List Answered)
      → PartRan base now lines before fresh by a a' answers
      → PartRan base now lines before (fresh ++ more) by a a' answers
  ran_on now lines a a' answers ran = record {
    first = ran.first;
    last = ran.last;
    sees = sees_on ran.first ran.last ran.sees;
    taken = ran.taken;
    fed = ran.fed;
  }

-- an actor that did all its lines did them up to their end
pub ran_whole : (base : Rows) (now : Moment) (lines : List Line) (before fresh : List Item) (by : ℕ) (a a' : ActorState)
    (answers : List Answered)
    → PartRan base now lines before fresh by a a' answers → PartCut base now lines before fresh by a a'
ran_whole base now lines before fresh by a a' answers ran = record {
  first = ran.first;
  last = ran.last;
  sees = ran.sees;
  cut = record {
    done = turns_in by lines;
    rest = [];
    split = sym (append-nil (turns_in by lines));
    new = answers;
    mid = a';
    middle = ran.last;
    taken = ran.taken;
    cut = (refl, refl);
  };
}

-- an actor that had no turn did nothing yet
pub not_begun : (base : Rows) (now : Moment) (lines : List Line) (before fresh : List Item) (by : ℕ) (a : ActorState)
    → by_number by fresh ≡ []
    → PartCut base now lines before fresh by a a
not_begun base now lines before fresh by a none = record {
  first = view;
  last = view;
  sees = record {
    base_is = refl;
    from = ([], sym (append-nil before));
    upto = (fresh, refl);
    own = ap (λ (xs : List Item). xs) (sym none);
  };
  cut = record {
    done = [];
    rest = turns_in by lines;
    split = refl;
    new = [];
    mid = a;
    middle = view;
    taken = (refl, (refl, refl));
    cut = begun_nothing (turns_in by lines);
  };
}
  where
    view : PortView
    view = record { base = base; seen = before; mine = [] }

    begun_nothing : (ts : List Turn) → IsCutAt by now ts a view a view
    begun_nothing [] = (refl, refl)
    begun_nothing (t ∷ ts) = inl (refl, refl)

-- a caller alone sees the board as it was and as it is
pub own_sees : {D : Type 0} (told : D → Option Past) (by name name' : ℕ) (m w : View D)
    (went : Went told by by name name' m w)
    → SeesPhase m.base m.log went.more by (seen_of by m) (seen_of by w)
own_sees told by name name' m w went = record {
  base_is = refl;
  from = ([], sym (append-nil m.log));
  upto = ([], sym went.goes.grows ∙ sym (append-nil w.log));
  own = ap (by_number by) went.goes.grows ∙ by_both by m.log went.more;
}

-- what is seen behind others is seen of the phase
pub sees_behind : {D : Type 0} (told : D → Option Past) (by : ℕ) (v m : View D) (fresh more : List Item)
    → BoardGoesOn told fresh v m
    → by_number by fresh ≡ [] → (first last : PortView) → SeesPhase m.base m.log more by first last
    → SeesPhase v.base v.log (fresh ++ more) by first last
sees_behind told by v m fresh more goes none first last sees = record {
  base_is = sees.base_is ∙ goes.base;
  from = (
    fresh ++ sees.from.0,
    sees.from.1 ∙ ap (λ (xs : List Item). xs ++ sees.from.0) goes.grows ∙ append_assoc v.log
        fresh sees.from.0,
  );
  upto = (
    sees.upto.0,
    sym (append_assoc v.log fresh more) ∙ ap (λ (xs : List Item). xs ++ more)
        (sym goes.grows) ∙ sees.upto.1,
  );
  own = sees.own
      ∙ ap (λ (xs : List Item). first.mine ++ xs) (sym (by_both by fresh more ∙ ap
      (λ (xs : List Item). xs ++ by_number by more) none));
}

module _ {D : Type 0} (told : D → Option Past) (by name name' : ℕ) (v m w : View D) (fresh : List Item)
    (goes : BoardGoesOn told fresh v m) (none : by_number by fresh ≡ []) (went : Went told by by name name' m w) where
  -- an actor whose turn it is sees the phase as it is by then
  sole_sees : SeesPhase v.base v.log (fresh ++ went.more) by (seen_of by m) (seen_of by w)
  sole_sees =
      sees_behind told by v m fresh went.more goes none (seen_of by m) (seen_of by w)
      (own_sees told by name name' m w went)

  pub part_ran : (now : Moment) (lines : List Line) (a a' : ActorState) (out : List Answered)
      → Takes by now (turns_in by lines) (actor_standing a (seen_of by m) []) (actor_standing a' (seen_of by w) out)
      → PartRan v.base now lines v.log (fresh ++ went.more) by a a' out
  part_ran now lines a a' out takes = record {
    first = seen_of by m;
    last = seen_of by w;
    sees = sole_sees;
    taken = subst (λ (l : List Answered). TakesTurns by now (turns_in by lines) a (seen_of by m) l a' (seen_of by w))
        (sym takes.out_is) takes.taken;
    fed = ap is_any_unfed takes.out_is ∙ takes.fed;
  }

  pub part_cut : (now : Moment) (lines : List Line) (a a' : ActorState)
      → IsCutShort by now (turns_in by lines) a (seen_of by m) a' (seen_of by w)
      → PartCut v.base now lines v.log (fresh ++ went.more) by a a'
  part_cut now lines a a' cut = record {
    first = seen_of by m;
    last = seen_of by w;
    sees = sole_sees;
    cut = cut;
  }
