-- The two parts of an evacuation.
use Rattle.std.proofs.Common.{◌≡◌, ℕ, true, false, List, [], ◌∷◌, ◌++◌, Option, refl, sym, subst}
use Rattle.std.specs.Prelude.{MatchBool}
use Rattle.bbs_model.specs.PortView.{PortView}
use Rattle.cell_rep.specs.Acts.{drain_todo}
use Rattle.cell_rep.specs.Follows.{Stage, stage, Performs, Acts}
use Rattle.cell_rep.specs.Wires.{WireEnds}
use Rattle.cell_rep.specs.declared.call_end.Called.{Called}
use Rattle.cell_rep.specs.declared.cell_act.CellAct.TheVariants as act
use Rattle.cell_rep.specs.declared.rep.CellRep.{CellRep}
use Rattle.crash_backoff.specs.declared.moment.Moment.{Moment}
use Rattle.evacuation.specs.Evacuation.{is_agreed, HasDrained, Evacuates}

-- the answer of a drain, behind those that were there
pub has_drained : (by : ℕ) (now : Moment) (rep rep' : CellRep) (v w : PortView) (e e' : Option WireEnds) (l l' : ℕ)
    (out out' : List Called) (a : Called)
    → Performs by rep.cell (drain_todo now rep.cell rep.joined ∷ []) (stage rep v e l []) (stage rep' w e' l' (a ∷ []))
    → out' ≡ out ++ a ∷ [] → HasDrained by now (stage rep v e l out) (stage rep' w e' l' out') a
has_drained by now rep rep' v w e e' l l' out out' a h is = record {
  out_is = is;
  performs = record {
    new = h.new;
    out_is = subst (λ xs. out' ≡ out ++ xs) h.out_is is;
    follows = h.follows;
    ends_are = h.ends_are;
    cause = h.cause;
  };
}

-- without the board's agreement nothing follows
pub evacuates_refused : (by : ℕ) (now : Moment) (s m : Stage) (a : Called) → HasDrained by now s m a
    → is_agreed a.end ≡ false → Evacuates by now s m
evacuates_refused by now s m a h refused = record {
  middle = m;
  answer = a;
  drained = h;
  settled = subst (λ b. MatchBool b (Acts by act.Settle now m m) (m ≡ m)) (sym refused) refl;
}

-- and with it the settle
pub evacuates_settled : (by by' : ℕ) (now : Moment) (s m w : Stage) (a : Called) → HasDrained by now s m a
    → is_agreed a.end ≡ true → by' ≡ by → Acts by' act.Settle now m w → Evacuates by now s w
evacuates_settled by by' now s m w a h agreed same acts = record {
  middle = m;
  answer = a;
  drained = h;
  settled = subst (λ b. MatchBool b (Acts by act.Settle now m w) (w ≡ m)) (sym agreed)
      (subst (λ n. Acts n act.Settle now m w) same acts);
}
