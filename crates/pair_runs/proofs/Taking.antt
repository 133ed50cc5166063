-- Calls one after another, and the first ones of them.
use Rattle.std.proofs.Common.{◌≡◌, ℕ, List, [], ◌∷◌, ◌++◌, map, Option, refl, sym, ap, ◌∙◌, append_assoc}
use Rattle.std.proofs.lemmas.List.{append-nil, map-append}
use Rattle.bbs_model.specs.declared.command.Command.{Command}
use Rattle.pair_lines.specs.declared.answered.PairAnswered.{PairAnswered}
use Rattle.pair_lines.specs.declared.answered.PairEnded.{PairEnded}
use Rattle.scenario_lines.specs.declared.act.Loss.{Loss}
use Rattle.pair_runs.specs.Accounts.{Serves}
use Rattle.pair_runs.specs.Calls.{CallsUnder, answer_by}
use Rattle.pair_runs.specs.Served.{ServerView}
use Rattle.pair_runs.specs.Turns.{PairTurn, RunsSome, RunsTurns, turn_of}
use Rattle.pair_runs.proofs.Serving.{serves_none, serves_then}

-- no call was to be made
pub runs_none : (v : ServerView) (answers : List PairAnswered) → RunsTurns [] v v answers answers
runs_none v answers = record {
  new = [];
  after_is = sym (append-nil answers);
  turns_are = refl;
  served = serves_none v;
}

module _ (ts us : List PairTurn) (v m w : ServerView) (before mid after : List PairAnswered)
    (first : RunsTurns ts v m before mid) where
  -- all calls of both
  pub runs_then : RunsTurns us m w mid after → RunsTurns (ts ++ us) v w before after
  runs_then more = record {
    new = first.new ++ more.new;
    after_is = more.after_is ∙ ap (λ (l : List PairAnswered). l ++ more.new) first.after_is
        ∙ append_assoc before first.new more.new;
    turns_are = map-append turn_of first.new more.new ∙ ap
        (λ (l : List PairTurn). l ++ map turn_of more.new) first.turns_are
        ∙ ap (λ (l : List PairTurn). ts ++ l) more.turns_are;
    served = serves_then v m w first.new more.new first.served more.served;
  }

-- all of the first, and some of the second
pub some_then : (ts us : List PairTurn) (v m w : ServerView) (before mid after : List PairAnswered)
    → RunsTurns ts v m before mid → RunsSome us m w mid after → RunsSome (ts ++ us) v w before after
some_then ts us v m w before mid after first some = record {
  first = ts ++ some.first;
  rest = some.rest;
  split = ap (λ (l : List PairTurn). ts ++ l) some.split ∙ sym (append_assoc ts some.first some.rest);
  runs = runs_then ts some.first v m w before mid after first some.runs;
}

-- some of the first, and none of the second
pub some_before : (ts us : List PairTurn) (v w : ServerView) (before after : List PairAnswered)
    → RunsSome ts v w before after → RunsSome (ts ++ us) v w before after
some_before ts us v w before after some = record {
  first = some.first;
  rest = some.rest ++ us;
  split = ap (λ (l : List PairTurn). l ++ us) some.split ∙ append_assoc some.first some.rest us;
  runs = some.runs;
}

-- a call under a mark
pub runs_one : (by line : ℕ) (c : Command) (mark : Option Loss) (ended : PairEnded) (v w : ServerView)
    (before after : List PairAnswered) → CallsUnder by c mark v ended w
    → after ≡ before ++ answer_by by line c ended ∷ []
    → RunsTurns (record { actor = by; line = line; command = c; mark = mark } ∷ []) v w before after
runs_one by line c mark ended v w before after calls after_is = record {
  new = answer_by by line c ended ∷ [];
  after_is = after_is;
  turns_are = ap (λ (m : Option Loss). record { actor = by; line = line; command = c; mark = m } ∷ []) calls.mark_is;
  served = calls.served line;
}

-- no call of these was made
pub some_none : (ts : List PairTurn) (v w : ServerView) (before after : List PairAnswered) → Serves v w []
    → after ≡ before
    → RunsSome ts v w before after
some_none ts v w before after served is = record {
  first = [];
  rest = ts;
  split = refl;
  runs = record { new = []; after_is = is ∙ sym (append-nil before); turns_are = refl; served = served };
}
