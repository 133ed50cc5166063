-- A board in memory, and what its one caller did to it.
use Rattle.std.specs.Prelude.{◌≡◌, ℕ, List, [], ◌++◌, Option, Result, refl}
use Rattle.std.proofs.Common.{sym, ◌∙◌, ap, append_assoc}
use Rattle.std.proofs.lemmas.List.{append-nil}
use Rattle.bbs_model.specs.PortView.{PortView, IsCalled}
use Rattle.bbs_model.specs.Replay.{replay_log}
use Rattle.bbs_model.specs.Told.{told_in}
use Rattle.bbs_model.specs.Valid.{IsValid}
use Rattle.bbs_model.specs.declared.command.Command.{Command}
use Rattle.bbs_model.specs.declared.event.Events.{Events}
use Rattle.bbs_model.specs.declared.item.Item.{Item}
use Rattle.bbs_model.specs.declared.reply.CallFault.{CallFault}
use Rattle.bbs_model.specs.declared.reply.Reply.{Reply}
use Rattle.bbs_model.specs.declared.rows.Rows.{Rows}

-- its caller's number, the rows that it began at, and what was done since
pub record PlainBoard : Type 0 where
  pub number : ℕ
  pub base : Rows
  pub log : List Item

-- the rows are those that the log leaves, and it is kept what each item told
pub record IsPlain (base rows : Rows) (log : List Item) (told : List (Option Events)) : Type 0 where
  pub replayed : rows ≡ replay_log base log
  pub valid : IsValid rows
  pub told_is : told ≡ told_in base log

-- what its caller has seen is all that there is, and its own
abbrev pub plain_seen_of : PlainBoard → PortView
plain_seen_of p = record { base = p.base; seen = p.log; mine = p.log }

-- it is the same caller's, and more was done
pub record GoesOnFrom (p q : PlainBoard) : Type 0 where
  pub number : q.number ≡ p.number
  pub base : q.base ≡ p.base
  pub more : List Item
  pub log : q.log ≡ p.log ++ more

pub goes_same : (p : PlainBoard) → GoesOnFrom p p
goes_same p = record { number = refl; base = refl; more = []; log = sym (append-nil p.log) }

pub goes_then : (p q r : PlainBoard) → GoesOnFrom p q → GoesOnFrom q r → GoesOnFrom p r
goes_then p q r f g = record {
  number = g.number ∙ f.number;
  base = g.base ∙ f.base;
  more = f.more ++ g.more;
  log = g.log ∙ ap (λ xs. xs ++ g.more) f.log ∙ append_assoc p.log f.more g.more;
}

-- two calls one after another, with a view between them
pub record AreCalled (by : ℕ) (v : PortView) (c d : Command) (first second : Result Reply CallFault)
    (w : PortView) : Type 0 where
  pub between : PortView
  pub first_is : IsCalled by v c first between
  pub second_is : IsCalled by between d second w
