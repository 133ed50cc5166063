-- Each pass that is given is pushed behind the others.
use Rattle.std.proofs.Common.{◌≡◌, ℕ, suc, ◌+◌, ap, refl, sym, subst, ◌∙◌, arith}
use Rattle.ticket_desk.specs.Steps.{next_given}
use Rattle.ticket_desk.specs.Ends.{AreGiven}
use Rattle.ticket_desk.proofs.Deals.{none_given, one_given}
use Rattle.ticket_desk.proofs.start.deal.Goals as goal

pub loop-number-init : goal.loop-number-init
loop-number-init g c = let me = c.args.first.now.me in record {
  board = refl;
  first = λ k. (record me.0 { given = c.requires.first.1 k }, me.1);
  dealt = none_given c.args.top.now.table_id me.0 c.args.passes.now.items c.requires.room.0;
  room = refl;
}

pub give-pass-requires-clause-board : goal.give-pass-requires-clause-board
give-pass-requires-clause-board g c = let asked = c.requires.board in
    (c.loop-number.invariant.board ∙ asked.0, asked.1, asked.2)

pub give-pass-requires-clause-number : goal.give-pass-requires-clause-number
give-pass-requires-clause-number g c = let same = c.loop-number.invariant.first in let room = c.requires.room in (
  ap (λ m. m.0.number) same ∙ c.requires.first.0,
  ap (λ m. m.0.given) same,
  omega arith,
)

pub loop-number-preserved : goal.loop-number-preserved
loop-number-preserved g c =
    let me = c.args.first.now.me in let number : ℕ = c.loop-number.number in let kept = c.loop-number.invariant in
    let next : suc number ≡ number + 1 = omega arith in let gave = c.give-pass.ensures in
    record {
      board = gave.first.0 ∙ kept.board;
      first = gave.first.1 ∙ ap (λ m. (next_given m.0, m.1)) kept.first ∙ (λ k. (record me.0 { given = next k }, me.1));
      dealt = subst (λ xs. AreGiven c.args.top.now.table_id me.0 (number + 1) xs) (sym c.push_reserved.ensures.items)
          (one_given c.args.top.now.table_id me.0 number c.loop-number.passes.items c.give-pass.result
          c.loop-number.first.me.0 kept.dealt
          (ap (λ m. m.0) kept.first) (gave.given.0 ∙ kept.board ∙ c.requires.board.0) gave.given.1 gave.given.2);
      room = c.push_reserved.ensures.capacity ∙ kept.room;
    }

pub returns : goal.returns
returns g c = let me = c.args.first.now.me in let kept = c.loop-number.invariant in let room = c.requires.room in
    let all : c.loop-number.number ≡ c.args.seats = let auto = c.loop-number.auto in omega arith in
    record {
      first = (kept.board, kept.first ∙ (λ k. (record me.0 { given = all k }, me.1)));
      dealt = subst (λ (k : ℕ). AreGiven c.args.top.now.table_id me.0 k c.loop-number.passes.items) all kept.dealt;
      room = kept.room;
    }
