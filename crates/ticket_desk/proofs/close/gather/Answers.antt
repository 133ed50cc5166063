-- Each pass that is popped is joined in front of the others.
use Rattle.std.proofs.Common.{◌≡◌, [], length, ap, refl, sym, ◌∙◌, arith}
use Rattle.std.proofs.lemmas.List.{append-nil}
use Rattle.ticket_desk.specs.Steps.{joined_with}
use Rattle.ticket_desk.proofs.Joins.{joins_pass}
use Rattle.ticket_desk.proofs.Closes.{all_but_last, gathers, all_gathered}
use Rattle.ticket_desk.proofs.close.gather.Goals as goal

pub loop-pass-init : goal.loop-pass-init
loop-pass-init g c = record {
  board = refl;
  left = c.requires.rest;
  gathered =
      ([], sym (append-nil c.args.rest.items), refl);
}

pub join_seat-requires : goal.join_seat-requires
join_seat-requires g c =
    let pass = c.in-Some.pass in let is = c.into_place.ensures in let asked = c.requires.board in
    let of = all_but_last c.args.top.now.table_id c.loop-pass.rest.items c.pop.new.self.items pass
    c.in-Some.ensures.items c.loop-pass.invariant.left in (
      c.loop-pass.invariant.board ∙ asked.0,
      ap (λ s. s.table_id) is ∙ of.1,
      ap (λ s. s.me.1) is ∙ pass.idle.no_slot,
      omega arith,
      joins_pass g.V.History.items g.V.History.origin g.V.History.by _ _ _ pass.number _ _
          (ap (λ s. s.me.0.number) is ∙ pass.numbered) (ap (λ s. s.me.0.ticket) is ∙ pass.idle.no_ticket),
    )

pub loop-pass-preserved : goal.loop-pass-preserved
loop-pass-preserved g c =
    let pass = c.in-Some.pass in let kept = c.loop-pass.invariant in let first = c.loop-pass.first.me in
    record {
      board = c.join_seat.ensures.0 ∙ kept.board;
      left = (all_but_last c.args.top.now.table_id c.loop-pass.rest.items c.pop.new.self.items pass
          c.in-Some.ensures.items kept.left).0;
      gathered = gathers c.args.rest.items c.loop-pass.rest.items c.pop.new.self.items pass c.args.first.now.me first
          c.join_seat.new.seat.me c.in-Some.ensures.items
          (c.join_seat.ensures.2 ∙ ap (λ s. (joined_with first.0 s.me.0, first.1)) c.into_place.ensures) kept.gathered;
    }

pub returns : goal.returns
returns g c = let kept = c.loop-pass.invariant in let rest = c.loop-pass.rest in
    let none_left : length rest.items ≡ 0 = sym rest.ok.0 ∙ c.in_default.ensures.cases.0 in
    record {
      board = kept.board;
      joined = all_gathered c.args.rest.items rest.items c.args.first.now.me c.loop-pass.first.me none_left
          kept.gathered;
    }
