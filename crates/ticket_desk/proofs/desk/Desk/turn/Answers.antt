-- The steps of a turn fit together.
use Rattle.std.proofs.Common.{Some, ◌∙◌}
use Rattle.ticket_desk.proofs.Turning.{taken, in_slot, is_done, turned, ran_once}
use Rattle.ticket_desk.proofs.desk.Desk.turn.Goals as goal

pub exchange-requires : goal.exchange-requires
exchange-requires g c =
    let k = taken g.V.History.items g.V.History.origin c.args.pass.now.place.me c.draw-ticket.new.place.me
    c.await_turn.new.place.me c.draw-ticket.result
    c.args.pass.now.idle c.draw-ticket.ensures.drawn c.await_turn.ensures.turn in (
      c.await_turn.ensures.board ∙ c.draw-ticket.ensures.board ∙ c.requires.desk,
      (Some k.value, in_slot g.V.History.items g.V.History.origin _ _ _ k),
    )

pub hand_on-requires-clause-done : goal.hand_on-requires-clause-done
hand_on-requires-clause-done g c =
    let pass = c.args.pass.now in
    let k = taken g.V.History.items g.V.History.origin pass.place.me c.draw-ticket.new.place.me
    c.await_turn.new.place.me c.draw-ticket.result
    pass.idle c.draw-ticket.ensures.drawn c.await_turn.ensures.turn in
    is_done g.V.History.items g.V.History.origin pass.place.me c.draw-ticket.result c.await_turn.new.place.me
    c.exchange.new.seat.me c.exchange-2.new.seat.me k
    c.in-Some.value c.job-answer.new.arg2 c.exchange.result c.exchange.ensures.2 c.in-Some.is c.exchange.ensures.3
    c.exchange-2.ensures.3
    g.J.FnOnce c.args.job g.V.History.by pass.number c.job-answer.result c.requires.job pass.idle pass.numbered
    (ran_once g.J.FnOnce c.args.job _ _ c.job-answer.result c.job-answer.ensures)

pub returns-clause-turn : goal.returns-clause-turn
returns-clause-turn g c =
    let pass = c.args.pass.now in
    let k = taken g.V.History.items g.V.History.origin pass.place.me c.draw-ticket.new.place.me
    c.await_turn.new.place.me c.draw-ticket.result
    pass.idle c.draw-ticket.ensures.drawn c.await_turn.ensures.turn in
    turned g.V.History.items g.V.History.origin pass.place.me c.draw-ticket.result c.await_turn.new.place.me
    c.exchange.new.seat.me c.exchange-2.new.seat.me k
    c.in-Some.value c.job-answer.new.arg2 c.exchange.result c.exchange.ensures.2 c.in-Some.is c.exchange.ensures.3
    c.exchange-2.ensures.3
    g.J.FnOnce c.args.job g.V.History.by pass.number c.job-answer.result c.requires.job pass.idle pass.numbered
    (ran_once g.J.FnOnce c.args.job _ _ c.job-answer.result c.job-answer.ensures) c.hand_on.new.place.me
    c.hand_on.ensures.home
