-- A note may be split off, heard and caught up with.
use Rattle.std.proofs.Common.{ap, ◌∙◌, arith}
use Rattle.ticket_desk.proofs.Notes.{splits_note, joins_note, meets}
use Rattle.ticket_desk.proofs.Looks.{catches}
use Rattle.ticket_desk.proofs.desk.Desk.meet.Goals as goal

pub split_seat-note-requires : goal.split_seat-note-requires
split_seat-note-requires g c = let sized = c.args.self.now.sized in (
  c.requires.teller,
  omega arith,
  splits_note g.V.History.items g.V.History.origin g.V.History.by _ _ _,
)

pub join_seat-requires : goal.join_seat-requires
join_seat-requires g c = let sized = c.args.self.now.sized in let split = c.split_seat-note.ensures in (
  c.requires.hearer,
  split.3 ∙ c.requires.teller,
  ap (λ m. m.1) split.4,
  omega arith,
  joins_note g.V.History.items g.V.History.origin g.V.History.by _ _ _ _ c.split_seat-note.result.me.0
      (ap (λ m. m.0.number) split.4),
)

pub load-requires : goal.load-requires
load-requires g c = let sized = c.args.self.now.sized in (
  c.join_seat.ensures.0 ∙ c.requires.hearer,
  omega arith,
  catches g.V.History.items g.V.History.origin g.V.History.by _ _ _ _,
)

pub returns-clause-met : goal.returns-clause-met
returns-clause-met g c = let split = c.split_seat-note.ensures in let joined = c.join_seat.ensures in let caught =
    c.load.ensures.2 in
    meets c.args.hearer.now.place.me.0 c.split_seat-note.result.me.0 c.join_seat.new.seat.me.0 c.load.new.seat.me.0
    c.args.teller.now.place.me.0.seen caught.0
    c.args.hearer.now.idle.none_heard (ap (λ m. m.0.seen) split.4) (ap (λ m. m.0) joined.2)
    (ap (λ m. m.0) caught.1) caught.2 caught.3
