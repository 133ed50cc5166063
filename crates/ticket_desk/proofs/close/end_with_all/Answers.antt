-- All passes are joined into the first, and the value is taken out of its slot.
use Rattle.std.proofs.Common.{map, ◌++◌, ap, refl, sym, subst, ◌∙◌}
use Rattle.ticket_desk.specs.Passes.{AreAll, IsClosed}
use Rattle.ticket_desk.specs.Ends.{told_of, HasAll, IsLeft}
use Rattle.ticket_desk.proofs.Closes.{first_and_rest, has_all, others_of, closes}
use Rattle.ticket_desk.proofs.close.end_with_all.Goals as goal

pub gather-requires-clause-board : goal.gather-requires-clause-board
gather-requires-clause-board g c =
    let p = c.remove.result in let rest = c.remove.new.self.items in let z = c.args.board.shared.table_id in let sized =
    c.requires.sized in
    let split = first_and_rest c.args.passes.items rest p c.requires.all.0 c.remove.ensures.value c.remove.ensures.items
    in
    let all = subst (λ xs. AreAll z xs) split c.requires.all in
    (ap (λ s. s.table_id) c.into_place-first.ensures ∙ (all.1 0 p refl).desk, sized.0, sized.1)

pub gather-requires-clause-rest : goal.gather-requires-clause-rest
gather-requires-clause-rest g c =
    let p = c.remove.result in let rest = c.remove.new.self.items in let z = c.args.board.shared.table_id in
    let split = first_and_rest c.args.passes.items rest p c.requires.all.0 c.remove.ensures.value c.remove.ensures.items
    in
    others_of z p rest (subst (λ xs. AreAll z xs) split c.requires.all)

pub end-requires-clause-board : goal.end-requires-clause-board
end-requires-clause-board g c =
    let p = c.remove.result in let rest = c.remove.new.self.items in let z = c.args.board.shared.table_id in let sized =
    c.requires.sized in
    let split = first_and_rest c.args.passes.items rest p c.requires.all.0 c.remove.ensures.value c.remove.ensures.items
    in
    let all = subst (λ xs. AreAll z xs) split c.requires.all in
    (c.gather.ensures.board ∙ ap (λ s. s.table_id) c.into_place-first.ensures ∙ (all.1 0 p refl).desk, sized.0, sized.1)

pub end-requires-clause-all : goal.end-requires-clause-all
end-requires-clause-all g c =
    let p = c.remove.result in let rest = c.remove.new.self.items in let z = c.args.board.shared.table_id in
    let split = first_and_rest c.args.passes.items rest p c.requires.all.0 c.remove.ensures.value c.remove.ensures.items
    in
    let all = subst (λ xs. AreAll z xs) split c.requires.all in
    let joined = ap (λ m. m.0) c.gather.ensures.joined ∙ ap
    (λ s. record s.me.0 { joined = map told_of rest ++ s.me.0.joined }) c.into_place-first.ensures in
    subst (λ v. HasAll v) (sym joined) (has_all z p rest all)

pub returns : goal.returns
returns g c =
    let p = c.remove.result in let rest = c.remove.new.self.items in let z = c.args.board.shared.table_id in
    let split = first_and_rest c.args.passes.items rest p c.requires.all.0 c.remove.ensures.value c.remove.ensures.items
    in
    let all = subst (λ xs. AreAll z xs) split c.requires.all in
    let items = g.V.History.items in let origin = g.V.History.origin in let by = g.V.History.by in
    let start = c.args.board.shared.key.value in
    let joined = ap (λ m. m.0) c.gather.ensures.joined ∙ ap
    (λ s. record s.me.0 { joined = map told_of rest ++ s.me.0.joined }) c.into_place-first.ensures in
    subst (λ xs. IsClosed items origin by start c.end.result xs) (sym split)
    (closes z p rest all items origin by start c.end.result
    (subst (λ v. IsLeft items origin by start v c.end.result) joined c.end.ensures))
