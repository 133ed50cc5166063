-- The passes go out with the actors and the round, and come back with them.
use denote.Param.Send.{sendable}
use Rattle.std.proofs.Common.{◌≡◌, inl, false, Result, Ok, Err, IfOk, OnErr, ◌++◌, ◌+◌, ◌∷◌, length, map, ap, sym, ◌∙◌, subst, arith}
use Rattle.std.specs.List.{list_any}
use Rattle.bbs_shared.specs.Passes.{seen_by}
use Rattle.ticket_desk.specs.Passes.{IsPass}
use Rattle.ticket_desk.proofs.Public.{pass_stays}
use Rattle.phase_threads.specs.Holding.{WasHeld}
use Rattle.phase_threads.specs.Sharing.{HaveRun, WereCut}
use Rattle.phase_threads.proofs.Ports.{port_send}
use Rattle.phase_threads.proofs.Outs.{all_back, each_out, each_ready, first_own, have_run, none_begun, rest_own, were_cut}
use Rattle.phase_threads.proofs.Pairs.{as_elem, first_and_rest, first_then}
use Rattle.phase_threads.proofs.Together.{was_begun, was_held}
use Rattle.phase_threads.proofs.with_round.run_with_round.Goals as goal

on_ok : {T E : Type 0} (r : Result T E) (P Q : T → Type 0) → ((x : T) → P x → Q x) → IfOk r P → IfOk r Q
on_ok (Ok x) P Q f is = f x is
on_ok (Err e) P Q f is = tt

on_err : {T E : Type 0} (r : Result T E) (X : Type 0) → X → OnErr r X
on_err (Ok x) X is = tt
on_err (Err e) X is = is

pub returns-in-Err-clause-cut : goal.returns-in-Err-clause-cut
returns-in-Err-clause-cut g c =
    none_begun c.args.shared.now.desk.table.shared.key.value.start c.args.shared.now.desk.table.shared.table_id
    (length c.args.actors.now)
    c.args.passes.items c.requires.handed c.args.now c.args.lines.now c.args.actors.now

pub returns-in-Err-clause-begun : goal.returns-in-Err-clause-begun
returns-in-Err-clause-begun g c p is = inl (c.requires.handed.2 0 p (as_elem c.args.passes.items 0 p is))

pub way_by-way-requires : goal.way_by-way-requires
way_by-way-requires g c =
    let first = c.remove.result in let rest = c.remove.new.self.items in
    let split = first_and_rest c.args.passes.items rest first
    (omega (arith, c.requires.handed.0)) c.remove.ensures.value c.remove.ensures.items in
    (first_own c.args.shared.now.desk.table.shared.key.value.start c.args.shared.now.desk.table.shared.table_id
    (length c.args.actors.now)
    c.args.passes.items c.requires.handed rest first split).pass.desk

pub deal-all-requires-clause-passes : goal.deal-all-requires-clause-passes
deal-all-requires-clause-passes g c =
    let first = c.remove.result in let rest = c.remove.new.self.items in
    let split = first_and_rest c.args.passes.items rest first
    (omega (arith, c.requires.handed.0)) c.remove.ensures.value c.remove.ensures.items in
    rest_own c.args.shared.now.desk.table.shared.key.value.start c.args.shared.now.desk.table.shared.table_id
    (length c.args.actors.now)
    c.args.passes.items c.requires.handed rest first split

pub act_beside_round-held-requires-send-P : goal.act_beside_round-held-requires-send-P
act_beside_round-held-requires-send-P g c κs within = search (sendable, port_send) depth 20

pub act_beside_round-held-requires-clause-number : goal.act_beside_round-held-requires-clause-number
act_beside_round-held-requires-clause-number g c κs within =
    let first = c.remove.result in let rest = c.remove.new.self.items in
    let split = first_and_rest c.args.passes.items rest first
    (omega (arith, c.requires.handed.0)) c.remove.ensures.value c.remove.ensures.items in
    ap (λ p. p.number) c.way_by-way.ensures
    ∙ (first_own c.args.shared.now.desk.table.shared.key.value.start c.args.shared.now.desk.table.shared.table_id
    (length c.args.actors.now)
    c.args.passes.items c.requires.handed rest first split).pass.number

pub act_beside_round-held-requires-clause-ready : goal.act_beside_round-held-requires-clause-ready
act_beside_round-held-requires-clause-ready g c κs within k d lt =
    each_ready (λ p. p.port.pass) c.args.shared.now.desk.table.shared.key.value.start
    c.args.shared.now.desk.table.shared.table_id
    (length c.args.actors.now + 1) c.args.now c.args.lines.now c.args.actors.now c.deal-all.result.items
    c.deal-all.ensures c.requires.can k d lt

pub returns : goal.returns
returns g c =
    let board = c.args.shared.now.desk.table.shared.key.value.start in let z =
    c.args.shared.now.desk.table.shared.table_id in
    let olds = c.args.actors.now in let many = length olds + 1 in let first = c.remove.result in let rest =
    c.remove.new.self.items in
    let split = first_and_rest c.args.passes.items rest first
    (omega (arith, c.requires.handed.0)) c.remove.ensures.value c.remove.ensures.items in
    let own = first_own board z (length olds) c.args.passes.items c.requires.handed rest first split in
    let way = c.way_by-way.result in let done = c.act_beside_round-held in
    let x = done.result.0 in let after = done.result.1.items in
    let out = each_out (λ p. p.port.pass) board z many c.args.now c.args.lines.now olds c.deal-all.result.items
    c.deal-all.ensures
    after done.ensures.count done.ensures.acts in
    let passes = c.gather.new.passes.items in let others = map (λ y. y.port.port.pass) after in
    let passes_are = first_then c.in-Ok.rooms.1.items c.push_reserved.new.self.items passes others c.into_pass.result
    c.in-Ok.ensures.1.none c.push_reserved.ensures.items c.gather.ensures.passes ∙ ap
    (λ p. p ∷ others) c.into_pass.ensures in
    let seen = ap seen_by c.way_by-way.ensures ∙ own.seen in
    let is_pass = pass_stays z many 0 way.port.pass x.port.port.pass done.ensures.held.keeps.pass
    (subst (IsPass z many 0) (sym c.way_by-way.ensures) own.pass) in
    let fed = sym (ap (λ l. list_any (λ y. y.starved) l) c.deref.ensures.value) ∙ sym c.is_any_starved-starved.ensures
    in
    let parts_are = c.from.ensures ∙ c.gather.ensures.parts ∙ ap
    (λ l. l ++ map (λ y. y.part.items) after) c.in-Ok.ensures.2.none in
    let news = c.gather.new.actors in
    record {
      back = all_back (λ p. p.port.pass) board z many c.args.now c.args.lines.now olds after out x.port.port.pass news
          c.gather.ensures.actors
          passes is_pass passes_are (omega arith);
      ran = on_ok c.ended.result (λ ran. (c.is_any_starved-starved.result ≡ false) × (ran.parts ≡ c.from.result)
          × (x.end ≡ Ok ran.report))
          (λ ran. HaveRun board c.args.now c.args.lines.now olds news ran.parts passes)
          (λ ran e. subst (λ parts. HaveRun board c.args.now c.args.lines.now olds news parts passes) (sym e.1)
          (have_run (λ p. p.port.pass) board z many c.args.now c.args.lines.now olds after out x.port.port.pass news
          c.gather.ensures.actors
          passes is_pass passes_are (fed ∙ e.0) c.from.result parts_are))
          c.ended.ensures;
      held = on_ok c.ended.result (λ ran. (c.is_any_starved-starved.result ≡ false) × (ran.parts ≡ c.from.result)
          × (x.end ≡ Ok ran.report))
          (λ ran. WasHeld board c.args.now c.args.line.now c.args.cells.items x.cells.items ran.report passes)
          (λ ran e. was_held (λ p. p.port.pass) board c.args.now c.args.line.now way c.args.cells.items x seen
          done.ensures.held passes others passes_are
          ran.report e.2)
          c.ended.ensures;
      cut = on_err c.ended.result (WereCut board c.args.now c.args.lines.now olds passes)
          (were_cut (λ p. p.port.pass) board z many c.args.now c.args.lines.now olds after out x.port.port.pass news
          c.gather.ensures.actors
          passes is_pass passes_are);
      begun = was_begun (λ p. p.port.pass) board c.args.now c.args.line.now way c.args.cells.items x seen
          done.ensures.held passes others passes_are;
    }
