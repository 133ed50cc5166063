-- The passes go out with the actors, and come back with them.
use denote.Param.Send.{sendable}
use Rattle.std.proofs.Common.{◌++◌, ◌+◌, length, map, ap, sym, ◌∙◌, arith}
use Rattle.std.specs.List.{list_any}
use Rattle.phase_threads.proofs.Ports.{port_send}
use Rattle.phase_threads.proofs.Outs.{all_back, each_out, each_ready, first_own, have_run, none_begun, rest_own, unused, were_cut}
use Rattle.phase_threads.proofs.Pairs.{as_elem, first_and_rest, first_then}
use Rattle.phase_threads.proofs.actors.run_actors.Goals as goal

pub returns-in-Err-clause-round : goal.returns-in-Err-clause-round
returns-in-Err-clause-round g c p is = c.requires.handed.2 0 p (as_elem c.args.passes.items 0 p is)

pub returns-in-Err-clause-cut : goal.returns-in-Err-clause-cut
returns-in-Err-clause-cut g c =
    none_begun c.args.shared.now.desk.table.shared.key.value.start c.args.shared.now.desk.table.shared.table_id
    (length c.args.actors.now)
    c.args.passes.items c.requires.handed c.args.now c.args.lines.now c.args.actors.now

pub deal-all-requires-clause-passes : goal.deal-all-requires-clause-passes
deal-all-requires-clause-passes g c =
    let first = c.remove.result in let rest = c.remove.new.self.items in
    let split = first_and_rest c.args.passes.items rest first
    (omega (arith, c.requires.handed.0)) c.remove.ensures.value c.remove.ensures.items in
    rest_own c.args.shared.now.desk.table.shared.key.value.start c.args.shared.now.desk.table.shared.table_id
    (length c.args.actors.now)
    c.args.passes.items c.requires.handed rest first split

pub act_at_once-all-requires-send-P : goal.act_at_once-all-requires-send-P
act_at_once-all-requires-send-P g c κs within = search (sendable, port_send) depth 20

pub act_at_once-all-requires-clause-ready : goal.act_at_once-all-requires-clause-ready
act_at_once-all-requires-clause-ready g c κs within k d lt =
    each_ready (λ p. p.port.pass) c.args.shared.now.desk.table.shared.key.value.start
    c.args.shared.now.desk.table.shared.table_id
    (length c.args.actors.now + 1) c.args.now c.args.lines.now c.args.actors.now c.deal-all.result.items
    c.deal-all.ensures c.requires.can k d lt

pub returns-then-starved-clause-back : goal.returns-then-starved-clause-back
returns-then-starved-clause-back g c =
    let board = c.args.shared.now.desk.table.shared.key.value.start in let z =
    c.args.shared.now.desk.table.shared.table_id in
    let olds = c.args.actors.now in let first = c.remove.result in let rest = c.remove.new.self.items in
    let split = first_and_rest c.args.passes.items rest first
    (omega (arith, c.requires.handed.0)) c.remove.ensures.value c.remove.ensures.items in
    let own = first_own board z (length olds) c.args.passes.items c.requires.handed rest first split in
    let after = c.act_at_once-all.result.items in
    let out = each_out (λ p. p.port.pass) board z (length olds + 1) c.args.now c.args.lines.now olds
    c.deal-all.result.items c.deal-all.ensures
    after c.act_at_once-all.ensures.count c.act_at_once-all.ensures.acts in
    let passes_are = first_then c.in-Ok.rooms.1.items c.push_reserved.new.self.items c.gather.new.passes.items
    (map (λ x. x.port.port.pass) after) first
    c.in-Ok.ensures.1.none c.push_reserved.ensures.items c.gather.ensures.passes in
    all_back (λ p. p.port.pass) board z (length olds + 1) c.args.now c.args.lines.now olds after out first
    c.gather.new.actors c.gather.ensures.actors
    c.gather.new.passes.items own.pass passes_are (omega arith)

pub returns-then-starved-clause-round : goal.returns-then-starved-clause-round
returns-then-starved-clause-round g c =
    let board = c.args.shared.now.desk.table.shared.key.value.start in let z =
    c.args.shared.now.desk.table.shared.table_id in
    let olds = c.args.actors.now in let first = c.remove.result in let rest = c.remove.new.self.items in
    let split = first_and_rest c.args.passes.items rest first
    (omega (arith, c.requires.handed.0)) c.remove.ensures.value c.remove.ensures.items in
    let own = first_own board z (length olds) c.args.passes.items c.requires.handed rest first split in
    let after = c.act_at_once-all.result.items in
    let out = each_out (λ p. p.port.pass) board z (length olds + 1) c.args.now c.args.lines.now olds
    c.deal-all.result.items c.deal-all.ensures
    after c.act_at_once-all.ensures.count c.act_at_once-all.ensures.acts in
    let passes_are = first_then c.in-Ok.rooms.1.items c.push_reserved.new.self.items c.gather.new.passes.items
    (map (λ x. x.port.port.pass) after) first
    c.in-Ok.ensures.1.none c.push_reserved.ensures.items c.gather.ensures.passes in
    unused (λ p. p.port.pass) board z (length olds + 1) c.args.now c.args.lines.now olds after out first
    c.gather.new.actors c.gather.ensures.actors
    c.gather.new.passes.items own.pass passes_are own.seen

pub returns-then-starved-clause-cut : goal.returns-then-starved-clause-cut
returns-then-starved-clause-cut g c =
    let board = c.args.shared.now.desk.table.shared.key.value.start in let z =
    c.args.shared.now.desk.table.shared.table_id in
    let olds = c.args.actors.now in let first = c.remove.result in let rest = c.remove.new.self.items in
    let split = first_and_rest c.args.passes.items rest first
    (omega (arith, c.requires.handed.0)) c.remove.ensures.value c.remove.ensures.items in
    let own = first_own board z (length olds) c.args.passes.items c.requires.handed rest first split in
    let after = c.act_at_once-all.result.items in
    let out = each_out (λ p. p.port.pass) board z (length olds + 1) c.args.now c.args.lines.now olds
    c.deal-all.result.items c.deal-all.ensures
    after c.act_at_once-all.ensures.count c.act_at_once-all.ensures.acts in
    let passes_are = first_then c.in-Ok.rooms.1.items c.push_reserved.new.self.items c.gather.new.passes.items
    (map (λ x. x.port.port.pass) after) first
    c.in-Ok.ensures.1.none c.push_reserved.ensures.items c.gather.ensures.passes in
    were_cut (λ p. p.port.pass) board z (length olds + 1) c.args.now c.args.lines.now olds after out first
    c.gather.new.actors c.gather.ensures.actors
    c.gather.new.passes.items own.pass passes_are

pub returns-else-starved-clause-back : goal.returns-else-starved-clause-back
returns-else-starved-clause-back g c =
    let board = c.args.shared.now.desk.table.shared.key.value.start in let z =
    c.args.shared.now.desk.table.shared.table_id in
    let olds = c.args.actors.now in let first = c.remove.result in let rest = c.remove.new.self.items in
    let split = first_and_rest c.args.passes.items rest first
    (omega (arith, c.requires.handed.0)) c.remove.ensures.value c.remove.ensures.items in
    let own = first_own board z (length olds) c.args.passes.items c.requires.handed rest first split in
    let after = c.act_at_once-all.result.items in
    let out = each_out (λ p. p.port.pass) board z (length olds + 1) c.args.now c.args.lines.now olds
    c.deal-all.result.items c.deal-all.ensures
    after c.act_at_once-all.ensures.count c.act_at_once-all.ensures.acts in
    let passes_are = first_then c.in-Ok.rooms.1.items c.push_reserved.new.self.items c.gather.new.passes.items
    (map (λ x. x.port.port.pass) after) first
    c.in-Ok.ensures.1.none c.push_reserved.ensures.items c.gather.ensures.passes in
    all_back (λ p. p.port.pass) board z (length olds + 1) c.args.now c.args.lines.now olds after out first
    c.gather.new.actors c.gather.ensures.actors
    c.gather.new.passes.items own.pass passes_are (omega arith)

pub returns-else-starved-clause-round : goal.returns-else-starved-clause-round
returns-else-starved-clause-round g c =
    let board = c.args.shared.now.desk.table.shared.key.value.start in let z =
    c.args.shared.now.desk.table.shared.table_id in
    let olds = c.args.actors.now in let first = c.remove.result in let rest = c.remove.new.self.items in
    let split = first_and_rest c.args.passes.items rest first
    (omega (arith, c.requires.handed.0)) c.remove.ensures.value c.remove.ensures.items in
    let own = first_own board z (length olds) c.args.passes.items c.requires.handed rest first split in
    let after = c.act_at_once-all.result.items in
    let out = each_out (λ p. p.port.pass) board z (length olds + 1) c.args.now c.args.lines.now olds
    c.deal-all.result.items c.deal-all.ensures
    after c.act_at_once-all.ensures.count c.act_at_once-all.ensures.acts in
    let passes_are = first_then c.in-Ok.rooms.1.items c.push_reserved.new.self.items c.gather.new.passes.items
    (map (λ x. x.port.port.pass) after) first
    c.in-Ok.ensures.1.none c.push_reserved.ensures.items c.gather.ensures.passes in
    unused (λ p. p.port.pass) board z (length olds + 1) c.args.now c.args.lines.now olds after out first
    c.gather.new.actors c.gather.ensures.actors
    c.gather.new.passes.items own.pass passes_are own.seen

pub returns-else-starved-clause-ran : goal.returns-else-starved-clause-ran
returns-else-starved-clause-ran g c =
    let board = c.args.shared.now.desk.table.shared.key.value.start in let z =
    c.args.shared.now.desk.table.shared.table_id in
    let olds = c.args.actors.now in let first = c.remove.result in let rest = c.remove.new.self.items in
    let split = first_and_rest c.args.passes.items rest first
    (omega (arith, c.requires.handed.0)) c.remove.ensures.value c.remove.ensures.items in
    let own = first_own board z (length olds) c.args.passes.items c.requires.handed rest first split in
    let after = c.act_at_once-all.result.items in
    let out = each_out (λ p. p.port.pass) board z (length olds + 1) c.args.now c.args.lines.now olds
    c.deal-all.result.items c.deal-all.ensures
    after c.act_at_once-all.ensures.count c.act_at_once-all.ensures.acts in
    let passes_are = first_then c.in-Ok.rooms.1.items c.push_reserved.new.self.items c.gather.new.passes.items
    (map (λ x. x.port.port.pass) after) first
    c.in-Ok.ensures.1.none c.push_reserved.ensures.items c.gather.ensures.passes in
    have_run (λ p. p.port.pass) board z (length olds + 1) c.args.now c.args.lines.now olds after out first
    c.gather.new.actors c.gather.ensures.actors
    c.gather.new.passes.items own.pass passes_are
    (sym (ap (λ l. list_any (λ x. x.starved) l) c.deref.ensures.value) ∙
    (sym c.is_any_starved-starved.ensures ∙ c.if-starved.false)) c.from.result
    (c.from.ensures ∙ c.gather.ensures.parts ∙ ap (λ l. l ++ map (λ x. x.part.items) after) c.in-Ok.ensures.2.none)
