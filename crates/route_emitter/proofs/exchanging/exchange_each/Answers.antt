use Rattle.std.proofs.Common.{take, cond, List, sym, ap, subst, ◌∙◌, arith}
use Rattle.row_tables.specs.Table.{IsRising}
use Rattle.route_emitter.specs.Entries.{itself, route_order}
use Rattle.route_emitter.specs.Near.{exchange_each, toggle}
use Rattle.route_emitter.specs.declared.entry.RouteEntry.{RouteEntry}
use Rattle.route_emitter.proofs.Switching.{IsRising-exchanged, exchanged-more}
use Rattle.route_emitter.proofs.exchanging.exchange_each.Goals as goal

pub exchange-requires : goal.exchange-requires
exchange-requires c =
    let at = c.loop-at.at in
    subst (λ (xs : List RouteEntry). IsRising route_order itself xs) (sym c.loop-at.invariant.so_far)
    (IsRising-exchanged (take at c.args.old.now) (take at c.args.new.now) c.args.entries.now.items c.requires)

pub loop-at-preserved : goal.loop-at-preserved
loop-at-preserved c =
    let at = c.loop-at.at in
    let was = c.loop-at.entries.items in
    let gone = c.index-old-at.result in
    let come = c.index-new-at.result in
    record {
      so_far =
          c.exchange.ensures.items ∙ ap (λ b. cond b (toggle come (toggle gone was)) was) c.if-not-exchange.false
          ∙ ap (λ (xs : List RouteEntry). toggle come (toggle gone xs)) c.loop-at.invariant.so_far
          ∙ sym (exchanged-more c.args.old.now c.args.new.now c.args.entries.now.items at gone come (omega arith)
          (omega arith) c.index-old-at.is c.index-new-at.is);
      len = c.exchange.ensures.len ∙ c.loop-at.invariant.len;
      capacity = c.exchange.ensures.capacity ∙ c.loop-at.invariant.capacity;
    }
