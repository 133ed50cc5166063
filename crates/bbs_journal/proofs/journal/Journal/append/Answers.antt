use Rattle.std.proofs.Common.{◌≡◌, ◌+◌, true, false, is_ok, length, rules, arith}
use Rattle.bbs_journal.specs.declared.waiting.Waiting.TheVariants.{Nothing}
use Rattle.bbs_journal.proofs.Keeping.{waiting_inside, room, room_on, kept_done, kept_refused, kept_in_doubt, broken_inside}
use Rattle.bbs_journal.proofs.Turning.{refused, opened}
use Rattle.bbs_journal.proofs.Written.{frame_written}
use Rattle.bbs_journal.proofs.journal.Journal.append.Goals as goal

pub write_synced-requires : goal.write_synced-requires
write_synced-requires g c =
    let whole : c.self.inside.broken ≡ false = broken_inside _ _ _ c.self.view_is c.requires.whole in
    room _ _ _ _ _ _ _ _ _ whole c.self.invariant.1

pub write_synced-requires-2 : goal.write_synced-requires-2
write_synced-requires-2 g c =
    let whole : c.self.inside.broken ≡ false = broken_inside _ _ _ c.self.view_is c.requires.whole in
    room_on _ _ _ _ _ c.in_ok-write_synced.ensures.does (room _ _ _ _ _ _ _ _ _ whole c.self.invariant.1)

pub invariant_of-self : goal.invariant_of-self
invariant_of-self g c =
    let whole : c.self.inside.broken ≡ false = broken_inside _ _ _ c.self.view_is c.requires.whole in
    let mended : c.self.inside.waiting ≡ Nothing = waiting_inside _ _ _ c.self.view_is c.requires.mended in (
      omega (arith, c.self.invariant.0),
      rw mended (
          kept_refused _ _ _ c.args.payload.now _ _ _ _ _ _ whole
          (refused _ _ _ _ _ _ c.put_body-len.ensures.bytes c.requires.payload c.in_err-write_synced.ensures.does)
          (rw mended at c.self.invariant.1)
          ),
      c.self.invariant.2,
    )

pub returns-in_err-write_synced-clause-does : goal.returns-in_err-write_synced-clause-does
returns-in_err-write_synced-clause-does g c =
    let failed : is_ok c.from_residual.result ≡ false = search rules in
    let mended : c.self.inside.waiting ≡ Nothing = waiting_inside _ _ _ c.self.view_is c.requires.mended in
    rw (← c.self.view_is, failed, mended) (refused _ _ _ _ _ _ c.put_body-len.ensures.bytes c.requires.payload
    c.in_err-write_synced.ensures.does)

pub invariant_of-self-in_err-write_synced-2 : goal.invariant_of-self-in_err-write_synced-2
invariant_of-self-in_err-write_synced-2 g c =
    let whole : c.self.inside.broken ≡ false = broken_inside _ _ _ c.self.view_is c.requires.whole in
    let mended : c.self.inside.waiting ≡ Nothing = waiting_inside _ _ _ c.self.view_is c.requires.mended in (
      omega (arith, c.self.invariant.0),
      kept_in_doubt _ _ _ c.args.payload.now _ _ _ _ _ _ whole
          (opened _ _ _ _ false _ _ _ c.put_body-len.ensures.bytes c.requires.payload c.in_ok-write_synced.ensures.does
          c.in_err-write_synced-2.ensures.does)
          (rw mended at c.self.invariant.1),
      c.self.invariant.2,
    )

pub returns-in_err-write_synced-2-clause-does : goal.returns-in_err-write_synced-2-clause-does
returns-in_err-write_synced-2-clause-does g c =
    let failed : is_ok c.from_residual-in_err-write_synced-2.result ≡ false = search rules in
    rw (← c.self.view_is, failed) (opened _ _ _ _ false _ _ _ c.put_body-len.ensures.bytes c.requires.payload
    c.in_ok-write_synced.ensures.does c.in_err-write_synced-2.ensures.does)

pub invariant_of-self-2 : goal.invariant_of-self-2
invariant_of-self-2 g c =
    let whole : c.self.inside.broken ≡ false = broken_inside _ _ _ c.self.view_is c.requires.whole in
    let mended : c.self.inside.waiting ≡ Nothing = waiting_inside _ _ _ c.self.view_is c.requires.mended in
    let end : c.self.inside.end + c.put_body-len.result ≡ c.self.inside.end + 3 + length c.args.payload.now =
    omega (arith, c.put_body-len.ensures.len) in (
      omega (arith, c.self.invariant.0, c.put_body-len.ensures.len, c.requires.payload.1),
      rw end (
          kept_done _ _ _ c.args.payload.now _ _ _ _ _ _ whole
          (opened _ _ _ _ true _ _ _ c.put_body-len.ensures.bytes c.requires.payload
          c.in_ok-write_synced.ensures.does c.in_ok-write_synced-2.ensures.does)
          (rw mended at c.self.invariant.1)
          ),
      c.self.invariant.2,
    )

pub returns-clause-does : goal.returns-clause-does
returns-clause-does g c =
    rw (← c.self.view_is) (opened _ _ _ _ true _ _ _ c.put_body-len.ensures.bytes c.requires.payload
    c.in_ok-write_synced.ensures.does c.in_ok-write_synced-2.ensures.does)

pub returns-clause-bytes : goal.returns-clause-bytes
returns-clause-bytes g c =
    let whole : c.self.inside.broken ≡ false = broken_inside _ _ _ c.self.view_is c.requires.whole in
    rw (← c.self.view_is) (λ ok. frame_written _ _ _ _ _ _ _ c.put_body-len.ensures.bytes
    (room _ _ _ _ _ _ _ _ _ whole c.self.invariant.1) c.in_ok-write_synced.ensures.does
    c.in_ok-write_synced-2.ensures.does)
