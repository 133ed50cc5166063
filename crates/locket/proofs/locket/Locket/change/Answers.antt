use Rattle.std.proofs.Common.{◌≡◌, ◌∙◌, Bool, true, false, is_ok, sym, ap, subst, rules, if◌then◌else◌}
use Rattle.disk_trait.specs.Steps.{Goes}
use Rattle.payload_log.specs.View.{LogView}
use Rattle.locket.specs.Calls.{PassesLock}
use Rattle.locket.specs.Lives.{state_after, state_of, lived}
use Rattle.locket.specs.Opening.{commands_in}
use Rattle.locket.specs.Steps.{lock_step}
use Rattle.locket.specs.View.{LocketView, IsSoundLocket, life_of}
use Rattle.locket.specs.declared.command.LockCommand.{LockCommand}
use Rattle.locket.specs.declared.state.LockState.{LockState}
use Rattle.locket.specs.declared.verdict.LockVerdict.TheVariants.{Changes}
use Rattle.locket.proofs.Changing.{few_payloads, sound_more, sound_still, passes_lock}
use Rattle.locket.proofs.Stepping.{is_changed, after_is}
use Rattle.locket.proofs.locket.Locket.change.Goals as goal

pub add-requires-clause-few : goal.add-requires-clause-few
add-requires-clause-few g c =
    let l = c.self.inside.log in
    let s = c.self.inside.state in
    let stays = c.reserve.ensures.stays in
    let still : IsSoundLocket c.reserve.new.self s =
    sound_still l s c.self.invariant c.reserve.new.self (ap (λ (v : LogView g.row.D.Denot LockCommand). v.start) stays)
    (ap (λ (v : LogView g.row.D.Denot LockCommand). v.log) stays) in
    few_payloads c.reserve.new.self s still

pub invariant_of-self-then-is_err-2 : goal.invariant_of-self-then-is_err-2
invariant_of-self-then-is_err-2 g c =
    let l = c.self.inside.log in
    let s = c.self.inside.state in
    let command = c.args.command.now in
    let stays = c.reserve.ensures.stays in
    let still : IsSoundLocket c.reserve.new.self s =
    sound_still l s c.self.invariant c.reserve.new.self (ap (λ (v : LogView g.row.D.Denot LockCommand). v.start) stays)
    (ap (λ (v : LogView g.row.D.Denot LockCommand). v.log) stays) in
    let before : lock_step (state_of (lived (commands_in l.start.payloads) l.log)) command
    ≡ Changes c.args.next c.args.answer =
    subst (λ (v : LocketView g.row.D.Denot). lock_step (state_of (life_of v)) command
    ≡ Changes c.args.next c.args.answer) (sym c.self.view_is) c.requires in
    let step : lock_step s command ≡ Changes c.args.next c.args.answer =
    subst (λ (t : LockState). lock_step t command ≡ Changes c.args.next c.args.answer)
    (sym c.self.invariant.state_is) before in
    let failed : is_ok c.add.result ≡ false = search rules in
    let grows = c.add.ensures.grows in
    sound_more c.reserve.new.self s still c.add.new.self (is_ok c.add.result) command s grows.start grows.log
    c.fits.ensures (is_changed s command c.args.next c.args.answer step)
    (ap (λ (b : Bool). if b then state_after s command else s) (sym failed))

pub invariant_of-self-2 : goal.invariant_of-self-2
invariant_of-self-2 g c =
    let l = c.self.inside.log in
    let s = c.self.inside.state in
    let command = c.args.command.now in
    let stays = c.reserve.ensures.stays in
    let still : IsSoundLocket c.reserve.new.self s =
    sound_still l s c.self.invariant c.reserve.new.self (ap (λ (v : LogView g.row.D.Denot LockCommand). v.start) stays)
    (ap (λ (v : LogView g.row.D.Denot LockCommand). v.log) stays) in
    let before : lock_step (state_of (lived (commands_in l.start.payloads) l.log)) command
    ≡ Changes c.args.next c.args.answer =
    subst (λ (v : LocketView g.row.D.Denot). lock_step (state_of (life_of v)) command
    ≡ Changes c.args.next c.args.answer) (sym c.self.view_is) c.requires in
    let step : lock_step s command ≡ Changes c.args.next c.args.answer =
    subst (λ (t : LockState). lock_step t command ≡ Changes c.args.next c.args.answer)
    (sym c.self.invariant.state_is) before in
    let made : is_ok c.add.result ≡ true = search rules in
    let grows = c.add.ensures.grows in
    sound_more c.reserve.new.self s still c.add.new.self (is_ok c.add.result) command c.args.next grows.start grows.log
    c.fits.ensures (is_changed s command c.args.next c.args.answer step)
    (sym (after_is s command c.args.next c.args.answer step) ∙ ap (λ (b : Bool). if b then state_after s command else s)
    (sym made))

pub returns-then-is_err-2-clause-does : goal.returns-then-is_err-2-clause-does
returns-then-is_err-2-clause-does g c =
    let l = c.self.inside.log in
    let s = c.self.inside.state in
    let command = c.args.command.now in
    let told = g.D.Disk.told in
    let stays = c.reserve.ensures.stays in
    let new = c.add.new.self in
    let still : IsSoundLocket c.reserve.new.self s =
    sound_still l s c.self.invariant c.reserve.new.self (ap (λ (v : LogView g.row.D.Denot LockCommand). v.start) stays)
    (ap (λ (v : LogView g.row.D.Denot LockCommand). v.log) stays) in
    let before : lock_step (state_of (lived (commands_in l.start.payloads) l.log)) command
    ≡ Changes c.args.next c.args.answer =
    subst (λ (v : LocketView g.row.D.Denot). lock_step (state_of (life_of v)) command
    ≡ Changes c.args.next c.args.answer) (sym c.self.view_is) c.requires in
    let step : lock_step s command ≡ Changes c.args.next c.args.answer =
    subst (λ (t : LockState). lock_step t command ≡ Changes c.args.next c.args.answer)
    (sym c.self.invariant.state_is) before in
    let failed : is_ok c.add.result ≡ false = search rules in
    let does = passes_lock c.reserve.new.self s still command c.fits.ensures
    (is_changed s command c.args.next c.args.answer step) (told c.reserve.new.self.disk)
    (told new.disk) c.reserve.new.self.waits (is_ok c.add.result) new.waits c.add.ensures.does in
    subst (λ (v : LocketView g.row.D.Denot). Goes (told v.disk) (told new.disk)
    (PassesLock v.waits false new.waits (life_of v) command)) c.self.view_is
    (subst (λ (v : LogView g.row.D.Denot LockCommand). Goes (told v.disk) (told new.disk)
    (PassesLock v.waits false new.waits (lived (commands_in v.start.payloads) v.log) command)) stays
    (subst (λ (b : Bool). Goes (told c.reserve.new.self.disk) (told new.disk)
    (PassesLock c.reserve.new.self.waits b new.waits (lived
    (commands_in c.reserve.new.self.start.payloads) c.reserve.new.self.log) command)) failed does))

pub returns-clause-does : goal.returns-clause-does
returns-clause-does g c =
    let l = c.self.inside.log in
    let s = c.self.inside.state in
    let command = c.args.command.now in
    let told = g.D.Disk.told in
    let stays = c.reserve.ensures.stays in
    let new = c.add.new.self in
    let still : IsSoundLocket c.reserve.new.self s =
    sound_still l s c.self.invariant c.reserve.new.self (ap (λ (v : LogView g.row.D.Denot LockCommand). v.start) stays)
    (ap (λ (v : LogView g.row.D.Denot LockCommand). v.log) stays) in
    let before : lock_step (state_of (lived (commands_in l.start.payloads) l.log)) command
    ≡ Changes c.args.next c.args.answer =
    subst (λ (v : LocketView g.row.D.Denot). lock_step (state_of (life_of v)) command
    ≡ Changes c.args.next c.args.answer) (sym c.self.view_is) c.requires in
    let step : lock_step s command ≡ Changes c.args.next c.args.answer =
    subst (λ (t : LockState). lock_step t command ≡ Changes c.args.next c.args.answer)
    (sym c.self.invariant.state_is) before in
    let made : is_ok c.add.result ≡ true = search rules in
    let does = passes_lock c.reserve.new.self s still command c.fits.ensures
    (is_changed s command c.args.next c.args.answer step) (told c.reserve.new.self.disk)
    (told new.disk) c.reserve.new.self.waits (is_ok c.add.result) new.waits c.add.ensures.does in
    subst (λ (v : LocketView g.row.D.Denot). Goes (told v.disk) (told new.disk)
    (PassesLock v.waits true new.waits (life_of v) command)) c.self.view_is
    (subst (λ (v : LogView g.row.D.Denot LockCommand). Goes (told v.disk) (told new.disk)
    (PassesLock v.waits true new.waits (lived (commands_in v.start.payloads) v.log) command)) stays
    (subst (λ (b : Bool). Goes (told c.reserve.new.self.disk) (told new.disk)
    (PassesLock c.reserve.new.self.waits b new.waits (lived
    (commands_in c.reserve.new.self.start.payloads) c.reserve.new.self.log) command)) made does))
