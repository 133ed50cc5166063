-- `==` at a part of a row is true exactly for the same parts.
use Rattle.std.proofs.Common.{◌≡◌, ℕ, Bool, List, None, Some, refl, ap, arith}
use Rattle.std.specs.Bool.{Decides}
use Rattle.std.specs.Option.{option_eq}
use Rattle.std.specs.declared.option.Option.{Option}
use Rattle.std.proofs.lemmas.Bool.Decides.{Decides-and, Decides-eqb, Decides-like}
use Rattle.std.proofs.lemmas.Slice.Eq.{bytes_eq-Decides}
use Rattle.cell_records.specs.contracts.amounts.AmountsPartialEq.TheImpl as amounts_eq
use Rattle.cell_records.specs.declared.amounts.Amounts.{Amounts}
use Rattle.crash_backoff.specs.contracts.moment.MomentPartialEq.TheImpl as moment_eq
use Rattle.crash_backoff.specs.declared.moment.Moment.{Moment}
use Rattle.diego_names.specs.contracts.key.KeyPartialEq.TheImpl as key_eq
use Rattle.diego_names.specs.contracts.name.NamePartialEq.TheImpl as name_eq
use Rattle.diego_names.specs.declared.key.Key.{Key}
use Rattle.lrp_records.specs.contracts.presence.PresencePartialEq.TheImpl as presence_eq
use Rattle.lrp_records.specs.contracts.state.LrpStatePartialEq.TheImpl as lrp_state_eq
use Rattle.lrp_records.specs.declared.presence.Presence.{Presence}
use Rattle.lrp_records.specs.declared.state.LrpState.{LrpState}
use Rattle.task_records.specs.contracts.state.TaskStatePartialEq.TheImpl as task_state_eq
use Rattle.task_records.specs.declared.state.TaskState.{TaskState}

pub names : (a b : List ℕ) → Decides ((name_eq.ghosts).eq a b) (a ≡ b)
names = bytes_eq-Decides

pub options : {A : Type 0} {E : A → A → Bool} → ((a b : A) → Decides (E a b) (a ≡ b)) → (p q : Option A)
    → Decides (option_eq E p q) (p ≡ q)
options each None None = (λ e. refl, λ e. refl)
options each None (Some y) = (λ e. absurd (cc), λ e. absurd (cc))
options each (Some x) None = (λ e. absurd (cc), λ e. absurd (cc))
options each (Some x) (Some y) = Decides-like _ (λ e. ap Some e) (λ e. cc) (each x y)

pub moments : (a b : Moment) → Decides ((moment_eq.ghosts).eq a b) (a ≡ b)
moments a b = grind (arith)

pub keys : (a b : Key) → Decides ((key_eq.ghosts).eq a b) (a ≡ b)
keys a b = Decides-like _ (λ h i. record { process = h.0 i; index = h.1 i }) (λ e. (cc, cc))
    (Decides-and _ _ (names a.process b.process) (Decides-eqb a.index b.index))

pub presences : (a b : Presence) → Decides ((presence_eq.ghosts).eq a b) (a ≡ b)
presences a b = grind (arith)

pub amounts : (a b : Amounts) → Decides ((amounts_eq.ghosts).eq a b) (a ≡ b)
amounts a b = grind (arith)

pub lrp_states : (a b : LrpState) → Decides ((lrp_state_eq.ghosts).eq a b) (a ≡ b)
lrp_states a b = grind (arith, names)

pub task_states : (a b : TaskState) → Decides ((task_state_eq.ghosts).eq a b) (a ≡ b)
task_states a b = grind (arith, names)
