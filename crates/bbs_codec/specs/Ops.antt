-- The kinds of operations by their numbers, and the fields of each.
use Rattle.std.specs.Prelude.{ℕ, ◌-◌, List, [], ◌∷◌, Result, Err, slice_index_or}
use Rattle.wire_fields.specs.declared.fault.FieldFault.{FieldFault}
use Rattle.wire_fields.specs.declared.fault.FieldFault.TheVariants.{BadField}
use Rattle.bbs_model.specs.declared.command.Op.{Op}
use Rattle.bbs_model.specs.declared.command.Op.TheVariants.{Desire, Update, Undesire, Make, Claim, Start, Crash, Unclaim, Restart, Remove, PlaceFail, Evacuate, DropEvacuating, NewTask, StartTask, CompleteTask, CancelTask, ResolveTask, DeleteTask, KickTask, ExpireTask, Join, Renew, Drain, Vanish, Fresh, Forget, Suspect, DropSuspect}
use Rattle.bbs_codec.specs.Format.{Format, seen_at, name}
use Rattle.bbs_codec.specs.Formats.{key, desired, update_fields, work_fields, held, removal, new_task_fields, task_work_fields, outcome, joining, renewal, joined, freshness}

-- the number of its kind, its fields in bytes, and that they have a spelling
pub record Said : Type 1 where
  pub kind : ℕ
  pub fields : List ℕ
  pub Fits : Type 0

-- a value of that kind and format
abbrev pub says : {X : Type 0} → ℕ → Format X → X → Said
says kind format x = record { kind = kind; fields = format.spelling x; Fits = format.Fits x }

-- what an operation says in bytes
abbrev pub said : Op → Said
said (Desire d) = says 1 desired d
said (Update process instances route port) = says 2 update_fields (process, instances, (route, port))
said (Undesire process) = says 3 name process
said (Make k) = says 4 key k
said (Claim k container cell) = says 5 work_fields (k, container, cell)
said (Start k container cell) = says 6 work_fields (k, container, cell)
said (Crash k container) = says 7 held (k, container)
said (Unclaim k container) = says 8 held (k, container)
said (Restart k) = says 9 key k
said (Remove k container) = says 10 removal (k, container)
said (PlaceFail k) = says 11 key k
said (Evacuate k container) = says 12 held (k, container)
said (DropEvacuating k container) = says 13 held (k, container)
said (NewTask task memory disk tag) = says 14 new_task_fields (task, (memory, disk), tag)
said (StartTask task container cell) = says 15 task_work_fields (task, container, cell)
said (CompleteTask task container failed) = says 16 outcome (task, container, failed)
said (CancelTask task) = says 17 name task
said (ResolveTask task) = says 18 name task
said (DeleteTask task) = says 19 name task
said (KickTask task) = says 20 name task
said (ExpireTask task) = says 21 name task
said (Join cell zone tag totals ttl) = says 22 joining ((cell, zone, tag), totals, ttl)
said (Renew cell epoch ttl) = says 23 renewal (cell, epoch, ttl)
said (Drain cell epoch) = says 24 joined (cell, epoch)
said (Vanish cell) = says 25 name cell
said (Fresh domain ttl) = says 26 freshness (domain, ttl)
said (Forget domain) = says 27 name domain
said (Suspect k container) = says 28 held (k, container)
said (DropSuspect k container) = says 29 held (k, container)

-- how an operation is read at a place
abbrev pub Reader : Type 0
Reader = List ℕ → ℕ → Result (Op × ℕ) FieldFault

-- how the operations of each kind are read, from kind 1 on
abbrev pub readers : List Reader
readers =
    seen_at Desire desired.read
    ∷ seen_at (λ p. Update p.0 p.1 p.2.0 p.2.1) update_fields.read
    ∷ seen_at Undesire name.read
    ∷ seen_at Make key.read
    ∷ seen_at (λ p. Claim p.0 p.1 p.2) work_fields.read
    ∷ seen_at (λ p. Start p.0 p.1 p.2) work_fields.read
    ∷ seen_at (λ p. Crash p.0 p.1) held.read
    ∷ seen_at (λ p. Unclaim p.0 p.1) held.read
    ∷ seen_at Restart key.read
    ∷ seen_at (λ p. Remove p.0 p.1) removal.read
    ∷ seen_at PlaceFail key.read
    ∷ seen_at (λ p. Evacuate p.0 p.1) held.read
    ∷ seen_at (λ p. DropEvacuating p.0 p.1) held.read
    ∷ seen_at (λ p. NewTask p.0 p.1.0 p.1.1 p.2) new_task_fields.read
    ∷ seen_at (λ p. StartTask p.0 p.1 p.2) task_work_fields.read
    ∷ seen_at (λ p. CompleteTask p.0 p.1 p.2) outcome.read
    ∷ seen_at CancelTask name.read
    ∷ seen_at ResolveTask name.read
    ∷ seen_at DeleteTask name.read
    ∷ seen_at KickTask name.read
    ∷ seen_at ExpireTask name.read
    ∷ seen_at (λ p. Join p.0.0 p.0.1 p.0.2 p.1 p.2) joining.read
    ∷ seen_at (λ p. Renew p.0 p.1 p.2) renewal.read
    ∷ seen_at (λ p. Drain p.0 p.1) joined.read
    ∷ seen_at Vanish name.read
    ∷ seen_at (λ p. Fresh p.0 p.1) freshness.read
    ∷ seen_at Forget name.read
    ∷ seen_at (λ p. Suspect p.0 p.1) held.read
    ∷ seen_at (λ p. DropSuspect p.0 p.1) held.read
    ∷ []

-- the operation of this kind at a place
unfoldable pub op_at : ℕ → Reader
op_at kind = slice_index_or readers (kind - 1) (λ _ at. Err (BadField at))
