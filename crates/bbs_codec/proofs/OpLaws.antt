-- What is read as an operation is spelled so, and what is spelled so is read.
use Rattle.std.proofs.Common.{◌≡◌, ℕ, zero, suc, ◌+◌, ◌-◌, List, [], ◌∷◌, length, Ok, Err, refl, sym, ap, subst, ◌∙◌, ◌≤◌, arith}
use Rattle.std.specs.Prelude.{slice_index_or}
use Rattle.wire_fields.specs.declared.fault.FieldFault.TheVariants.{BadField}
use Rattle.wire_fields.specs.Laws.{IsBytes, TextStandsAt}
use Rattle.bbs_model.specs.declared.command.Op.{Op}
use Rattle.bbs_model.specs.declared.command.Op.TheVariants.{Desire, Update, Undesire, Make, Claim, Start, Crash, Unclaim, Restart, Remove, PlaceFail, Evacuate, DropEvacuating, NewTask, StartTask, CompleteTask, CancelTask, ResolveTask, DeleteTask, KickTask, ExpireTask, Join, Renew, Drain, Vanish, Fresh, Forget, Suspect, DropSuspect}
use Rattle.bbs_codec.specs.Format.{Format, seen_at}
use Rattle.bbs_codec.specs.Ops.{Said, says, said, Reader, readers, op_at}
use Rattle.bbs_codec.proofs.Records.{HasLaws, seen_found, seen_again}
use Rattle.bbs_codec.proofs.Formats.{laws-name, laws-key, laws-desired, laws-update, laws-work, laws-held, laws-removal, laws-new_task, laws-task_work, laws-outcome, laws-joining, laws-renewal, laws-joined, laws-freshness}

-- the operation is of this kind, its fields stand at the place, and the other place is behind them
pub record Stands (n : ℕ) (bytes : List ℕ) (at : ℕ) (op : Op) (after : ℕ) : Type 0 where
  pub kind : (said op).kind ≡ n
  pub stands : TextStandsAt bytes at (said op).fields
  pub place : after ≡ at + length (said op).fields
  pub fits : (said op).Fits

-- what is read so is spelled so, under this kind
pub record IsKind (n : ℕ) (read : Reader) : Type 0 where
  pub spelled : (bytes : List ℕ) (at : ℕ) (op : Op) (after : ℕ) → IsBytes bytes → read bytes at ≡ Ok (op, after)
      → Stands n bytes at op after

IsKind-seen : {X : Type 0} {n low high : ℕ} {f : Format X} (make : X → Op) → HasLaws f low high
    → ((x : X) → said (make x) ≡ says n f x)
    → IsKind n (seen_at make f.read)
IsKind-seen {X} {n} {f = f} make laws says_so = record {
  spelled = λ bytes at op after ib e.
      let x = seen_found make f.read bytes at op after e in
      let found = laws.field.spelled bytes at x.value after ib x.is_read in
      let said-is : says n f x.value ≡ said op = sym (says_so x.value) ∙ ap said x.made in
      record {
        kind = sym (ap (λ (s : Said). s.kind) said-is);
        stands = subst (λ (s : Said). TextStandsAt bytes at s.fields) said-is found.0;
        place = subst (λ (s : Said). after ≡ at + length s.fields) said-is found.1;
        fits = subst (λ (s : Said). s.Fits) said-is found.2;
      };
}

IsKind-none : (n : ℕ) → IsKind n (λ _ at. Err (BadField at))
IsKind-none n = record { spelled = λ bytes at op after ib e. absurd cc }

-- these read the kinds from this one on
abbrev AreKinds : ℕ → List Reader → Type 0
AreKinds n [] = Unit {0}
AreKinds n (read ∷ others) = IsKind n read × AreKinds (suc n) others

among : (n i : ℕ) (list : List Reader) → AreKinds n list
    → IsKind (n + i) (slice_index_or list i (λ _ at. Err (BadField at)))
among n i [] all = IsKind-none (n + i)
among n zero (read ∷ others) all = let e : n ≡ n + 0 = omega arith in subst (λ (m : ℕ). IsKind m read) e all.0
among n (suc i) (read ∷ others) all =
    let e : suc n + i ≡ n + suc i = omega arith in
    subst (λ (m : ℕ). IsKind m (slice_index_or others i (λ _ at. Err (BadField at)))) e (among (suc n) i others all.1)

all_kinds : AreKinds 1 readers
all_kinds = (
  IsKind-seen _ laws-desired (λ x. refl),
  (
    IsKind-seen _ laws-update (λ x. refl),
    (
      IsKind-seen _ laws-name (λ x. refl),
      (
        IsKind-seen _ laws-key (λ x. refl),
        (
          IsKind-seen _ laws-work (λ x. refl),
          (
            IsKind-seen _ laws-work (λ x. refl),
            (
              IsKind-seen _ laws-held (λ x. refl),
              (
                IsKind-seen _ laws-held (λ x. refl),
                (
                  IsKind-seen _ laws-key (λ x. refl),
                  (
                    IsKind-seen _ laws-removal (λ x. refl),
                    (
                      IsKind-seen _ laws-key (λ x. refl),
                      (
                        IsKind-seen _ laws-held (λ x. refl),
                        (
                          IsKind-seen _ laws-held (λ x. refl),
                          (
                            IsKind-seen _ laws-new_task (λ x. refl),
                            (
                              IsKind-seen _ laws-task_work (λ x. refl),
                              (
                                IsKind-seen _ laws-outcome (λ x. refl),
                                (
                                  IsKind-seen _ laws-name (λ x. refl),
                                  (
                                    IsKind-seen _ laws-name (λ x. refl),
                                    (
                                      IsKind-seen _ laws-name (λ x. refl),
                                      (
                                        IsKind-seen _ laws-name (λ x. refl),
                                        (
                                          IsKind-seen _ laws-name (λ x. refl),
                                          (
                                            IsKind-seen _ laws-joining (λ x. refl),
                                            (
                                              IsKind-seen _ laws-renewal (λ x. refl),
                                              (
                                                IsKind-seen _ laws-joined (λ x. refl),
                                                (
                                                  IsKind-seen _ laws-name (λ x. refl),
                                                  (
                                                    IsKind-seen _ laws-freshness (λ x. refl),
                                                    (
                                                      IsKind-seen _ laws-name (λ x. refl),
                                                      (
                                                        IsKind-seen _ laws-held (λ x. refl),
                                                        (
                                                          IsKind-seen _ laws-held (λ x. refl),
                                                          tt,
                                                        ),
                                                      ),
                                                    ),
                                                  ),
                                                ),
                                              ),
                                            ),
                                          ),
                                        ),
                                      ),
                                    ),
                                  ),
                                ),
                              ),
                            ),
                          ),
                        ),
                      ),
                    ),
                  ),
                ),
              ),
            ),
          ),
        ),
      ),
    ),
  ),
)

-- what is read as an operation of a kind is one of that kind, and spelled so
pub op_spelled : (n : ℕ) → 1 ≤ n → IsKind n (op_at n)
unfolding op_at
op_spelled n from_one =
    let e : 1 + (n - 1) ≡ n = omega arith in
    subst (λ (m : ℕ). IsKind m (slice_index_or readers (n - 1) (λ _ at. Err (BadField at)))) e
    (among 1 (n - 1) readers all_kinds)

-- an operation is of one of the kinds and is read where it is spelled, and its fields take at least and at most so
-- many bytes
pub record IsOp (op : Op) : Type 0 where
  pub known : 1 ≤ (said op).kind
  pub few : (said op).kind ≤ 29
  pub again : (bytes : List ℕ) (at : ℕ) → (said op).Fits → TextStandsAt bytes at (said op).fields
      → op_at (said op).kind bytes at ≡ Ok (op, at + length (said op).fields)
  pub least : (said op).Fits → 2 ≤ length (said op).fields
  pub most : (said op).Fits → length (said op).fields ≤ 338

again : {X : Type 0} {low high : ℕ} {f : Format X} (make : X → Op) (x : X) → HasLaws f low high
    → (bytes : List ℕ) (at : ℕ)
    → f.Fits x → TextStandsAt bytes at (f.spelling x) → seen_at make f.read bytes at
    ≡ Ok (make x, at + length (f.spelling x))
again {f = f} make x laws bytes at fits stands =
    seen_again make f.read bytes at x (at + length (f.spelling x)) (laws.field.again bytes at x fits stands)

least : {X : Type 0} {low high : ℕ} {f : Format X} (x : X) → HasLaws f low high → 2 ≤ low → f.Fits x
    → 2 ≤ length (f.spelling x)
least x laws le fits = omega (arith, laws.least x fits)

most : {X : Type 0} {low high : ℕ} {f : Format X} (x : X) → HasLaws f low high → high ≤ 338 → f.Fits x
    → length (f.spelling x) ≤ 338
most x laws le fits = omega (arith, laws.most x fits)

pub IsOp-each : (op : Op) → IsOp op
unfolding op_at
IsOp-each (Desire d) = record {
  known = omega arith;
  few = omega arith;
  again = again _ d laws-desired;
  least =
      least d laws-desired (omega arith);
  most = most d laws-desired (omega arith);
}
IsOp-each (Update process instances route port) = record {
  known = omega arith;
  few = omega arith;
  again = again _ (process, instances, (route, port)) laws-update;
  least =
      least (process, instances, (route, port)) laws-update (omega arith);
  most =
      most (process, instances, (route, port)) laws-update (omega arith);
}
IsOp-each (Undesire process) = record {
  known = omega arith;
  few = omega arith;
  again =
      again _ process laws-name;
  least = least process laws-name (omega arith);
  most =
      most process laws-name (omega arith);
}
IsOp-each (Make k) = record {
  known = omega arith;
  few = omega arith;
  again = again _ k laws-key;
  least =
      least k laws-key (omega arith);
  most = most k laws-key (omega arith);
}
IsOp-each (Claim k container cell) = record {
  known = omega arith;
  few = omega arith;
  again =
      again _ (k, container, cell) laws-work;
  least = least (k, container, cell) laws-work (omega arith);
  most =
      most (k, container, cell) laws-work (omega arith);
}
IsOp-each (Start k container cell) = record {
  known = omega arith;
  few = omega arith;
  again =
      again _ (k, container, cell) laws-work;
  least = least (k, container, cell) laws-work (omega arith);
  most =
      most (k, container, cell) laws-work (omega arith);
}
IsOp-each (Crash k container) = record {
  known = omega arith;
  few = omega arith;
  again =
      again _ (k, container) laws-held;
  least = least (k, container) laws-held (omega arith);
  most =
      most (k, container) laws-held (omega arith);
}
IsOp-each (Unclaim k container) = record {
  known = omega arith;
  few = omega arith;
  again =
      again _ (k, container) laws-held;
  least = least (k, container) laws-held (omega arith);
  most =
      most (k, container) laws-held (omega arith);
}
IsOp-each (Restart k) = record {
  known = omega arith;
  few = omega arith;
  again = again _ k laws-key;
  least =
      least k laws-key (omega arith);
  most = most k laws-key (omega arith);
}
IsOp-each (Remove k container) = record {
  known = omega arith;
  few = omega arith;
  again =
      again _ (k, container) laws-removal;
  least = least (k, container) laws-removal (omega arith);
  most =
      most (k, container) laws-removal (omega arith);
}
IsOp-each (PlaceFail k) = record {
  known = omega arith;
  few = omega arith;
  again = again _ k laws-key;
  least =
      least k laws-key (omega arith);
  most = most k laws-key (omega arith);
}
IsOp-each (Evacuate k container) = record {
  known = omega arith;
  few = omega arith;
  again =
      again _ (k, container) laws-held;
  least = least (k, container) laws-held (omega arith);
  most =
      most (k, container) laws-held (omega arith);
}
IsOp-each (DropEvacuating k container) = record {
  known = omega arith;
  few = omega arith;
  again =
      again _ (k, container) laws-held;
  least = least (k, container) laws-held (omega arith);
  most =
      most (k, container) laws-held (omega arith);
}
IsOp-each (NewTask task memory disk tag) = record {
  known = omega arith;
  few = omega arith;
  again =
      again _ (task, (memory, disk), tag) laws-new_task;
  least =
      least (task, (memory, disk), tag) laws-new_task (omega arith);
  most =
      most (task, (memory, disk), tag) laws-new_task (omega arith);
}
IsOp-each (StartTask task container cell) = record {
  known = omega arith;
  few = omega arith;
  again =
      again _ (task, container, cell) laws-task_work;
  least =
      least (task, container, cell) laws-task_work (omega arith);
  most =
      most (task, container, cell) laws-task_work (omega arith);
}
IsOp-each (CompleteTask task container failed) = record {
  known = omega arith;
  few = omega arith;
  again = again _ (task, container, failed) laws-outcome;
  least =
      least (task, container, failed) laws-outcome (omega arith);
  most =
      most (task, container, failed) laws-outcome (omega arith);
}
IsOp-each (CancelTask task) = record {
  known = omega arith;
  few = omega arith;
  again = again _ task laws-name;
  least =
      least task laws-name (omega arith);
  most = most task laws-name (omega arith);
}
IsOp-each (ResolveTask task) = record {
  known = omega arith;
  few = omega arith;
  again = again _ task laws-name;
  least =
      least task laws-name (omega arith);
  most = most task laws-name (omega arith);
}
IsOp-each (DeleteTask task) = record {
  known = omega arith;
  few = omega arith;
  again = again _ task laws-name;
  least =
      least task laws-name (omega arith);
  most = most task laws-name (omega arith);
}
IsOp-each (KickTask task) = record {
  known = omega arith;
  few = omega arith;
  again = again _ task laws-name;
  least =
      least task laws-name (omega arith);
  most = most task laws-name (omega arith);
}
IsOp-each (ExpireTask task) = record {
  known = omega arith;
  few = omega arith;
  again = again _ task laws-name;
  least =
      least task laws-name (omega arith);
  most = most task laws-name (omega arith);
}
IsOp-each (Join cell zone tag totals ttl) = record {
  known = omega arith;
  few = omega arith;
  again =
      again _ ((cell, zone, tag), totals, ttl) laws-joining;
  least =
      least ((cell, zone, tag), totals, ttl) laws-joining (omega arith);
  most =
      most ((cell, zone, tag), totals, ttl) laws-joining (omega arith);
}
IsOp-each (Renew cell epoch ttl) = record {
  known = omega arith;
  few = omega arith;
  again =
      again _ (cell, epoch, ttl) laws-renewal;
  least = least (cell, epoch, ttl) laws-renewal (omega arith);
  most =
      most (cell, epoch, ttl) laws-renewal (omega arith);
}
IsOp-each (Drain cell epoch) = record {
  known = omega arith;
  few = omega arith;
  again =
      again _ (cell, epoch) laws-joined;
  least = least (cell, epoch) laws-joined (omega arith);
  most =
      most (cell, epoch) laws-joined (omega arith);
}
IsOp-each (Vanish cell) = record {
  known = omega arith;
  few = omega arith;
  again = again _ cell laws-name;
  least =
      least cell laws-name (omega arith);
  most = most cell laws-name (omega arith);
}
IsOp-each (Fresh domain ttl) = record {
  known = omega arith;
  few = omega arith;
  again = again _ (domain, ttl) laws-freshness;
  least = least (domain, ttl) laws-freshness (omega arith);
  most = most (domain, ttl) laws-freshness (omega arith);
}
IsOp-each (Forget domain) = record {
  known = omega arith;
  few = omega arith;
  again = again _ domain laws-name;
  least = least domain laws-name (omega arith);
  most = most domain laws-name (omega arith);
}
IsOp-each (Suspect k container) = record {
  known = omega arith;
  few = omega arith;
  again = again _ (k, container) laws-held;
  least = least (k, container) laws-held (omega arith);
  most = most (k, container) laws-held (omega arith);
}
IsOp-each (DropSuspect k container) = record {
  known = omega arith;
  few = omega arith;
  again = again _ (k, container) laws-held;
  least = least (k, container) laws-held (omega arith);
  most = most (k, container) laws-held (omega arith);
}
