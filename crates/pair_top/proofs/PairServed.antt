-- A call of a pair, as its clients see it.
use Rattle.std.proofs.Common.{◌≡◌, ◌⊎◌, inl, inr, ℕ, ◌≤◌, Bool, true, false, List, [], ◌∷◌, ◌++◌, length, drop, Option, Some, None, Ok, Err, refl, sym, ap, ◌∙◌, arith, length-append}
use Rattle.std.specs.Prelude.{◌||◌}
use Rattle.std.proofs.lemmas.List.{append-nil, drop-append-le}
use Rattle.byte_ports.specs.Cause.{Rose}
use Rattle.bbs_board.specs.View.{View}
use Rattle.bbs_model.specs.Calls.{added}
use Rattle.bbs_model.specs.declared.command.Command.{Command}
use Rattle.bbs_model.specs.declared.item.Item.{Item}
use Rattle.bbs_model.specs.declared.item.Item.TheVariants.{Done, Doubt}
use Rattle.disk_trait.specs.Past.{Past}
use Rattle.pair_runs.specs.Served.{Blames, IsLevel, IsServed, is_disk_end}
use Rattle.standby_board.specs.Calls.{End, Follows, HasCauses, IsPairCall, IsSamePair, gained, is_acknowledged, is_primary_fault, is_standby_fault}
use Rattle.standby_board.specs.Pairs.{PairView, StandsPaired, done_on_primary, done_on_standby, dones, gained_since, owed}
use Rattle.standby_board.specs.declared.answers.PairFault.TheVariants as fault
use Rattle.standby_board.specs.declared.answers.PairReply.TheVariants as pair
use Rattle.pair_top.specs.Servers.{log_without, pair_server}

pub dones_append : (xs ys : List Item) → dones (xs ++ ys) ≡ dones xs ++ dones ys
dones_append [] ys = refl
dones_append (Done by c ∷ xs) ys = ap (λ (is : List Item). Done by c ∷ is) (dones_append xs ys)
dones_append (Doubt by c ∷ xs) ys = dones_append xs ys

-- where nothing is missing
pub none_missing : (missing : Option (ℕ × Command)) (log other : List Item) → log_without missing log ≡ Some other
    → (missing ≡ None) × (log ≡ other)
none_missing None log other is = (refl, cc (is))
none_missing (Some m) log other is = absurd (cc (is))

pub level_of : (missing : Option (ℕ × Command)) (log other : List Item) → missing ≡ None → log ≡ other
    → log_without missing log ≡ Some other
level_of missing log other none is =
    ap (λ (m : Option (ℕ × Command)). log_without m log) none ∙ ap (λ (l : List Item). Some l) is

-- the standby stays level, by what the call adds to its log
follows_level : (end : End) (by : ℕ) (c : Command) (before after : Option (ℕ × Command)) (stored log copy : List Item)
    → is_disk_end end ≡ false → Follows end by c before after stored → before ≡ None → copy ≡ log
    → (after ≡ None) × (copy ++ stored ≡ log ++ gained end by c)
follows_level (Ok (pair.Reply r)) by c before after stored log copy calm follows none same = (
  follows.0,
  ap (λ (l : List Item). l ++ stored) same
      ∙ ap (λ (l : List Item). log ++ l) (follows.1 ∙ ap (λ (m : Option (ℕ × Command)). owed m ++ added (Ok r) by c) none),
)
follows_level (Ok (pair.StaleFence greatest)) by c before after stored log copy calm follows none same = (
  follows.0 ∙ none,
  ap (λ (l : List Item). l ++ stored) same ∙ ap (λ (l : List Item). log ++ l) follows.1,
)
follows_level (Err (fault.Disk place)) by c before after stored log copy calm follows none same = absurd (cc (calm))
follows_level (Err (fault.StandbyDisk place)) by c before after stored log copy calm follows none same = absurd (cc (calm))
follows_level (Err (fault.Behind place)) by c before after stored log copy calm follows none same = absurd (cc (calm))
follows_level (Err fault.OutOfMemory) by c before after stored log copy calm (inl follows) none same = (
  follows.0 ∙ none,
  ap (λ (l : List Item). l ++ stored) same ∙ ap (λ (l : List Item). log ++ l) follows.1,
)
follows_level (Err fault.OutOfMemory) by c before after stored log copy calm (inr follows) none same = (
  follows.0,
  ap (λ (l : List Item). l ++ stored) same
      ∙ ap (λ (l : List Item). log ++ l) (follows.1 ∙ ap owed none),
)

-- an acknowledged call leaves nothing missing
acknowledged_none : (end : End) (by : ℕ) (c : Command) (before after : Option (ℕ × Command)) (stored : List Item)
    → is_acknowledged end ≡ true → Follows end by c before after stored → after ≡ None
acknowledged_none (Ok (pair.Reply r)) by c before after stored ok follows = follows.0
acknowledged_none (Ok (pair.StaleFence greatest)) by c before after stored ok follows = absurd (cc (ok))
acknowledged_none (Err why) by c before after stored ok follows = absurd (cc (ok))

or_cases : (a b : Bool) → a || b ≡ true → (a ≡ true) ⊎ (b ≡ true)
or_cases true b h = inl refl
or_cases false b h = inr h

module _ {D E : Type 0} (told : D → Option Past) (moment faults : D → ℕ) (told' : E → Option Past) (moment' faults' : E → ℕ)
    (number by : ℕ) (command : Command) (v w : PairView D E) (end : End) (fresh : v.primary_start.log ≡ [])
    (calls : IsPairCall moment moment' number by command v w end) (causes : HasCauses faults faults' end v w)
    (same : IsSamePair v w) (was : StandsPaired told told' v) (is : StandsPaired told told' w) where
  rose : (is_primary_fault end ≡ true) ⊎ (is_standby_fault end ≡ true)
      → Rose (faults v.primary.disk) (faults w.primary.disk) ⊎ Rose (faults' v.standby.disk) (faults' w.standby.disk)
  rose (inl failed) = inl (causes.primary.rose failed)
  rose (inr failed) = inr (causes.standby.rose failed)

  blames : Blames (is_disk_end end) (pair_server faults faults' v) (pair_server faults faults' w)
  blames = record {
    primary = causes.primary.later;
    standby = causes.standby.later;
    rose = λ failed. rose (or_cases (is_primary_fault end) (is_standby_fault end) failed);
  }

  level : is_disk_end end ≡ false → IsLevel (pair_server faults faults' v) → IsLevel (pair_server faults faults' w)
  level calm level_was =
      let (none, copied) = none_missing v.missing v.standby.log v.primary.log level_was in
      let (after, stored) = follows_level end by command v.missing w.missing calls.stored v.primary.log v.standby.log calm
      calls.follows none copied in
      level_of w.missing w.standby.log w.primary.log after (calls.standby.log ∙ stored ∙ sym calls.primary.log)

  within : length v.standby_start.log ≤ length v.standby.log
  within = omega (arith, ap length was.standby.goes.grows ∙ length-append v.standby_start.log was.standby.fresh)

  gained_is : gained_since w.standby_start w.standby ≡ gained_since v.standby_start v.standby ++ calls.stored
  gained_is = ap (λ (start : View E). drop (length start.log) w.standby.log) same.standby
      ∙ ap (drop (length v.standby_start.log)) calls.standby.log
      ∙ drop-append-le (length v.standby_start.log) v.standby.log calls.stored within

  grows : length (done_on_standby v) ≤ length (done_on_standby w)
  grows = omega (
    arith,
    ap (λ (l : List Item). length (dones l)) gained_is
        ∙ ap length (dones_append (gained_since v.standby_start v.standby) calls.stored)
        ∙ length-append (done_on_standby v) (dones calls.stored),
  )

  whole : done_on_primary w ≡ dones w.primary.log
  whole = ap (λ (start : View D). dones (drop (length start.log) w.primary.log)) same.primary
      ∙ ap (λ (l : List Item). dones (drop (length l) w.primary.log)) fresh

  covers : is_acknowledged end ≡ true → length (dones w.primary.log) ≤ length (done_on_standby w)
  covers ok =
      let none : w.missing ≡ None = acknowledged_none end by command v.missing w.missing calls.stored ok calls.follows in
      let all : dones w.primary.log ≡ done_on_standby w = sym whole ∙ is.paired.mirrors
      ∙ ap (λ (m : Option (ℕ × Command)). done_on_standby w ++ owed m) none ∙ append-nil (done_on_standby w) in
      omega (arith, ap length all)

  -- what a client sees of a call whose number isn't stale
  pub pair_served : IsServed by command (pair_server faults faults' v) end (pair_server faults faults' w)
  pair_served = record {
    base = calls.primary.base;
    answers = calls.answers;
    log = calls.primary.log;
    blames = blames;
    followed = record { level = level; grows = grows; covers = covers };
  }
