-- Answers one after another.
use Rattle.std.proofs.Common.{◌≡◌, ◌⊎◌, inl, inr, ℕ, ◌+◌, ◌-◌, ◌^◌, ◌≤◌, Bool, true, false, List, [], ◌∷◌, ◌++◌, length, Option, Some, Ok, Err, refl, sym, ap, subst, ◌∙◌, append_assoc, arith, length-append}
use Rattle.std.specs.Prelude.{◌||◌, min}
use Rattle.std.proofs.lemmas.Grind.{flat_map-append}
use Rattle.std.proofs.lemmas.List.{append-nil}
use Rattle.std.proofs.lemmas.List.Folds.{list_any-append}
use Rattle.byte_ports.specs.Cause.{Rose}
use Rattle.bbs_model.specs.Replay.{after_item, replay_log}
use Rattle.bbs_model.specs.Step.{verdict_of}
use Rattle.bbs_model.specs.declared.command.Command.{Command}
use Rattle.bbs_model.specs.declared.item.Item.{Item}
use Rattle.bbs_model.specs.declared.rows.Rows.{Rows}
use Rattle.pair_lines.specs.declared.answered.PairAnswered.{PairAnswered}
use Rattle.pair_lines.specs.declared.answered.PairEnded.{PairEnded}
use Rattle.pair_lines.specs.declared.answered.PairEnded.TheVariants.{CallLost}
use Rattle.scenario_lines.specs.declared.act.Loss.{Loss}
use Rattle.scenario_lines.specs.declared.act.Loss.TheVariants.{Call}
use Rattle.standby_board.specs.Calls.{Answers, End, gained}
use Rattle.standby_board.specs.Pairs.{dones}
use Rattle.standby_board.specs.declared.answers.PairFault.TheVariants as fault
use Rattle.pair_runs.specs.Accounts.{AreAnswered, AreFollowed, Covers, IsOutcome, Serves, is_any_disk, is_disk_outcome, is_ok, items_by, items_in, items_of, outcome_of}
use Rattle.pair_runs.specs.Calls.{CallsUnder, EndsUnder, answer_by}
use Rattle.pair_runs.specs.Served.{Blames, IsServed, ServerView, is_disk_end, is_starved, rows_in}

-- the rows after two logs
pub replay_then : (rows : Rows) (xs ys : List Item) → replay_log rows (xs ++ ys) ≡ replay_log (replay_log rows xs) ys
replay_then rows [] ys = refl
replay_then rows (x ∷ xs) ys = replay_then (after_item rows x) xs ys

or_cases : (a b : Bool) → a || b ≡ true → (a ≡ true) ⊎ (b ≡ true)
or_cases true b h = inl refl
or_cases false b h = inr h

or_first : (a b : Bool) → a || b ≡ false → a ≡ false
or_first true b h = absurd (cc (h))
or_first false b h = refl

or_second : (a b : Bool) → a || b ≡ false → b ≡ false
or_second true b h = absurd (cc (h))
or_second false b h = h

module _ (most : ℕ) where
  late : (a b c : ℕ) → min (a + 1) most ≤ b → b ≤ c → min (a + 1) most ≤ c
  late a b c rose more = omega (arith, rose, more)

  soon : (a b c : ℕ) → a ≤ b → min (b + 1) most ≤ c → min (a + 1) most ≤ c
  soon a b c less rose = omega (arith, less, rose)

rose_late : (a b c : ℕ) → Rose a b → b ≤ c → Rose a c
rose_late a b c rose more = late (2 ^ 64 - 1) a b c rose more

rose_soon : (a b c : ℕ) → a ≤ b → Rose b c → Rose a c
rose_soon a b c less rose = soon (2 ^ 64 - 1) a b c less rose

-- answers at equal rows and an equal place
answered_at : (rows rows' : Rows) (place place' : ℕ) (xs : List PairAnswered) → rows ≡ rows' → place ≡ place'
    → AreAnswered rows place xs → AreAnswered rows' place' xs
answered_at rows rows' place place' xs same at are =
    subst (λ (r : Rows). AreAnswered r place' xs) same (subst (λ (n : ℕ). AreAnswered rows n xs) at are)

place_then : (place : ℕ) (xs ys : List Item) → place + length (xs ++ ys) ≡ place + length xs + length ys
place_then place xs ys = ap (λ (n : ℕ). place + n) (length-append xs ys) ∙ omega arith

-- answers behind answers
pub answered_then : (rows : Rows) (place : ℕ) (xs ys : List PairAnswered) → AreAnswered rows place xs
    → AreAnswered (replay_log rows (items_in xs)) (place + length (items_in xs)) ys → AreAnswered rows place (xs ++ ys)
answered_then rows place [] ys are more = answered_at rows rows (place + 0) place ys refl (omega arith) more
answered_then rows place (a ∷ xs) ys (is, are) more = (
  is,
  answered_then (replay_log rows (items_of a)) (place + length (items_of a)) xs ys are
      (answered_at (replay_log rows (items_of a ++ items_in xs))
      (replay_log (replay_log rows (items_of a)) (items_in xs))
      (place + length (items_of a ++ items_in xs)) (place + length (items_of a) + length (items_in xs)) ys
      (replay_then rows (items_of a) (items_in xs)) (place_then place (items_of a) (items_in xs)) more),
)

pub covers_then : (log : List Item) (stored : ℕ) (xs ys : List PairAnswered) → Covers log stored xs
    → Covers (log ++ items_in xs) stored ys → Covers log stored (xs ++ ys)
covers_then log stored [] ys are more = subst (λ (l : List Item). Covers l stored ys) (append-nil log) more
covers_then log stored (a ∷ xs) ys (is, are) more = (
  is,
  covers_then (log ++ items_of a) stored xs ys are
      (subst (λ (l : List Item). Covers l stored ys) (sym (append_assoc log (items_of a) (items_in xs))) more),
)

pub covers_more : (log : List Item) (stored more : ℕ) (xs : List PairAnswered) → stored ≤ more → Covers log stored xs
    → Covers log more xs
covers_more log stored more [] le are = tt
covers_more log stored more (a ∷ xs) le (is, are) =
    ((λ ok. omega (arith, is ok, le)), covers_more (log ++ items_of a) stored more xs le are)

module _ (a b : Bool) (v m w : ServerView) (one : Blames a v m) (two : Blames b m w) where
  rose_first : Rose v.primary_faults m.primary_faults ⊎ Rose v.standby_faults m.standby_faults
      → Rose v.primary_faults w.primary_faults ⊎ Rose v.standby_faults w.standby_faults
  rose_first (inl rose) = inl (rose_late v.primary_faults m.primary_faults w.primary_faults rose two.primary)
  rose_first (inr rose) = inr (rose_late v.standby_faults m.standby_faults w.standby_faults rose two.standby)

  rose_second : Rose m.primary_faults w.primary_faults ⊎ Rose m.standby_faults w.standby_faults
      → Rose v.primary_faults w.primary_faults ⊎ Rose v.standby_faults w.standby_faults
  rose_second (inl rose) = inl (rose_soon v.primary_faults m.primary_faults w.primary_faults one.primary rose)
  rose_second (inr rose) = inr (rose_soon v.standby_faults m.standby_faults w.standby_faults one.standby rose)

  rose_either : (a ≡ true) ⊎ (b ≡ true)
      → Rose v.primary_faults w.primary_faults ⊎ Rose v.standby_faults w.standby_faults
  rose_either (inl is) = rose_first (one.rose is)
  rose_either (inr is) = rose_second (two.rose is)

  pub blames_then : Blames (a || b) v w
  blames_then = record {
    primary = omega (arith, one.primary, two.primary);
    standby = omega (arith, one.standby, two.standby);
    rose = λ failed. rose_either (or_cases a b failed);
  }

module _ (v m w : ServerView) (xs ys : List PairAnswered) (one : Serves v m xs) (two : Serves m w ys) where
  both_disk : is_any_disk (xs ++ ys) ≡ is_any_disk xs || is_any_disk ys
  both_disk = list_any-append _ xs ys

  rows_then : rows_in m ≡ replay_log (rows_in v) (items_in xs)
  rows_then = ap (λ (r : Rows). replay_log r m.log) one.base ∙ ap (replay_log v.base) one.log
      ∙ replay_then v.base v.log (items_in xs)

  place_is : length m.log ≡ length v.log + length (items_in xs)
  place_is = ap length one.log ∙ length-append v.log (items_in xs)

  followed_then : AreFollowed v w (xs ++ ys)
  followed_then = record {
    level = λ calm was. two.followed.level (or_second (is_any_disk xs) (is_any_disk ys) (sym both_disk ∙ calm))
        (one.followed.level (or_first (is_any_disk xs) (is_any_disk ys) (sym both_disk ∙ calm)) was);
    grows = omega (arith, one.followed.grows, two.followed.grows);
    covers = covers_then v.log w.stored xs ys
        (covers_more v.log m.stored w.stored xs two.followed.grows one.followed.covers)
        (subst (λ (l : List Item). Covers l w.stored ys) one.log two.followed.covers);
  }

  pub serves_then : Serves v w (xs ++ ys)
  serves_then = record {
    base = two.base ∙ one.base;
    answered = answered_then (rows_in v) (length v.log) xs ys one.answered
        (answered_at (rows_in m) (replay_log (rows_in v) (items_in xs)) (length m.log)
        (length v.log + length (items_in xs)) ys rows_then place_is two.answered);
    log = two.log ∙ ap (λ (l : List Item). l ++ items_in ys) one.log ∙ append_assoc v.log (items_in xs) (items_in ys)
        ∙ ap (λ (l : List Item). v.log ++ l) (sym (flat_map-append items_of xs ys));
    blames = subst (λ (b : Bool). Blames b v w) (sym both_disk)
        (blames_then (is_any_disk xs) (is_any_disk ys) v m w one.blames two.blames);
    followed = followed_then;
  }

-- no answer was given
pub serves_none : (v : ServerView) → Serves v v []
serves_none v = record {
  base = refl;
  answered = tt;
  log = sym (append-nil v.log);
  blames = record { primary = omega arith; standby = omega arith; rose = λ failed. absurd (cc (failed)) };
  followed = record { level = λ calm was. was; grows = omega arith; covers = tt };
}

-- ---- one call

or_false : (b : Bool) → b || false ≡ b
or_false true = refl
or_false false = refl

starved_is : (end : End) → is_starved end ≡ true → end ≡ Err fault.OutOfMemory
starved_is (Ok reply) starved = absurd (cc (starved))
starved_is (Err (fault.Disk place)) starved = absurd (cc (starved))
starved_is (Err (fault.StandbyDisk place)) starved = absurd (cc (starved))
starved_is (Err (fault.Behind place)) starved = absurd (cc (starved))
starved_is (Err fault.OutOfMemory) starved = refl

never_fed : (end : End) → is_starved end ≡ false → end ≡ Err fault.OutOfMemory → ⊥
never_fed end fed is = absurd (cc (sym fed ∙ ap is_starved is))

module _ (by line : ℕ) (c : Command) (ended : PairEnded) (end : End) (is : outcome_of ended ≡ Some end)
    (fed : is_starved end ≡ false) (v w : ServerView) (s : IsServed by c v end w) where
  items_is : items_by (outcome_of ended) by c ≡ gained end by c
  items_is = ap (λ (o : Option End). items_by o by c) is

  disk_is : is_disk_outcome (outcome_of ended) || false ≡ is_disk_end end
  disk_is = or_false (is_disk_outcome (outcome_of ended)) ∙ ap is_disk_outcome is

  log_is : w.log ≡ v.log ++ items_by (outcome_of ended) by c
  log_is = s.log ∙ ap (λ (l : List Item). v.log ++ l) (sym items_is)

  fed_answer : Answers (verdict_of (rows_in v) c) (length v.log) (rows_in v).next end
      → IsOutcome (rows_in v) (length v.log) c (Some end)
  fed_answer (inl decided) = inl decided
  fed_answer (inr (inl failed)) = inr failed
  fed_answer (inr (inr starved)) = absurd (never_fed end fed starved)

  covered : is_ok (outcome_of ended) ≡ true → length (dones (v.log ++ items_by (outcome_of ended) by c)) ≤ w.stored
  covered ok = subst (λ (l : List Item). length (dones l) ≤ w.stored) log_is
      (s.followed.covers (sym (ap is_ok is) ∙ ok))

  -- a call that was made
  pub one_served : Serves v w (answer_by by line c ended ∷ [])
  one_served = record {
    base = s.base;
    answered = (subst (IsOutcome (rows_in v) (length v.log) c) (sym is) (fed_answer s.answers), tt);
    log = log_is ∙ ap (λ (l : List Item). v.log ++ l) (sym (append-nil (items_by (outcome_of ended) by c)));
    blames = subst (λ (b : Bool). Blames b v w) (sym disk_is) s.blames;
    followed = record {
      level = λ calm was. s.followed.level (sym disk_is ∙ calm) was;
      grows = s.followed.grows;
      covers = (covered, tt);
    };
  }

-- a call that was lost
pub one_lost : (by line : ℕ) (c : Command) (v : ServerView) → Serves v v (answer_by by line c CallLost ∷ [])
one_lost by line c v = record {
  base = refl;
  answered = (tt, tt);
  log = sym (append-nil v.log);
  blames = record { primary = omega arith; standby = omega arith; rose = λ failed. absurd (cc (failed)) };
  followed = record { level = λ calm was. was; grows = omega arith; covers = ((λ ok. absurd (cc (ok))), tt) };
}

-- a call that wanted memory
pub none_starved : (by : ℕ) (c : Command) (end : End) (v w : ServerView) → is_starved end ≡ true → IsServed by c v end w
    → Serves v w []
none_starved by c end v w starved served =
    let s : IsServed by c v (Err fault.OutOfMemory) w = subst (λ (e : End). IsServed by c v e w)
    (starved_is end starved) served in
    record {
      base = s.base;
      answered = tt;
      log = s.log;
      blames = record { primary = s.blames.primary; standby = s.blames.standby; rose = λ failed. absurd (cc (failed)) };
      followed = record { level = λ calm was. s.followed.level refl was; grows = s.followed.grows; covers = tt };
    }

-- a call under a mark, by what it came to
pub under_mark : (by : ℕ) (c : Command) (mark : Option Loss) (end : End) (ended : PairEnded) (v w : ServerView)
    → EndsUnder mark end ended → IsServed by c v end w → CallsUnder by c mark v ended w
under_mark by c mark end ended v w ends s = record {
  mark_is = ends.mark_is;
  served = λ line. one_served by line c ended end ends.outcome ends.fed v w s;
}

pub under_loss : (by : ℕ) (c : Command) (v : ServerView) → CallsUnder by c (Some Call) v CallLost v
under_loss by c v = record { mark_is = refl; served = λ line. one_lost by line c v }
