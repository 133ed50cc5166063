-- A pair and the board that took over from it are one server, but for the faults of the primary's disk.
use Rattle.std.proofs.Common.{◌≡◌, ◌⊎◌, inl, inr, ℕ, zero, suc, ◌+◌, ◌-◌, ◌^◌, ◌≤◌, List, [], ◌∷◌, ◌++◌, length, drop, Option, Some, None, refl, sym, ap, ◌∙◌, arith}
use Rattle.std.specs.Prelude.{min}
use Rattle.byte_ports.specs.Cause.{Rose}
use Rattle.bbs_board.specs.View.{View}
use Rattle.bbs_model.specs.declared.item.Item.{Item}
use Rattle.bbs_model.specs.declared.rows.Rows.{Rows}
use Rattle.fenced_board.specs.Fences.{FencedView}
use Rattle.pair_lines.specs.declared.answered.PairAnswered.{PairAnswered}
use Rattle.pair_runs.specs.Accounts.{Serves}
use Rattle.pair_runs.specs.Phases.{PhasesEnd}
use Rattle.pair_runs.specs.Served.{ServerView}
use Rattle.pair_runs.specs.declared.phases.PhasesEnded.{PhasesEnded}
use Rattle.scenario_lines.specs.declared.script.Phase.{Phase}
use Rattle.scenario_lines.specs.declared.script.Script.{Script}
use Rattle.standby_board.specs.Pairs.{PairView, dones}
use Rattle.pair_top.specs.Runs.{fresh_server}
use Rattle.pair_top.specs.Servers.{alone_server, log_without, pair_server}
use Rattle.pair_top.proofs.PairServed.{level_of}

-- the server, with so many faults of the primary's disk
abbrev pub lifted : ℕ → ServerView → ServerView
lifted n v = record v { primary_faults = n }

never_rose : (most : ℕ) → 1 ≤ most → min (0 + 1) most ≤ 0 → ⊥
never_rose most some rose = omega arith

abbrev view : Rows → List Item → Option (List Item) → ℕ → ℕ → ℕ → ServerView
view base log copy stored one two = record {
  base = base;
  log = log;
  copy = copy;
  stored = stored;
  primary_faults = one;
  standby_faults = two;
}

-- server views that agree
view_is : (base base' : Rows) (log log' : List Item) (copy copy' : Option (List Item)) (stored stored' one two : ℕ)
    → base ≡ base' → log ≡ log' → copy ≡ copy' → stored ≡ stored'
    → view base log copy stored one two ≡ view base' log' copy' stored' one two
view_is base base' log log' copy copy' stored stored' one two b l c s = cc

module _ {E : Type 0} (faults : E → ℕ) (n : ℕ) (v w : FencedView E) where
  rose_lifted : Rose 0 0 ⊎ Rose (faults v.board.disk) (faults w.board.disk)
      → Rose n n ⊎ Rose (faults v.board.disk) (faults w.board.disk)
  rose_lifted (inl rose) = absurd (never_rose (2 ^ 64 - 1) (omega arith) rose)
  rose_lifted (inr rose) = inr rose

  serves_lifted : (xs : List PairAnswered) → Serves (alone_server faults v) (alone_server faults w) xs
      → Serves (lifted n (alone_server faults v)) (lifted n (alone_server faults w)) xs
  serves_lifted xs serves = record {
    base = serves.base;
    answered = serves.answered;
    log = serves.log;
    blames = record {
      primary = omega arith;
      standby = serves.blames.standby;
      rose = λ failed. rose_lifted (serves.blames.rose failed);
    };
    followed = record {
      level = serves.followed.level;
      grows = serves.followed.grows;
      covers = serves.followed.covers;
    };
  }

  pub ends_lifted : (script : Script) (phases : List Phase) (how : PhasesEnded) (count : ℕ)
      (answers answers' : List PairAnswered) (held held' : Option (List ℕ)) (writes writes' : ℕ)
      → PhasesEnd script phases how count (alone_server faults v) (alone_server faults w) answers answers' held held' writes writes'
      → PhasesEnd script phases how count (lifted n (alone_server faults v)) (lifted n (alone_server faults w))
      answers answers' held held' writes writes'
  ends_lifted script phases how count answers answers' held held' writes writes' ends = record {
    ran = ends.ran;
    rest = ends.rest;
    split = ends.split;
    first = ends.first;
    text = ends.text;
    plays = ends.plays;
    calm = ends.calm;
    last = ends.last;
    answers_are = ends.answers_are;
    served = serves_lifted (ends.first ++ ends.last) ends.served;
    extra = ends.extra;
    stops = ends.stops;
    told_is = ends.told_is;
  }

pub empty_of : (xs : List Item) → length xs ≡ 0 → xs ≡ []
empty_of [] none = refl
empty_of (x ∷ xs) none = absurd (omega arith)

drop_none : (n : ℕ) → drop {A = Item} n [] ≡ []
drop_none zero = refl
drop_none (suc n) = refl

module _ {D E : Type 0} (faults : D → ℕ) (faults' : E → ℕ) (v : PairView D E) where
  -- a pair that was just started is a fresh server
  pub fresh_is : v.primary.log ≡ [] → v.standby.log ≡ [] → v.missing ≡ None
      → pair_server faults faults' v ≡ fresh_server v.primary.base (faults v.primary.disk) (faults' v.standby.disk)
  fresh_is primary standby missing =
      view_is v.primary.base v.primary.base v.primary.log [] (log_without v.missing v.standby.log) (Some [])
      (length (dones (drop (length v.standby_start.log) v.standby.log))) 0
      (faults v.primary.disk) (faults' v.standby.disk) refl primary
      (level_of v.missing v.standby.log [] missing standby)
      (ap (λ (l : List Item). length (dones (drop (length v.standby_start.log) l))) standby
      ∙ ap (λ (l : List Item). length (dones l)) (drop_none (length v.standby_start.log)))

  -- a level pair whose standby took over, and that one
  pub alone_is : (board : FencedView E) → board.board ≡ v.standby → v.standby_start.log ≡ [] → v.missing ≡ None
      → v.standby.log ≡ v.primary.log → v.standby.base ≡ v.primary.base
      → pair_server faults faults' v ≡ lifted (faults v.primary.disk) (alone_server faults' board)
  alone_is board taken fresh missing log base =
      view_is v.primary.base v.standby.base v.primary.log v.standby.log (log_without v.missing v.standby.log)
      (Some v.standby.log)
      (length (dones (drop (length v.standby_start.log) v.standby.log))) (length (dones v.standby.log))
      (faults v.primary.disk) (faults' v.standby.disk) (sym base) (sym log)
      (level_of v.missing v.standby.log v.standby.log missing refl)
      (ap (λ (l : List Item). length (dones (drop (length l) v.standby.log))) fresh)
      ∙ ap (λ (b : View E). view b.base b.log (Some b.log) (length (dones b.log)) (faults v.primary.disk)
      (faults' b.disk)) (sym taken)
