-- A board goes on, and on from there. The members of a port's trait rest on these laws.
use Rattle.std.specs.Prelude.{◌≡◌, ◌≤◌, ℕ, List, [], ◌∷◌, ◌++◌, Option, refl}
use Rattle.std.proofs.Common.{sym, ap, subst, ◌∙◌, append_assoc, length-append, arith}
use Rattle.std.proofs.lemmas.List.{append-nil}
use Rattle.disk_trait.specs.Past.{Past}
use Rattle.disk_trait.specs.Runs.{Extends}
use Rattle.disk_trait.specs.Steps.{Goes}
use Rattle.disk_trait.proofs.Public.{extends_same, extends_then, goes_same, goes_then}
use Rattle.bbs_board.specs.Kept.{RiseBetween}
use Rattle.bbs_board.specs.View.{View, rows_of}
use Rattle.bbs_board.specs.Written.{WritesOn}
use Rattle.bbs_board.proofs.Public.{no_doubts, replay_behind, writes_nothing, writes_then}
use Rattle.bbs_model.specs.Replay.{replay_log}
use Rattle.bbs_model.specs.declared.item.Item.{Item}
use Rattle.bbs_model.specs.declared.rows.Rows.{Rows}
use Rattle.board_port.specs.Going.{BoardGoesOn, GainsMarks, LeavesBoard}

-- numbers that never fall lie above each smaller one
pub rises_from : (low floor : ℕ) (numbers : List ℕ) (high : ℕ) → low ≤ floor → RiseBetween floor numbers high
    → RiseBetween low numbers high
rises_from low floor [] high le rising = omega (arith, le, rising)
rises_from low floor (n ∷ numbers) high le rising =
    let first = rising.0 in
    (omega (arith, le, first), rising.1)

-- one list of them behind another
pub rises_then : (low middle high : ℕ) (numbers later : List ℕ) → RiseBetween low numbers middle
    → RiseBetween middle later high → RiseBetween low (numbers ++ later) high
rises_then low middle high [] later first second = rises_from low middle later high first second
rises_then low middle high (n ∷ numbers) later first second =
    (first.0, rises_then n middle high numbers later first.1 second)

-- the rows that the items behind a log lead to
pub rows_then : {D : Type 0} (v w : View D) (more : List Item) → w.base ≡ v.base → w.log ≡ v.log ++ more
    → rows_of w ≡ replay_log (rows_of v) more
rows_then v w more base log =
    ap (λ (r : Rows). replay_log r w.log) base ∙ ap (replay_log v.base) log ∙ replay_behind v.base v.log more

module _ {D : Type 0} (told : D → Option Past) where
  -- nothing was done
  pub goes_nowhere : (v : View D) → BoardGoesOn told [] v v
  goes_nowhere v = record {
    base = refl;
    since = refl;
    faults = refl;
    grows = sym (append-nil v.log);
    marks = record {
      gained = [];
      grows = sym (append-nil v.marks);
      count = refl;
      rising = goes_same (told v.disk) (λ p q. RiseBetween p.clock [] q.clock) (λ p is. omega arith);
    };
    disk = goes_same (told v.disk) Extends (λ p is. extends_same p);
    writes = λ calm none. (
      calm,
      goes_same (told v.disk) (WritesOn (rows_of v) [])
          (λ p is. writes_nothing (rows_of v) p),
    );
    leaves = λ calm none.
        goes_same (told v.disk) (λ p q. LeavesBoard (rows_of v) p → LeavesBoard (rows_of v) q) (λ p is stands. stands);
  }

  module _ (u v w : View D) (first second : List Item) (f : BoardGoesOn told first u v)
      (g : BoardGoesOn told second v w) where
    both_marks : GainsMarks told (first ++ second) u w
    both_marks =
        let a = f.marks in
        let b = g.marks in
        let one = a.count in
        let two = b.count in
        record {
          gained = a.gained ++ b.gained;
          grows = b.grows ∙ ap (λ (xs : List ℕ). xs ++ b.gained) a.grows ∙ append_assoc u.marks a.gained b.gained;
          count = omega (arith, length-append a.gained b.gained, length-append first second, one, two);
          rising = goes_then (told u.disk) (told v.disk) (told w.disk) (λ p q. RiseBetween p.clock a.gained q.clock)
              (λ p q. RiseBetween p.clock b.gained q.clock) (λ p q. RiseBetween p.clock (a.gained ++ b.gained) q.clock)
              (λ p q r i j k. rises_then p.clock q.clock r.clock a.gained b.gained) a.rising b.rising;
        }

    -- one after the other
    pub goes_further : BoardGoesOn told (first ++ second) u w
    goes_further = record {
      base = g.base ∙ f.base;
      since = g.since ∙ f.since;
      faults = g.faults ∙ f.faults;
      grows = g.grows ∙ ap (λ (xs : List Item). xs ++ second) f.grows ∙ append_assoc u.log first second;
      marks = both_marks;
      disk = goes_then (told u.disk) (told v.disk) (told w.disk) Extends Extends Extends
          (λ p q r i j k. extends_then p q r) f.disk g.disk;
      writes = λ calm none.
          let one = f.writes calm (no_doubts first second none).0 in
          let two = g.writes one.0 (no_doubts first second none).1 in
          let there = rows_then u v first f.base f.grows in (
            two.0,
            goes_then (told u.disk) (told v.disk) (told w.disk) (WritesOn (rows_of u) first)
                (WritesOn (replay_log (rows_of u) first) second) (WritesOn (rows_of u) (first ++ second))
                (λ p q r i j k. writes_then (rows_of u) first second p q r) one.1
                (subst (λ (x : Rows). Goes (told v.disk) (told w.disk) (WritesOn x second)) there two.1),
          );
      leaves = λ calm none.
          let begins = no_doubts first second none in
          goes_then (told u.disk) (told v.disk) (told w.disk) (λ p q. LeavesBoard (rows_of u) p → LeavesBoard (rows_of v) q)
          (λ p q. LeavesBoard (rows_of v) p → LeavesBoard (rows_of w) q)
          (λ p q. LeavesBoard (rows_of u) p → LeavesBoard (rows_of w) q) (λ p q r i j k one two stands. two (one stands))
          (f.leaves calm begins.0) (g.leaves (f.writes calm begins.0).0 begins.1);
    }
