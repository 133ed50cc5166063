-- What a board was at the end of a phase, by what it is at the end of the run.
use Rattle.std.proofs.Common.{◌≡◌, ◌≤◌, ℕ, false, List, [], ◌∷◌, length, take, drop, Option, Some, refl, sym, ap, subst, ◌∙◌, length-append, arith}
use Rattle.std.specs.List.{All}
use Rattle.std.proofs.lemmas.List.{drop_at, take_at}
use Rattle.std.proofs.lemmas.List.Elements.{All-cons, All-nil}
use Rattle.disk_trait.specs.Held.{Held, Leaves}
use Rattle.disk_trait.specs.Past.{Past, Image}
use Rattle.disk_trait.specs.Runs.{Extends}
use Rattle.disk_trait.specs.Steps.{Goes}
use Rattle.disk_trait.specs.declared.area.Area.{Area}
use Rattle.disk_trait.proofs.Public.{goes_back}
use Rattle.bbs_board.specs.Doubts.{doubts_in}
use Rattle.bbs_board.specs.Kept.{RiseBetween}
use Rattle.bbs_board.specs.Opening.{IsBoard}
use Rattle.bbs_board.specs.View.{IsFresh, View, rows_of}
use Rattle.bbs_board.proofs.Public.{no_doubts}
use Rattle.bbs_model.specs.Replay.{replay_log, rows_at}
use Rattle.bbs_model.specs.declared.item.Item.{Item}
use Rattle.bbs_model.specs.declared.rows.Rows.{Rows}
use Rattle.board_port.specs.Going.{BoardGoesOn, LeavesBoard}
use Rattle.board_port.proofs.Public.{rises_then}
use Rattle.run_theorem.specs.Ends.{CameTo, ImagesAt}

-- what was done from one past that is told to another
pub between_told : (told told' : Option Past) (Does : Past → Past → Type 0) (p q : Past) → told ≡ Some p
    → told' ≡ Some q → Goes told told' Does → Does p q
between_told told told' Does p q is is' goes =
    subst (λ (t : Option Past). Goes t (Some q) Does) is (subst (λ (t : Option Past). Goes told t Does) is' goes)

-- none of the numbers is above the last, and none below the first
rise_below : (low : ℕ) (marks : List ℕ) (high : ℕ) → RiseBetween low marks high → low ≤ high
rise_below low [] high rising = rising
rise_below low (mark ∷ marks) high rising =
    let first = rising.0 in
    let rest = rise_below mark marks high rising.1 in
    omega (arith, first, rest)

all_below : (low : ℕ) (marks : List ℕ) (high : ℕ) → RiseBetween low marks high → All (λ mark. mark ≤ high) marks
all_below low [] high rising = All-nil (λ mark. mark ≤ high)
all_below low (mark ∷ marks) high rising =
    All-cons (λ m. m ≤ high) mark marks (rise_below mark marks high rising.1) (all_below mark marks high rising.1)

all_above : (least low : ℕ) (marks : List ℕ) (high : ℕ) → least ≤ low → RiseBetween low marks high
    → All (λ mark. least ≤ mark) marks
all_above least low [] high le rising = All-nil (λ mark. least ≤ mark)
all_above least low (mark ∷ marks) high le rising =
    let first = rising.0 in
    let above : least ≤ mark = omega (arith, le, first) in
    All-cons (λ m. least ≤ m) mark marks above (all_above least mark marks high above rising.1)

module _ {D : Type 0} (told : D → Option Past) where
  -- so stands a board since a moment: its items are marked, and without a doubt a stop can leave it alone
  pub record Stands (since : ℕ) (x : View D) : Type 0 where
    pub count : length x.marks ≡ length x.log
    pub rising : (m : Past) → told x.disk ≡ Some m → RiseBetween since x.marks m.clock
    pub calm : doubts_in x.log ≡ 0
        → (x.waits ≡ false) × ((m : Past) → told x.disk ≡ Some m → LeavesBoard (rows_of x) m)

  -- one that has done nothing
  pub stands_first : (v : View D) (p : Past) → told v.disk ≡ Some p → IsFresh v → LeavesBoard v.base p
      → Stands p.clock v
  stands_first v p is fresh leaves = record {
    count = ap length fresh.marks ∙ sym (ap length fresh.log);
    rising = λ m told_is.
        subst (λ (xs : List ℕ). RiseBetween p.clock xs m.clock) (sym fresh.marks)
        (subst (λ (x : Past). p.clock ≤ x.clock) (same m told_is) (omega arith));
    calm = λ none. (
      fresh.calm,
      λ m told_is.
          subst (λ (r : Rows). LeavesBoard r m) (sym (ap (replay_log v.base) fresh.log))
          (subst (LeavesBoard v.base) (same m told_is) leaves),
    );
  }
    where
      same : (m : Past) → told v.disk ≡ Some m → p ≡ m
      same m told_is = let both : Some p ≡ Some m = sym is ∙ told_is in cc (both)

  -- and one that went on from it
  pub stands_on : (since : ℕ) (x y : View D) (fresh : List Item) → BoardGoesOn told fresh x y → Stands since x
      → Stands since y
  stands_on since x y fresh goes stands =
      let marks = goes.marks in
      record {
        count = let new = marks.count in
            let old = stands.count in
            let grown = ap length marks.grows in
            let longer = ap length goes.grows in
            omega (arith, new, old, grown, longer, length-append x.marks marks.gained, length-append x.log fresh);
        rising = λ m is.
            let (n, n_is, rises) =
            goes_back (told x.disk) (told y.disk) (λ p q. RiseBetween p.clock marks.gained q.clock) marks.rising m is in
            subst (λ (xs : List ℕ). RiseBetween since xs m.clock) (sym marks.grows)
            (rises_then since n.clock m.clock x.marks marks.gained (stands.rising n n_is) rises);
        calm = λ none.
            let parts = no_doubts x.log fresh (sym (ap doubts_in goes.grows) ∙ none) in
            let before = stands.calm parts.0 in (
              (goes.writes before.0 parts.1).0,
              λ m is.
                  let (n, n_is, leaves) =
                  goes_back (told x.disk) (told y.disk) (λ p q. LeavesBoard (rows_of x) p → LeavesBoard (rows_of y) q)
                  (goes.leaves before.0 parts.1) m is in
                  leaves (before.1 n n_is),
            );
      }

  module _ (since : ℕ) (x w : View D) (rest : List Item) (goes : BoardGoesOn told rest x w) (stands : Stands since x)
      (m q : Past) (m_is : told x.disk ≡ Some m) (q_is : told w.disk ≡ Some q) where
    extends : Extends m q
    extends = between_told (told x.disk) (told w.disk) Extends m q m_is q_is goes.disk

    taken : take (length x.log) w.log ≡ x.log
    taken = ap (take (length x.log)) goes.grows ∙ take_at x.log rest (length x.log) refl

    then : (image : Image) → ImagesAt q m.clock image → (area : Area) → Leaves (m.held m.clock area) (image area)
    then image images area =
        subst (λ (held : Area → Held). Leaves (held area) (image area)) (extends.before m.clock (omega arith))
        (images area)

    left : doubts_in (take (length x.log) w.log) ≡ 0 → (image : Image) → ImagesAt q m.clock image
        → IsBoard (rows_at x.base w.log (length x.log)) image
    left none image images =
        subst (λ (r : Rows). IsBoard r image) (sym (ap (replay_log x.base) taken))
        ((stands.calm (sym (ap doubts_in taken) ∙ none)).1 m m_is image (then image images))

    -- the log had come to where the board was
    pub came_to : CameTo x.base w.log w.marks q (length x.log) m.clock
    came_to =
        let marks = goes.marks in
        record {
          high = extends.later;
          before = subst (All (λ mark. mark ≤ m.clock))
              (sym (ap (take (length x.log)) marks.grows ∙ take_at x.marks marks.gained (length x.log) stands.count))
              (all_below since x.marks m.clock (stands.rising m m_is));
          behind = subst (All (λ mark. m.clock ≤ mark))
              (sym (ap (drop (length x.log)) marks.grows ∙ drop_at x.marks marks.gained (length x.log) stands.count))
              (all_above m.clock m.clock marks.gained q.clock (omega arith)
              (between_told (told x.disk) (told w.disk) (λ p r. RiseBetween p.clock marks.gained r.clock) m q m_is q_is
              marks.rising));
          leaves = left;
        }
