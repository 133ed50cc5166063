-- What a caller that is alone in a phase has seen of it.
use Rattle.std.proofs.Common.{◌≡◌, ℕ, ◌+◌, List, [], ◌∷◌, ◌++◌, length, refl, sym, ap, ◌∙◌, arith, length-append}
use Rattle.std.proofs.lemmas.List.{append-nil}
use Rattle.bbs_board.specs.Doubts.{doubts_in}
use Rattle.bbs_model.specs.Calls.{by_number}
use Rattle.bbs_model.specs.PortView.{IsLater, IsQuiet, PortView}
use Rattle.bbs_model.specs.declared.item.Item.{Item}
use Rattle.bbs_model.specs.declared.rows.Rows.{Rows}
use Rattle.phase_runs.specs.Actors.{SeesPhase}
use Rattle.run_function.specs.Boards.{SoleBoard, board_seen}
use Rattle.run_function.specs.Quiet.{StaysCalm}

abbrev pub sole_board : Rows → List Item → SoleBoard
sole_board base log = record { base = base; log = log }

-- it has seen the board as it was and as it is, and nobody else called
pub record SeesAll (base : Rows) (before fresh : List Item) (v w : PortView) : Type 0 where
  pub first : board_seen v ≡ sole_board base before
  pub last : board_seen w ≡ sole_board base (before ++ fresh)
  pub quiet : IsQuiet v w

no_length : {X : Type 0} (xs : List X) → length xs ≡ 0 → xs ≡ []
no_length [] e = refl
no_length (x ∷ xs) e = absurd (omega (arith, e))

pub sees_all : (base : Rows) (before fresh : List Item) (by : ℕ) (v w : PortView) → SeesPhase base before fresh by v w
    → IsLater v w
    → by_number by fresh ≡ fresh → SeesAll base before fresh v w
sees_all base before fresh by v w sees later all =
    let x1 : List Item = sees.from.0 in
    let x2 : List Item = later.seen.0 in
    let x3 : List Item = sees.upto.0 in
    let own : w.mine ≡ v.mine ++ fresh = sees.own ∙ ap (λ (xs : List Item). v.mine ++ xs) all in
    let n1 : length v.seen ≡ length before + length x1 = ap length sees.from.1 ∙ length-append before x1 in
    let n2 : length w.seen ≡ length v.seen + length x2 = ap length later.seen.1 ∙ length-append v.seen x2 in
    let n3 : length before + length fresh ≡ length w.seen + length x3 =
    sym (length-append before fresh) ∙ ap length sees.upto.1 ∙ length-append w.seen x3 in
    let n4 : length w.mine ≡ length v.mine + length fresh = ap length own ∙ length-append v.mine fresh in
    let none1 : x1 ≡ [] = no_length x1 (omega (arith, n1, n2, n3, n4, later.counts)) in
    let none3 : x3 ≡ [] = no_length x3 (omega (arith, n1, n2, n3, n4, later.counts)) in
    let seen_v : v.seen ≡ before = sees.from.1 ∙ ap (λ (xs : List Item). before ++ xs) none1 ∙ append-nil before in
    let seen_w : w.seen ≡ before ++ fresh = sym (sees.upto.1 ∙ ap
    (λ (xs : List Item). w.seen ++ xs) none3 ∙ append-nil w.seen) in
    let base_w : w.base ≡ base = later.base ∙ sees.base_is in
    record {
      first = λ i. sole_board (sees.base_is i) (seen_v i);
      last = λ i. sole_board (base_w i) (seen_w i);
      quiet = omega (arith, n1, n2, n3, n4, later.counts);
    }

pub undisturbed : (base : Rows) (before fresh : List Item) (v w : PortView) → SeesAll base before fresh v w
    → doubts_in (before ++ fresh) ≡ 0 → StaysCalm v w
undisturbed base before fresh v w sees calm =
    record { quiet = sees.quiet; calm = ap (λ (b : SoleBoard). doubts_in b.log) sees.last ∙ calm }
