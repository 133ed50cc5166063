-- What a phase printed is kept from its end on.
use Rattle.std.proofs.Common.{◌≡◌, ℕ, zero, suc, ◌+◌, ◌<◌, ◌≤◌, List, [], ◌∷◌, length, get_or, take, Option, Some, None, Result, Ok, refl, sym, subst, arith}
use Rattle.std.specs.Prelude.{All}
use Rattle.std.specs.List.{slice_get}
use Rattle.std.proofs.lemmas.List.Elements.{All-cons, All-head, All-nil, All-tail}
use Rattle.std.proofs.lemmas.Option.{slice_get-get_or, slice_get_within}
use Rattle.disk_trait.specs.Past.{Past, Image, ImagesSince, content}
use Rattle.disk_trait.specs.Shows.{Shows}
use Rattle.bbs_model.specs.declared.command.Command.{Command}
use Rattle.bbs_model.specs.declared.item.Item.{Item}
use Rattle.bbs_model.specs.declared.item.Item.TheVariants.{Done}
use Rattle.bbs_model.specs.declared.reply.CallFault.{CallFault}
use Rattle.bbs_model.specs.declared.reply.Reply.{Reply}
use Rattle.bbs_model.specs.declared.reply.Reply.TheVariants as reply
use Rattle.bbs_model.specs.declared.rows.Rows.{Rows}
use Rattle.bbs_board.specs.Kept.{IsFound}
use Rattle.bbs_board.specs.Opening.{IsBoard}
use Rattle.program_ends.specs.Ports.{IsTold}
use Rattle.run_theorem.specs.Answers.{IsTrueOf, LieBetween, TellsIf, answer_items, board_answer, items_if, place_named}
use Rattle.run_theorem.specs.Ends.{CameTo}
use Rattle.run_theorem.specs.Headline.{outset}
use Rattle.run_theorem.proofs.Public.{all_parts}
use Rattle.scenario_lines.specs.declared.answered.Answered.{Answered}
use Rattle.diego_engine.specs.Headline.{KeptSince}
use Rattle.diego_engine.specs.PhaseEnds.{IsKeptFrom, PhasesAreKeptFromTheirEnds, RunsKeepPhasesFromTheirEnds}

-- a mark before the place isn't above the number that none there is above
mark_upto : (moment : ℕ) (marks : List ℕ) (upto place mark : ℕ) → All (λ m. m ≤ moment) (take upto marks) → place < upto
    → slice_get marks place ≡ Some mark → mark ≤ moment
mark_upto moment [] upto place mark all within is = absurd (omega (arith, slice_get_within none place mark is))
  where
    none : List ℕ
    none = []
mark_upto moment (m ∷ marks) zero place mark all within is = absurd (omega (arith, within))
mark_upto moment (m ∷ marks) (suc upto) zero mark all within is =
    let same : m ≡ mark = cc (is) in
    subst (λ (n : ℕ). n ≤ moment) same (All-head (λ m. m ≤ moment) m (take upto marks) all)
mark_upto moment (m ∷ marks) (suc upto) (suc place) mark all within is =
    mark_upto moment marks upto place mark (All-tail (λ m. m ≤ moment) m (take upto marks) all)
    (omega (arith, within)) is

-- what the board's answer Ok says of the log and of its place
record IsStored (log : List Item) (by from place : ℕ) (command : Option Command)
    (answer : Option (Result Reply CallFault)) : Type 0 where
  pub c : Command
  pub item : slice_get log place ≡ Some (Done by c)
  pub place_is : place_named from answer ≡ place
  pub one : length (items_if by command answer) ≡ 1

is_stored : (rows : Rows) (log : List Item) (by from place stamp : ℕ) (command : Option Command)
    → TellsIf rows log by command (Some (Ok (reply.Ok place stamp)))
    → IsStored log by from place command (Some (Ok (reply.Ok place stamp)))
is_stored rows log by from place stamp None tells = absurd tells
is_stored rows log by from place stamp (Some c) tells = record { c = c; item = tells.0; place_is = refl; one = refl }

-- places that lie between two numbers
lie_within : (from upto : ℕ) (answers : List Answered) → LieBetween from upto answers → from ≤ upto
lie_within from upto [] lie = lie
lie_within from upto (a ∷ answers) lie =
    let first = lie.0 in
    let rest = lie_within (place_named from (board_answer a.end) + length (answer_items a)) upto answers lie.1 in
    omega (arith, first, rest)

module _ (rows : Rows) (log : List Item) (marks : List ℕ) (p q : Past) (kept : KeptSince rows log marks p q)
    (upto moment : ℕ) (came : CameTo rows log marks q upto moment) where
  -- an item that was done before the place is kept from that moment on
  kept_from : (place by : ℕ) (c : Command) → slice_get log place ≡ Some (Done by c) → place < upto
      → (image : Image) → ImagesSince q moment image → IsFound rows log (place + 1) image
  kept_from place by c item within image images =
      let count = kept.count in
      let mark : ℕ = get_or marks place 0 in
      let mark_is : slice_get marks place ≡ Some mark =
      slice_get-get_or marks place 0 (omega (arith, slice_get_within log place (Done by c) item, count)) in
      let early : mark ≤ moment = mark_upto moment marks upto place mark came.before within mark_is in
      let from = images.from in
      kept.acknowledged place mark by c item mark_is image
      (record { moment = images.moment; from = omega (arith, early, from); to = images.to; leaves = images.leaves })

  kept_answer : (a : Answered) (from : ℕ) → IsTrueOf rows log a
      → place_named from (board_answer a.end) + length (answer_items a) ≤ upto → IsKeptFrom rows log q moment a
  kept_answer a from true within place stamp is image images =
      let stored : IsStored log a.actor from place a.command (board_answer a.end) =
      subst (IsStored log a.actor from place a.command) (sym is)
      (is_stored rows log a.actor from place stamp a.command (subst (TellsIf rows log a.actor a.command) is true)) in
      let place_is = stored.place_is in
      let one = stored.one in
      kept_from place a.actor stored.c stored.item (omega (arith, within, place_is, one)) image images

  kept_answers : (from : ℕ) (answers : List Answered) → All (IsTrueOf rows log) answers → LieBetween from upto answers
      → All (IsKeptFrom rows log q moment) answers
  kept_answers from [] true lie = All-nil (IsKeptFrom rows log q moment)
  kept_answers from (a ∷ answers) true lie =
      let next : ℕ = place_named from (board_answer a.end) + length (answer_items a) in
      All-cons (IsKeptFrom rows log q moment) a answers
      (kept_answer a from (All-head (IsTrueOf rows log) a answers true) (lie_within next upto answers lie.1))
      (kept_answers next answers (All-tail (IsTrueOf rows log) a answers true) lie.1)

pub phases_kept : PhasesAreKeptFromTheirEnds
phases_kept rows log marks p q from [] s t each ends kept = tt
phases_kept rows log marks p q from (phase ∷ phases) s t each ends kept = (
  all_parts rows log (IsKeptFrom rows log q ends.0) phase s each.0 each.1
      (λ by a a' answers agrees.
      kept_answers rows log marks p q kept each.0.place ends.0 ends.2 s.place answers agrees.replies agrees.places),
  phases_kept rows log marks p q ends.0 phases each.0 t each.2 ends.3 kept,
)

pub runs_keep : RunsKeepPhasesFromTheirEnds
runs_keep how log marks answers reports left left' told told' faults faults' takes run p p_is q q_is =
    let board : IsBoard run.rows (content p) =
    run.opened (content p) (subst (λ (t : Option Past). Shows t (content p)) (sym p_is) (λ area. refl))
    (subst IsTold (sym q_is) tt) in
    let order = run.faithful.order in
    phases_kept run.rows log marks p q p.clock order.ended (outset run.script) order.last order.each
    (run.ends p p_is q q_is) (takes p p_is q q_is run.rows board).kept
