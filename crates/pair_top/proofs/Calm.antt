-- Where no disk failed nothing is in doubt.
use Rattle.std.proofs.Common.{◌≡◌, ℕ, ◌+◌, Bool, true, false, List, [], ◌∷◌, ◌++◌, Option, Some, None, Ok, Err, refl, ◌∙◌, arith}
use Rattle.std.specs.Prelude.{◌||◌}
use Rattle.bbs_board.specs.Doubts.{doubts_in}
use Rattle.bbs_model.specs.declared.command.Command.{Command}
use Rattle.bbs_model.specs.declared.item.Item.{Item}
use Rattle.bbs_model.specs.declared.item.Item.TheVariants.{Done, Doubt}
use Rattle.bbs_model.specs.declared.reply.Reply.TheVariants as reply
use Rattle.pair_lines.specs.declared.answered.PairAnswered.{PairAnswered}
use Rattle.pair_runs.specs.Accounts.{is_any_disk, is_disk_outcome, items_by, items_in, items_of, outcome_of}
use Rattle.standby_board.specs.Calls.{End}
use Rattle.standby_board.specs.declared.answers.PairFault.TheVariants as fault
use Rattle.standby_board.specs.declared.answers.PairReply.TheVariants as pair

doubts_append : (xs ys : List Item) → doubts_in (xs ++ ys) ≡ doubts_in xs + doubts_in ys
doubts_append [] ys = omega arith
doubts_append (Done by c ∷ xs) ys = doubts_append xs ys
doubts_append (Doubt by c ∷ xs) ys = let rest = doubts_append xs ys in omega (arith, rest)

calm_by : (o : Option End) (by : ℕ) (c : Command) → is_disk_outcome o ≡ false → doubts_in (items_by o by c) ≡ 0
calm_by None by c calm = refl
calm_by (Some (Ok (pair.Reply (reply.Ok place stamp)))) by c calm = refl
calm_by (Some (Ok (pair.Reply (reply.Same place)))) by c calm = refl
calm_by (Some (Ok (pair.Reply (reply.Refused why place)))) by c calm = refl
calm_by (Some (Ok (pair.StaleFence greatest))) by c calm = refl
calm_by (Some (Err (fault.Disk place))) by c calm = absurd (cc (calm))
calm_by (Some (Err (fault.StandbyDisk place))) by c calm = absurd (cc (calm))
calm_by (Some (Err (fault.Behind place))) by c calm = absurd (cc (calm))
calm_by (Some (Err fault.OutOfMemory)) by c calm = refl

or_first : (a b : Bool) → a || b ≡ false → a ≡ false
or_first true b h = absurd (cc (h))
or_first false b h = refl

or_second : (a b : Bool) → a || b ≡ false → b ≡ false
or_second true b h = absurd (cc (h))
or_second false b h = h

pub calm_items : (xs : List PairAnswered) → is_any_disk xs ≡ false → doubts_in (items_in xs) ≡ 0
calm_items [] calm = refl
calm_items (a ∷ xs) calm =
    let own : doubts_in (items_of a) ≡ 0 = calm_by (outcome_of a.end) a.actor a.command
    (or_first (is_disk_outcome (outcome_of a.end)) (is_any_disk xs) calm) in
    let rest : doubts_in (items_in xs) ≡ 0 = calm_items xs
    (or_second (is_disk_outcome (outcome_of a.end)) (is_any_disk xs) calm) in
    doubts_append (items_of a) (items_in xs) ∙ omega (arith, own, rest)
