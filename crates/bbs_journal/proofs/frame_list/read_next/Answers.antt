use Rattle.std.proofs.Common.{refl, subst, List, ℕ}
use Rattle.bbs_journal.specs.Reading.{IsAt}
use Rattle.bbs_journal.proofs.Pieces.{at_piece, within_piece}
use Rattle.bbs_journal.proofs.frame_list.read_next.Goals as goal

pub returns-clause-shows : goal.returns-clause-shows
returns-clause-shows g c c' shows len old =
    let both = c.in_ok-reach.ensures.shows refl c' shows len old in
    let here = subst (λ (l : List ℕ). IsAt c.in_ok-next_frame.field-0 l) c.part.ensures c.in_ok-next_frame.ensures in (
      both.1,
      at_piece c.reach.new.self (c' c.args.area) c.args.at c.args.len c.in_ok-next_frame.field-0
          (c.in_ok-reach.ensures.covers refl) c.requires.within both.0 len both.1 here,
    )

pub returns-clause-within : goal.returns-clause-within
returns-clause-within g c =
    within_piece c.reach.new.self c.args.at c.args.len c.in_ok-next_frame.field-0
    (subst (λ (l : List ℕ). IsAt c.in_ok-next_frame.field-0 l) c.part.ensures c.in_ok-next_frame.ensures)
