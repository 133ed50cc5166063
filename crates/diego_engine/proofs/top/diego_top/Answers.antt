use Rattle.std.proofs.Common.{sym, ◌∙◌, ap, ℕ, inl, inr}
use Rattle.std.specs.Prelude.{◌==◌}
use Rattle.program_ends.specs.Opening.{is_before_board}
use Rattle.diego_engine.proofs.Exactly.{reached_from, stopped_at, no_board_from, too_much_from}
use Rattle.diego_engine.proofs.Faithful.{headline_from}
use Rattle.diego_engine.proofs.NumberLaws.{large_from, number_complete}
use Rattle.diego_engine.proofs.Recoveries.{doubts_from}
use Rattle.diego_engine.proofs.Serial.{serially}
use Rattle.diego_engine.proofs.TopLaws.{usage_from, usage_to, script_from, unwritten_from, unstored_from, refused_from, too_long_from, exists_from, untouched_from, done_from, complete_from, no_script_from}
use Rattle.diego_engine.proofs.top.diego_top.Goals as goal

pub returns-clause-headline : goal.returns-clause-headline
returns-clause-headline g c is =
    let (how, status, ends) = c.whole_top.ensures.ends in (
      how,
      status,
      headline_from g.D.Disk.told g.D.Disk.fault_count g.D.Disk.moment _
          c.played_runs_are_faithful.ensures.ends _ _ _ _ _ _ how _ is ends,
    )

pub returns-clause-doubts : goal.returns-clause-doubts
returns-clause-doubts g c = let (how, status, ends) = c.whole_top.ensures.ends in
    doubts_from g.D.Disk.told g.D.Disk.fault_count g.D.Disk.moment _ _ _ _ _ _ _ how _ ends

pub returns-clause-usage : goal.returns-clause-usage
returns-clause-usage g c =
    let (how, status, ends) = c.whole_top.ensures.ends in (
      λ n. usage_from g.D.Disk.told g.D.Disk.fault_count g.D.Disk.moment _ _ _ _ _ _ _ how _ (sym status ∙ n) ends,
      λ is.
          status ∙ usage_to g.D.Disk.told g.D.Disk.fault_count g.D.Disk.moment _ _ _ _ _ _ _ how _ is ends,
    )

pub returns-clause-script : goal.returns-clause-script
returns-clause-script g c n = let (how, status, ends) = c.whole_top.ensures.ends in
    script_from g.D.Disk.told g.D.Disk.fault_count g.D.Disk.moment _ _ _ _ _ _ _ how _ (sym status ∙ n) ends

pub returns-clause-unwritten : goal.returns-clause-unwritten
returns-clause-unwritten g c n = let (how, status, ends) = c.whole_top.ensures.ends in
    unwritten_from g.D.Disk.told g.D.Disk.fault_count g.D.Disk.moment _ _ _ _ _ _ _ how _ (sym status ∙ n) ends

pub returns-clause-unstored : goal.returns-clause-unstored
returns-clause-unstored g c n = let (how, status, ends) = c.whole_top.ensures.ends in
    unstored_from g.D.Disk.told g.D.Disk.fault_count g.D.Disk.moment _ _ _ _ _ _ _ how _ (sym status ∙ n) ends

pub returns-clause-refused : goal.returns-clause-refused
returns-clause-refused g c n = let (how, status, ends) = c.whole_top.ensures.ends in
    refused_from g.D.Disk.told g.D.Disk.fault_count g.D.Disk.moment _ _ _ _ _ _ _ how _ (sym status ∙ n) ends

pub returns-clause-too_long : goal.returns-clause-too_long
returns-clause-too_long g c n = let (how, status, ends) = c.whole_top.ensures.ends in
    too_long_from g.D.Disk.told g.D.Disk.fault_count g.D.Disk.moment _ _ _ _ _ _ _ how _ (sym status ∙ n) ends

pub returns-clause-exists : goal.returns-clause-exists
returns-clause-exists g c n = let (how, status, ends) = c.whole_top.ensures.ends in
    exists_from g.D.Disk.told g.D.Disk.fault_count g.D.Disk.moment _ _ _ _ _ _ _ how _ (sym status ∙ n) ends

pub returns-clause-untouched : goal.returns-clause-untouched
returns-clause-untouched g c n =
    let (how, status, ends) = c.whole_top.ensures.ends in
    untouched_from g.D.Disk.told g.D.Disk.fault_count g.D.Disk.moment _ _ _ _ _ _ _ how _
    (ap is_before_board (sym status) ∙ n) ends

pub returns-clause-complete : goal.returns-clause-complete
returns-clause-complete g c meets source sink disk =
    let (how, status, ends) = c.whole_top.ensures.ends in
    elim (complete_from g.D.Disk.told g.D.Disk.fault_count g.D.Disk.moment _ _ _ _ _ _ _ how _ ends meets disk.0
    (λ n. source (c.whole_top.ensures.read.rose (ap (λ (m : ℕ). m == 3) (status ∙ n)))) sink disk.1) [
      | inl n ↦ inl (status ∙ n)
      | inr n ↦ inr (status ∙ n)
    ]

pub returns-clause-done : goal.returns-clause-done
returns-clause-done g c n is = let (how, status, ends) = c.whole_top.ensures.ends in
    (how, done_from g.D.Disk.told g.D.Disk.fault_count g.D.Disk.moment _ _ _ _ _ _ _ how _ (sym status ∙ n) is ends)

pub returns-clause-serial : goal.returns-clause-serial
returns-clause-serial g c n is =
    let (how, status, ends) = c.whole_top.ensures.ends in (
      how,
      serially g.D.Disk.told g.D.Disk.fault_count g.D.Disk.moment _ c.runs_are_alone.ensures _ _ _ _ _
          (done_from g.D.Disk.told g.D.Disk.fault_count g.D.Disk.moment _ _ _ _ _ _ _ how _ (sym status ∙ n) is ends),
    )

pub returns-clause-no_script : goal.returns-clause-no_script
returns-clause-no_script g c fault tells source =
    let (how, status, ends) = c.whole_top.ensures.ends in
    elim (no_script_from g.D.Disk.told g.D.Disk.fault_count g.D.Disk.moment _ _ _ _ _ _ _ how _ fault ends tells
    (λ n. source (c.whole_top.ensures.read.rose (ap (λ (m : ℕ). m == 3) (status ∙ n))))) [
      | inl n ↦ inl (status ∙ n)
      | inr n ↦ inr (status ∙ n)
    ]

pub returns-clause-stopped : goal.returns-clause-stopped
returns-clause-stopped g c wanted meets well disk =
    let (how, status, ends) = c.whole_top.ensures.ends in
    stopped_at g.D.Disk.told g.D.Disk.fault_count g.D.Disk.moment _ _ _ _ _ _ _ c.whole_top.result.status how _ wanted _
    _ status ends meets well
    (λ n. c.whole_top.ensures.read.rose (ap (λ (m : ℕ). m == 3) (status ∙ n))) disk.0 disk.1

pub returns-clause-no_board : goal.returns-clause-no_board
returns-clause-no_board g c meets source disk =
    let (how, status, ends) = c.whole_top.ensures.ends in
    elim (no_board_from g.D.Disk.told g.D.Disk.fault_count g.D.Disk.moment _ _ _ _ _ _ _ how _ ends meets disk.0
    (λ n. source (c.whole_top.ensures.read.rose (ap (λ (m : ℕ). m == 3) (status ∙ n)))) disk.1) [
      | inl n ↦ inl (status ∙ n)
      | inr n ↦ inr (status ∙ n)
    ]

pub returns-clause-too_much : goal.returns-clause-too_much
returns-clause-too_much g c is tells source =
    let (how, status, ends) = c.whole_top.ensures.ends in
    elim (too_much_from g.D.Disk.told g.D.Disk.fault_count g.D.Disk.moment _ _ _ _ _ _ _ how _ is ends tells
    (λ n. source (c.whole_top.ensures.read.rose (ap (λ (m : ℕ). m == 3) (status ∙ n))))) [
      | inl n ↦ inl (status ∙ n)
      | inr n ↦ inr (status ∙ n)
    ]

pub returns-clause-reached : goal.returns-clause-reached
returns-clause-reached g c n = let (how, status, ends) = c.whole_top.ensures.ends in
    reached_from g.D.Disk.told g.D.Disk.fault_count g.D.Disk.moment _ _ _ _ _ _ _ how _ (sym status ∙ n) ends

pub returns-clause-complete_number : goal.returns-clause-complete_number
returns-clause-complete_number g c is sink =
    let (how, status, ends) = c.whole_top.ensures.ends in
    elim (number_complete _ _ _ g.D.Disk.told g.D.Disk.fault_count g.D.Disk.moment _ _ _ _ how _ is ends sink) [
      | inl n ↦ inl (status ∙ n)
      | inr n ↦ inr (status ∙ n)
    ]

pub returns-clause-large : goal.returns-clause-large
returns-clause-large g c number is = let (how, status, ends) = c.whole_top.ensures.ends in
    (how, status, large_from _ _ _ g.D.Disk.told g.D.Disk.fault_count g.D.Disk.moment _ _ _ _ how _ number is ends)
