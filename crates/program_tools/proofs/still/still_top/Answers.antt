use Rattle.std.proofs.Common.{◌∙◌, ◌==◌, ℕ, sym, ap, inl, inr}
use Rattle.program_tools.proofs.AskedLaws.{usage_from, usage_to, script_from, too_long_from, unwritten_from, unstored_from, refused_from, exists_from, complete_from, stopped_at, asked_as}
use Rattle.program_tools.proofs.still.still_top.Goals as goal

pub returns-clause-ends : goal.returns-clause-ends
returns-clause-ends g c =
    let (how, status, ends) = c.asked_top.ensures.ends in
    (how, status, asked_as _ _ _ _ _ _ how _ _ c.read_words.ensures ends)

pub returns-clause-usage : goal.returns-clause-usage
returns-clause-usage g c =
    let (how, status, ends) = c.asked_top.ensures.ends in (
      λ n. sym c.read_words.ensures ∙ usage_from _ _ _ _ _ _ how _ (sym status ∙ n) ends,
      λ is. status ∙ usage_to _ _ _ _ _ _ how _ (c.read_words.ensures ∙ is) ends,
    )

pub returns-clause-script : goal.returns-clause-script
returns-clause-script g c n =
    let (how, status, ends) = c.asked_top.ensures.ends in
    script_from _ _ _ _ _ _ how _ (sym status ∙ n) (asked_as _ _ _ _ _ _ how _ _ c.read_words.ensures ends)

pub returns-clause-unwritten : goal.returns-clause-unwritten
returns-clause-unwritten g c n = let (how, status, ends) = c.asked_top.ensures.ends in
    unwritten_from _ _ _ _ _ _ how _ (sym status ∙ n) ends

pub returns-clause-unstored : goal.returns-clause-unstored
returns-clause-unstored g c n = let (how, status, ends) = c.asked_top.ensures.ends in
    unstored_from _ _ _ _ _ _ how _ (sym status ∙ n) ends

pub returns-clause-refused : goal.returns-clause-refused
returns-clause-refused g c n =
    let (how, status, ends) = c.asked_top.ensures.ends in
    refused_from _ _ _ _ _ _ how _ (sym status ∙ n) (asked_as _ _ _ _ _ _ how _ _ c.read_words.ensures ends)

pub returns-clause-too_long : goal.returns-clause-too_long
returns-clause-too_long g c n = let (how, status, ends) = c.asked_top.ensures.ends in
    too_long_from _ _ _ _ _ _ how _ (sym status ∙ n) ends

pub returns-clause-exists : goal.returns-clause-exists
returns-clause-exists g c n =
    let (how, status, ends) = c.asked_top.ensures.ends in
    exists_from _ _ _ _ _ _ how _ (sym status ∙ n) (asked_as _ _ _ _ _ _ how _ _ c.read_words.ensures ends)

pub returns-clause-complete : goal.returns-clause-complete
returns-clause-complete g c meets well told sink disk =
    let (how, status, ends) = c.asked_top.ensures.ends in
    elim (complete_from _ _ _ _ _ _ how _ _ _ (asked_as _ _ _ _ _ _ how _ _ c.read_words.ensures ends) meets well
    (λ n. c.asked_top.ensures.read.rose (ap (λ (m : ℕ). m == 3) (status ∙ n))) told sink disk) [
      | inl n ↦ inl (status ∙ n)
      | inr n ↦ inr (status ∙ n)
    ]

pub returns-clause-stopped : goal.returns-clause-stopped
returns-clause-stopped g c wanted meets well told disk =
    let (how, status, ends) = c.asked_top.ensures.ends in
    stopped_at _ _ _ _ _ _ c.asked_top.result.status how _ wanted _ _ status
    (asked_as _ _ _ _ _ _ how _ _ c.read_words.ensures ends) meets well
    (λ n. c.asked_top.ensures.read.rose (ap (λ (m : ℕ). m == 3) (status ∙ n))) told disk
