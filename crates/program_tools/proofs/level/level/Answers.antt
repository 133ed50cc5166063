use Rattle.std.proofs.Common.{arith, ◌≡◌, ◌∙◌, ap, ap₂, sym, true, ℕ, List, [], ◌∷◌, take}
use Rattle.std.specs.List.{fold}
use Rattle.std.proofs.lemmas.List.Sums.{fold_more}
use Rattle.clap.specs.Simple.{App, app_of_fields, on_top, with_subcommand}
use Rattle.program_tools.specs.Level.{bare_level, with_word}
use Rattle.program_tools.specs.declared.word_table.Word.{Word}
use Rattle.program_tools.specs.declared.word_table.Word.TheVariants.{Run, Routes, Locks, Prepare, Records, Check, Generate, Large}
use Rattle.program_tools.proofs.level.level.Goals as goal

abbrev all : List Word
all = Run ∷ Routes ∷ Locks ∷ Prepare ∷ Records ∷ Check ∷ Generate ∷ Large ∷ []

pub loop-word-init : goal.loop-word-init
loop-word-init c =
    ap app_of_fields c.disable_version_flag-level.ensures
    ∙ ap (on_top (λ s. record s { disable_version_flag = true })) (ap app_of_fields c.disable_help_subcommand.ensures
    ∙ ap (on_top (λ s. record s { disable_help_subcommand = true })) (ap app_of_fields c.disable_help_flag.ensures
    ∙ ap (on_top (λ s. record s { disable_help_flag = true })) (ap app_of_fields c.subcommand_required.ensures
    ∙ ap (on_top (λ s. record s { subcommand_required = true })) (ap app_of_fields c.no_binary_name.ensures
    ∙ ap (on_top (λ s. record s { no_binary_name = true })) c.new.ensures.app))))

pub loop-word-preserved : goal.loop-word-preserved
loop-word-preserved c =
    c.in_ok-level.ensures.shape c.subcommand.ensures.local
    ∙ (ap₂ with_subcommand c.loop-word.invariant (ap (λ (a : App). a.top) c.subcommand.ensures.app)
    ∙ sym (fold_more with_word bare_level all c.loop-word.word-index Run c.loop-word-test.true))

pub returns : goal.returns
returns c =
    let at_end : c.loop-word.word-index ≡ 8 = omega arith in
    c.loop-word.invariant ∙ ap (λ (n : ℕ). fold with_word bare_level (take n all)) at_end
