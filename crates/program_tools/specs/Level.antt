-- The words as one level of clap's subcommands.
use Rattle.std.specs.Prelude.{ℕ, Bool, true, false, List, [], ◌∷◌, ◌==◌, codes, fold}
use Rattle.clap.specs.Simple.{App, new_app, new_shape, on_top, with_subcommand}
use Rattle.program_tools.specs.Words.{text_for}
use Rattle.program_tools.specs.declared.word_table.Word.{Word}
use Rattle.program_tools.specs.declared.word_table.Word.TheVariants.{Run, Routes, Locks, Prepare, Records, Check, Generate, Large}

-- the word begins with a hyphen (45), as an option does
abbrev pub begins_with_hyphen : List ℕ → Bool
begins_with_hyphen [] = false
begins_with_hyphen (x ∷ xs) = x == 45

-- a level with no subcommand yet, which wants one, and without what clap adds of its own
abbrev pub bare_level : App
bare_level = on_top (λ s. record s {
  no_binary_name = true;
  subcommand_required = true;
  disable_help_flag = true;
  disable_help_subcommand = true;
  disable_version_flag = true;
}) (new_app (codes "diego"))

-- a level with one subcommand more
abbrev pub with_word : App → Word → App
with_word level word = with_subcommand level (new_shape (text_for word))

-- the level of the program's words
abbrev pub level : App
level = fold with_word bare_level (Run ∷ Routes ∷ Locks ∷ Prepare ∷ Records ∷ Check ∷ Generate ∷ Large ∷ [])
