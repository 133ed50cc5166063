use Rattle.std.proofs.Common.{◌≡◌, take}
use Rattle.std.specs.List.{fold}
use Rattle.clap.specs.Words.{app_of}
use Rattle.program_tools.specs.Level.{bare_level, with_word}
use Rattle.program_tools.proofs.level.level.Given as goal

abbrev pub invariant-loop-word : goal.invariant-loop-word
invariant-loop-word l = app_of l.level ≡ fold with_word bare_level (take l.word-index l.word-items)
