use Rattle.std.proofs.Common.{rules, ◌≡◌, ◌∙◌, ap, ap₂, map, [], ◌∷◌, option_map, subst}
use Rattle.std.specs.Prelude.{option_and_then}
use Rattle.clap.specs.Simple.{is_simple, subcommand_of, subcommand_rows_of}
use Rattle.clap.specs.Faults.{fault_of, is_simple_and_free}
use Rattle.clap.specs.Kinds.{HasKind}
use Rattle.clap.specs.Values.{kind_of}
use Rattle.clap.specs.declared.error.kind.ErrorKind.TheVariants.{OutOfMemory}
use Rattle.program_tools.specs.Level.{level}
use Rattle.program_tools.specs.Words.{word_of}
use Rattle.program_tools.proofs.OneWord.{among, enters, refuses, level_is_simple, level_is_simple_and_free, name_of_rows}
use Rattle.program_tools.proofs.level.parse_word.Goals as goal

pub returns-in-Ok : goal.returns-in-Ok
returns-in-Ok c =
    let words_are : map (λ s. s.now) c.as_slice.result.now ≡ c.args.text.now ∷ [] = search rules in
    let rows : subcommand_rows_of c.in-Ok.matches ≡ subcommand_of level (c.args.text.now ∷ []) =
    (c.in-Ok.ensures.matches (ap is_simple c.in_ok-level.ensures ∙ level_is_simple)).1 ∙ ap₂ subcommand_of
    c.in_ok-level.ensures words_are in
    let name : option_map (λ s. s.now) c.subcommand_name.result
    ≡ option_map (λ p. p.0) (subcommand_of level (c.args.text.now ∷ [])) =
    c.subcommand_name.ensures ∙ (name_of_rows c.in-Ok.matches ∙ ap (option_map (λ p. p.0)) rows) in
    let looked : c.and_then.result ≡ option_and_then word_of (option_map (λ s. s.now) c.subcommand_name.result) =
    search rules in
    looked ∙ (ap (option_and_then word_of) name ∙ enters c.args.text.now c.requires)

pub returns : goal.returns
returns c =
    let words_are : map (λ s. s.now) c.as_slice.result.now ≡ c.args.text.now ∷ [] = search rules in
    let kinds = c.in-Err.ensures.kinds (ap is_simple_and_free c.in_ok-level.ensures ∙ level_is_simple_and_free) in
    let not_memory : kind_of c.in-Err.error ≡ OutOfMemory → ⊥ = search rules in
    refuses c.args.text.now (kind_of c.in-Err.error) (among _ c.in-Err.error not_memory
    (subst (λ kinds. HasKind kinds c.in-Err.error) (ap₂ fault_of c.in_ok-level.ensures words_are) kinds))
