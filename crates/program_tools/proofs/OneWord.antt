-- What clap makes of one word at the level.
use Rattle.std.proofs.Common.{◌≡◌, ◌∙◌, ℕ, List, [], ◌∷◌, Option, Some, None, refl, sym, ap, subst, true, false, true≢false, inl, inr, ⊎_elim, codes, option_map}
use Rattle.std.specs.Prelude.{Box, option_and_then, find}
use Rattle.std.specs.Str.{bytes_eq}
use Rattle.std.proofs.lemmas.Bool.{cases_Bool}
use Rattle.std.proofs.lemmas.Slice.Eq.{bytes_eq-Decides}
use Rattle.clap.specs.Walk.{Names, Held, Step, Text, value, idle, answers_to, after_step, nothing_held, subcommand_met, subcommand_or_other, walk_from}
use Rattle.clap.specs.Simple.{entered, built, is_simple, names_of, subcommand_of, subcommand_rows, subcommand_rows_of}
use Rattle.clap.specs.declared.parser.matches.ArgMatches.{ArgMatches}
use Rattle.clap.specs.declared.parser.matches.ArgMatches.TheViews.{out-ArgMatches, out-SubCommand}
use Rattle.clap.specs.declared.parser.matches.SubCommand.{SubCommand}
use Rattle.std.specs.Box.{box_value}
use Rattle.clap.specs.Matches.{subcommand_name_of}
use Rattle.clap.specs.Kinds.{HasKind, IsAmong, Kinds}
use Rattle.clap.specs.Values.{kind_of}
use Rattle.clap.specs.declared.error.Error.{Error}
use Rattle.clap.specs.declared.error.kind.ErrorKind.TheVariants.{OutOfMemory}
use Rattle.clap.specs.Faults.{fault_of, is_simple_and_free}
use Rattle.clap.specs.declared.error.kind.ErrorKind.{ErrorKind}
use Rattle.clap.proofs.OnLiterals.{clap_on_literals}
use Rattle.program_tools.specs.Level.{begins_with_hyphen, level}
use Rattle.program_tools.specs.Words.{word_of}
use Rattle.program_tools.specs.declared.word_table.Word.{Word}

-- the level is one of which clap tells just what it makes of the words
pub level_is_simple : is_simple level ≡ true
level_is_simple = refl

pub level_is_simple_and_free : is_simple_and_free level ≡ true
level_is_simple_and_free = refl

-- the word that the name of the subcommand is which clap enters at a text
abbrev pub entered_word : List ℕ → Option Word
entered_word word = option_and_then word_of (option_map (λ p. p.0) (subcommand_of level (word ∷ [])))

other_way : (xs ys : List ℕ) → bytes_eq xs ys ≡ false → bytes_eq ys xs ≡ false
other_way xs ys differs = elim (cases_Bool (bytes_eq ys xs)) [
  | inl same ↦ absurd (true≢false (sym ((bytes_eq-Decides xs ys).1 (sym ((bytes_eq-Decides ys xs).0 same))) ∙ differs))
  | inr other ↦ other
]

-- a text is one of the eight words, or equals none of them
by_word : (P : List ℕ → Type 0) → P (codes "run") → P (codes "routes") → P (codes "locks") → P (codes "prepare")
    → P (codes "records") → P (codes "check") → P (codes "generate") → P (codes "large")
    → ((w : List ℕ) → bytes_eq w (codes "run") ≡ false → bytes_eq w (codes "routes") ≡ false
    → bytes_eq w (codes "locks") ≡ false → bytes_eq w (codes "prepare") ≡ false
    → bytes_eq w (codes "records") ≡ false → bytes_eq w (codes "check") ≡ false
    → bytes_eq w (codes "generate") ≡ false → bytes_eq w (codes "large") ≡ false → P w) → (w : List ℕ) → P w
by_word P run routes locks prepare records check generate large other w = elim (cases_Bool (bytes_eq w (codes "run"))) [
  | inl same ↦ subst P (sym ((bytes_eq-Decides w (codes "run")).0 same)) run
  | inr no-1 ↦ elim (cases_Bool (bytes_eq w (codes "routes"))) [
    | inl same ↦ subst P (sym ((bytes_eq-Decides w (codes "routes")).0 same)) routes
    | inr no-2 ↦ elim (cases_Bool (bytes_eq w (codes "locks"))) [
      | inl same ↦ subst P (sym ((bytes_eq-Decides w (codes "locks")).0 same)) locks
      | inr no-3 ↦ elim (cases_Bool (bytes_eq w (codes "prepare"))) [
        | inl same ↦ subst P (sym ((bytes_eq-Decides w (codes "prepare")).0 same)) prepare
        | inr no-4 ↦ elim (cases_Bool (bytes_eq w (codes "records"))) [
          | inl same ↦ subst P (sym ((bytes_eq-Decides w (codes "records")).0 same)) records
          | inr no-5 ↦ elim (cases_Bool (bytes_eq w (codes "check"))) [
            | inl same ↦ subst P (sym ((bytes_eq-Decides w (codes "check")).0 same)) check
            | inr no-6 ↦ elim (cases_Bool (bytes_eq w (codes "generate"))) [
              | inl same ↦ subst P (sym ((bytes_eq-Decides w (codes "generate")).0 same)) generate
              | inr no-7 ↦ elim (cases_Bool (bytes_eq w (codes "large"))) [
                | inl same ↦ subst P (sym ((bytes_eq-Decides w (codes "large")).0 same)) large
                | inr no-8 ↦ other w no-1 no-2 no-3 no-4 no-5 no-6 no-7 no-8
              ]
            ]
          ]
        ]
      ]
    ]
  ]
]

asks_nothing : (w : List ℕ) → bytes_eq w (codes "run") ≡ false → bytes_eq w (codes "routes") ≡ false
    → bytes_eq w (codes "locks") ≡ false → bytes_eq w (codes "prepare") ≡ false
    → bytes_eq w (codes "records") ≡ false → bytes_eq w (codes "check") ≡ false
    → bytes_eq w (codes "generate") ≡ false → bytes_eq w (codes "large") ≡ false → word_of w ≡ None
asks_nothing w a b c d e f g h = rw (a, b, c, d, e, f, g, h) refl

abbrev level_names : Names
level_names = names_of (built level)

names_nothing : (w : List ℕ) → bytes_eq w (codes "run") ≡ false → bytes_eq w (codes "routes") ≡ false
    → bytes_eq w (codes "locks") ≡ false → bytes_eq w (codes "prepare") ≡ false
    → bytes_eq w (codes "records") ≡ false → bytes_eq w (codes "check") ≡ false
    → bytes_eq w (codes "generate") ≡ false → bytes_eq w (codes "large") ≡ false
    → find (answers_to w) level_names ≡ None
names_nothing w a b c d e f g h =
    rw (
      other_way w (codes "run") a,
      other_way w (codes "routes") b,
      other_way w (codes "locks") c,
      other_way w (codes "prepare") d,
      other_way w (codes "records") e,
      other_way w (codes "check") f,
      other_way w (codes "generate") g,
      other_way w (codes "large") h,
    ) refl

-- a word that names no subcommand and is no flag goes to a positional, of which there is none
stray : (w : List ℕ) → begins_with_hyphen w ≡ false → subcommand_or_other [] None idle 1 w nothing_held
    ≡ (nothing_held, value)
stray [] plain = refl
stray (x ∷ xs) plain = rw plain (rw plain refl)

stops_nowhere : (w : List ℕ) → begins_with_hyphen w ≡ false → find (answers_to w) level_names ≡ None
    → subcommand_of level (w ∷ []) ≡ None
unfolding clap_on_literals
stops_nowhere w plain none =
    let met : subcommand_or_other [] (subcommand_met level_names idle w) idle 1 w nothing_held ≡ (nothing_held, value) =
    ap (λ (found : Option (Text × List Text)). subcommand_or_other []
    (option_map (λ s. s.0) found) idle 1 w nothing_held) none ∙ stray w plain in
    ap (λ (met : Held × Step). entered (built level) ((after_step [] w (walk_from nothing_held) met.0 met.1).stopped))
    met

-- the subcommand that clap enters is the one that the word asks for
pub enters : (w : List ℕ) → begins_with_hyphen w ≡ false → entered_word w ≡ word_of w
unfolding clap_on_literals
enters = by_word (λ w. begins_with_hyphen w ≡ false → entered_word w ≡ word_of w) (λ p. refl) (λ p. refl)
    (λ p. refl) (λ p. refl) (λ p. refl) (λ p. refl) (λ p. refl) (λ p. refl)
    (λ w a b c d e f g h plain. ap (λ (at : Option _). option_and_then word_of (option_map (λ p. p.0) at))
    (stops_nowhere w plain (names_nothing w a b c d e f g h))
    ∙ sym (asks_nothing w a b c d e f g h))

-- an error that isn't want of memory has one of the kinds
pub among : (kinds : Kinds) (e : Error) → (kind_of e ≡ OutOfMemory → ⊥) → HasKind kinds e → IsAmong (kind_of e) kinds
among kinds e not_memory has = ⊎_elim (λ is. absurd (not_memory is)) (λ is. is) has

-- a word that clap refuses asks for nothing
pub refuses : (w : List ℕ) (k : ErrorKind) → IsAmong k (fault_of level (w ∷ [])) → None ≡ word_of w
unfolding clap_on_literals
refuses = by_word (λ w. (k : ErrorKind) → IsAmong k (fault_of level (w ∷ [])) → None ≡ word_of w)
    (λ k among. absurd among) (λ k among. absurd among) (λ k among. absurd among) (λ k among. absurd among)
    (λ k among. absurd among) (λ k among. absurd among) (λ k among. absurd among) (λ k among. absurd among)
    (λ w a b c d e f g h k among. sym (asks_nothing w a b c d e f g h))

name_first : {Z : Type 0} (b : Option (Box SubCommand Z))
    → option_map (λ b. (out-SubCommand (box_value b)).name.now) b ≡ option_map (λ p. p.0) (subcommand_rows b)
name_first None = refl
name_first (Some b) = refl

-- the name of the subcommand that a parse entered stands before its matches
pub name_of_rows : (m : ArgMatches) → subcommand_name_of m ≡ option_map (λ p. p.0) (subcommand_rows_of m)
name_of_rows m = name_first (out-ArgMatches m).subcommand
