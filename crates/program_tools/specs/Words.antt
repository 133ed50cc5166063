-- The words that the program is started with.
use Rattle.std.specs.Prelude.{ℕ, Bool, true, false, ◌||◌, List, [], ◌∷◌, Option, Some, None, codes, if◌then◌else◌, option_and_then}
use Rattle.std.specs.Str.{bytes_eq}
use Rattle.program_tools.specs.Numbers.{number_of}
use Rattle.program_tools.specs.declared.word_table.Word.{Word}
use Rattle.program_tools.specs.declared.word_table.Word.TheVariants as word
use Rattle.program_tools.specs.declared.words.Asked.{Asked}
use Rattle.program_tools.specs.declared.words.Asked.TheVariants.{Run, Routes, Locks, Prepare, Records, Check, Generate, Large}

-- the text of a word
abbrev pub text_for : Word → List ℕ
text_for word.Run = codes "run"
text_for word.Routes = codes "routes"
text_for word.Locks = codes "locks"
text_for word.Prepare = codes "prepare"
text_for word.Records = codes "records"
text_for word.Check = codes "check"
text_for word.Generate = codes "generate"
text_for word.Large = codes "large"

-- the word that a text is
abbrev pub word_of : List ℕ → Option Word
word_of text =
    if bytes_eq text (codes "run") then Some word.Run
    else (if bytes_eq text (codes "routes") then Some word.Routes
    else (if bytes_eq text (codes "locks") then Some word.Locks
    else (if bytes_eq text (codes "prepare") then Some word.Prepare
    else (if bytes_eq text (codes "records") then Some word.Records
    else (if bytes_eq text (codes "check") then Some word.Check
    else (if bytes_eq text (codes "generate") then Some word.Generate
    else (if bytes_eq text (codes "large") then Some word.Large
    else None)))))))

-- what a word asks for that stands alone
abbrev pub asked_alone : Word → Option Asked
asked_alone word.Run = Some Run
asked_alone word.Routes = Some Routes
asked_alone word.Locks = Some Locks
asked_alone word.Prepare = Some Prepare
asked_alone word.Records = Some Records
asked_alone word.Check = Some Check
asked_alone word.Generate = None
asked_alone word.Large = None

-- what a word asks for that stands before this number
abbrev pub asked_with : Word → ℕ → Option Asked
asked_with word.Generate number = Some (Generate number)
asked_with word.Large number = Some (Large number)
asked_with other number = None

-- what the program's name asks for with one word behind it, or with a word and a number
abbrev pub asked_of : List (List ℕ) → Option Asked
asked_of (program ∷ text ∷ []) = option_and_then asked_alone (word_of text)
asked_of (program ∷ text ∷ number ∷ []) =
    option_and_then (λ w. option_and_then (asked_with w) (number_of number)) (word_of text)
asked_of _ = None

-- they ask for the run of a scenario that the source gives, on the board of the disk
abbrev pub asks_for_run : Option Asked → Bool
asks_for_run (Some Run) = true
asks_for_run (Some Routes) = true
asks_for_run other = false

-- the number of the scenario that they ask to run in memory
abbrev pub number_to_run : Option Asked → Option ℕ
number_to_run (Some (Large number)) = Some number
number_to_run other = None

-- they ask for a run, whose actors may wait for one another
abbrev pub asks_to_play : Option Asked → Bool
asks_to_play (Some (Large number)) = true
asks_to_play other = asks_for_run other

-- they ask for a scenario that is made of a number
abbrev pub asks_for_number : Option Asked → Bool
asks_for_number (Some (Generate number)) = true
asks_for_number (Some (Large number)) = true
asks_for_number other = false

-- they ask for a script of lock commands
abbrev pub asks_for_locks : Option Asked → Bool
asks_for_locks (Some Locks) = true
asks_for_locks other = false

-- they ask for what the source tells
abbrev pub asks_for_source : Option Asked → Bool
asks_for_source asked = asks_for_run asked || asks_for_locks asked
