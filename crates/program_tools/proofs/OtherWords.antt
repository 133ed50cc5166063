-- What lists of words ask for, by how many they are.
use Rattle.std.proofs.Common.{◌≡◌, ◌∙◌, ℕ, List, [], ◌∷◌, length, get_or, Option, None, map, refl, ap, ap₂, arith, String, Global}
use Rattle.std.specs.Prelude.{option_and_then, string_bytes}
use Rattle.program_tools.specs.Numbers.{number_of}
use Rattle.program_tools.specs.Words.{asked_of, asked_with, word_of}
use Rattle.program_tools.specs.declared.words.Asked.{Asked}

-- what a text and the text of a number behind the program's name ask for
abbrev asked_by_texts : List ℕ → List ℕ → Option Asked
asked_by_texts text number =
    option_and_then (λ word. option_and_then (asked_with word) (number_of number)) (word_of text)

-- three words ask for that
pub three_words : (words : List (String Global)) (word number : String Global) (text digits : List ℕ)
    (asked : Option Asked) → length words ≡ 3 → word ≡ get_or words 1 word → number ≡ get_or words 2 number
    → text ≡ string_bytes word → digits ≡ string_bytes number → asked ≡ asked_by_texts text digits
    → asked ≡ asked_of (map (λ w. string_bytes w) words)
three_words (a ∷ b ∷ c ∷ []) word number text digits asked three is_word is_number is_text is_digits is =
    is ∙ ap₂ asked_by_texts (is_text ∙ ap string_bytes is_word) (is_digits ∙ ap string_bytes is_number)
three_words words word number text digits asked three is_word is_number is_text is_digits is =
    absurd (omega (arith, three))

-- fewer than two, or more than three, ask for nothing
pub other_words : (words : List (String Global)) → (length words ≡ 2 → ⊥) → (length words ≡ 3 → ⊥)
    → None ≡ asked_of (map (λ w. string_bytes w) words)
other_words [] two three = refl
other_words (a ∷ []) two three = refl
other_words (a ∷ b ∷ []) two three = absurd (two refl)
other_words (a ∷ b ∷ c ∷ []) two three = absurd (three refl)
other_words (a ∷ b ∷ c ∷ d ∷ more) two three = refl
