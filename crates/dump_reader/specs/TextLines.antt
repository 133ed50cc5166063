-- The lines of a text that are not blank, with their numbers.
use Rattle.std.specs.Prelude.{ℕ, ◌+◌, List, [], ◌∷◌, Bool, not, ◌==◌, ◌||◌, filter, if◌then◌else◌}
use Rattle.std.specs.List.{list_all}
use Rattle.dump_reader.specs.declared.text_lines.TextLine.{TextLine}
use Rattle.dump_reader.specs.declared.text_lines.Rest.{Rest}

-- the byte that ends a line
abbrev pub is_newline : ℕ → Bool
is_newline byte = byte == 10

-- the lines, with a byte before the first
abbrev pub onto_first : ℕ → List (List ℕ) → List (List ℕ)
onto_first byte [] = (byte ∷ []) ∷ []
onto_first byte (line ∷ lines) = (byte ∷ line) ∷ lines

-- what stands before each newline, and what stands behind the last if there is any
abbrev pub lines_of : List ℕ → List (List ℕ)
lines_of [] = []
lines_of (byte ∷ bytes) = if is_newline byte then [] ∷ lines_of bytes else onto_first byte (lines_of bytes)

-- a space, a tab or a carriage return
abbrev pub is_space : ℕ → Bool
is_space byte = byte == 32 || (byte == 9 || byte == 13)

-- a line that says nothing
abbrev pub is_blank : List ℕ → Bool
is_blank line = list_all is_space line

-- a line and its number
pub record NumberedLine : Type 0 where
  pub number : ℕ
  pub text : List ℕ

-- each line with its number, where the first has this one
abbrev pub numbered : ℕ → List (List ℕ) → List NumberedLine
numbered n [] = []
numbered n (line ∷ lines) = record { number = n; text = line } ∷ numbered (n + 1) lines

-- the lines that aren't blank, where the first of all has this number
abbrev pub nonblank_from : ℕ → List ℕ → List NumberedLine
nonblank_from n bytes = filter (λ line. not (is_blank line.text)) (numbered n (lines_of bytes))

-- the lines of a text that aren't blank; lines count from 1
abbrev pub nonblank_lines : List ℕ → List NumberedLine
nonblank_lines bytes = nonblank_from 1 bytes

-- a line, apart from where its text lies
abbrev pub line_view : TextLine → NumberedLine
line_view line = record { number = line.number; text = line.text.now }

-- the lines that aren't blank of what hasn't been read
abbrev pub nonblank_in : Rest → List NumberedLine
nonblank_in rest = nonblank_from rest.number rest.bytes.now
