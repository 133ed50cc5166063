-- Every dump that is read keeps what a dump has to.
use Rattle.std.proofs.Common.{◌≡◌, ◌∙◌, ℕ, zero, suc, ◌≤◌, Bool, true, false, ◌||◌, ◌&&◌, nat_lt, if◌then◌else◌, List, [], ◌∷◌, ◌++◌, length, Option, Some, None, Result, Ok, Err, IfOk, refl, sym, subst, arith}
use Rattle.std.specs.List.{All, Contains, list_all, list_any}
use Rattle.std.specs.Cmp.Lexicographic.{bytes_decides}
use Rattle.std.proofs.lemmas.List.Folds.{list_any-append}
use Rattle.std.proofs.lemmas.Map.Views.{Contains-from_any}
use Rattle.dump_lines.proofs.Public.{line_of-sound}
use Rattle.dump_lines.specs.Facts.{IsLine, IsQuestion}
use Rattle.dump_lines.specs.Lines.{line_of}
use Rattle.dump_lines.specs.declared.dump_line.DumpLine.{DumpLine}
use Rattle.dump_lines.specs.declared.fault.LineFault.{LineFault}
use Rattle.dump_lines.specs.declared.question.Each.{Each}
use Rattle.dump_lines.specs.declared.question.Each.TheVariants.{Zone, Cell, Pair}
use Rattle.dump_lines.specs.declared.question.Question.{Question}
use Rattle.dump_lines.specs.declared.question.Question.TheVariants.{Show, Lose, LoseEach, LoseInTurn, Drain, Fit}
use Rattle.dump_reader.specs.Accepted.{accepted, answerable, dump_of, no_dump, step_on}
use Rattle.dump_reader.specs.Answerable.{asks_of_known, asks_pairs, first_fault, is_known_cell, is_known_zone, or_later, question_fault}
use Rattle.dump_reader.specs.Facts.{AllDiffer, IsAnswerable, IsDump, IsModest}
use Rattle.dump_reader.specs.Faults.{◌>>=◌, FaultAt, GivesDump, or_line_fault, said_on, unless}
use Rattle.dump_reader.specs.Lines.{admit, asks_too_much, is_same_name, repeats}
use Rattle.dump_reader.specs.Names.{cells_asked, cells_listed, cells_of_states, zones_asked, zones_listed, zones_of_states}
use Rattle.dump_reader.specs.TextLines.{NumberedLine, nonblank_lines}
use Rattle.dump_reader.specs.declared.dump.Asked.{Asked}
use Rattle.dump_reader.specs.declared.dump.Dump.{Dump}
use Rattle.dump_reader.specs.declared.fault.DumpError.{DumpError}
use Rattle.dump_reader.specs.declared.fault.DumpFault.{DumpFault}
use Rattle.dump_reader.specs.declared.fault.DumpFault.TheVariants.{Twice, TooMuch, Unknown}
use Rattle.dump_reader.proofs.Differing.{differ-all, differ-none, same-name, within-limit}
use Rattle.dump_reader.proofs.Kept.{IsAsked, IsKept, admit-kept, none-kept}

-- what holds of what follows, holds of it behind what was read
ok-then : {X Y : Type 0} (r : Result X FaultAt) (f : X → Result Y FaultAt) (P : X → Type 0) (Q : Y → Type 0) → IfOk r P
    → ((x : X) → P x → IfOk (f x) Q) → IfOk (r >>= f) Q
ok-then (Ok x) f P Q known more = more x known
ok-then (Err fault) f P Q known more = tt

line-sound : (n : ℕ) (r : Result DumpLine LineFault) → IfOk r IsLine → IfOk (or_line_fault n r) IsLine
line-sound n (Ok line) known = known
line-sound n (Err fault) known = tt

-- lines are read to what a dump keeps
lines-kept : (lines : List NumberedLine) (dump : Dump) → IsKept dump → IfOk (accepted dump lines) IsKept
lines-kept [] dump kept = kept
lines-kept (line ∷ lines) dump kept =
    ok-then (step_on dump line) (λ next. accepted next lines) IsKept IsKept
    (ok-then (said_on line) (admit dump line.number) IsLine IsKept
    (line-sound line.number (line_of line.text) (line_of-sound line.text))
    (λ said is. admit-kept dump line.number said is kept))
    (λ next known. lines-kept lines next known)

-- where one test of all fails
all_pass : {X : Type 0} (p : X → Bool) (xs : List X) → list_all p xs ≡ true → All (λ x. p x ≡ true) xs
all_pass p [] all k d h = absurd (omega arith)
all_pass p (x ∷ xs) all zero d h = first_true (p x) (list_all p xs) all
  where
    first_true : (a b : Bool) → (a && b) ≡ true → a ≡ true
    first_true true b h = refl
    first_true false b h = h
all_pass p (x ∷ xs) all (suc k) d h = all_pass p xs (second_true (p x) (list_all p xs) all) k d (omega arith)
  where
    second_true : (a b : Bool) → (a && b) ≡ true → b ≡ true
    second_true true b h = h
    second_true false b h = cc

-- a name that one of two lists has is in both together
named-in : (xs ys : List (List ℕ)) (name : List ℕ) → (list_any (is_same_name name) xs || list_any
    (is_same_name name) ys) ≡ true → Contains (xs ++ ys) name
named-in xs ys name h =
    Contains-from_any {eq = is_same_name} (λ x y same. (bytes_decides x y).0 same) name (xs ++ ys)
    (list_any-append (is_same_name name) xs ys ∙ h)

-- a question without a fault
record IsFine (dump : Dump) (question : Question) : Type 0 where
  pub once : repeats is_same_name [] (cells_asked question) ≡ false
  pub pairs : (asks_pairs question && nat_lt 200 (length dump.states)) ≡ false
  pub known : asks_of_known dump question ≡ true

by-tests : (dump : Dump) (question : Question) (a b c : Bool) → repeats is_same_name [] (cells_asked question) ≡ a
    → (asks_pairs question && nat_lt 200 (length dump.states)) ≡ b → asks_of_known dump question ≡ c
    → (if a then Some Twice else (if b then Some TooMuch else (if c then None else Some Unknown))) ≡ None
    → IsFine dump question
by-tests dump question true b c once pairs known none = cc
by-tests dump question false true c once pairs known none = cc
by-tests dump question false false true once pairs known none = record { once = once; pairs = pairs; known = known }
by-tests dump question false false false once pairs known none = cc

fine : (dump : Dump) (question : Question) → question_fault dump question ≡ None → IsFine dump question
fine dump question none = by-tests dump question _ _ _ refl refl refl none

both_true : (a b : Bool) → (a && b) ≡ true → (a ≡ true) × (b ≡ true)
both_true true true h = (refl, refl)
both_true true false h = cc
both_true false b h = cc

modest : (n : ℕ) (question : Question) → IsAsked question → (asks_pairs question && nat_lt 200 n) ≡ false
    → IsModest n question
modest n Show asked pairs = tt
modest n (Lose cells zones) asked pairs = asked.something
modest n (LoseEach Zone) asked pairs = tt
modest n (LoseEach Cell) asked pairs = tt
modest n (LoseEach Pair) asked pairs = within-limit 200 n pairs
modest n (LoseInTurn order at_least) asked pairs = tt
modest n (Drain at_a_time cells) asked pairs = asked.something.0
modest n (Fit process instances demand) asked pairs = within-limit 50000 instances asked.modest

-- a question without a fault can be answered
answer : (dump : Dump) (question : Question) → IsAsked question → IsFine dump question → IsAnswerable dump question
answer dump question asked is =
    let both = both_true (list_all (is_known_cell dump) (cells_asked question))
    (list_all (is_known_zone dump) (zones_asked question)) is.known in
    record {
      once = differ-all is_same_name same-name [] (cells_asked question) is.once differ-none;
      cells = λ k d h. named-in (cells_of_states dump) (cells_listed dump) _
          (all_pass (is_known_cell dump) (cells_asked question) both.0 k d h);
      zones = λ k d h. named-in (zones_of_states dump) (zones_listed dump) _
          (all_pass (is_known_zone dump) (zones_asked question) both.1 k d h);
      modest = modest (length dump.states) question asked is.pairs;
    }

none-first : (a : Option DumpFault) (line : ℕ) (later : Option FaultAt) → or_later a line later ≡ None
    → (a ≡ None) × (later ≡ None)
none-first None line later h = (refl, h)
none-first (Some fault) line later h = cc

all-fine : (dump : Dump) (questions : List Asked) → first_fault dump questions ≡ None
    → All (λ a. IsFine dump a.question) questions
all-fine dump [] none k d h = absurd (omega arith)
all-fine dump (asked ∷ more) none zero d h = fine dump asked.question
    (none-first (question_fault dump asked.question) asked.line (first_fault dump more) none).0
all-fine dump (asked ∷ more) none (suc k) d h =
    all-fine dump more (none-first (question_fault dump asked.question) asked.line (first_fault dump more) none).1 k d
    (omega arith)

whole : (dump : Dump) → IsKept dump → All (λ a. IsFine dump a.question) dump.questions → IsDump dump
whole dump kept all = record {
  cells = kept.cells;
  once = kept.once;
  limits = kept.limits;
  ordinary = kept.ordinary;
  questions = λ k d h. answer dump _ (kept.asked k d h) (all k d h);
}

by-fault : (dump : Dump) (fault : Option FaultAt) → first_fault dump dump.questions ≡ fault → IsKept dump
    → IfOk (unless {X = Unit {0}} fault tt >>= λ fine. Ok dump) IsDump
by-fault dump None none kept = whole dump kept (all-fine dump dump.questions none)
by-fault dump (Some fault) none kept = tt

-- every dump that is read keeps what it has to
pub dump_of-sound : (bytes : List ℕ) → IfOk (dump_of bytes) IsDump
unfolding dump_of
dump_of-sound bytes =
    ok-then (accepted no_dump (nonblank_lines bytes)) answerable IsKept IsDump
    (lines-kept (nonblank_lines bytes) no_dump none-kept)
    (λ dump kept. by-fault dump (first_fault dump dump.questions) refl kept)

pub gives-sound : (r : Result Dump DumpError) (bytes : List ℕ) → GivesDump r (dump_of bytes) → IfOk r IsDump
gives-sound (Ok dump) bytes gives = subst (λ (r : Result Dump FaultAt). IfOk r IsDump) gives (dump_of-sound bytes)
gives-sound (Err error) bytes gives = tt
