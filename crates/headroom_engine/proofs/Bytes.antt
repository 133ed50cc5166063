-- What a source that tells its bytes gave.
use Rattle.std.proofs.Common.{◌≡◌, ℕ, ◌≤◌, false, List, ◌++◌, length, Option, Some, None, Result, sym, ap, subst, ◌∙◌, arith, length-append, append-nil}
use Rattle.std.specs.Io.KnownBytes.{Consumes, IsAtEnd}
use Rattle.byte_ports.specs.Cause.{HasCause}
use Rattle.byte_ports.specs.Content.{Lost, LostAtMost}
use Rattle.dump_reader.specs.Accepted.{dump_of}
use Rattle.dump_reader.specs.Faults.{FaultAt}
use Rattle.dump_reader.specs.declared.dump.Dump.{Dump}
use Rattle.headroom_engine.specs.Reading.{ReadsWhole, limit}

-- a count that stands has no fault for a cause
pub stands : (n m : ℕ) → m ≡ n → HasCause false n m
stands n m same = record { later = omega (arith, same); stood = λ none. same; rose = λ never. absurd (cc (never)) }

-- what was read whole of a source is what it told
all_read : (left left' : Option (List ℕ)) (bytes read : List ℕ) → left ≡ Some bytes → Consumes left left' read
    → IsAtEnd left' → read ≡ bytes
all_read None left' bytes read is consumes end = cc
all_read (Some xs) None bytes read is consumes end = absurd consumes
all_read (Some xs) (Some ys) bytes read is consumes end =
    let same : xs ≡ bytes = cc in sym (append-nil read) ∙ ap (λ (l : List ℕ). read ++ l) (sym end) ∙ sym consumes ∙ same

-- no more is taken than there is
pub not_more : (left left' : Option (List ℕ)) (bytes : List ℕ) (n : ℕ) → left ≡ Some bytes → Lost left left' n
    → n ≤ length bytes
not_more None left' bytes n is lost = cc
not_more (Some xs) None bytes n is lost = absurd lost.2
not_more (Some xs) (Some ys) bytes n is (read, len, consumes) =
    let same : xs ≡ bytes = cc in omega (arith, len, ap length same, ap length consumes, length-append read ys)

module _ (left left' : Option (List ℕ)) (said : Result Dump FaultAt) (reads : ReadsWhole said left left') where
  -- the bytes that a source tells are what was read of it
  pub says_of : (bytes : List ℕ) → left ≡ Some bytes → dump_of bytes ≡ said
  says_of bytes is = ap dump_of (sym (all_read left left' bytes reads.bytes is reads.consumes reads.end)) ∙ reads.says

  -- and there aren't too many
  pub few_of : (bytes : List ℕ) → left ≡ Some bytes → length bytes ≤ limit
  few_of bytes is = subst (λ (l : List ℕ). length l ≤ limit)
      (all_read left left' bytes reads.bytes is reads.consumes reads.end) reads.few

  pub lost_of : LostAtMost left left' limit
  lost_of = (reads.bytes, reads.few, reads.consumes)
