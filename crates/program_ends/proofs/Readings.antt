-- What was read of a source, by what its bytes are.
use Rattle.std.proofs.Common.{◌≡◌, ℕ, Bool, ◌+◌, ◌≤◌, false, List, ◌++◌, length, Option, Some, None, Result, Ok, Err, refl, sym, ap, subst, inl, inr, ◌∙◌, arith, append-nil, length-append}
use Rattle.std.specs.Io.KnownBytes.{Consumes, IsAtEnd}
use Rattle.byte_ports.specs.Content.{Lost}
use Rattle.byte_ports.specs.Cause.{HasCause}
use Rattle.program_ends.specs.Ending.{EndsAs}
use Rattle.program_ends.specs.Reading.{LeavesUnread, ReadsAs, ReadsBytes, ReadsWhole, TellsAs, TellsTooMuch, is_read, is_unread, limit, or_ending}
use Rattle.program_ends.specs.declared.ending.Ending.{Ending}
use Rattle.program_ends.specs.declared.ending.Ending.TheVariants as ending
use Rattle.scenario_reader.specs.Faults.{GivesReading}
use Rattle.scenario_reader.specs.declared.fault.ScriptFault.{ScriptFault}
use Rattle.scenario_reader.specs.declared.fault.ScriptFault.TheVariants.{BadJson, BadShape, BadName, BadOrder, TooMuch, OutOfMemory}

module _ {X : Type 0} (reading : List ℕ → Result X ScriptFault) (left left' : Option (List ℕ)) where
  -- bytes that were had whole were read, or had a fault, or there was no memory to read them
  pub bytes_as : (bytes : List ℕ) → ReadsBytes bytes left left' → (read : Result X ScriptFault)
      → GivesReading read (reading bytes)
      → ReadsAs reading (or_ending read) left left'
  bytes_as bytes all (Ok x) is = record {
    bytes = bytes;
    consumes = all.consumes;
    end = all.end;
    few = all.few;
    says =
        is;
  }
  bytes_as bytes all (Err (BadJson line)) is = record {
    bytes = bytes;
    consumes = all.consumes;
    end = all.end;
    few =
        all.few;
    says = is;
  }
  bytes_as bytes all (Err (BadShape line)) is = record {
    bytes = bytes;
    consumes = all.consumes;
    end = all.end;
    few =
        all.few;
    says = is;
  }
  bytes_as bytes all (Err (BadName line)) is = record {
    bytes = bytes;
    consumes = all.consumes;
    end = all.end;
    few =
        all.few;
    says = is;
  }
  bytes_as bytes all (Err (BadOrder line)) is = record {
    bytes = bytes;
    consumes = all.consumes;
    end = all.end;
    few =
        all.few;
    says = is;
  }
  bytes_as bytes all (Err (TooMuch line)) is = record {
    bytes = bytes;
    consumes = all.consumes;
    end = all.end;
    few =
        all.few;
    says = is;
  }
  bytes_as bytes all (Err OutOfMemory) is = (bytes, all.few, all.consumes)

  -- bytes that weren't had whole weren't read
  pub unread_as : (how : Ending) → LeavesUnread how left left' → ReadsAs reading (Err how) left left'
  unread_as (ending.Script why) leaves = absurd leaves
  unread_as how leaves = leaves

-- bytes that were had whole tell no failure of the source
pub never_unread : {X : Type 0} (read : Result X ScriptFault) → is_unread (or_ending read) ≡ false
never_unread (Ok x) = refl
never_unread (Err (BadJson line)) = refl
never_unread (Err (BadShape line)) = refl
never_unread (Err (BadName line)) = refl
never_unread (Err (BadOrder line)) = refl
never_unread (Err (TooMuch line)) = refl
never_unread (Err OutOfMemory) = refl

-- ---- a source that tells its bytes

-- all that was read of a source is what it tells
all_told : (left left' : Option (List ℕ)) (bytes read : List ℕ) → left ≡ Some bytes → Consumes left left' read
    → IsAtEnd left' → read ≡ bytes
all_told None left' bytes read is consumes end = cc
all_told (Some xs) None bytes read is consumes end = absurd consumes
all_told (Some xs) (Some ys) bytes read is consumes end =
    let same : xs ≡ bytes = cc in sym (append-nil read) ∙ ap (λ (l : List ℕ). read ++ l) (sym end) ∙ sym consumes ∙ same

-- no more can be taken than there is
not_more : (left left' : Option (List ℕ)) (bytes : List ℕ) (n : ℕ) → left ≡ Some bytes → Lost left left' n
    → n ≤ length bytes
not_more None left' bytes n is lost = cc
not_more (Some xs) None bytes n is (read, len, consumes) = absurd consumes
not_more (Some xs) (Some ys) bytes n is (read, len, consumes) =
    let same : xs ≡ bytes = cc in omega (arith, len, ap length same, ap length consumes, length-append read ys)

module _ {X : Type 0} (reading : List ℕ → Result X ScriptFault) (left left' : Option (List ℕ)) where
  -- what was read of a source that tells its bytes is what it tells
  pub as_told : (said said' : Result X ScriptFault) → TellsAs reading said left → ReadsWhole reading said' left left'
      → said ≡ said'
  as_told said said' tells reads =
      let all = all_told left left' tells.bytes reads.bytes tells.left_is reads.consumes reads.end in
      sym tells.says ∙ ap reading (sym all) ∙ reads.says

  pub not_too_long : (said : Result X ScriptFault) → TellsAs reading said left → Lost left left' (limit + 1) → ⊥
  not_too_long said tells lost =
      let more = not_more left left' tells.bytes (limit + 1) tells.left_is lost in
      let few = tells.few in
      omega (arith, more, few)

  -- what was read whole isn't too much
  pub not_whole : TellsTooMuch left → (said : Result X ScriptFault) → ReadsWhole reading said left left' → ⊥
  not_whole tells said reads =
      let len = ap length (all_told left left' tells.bytes reads.bytes tells.left_is reads.consumes reads.end) in
      let few = reads.few in
      let many = tells.many in
      omega (arith, len, few, many)

-- ---- the source's own fault

-- the source failed where reading it says so
same_read : (what how : Ending) → EndsAs what how → is_read what ≡ is_read how
same_read (ending.Script why) how (inl is) = ap is_read (sym is)
same_read (ending.Script why) how (inr is) = ap is_read (sym is)
same_read (ending.Damaged area at) how (inl is) = ap is_read (sym is)
same_read (ending.Damaged area at) how (inr is) = ap is_read (sym is)
same_read what how is = ap is_read (sym is)

cause_as : (a b : Bool) (n m : ℕ) → a ≡ b → HasCause a n m → HasCause b n m
cause_as a b n m is cause = subst (λ (x : Bool). HasCause x n m) is cause

pub read_cause : (how : Ending) (n m : ℕ) → is_read how ≡ false → HasCause false n m → HasCause (is_read how) n m
read_cause how n m none cause = cause_as false (is_read how) n m (sym none) cause

pub unread_cause : (what how other : Ending) (n m : ℕ) → other ≡ how → EndsAs what how → HasCause (is_read what) n m
    → HasCause (is_read other) n m
unread_cause what how other n m is ends cause =
    cause_as (is_read what) (is_read other) n m (same_read what how ends ∙ ap is_read (sym is)) cause
