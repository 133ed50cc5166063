-- What each status says, from how the words end that ask for no run.
use Rattle.std.proofs.Common.{◌≡◌, ◌⊎◌, ◌∙◌, ◌≤◌, ℕ, true, List, [], Option, Some, None, Err, refl, sym, ap, subst, inl, inr, arith}
use Rattle.byte_ports.specs.Cause.{Rose}
use Rattle.disk_trait.proofs.Public.{goes_weaker}
use Rattle.disk_trait.specs.Past.{Past, Image}
use Rattle.disk_trait.specs.Shows.{Shows}
use Rattle.disk_trait.specs.Steps.{Goes}
use Rattle.disk_trait.specs.declared.area.Area.TheVariants.{A, B}
use Rattle.bbs_board.specs.Opening.{IsBoard, IsRefused}
use Rattle.bbs_board.proofs.Public.{not_refused}
use Rattle.bbs_journal.specs.Preparing.{FindsBytes, Prepares, PreparesBy}
use Rattle.bbs_journal.specs.declared.load_fault.LoadFault.{LoadFault}
use Rattle.bbs_journal.specs.declared.load_fault.LoadFault.TheVariants as fault
use Rattle.bbs_journal.specs.declared.preparing.PrepareFault.TheVariants.{NotEmpty}
use Rattle.program_ends.specs.Ending.{status_of}
use Rattle.program_ends.specs.Opening.{EndsUnopened, is_before_board}
use Rattle.program_ends.specs.Ports.{Ports, IsTold}
use Rattle.program_ends.specs.declared.ending.Ending.{Ending}
use Rattle.program_ends.specs.declared.ending.Ending.TheVariants as ending
use Rattle.bbs_model.specs.declared.rows.Rows.{Rows}
use Rattle.program_tools.specs.Still.{StillEnds, RecordsEnds, CheckEnds, PrepareEnds, GenerateEnds, UsageEnds, MeetsBoard, MeetsBytes, MeetsNoBoard, MeetsObstacle, MeetsStill, IsStopped}
use Rattle.program_tools.specs.declared.words.Asked.{Asked}
use Rattle.program_tools.specs.declared.words.Asked.TheVariants as asked

module _ (v w : Ports) where
  -- ---- each word by itself: which endings it has

  prepare_opens : (how : Ending) → is_before_board (status_of how) ≡ true → PrepareEnds how v w → ⊥
  prepare_opens ending.Usage n h = absurd h
  prepare_opens (ending.Script why) n h = absurd h
  prepare_opens ending.Read n h = absurd h
  prepare_opens ending.TooLong n h = absurd h
  prepare_opens how n h = cc

  records_open : (how : Ending) → is_before_board (status_of how) ≡ true → RecordsEnds how v w → ⊥
  records_open ending.Usage n h = absurd h
  records_open (ending.Script why) n h = absurd h
  records_open ending.Read n h = absurd h
  records_open ending.TooLong n h = absurd h
  records_open how n h = cc

  check_opens : (how : Ending) → is_before_board (status_of how) ≡ true → CheckEnds how v w → ⊥
  check_opens ending.Usage n h = absurd h
  check_opens (ending.Script why) n h = absurd h
  check_opens ending.Read n h = absurd h
  check_opens ending.TooLong n h = absurd h
  check_opens how n h = cc

  generate_opens : (number : ℕ) (how : Ending) → is_before_board (status_of how) ≡ true → GenerateEnds number how v w → ⊥
  generate_opens number ending.Usage n h = absurd h
  generate_opens number (ending.Script why) n h = absurd h
  generate_opens number ending.Read n h = absurd h
  generate_opens number ending.TooLong n h = absurd h
  generate_opens number how n h = cc

  -- a word of the grammar looks at the disk
  pub opens_from : (how : Ending) (what : Option Asked) → is_before_board (status_of how) ≡ true
      → StillEnds how what v w → what ≡ None
  opens_from how None n h = refl
  opens_from how (Some asked.Run) n h = absurd h
  opens_from how (Some asked.Routes) n h = absurd h
  opens_from how (Some asked.Locks) n h = absurd h
  opens_from how (Some asked.Prepare) n h = absurd (prepare_opens how n h)
  opens_from how (Some asked.Records) n h = absurd (records_open how n h)
  opens_from how (Some asked.Check) n h = absurd (check_opens how n h)
  opens_from how (Some (asked.Generate number)) n h = absurd (generate_opens number how n h)
  opens_from how (Some (asked.Large number)) n h = absurd h

  -- what is said of one reading of the words is said of an equal one
  pub asked_as : (how : Ending) (a b : Option Asked) → a ≡ b → StillEnds how a v w → StillEnds how b v w
  asked_as how a b same ends = subst (λ (x : Option Asked). StillEnds how x v w) same ends

  -- ---- what each status says

  pub usage_from : (how : Ending) (what : Option Asked) → status_of how ≡ 1 → StillEnds how what v w → what ≡ None
  usage_from how what n h = opens_from how what (ap is_before_board n) h

  of_none : (how : Ending) → StillEnds how None v w → status_of how ≡ 1
  of_none ending.Usage h = refl
  of_none how h = absurd h

  pub usage_to : (how : Ending) (what : Option Asked) → what ≡ None → StillEnds how what v w → status_of how ≡ 1
  usage_to how (Some x) is h = cc
  usage_to how None is h = of_none how h

  -- a status from before the opening is that of words outside the grammar, so nothing was taken from the source
  pub not_of_source : (how : Ending) (what : Option Asked) → is_before_board (status_of how) ≡ true
      → StillEnds how what v w → status_of how ≡ 1
  not_of_source how what n h = usage_to how what (opens_from how what n h) h

  pub unwritten_from : (how : Ending) (what : Option Asked) → status_of how ≡ 4 → StillEnds how what v w
      → Rose v.write_faults w.write_faults
  unwritten_from ending.Unwritten (Some asked.Records) n (rows, s) = s.prints.cause.rose refl
  unwritten_from ending.Unwritten (Some asked.Check) n (check, s) = s.prints.cause.rose refl
  unwritten_from ending.Unwritten (Some asked.Prepare) n h = absurd h
  unwritten_from ending.Unwritten (Some asked.Run) n h = absurd h
  unwritten_from ending.Unwritten (Some asked.Routes) n h = absurd h
  unwritten_from ending.Unwritten (Some asked.Locks) n h = absurd h
  unwritten_from ending.Unwritten (Some (asked.Generate number)) n s = s.prints.cause.rose refl
  unwritten_from ending.Unwritten (Some (asked.Large number)) n s = absurd s
  unwritten_from ending.Unwritten None n h = absurd h
  unwritten_from how what n h = absurd (omega (arith, n))

  pub unstored_from : (how : Ending) (what : Option Asked) → status_of how ≡ 5 → StillEnds how what v w
      → Rose v.disk_faults w.disk_faults
  unstored_from ending.Unopened (Some asked.Records) n h = h.cause.rose refl
  unstored_from ending.Unopened (Some asked.Check) n h = h.cause.rose refl
  unstored_from ending.Unopened (Some asked.Prepare) n h = h.cause.rose refl
  unstored_from ending.Unopened (Some asked.Run) n h = absurd h
  unstored_from ending.Unopened (Some asked.Routes) n h = absurd h
  unstored_from ending.Unopened (Some asked.Locks) n h = absurd h
  unstored_from ending.Unopened (Some (asked.Generate number)) n h = absurd h
  unstored_from ending.Unopened (Some (asked.Large number)) n h = absurd h
  unstored_from ending.Unopened None n h = absurd h
  unstored_from ending.Doubt (Some asked.Records) n h = absurd h
  unstored_from ending.Doubt (Some asked.Check) n h = absurd h
  unstored_from ending.Doubt (Some asked.Prepare) n h = absurd h
  unstored_from ending.Doubt (Some asked.Run) n h = absurd h
  unstored_from ending.Doubt (Some asked.Routes) n h = absurd h
  unstored_from ending.Doubt (Some asked.Locks) n h = absurd h
  unstored_from ending.Doubt (Some (asked.Generate number)) n h = absurd h
  unstored_from ending.Doubt (Some (asked.Large number)) n h = absurd h
  unstored_from ending.Doubt None n h = absurd h
  unstored_from how what n h = absurd (omega (arith, n))

  pub refused_from : (how : Ending) (what : Option Asked) → status_of how ≡ 6 → StillEnds how what v w
      → (why : LoadFault) × (w.disk_faults ≡ v.disk_faults)
      × ((image : Image) → Shows v.told image → IsTold w.told → IsRefused why image)
  refused_from (ending.NotABoard area) (Some asked.Records) n h =
      (fault.NotABoard area, h.early.cause.stood refl, h.refused)
  refused_from (ending.NotABoard area) (Some asked.Check) n h =
      (fault.NotABoard area, h.early.cause.stood refl, h.refused)
  refused_from (ending.NotABoard area) (Some asked.Prepare) n h = absurd h
  refused_from (ending.NotABoard area) (Some asked.Run) n h = absurd h
  refused_from (ending.NotABoard area) (Some asked.Routes) n h = absurd h
  refused_from (ending.NotABoard area) (Some asked.Locks) n h = absurd h
  refused_from (ending.NotABoard area) (Some (asked.Generate number)) n h = absurd h
  refused_from (ending.NotABoard area) (Some (asked.Large number)) n h = absurd h
  refused_from (ending.NotABoard area) None n h = absurd h
  refused_from (ending.Damaged area at) (Some asked.Records) n h =
      (fault.Damaged area at, h.early.cause.stood refl, h.refused)
  refused_from (ending.Damaged area at) (Some asked.Check) n h =
      (fault.Damaged area at, h.early.cause.stood refl, h.refused)
  refused_from (ending.Damaged area at) (Some asked.Prepare) n h = absurd h
  refused_from (ending.Damaged area at) (Some asked.Run) n h = absurd h
  refused_from (ending.Damaged area at) (Some asked.Routes) n h = absurd h
  refused_from (ending.Damaged area at) (Some asked.Locks) n h = absurd h
  refused_from (ending.Damaged area at) (Some (asked.Generate number)) n h = absurd h
  refused_from (ending.Damaged area at) (Some (asked.Large number)) n h = absurd h
  refused_from (ending.Damaged area at) None n h = absurd h
  refused_from how what n h = absurd (omega (arith, n))

  pub exists_from : (how : Ending) (what : Option Asked) → status_of how ≡ 9 → StillEnds how what v w
      → (what ≡ Some asked.Prepare) × (w.disk_faults ≡ v.disk_faults) × Goes v.told w.told FindsBytes
  exists_from ending.Exists (Some asked.Prepare) n h = (
    refl,
    h.cause.stood refl,
    goes_weaker v.told w.told (PreparesBy (Err NotEmpty)) FindsBytes
        (λ p q i j finds. finds) h.does,
  )
  exists_from ending.Exists (Some asked.Records) n h = absurd h
  exists_from ending.Exists (Some asked.Check) n h = absurd h
  exists_from ending.Exists (Some asked.Run) n h = absurd h
  exists_from ending.Exists (Some asked.Routes) n h = absurd h
  exists_from ending.Exists (Some asked.Locks) n h = absurd h
  exists_from ending.Exists (Some (asked.Generate number)) n h = absurd h
  exists_from ending.Exists (Some (asked.Large number)) n h = absurd h
  exists_from ending.Exists None n h = absurd h
  exists_from how what n h = absurd (omega (arith, n))

  untouched_none : (how : Ending) → StillEnds how None v w → (w.told ≡ v.told) × (w.disk_faults ≡ v.disk_faults)
  untouched_none ending.Usage h = (h.told, h.faults)
  untouched_none how h = absurd h

  pub untouched_from : (how : Ending) (what : Option Asked) → is_before_board (status_of how) ≡ true
      → StillEnds how what v w
      → (w.told ≡ v.told) × (w.disk_faults ≡ v.disk_faults)
  untouched_from how None n h = untouched_none how h
  untouched_from how (Some x) n h = cc (opens_from how (Some x) n h)

  -- ---- the disk's count of faults never falls

  unopened_later : (how : Ending) → EndsUnopened how v w → v.disk_faults ≤ w.disk_faults
  unopened_later ending.Unopened h = h.cause.later
  unopened_later (ending.NotABoard area) h = h.early.cause.later
  unopened_later (ending.Damaged area at) h = h.early.cause.later
  unopened_later ending.OutOfMemory h = h.cause.later
  unopened_later how h = absurd h

  records_later : (how : Ending) → RecordsEnds how v w → v.disk_faults ≤ w.disk_faults
  records_later ending.Done (rows, s) = let stands = s.no_fault in omega (arith, stands)
  records_later ending.Unwritten (rows, s) = let stands = s.no_fault in omega (arith, stands)
  records_later how h = unopened_later how h

  check_later : (how : Ending) → CheckEnds how v w → v.disk_faults ≤ w.disk_faults
  check_later ending.Done (check, s) = let stands = s.no_fault in omega (arith, stands)
  check_later ending.Unwritten (check, s) = let stands = s.no_fault in omega (arith, stands)
  check_later how h = unopened_later how h

  prepare_later : (how : Ending) → PrepareEnds how v w → v.disk_faults ≤ w.disk_faults
  prepare_later ending.Done h = h.cause.later
  prepare_later ending.Exists h = h.cause.later
  prepare_later ending.Unopened h = h.cause.later
  prepare_later how h = absurd h

  generate_later : (number : ℕ) (how : Ending) → GenerateEnds number how v w → v.disk_faults ≤ w.disk_faults
  generate_later number ending.Done h = let stands = h.faults in omega (arith, stands)
  generate_later number ending.Unwritten h = let stands = h.faults in omega (arith, stands)
  generate_later number ending.OutOfMemory h = let stands = h.faults in omega (arith, stands)
  generate_later number how h = absurd h

  usage_later : (how : Ending) → UsageEnds how v w → v.disk_faults ≤ w.disk_faults
  usage_later ending.Usage h = let stands = h.faults in omega (arith, stands)
  usage_later how h = absurd h

  pub later_from : (how : Ending) (what : Option Asked) → StillEnds how what v w → v.disk_faults ≤ w.disk_faults
  later_from how (Some asked.Run) h = absurd h
  later_from how (Some asked.Routes) h = absurd h
  later_from how (Some asked.Locks) h = absurd h
  later_from how (Some asked.Prepare) h = prepare_later how h
  later_from how (Some asked.Records) h = records_later how h
  later_from how (Some asked.Check) h = check_later how h
  later_from how (Some (asked.Generate number)) h = generate_later number how h
  later_from how (Some (asked.Large number)) h = absurd h
  later_from how None h = usage_later how h

  -- ---- completeness

  -- two empty areas have no bytes to be found
  none_found : (told told' : Option Past) → Goes told told' FindsBytes → Shows told (λ area. []) → IsTold told' → ⊥
  none_found None told' goes shows is = absurd shows
  none_found (Some p) None goes shows is = absurd is
  none_found (Some p) (Some q) goes shows is = elim goes.bytes [
    | inl some ↦ some (shows A)
    | inr some ↦ some (shows B)
  ]

  board_met : MeetsBoard v.told → IsTold w.told → (why : LoadFault)
      → ((image : Image) → Shows v.told image → IsTold w.told → IsRefused why image) → ⊥
  board_met m told why refused = not_refused m.rows why m.image m.board (refused m.image m.shows told)

  refusal_met : (how : Ending) (what : Option Asked) (left : Option (List ℕ)) → status_of how ≡ 6
      → StillEnds how what v w → MeetsStill what left v.told → IsTold w.told → ⊥
  refusal_met how None left n h m told = m
  refusal_met how (Some asked.Run) left n h m told = m
  refusal_met how (Some asked.Routes) left n h m told = m
  refusal_met how (Some asked.Locks) left n h m told = h
  refusal_met how (Some asked.Prepare) left n h m told = no_refusal how n h
    where
      no_refusal : (x : Ending) → status_of x ≡ 6 → PrepareEnds x v w → ⊥
      no_refusal (ending.NotABoard area) n h = h
      no_refusal (ending.Damaged area at) n h = h
      no_refusal x n h = absurd (omega (arith, n))
  refusal_met how (Some asked.Records) left n h m told = let (why, stood, refused) =
      refused_from how (Some asked.Records) n h in board_met m told why refused
  refusal_met how (Some asked.Check) left n h m told = let (why, stood, refused) =
      refused_from how (Some asked.Check) n h in board_met m told why refused
  refusal_met how (Some (asked.Large number)) left n h m told = absurd h
  refusal_met how (Some (asked.Generate number)) left n h m told = no_refusal how n h
    where
      no_refusal : (x : Ending) → status_of x ≡ 6 → GenerateEnds number x v w → ⊥
      no_refusal (ending.NotABoard area) n h = h
      no_refusal (ending.Damaged area at) n h = h
      no_refusal x n h = absurd (omega (arith, n))

  bytes_met : (what : Option Asked) (left : Option (List ℕ)) → StillEnds ending.Exists what v w
      → MeetsStill what left v.told → IsTold w.told → ⊥
  bytes_met (Some asked.Prepare) left h m told = let (is, stood, finds) =
      exists_from ending.Exists (Some asked.Prepare) refl h in none_found v.told w.told finds m told
  bytes_met (Some asked.Records) left h m told = h
  bytes_met (Some asked.Check) left h m told = h
  bytes_met (Some asked.Run) left h m told = h
  bytes_met (Some asked.Routes) left h m told = h
  bytes_met (Some asked.Locks) left h m told = h
  bytes_met (Some (asked.Generate number)) left h m told = h
  bytes_met (Some (asked.Large number)) left h m told = h
  bytes_met None left h m told = h

  grammar_met : (how : Ending) (what : Option Asked) (left : Option (List ℕ)) → is_before_board (status_of how) ≡ true
      → StillEnds how what v w → MeetsStill what left v.told → ⊥
  grammar_met how None left n h m = m
  grammar_met how (Some x) left n h m = cc (opens_from how (Some x) n h)

  pub complete_from : (how : Ending) (what : Option Asked) (left : Option (List ℕ)) → StillEnds how what v w
      → MeetsStill what left v.told → IsTold w.told
      → (Rose v.write_faults w.write_faults → ⊥) → (Rose v.disk_faults w.disk_faults → ⊥)
      → (status_of how ≡ 0) ⊎ (status_of how ≡ 7)
  complete_from ending.Done what left h m told sink disk = inl refl
  complete_from ending.OutOfMemory what left h m told sink disk = inr refl
  complete_from ending.Unwritten what left h m told sink disk =
      absurd (sink (unwritten_from ending.Unwritten what refl h))
  complete_from ending.Unopened what left h m told sink disk = absurd (disk (unstored_from ending.Unopened what refl h))
  complete_from ending.Doubt what left h m told sink disk = absurd (disk (unstored_from ending.Doubt what refl h))
  complete_from (ending.NotABoard area) what left h m told sink disk =
      absurd (refusal_met (ending.NotABoard area) what left refl h m told)
  complete_from (ending.Damaged area at) what left h m told sink disk =
      absurd (refusal_met (ending.Damaged area at) what left refl h m told)
  complete_from ending.Exists what left h m told sink disk = absurd (bytes_met what left h m told)
  complete_from ending.Usage what left h m told sink disk = absurd (grammar_met ending.Usage what left refl h m)
  complete_from (ending.Script why) what left h m told sink disk =
      absurd (grammar_met (ending.Script why) what left refl h m)
  complete_from ending.Read what left h m told sink disk = absurd (grammar_met ending.Read what left refl h m)
  complete_from ending.TooLong what left h m told sink disk = absurd (grammar_met ending.TooLong what left refl h m)

  -- ---- what stops a word

  -- areas that were prepared had no bytes
  none_prepared : (told told' : Option Past) → Goes told told' Prepares → MeetsBytes told → IsTold told' → ⊥
  none_prepared None told' goes m is = absurd m.shows
  none_prepared (Some p) None goes m is = absurd is
  none_prepared (Some p) (Some q) goes m is = elim m.bytes [
    | inl some ↦ some (sym (m.shows A) ∙ goes.a_was)
    | inr some ↦ some (sym (m.shows B) ∙ goes.b_was)
  ]

  prepare_stopped : (how : Ending) → PrepareEnds how v w → MeetsBytes v.told → IsTold w.told
      → (Rose v.disk_faults w.disk_faults → ⊥) → status_of how ≡ 9
  prepare_stopped ending.Exists h m told disk = refl
  prepare_stopped ending.Done h m told disk = absurd (none_prepared v.told w.told h.does m told)
  prepare_stopped ending.Unopened h m told disk = absurd (disk (h.cause.rose refl))
  prepare_stopped how h m told disk = absurd h

  no_board_met : (m : MeetsNoBoard v.told) → (rows : Rows) → IsBoard rows m.image → ⊥
  no_board_met m rows board = not_refused rows m.why m.image board m.refused

  unopened_stopped : (how : Ending) → EndsUnopened how v w → (Rose v.disk_faults w.disk_faults → ⊥)
      → (status_of how ≡ 6) ⊎ (status_of how ≡ 7)
  unopened_stopped (ending.NotABoard area) h disk = inl refl
  unopened_stopped (ending.Damaged area at) h disk = inl refl
  unopened_stopped ending.OutOfMemory h disk = inr refl
  unopened_stopped ending.Unopened h disk = absurd (disk (h.cause.rose refl))
  unopened_stopped how h disk = absurd h

  records_stopped : (how : Ending) → RecordsEnds how v w → MeetsNoBoard v.told → IsTold w.told
      → (Rose v.disk_faults w.disk_faults → ⊥) → (status_of how ≡ 6) ⊎ (status_of how ≡ 7)
  records_stopped ending.Done (rows, s) m told disk = absurd (no_board_met m rows (s.found m.image m.shows told))
  records_stopped ending.Unwritten (rows, s) m told disk = absurd (no_board_met m rows (s.found m.image m.shows told))
  records_stopped how h m told disk = unopened_stopped how h disk

  check_stopped : (how : Ending) → CheckEnds how v w → MeetsNoBoard v.told → IsTold w.told
      → (Rose v.disk_faults w.disk_faults → ⊥) → (status_of how ≡ 6) ⊎ (status_of how ≡ 7)
  check_stopped ending.Done (check, s) m told disk = let c = s.found m.image m.shows told in
      absurd (no_board_met m c.rows c.board)
  check_stopped ending.Unwritten (check, s) m told disk = let c = s.found m.image m.shows told in
      absurd (no_board_met m c.rows c.board)
  check_stopped how h m told disk = unopened_stopped how h disk

  -- a status that a word is to have, told by the number that what stops it names
  with_number : (how : Ending) (n wanted : ℕ) → wanted ≡ n → (status_of how ≡ n) ⊎ (status_of how ≡ 7)
      → (status_of how ≡ wanted) ⊎ (status_of how ≡ 7)
  with_number how n wanted is ends = subst (λ (k : ℕ). (status_of how ≡ k) ⊎ (status_of how ≡ 7)) (sym is) ends

  pub stopped_from : (how : Ending) (what : Option Asked) (wanted : ℕ) (left : Option (List ℕ)) → StillEnds how what v w
      → MeetsObstacle what wanted left v.told → IsTold w.told
      → (Rose v.disk_faults w.disk_faults → ⊥) → IsStopped what wanted (status_of how)
  stopped_from how (Some asked.Run) wanted left h m told disk = absurd m
  stopped_from how (Some asked.Routes) wanted left h m told disk = absurd m
  stopped_from how (Some asked.Locks) wanted left h m told disk = absurd h
  stopped_from how (Some asked.Prepare) wanted left h (is, m) told disk = prepare_stopped how h m told disk ∙ sym is
  stopped_from how (Some asked.Records) wanted left h (is, m) told disk =
      with_number how 6 wanted is (records_stopped how h m told disk)
  stopped_from how (Some asked.Check) wanted left h (is, m) told disk =
      with_number how 6 wanted is (check_stopped how h m told disk)
  stopped_from how (Some (asked.Generate number)) wanted left h m told disk = absurd m
  stopped_from how (Some (asked.Large number)) wanted left h m told disk = absurd m
  stopped_from how None wanted left h m told disk = absurd m
