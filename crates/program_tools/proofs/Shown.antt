-- What was shown of a board that was opened.
use Rattle.std.proofs.Common.{◌≡◌, ◌∙◌, ℕ, Bool, true, false, Option, Some, None, List, [], length, Result, Ok, Err, IfOk, refl, sym, ap, subst, arith}
use Rattle.std.specs.Option.{ForSome}
use Rattle.std.specs.declared.alloc.AllocError.{AllocError}
use Rattle.std.specs.declared.vec.Vec.{Vec}
use Rattle.byte_ports.specs.Cause.{HasCause}
use Rattle.disk_trait.specs.Past.{Past, Image}
use Rattle.disk_trait.specs.Shows.{Shows, KeepsContent, Secures}
use Rattle.disk_trait.proofs.Public.{goes_weaker}
use Rattle.bbs_journal.specs.Stops.{OpensAs}
use Rattle.bbs_journal.proofs.Public.{opens_once}
use Rattle.bbs_model.specs.declared.rows.Rows.{Rows}
use Rattle.bbs_board.specs.KeptIn.{IsKeptIn}
use Rattle.bbs_board.specs.Opening.{IsBoard}
use Rattle.record_print.specs.declared.check.Check.{Check}
use Rattle.program_ends.specs.Opening.{EndsEarly, EndsUnopened, Opens}
use Rattle.program_ends.specs.Ports.{Ports, PrintsTo, ports_of}
use Rattle.program_ends.specs.declared.ending.Ending.{Ending}
use Rattle.program_ends.specs.declared.ending.Ending.TheVariants as ending
use Rattle.program_tools.specs.Records.{records_text, IsCheckOf, check_line, check_place}
use Rattle.program_tools.specs.Showing.{text_in, ending_after}
use Rattle.program_tools.specs.Still.{Shown, RecordsEnds, CheckEnds}

-- what holds of an answer holds of what it has
pub ok_has : {X E : Type 0} (P : X → Type 0) {result : Result X E} {x : X} → result ≡ Ok x → IfOk result P → P x
ok_has {X} {E} P {result} {x} is h = subst (λ (r : Result X E). IfOk r P) is h

-- a count that stands has no cause
stands : (n m : ℕ) → m ≡ n → HasCause false n m
stands n m same = subst (λ (k : ℕ). HasCause false n k) (sym same)
    (record { later = omega arith; stood = λ e. refl; rose = λ never. absurd (cc (never)) })

-- where no board was opened nothing was shown
pub unopened_records : (v w : Ports) (how : Ending) → EndsUnopened how v w → RecordsEnds how v w
unopened_records v w ending.Done ends = absurd ends
unopened_records v w ending.Unwritten ends = absurd ends
unopened_records v w how ends = ends

pub unopened_check : (v w : Ports) (how : Ending) → EndsUnopened how v w → CheckEnds how v w
unopened_check v w ending.Done ends = absurd ends
unopened_check v w ending.Unwritten ends = absurd ends
unopened_check v w how ends = ends

-- a board was opened, and then only the sink was used
module _ (rows : Rows) (v m : Ports) (opens : Opens rows v m) (held : Option (List ℕ)) (faults : ℕ) where
  abbrev pub after : Ports
  after = ports_of held faults m.told m.disk_faults m.clock

  from_start : (whole : Bool) (text : List ℕ) → PrintsTo whole text m.held held m.write_faults faults
      → PrintsTo whole text v.held held v.write_faults faults
  from_start whole text prints =
      subst (λ (h : Option (List ℕ)). PrintsTo whole text h held v.write_faults faults) opens.same_sink.0
      (subst (λ (n : ℕ). PrintsTo whole text m.held held n faults) opens.same_sink.1 prints)

  shown : (P : Image → Type 0) → ((image : Image) → Shows m.told image → P image) → (text : List ℕ) (whole : Bool)
      → PrintsTo whole text m.held held m.write_faults faults → Shown P text whole v after
  shown P found text whole prints = record {
    found = λ image shows is. found image (opens.still image shows is);
    secures = opens.secures;
    no_fault = opens.no_fault;
    prints = from_start whole text prints;
  }

  starved : (whole : Bool) → PrintsTo whole [] m.held held m.write_faults faults
      → EndsEarly false ending.OutOfMemory v after
  starved whole prints = record {
    rests = goes_weaker v.told m.told Secures KeepsContent (λ p q i j s. s.keeps) opens.secures;
    cause = stands v.disk_faults m.disk_faults opens.no_fault;
    whole = whole;
    prints = from_start whole [] prints;
  }

  pub records_end : {Z : Type 0} (text : Result (Vec ℕ Z) AllocError) (whole : Bool) (how : Ending)
      → how ≡ ending_after text whole
      → ((t : Vec ℕ Z) → text ≡ Ok t → t.items ≡ records_text rows)
      → PrintsTo whole (text_in text) m.held held m.write_faults faults → RecordsEnds how v after
  records_end (Ok t) true how is text_is prints =
      subst (λ (x : Ending). RecordsEnds x v after) (sym is) (
        rows,
        shown (IsBoard rows) opens.found (records_text rows) true
            (subst (λ (l : List ℕ). PrintsTo true l m.held held m.write_faults faults) (text_is t refl) prints),
      )
  records_end (Ok t) false how is text_is prints =
      subst (λ (x : Ending). RecordsEnds x v after) (sym is) (
        rows,
        shown (IsBoard rows) opens.found (records_text rows) false
            (subst (λ (l : List ℕ). PrintsTo false l m.held held m.write_faults faults) (text_is t refl) prints),
      )
  records_end (Err e) whole how is text_is prints = subst (λ (x : Ending). RecordsEnds x v after) (sym is)
      (starved whole prints)

  -- what is kept where the check tells is what was opened
  checked : (told : Option Past) (check : Check) → ((image : Image) → Shows told image → IsBoard rows image)
      → ForSome told (IsKeptIn (check_place check)) → check.next ≡ rows.next
      → (image : Image) → Shows told image → IsCheckOf check image
  checked None check found kept next image shows = absurd shows
  checked (Some p) check found kept next image shows =
      let board = found image shows in
      let place = kept p refl in
      let opening : OpensAs image check.area place.version check.generation place.head place.payloads =
      subst (λ (c : Image). OpensAs c check.area place.version check.generation place.head place.payloads)
      (λ i area. shows area i) place.opens in
      let same = opens_once image board.area check.area board.version place.version board.generation check.generation
      board.head place.head board.payloads place.payloads None None board.end _ board.opening opening in
      record {
        rows = rows;
        board = board;
        area_is = sym same.area_is;
        generation_is = sym same.generation_is;
        frames_are = place.count ∙ ap length (sym same.payloads_are);
        next_is = next;
      }

  pub check_end : {Z : Type 0} (check : Check) (text : Result (Vec ℕ Z) AllocError) (whole : Bool) (how : Ending)
      → how ≡ ending_after text whole
      → ((t : Vec ℕ Z) → text ≡ Ok t → t.items ≡ check_line check) → ForSome m.told (IsKeptIn (check_place check))
      → check.next ≡ rows.next
      → PrintsTo whole (text_in text) m.held held m.write_faults faults → CheckEnds how v after
  check_end check (Ok t) true how is text_is kept next prints =
      subst (λ (x : Ending). CheckEnds x v after) (sym is) (
        check,
        shown (IsCheckOf check) (checked m.told check opens.found kept next) (check_line check) true
            (subst (λ (l : List ℕ). PrintsTo true l m.held held m.write_faults faults) (text_is t refl) prints),
      )
  check_end check (Ok t) false how is text_is kept next prints =
      subst (λ (x : Ending). CheckEnds x v after) (sym is) (
        check,
        shown (IsCheckOf check) (checked m.told check opens.found kept next) (check_line check) false
            (subst (λ (l : List ℕ). PrintsTo false l m.held held m.write_faults faults) (text_is t refl) prints),
      )
  check_end check (Err e) whole how is text_is kept next prints =
      subst (λ (x : Ending). CheckEnds x v after) (sym is) (starved whole prints)
