-- What was loaded is a board, and stands as one.
use Rattle.std.proofs.Common.{◌≡◌, inl, inr, ℕ, Bool, ◌+◌, ◌≤◌, List, [], ◌∷◌, length, Option, Some, None, Result, Ok, Err, IfOk, refl, sym, ap, subst, ◌∙◌, arith}
use Rattle.std.specs.Option.{ForSome}
use Rattle.wire_fields.specs.Reading.{◌>>=◌}
use Rattle.wire_fields.proofs.Public.{bind_ok}
use Rattle.disk_trait.specs.Held.{Has, Leaves}
use Rattle.disk_trait.specs.Past.{Past, Image, Images, ImagesSince, now, other, content}
use Rattle.disk_trait.specs.Steps.{Goes}
use Rattle.disk_trait.proofs.Public.{settled_has, goes_back}
use Rattle.disk_trait.specs.declared.area.Area.{Area}
use Rattle.bbs_journal.specs.Areas.{Ready}
use Rattle.bbs_journal.specs.Grammar.{heading}
use Rattle.bbs_journal.specs.Opening.{IsOpening}
use Rattle.bbs_journal.specs.Other.{Yields}
use Rattle.bbs_journal.specs.Reading.{bytes_of}
use Rattle.bbs_journal.specs.View.{IsKept}
use Rattle.bbs_journal.specs.declared.other_gate.OtherGate.{OtherGate}
use Rattle.bbs_journal.specs.declared.waiting.Waiting.TheVariants.{Nothing}
use Rattle.disk_trait.specs.Shows.{Shows, Secures}
use Rattle.bbs_journal.specs.declared.load_fault.LoadFault.{LoadFault}
use Rattle.bbs_journal.proofs.Public.{accepted, length-heading, opens_once, recovered, ready}
use Rattle.bbs_model.specs.declared.rows.Rows.{Rows}
use Rattle.bbs_board.specs.Opening.{rows_in, followed, board_of, Blames, IsBoard, IsRefused}
use Rattle.bbs_board.specs.Kept.{IsFound, Kept}
use Rattle.bbs_board.specs.View.{Holds}
use Rattle.bbs_board.proofs.Logs.{reached_end}
use Rattle.bbs_board.proofs.Frames.{next-followed, broken_followed}

-- a board has no defect behind its frames
pub unbroken : (version : ℕ) (area : Area) (head : List ℕ) (payloads : List (List ℕ)) (broken : Option ℕ) (rows : Rows)
    → board_of version area head payloads broken ≡ Ok rows → broken ≡ None
unbroken version area head payloads None rows is = refl
unbroken version area head payloads (Some place) rows is =
    let first = bind_ok (rows_in version area head) (λ start.
    followed version area (Some place) start (23 + length head) payloads) rows is in
    absurd (broken_followed version area place first.0 rows (23 + length head) payloads first.2)

-- and has made a transition with each frame
pub counted : (version : ℕ) (area : Area) (head : List ℕ) (payloads : List (List ℕ)) (rows : Rows)
    → board_of version area head payloads None ≡ Ok rows → length payloads ≤ rows.next
counted version area head payloads rows is =
    let first = bind_ok (rows_in version area head) (λ start.
    followed version area None start (23 + length head) payloads) rows is in
    let next = next-followed version area first.0 rows (23 + length head) payloads first.2 in
    omega (arith, next)

pub loaded_board : (c : Image) (area : Area) (version generation : ℕ) (head : List ℕ) (payloads : List (List ℕ))
    (broken : Option ℕ) (end : ℕ) (rows : Rows)
    → IsOpening c area version generation head payloads broken end
    → board_of version area head payloads broken ≡ Ok rows → IsBoard rows c
loaded_board c area version generation head payloads broken end rows opening is =
    let none : broken ≡ None = unbroken version area head payloads broken rows is in
    record {
      area = area;
      version = version;
      generation = generation;
      head = head;
      payloads = payloads;
      end = end;
      opening = subst (λ (b : Option ℕ). IsOpening c area version generation head payloads b end) none opening;
      rows_are = subst (λ (b : Option ℕ). board_of version area head payloads b ≡ Ok rows) none is;
    }

-- a board that was just loaded is kept
module _ (base : Rows) (since : ℕ) (q : Past) (since_is : q.clock ≡ since)
    (loaded : (image : Image) → Images q image → IsBoard base image) where
  found_now : (image : Image) → ImagesSince q since image → IsFound base [] 0 image
  found_now image images = record {
    rows = base;
    board = loaded image (λ a.
        let here : images.moment ≡ q.clock = let from = images.from in let to = images.to in
        omega (arith, from, to, since_is) in
        subst (λ (m : ℕ). Leaves (q.held m a) (image a)) here (images.leaves a));
    reached = reached_end base [] 0 (omega arith);
  }

  kept_now : Kept base [] [] since q
  kept_now = record {
    count = refl;
    rising = omega (arith, since_is);
    found = found_now;
    acknowledged = λ place mark by command item marked image images. absurd (cc (item));
  }

-- what was loaded stands on the disk, whatever a stop leaves
pub loaded_holds : (t0 t1 : Option Past) (area : Area) (version generation : ℕ) (head : List ℕ)
    (payloads : List (List ℕ)) (broken : Option ℕ) (end : ℕ) (rows : Rows) (since : ℕ) → Goes t0 t1 Secures
    → ((q : Past) → t1 ≡ Some q → q.clock ≡ since)
    → ((c : Image) → Shows t1 c → IsOpening c area version generation head payloads broken end)
    → end ≡ 23 + length head + bytes_of payloads → board_of version area head payloads broken ≡ Ok rows
    → (frames : ℕ) (unsound : Bool) (known : OtherGate) → ForSome t1
    (IsKept area version generation end frames Nothing unsound known)
    → ForSome t1 (Holds rows [] [] since area version generation end (length payloads) Nothing known)
loaded_holds t0 t1 area version generation head payloads broken end rows since goes timed found place is frames unsound
    known stood q told =
    let back = goes_back t0 t1 Secures goes q told in
    let shows : Shows t1 (content q) = subst (λ (t : Option Past). Shows t (content q)) (sym told) (λ a. refl) in
    let none : broken ≡ None = unbroken version area head payloads broken rows is in
    let opening : IsOpening (content q) area version generation head payloads None end =
    subst (λ (b : Option ℕ). IsOpening (content q) area version generation head payloads b end) none
    (found (content q) shows) in
    let r = recovered (content q) area version generation head payloads end (q.possible q.clock area).bytes opening in
    let front : List ℕ = r.gate ∷ heading version generation head in
    let there : length front + bytes_of payloads ≡ end = omega (arith, place, length-heading version generation head) in
    let stands : Ready front payloads end (now q area) = subst (λ (n : ℕ). Ready front payloads n (now q area)) there
    (ready front payloads (now q area) r.area_is (back.2.settled area)) in
    let beside : Has (Yields r.beside generation) (now q (other area)) =
    settled_has (Yields r.beside generation) (now q (other area)) (back.2.settled (other area)) r.yields in
    let rows_are : board_of version area head payloads None ≡ Ok rows =
    subst (λ (b : Option ℕ). board_of version area head payloads b ≡ Ok rows) none is in
    record {
      gate = r.gate;
      is_open = r.is_open;
      head = head;
      payloads = payloads;
      count = refl;
      doubt = None;
      goes_with = r.goes_with;
      waits_is = refl;
      may_show = λ payload never. absurd (cc (never));
      stands = stands;
      next = (stood q told).next;
      beside = (stood q told).beside;
      leads_on = λ size never. absurd (cc (never));
      rows_are = rows_are;
      kept = kept_now rows since q (timed q told) (λ image leaves. record {
        area = area;
        version = version;
        generation = generation;
        head = head;
        payloads = payloads;
        end = _;
        opening = accepted image area version generation head payloads (record {
          gate = r.gate;
          is_open = r.is_open;
          goes_with = r.goes_with;
          area_is = record {
            frames = stands.frames;
            whole = stands.whole;
            begins =
                stands.has.leaves (image area) (leaves area);
          };
          beside = r.beside;
          yields = beside.leaves (image (other area)) (leaves (other area));
        });
        rows_are = rows_are;
      });
    }

-- the defect that stands first behind the head of a board is the board's
pub board_blames : (version : ℕ) (area : Area) (head : List ℕ) (payloads : List (List ℕ)) (broken : Option ℕ)
    (rows : Rows) (fault : LoadFault) → rows_in version area head ≡ Ok rows
    → Blames fault (followed version area broken rows (23 + length head) payloads)
    → Blames fault (board_of version area head payloads broken)
board_blames version area head payloads broken rows fault read blames =
    subst (Blames fault) (sym (ap (λ (r : Result Rows LoadFault). r >>= λ start.
    followed version area broken start (23 + length head) payloads) read)) blames

-- what is shown in the end was shown at first, where a load left the content as it was
pub shown_before : {B E : Type 0} (result : Result B E) (after : B → Past) (p : Past) (P : B → Image → Type 0)
    → IfOk result (λ b. (c : Image) → Shows (Some (after b)) c → P b c) → IfOk result (λ b. Secures p (after b))
    → IfOk result (λ b. (c : Image) → Shows (Some p) c → P b c)
shown_before (Ok b) after p P found secures = λ c shows. found c (λ area. secures.keeps.same area ∙ shows area)
shown_before (Err e) after p P found secures = tt

-- ---- an image is opened in one way

both_ways : (rows : Rows) (fault : LoadFault) (r : Result Rows LoadFault) → r ≡ Ok rows → r ≡ Err fault → ⊥
both_ways rows fault r first second = cc

same_rows : (a b : Rows) (r : Result Rows LoadFault) → r ≡ Ok a → r ≡ Ok b → a ≡ b
same_rows a b r first second = cc

pub not_refused : (rows : Rows) (fault : LoadFault) (c : Image) → IsBoard rows c → IsRefused fault c → ⊥
not_refused rows fault c board (inl refused) = cc (board.opening.head_is, refused)
not_refused rows fault c board (inr damaged) =
    let same = opens_once c board.area damaged.area board.version damaged.version board.generation damaged.generation
    board.head damaged.head board.payloads damaged.payloads None damaged.broken board.end damaged.end board.opening
    damaged.opening in
    let there : board_of board.version board.area board.head board.payloads None
    ≡ board_of damaged.version damaged.area damaged.head damaged.payloads damaged.broken =
    λ i. board_of (same.version_is i) (same.area_is i) (same.head_is i) (same.payloads_are i) (same.broken_is i) in
    both_ways rows fault _ board.rows_are (there ∙ damaged.fault_is)

pub one_board : (a b : Rows) (c : Image) → IsBoard a c → IsBoard b c → a ≡ b
one_board a b c first second =
    let same = opens_once c first.area second.area first.version second.version first.generation second.generation
    first.head second.head first.payloads second.payloads None None first.end second.end first.opening
    second.opening in
    let there : board_of first.version first.area first.head first.payloads None
    ≡ board_of second.version second.area second.head second.payloads None =
    λ i. board_of (same.version_is i) (same.area_is i) (same.head_is i) (same.payloads_are i) None in
    same_rows a b _ first.rows_are (there ∙ second.rows_are)
