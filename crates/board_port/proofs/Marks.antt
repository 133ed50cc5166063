-- The mark of a call's item, and what a stop leaves behind the call.
use Rattle.std.proofs.Common.{◌≡◌, ◌≤◌, ℕ, Bool, true, false, List, [], ◌∷◌, length, map, Option, Some, Result, Ok, Err, refl, sym, subst, arith}
use Rattle.std.proofs.lemmas.List.{length-map}
use Rattle.disk_trait.specs.Past.{Past, Image}
use Rattle.disk_trait.specs.Runs.{Extends}
use Rattle.disk_trait.specs.Steps.{Goes}
use Rattle.disk_trait.proofs.Public.{goes_same, goes_weaker}
use Rattle.bbs_model.specs.Calls.{Ends, added, is_done}
use Rattle.bbs_model.specs.Step.{rows_after, verdict_of}
use Rattle.bbs_model.specs.declared.command.Command.{Command}
use Rattle.bbs_model.specs.declared.item.Item.{Item}
use Rattle.bbs_model.specs.declared.item.Item.TheVariants.{Done}
use Rattle.bbs_model.specs.declared.reply.CallFault.{CallFault}
use Rattle.bbs_model.specs.declared.reply.CallFault.TheVariants as fault
use Rattle.bbs_model.specs.declared.reply.Reply.{Reply}
use Rattle.bbs_model.specs.declared.reply.Reply.TheVariants as reply
use Rattle.bbs_model.specs.declared.rows.Rows.{Rows}
use Rattle.bbs_model.specs.declared.verdict.Verdict.{Verdict}
use Rattle.bbs_model.specs.declared.verdict.Verdict.TheVariants as verdict
use Rattle.bbs_board.specs.Calls.{Grows, Passes, StoresBy}
use Rattle.bbs_board.specs.Doubts.{doubts_in}
use Rattle.bbs_board.specs.Kept.{RiseBetween}
use Rattle.bbs_board.specs.Opening.{IsBoard}
use Rattle.bbs_board.specs.Stops.{OpensWith, Stores}
use Rattle.bbs_board.specs.View.{View, rows_of}
use Rattle.bbs_board.specs.Written.{Reading, stored_behind}
use Rattle.board_port.specs.Further.{rows_then}
use Rattle.board_port.specs.Going.{GainsMarks, LeavesBoard}

-- what was acknowledged was stored
pub was_stored : (v : Verdict) (place stamp place' stamp' : ℕ) (rows : Rows) (c : Command) (p q : Past)
    → Ends v place stamp (Ok (reply.Ok place' stamp')) → StoresBy v true rows c p q → Stores true rows c p q
was_stored verdict.Ok place stamp place' stamp' rows c p q ends stores = stores
was_stored verdict.Same place stamp place' stamp' rows c p q ends stores = absurd (cc (ends))
was_stored (verdict.Refused why) place stamp place' stamp' rows c p q ends stores = absurd (cc (ends))

-- what is opened so, and leads to these rows, is a board with them
opened_board : (rows : Rows) (r : Reading) (image : Image) → OpensWith rows r image → IsBoard rows image
opened_board rows r image is = record {
  area = r.area;
  version = r.version;
  generation = r.generation;
  head = r.head;
  payloads = r.payloads;
  end = _;
  opening = is.opens;
  rows_are = is.leads;
}

-- what was stored is in all that a stop leaves
stored_leaves : (rows : Rows) (c : Command) (p q : Past) → Stores true rows c p q → LeavesBoard (rows_after rows c) q
stored_leaves rows c p q stores image images =
    opened_board (rows_after rows c) (stored_behind rows c stores.before) image (stores.done refl image images)

-- one moment for each of them never falls
one_moment : (low moment high : ℕ) (items : List Item) → low ≤ moment → moment ≤ high
    → RiseBetween low (map (λ (i : Item). moment) items) high
one_moment low moment high [] from upto = omega (arith, from, upto)
one_moment low moment high (i ∷ items) from upto = (from, one_moment moment moment high items (omega arith) upto)

module _ {D : Type 0} (told : D → Option Past) (v w : View D) (moment : ℕ) where
  -- the mark of an item is the disk's clock at the end of its call
  pub call_marks : (done : Bool) (items : List Item) → Grows done items moment v w
      → ((q : Past) → told w.disk ≡ Some q → q.clock ≡ moment) → Goes (told v.disk) (told w.disk) Extends
      → GainsMarks told items v w
  call_marks done items grows timed goes = record {
    gained = map (λ (i : Item). moment) items;
    grows = grows.marks;
    count = length-map items (λ (i : Item). moment);
    rising = goes_weaker (told v.disk) (told w.disk) Extends
        (λ p q. RiseBetween p.clock (map (λ (i : Item). moment) items) q.clock)
        (λ p q i j extends.
        let later = extends.later in
        let now_is = timed q j in
        one_moment p.clock moment q.clock items (omega (arith, later, now_is)) (omega (arith, now_is))) goes;
  }

  abbrev Leaves : View D → Type 0
  Leaves x = Goes (told v.disk) (told x.disk) (λ p q. LeavesBoard (rows_of v) p → LeavesBoard (rows_of x) q)

  -- a call that adds nothing leaves the disk as it was
  idle_leaves : (done : Bool) → Grows done [] moment v w → Leaves w
  idle_leaves done grows =
      subst Leaves (sym (grows.idle refl))
      (goes_same (told v.disk) (λ p q. LeavesBoard (rows_of v) p → LeavesBoard (rows_of v) q) (λ p is stands. stands))

  pub call_leaves : (by : ℕ) (c : Command) (end : Result Reply CallFault)
      → Ends (verdict_of (rows_of v) c) (length v.log) (rows_of v).next end
      → Grows (is_done end) (added end by c) moment v w
      → Goes (told v.disk) (told w.disk) (Passes v.waits (verdict_of (rows_of v) c) (is_done end) (rows_of v) c)
      → v.waits ≡ false → doubts_in (added end by c) ≡ 0 → Leaves w
  call_leaves by c (Ok (reply.Ok place stamp)) ends grows goes calm none =
      goes_weaker (told v.disk) (told w.disk) (Passes v.waits (verdict_of (rows_of v) c) true (rows_of v) c)
      (λ p q. LeavesBoard (rows_of v) p → LeavesBoard (rows_of w) q)
      (λ p q i j passes stands.
      subst (λ (r : Rows). LeavesBoard r q) (sym (rows_then v w (Done by c ∷ []) grows.base grows.log))
      (stored_leaves (rows_of v) c p q (was_stored (verdict_of (rows_of v) c) (length v.log) (rows_of v).next place stamp
      (rows_of v) c p q ends (passes.stores calm)))) goes
  call_leaves by c (Ok (reply.Same place)) ends grows goes calm none = idle_leaves false grows
  call_leaves by c (Ok (reply.Refused why place)) ends grows goes calm none = idle_leaves false grows
  call_leaves by c (Err (fault.Disk place)) ends grows goes calm none = absurd (omega (arith, none))
  call_leaves by c (Err fault.OutOfMemory) ends grows goes calm none = idle_leaves false grows
