-- A pair stands after each of its steps.
use Rattle.std.proofs.Common.{◌≡◌, ◌≤◌, ℕ, ◌+◌, List, [], ◌∷◌, ◌++◌, length, map, drop, slice_get, Option, Some, None, Result, Ok, Err, refl, sym, ap, subst, ◌∙◌, append_assoc, arith, length-append}
use Rattle.std.proofs.lemmas.List.{append-nil}
use Rattle.std.proofs.Math.Seq.{drop-append_seam}
use Rattle.disk_trait.specs.Past.{Past}
use Rattle.disk_trait.specs.Steps.{Goes}
use Rattle.bbs_board.specs.Calls.{Grows, Passes}
use Rattle.bbs_board.specs.View.{View, rows_of}
use Rattle.bbs_laws.proofs.Public.{replay_log-append, IsLawful-parts}
use Rattle.bbs_model.specs.Calls.{Ends, added, is_done}
use Rattle.bbs_model.specs.Replay.{replay_log, IsLawful}
use Rattle.bbs_model.specs.Step.{verdict_of, IsLegal}
use Rattle.bbs_model.specs.declared.command.Command.{Command}
use Rattle.bbs_model.specs.declared.item.Item.{Item}
use Rattle.bbs_model.specs.declared.item.Item.TheVariants.{Done, Doubt}
use Rattle.bbs_model.specs.declared.reply.CallFault.{CallFault}
use Rattle.bbs_model.specs.declared.reply.Reply.{Reply}
use Rattle.bbs_model.specs.declared.rows.Rows.{Rows}
use Rattle.board_port.proofs.Public.{goes_further, goes_nowhere, rows_then, sole_went}
use Rattle.fenced_board.specs.Fences.{FenceView, NumbersEach}
use Rattle.standby_board.specs.Pairs.{PairView, WentOn, IsPaired, StandsPaired, TriesNext, dones, owed, gained_since, done_on_primary, done_on_standby}
use Rattle.standby_board.proofs.Items.{dones-append, replay-dones, tries-append, tries-longer}

module _ {D : Type 0} (told : D → Option Past) (start : View D) where
  -- room is no part of how a board went on
  pub gone_roomier : (v : View D) (n : ℕ) → WentOn told start v → WentOn told start (record v { spare = n })
  gone_roomier v n gone =
      let g = gone.goes in
      record {
        fresh = gone.fresh;
        goes = record {
          base = g.base;
          since = g.since;
          faults = g.faults;
          grows = g.grows;
          marks = record {
            gained = g.marks.gained;
            grows = g.marks.grows;
            count = g.marks.count;
            rising = g.marks.rising;
          };
          disk = g.disk;
          writes = g.writes;
          leaves = g.leaves;
        };
      }

  -- at its start it has not gone on yet
  pub not_gone : WentOn told start start
  not_gone = record { fresh = []; goes = goes_nowhere told start }

  -- a call goes on from there
  pub gone_further : (v w : View D) (c : Command) (end : Result Reply CallFault) (by moment : ℕ)
      → Ends (verdict_of (rows_of v) c) (length v.log) (rows_of v).next end
      → Grows (is_done end) (added end by c) moment v w → ((q : Past) → told w.disk ≡ Some q → q.clock ≡ moment)
      → Goes (told v.disk) (told w.disk) (Passes v.waits (verdict_of (rows_of v) c) (is_done end) (rows_of v) c)
      → WentOn told start v → WentOn told start w
  gone_further v w c end by moment ends grows timed does gone =
      let went = sole_went by v w c end moment ends grows told 0 timed does in
      record {
        fresh = gone.fresh ++ went.more;
        goes = goes_further told start v w gone.fresh went.more gone.goes went.goes;
      }

-- what a log gained since its start, and then these items
pub gained_more : {D : Type 0} (start v w : View D) (fresh items : List Item) → v.log ≡ start.log ++ fresh
    → w.log ≡ v.log ++ items
    → gained_since start w ≡ gained_since start v ++ items
gained_more start v w fresh items grown more =
    let before : gained_since start v ≡ fresh = ap (drop (length start.log)) grown ∙ drop-append_seam start.log fresh in
    let all : w.log ≡ start.log ++ (fresh ++ items) =
    more ∙ ap (λ (is : List Item). is ++ items) grown ∙ append_assoc start.log fresh items in
    ap (drop (length start.log)) all ∙ drop-append_seam start.log (fresh ++ items) ∙ ap
    (λ (is : List Item). is ++ items) (sym before)

-- more room is no part of how a pair stands
module _ {D E : Type 0} (told : D → Option Past) (told' : E → Option Past) (v : PairView D E)
    (stands : StandsPaired told told' v) where
  roomier : (n m : ℕ) (f : FenceView) → f.numbers ≡ v.fence.numbers
      → StandsPaired told told' (record v {
        primary = record v.primary { spare = n };
        standby =
            record v.standby { spare = m };
        fence = f;
      })
  roomier n m f numbers =
      let is = stands.paired in
      record {
        primary = gone_roomier told v.primary_start v.primary n stands.primary;
        standby = gone_roomier told' v.standby_start v.standby m stands.standby;
        begun = stands.begun;
        paired = record {
          equal = is.equal;
          calm = is.calm;
          mirrors = is.mirrors;
          tries = is.tries;
          level = is.level;
          ready = is.ready;
          counted = is.counted ∙ ap (λ (xs : List ℕ). length v.primary_start.log + length xs) (sym numbers);
        };
      }

  pub stands_roomier : (p : View D) (s : View E) (f : FenceView) → p ≡ record v.primary { spare = p.spare }
      → s ≡ record v.standby { spare = s.spare }
      → f.numbers ≡ v.fence.numbers → StandsPaired told told' (record v { primary = p; standby = s; fence = f })
  stands_roomier p s f primary standby numbers =
      subst (λ (x : View D). StandsPaired told told' (record v { primary = x; standby = s; fence = f })) (sym primary)
      (subst (λ (x : View E). StandsPaired told told' (record v
      { primary = record v.primary { spare = p.spare }; standby = x; fence = f })) (sym standby)
      (roomier p.spare s.spare f numbers))

module _ {D E : Type 0} (v : PairView D E) (is : IsPaired v) where
  -- the standby has done some of what it lacked, and lacks the rest
  pub paired_standby : (s : View E) (fresh items : List Item) (lacks : Option (ℕ × Command))
      → v.standby.log ≡ v.standby_start.log ++ fresh
      → s.base ≡ v.standby.base → s.log ≡ v.standby.log ++ items → owed v.missing ≡ dones items ++ owed lacks
      → TriesNext items (owed lacks)
      → IsPaired (record v { standby = s; missing = lacks })
  paired_standby s fresh items lacks grown base log parts tries =
      let gained : List Item = gained_since v.standby_start v.standby in
      let more = gained_more v.standby_start v.standby s fresh items grown log in
      let done : dones (gained_since v.standby_start s) ≡ dones gained ++ dones items =
      ap dones more ∙ dones-append gained items in
      let rows : rows_of s ≡ replay_log (rows_of v.standby) (dones items) =
      rows_then v.standby s items base log ∙ sym (replay-dones (rows_of v.standby) items) in
      let lawful : IsLawful (rows_of v.standby) (dones items ++ owed lacks) =
      subst (IsLawful (rows_of v.standby)) parts is.ready in
      record {
        equal = is.equal;
        calm = is.calm;
        mirrors = is.mirrors ∙ ap (λ (xs : List Item). dones gained ++ xs) parts ∙ sym
            (append_assoc (dones gained) (dones items) (owed lacks))
            ∙ ap (λ (xs : List Item). xs ++ owed lacks) (sym done);
        tries = subst (λ (xs : List Item). TriesNext xs (owed lacks)) (sym more)
            (tries-append gained items (owed lacks) (subst (TriesNext gained) parts is.tries) tries);
        level = is.level ∙ ap (replay_log (rows_of v.standby)) parts ∙ replay_log-append (rows_of v.standby)
            (dones items) (owed lacks)
            ∙ ap (λ (r : Rows). replay_log r (owed lacks)) (sym rows);
        ready = subst (λ (r : Rows). IsLawful r (owed lacks)) (sym rows)
            (IsLawful-parts (rows_of v.standby) (dones items) (owed lacks) lawful).1;
        counted = is.counted;
      }

  -- the primary has gone on where nothing was missing, and the standby lacks what was done
  pub paired_primary : (p : View D) (f : FenceView) (fresh items : List Item) (lacks : Option (ℕ × Command))
      → v.missing ≡ None
      → v.primary.log ≡ v.primary_start.log ++ fresh → p.base ≡ v.primary.base → p.log ≡ v.primary.log ++ items
      → dones items ≡ owed lacks
      → IsLawful (rows_of v.primary) (owed lacks) → length f.numbers ≡ length v.fence.numbers + length items
      → IsPaired (record v { primary = p; fence = f; missing = lacks })
  paired_primary p f fresh items lacks missing grown base log owes lawful counted =
      let gained : List Item = gained_since v.primary_start v.primary in
      let nothing : owed v.missing ≡ [] = ap owed missing in
      let alike : rows_of v.primary ≡ rows_of v.standby = is.level ∙ ap (replay_log (rows_of v.standby)) nothing in
      let same : dones gained ≡ done_on_standby v =
      is.mirrors ∙ ap (λ (xs : List Item). done_on_standby v ++ xs) nothing ∙ append-nil (done_on_standby v) in
      let more = gained_more v.primary_start v.primary p fresh items grown log in
      let lengths : length p.log ≡ length v.primary.log + length items =
      ap length log ∙ length-append v.primary.log items in
      let before = is.counted in
      record {
        equal = is.equal;
        calm = is.calm;
        mirrors = ap dones more ∙ dones-append gained items ∙ ap (λ (xs : List Item). xs ++ dones items) same
            ∙ ap (λ (xs : List Item). done_on_standby v ++ xs) owes;
        tries = tries-longer (gained_since v.standby_start v.standby) (owed lacks)
            (subst (TriesNext (gained_since v.standby_start v.standby)) nothing is.tries);
        level = rows_then v.primary p items base log ∙ sym (replay-dones (rows_of v.primary) items)
            ∙ ap (replay_log (rows_of v.primary)) owes ∙ ap (λ (r : Rows). replay_log r (owed lacks)) alike;
        ready = subst (λ (r : Rows). IsLawful r (owed lacks)) alike lawful;
        counted = omega (arith, lengths, before, counted);
      }
