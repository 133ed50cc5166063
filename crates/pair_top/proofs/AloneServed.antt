-- A call of the board that took over, as its clients see it.
use Rattle.std.proofs.Common.{◌≡◌, inl, inr, ℕ, Bool, List, ◌++◌, length, Option, Ok, Err, Result, refl, sym, ap, subst, ◌∙◌, arith, length-append}
use Rattle.std.proofs.lemmas.List.{append-nil}
use Rattle.byte_ports.specs.Cause.{HasCause}
use Rattle.bbs_board.specs.View.{View, rows_of}
use Rattle.bbs_model.specs.Calls.{Ends, added, is_disk_fault}
use Rattle.bbs_model.specs.Step.{verdict_of}
use Rattle.bbs_model.specs.declared.command.Command.{Command}
use Rattle.bbs_model.specs.declared.item.Item.{Item}
use Rattle.bbs_model.specs.declared.reply.CallFault.{CallFault}
use Rattle.bbs_model.specs.declared.reply.CallFault.TheVariants as call
use Rattle.bbs_model.specs.declared.reply.Reply.{Reply}
use Rattle.bbs_model.specs.declared.verdict.Verdict.{Verdict}
use Rattle.bbs_model.specs.declared.verdict.Verdict.TheVariants as verdict
use Rattle.disk_trait.specs.Past.{Past}
use Rattle.disk_trait.specs.Runs.{Extends}
use Rattle.disk_trait.specs.Steps.{Goes}
use Rattle.disk_trait.proofs.Public.{extends_same, goes_same, goes_weaker}
use Rattle.fenced_board.specs.Calls.{HandsOn, TakesNumber, handed_on}
use Rattle.fenced_board.specs.Fences.{FencedView}
use Rattle.fenced_board.specs.declared.reply.FencedReply.{FencedReply}
use Rattle.pair_runs.specs.Served.{Blames, IsServed, is_disk_end}
use Rattle.standby_board.specs.Calls.{Answers, gained}
use Rattle.standby_board.specs.Pairs.{dones}
use Rattle.pair_top.specs.Servers.{KeepsAlone, alone_server, end_of}
use Rattle.pair_top.proofs.PairServed.{dones_append}

answers_of : (v : Verdict) (place stamp : ℕ) (end : Result Reply CallFault) → Ends v place stamp end
    → Answers v place stamp (end_of (handed_on end))
answers_of verdict.Ok place stamp end (inl is) =
    inl (inl (ap (λ (e : Result Reply CallFault). end_of (handed_on e)) is))
answers_of verdict.Ok place stamp end (inr (inl is)) =
    inl (inr (inl (ap (λ (e : Result Reply CallFault). end_of (handed_on e)) is)))
answers_of verdict.Ok place stamp end (inr (inr is)) =
    inr (inr (ap (λ (e : Result Reply CallFault). end_of (handed_on e)) is))
answers_of verdict.Same place stamp end is = inl (ap (λ (e : Result Reply CallFault). end_of (handed_on e)) is)
answers_of (verdict.Refused why) place stamp end is = inl (ap (λ (e : Result Reply CallFault). end_of (handed_on e)) is)

gained_of : (end : Result Reply CallFault) (by : ℕ) (c : Command) → gained (end_of (handed_on end)) by c ≡ added end by c
gained_of (Ok reply) by c = refl
gained_of (Err (call.Disk place)) by c = refl
gained_of (Err call.OutOfMemory) by c = refl

disk_of : (end : Result Reply CallFault) → is_disk_end (end_of (handed_on end)) ≡ is_disk_fault end
disk_of (Ok reply) = refl
disk_of (Err (call.Disk place)) = refl
disk_of (Err call.OutOfMemory) = refl

module _ {E : Type 0} (told : E → Option Past) (moment faults : E → ℕ) (number by : ℕ) (command : Command)
    (v w : FencedView E) where
  cause : (failed : Bool) → HasCause failed (faults v.board.disk) (faults w.board.disk)
      → Blames failed (alone_server faults v) (alone_server faults w)
  cause failed has = record { primary = omega arith; standby = has.later; rose = λ is. inr (has.rose is) }

  -- the board was called
  called : (result : Result FencedReply CallFault) → HandsOn told moment faults number by command v w result
      → IsServed by command (alone_server faults v) (end_of result) (alone_server faults w)
  called result hands =
      let call = hands.behind.called in
      let log : w.board.log ≡ v.board.log ++ gained (end_of (handed_on hands.end)) by command =
      call.grows.log ∙ ap (λ (l : List Item). v.board.log ++ l) (sym (gained_of hands.end by command)) in
      subst (λ (r : Result FencedReply CallFault). IsServed by command (alone_server faults v) (end_of r) (alone_server faults w))
      (sym hands.answer) (record {
        base = call.grows.base;
        answers = answers_of (verdict_of (rows_of v.board) command) (length v.board.log) (rows_of v.board).next hands.end call.ends;
        log = log;
        blames = subst (λ (b : Bool). Blames b (alone_server faults v) (alone_server faults w)) (sym (disk_of hands.end))
            (cause (is_disk_fault hands.end) call.uses.faults.cause);
        followed = record {
          level = λ calm was. refl;
          grows = omega (
            arith,
            ap (λ (l : List Item). length (dones l)) log
                ∙ ap length (dones_append v.board.log (gained (end_of (handed_on hands.end)) by command))
                ∙ length-append (dones v.board.log) (dones (gained (end_of (handed_on hands.end)) by command)),
          );
          covers = λ ok. omega arith;
        };
      })

  -- it is the same board
  pub alone_keeps : (result : Result FencedReply CallFault) → TakesNumber told moment faults number by command v w result
      → KeepsAlone told v number w number
  alone_keeps result (inl hands) =
      let call = hands.behind.called in
      record {
        base = call.grows.base;
        since = call.grows.since;
        faults = call.grows.faults;
        goes = goes_weaker (told v.board.disk) (told w.board.disk) _ Extends (λ p q i j passes. passes.extends) call.does;
        fence_is = refl;
      }
  alone_keeps result (inr wants) = record {
    base = ap (λ (b : View E). b.base) wants.board;
    since = ap (λ (b : View E). b.since) wants.board;
    faults = ap (λ (b : View E). b.faults) wants.board;
    goes = subst (λ (b : View E). Goes (told v.board.disk) (told b.disk) Extends) (sym wants.board)
        (goes_same (told v.board.disk) Extends (λ p is. extends_same p));
    fence_is = refl;
  }

  -- what a client sees of a call whose number isn't stale
  pub alone_served : (result : Result FencedReply CallFault) → TakesNumber told moment faults number by command v w result
      → IsServed by command (alone_server faults v) (end_of result) (alone_server faults w)
  alone_served result (inl hands) = called result hands
  alone_served result (inr wants) =
      subst (λ (r : Result FencedReply CallFault). IsServed by command (alone_server faults v) (end_of r) (alone_server faults w))
      (sym wants.answer) (record {
        base = ap (λ b. b.base) wants.board;
        answers = inr (inr refl);
        log = ap (λ b. b.log) wants.board ∙ sym (append-nil v.board.log);
        blames = record {
          primary = omega arith;
          standby = omega (arith, ap (λ b. faults b.disk) wants.board);
          rose = λ failed. absurd (cc (failed));
        };
        followed = record {
          level = λ calm was. refl;
          grows = omega (arith, ap (λ b. length (dones b.log)) wants.board);
          covers = λ ok. omega arith;
        };
      })
