use Rattle.std.proofs.Common.{◌∙◌, sym, arith}
use Rattle.bbs_journal.proofs.FrameAt.{broken_here, frame_here}
use Rattle.bbs_journal.proofs.frame.next_frame.Goals as goal

pub returns-in-None : goal.returns-in-None
returns-in-None c = broken_here _ c.in-len1-up.len_at_least c.if-gate-eq0.false
    (sym c.payload_len.ensures.value ∙ c.in-None.is)

pub returns-in_ok-from_slice-in-Some : goal.returns-in_ok-from_slice-in-Some
returns-in_ok-from_slice-in-Some c =
    let len = c.in-Some.ensures.within in
    frame_here _ _ _ _ c.in-len1-up.len_at_least c.if-gate-eq0.false (λ i. omega (arith, c.type_inv.bytes i))
    (sym c.payload_len.ensures.value ∙ c.in-Some.is) len.0 len.1 len.2
    c.in_ok-from_slice-in-Some.ensures.items (omega arith)
