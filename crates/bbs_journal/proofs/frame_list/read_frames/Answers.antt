use Rattle.std.proofs.Common.{◌≡◌, ◌∙◌, ◌-◌, None, Some, List, refl, subst, arith, rules, ap, length, Vec, ℕ, Global, drop}
use Rattle.std.proofs.lemmas.List.{length_push}
use Rattle.bbs_journal.specs.Reading.{IsAt, IsFrameWithin, payloads_of, bytes_of}
use Rattle.bbs_journal.specs.declared.frame.Next.{Next}
use Rattle.bbs_journal.specs.declared.frame.Next.TheVariants.{Frame}
use Rattle.bbs_journal.proofs.NextFrame.{one_more, all_stop, bytes_push}
use Rattle.bbs_journal.proofs.Peeking.{shows_back}
use Rattle.bbs_journal.proofs.frame_list.read_frames.Goals as goal

pub loop-piece-preserved : goal.loop-piece-preserved
loop-piece-preserved g c =
    let payload = c.in-Frame.payload in
    let here : IsFrameWithin (Frame payload) (c.args.len - c.loop-piece.at) =
    subst (λ (n : Next). IsFrameWithin n (c.args.len - c.loop-piece.at)) c.in-Frame.is
    c.in_ok-payload.ensures.within in
    let size : c.len.result ≡ length payload.items = c.len.ensures ∙ payload.ok.0 in
    let items = c.in_ok-push-in-Frame.ensures.items in
    record {
      within = omega (arith, here.1, size, c.loop-piece.invariant.within);
      end = omega (
        arith,
        size,
        c.loop-piece.invariant.end,
        ap (λ (l : List (Vec ℕ Global)). bytes_of (payloads_of l)) items,
        bytes_push c.loop-piece.payloads.items payload,
      );
      few = omega (
        arith,
        size,
        here.0,
        c.loop-piece.invariant.few,
        ap (λ (l : List (Vec ℕ Global)). length l) items,
        length_push c.loop-piece.payloads.items payload,
      );
      stood = search rules;
      starts = record {
        before = omega (arith, c.in_ok-payload.ensures.starts.before);
        fits =
            c.in_ok-payload.ensures.starts.fits;
        size = c.in_ok-payload.ensures.starts.size;
      };
      holds = λ c' shows len. (c.in_ok-payload.ensures.shows c' shows len
          (c.loop-piece.invariant.holds c' (shows_back _ _ c' c.in_ok-payload.ensures.does shows) len)).0;
      does = search rules;
      shows = λ c' shows len.
          let next = (c.in_ok-payload.ensures.shows c' shows len
          (c.loop-piece.invariant.holds c' (shows_back _ _ c' c.in_ok-payload.ensures.does shows) len)).1 in
          one_more (c' c.args.area) c.loop-piece.payloads.items c.args.start c.loop-piece.at payload _ _ items
          (omega (arith, size))
          (subst (λ (n : Next). IsAt n (drop c.loop-piece.at (c' c.args.area))) c.in-Frame.is next)
          (c.loop-piece.invariant.shows c' (shows_back _ _ c' c.in_ok-payload.ensures.does shows) len);
    }

pub returns-in-Gate-clause-shows : goal.returns-in-Gate-clause-shows
returns-in-Gate-clause-shows g c c' shows len =
    let next = (c.in_ok-payload.ensures.shows c' shows len
    (c.loop-piece.invariant.holds c' (shows_back _ _ c' c.in_ok-payload.ensures.does shows) len)).1 in
    all_stop (c' c.args.area) c.loop-piece.payloads.items c.args.start c.loop-piece.at None
    (subst (λ (n : Next). IsAt n (drop c.loop-piece.at (c' c.args.area))) c.in-Gate.is next)
    (c.loop-piece.invariant.shows c' (shows_back _ _ c' c.in_ok-payload.ensures.does shows) len)

pub returns-in-Defect-clause-shows : goal.returns-in-Defect-clause-shows
returns-in-Defect-clause-shows g c c' shows len =
    let next = (c.in_ok-payload.ensures.shows c' shows len
    (c.loop-piece.invariant.holds c' (shows_back _ _ c' c.in_ok-payload.ensures.does shows) len)).1 in
    all_stop (c' c.args.area) c.loop-piece.payloads.items c.args.start c.loop-piece.at (Some c.loop-piece.at)
    (refl, subst (λ (n : Next). IsAt n (drop c.loop-piece.at (c' c.args.area))) c.in-Defect.is next)
    (c.loop-piece.invariant.shows c' (shows_back _ _ c' c.in_ok-payload.ensures.does shows) len)
