-- A call of a board by the first caller, and one by the visitor, as the first caller sees them.
use Rattle.std.proofs.Common.{◌≡◌, ◌==◌, ◌<◌, ◌^◌, ℕ, List, [], ◌++◌, length, Result, Ok, Err, refl, ap, subst, ◌∙◌, append_assoc}
use Rattle.std.proofs.lemmas.List.{append-nil}
use Rattle.std.proofs.lemmas.List.Elements.{filter-append}
use Rattle.bbs_model.specs.Calls.{Ends, added, is_done, by_of, by_number}
use Rattle.bbs_model.specs.PortView.{PortView, after_others, after_own, Looks, IsCalled}
use Rattle.bbs_model.specs.Replay.{replay_log}
use Rattle.bbs_model.specs.Step.{verdict_of}
use Rattle.bbs_model.specs.declared.command.Command.{Command}
use Rattle.bbs_model.specs.declared.item.Item.{Item}
use Rattle.bbs_model.specs.declared.reply.CallFault.{CallFault}
use Rattle.bbs_model.specs.declared.reply.CallFault.TheVariants as fault
use Rattle.bbs_model.specs.declared.reply.Reply.{Reply}
use Rattle.bbs_model.specs.declared.reply.Reply.TheVariants as reply
use Rattle.bbs_model.specs.declared.rows.Rows.{Rows}
use Rattle.bbs_model.proofs.Public.{called_alone}
use Rattle.bbs_board.specs.Calls.{Grows}
use Rattle.bbs_board.specs.View.{View, rows_of}
use Rattle.board_port.specs.Went.{seen_of}

-- what the first caller adds is its own
own_added : (end : Result Reply CallFault) (c : Command) → by_number 7 (added end 7 c) ≡ added end 7 c
own_added (Ok (reply.Ok place stamp)) c = refl
own_added (Ok (reply.Same place)) c = refl
own_added (Ok (reply.Refused why place)) c = refl
own_added (Err (fault.Disk place)) c = refl
own_added (Err fault.OutOfMemory) c = refl

-- what the visitor adds is none of it
none_added : (end : Result Reply CallFault) (c : Command) → by_number 7 (added end 8 c) ≡ []
none_added (Ok (reply.Ok place stamp)) c = refl
none_added (Ok (reply.Same place)) c = refl
none_added (Ok (reply.Refused why place)) c = refl
none_added (Err (fault.Disk place)) c = refl
none_added (Err fault.OutOfMemory) c = refl

-- what is seen of a board, by its parts
abbrev sight : Rows → List Item → List Item → PortView
sight base seen mine = record { base = base; seen = seen; mine = mine }

-- of a log that grew by items of which these are its own the caller sees just that
seen_more : (base base' : Rows) (log log' items own : List Item) → base' ≡ base → log' ≡ log ++ items
    → by_number 7 items ≡ own
    → sight base' log' (by_number 7 log') ≡ sight base (log ++ items) (by_number 7 log ++ own)
seen_more base base' log log' items own base_is log_is own_is =
    ap (λ (r : Rows). sight r log' (by_number 7 log')) base_is
    ∙ ap (λ (l : List Item). sight base l (by_number 7 l)) log_is
    ∙ ap (λ (l : List Item). sight base (log ++ items) l)
    (filter-append (λ (i : Item). by_of i == 7) log items ∙ ap (λ (xs : List Item). by_number 7 log ++ xs) own_is)

module _ {D : Type 0} (v w : View D) (c : Command) (end : Result Reply CallFault) (moment : ℕ) where
  pub visit_looks : Grows (is_done end) (added end 8 c) moment v w → length w.log < 2 ^ 64
      → Looks (seen_of 7 v) (seen_of 7 w)
  visit_looks grows few = record {
    others = added end 8 c;
    is = seen_more v.base w.base v.log w.log (added end 8 c) [] grows.base grows.log (none_added end c)
        ∙ ap (λ (l : List Item). sight v.base (v.log ++ added end 8 c) l) (append-nil (by_number 7 v.log));
    few = few;
  }

  pub own_called : Ends (verdict_of (rows_of v) c) (length v.log) (rows_of v).next end
      → Grows (is_done end) (added end 7 c) moment v w
      → length w.log < 2 ^ 64 → IsCalled 7 (seen_of 7 v) c end (seen_of 7 w)
  own_called ends grows few = called_alone 7 (seen_of 7 v) c end (seen_of 7 w) ends
      (seen_more v.base w.base v.log w.log (added end 7 c) (added end 7 c) grows.base grows.log (own_added end c)) few

-- a call behind a look is a call with what was seen then before it
called_behind : (v : PortView) (xs : List Item) (c : Command) (end : Result Reply CallFault) (w : PortView)
    → IsCalled 7 (after_others v xs) c end w → IsCalled 7 v c end w
called_behind v xs c end w h =
    let joined : (v.seen ++ xs) ++ h.others ≡ v.seen ++ (xs ++ h.others) = append_assoc v.seen xs h.others in
    record {
      others = xs ++ h.others;
      ends = subst (λ (l : List Item). Ends (verdict_of (replay_log v.base l) c) (length l)
          (replay_log v.base l).next end) joined h.ends;
      is = h.is ∙ ap (λ (l : List Item). sight v.base (l ++ added end 7 c) (v.mine ++ added end 7 c)) joined;
      few = h.few;
    }

pub looks_called : (v u : PortView) (c : Command) (end : Result Reply CallFault) (w : PortView) → Looks v u
    → IsCalled 7 u c end w → IsCalled 7 v c end w
looks_called v u c end w looks called = called_behind v looks.others c end w
    (subst (λ (x : PortView). IsCalled 7 x c end w) looks.is called)
