-- A board in memory after a doubt more, and how its calls end.
use Rattle.std.proofs.Common.{◌≡◌, inl, inr, ℕ, Bool, true, false, List, [], ◌∷◌, ◌++◌, Option, None, Result, sym, ap, ◌∙◌}
use Rattle.bbs_model.specs.Calls.{Ends}
use Rattle.bbs_model.specs.Replay.{replay_log}
use Rattle.bbs_model.specs.Told.{told_in}
use Rattle.bbs_model.specs.declared.command.Command.{Command}
use Rattle.bbs_model.specs.declared.event.Events.{Events}
use Rattle.bbs_model.specs.declared.item.Item.{Item}
use Rattle.bbs_model.specs.declared.item.Item.TheVariants.{Doubt}
use Rattle.bbs_model.specs.declared.reply.CallFault.{CallFault}
use Rattle.bbs_model.specs.declared.reply.Reply.{Reply}
use Rattle.bbs_model.specs.declared.rows.Rows.{Rows}
use Rattle.bbs_model.specs.declared.verdict.Verdict.TheVariants as verdict
use Rattle.bbs_laws.proofs.Public.{replay_log-append, told_in-one_more}
use Rattle.plain_step.specs.Plain.{IsPlain}
use Rattle.cell_tests.specs.Failing.{EndsHere}

pub plain_doubt : (base rows : Rows) (log after : List Item) (told told_after : List (Option Events)) (by : ℕ)
    (c : Command)
    → IsPlain base rows log told → after ≡ log ++ Doubt by c ∷ [] → told_after ≡ told ++ None ∷ []
    → IsPlain base rows after told_after
plain_doubt base rows log after told told_after by c p after_is told_is = record {
  replayed = p.replayed ∙ sym (replay_log-append base log (Doubt by c ∷ [])) ∙ ap (replay_log base) (sym after_is);
  valid = p.valid;
  told_is = told_is ∙ ap (λ (ts : List (Option Events)). ts ++ None ∷ []) p.told_is
      ∙ sym (told_in-one_more base log (Doubt by c)) ∙ ap (told_in base) (sym after_is);
}

-- whether the disk fails or not, a legal call ends as one does
pub ends_here : (fails : Bool) (place stamp : ℕ) (end : Result Reply CallFault)
    → EndsHere fails place stamp end → Ends verdict.Ok place stamp end
ends_here true place stamp end (inl disk) = inr (inl disk)
ends_here true place stamp end (inr starved) = inr (inr starved)
ends_here false place stamp end (inl done) = inl done
ends_here false place stamp end (inr starved) = inr (inr starved)
