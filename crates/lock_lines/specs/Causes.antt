-- Why a lock command was refused, in words.
use Rattle.std.specs.Prelude.{ℕ, List, ◌++◌, codes}
use Rattle.std.specs.Fmt.{decimal}
use Rattle.locket.specs.declared.reply.LockRefusal.{LockRefusal}
use Rattle.locket.specs.declared.reply.LockRefusal.TheVariants.{Past, Held, NotHolder, Expired, LockFull}

-- the last change was at a later moment
abbrev pub past_text : ℕ → List ℕ
past_text seen = codes "past " ++ decimal seen

-- another owner has the lease until then
abbrev pub held_text : List ℕ → ℕ → List ℕ
held_text by until = codes "held " ++ (by ++ (codes " " ++ decimal until))

-- why a lock command was refused
abbrev pub why_text : LockRefusal → List ℕ
why_text (Past seen) = past_text seen.0
why_text (Held by until) = held_text by until
why_text (NotHolder last) = codes "not holder " ++ decimal last
why_text (Expired until) = codes "expired " ++ decimal until
why_text LockFull = codes "lock full"
