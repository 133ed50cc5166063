-- What a round counts of its calls.
use Rattle.std.specs.Prelude.{ℕ, ◌+◌, ◌-◌, ◌^◌, min, [], ◌∷◌, ◌++◌}
use Rattle.bbs_model.specs.declared.command.Command.{Command}
use Rattle.bbs_model.specs.declared.reply.Reply.{Reply}
use Rattle.bbs_model.specs.declared.reply.Reply.TheVariants as reply
use Rattle.converge_round.specs.declared.tally.Tally.{Tally}

-- one more, up to the last value of 64 bits
abbrev pub one_more : ℕ → ℕ
one_more n = min (n + 1) (2 ^ 64 - 1)

-- a call has that reply
abbrev pub noted : Command → Reply → Tally → Tally
noted c (reply.Ok place stamp) t = record t { own = one_more t.own }
noted c (reply.Same place) t = t
noted c (reply.Refused why place) t = record t { refused = t.refused ++ (c, why) ∷ [] }

-- a start was lost
abbrev pub lost_one : Tally → Tally
lost_one t = record t { lost = one_more t.lost }

-- nothing was called yet
abbrev pub no_calls : Tally
no_calls = record { own = 0; refused = []; lost = 0 }
