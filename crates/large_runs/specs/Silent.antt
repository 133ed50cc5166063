-- What is told of a phase by a teller that tells nothing.
use Rattle.std.specs.Prelude.{[]}
use Rattle.scenario_player.specs.Wordings.{Wording}

-- nothing, whatever the phase did
abbrev pub silent_wording : Wording
silent_wording script phase answers report base before after = []
