-- Of phases that are told silently the summary alone is printed.
use Rattle.std.proofs.Common.{◌≡◌, List, [], ◌∷◌, Option, ap, ◌∙◌}
use Rattle.std.proofs.lemmas.List.{append-nil}
use Rattle.disk_trait.specs.Past.{Past}
use Rattle.converge_round.specs.Each.{Each}
use Rattle.scenario_lines.specs.declared.script.Phase.{Phase}
use Rattle.scenario_lines.specs.declared.script.Script.{Script}
use Rattle.scenario_player.specs.Courses.{PlaysPhase, RunCourse}
use Rattle.large_runs.specs.Silent.{silent_wording}

pub silent : {D : Type 0} (told : D → Option Past) (script : Script) (phases : List Phase) (s s' : RunCourse D)
    → Each (PlaysPhase told silent_wording script) phases s s' → s'.text ≡ s.text
silent {D} told script [] s s' same = ap (λ (c : RunCourse D). c.text) same
silent {D} told script (phase ∷ more) s s' (m, plays, rest) =
    silent told script more m s' rest ∙ (plays.text ∙ append-nil s.text)
