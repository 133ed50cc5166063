use Rattle.std.proofs.Common.{◌∙◌, Ok, Result, IfOk, ap, sym, subst}
use Rattle.scenario_reader.specs.Facts.{IsScript}
use Rattle.scenario_reader.specs.Faults.{◌>>=◌}
use Rattle.scenario_reader.specs.Steps.{script_in}
use Rattle.scenario_reader.specs.declared.fault.ScriptFault.{ScriptFault}
use Rattle.scenario_reader.specs.declared.reading.Reading.{Reading}
use Rattle.scenario_lines.specs.declared.script.Script.{Script}
use Rattle.scenario_reader.proofs.Agreement.{gives_fault, script_of-read}
use Rattle.scenario_reader.proofs.SoundScripts.{script_of-sound}
use Rattle.scenario_reader.proofs.reader.read_script.Goals as goal

pub returns-in-Err : goal.returns-in-Err
returns-in-Err c = record { exact = gives_fault c.in-Err.fault c.args.bytes.now c.in-Err.ensures; facts = tt }

pub returns-in_ok-script-in-Ok : goal.returns-in_ok-script-in-Ok
returns-in_ok-script-in-Ok c =
    let exact = script_of-read c.args.bytes.now ∙ ap (λ (r : Result Reading ScriptFault). r >>= λ reading.
    Ok (script_in reading)) c.in-Ok.ensures ∙ ap Ok (sym c.in_ok-script-in-Ok.ensures) in
    record {
      exact = exact;
      facts = subst (λ (r : Result Script ScriptFault). IfOk r IsScript) exact
          (script_of-sound c.args.bytes.now);
    }
