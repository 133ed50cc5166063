-- A serial run is what its scenario comes to on its board.
use Rattle.std.proofs.Common.{◌≡◌, ℕ, true, List, Option, sym, ap, subst, ◌∙◌}
use Rattle.disk_trait.specs.Past.{Past, content}
use Rattle.disk_trait.specs.Shows.{Secures}
use Rattle.disk_trait.specs.Steps.{Goes}
use Rattle.disk_trait.proofs.Public.{goes_then}
use Rattle.bbs_board.specs.Doubts.{doubts_in}
use Rattle.bbs_board.specs.Written.{WritesOn}
use Rattle.bbs_journal.specs.Stops.{OpensAs}
use Rattle.bbs_model.specs.declared.item.Item.{Item}
use Rattle.bbs_model.specs.declared.rows.Rows.{Rows}
use Rattle.program_ends.specs.Ports.{Ports, PrintsTo}
use Rattle.program_ends.specs.declared.ending.Ending.TheVariants as ending
use Rattle.scenario_player.specs.Wordings.{Wording}
use Rattle.program_run.specs.Runs.{EndsLate, RunsScript}
use Rattle.program_run.specs.declared.ended.Ended.{Ended}
use Rattle.scenario_lines.specs.declared.script.Script.{Script}
use Rattle.scenario_reader.specs.Facts.{IsScript}
use Rattle.run_function.specs.Boards.{SoleBoard}
use Rattle.run_function.specs.ScriptLaws.{IsRunAlone, RunsAreAlone}
use Rattle.run_function.specs.Scripts.{IsSerialScript, board_at, script_alone, words_alone}
use Rattle.diego_engine.specs.Serial.{IsSerialRun, RunsSerially, opened_with}
use Rattle.diego_engine.proofs.Recoveries.{opened}

-- a disk that keeps its content, and then has items written behind, has them written behind
keeps_then_writes : (rows : Rows) (items : List Item) (p q r : Past) → Secures p q → WritesOn rows items q r
    → WritesOn rows items p r
keeps_then_writes rows items p q r secures writes reading reads =
    let same : content p ≡ content q = λ i. λ area. sym (secures.keeps.same area) i in
    writes reading (subst (λ (image : Rattle.disk_trait.specs.Past.Image).
    OpensAs image reading.area reading.version reading.generation reading.head reading.payloads) same reads)

module _ {D : Type 0} (told : D → Option Past) (faults moment : D → ℕ) (wording : Wording) (law : RunsAreAlone told)
    (e : Ended) (v w : Ports) (script : Script)
    (sound : IsScript script) (late : EndsLate told faults moment wording script ending.Done e v w) where
  board_is : board_at late.plays.board ≡ opened_with late.rows
  board_is = λ i. record { base = late.plays.base i; log = late.plays.fresh.log i }

  alone : IsSerialScript script → IsRunAlone told wording script e.answers.items e.reports.items late.plays.board
      late.plays.left
      late.between.held w.held late.between.write_faults w.write_faults
  alone serial =
      law wording script e.answers.items e.reports.items late.plays.board late.plays.left late.between.held w.held
      late.between.write_faults w.write_faults
      sound serial late.plays.plays

  writes : Goes v.told w.told (WritesOn late.rows e.log.items)
  writes =
      goes_then v.told late.between.told w.told Secures (WritesOn late.rows e.log.items)
      (WritesOn late.rows e.log.items)
      (λ p q r is_p is_q is_r secures on. keeps_then_writes late.rows e.log.items p q r secures on) late.opens.secures
      (late.plays.writes (ap doubts_in late.plays.log ∙ late.plays.plays.over.1))

  prints : (serial : IsSerialScript script) → PrintsTo true
      (words_alone wording script (opened_with late.rows)) v.held w.held v.write_faults w.write_faults
  prints serial =
      subst (λ (b : SoleBoard). PrintsTo true (words_alone wording script b) v.held w.held v.write_faults
      w.write_faults) board_is
      (subst (λ (h : Option (List ℕ)). PrintsTo true (words_alone wording script (board_at late.plays.board)) h w.held
      v.write_faults w.write_faults) late.opens.same_sink.0
      (subst (λ (n : ℕ). PrintsTo true (words_alone wording script (board_at late.plays.board)) late.between.held w.held
      n w.write_faults) late.opens.same_sink.1
      (alone serial).prints))

  pub is_serial : IsSerialScript script → IsSerialRun wording script late.rows e v w
  is_serial serial = record {
    answers_are = (alone serial).answers_are ∙ ap (λ (b : SoleBoard). (script_alone wording script b).answers) board_is;
    reports_are = (alone serial).reports_are ∙ ap (λ (b : SoleBoard). (script_alone wording script b).reports) board_is;
    log_is = late.plays.log ∙ ap (λ (b : SoleBoard). b.log) (alone serial).board ∙ ap
        (λ (b : SoleBoard). (script_alone wording script b).board.log) board_is;
    prints = prints serial;
    writes = writes;
  }

-- a run that ended well
pub serially : {D : Type 0} (told : D → Option Past) (faults moment : D → ℕ) (wording : Wording) → RunsAreAlone told
    → (e : Ended) (left left' : Option (List ℕ)) (v w : Ports)
    → RunsScript told faults moment wording ending.Done e left left' v w → RunsSerially wording e left left' v w
serially told faults moment wording law e left left' v w runs = record {
  script = runs.script;
  rows = runs.ends.rows;
  reads = runs.reads;
  opened = opened told faults moment wording e v w runs.script ending.Done runs.ends;
  serial = is_serial told faults moment wording law e v w runs.script runs.sound runs.ends;
}
