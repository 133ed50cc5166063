-- What the run of a text comes to whose disk held a board without rows, and whose sink held nothing.
use Rattle.std.proofs.Common.{◌≡◌, ℕ, ◌-◌, ◌+◌, List, [], ◌++◌, length, Option, Some, None, Ok, refl, sym, ap, subst, ◌∙◌, arith, inl, inr}
use Rattle.std.proofs.lemmas.List.{append-nil}
use Rattle.std.specs.Io.KnownBytes.{Consumes, IsAtEnd, Appends}
use Rattle.std.specs.Option.{ForSome}
use Rattle.disk_trait.specs.Memory.{calls_of, faults_of, memory_past}
use Rattle.disk_trait.specs.Past.{Past, content}
use Rattle.disk_trait.specs.Runs.{Extends}
use Rattle.disk_trait.specs.Shows.{Shows}
use Rattle.disk_trait.specs.Steps.{Goes}
use Rattle.disk_trait.specs.declared.memory_disk.MemoryDisk.{MemoryDisk}
use Rattle.bbs_board.specs.Doubts.{doubts_in}
use Rattle.bbs_board.specs.Kept.{Kept}
use Rattle.bbs_board.specs.Opening.{IsBoard}
use Rattle.bbs_board.specs.View.{View}
use Rattle.bbs_board.proofs.Public.{one_board}
use Rattle.bbs_model.specs.Replay.{IsLawful, replay_log}
use Rattle.bbs_model.specs.Tables.{no_rows}
use Rattle.bbs_model.specs.Valid.{IsValid}
use Rattle.bbs_model.specs.declared.item.Item.{Item}
use Rattle.bbs_model.specs.declared.rows.Rows.{Rows}
use Rattle.program_ends.specs.Ports.{IsTold, Ports}
use Rattle.program_ends.specs.Reading.{ReadsWhole}
use Rattle.program_ends.specs.declared.ending.Ending.{Ending}
use Rattle.program_ends.specs.declared.ending.Ending.TheVariants as ending
use Rattle.program_run.specs.Runs.{EndsLate, RunEnds, ScriptEnds}
use Rattle.program_run.specs.declared.ended.Ended.{Ended}
use Rattle.record_print.specs.Printed.{line_text, summary_data}
use Rattle.record_print.specs.declared.summary.Summary.{Summary}
use Rattle.run_theorem.specs.Headline.{IsFaithful}
use Rattle.run_theorem.specs.Laws.{PlayedRunsAreFaithful, PlayedRunsKeepBase}
use Rattle.scenario_lines.specs.declared.script.Script.{Script}
use Rattle.scenario_player.specs.Plays.{summary_of}
use Rattle.scenario_reader.specs.Accepted.{script_of}
use Rattle.scenario_reader.specs.Facts.{IsScript}
use Rattle.large_runs.specs.Large.{RanText, TextEnds, counts_of, summary_line}
use Rattle.large_runs.specs.Silent.{silent_wording}
use Rattle.large_runs.proofs.Calm.{no_doubts}
use Rattle.large_runs.proofs.Silence.{silent}

-- all that a source told was read
read_all : (text bytes : List ℕ) (left : Option (List ℕ)) → Consumes (Some text) left bytes → IsAtEnd left → bytes ≡ text
read_all text bytes None consumes end = absurd consumes
read_all text bytes (Some more) consumes end =
    sym (consumes ∙ (ap (λ (l : List ℕ). bytes ++ l) end ∙ append-nil bytes))

-- all that a sink holds which held nothing
put_all : (held : Option (List ℕ)) (bytes text : List ℕ) → held ≡ Some bytes → Appends (Some []) held text → bytes ≡ text
put_all None bytes text is appends = absurd appends
put_all (Some all) bytes text is appends = ap (λ (o : Option (List ℕ)). some_or o) (sym is) ∙ appends
  where
    some_or : Option (List ℕ) → List ℕ
    some_or (Some l) = l
    some_or None = []

-- a disk that tells its past at the end told it before
told_back : (between told' : Option Past) (Does : Past → Past → Type 0) → Goes between told' Does → IsTold told'
    → IsTold between
told_back None None Does goes is = absurd is
told_back None (Some r) Does goes is = absurd goes
told_back (Some q) told' Does goes is = tt

-- each item has a mark
marked : (told : Option Past) (rows : Rows) (log : List Item) (marks : List ℕ) (since : ℕ) → IsTold told
    → ForSome told (Kept rows log marks since) → length marks ≡ length log
marked None rows log marks since is kept = absurd is
marked (Some p) rows log marks since is kept = (kept p refl).count

-- the counts of a run without doubts that began without rows
counts : (base : Rows) (log : List Item) (phases : ℕ) → base ≡ no_rows → doubts_in log ≡ 0
    → record { done = length log - doubts_in log; doubts = doubts_in log; next = (replay_log base log).next; phases = phases }
    ≡ counts_of log phases
counts base log phases same calm = λ i. record {
  done = (ap (λ (n : ℕ). length log - n) calm ∙ all_of log) i;
  doubts = calm i;
  next = (replay_log (same i) log).next;
  phases = phases;
}
  where
    all_of : (log : List Item) → length log - 0 ≡ length log
    all_of log = omega arith

module _ {D : Type 0} (told : D → Option Past) (faults moment : D → ℕ) (law : PlayedRunsAreFaithful told)
    (keeps : PlayedRunsKeepBase told) (text : List ℕ) (e : Ended) (left' : Option (List ℕ)) (v w : Ports) (p : Past)
    (v_told : v.told ≡ Some p) (w_told : IsTold w.told) (board : IsBoard no_rows (content p)) where
  abbrev pub Late : Script → Ending → Type 0
  Late script how = EndsLate told faults moment silent_wording script how e v w

  rows_are : (script : Script) (how : Ending) (late : Late script how) → late.rows ≡ no_rows
  rows_are script how late =
      one_board late.rows no_rows (content p) (late.opens.found (content p) (late.opens.still (content p)
      (subst (λ (t : Option Past). Shows t (content p)) (sym v_told) (λ area. refl))
      (told_back late.between.told w.told Extends late.plays.extends w_told))) board

  faithful : (script : Script) (how : Ending) → IsScript script → (late : Late script how)
      → IsFaithful script how e.answers.items e.reports.items no_rows e.log.items
  faithful script how sound late =
      let plays = late.plays in
      subst (λ (rows : Rows). IsFaithful script how e.answers.items e.reports.items rows e.log.items)
      (plays.base ∙ rows_are script how late)
      (subst (λ (log : List Item). IsFaithful script how e.answers.items e.reports.items plays.board.base log)
      (sym plays.log)
      (law silent_wording script how e.answers.items e.reports.items plays.board plays.left late.between.held w.held
      late.between.write_faults w.write_faults sound
      plays.fresh.log (subst IsValid (sym plays.base) plays.valid)
      (subst (λ (rows : Rows). IsLawful rows plays.left.log) (sym plays.base)
      (subst (λ (log : List Item). IsLawful late.rows log) plays.log plays.lawful)) plays.plays))

  said : (script : Script) → ReadsWhole script_of (Ok script) (Some text) left' → script_of text ≡ Ok script
  said script reads = ap script_of (sym (read_all text reads.bytes left' reads.consumes reads.end)) ∙ reads.says

  ran : (script : Script) (how : Ending) → ReadsWhole script_of (Ok script) (Some text) left' → IsScript script
      → Late script how → doubts_in e.log.items ≡ 0 → RanText text how e
  ran script how reads sound late calm = record {
    script = script;
    says = said script reads;
    lawful = subst (λ (rows : Rows). IsLawful rows e.log.items) (rows_are script how late) late.plays.lawful;
    calm = calm;
    marked = marked w.told late.rows e.log.items e.marks.items late.between.clock w_told late.plays.kept;
    faithful = faithful script how sound late;
  }

  calm_at_end : (script : Script) → Late script ending.Done → doubts_in e.log.items ≡ 0
  calm_at_end script late = ap doubts_in late.plays.log ∙ late.plays.plays.over.1

  summary : (script : Script) (late : Late script ending.Done) (bytes : List ℕ) → v.held ≡ Some [] → w.held ≡ Some bytes
      → bytes ≡ summary_line e.log.items (length script.phases)
  summary script late bytes nothing all =
      let plays = late.plays.plays in
      let last = plays.last in
      let text_is : last.text ≡ [] = silent told script plays.ran _ last plays.ends.first.each in
      let put = put_all w.held bytes (last.text ++ line_text (summary_data (summary_of last.board (length plays.ran)))) all
      (subst (λ (held : Option (List ℕ)). Appends held w.held
      (last.text ++ line_text (summary_data (summary_of last.board (length plays.ran)))))
      (late.opens.same_sink.0 ∙ nothing) (plays.prints.all refl)) in
      let first : plays.ran ≡ script.phases =
      sym (plays.ends.first.split ∙ (ap (λ (l : List _). plays.ran ++ l) plays.over.0 ∙ append-nil plays.ran)) in
      let base : late.plays.left.base ≡ no_rows =
      keeps silent_wording script ending.Done e.answers.items e.reports.items late.plays.board late.plays.left
      late.between.held w.held late.between.write_faults w.write_faults plays
      ∙ (late.plays.base ∙ rows_are script ending.Done late) in
      let line : summary_of last.board (length plays.ran) ≡ counts_of e.log.items (length script.phases) =
      ap (λ (b : View D). summary_of b (length plays.ran)) (sym plays.ends.board)
      ∙ (counts late.plays.left.base late.plays.left.log (length plays.ran) base plays.over.1
      ∙ (ap (λ (log : List Item). counts_of log (length plays.ran)) (sym late.plays.log)
      ∙ ap (λ (l : List _). counts_of e.log.items (length l)) first)) in
      put ∙ (ap (λ (l : List ℕ). l ++ line_text (summary_data (summary_of last.board (length plays.ran)))) text_is
      ∙ ap (λ (s : Summary). line_text (summary_data s)) line)

  starved : (script : Script) → ReadsWhole script_of (Ok script) (Some text) left' → IsScript script
      → ScriptEnds told faults moment silent_wording script ending.OutOfMemory e v w
      → (bytes : List ℕ) → TextEnds text ending.OutOfMemory e bytes
  starved script reads sound (inl late) bytes =
      inl (λ calm. ran script ending.OutOfMemory reads sound late (no_doubts e.log.items calm))
  starved script reads sound (inr idle) bytes = inr idle.0

  text_ends : (how : Ending) (bytes : List ℕ) → v.held ≡ Some [] → w.held ≡ Some bytes
      → RunEnds told faults moment silent_wording how e (Some text) left' v w → TextEnds text how e bytes
  unfolding ran
  text_ends ending.Done bytes nothing all runs = record {
    ran = ran runs.script ending.Done runs.reads runs.sound runs.ends (calm_at_end runs.script runs.ends);
    summary = summary runs.script runs.ends bytes nothing all;
  }
  text_ends ending.OutOfMemory bytes nothing all (inl runs) =
      starved runs.script runs.reads runs.sound runs.ends bytes
  text_ends ending.OutOfMemory bytes nothing all (inr (idle, lost)) = inr idle.0
  text_ends how bytes nothing all runs = tt

-- what the disk tells, at every moment
abbrev memory_told : MemoryDisk → Option Past
memory_told disk = Some (memory_past disk)

pub memory_text_ends : (text : List ℕ) (e : Ended) (left' : Option (List ℕ)) (v w : Ports) (how : Ending)
    → RunEnds memory_told faults_of calls_of silent_wording how e (Some text) left' v w
    → PlayedRunsAreFaithful memory_told → PlayedRunsKeepBase memory_told → (p : Past) → v.told ≡ Some p
    → IsTold w.told → IsBoard no_rows (content p) → (bytes : List ℕ) → v.held ≡ Some [] → w.held ≡ Some bytes
    → TextEnds text how e bytes
memory_text_ends text e left' v w how runs law keeps p v_told w_told board bytes nothing all =
    text_ends memory_told faults_of calls_of law keeps text e left' v w p v_told w_told board how bytes nothing all runs
