use Rattle.std.proofs.Common.{◌≡◌, ◌∙◌, ◌+◌, Ok, Err, List, [], ◌∷◌, ◌++◌, take, drop, sym, ap, subst}
use Rattle.std.proofs.lemmas.List.{take-append-drop, take_more}
use Rattle.lock_lines.specs.declared.lock_line.LockLine.{LockLine}
use Rattle.lock_runs.specs.Lines.{RunsOn}
use Rattle.lock_runs.proofs.Joining.{runs_before, runs_none, runs_then}
use Rattle.lock_runs.proofs.lines.run_lines.Goals as goal

pub loop-line-init : goal.loop-line-init
loop-line-init g c = runs_none g.D.Disk.told g.D.Disk.fault_count c.args.answers.now.items c.args.locket.now

pub loop-line-preserved : goal.loop-line-preserved
loop-line-preserved g c =
    let i = c.loop-line.line-index in
    let lines = c.args.lines.now in
    let more : take (i + 1) lines ≡ take i lines ++ c.line-item.result ∷ [] =
    take_more lines i c.line-item.result c.loop-line-test.true ∙ ap (λ (l : LockLine). take i lines ++ l ∷ [])
    (sym c.line-item.is) in
    subst (λ (l : List LockLine). RunsOn g.D.Disk.told g.D.Disk.fault_count l
    (Ok tt) c.args.answers.now.items c.run_line.new.answers.items c.args.locket.now c.run_line.new.locket)
    (sym more)
    (runs_then g.D.Disk.told g.D.Disk.fault_count (take i lines) (c.line-item.result ∷ [])
    (Ok tt) c.args.answers.now.items c.loop-line.answers.items c.run_line.new.answers.items
    c.args.locket.now c.loop-line.locket c.run_line.new.locket c.loop-line.invariant c.in-Ok.ensures)

pub returns-in-Err : goal.returns-in-Err
returns-in-Err g c =
    let i = c.loop-line.line-index in
    let lines = c.args.lines.now in
    let more : take (i + 1) lines ≡ take i lines ++ c.line-item.result ∷ [] =
    take_more lines i c.line-item.result c.loop-line-test.true ∙ ap (λ (l : LockLine). take i lines ++ l ∷ [])
    (sym c.line-item.is) in
    let all : (take i lines ++ c.line-item.result ∷ []) ++ drop (i + 1) lines ≡ lines =
    ap (λ (l : List LockLine). l ++ drop (i + 1) lines) (sym more) ∙ take-append-drop (i + 1) lines in
    let fault = c.in-Err.fault in
    subst (λ (l : List LockLine). RunsOn g.D.Disk.told g.D.Disk.fault_count l
    (Err fault) c.args.answers.now.items c.run_line.new.answers.items c.args.locket.now c.run_line.new.locket)
    all
    (runs_before g.D.Disk.told g.D.Disk.fault_count (take i lines ++ c.line-item.result ∷ [])
    (drop (i + 1) lines) fault c.args.answers.now.items c.run_line.new.answers.items
    c.args.locket.now c.run_line.new.locket
    (runs_then g.D.Disk.told g.D.Disk.fault_count (take i lines) (c.line-item.result ∷ [])
    (Err fault) c.args.answers.now.items c.loop-line.answers.items c.run_line.new.answers.items
    c.args.locket.now c.loop-line.locket c.run_line.new.locket c.loop-line.invariant c.in-Err.ensures))
