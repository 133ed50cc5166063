use Rattle.std.proofs.Common.{[]}
use Rattle.diego_engine.proofs.Spoken.{spoken, spoken_whole}
use Rattle.diego_engine.proofs.in_memory.diego_top_in_memory.Goals as goal

pub returns-clause-ends : goal.returns-clause-ends
returns-clause-ends g c = let (how, status, ends) = c.diego_top.ensures.ends in
    (how, status, spoken _ _ _ _ tt _ _ _ how _ ends)

pub returns-clause-done : goal.returns-clause-done
returns-clause-done g c n is = let (how, whole) = c.diego_top.ensures.done n is in
    (how, spoken_whole _ _ _ _ tt [] _ _ whole)

pub returns-clause-complete : goal.returns-clause-complete
returns-clause-complete g c meets source sink disk = c.diego_top.ensures.complete meets source sink (tt, disk)

pub returns-clause-refused : goal.returns-clause-refused
returns-clause-refused g c n = let (why, stood, refused) = c.diego_top.ensures.refused n in
    (why, stood, λ image shows. refused image shows tt)

pub returns-clause-no_script : goal.returns-clause-no_script
returns-clause-no_script g c fault tells source = c.diego_top.ensures.no_script fault tells source

pub returns-clause-stopped : goal.returns-clause-stopped
returns-clause-stopped g c status meets well disk = c.diego_top.ensures.stopped status meets well (tt, disk)

pub returns-clause-no_board : goal.returns-clause-no_board
returns-clause-no_board g c meets source disk = c.diego_top.ensures.no_board meets source (tt, disk)

pub returns-clause-too_much : goal.returns-clause-too_much
returns-clause-too_much g c is tells source = c.diego_top.ensures.too_much is tells source
