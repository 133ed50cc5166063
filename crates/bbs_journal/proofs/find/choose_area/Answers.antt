use Rattle.std.proofs.Common.{◌≡◌, ◌∙◌, ap, sym}
use Rattle.disk_trait.specs.declared.area.Area.TheVariants.{A, B}
use Rattle.bbs_journal.specs.Header.{header_of, front}
use Rattle.bbs_journal.specs.Opening.{headed}
use Rattle.bbs_journal.proofs.Opening.{fails_is, headed_none}
use Rattle.bbs_journal.proofs.Choosing.{active_is, chosen_in}
use Rattle.bbs_journal.proofs.Peeking.{shows_back}
use Rattle.bbs_journal.proofs.Readable.{active_version}
use Rattle.bbs_journal.proofs.find.choose_area.Goals as goal

pub returns-in-Err-clause-fault : goal.returns-in-Err-clause-fault
returns-in-Err-clause-fault g c c' shows =
    let a : c.read_header-header_a.result ≡ header_of (front (c' A)) =
    c.read_header-header_a.ensures ∙ ap header_of (c.bytes.ensures ∙ c.in_ok-a.ensures.shows c'
    (shows_back _ _ c' c.in_ok-b.ensures.does shows)) in
    let b : c.read_header-header_b.result ≡ header_of (front (c' B)) =
    c.read_header-header_b.ensures ∙ ap header_of (c.bytes-2.ensures ∙ c.in_ok-b.ensures.shows c' shows) in
    fails_is _ (headed c') (headed_none c' _ (active_is c' _ _ _ a b c.choose.ensures.value ∙ c.in-Err.is))

pub returns-in-A-clause-shows : goal.returns-in-A-clause-shows
returns-in-A-clause-shows g c c' shows =
    let a_is = c.in_ok-a.ensures.shows c' (shows_back _ _ c' c.in_ok-b.ensures.does shows) in
    let a : c.read_header-header_a.result ≡ header_of (front (c' A)) =
    c.read_header-header_a.ensures ∙ ap header_of (c.bytes.ensures ∙ a_is) in
    let b : c.read_header-header_b.result ≡ header_of (front (c' B)) =
    c.read_header-header_b.ensures ∙ ap header_of (c.bytes-2.ensures ∙ c.in_ok-b.ensures.shows c' shows) in
    chosen_in c' _ A _ c.in-A.is (active_is c' _ _ _ a b c.choose.ensures.value ∙ c.in-Ok.is) a_is c.gate_in.ensures b

pub returns-in-B-clause-shows : goal.returns-in-B-clause-shows
returns-in-B-clause-shows g c c' shows =
    let b_is = c.in_ok-b.ensures.shows c' shows in
    let a : c.read_header-header_a.result ≡ header_of (front (c' A)) =
    c.read_header-header_a.ensures ∙ ap header_of (c.bytes.ensures ∙ c.in_ok-a.ensures.shows c'
    (shows_back _ _ c' c.in_ok-b.ensures.does shows)) in
    let b : c.read_header-header_b.result ≡ header_of (front (c' B)) =
    c.read_header-header_b.ensures ∙ ap header_of (c.bytes-2.ensures ∙ b_is) in
    chosen_in c' _ B _ c.in-B.is (active_is c' _ _ _ a b c.choose.ensures.value ∙ c.in-Ok.is) b_is
    c.gate_in-in-B.ensures a

pub returns-in-A-clause-read : goal.returns-in-A-clause-read
returns-in-A-clause-read g c = active_version _ _ c.bytes.result.now c.bytes-2.result.now _
    c.read_header-header_a.ensures c.read_header-header_b.ensures (sym c.choose.ensures.value ∙ c.in-Ok.is)

pub returns-in-B-clause-read : goal.returns-in-B-clause-read
returns-in-B-clause-read g c = active_version _ _ c.bytes.result.now c.bytes-2.result.now _
    c.read_header-header_a.ensures c.read_header-header_b.ensures (sym c.choose.ensures.value ∙ c.in-Ok.is)
