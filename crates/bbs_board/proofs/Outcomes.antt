-- Each image is a board, or is refused for one defect.
use Rattle.std.proofs.Common.{◌≡◌, ◌⊎◌, inl, inr, Result, Ok, Err, refl, ◌∙◌}
use Rattle.disk_trait.specs.Past.{Image}
use Rattle.bbs_journal.specs.Outcomes.{IsHeadless, IsOpened}
use Rattle.bbs_journal.specs.declared.load_fault.LoadFault.{LoadFault}
use Rattle.bbs_journal.proofs.Public.{opens_once, opens_or_not}
use Rattle.bbs_model.specs.declared.rows.Rows.{Rows}
use Rattle.bbs_board.specs.Laws.{RefusesOnce, IsSomeBoard, IsNoBoard, OpensOrIsRefused}
use Rattle.bbs_board.specs.Opening.{board_of, IsDamaged}
use Rattle.bbs_board.proofs.Loaded.{loaded_board}

-- a defect is told once
same_fault : {X : Type 0} (a b : LoadFault) (r : Result X LoadFault) → r ≡ Err a → r ≡ Err b → a ≡ b
same_fault a b r first second = cc

ok_and_err : {X : Type 0} (x : X) (fault : LoadFault) (r : Result X LoadFault) → r ≡ Ok x → r ≡ Err fault → ⊥
ok_and_err x fault r first second = cc

damaged_once : (a b : LoadFault) (c : Image) → IsDamaged a c → IsDamaged b c → a ≡ b
damaged_once a b c first second =
    let same = opens_once c first.area second.area first.version second.version first.generation second.generation
    first.head second.head first.payloads second.payloads first.broken second.broken first.end second.end
    first.opening second.opening in
    let there : board_of first.version first.area first.head first.payloads first.broken
    ≡ board_of second.version second.area second.head second.payloads second.broken =
    λ i. board_of (same.version_is i) (same.area_is i) (same.head_is i) (same.payloads_are i) (same.broken_is i) in
    same_fault a b _ first.fault_is (there ∙ second.fault_is)

pub refuses_once : RefusesOnce
refuses_once a b c (inl first) (inl second) = same_fault a b _ first second
refuses_once a b c (inl first) (inr second) = absurd (ok_and_err _ a _ second.opening.head_is first)
refuses_once a b c (inr first) (inl second) = absurd (ok_and_err _ b _ first.opening.head_is second)
refuses_once a b c (inr first) (inr second) = damaged_once a b c first second

-- what is opened is a board, or has a defect
by_frames : (c : Image) (o : IsOpened c) (r : Result Rows LoadFault)
    → board_of o.version o.area o.head o.payloads o.broken ≡ r → IsSomeBoard c ⊎ IsNoBoard c
by_frames c o (Ok rows) is =
    inl (record {
      rows = rows;
      board = loaded_board c o.area o.version o.generation o.head o.payloads o.broken o.end
          rows o.opening is;
    })
by_frames c o (Err fault) is = inr (record {
  fault = fault;
  refused = inr (record {
    area = o.area;
    version = o.version;
    generation = o.generation;
    head = o.head;
    payloads = o.payloads;
    broken = o.broken;
    end = o.end;
    opening = o.opening;
    fault_is = is;
  });
})

by_opening : (c : Image) → IsHeadless c ⊎ IsOpened c → IsSomeBoard c ⊎ IsNoBoard c
by_opening c (inl none) = inr (record { fault = none.fault; refused = inl none.refused })
by_opening c (inr o) = by_frames c o (board_of o.version o.area o.head o.payloads o.broken) refl

pub opens_or_is_refused : OpensOrIsRefused
opens_or_is_refused c = by_opening c (opens_or_not c)
