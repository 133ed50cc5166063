-- Each image is a locket with one life, or is refused for one defect.
use Rattle.std.proofs.Common.{◌≡◌, ◌⊎◌, inl, inr, ℕ, List, Option, None, Result, Ok, Err, refl, sym, ap, subst, ◌∙◌}
use Rattle.disk_trait.specs.Past.{Image}
use Rattle.disk_trait.specs.declared.area.Area.{Area}
use Rattle.bbs_journal.specs.Opening.{IsOpening}
use Rattle.bbs_journal.specs.Outcomes.{IsHeadless, IsOpened}
use Rattle.bbs_journal.specs.declared.load_fault.LoadFault.{LoadFault}
use Rattle.bbs_journal.proofs.Public.{opens_once, opens_or_not}
use Rattle.locket.specs.Laws.{LocketOpensInOneWay, LocketOrRefused, LocketRefusedOnce, IsSomeLocket, IsNoLocket, LocketOpensOrIsRefused, LocketsHaveLives}
use Rattle.locket.specs.Opening.{locks_of, commands_in, IsLocket, IsDamagedLocket}
use Rattle.locket.specs.declared.state.LockState.{LockState}
use Rattle.locket.proofs.Payloads.{locks_unbroken, locks_lived, locket_life}

same_fault : {X : Type 0} (a b : LoadFault) (r : Result X LoadFault) → r ≡ Err a → r ≡ Err b → a ≡ b
same_fault a b r first second = cc

ok_and_err : {X : Type 0} (x : X) (fault : LoadFault) (r : Result X LoadFault) → r ≡ Ok x → r ≡ Err fault → ⊥
ok_and_err x fault r first second = cc

-- what was loaded is a locket
pub loaded_locket : (c : Image) (area : Area) (version generation : ℕ) (head : List ℕ) (payloads : List (List ℕ))
    (broken : Option ℕ) (end : ℕ) (s : LockState)
    → IsOpening c area version generation head payloads broken end → locks_of version area head payloads broken ≡ Ok s
    → IsLocket (commands_in payloads) c
loaded_locket c area version generation head payloads broken end s opening is =
    let none : broken ≡ None = locks_unbroken version area head payloads broken s is in
    let whole : locks_of version area head payloads None ≡ Ok s =
    subst (λ (b : Option ℕ). locks_of version area head payloads b ≡ Ok s) none is in
    let lived = locks_lived version area head payloads s whole in
    record {
      area = area;
      version = version;
      generation = generation;
      head = head;
      payloads = payloads;
      end = end;
      opening = subst (λ (b : Option ℕ). IsOpening c area version generation head payloads b end) none opening;
      life_is = refl;
      state_is = whole ∙ ap Ok lived.state_is;
    }

pub one_life : LocketOpensInOneWay
one_life a b c first second =
    let same = opens_once c first.area second.area first.version second.version first.generation second.generation
    first.head second.head first.payloads second.payloads None None first.end second.end first.opening
    second.opening in
    first.life_is ∙ ap commands_in same.payloads_are ∙ sym second.life_is

pub not_refused : LocketOrRefused
not_refused life fault c l (inl refused) = cc (l.opening.head_is, refused)
not_refused life fault c l (inr damaged) =
    let same = opens_once c l.area damaged.area l.version damaged.version l.generation damaged.generation l.head
    damaged.head l.payloads damaged.payloads None damaged.broken l.end damaged.end l.opening damaged.opening in
    let there : locks_of l.version l.area l.head l.payloads None
    ≡ locks_of damaged.version damaged.area damaged.head damaged.payloads damaged.broken =
    λ i. locks_of (same.version_is i) (same.area_is i) (same.head_is i) (same.payloads_are i) (same.broken_is i) in
    ok_and_err _ fault _ l.state_is (there ∙ damaged.fault_is)

damaged_once : (a b : LoadFault) (c : Image) → IsDamagedLocket a c → IsDamagedLocket b c → a ≡ b
damaged_once a b c first second =
    let same = opens_once c first.area second.area first.version second.version first.generation second.generation
    first.head second.head first.payloads second.payloads first.broken second.broken first.end second.end
    first.opening second.opening in
    let there : locks_of first.version first.area first.head first.payloads first.broken
    ≡ locks_of second.version second.area second.head second.payloads second.broken =
    λ i. locks_of (same.version_is i) (same.area_is i) (same.head_is i) (same.payloads_are i) (same.broken_is i) in
    same_fault a b _ first.fault_is (there ∙ second.fault_is)

pub refused_once : LocketRefusedOnce
refused_once a b c (inl first) (inl second) = same_fault a b _ first second
refused_once a b c (inl first) (inr second) = absurd (ok_and_err _ a _ second.opening.head_is first)
refused_once a b c (inr first) (inl second) = absurd (ok_and_err _ b _ first.opening.head_is second)
refused_once a b c (inr first) (inr second) = damaged_once a b c first second

-- what is opened is a locket, or has a defect
by_frames : (c : Image) (o : IsOpened c) (r : Result LockState LoadFault)
    → locks_of o.version o.area o.head o.payloads o.broken ≡ r → IsSomeLocket c ⊎ IsNoLocket c
by_frames c o (Ok s) is = inl (record {
  life = commands_in o.payloads;
  locket =
      loaded_locket c o.area o.version o.generation o.head o.payloads o.broken o.end s o.opening is;
})
by_frames c o (Err fault) is = inr (record {
  fault = fault;
  refused = inr (record {
    area = o.area;
    version = o.version;
    generation = o.generation;
    head = o.head;
    payloads = o.payloads;
    broken = o.broken;
    end = o.end;
    opening = o.opening;
    fault_is = is;
  });
})

by_opening : (c : Image) → IsHeadless c ⊎ IsOpened c → IsSomeLocket c ⊎ IsNoLocket c
by_opening c (inl none) = inr (record { fault = none.fault; refused = inl none.refused })
by_opening c (inr o) = by_frames c o (locks_of o.version o.area o.head o.payloads o.broken) refl

pub locket_or_refused : LocketOpensOrIsRefused
locket_or_refused c = by_opening c (opens_or_not c)

pub lives_are : LocketsHaveLives
lives_are life c l = locket_life life c l
