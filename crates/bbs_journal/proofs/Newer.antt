-- Of two open areas the newer one is opened.
use Rattle.std.specs.Prelude.{if◌then◌else◌, ◌==◌}
use Rattle.std.proofs.Common.{◌≡◌, ℕ, ◌+◌, Bool, true, false, None, length, refl, sym, ap, ◌∙◌, arith, Result, Ok, Err}
use Rattle.std.proofs.lemmas.Bool.Decides.{nat_tests}
use Rattle.disk_trait.specs.Past.{Image}
use Rattle.disk_trait.specs.declared.area.Area.{Area}
use Rattle.disk_trait.specs.declared.area.Area.TheVariants.{A, B}
use Rattle.bbs_journal.specs.Header.{front, header_of}
use Rattle.bbs_journal.specs.Opening.{active_of, newer, Headed, headed}
use Rattle.bbs_journal.specs.Reading.{bytes_of}
use Rattle.bbs_journal.specs.Newer.{AreOpen, OpensOnly, RecoversOnly, NewerIsOpened, NewerIsRecovered, RecoversOnce}
use Rattle.bbs_journal.specs.declared.active.Active.{Active}
use Rattle.bbs_journal.specs.declared.header.Header.{Header}
use Rattle.bbs_journal.specs.declared.header.Header.TheVariants.{Open}
use Rattle.bbs_journal.specs.declared.load_fault.LoadFault.{LoadFault}
use Rattle.bbs_journal.specs.declared.load_fault.LoadFault.TheVariants.{Damaged}
use Rattle.bbs_journal.proofs.Opening.{Tested, opened, tested, ok_is, headed_none}
use Rattle.bbs_journal.proofs.Accepted.{active_ok, newer_a, newer_b, accepted}
use Rattle.bbs_journal.proofs.Once.{opens_once}

-- both areas are open, so their generations alone decide
by_generation : (c : Image) (a b : ℕ) (gates : AreOpen c a b)
    → active_of (header_of (front (c A))) (header_of (front (c B)))
    ≡ newer (opened A gates.version_a a) (opened B gates.version_b b)
by_generation c a b gates =
    ap (λ (h : Header). active_of h (header_of (front (c B)))) gates.in_a ∙ ap
    (active_of (Open gates.version_a a)) gates.in_b

-- what is opened is the area that was chosen
only : (c : Image) (area : Area) (version generation : ℕ)
    → active_of (header_of (front (c A))) (header_of (front (c B))) ≡ active_ok (opened area version generation)
    → OpensOnly c area generation
only c area version generation is area' version' generation' head payloads broken end opening =
    let h : Headed = record { area = area'; version = version'; generation = generation'; head = head } in
    let t : Tested c h = tested c h opening.head_is in
    let same : t.active ≡ opened area version generation = ok_is t.active _ _ t.chosen is in
    (sym t.area_is ∙ ap (λ (x : Active). x.area) same, sym t.generation_is ∙ ap (λ (x : Active). x.generation) same)

-- what the grammar finds is opened, so it is there too
recovers_only : (c : Image) (area : Area) (generation : ℕ) → OpensOnly c area generation
    → RecoversOnly c area generation
recovers_only c area generation opens area' version' generation' head payloads r =
    opens area' version' generation' head payloads None (23 + length head + bytes_of payloads)
    (accepted c area' version' generation' head payloads r)

by_test : (same : Bool) (rest : Result Active LoadFault) → same ≡ true
    → (if same then Err (Damaged B 11) else rest) ≡ Err (Damaged B 11)
by_test true rest is = refl
by_test false rest is = absurd (cc)

newer_none : (a b : Active) → a.generation ≡ b.generation → newer a b ≡ Err (Damaged B 11)
newer_none a b is = by_test (a.generation == b.generation) _ (grind (arith, nat_tests))

refused : (c : Image) (a b : ℕ) → AreOpen c a b → a ≡ b → headed c ≡ Err (Damaged B 11)
refused c a b gates is = headed_none c (Damaged B 11) (by_generation c a b gates ∙ newer_none
    (opened A gates.version_a a) (opened B gates.version_b b) is)

no_both : (h : Headed) (e : LoadFault) (r : Result Headed LoadFault) → r ≡ Ok h → r ≡ Err e → ⊥
no_both h e r first second = cc

pub newer_opened : NewerIsOpened
newer_opened c a b gates = record {
  in_b = λ less. only c B gates.version_b b (by_generation c a b gates ∙ newer_b (opened A gates.version_a a)
      (opened B gates.version_b b) less);
  in_a = λ less. only c A gates.version_a a (by_generation c a b gates ∙ newer_a (opened A gates.version_a a)
      (opened B gates.version_b b) less);
  refused = λ is. refused c a b gates is;
}

pub newer_recovered : NewerIsRecovered
newer_recovered c a b gates =
    let takes = newer_opened c a b gates in
    record {
      in_b = λ less. recovers_only c B b (takes.in_b less);
      in_a = λ less. recovers_only c A a (takes.in_a less);
      apart = λ area version generation head payloads r is.
          no_both (record { area = area; version = version; generation = generation; head = head }) (Damaged B 11)
          (headed c) (accepted c area version generation head payloads r).head_is (refused c a b gates is);
    }

pub recovers_once : RecoversOnce
recovers_once c area area' version version' generation generation' head head' payloads payloads' first second =
    let same = opens_once c area area' version version' generation generation' head head' payloads payloads' None None
    (23 + length head + bytes_of payloads) (23 + length head' + bytes_of payloads')
    (accepted c area version generation head payloads first)
    (accepted c area' version' generation' head' payloads' second) in
    record {
      area_is = same.area_is;
      version_is = same.version_is;
      generation_is = same.generation_is;
      head_is =
          same.head_is;
      payloads_are = same.payloads_are;
    }
