-- The version of an area that is read of a disk is one of those that are read.
use Rattle.std.specs.Prelude.{◌==◌}
use Rattle.std.proofs.lemmas.Bool.Decides.{nat_tests}
use Rattle.std.proofs.Common.{◌≡◌, inl, inr, false, arith, ℕ, zero, suc, Option, List, [], ◌∷◌, sym, ap, ◌∙◌, subst, refl, Ok}
use Rattle.disk_trait.specs.Past.{Image}
use Rattle.disk_trait.specs.declared.area.Area.{Area}
use Rattle.disk_trait.specs.declared.area.Area.TheVariants.{A, B}
use Rattle.bbs_journal.specs.Header.{IsVersion, newest, front, header_of}
use Rattle.bbs_journal.specs.Opening.{Headed, headed, active_of, IsOpening}
use Rattle.bbs_journal.specs.declared.active.Active.{Active}
use Rattle.bbs_journal.specs.declared.header.Header.{Header}
use Rattle.bbs_journal.specs.declared.header.Header.TheVariants.{Open}
use Rattle.bbs_journal.proofs.Opening.{tested, open_gate, own, own_open}
use Rattle.bbs_journal.proofs.Version.{marked}

header_version : (bytes : List ℕ) (version generation : ℕ) → header_of bytes ≡ Open version generation
    → IsVersion version
header_version [] version generation is = absurd (cc)
header_version (zero ∷ behind) version generation is = absurd (cc)
header_version (suc n ∷ behind) version generation is =
    (marked version generation behind (sym (open_gate n behind) ∙ is)).version_is

own_version : (area : Area) (a b : List ℕ) (version generation : ℕ)
    → own area (header_of a) (header_of b) ≡ Open version generation → IsVersion version
own_version A a b version generation is = header_version a version generation is
own_version B a b version generation is = header_version b version generation is

-- of the area that these headers lead to
pub active_version : (x y : Header) (a b : List ℕ) (active : Active) → x ≡ header_of a → y ≡ header_of b
    → active_of x y ≡ Ok active → IsVersion active.version
active_version x y a b active x_is y_is is =
    own_version active.area a b active.version active.generation
    (own_open (header_of a) (header_of b) active (sym (ap (λ (h : Header). active_of h y) x_is ∙ ap
    (λ (h : Header). active_of (header_of a) h) y_is) ∙ is))

pub headed_version : (c : Image) (h : Headed) → headed c ≡ Ok h → IsVersion h.version
headed_version c h is =
    let t = tested c h is in
    subst IsVersion t.version_is (active_version (header_of (front (c A))) (header_of (front (c B))) (front (c A))
    (front (c B)) t.active refl refl t.chosen)

-- of what an image is opened as
pub opening_version : (c : Image) (area : Area) (version generation : ℕ) (head : List ℕ) (payloads : List (List ℕ))
    (broken : Option ℕ) (end : ℕ)
    → IsOpening c area version generation head payloads broken end → IsVersion version
opening_version c area version generation head payloads broken end opening =
    headed_version c (record { area = area; version = version; generation = generation; head = head }) opening.head_is

-- what is read and isn't of the first version is of the newest
pub newest_if_not_first : (version : ℕ) → IsVersion version → (version == 1) ≡ false → version ≡ newest
newest_if_not_first version (inl first) not_first = absurd (grind (arith, nat_tests))
newest_if_not_first version (inr second) not_first = second
