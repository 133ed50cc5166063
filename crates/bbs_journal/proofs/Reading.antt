-- What the bytes in front of a reader tell it.
use Rattle.std.proofs.Common.{◌≡◌, ℕ, min, Option, Some, None, List, length, take, refl, ap, ◌∙◌, arith}
use Rattle.std.specs.Option.{ForSome}
use Rattle.std.proofs.lemmas.List.{take_min}
use Rattle.disk_trait.specs.Past.{Past, Image, content}
use Rattle.disk_trait.specs.Steps.{Filled}
use Rattle.disk_trait.specs.declared.area.Area.{Area}
use Rattle.bbs_journal.specs.Header.{front}
use Rattle.disk_trait.specs.Shows.{Shows}

filled_front : (bytes : List ℕ) (n : ℕ) (before after : List ℕ) → length before ≡ 31 → Filled bytes 0 n before after
    → take n after ≡ take 31 bytes
filled_front bytes n before after len filled =
    let count : n ≡ min 31 (length bytes) = omega (arith, filled.count_is, len) in
    filled.front ∙ ap (λ (k : ℕ). take k bytes) count ∙ take_min 31 bytes

pub shown_front : (t : Option Past) (area : Area) (n : ℕ) (before after : List ℕ) → length before ≡ 31
    → ForSome t (λ p. Filled (content p area) 0 n before after) → (c : Image) → Shows t c
    → take n after ≡ front (c area)
shown_front None area n before after len filled c shows = absurd shows
shown_front (Some p) area n before after len filled c shows =
    filled_front (content p area) n before after len (filled p refl) ∙ ap (take 31) (shows area)
