use Rattle.std.proofs.Common.{◌≡◌, ◌<◌, List, ◌∷◌, length, sym, ◌∙◌, ap, arith}
use Rattle.std.specs.List.{between}
use Rattle.std.proofs.lemmas.Slice.{first_rest}
use Rattle.disk_trait.specs.declared.deed.Entry.{Entry}
use Rattle.disk_trait.proofs.PickLemmas.{reaches_ok}
use Rattle.disk_trait.proofs.ChoiceLemmas.{chooses_ok}
use Rattle.disk_trait.proofs.image.+left_by.Goals as goal

pub returns-in_ok-next-in-len1-up-clause-reaches : goal.returns-in_ok-next-in-len1-up-clause-reaches
returns-in_ok-next-in-len1-up-clause-reaches t c =
    let entries = c.args.entries.now in
    let entry = c.entry-item.result in
    let some : 0 < length entries = omega arith in
    let later : List Entry = between 1 (length entries) entries in
    let split : entries ≡ entry ∷ later = first_rest entries entry some ∙ ap (λ (e : Entry). e ∷ later)
    (sym c.entry-item.is) in
    reaches_ok c.left_by.result c.args.moment entries later entry c.args.bytes.now c.args.left.items
    c.in_ok-next-in-len1-up.next.items c.in_ok-after-in-len1-up.after.items split (omega arith)
    c.in_ok-after-in-len1-up.ensures c.in_ok-next-in-len1-up.ensures.follows c.left_by.ensures.reaches

pub returns-in_ok-next-in-len1-up-clause-chosen : goal.returns-in_ok-next-in-len1-up-clause-chosen
returns-in_ok-next-in-len1-up-clause-chosen t c =
    let entries = c.args.entries.now in
    let entry = c.entry-item.result in
    let some : 0 < length entries = omega arith in
    let later : List Entry = between 1 (length entries) entries in
    let split : entries ≡ entry ∷ later = first_rest entries entry some ∙ ap (λ (e : Entry). e ∷ later)
    (sym c.entry-item.is) in
    chooses_ok c.left_by.result c.args.torn c.args.moment entries later entry c.args.bytes.now c.args.left.items
    c.in_ok-next-in-len1-up.next.items c.in_ok-after-in-len1-up.after.items split (omega arith)
    c.in_ok-after-in-len1-up.ensures c.in_ok-next-in-len1-up.ensures.chosen c.left_by.ensures.chosen
