use Rattle.std.proofs.Common.{◌+◌, Bool, true, List, [], ◌∷◌, ◌++◌, refl, ◌∙◌, ap}
use Rattle.disk_trait.specs.MemoryPast.{Tore}
use Rattle.disk_trait.specs.declared.deed.Deed.TheVariants.{Tear}
use Rattle.disk_trait.specs.declared.deed.Entry.{Entry}
use Rattle.disk_trait.proofs.AreaLemmas.{adds, refused, sound_adds, area_bytes}
use Rattle.disk_trait.specs.Possible.{torn_same}
use Rattle.disk_trait.proofs.memory_area.MemoryArea.tear.Goals as goal

pub returns-in_err-reserve : goal.returns-in_err-reserve
returns-in_err-reserve c =
    refused c.from_residual.result c.args.clock c.args.self.now _
    (λ (ok : Bool). Tore ok c.args.from c.args.len) c.from_residual.ensures.0 c.requires.numbered
    c.reserve.ensures.items refl (λ held. refl)

pub invariant_of-self-2 : goal.invariant_of-self-2
invariant_of-self-2 c =
    let entry : Entry = record { call = c.args.clock + 1; deed = Tear c.args.from c.args.len } in
    let more = c.push_reserved.ensures.items ∙ ap (λ (l : List Entry). l ++ entry ∷ []) c.reserve.ensures.items in
    record { sound = sound_adds c.args.self.now _ _ entry more refl (torn_same _ _) (area_bytes c.args.self.now) }

pub returns : goal.returns
returns c =
    let entry : Entry = record { call = c.args.clock + 1; deed = Tear c.args.from c.args.len } in
    let more = c.push_reserved.ensures.items ∙ ap (λ (l : List Entry). l ++ entry ∷ []) c.reserve.ensures.items in
    adds c.args.clock c.args.self.now _ entry (Tore true c.args.from c.args.len) c.requires.numbered more refl refl
    (λ held same. refl)
