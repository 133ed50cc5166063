use Rattle.std.proofs.Common.{List, [], ◌∷◌, ◌++◌, sym, ap, ◌∙◌}
use Rattle.forecast_records.specs.declared.stock.TagRoom.{TagRoom}
use Rattle.site_answers.specs.Rooms.{room_of}
use Rattle.what_if.proofs.Lists.{map_next}
use Rattle.site_answers.proofs.tags.rooms_of.Goals as goal

pub loop-tag-preserved : goal.loop-tag-preserved
loop-tag-preserved c =
    let w = c.args.waiting.now in
    let tag = c.tag-item.result in
    c.in_ok-add_tag_room.ensures
    ∙ ap (λ (rooms : List TagRoom). rooms ++ room_of w tag ∷ []) c.loop-tag.invariant
    ∙ sym (map_next (room_of w) c.deref-tag-items.result.now c.loop-tag.tag-index tag c.loop-tag-test.true
    c.tag-item.is)
