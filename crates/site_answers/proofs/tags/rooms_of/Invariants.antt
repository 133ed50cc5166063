use Rattle.std.proofs.Common.{◌≡◌, map, take}
use Rattle.site_answers.specs.Rooms.{room_of}
use Rattle.site_answers.proofs.tags.rooms_of.Given as goal

abbrev pub invariant-loop-tag : goal.invariant-loop-tag
invariant-loop-tag l = l.rooms ≡ map (room_of l.waiting) (take l.tag-index l.tag-items)
