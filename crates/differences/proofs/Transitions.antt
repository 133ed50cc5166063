-- Differences that follow a transition stand for its rows.
use Rattle.std.proofs.Common.{◌≡◌, ◌<◌, [], ◌∷◌, Option, Some, None, subst}
use Rattle.bbs_model.specs.declared.event.Event.{Event}
use Rattle.bbs_model.specs.declared.rows.Rows.{Rows}
use Rattle.event_laws.specs.Told.{TellAll}
use Rattle.differences.specs.Noted.{Keeping, Noted, noted_of}
use Rattle.differences.specs.Renewal.{AreFew, HasRoomFor, Renews}
use Rattle.differences.specs.Standing.{Follows, StandsFor}
use Rattle.differences.proofs.Arms.{few_stands}
use Rattle.differences.proofs.Rooms.{room_of_two}
use Rattle.differences.proofs.Renewing.{renews_twice}
use Rattle.differences.proofs.Standing.{stands_new}

module _ (k : Keeping) (d : Noted) (is : d ≡ noted_of k) where
  -- the counts of what follows a transition are few
  pub follows_few : (first : Event) (second : Option Event) (new : Rows) → Follows d first second new → AreFew k
  follows_few first second new f = few_stands f.0 f.1 k (subst (λ (n : Noted). StandsFor n f.0) is f.3)

  -- and there is room for two events
  pub room_at : 0 < d.spare → HasRoomFor 2 k.room
  room_at h = room_of_two k.room (subst (λ (n : Noted). 0 < n.spare) is h)

  -- one event
  pub follows_once : (first : Event) (second : Option Event) (new : Rows) → second ≡ None → Follows d first second new
      → (b : Keeping)
      → Renews new (first.row ∷ []) k b → StandsFor (noted_of b) new
  follows_once first second new none f b renews =
      let tells : TellAll f.0 new (record { first = first; second = None }) =
      subst (λ (s : Option Event). TellAll f.0 new (record { first = first; second = s })) none f.4 in
      stands_new f.0 new (record { first = first; second = None }) tells f.1 k b
      (subst (λ (n : Noted). StandsFor n f.0) is f.3) renews

  -- two events
  pub follows_twice : (first other : Event) (second : Option Event) (new : Rows) → second ≡ Some other
      → Follows d first second new → (b e : Keeping)
      → Renews new (first.row ∷ []) k b → Renews new (other.row ∷ []) b e → StandsFor (noted_of e) new
  follows_twice first other second new some f b e one two =
      let tells : TellAll f.0 new (record { first = first; second = Some other }) =
      subst (λ (s : Option Event). TellAll f.0 new (record { first = first; second = s })) some f.4 in
      stands_new f.0 new (record { first = first; second = Some other }) tells f.1 k e
      (subst (λ (n : Noted). StandsFor n f.0) is f.3)
      (renews_twice new first.row other.row k b e one two)
