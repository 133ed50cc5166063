-- What was prepared is opened as a journal without frames.
use Rattle.std.proofs.Common.{◌≡◌, ℕ, List, [], ◌∷◌, ◌++◌, length, refl, ap, ◌∙◌, arith, inl, inr}
use Rattle.wire_fields.specs.Field.{field_number}
use Rattle.disk_trait.specs.Past.{content}
use Rattle.disk_trait.specs.declared.area.Area.TheVariants.{A}
use Rattle.bbs_journal.specs.Grammar.{heading}
use Rattle.bbs_journal.specs.Preparing.{first_head, empty_head, OpensEmpty}
use Rattle.bbs_journal.specs.declared.other_gate.OtherGate.TheVariants.{Loose}
use Rattle.bbs_journal.proofs.Accepted.{accepted}

first_heading : first_head ≡ 1 ∷ heading 2 1 empty_head
unfolding field_number
first_heading = refl

pub opens_empty : OpensEmpty
unfolding field_number
opens_empty p q prepares = accepted (content q) A 2 1 empty_head [] (record {
  gate = 1;
  is_open = omega arith;
  goes_with = record {
    version_is = inr refl;
    above = omega arith;
    below = omega arith;
    fits = omega arith;
    not_ahead =
        λ eight. omega arith;
  };
  area_is = record {
    frames = [];
    whole = refl;
    begins = record { rest = []; parts = prepares.a ∙ ap (λ (l : List ℕ). l ++ 0 ∷ []) first_heading };
  };
  beside = Loose;
  yields = inl (omega (arith, ap length prepares.b));
})
