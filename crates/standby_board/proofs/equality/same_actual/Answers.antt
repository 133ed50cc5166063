-- Rows that compare as equal are the same.
use Rattle.std.proofs.Common.{◌≡◌}
use Rattle.std.specs.Bool.{Decides}
use Rattle.std.specs.Cmp.{booleans_Decides}
use Rattle.std.proofs.lemmas.Bool.Decides.{Decides-and, Decides-eqb, Decides-like}
use Rattle.lrp_records.specs.contracts.actual.ActualPartialEq.TheImpl as actual_eq
use Rattle.lrp_records.specs.declared.actual.Actual.{Actual}
use Rattle.standby_board.proofs.Alike.{alike}
use Rattle.standby_board.proofs.SameParts.{keys, lrp_states, moments, names, options, presences}
use Rattle.standby_board.proofs.equality.same_actual.Goals as goal

same : (a b : Actual) → Decides ((actual_eq.ghosts).eq a b) (a ≡ b)
same a b = Decides-like _
    (λ h i. record {
      key = h.0 i;
      presence = h.1.0 i;
      state = h.1.1.0 i;
      count = h.1.1.1.0 i;
      since = h.1.1.1.1.0 i;
      error = h.1.1.1.1.1.0 i;
      domain = h.1.1.1.1.1.1 i;
    })
    (λ e. (cc, (cc, (cc, (cc, (cc, (cc, cc)))))))
    (Decides-and _ _ (keys a.key b.key)
    (Decides-and _ _ (presences a.presence b.presence)
    (Decides-and _ _ (lrp_states a.state b.state)
    (Decides-and _ _ (Decides-eqb a.count b.count)
    (Decides-and _ _ (moments a.since b.since)
    (Decides-and _ _ (booleans_Decides a.error b.error) (options names a.domain b.domain)))))))

pub returns : goal.returns
returns c = alike _ _ _ c.eq.ensures same
