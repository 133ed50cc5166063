-- Values that are objects, and values that are none.
use Rattle.std.proofs.Common.{◌≡◌, true≢false, Some, None, is_some, unwrap_or, Err, refl, sym, ap}
use Rattle.serde_json.specs.Data.{Data, null, boolean, number, string, array, object, Members}
use Rattle.serde_json.specs.Find.{as_object}
use Rattle.scenario_lines.specs.Forms.{form_of}
use Rattle.scenario_lines.specs.Members.{said_for}
use Rattle.scenario_lines.specs.Said.{content_as}
use Rattle.scenario_lines.specs.Shapes.{shaped}
use Rattle.scenario_lines.specs.declared.flaw.Flaw.TheVariants.{BadShape}

none-some : {X : Type 0} {Y : Type 0} (x : X) → None ≡ Some x → Y
none-some x e = absurd (true≢false (sym (ap is_some e)))

-- a value with members is the object of these
pub object_is : (d : Data) (ms : Members) → Some ms ≡ as_object d → object ms ≡ d
object_is null ms e = none-some ms (sym e)
object_is (boolean b) ms e = none-some ms (sym e)
object_is (number n) ms e = none-some ms (sym e)
object_is (string s) ms e = none-some ms (sym e)
object_is (array ds) ms e = none-some ms (sym e)
object_is (object ns) ms e = ap (λ o. object (unwrap_or o ms)) e

-- a value that is no object says nothing
pub no_object : (d : Data) → None ≡ as_object d → content_as d ≡ Err BadShape
unfolding shaped form_of said_for
no_object null e = refl
no_object (boolean b) e = refl
no_object (number n) e = refl
no_object (string s) e = refl
no_object (array ds) e = refl
no_object (object ms) e = none-some ms e
