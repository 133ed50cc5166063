-- The shape of a line: it has the members of its form, each of its kind, and no others.
use Rattle.std.specs.Prelude.{ℕ, List, [], ◌∷◌, Bool, true, false, ◌&&◌, ◌||◌, Result, Ok, Err, if◌then◌else◌}
use Rattle.std.specs.List.{list_any, list_all}
use Rattle.std.specs.Option.{option_map_or}
use Rattle.std.specs.Str.{bytes_eq}
use Rattle.serde_json.specs.Data.{Data, Members, no_members, member}
use Rattle.serde_json.specs.Find.{as_object}
use Rattle.scenario_lines.specs.Flaws.{◌>>=◌, or_shape}
use Rattle.scenario_lines.specs.Forms.{allows, form_of, needs}
use Rattle.scenario_lines.specs.Kinds.{is_of_kind, kind_of}
use Rattle.scenario_lines.specs.Members.{said_for, word}
use Rattle.scenario_lines.specs.declared.flaw.Flaw.{Flaw}
use Rattle.scenario_lines.specs.declared.flaw.Flaw.TheVariants.{BadShape}
use Rattle.scenario_lines.specs.declared.form.Form.{Form}
use Rattle.scenario_lines.specs.declared.member.Member.{Member}

-- a member is there, and is of its kind
abbrev pub is_given : Data → Member → Bool
is_given d m = option_map_or (is_of_kind (kind_of m)) (said_for m d) false

-- a member is of its kind if it is there
abbrev pub is_fit : Data → Member → Bool
is_fit d m = option_map_or (is_of_kind (kind_of m)) (said_for m d) true

-- a name is the word of one of these members
abbrev pub is_one_of : List Member → List ℕ → Bool
is_one_of members name = list_any (λ m. bytes_eq (word m) name) members

-- a line of this form may have a member of this name
abbrev pub is_known : Form → List ℕ → Bool
is_known f name = is_one_of (needs f) name || is_one_of (allows f) name

-- the names of an object's members
abbrev pub names_given : Members → List (List ℕ)
names_given no_members = []
names_given (member name d members) = name ∷ names_given members

-- an object without a member that its form doesn't know
unfoldable pub has_known : Form → Data → Bool
has_known f d = option_map_or (λ members. list_all (is_known f) (names_given members)) (as_object d) false

-- an object with the members that its form needs, and else at most those that it allows
unfoldable pub has_shape : Form → Data → Bool
has_shape f d = has_known f d && (list_all (is_given d) (needs f) && list_all (is_fit d) (allows f))

-- a line's form, where the line has its shape
unfoldable pub shaped : Data → Result Form Flaw
shaped d = or_shape (form_of d) >>= λ f. if has_shape f d then Ok f else Err BadShape
