-- What the code's members say, and the tokens that are written of them.
use Rattle.std.specs.Prelude.{List, [], ◌∷◌, cond, ◌==◌}
use Rattle.json.specs.Token.{Token, key}
use Rattle.json.specs.Tree.{json_tokens}
use Rattle.serde_json.specs.Data.{Data, boolean, string}
use Rattle.serde_json.specs.Written.{outline}
use Rattle.line_writing.specs.Spelled.{optional_name_data, whole}
use Rattle.headroom_print.specs.declared.line_kinds.value.Member.{Member}
use Rattle.headroom_print.specs.declared.line_kinds.value.Value.{Value}
use Rattle.headroom_print.specs.declared.line_kinds.value.Value.TheVariants as value
use Rattle.headroom_print.specs.declared.words.LackCount.{LackCount}
use Rattle.headroom_print.specs.Values.{Named, free_data, lacks_data, names_data, sums_data, tags_data, verdicts_data, zones_data}
use Rattle.headroom_print.specs.Words.{job_text}

-- what a value says
abbrev pub value_data : Value → Data
value_data (value.Number n) = whole n
value_data (value.Truth b) = boolean b
value_data (value.Text text) = string text.now
value_data (value.Name name) = string name.now
value_data (value.NameOrNull name) = optional_name_data name.now
value_data (value.Names names) = names_data names.now
value_data (value.Tags tags) = tags_data tags.now
value_data (value.Job job) = string (job_text job.now)
value_data (value.Sums sums) = sums_data sums.now
value_data (value.Free free) = free_data free.now
value_data (value.Zones zones) = zones_data zones.now
value_data (value.Lacks reasons) = lacks_data reasons.now
value_data (value.Verdicts each) = verdicts_data each.now

-- what a member says
abbrev pub named : Member → Named
named m = (m.0.now, value_data m.1)

-- the tokens of an item
abbrev pub item_tokens : Data → List Token
item_tokens d = json_tokens (outline d)

-- the tokens of a member
abbrev pub member_tokens : Named → List Token
member_tokens m = key m.0 ∷ json_tokens (outline m.1)

-- the tokens of how many cells lack something: none where no cell does
abbrev pub lack_tokens : LackCount → List Token
lack_tokens l = cond (l.1 == 0) [] (member_tokens (l.0.now, whole l.1))
