-- What the code's entries and headings say.
use Rattle.std.specs.Prelude.{ℕ, List, map}
use Rattle.std.specs.Fmt.{decimal}
use Rattle.headroom_tables.specs.declared.entries.Entry.{Entry}
use Rattle.headroom_tables.specs.declared.entries.Entry.TheVariants as entry
use Rattle.headroom_tables.specs.declared.layout.Heading.{Heading}
use Rattle.headroom_tables.specs.Entries.{amount, bound_text, lacks_text, names_text, tag_text, tags_text, zones_in_brackets, zones_text}
use Rattle.headroom_tables.specs.Layout.{Column}

-- the text of an entry
abbrev pub entry_text : Entry → List ℕ
entry_text (entry.Number n) = decimal n
entry_text (entry.Amount mb) = amount mb
entry_text (entry.Text text) = text.now
entry_text (entry.Name name) = name.now
entry_text (entry.Tag tag) = tag_text tag.now
entry_text (entry.Names names) = names_text names.now
entry_text (entry.Tags tags) = tags_text tags.now
entry_text (entry.Zones zones) = zones_text zones.now
entry_text (entry.ZonesInBrackets zones) = zones_in_brackets zones.now
entry_text (entry.Lacks reasons) = lacks_text reasons.now
entry_text (entry.Bound job) = bound_text job.now

-- the columns that headings name
abbrev pub columns_of : List Heading → List Column
columns_of headings = map (λ h. (h.0, h.1.now)) headings
