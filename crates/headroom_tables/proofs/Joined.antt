-- What the library joins is `joined`.
use Rattle.std.proofs.Common.{◌≡◌, ℕ, List, [], ◌∷◌, ◌++◌, String, string_bytes, refl, ap, sym}
use Rattle.std.specs.List.{join_by}
use Rattle.std.proofs.lemmas.List.Folds.{flat_map-map}
use Rattle.text_table.specs.Texts.{entries_of}
use Rattle.headroom_tables.specs.Layout.{joined}

pub joined_by : {Y : Type 0} (between : List ℕ) (parts : List (String Y))
    → join_by string_bytes between parts ≡ joined between (entries_of parts)
unfolding joined
joined_by between [] = refl
joined_by between (part ∷ parts) =
    ap (λ rest. string_bytes part ++ rest) (sym (flat_map-map (λ p. between ++ p) string_bytes parts))
