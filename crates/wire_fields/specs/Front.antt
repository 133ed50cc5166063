-- What the front of some bytes is, read as a field: this takes no notice of where the bytes stand.
use Rattle.std.specs.Prelude.{ℕ, ◌+◌, Bool, true, false, ◌||◌, ◌==◌, nat_lt, List, [], ◌∷◌, length, take, Option, Some, None, if◌then◌else◌}
use Rattle.std.specs.Int.{Width, byte_len, from_be_bytes}
use Rattle.std.specs.List.{list_all}
use Rattle.diego_names.specs.Name.{is_name_byte}

-- a value and how many bytes it takes, too few bytes, or no value of the field
pub data Front (X : Type 0) : Type 0 where
  Holds : (value : X) (count : ℕ) → Front X
  Ends : Front X
  Bad : Front X

-- the same bytes, with their value seen otherwise
abbrev pub front_map : {X Y : Type 0} → (X → Y) → Front X → Front Y
front_map f (Holds x n) = Holds (f x) n
front_map f Ends = Ends
front_map f Bad = Bad

-- a number
abbrev pub number_front : Width → List ℕ → Front ℕ
number_front w bytes =
    if nat_lt (length bytes) (byte_len w) then Ends else Holds (from_be_bytes w (take (byte_len w) bytes)) (byte_len w)

-- the bytes of a name, behind its length
abbrev pub name_bytes_front : ℕ → List ℕ → Front (List ℕ)
name_bytes_front len rest =
    if nat_lt (length rest) len then Ends
    else (if list_all is_name_byte (take len rest) then Holds (take len rest) (1 + len) else Bad)

-- a name
abbrev pub name_front : List ℕ → Front (List ℕ)
name_front [] = Ends
name_front (len ∷ rest) = if (len == 0) || nat_lt 80 len then Bad else name_bytes_front len rest

-- nothing, or a name
abbrev pub optional_name_front : List ℕ → Front (Option (List ℕ))
optional_name_front [] = Ends
optional_name_front (len ∷ rest) = if len == 0 then Holds None 1 else front_map Some (name_front (len ∷ rest))

-- no or yes
abbrev pub truth_front : List ℕ → Front Bool
truth_front [] = Ends
truth_front (b ∷ rest) = if b == 0 then Holds false 1 else (if b == 1 then Holds true 1 else Bad)
