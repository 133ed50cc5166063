-- The lines of a scenario, each one object in JSON with its members in byte order, and a newline.
use Rattle.std.specs.Prelude.{ℕ, List, ◌++◌, codes}
use Rattle.std.specs.Fmt.{decimal}

-- a phase begins at this moment
abbrev pub at_line : ℕ → List ℕ
at_line at = codes "{\"at\":" ++ (decimal at ++ codes "}\n")

-- a cell joins, in the zone of this number
abbrev pub join_line : ℕ → ℕ → List ℕ
join_line cell zone =
    codes "{\"cell\":\"cell-" ++ (decimal cell
    ++ (codes "\",\"containers\":250,\"disk\":1048576,\"memory\":65536,\"op\":\"join\",\"ttl\":1000000,\"zone\":\"z"
    ++ (decimal zone ++ codes "\"}\n")))

-- the domain of all processes is made fresh, for no time, so that nothing of it is retired
abbrev pub fresh_line : List ℕ
fresh_line = codes "{\"client\":\"gen\",\"domain\":\"gen\",\"op\":\"fresh\"}\n"

-- a process is desired, with so many instances of so much memory each
abbrev pub desire_line : ℕ → ℕ → ℕ → List ℕ
desire_line process instances memory =
    codes "{\"client\":\"gen\",\"disk\":64,\"domain\":\"gen\",\"instances\":" ++ (decimal instances
    ++ (codes ",\"memory\":" ++ (decimal memory
    ++ (codes ",\"op\":\"desire\",\"process\":\"proc-" ++ (decimal process ++ codes "\"}\n")))))

-- a process is to have so many instances from now on
abbrev pub update_line : ℕ → ℕ → List ℕ
update_line process instances =
    codes "{\"client\":\"gen\",\"instances\":" ++ (decimal instances
    ++ (codes ",\"op\":\"update\",\"process\":\"proc-" ++ (decimal process ++ codes "\"}\n")))

-- a round
abbrev pub round_line : List ℕ
round_line = codes "{\"op\":\"round\"}\n"
