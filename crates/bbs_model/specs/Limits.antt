-- How large a board may be.
use Rattle.std.specs.Prelude.{ℕ}

-- the most desired processes
abbrev pub most_processes : ℕ
most_processes = 5000

-- the most instances of one process
abbrev pub most_instances : ℕ
most_instances = 1000

-- the most instances that all processes want together
abbrev pub most_wanted : ℕ
most_wanted = 50000

-- the most actual rows, of all three presences
abbrev pub most_actual : ℕ
most_actual = 100000

-- the most tasks
abbrev pub most_tasks : ℕ
most_tasks = 50000

-- the most cells
abbrev pub most_cells : ℕ
most_cells = 1000

-- the most domains
abbrev pub most_domains : ℕ
most_domains = 1000

-- the most transitions in a board's life
abbrev pub most_transitions : ℕ
most_transitions = 1099511627776
