-- The lines that answer a script: each the compact text of one object with its members in byte order, and a newline.
use Rattle.std.specs.Prelude.{ℕ, List, codes, Option, Some, None}
use Rattle.serde_json.specs.Data.{Data, string, object, member, no_members}
use Rattle.line_writing.specs.Line.{line_text}
use Rattle.line_writing.specs.Spelled.{optional_number_data, whole}
use Rattle.locket.specs.declared.reply.LockReply.{LockReply}
use Rattle.locket.specs.declared.reply.LockReply.TheVariants as reply
use Rattle.lock_lines.specs.Causes.{why_text}

-- an answer that tells of a lease: its fence, and from when it holds no more, or null where it was given back
abbrev pub lease_data : List ℕ → ℕ → ℕ → Option ℕ → Data
lease_data word line fence until =
    object
    (member (codes "answer") (string word)
    (member (codes "fence") (whole fence)
    (member (codes "line") (whole line)
    (member (codes "until") (optional_number_data until) no_members))))

-- the answer that refuses a command, with its cause
abbrev pub refused_data : ℕ → List ℕ → Data
refused_data line why =
    object
    (member (codes "answer") (string (codes "refused"))
    (member (codes "line") (whole line)
    (member (codes "why") (string why) no_members)))

-- the answer to the command of a line
abbrev pub answer_data : ℕ → LockReply → Data
answer_data line (reply.Ok lease) = lease_data (codes "ok") line lease.fence (Some lease.until)
answer_data line (reply.Same lease) = lease_data (codes "same") line lease.fence (Some lease.until)
answer_data line (reply.Released fence) = lease_data (codes "ok") line fence None
answer_data line (reply.Refused why) = refused_data line (why_text why)

-- what is told of a line whose command the disk failed to store
abbrev pub disk_data : ℕ → Data
disk_data line =
    object
    (member (codes "answer") (string (codes "disk"))
    (member (codes "line") (whole line) no_members))

-- how many commands were done, how many are in doubt, and the fence that was given last
abbrev pub summary_data : ℕ → ℕ → ℕ → Data
summary_data done doubts last =
    object
    (member (codes "done") (whole done)
    (member (codes "doubts") (whole doubts)
    (member (codes "last") (whole last) no_members)))

-- the line that answers a command
abbrev pub answer_line : ℕ → LockReply → List ℕ
answer_line line reply = line_text (answer_data line reply)

-- the line that tells of a disk that failed
abbrev pub disk_line : ℕ → List ℕ
disk_line line = line_text (disk_data line)

-- the last line
abbrev pub summary_line : ℕ → ℕ → ℕ → List ℕ
summary_line done doubts last = line_text (summary_data done doubts last)
