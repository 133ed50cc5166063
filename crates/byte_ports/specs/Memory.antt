-- What the source and the sink in memory show.
use Rattle.std.specs.Prelude.{ℕ, List, drop}
use Rattle.byte_ports.specs.declared.memory_source.MemorySource.{MemorySource}
use Rattle.byte_ports.specs.declared.memory_sink.MemorySink.{MemorySink}
use Rattle.byte_ports.specs.declared.failing_calls.FailingCalls.{FailingCalls}

-- the bytes that a source in memory has left
abbrev pub source_bytes : MemorySource → List ℕ
source_bytes source = drop source.at source.bytes.items

-- how often a source in memory has failed
abbrev pub source_faults : MemorySource → ℕ
source_faults source = source.faults

-- which calls of a source in memory fail
abbrev pub source_failing : MemorySource → FailingCalls
source_failing source = source.failing

-- the bytes that a sink in memory holds
abbrev pub sink_bytes : MemorySink → List ℕ
sink_bytes sink = sink.bytes.items

-- how often a sink in memory has failed
abbrev pub sink_faults : MemorySink → ℕ
sink_faults sink = sink.faults

-- which calls of a sink in memory fail
abbrev pub sink_failing : MemorySink → FailingCalls
sink_failing sink = sink.failing

-- how often a sink in memory found no memory
abbrev pub sink_starved : MemorySink → ℕ
sink_starved sink = sink.starved
