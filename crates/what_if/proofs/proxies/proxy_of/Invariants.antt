use Rattle.std.proofs.Common.{◌≡◌, take}
use Rattle.std.specs.Prelude.{fold, max}
use Rattle.what_if.proofs.proxies.proxy_of.Given as goal

abbrev pub invariant-loop-state : goal.invariant-loop-state
invariant-loop-state l = l.most ≡ fold (λ m s. max m s.proxy_memory) 0 (take l.state-index l.states)
