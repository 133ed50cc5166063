use Rattle.disk_trait.specs.Memory.{memory_past}
use Rattle.bbs_board.specs.Opening.{IsBoard}
use Rattle.bbs_board.proofs.Loaded.{shown_before}
use Rattle.bbs_board.proofs.memory_loading.load_from_memory.Goals as goal

pub returns-clause-found : goal.returns-clause-found
returns-clause-found c =
    shown_before c.load.result (λ b. memory_past b.disk) (memory_past c.args.disk)
    (λ b image. IsBoard b.base image) c.load.ensures.found c.load.ensures.ok
