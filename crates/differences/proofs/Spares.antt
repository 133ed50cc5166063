-- More room changes nothing of what is kept.
use Rattle.std.proofs.Common.{◌≡◌, ℕ, refl, ◌∙◌}
use Rattle.bbs_model.specs.declared.rows.Rows.{Rows}
use Rattle.convergence.specs.Subjects.{Subject, OfCell, OfDomain, OfPlace, OfTask, OfProcess}
use Rattle.differences.specs.Noted.{Noted, noted}
use Rattle.differences.specs.Standing.{StandsFor}

same_causes : (d : Noted) (spare : ℕ) (s : Subject) → noted (record d { spare = spare }) s ≡ noted d s
same_causes d spare (OfCell cell) = refl
same_causes d spare (OfDomain name) = refl
same_causes d spare (OfPlace place) = refl
same_causes d spare (OfTask name) = refl
same_causes d spare (OfProcess process) = refl

-- with other room they stand for the same rows
pub stands_with : (d : Noted) (spare : ℕ) (rows : Rows) → StandsFor d rows → StandsFor (record d { spare = spare }) rows
stands_with d spare rows stands = record {
  causes = λ s. same_causes d spare s ∙ stands.causes s;
  wanted = stands.wanted;
  cells = stands.cells;
  domains = stands.domains;
}
