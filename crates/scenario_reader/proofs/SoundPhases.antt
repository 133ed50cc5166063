-- A phase to which one more line comes.
use Rattle.std.proofs.Common.{◌≡◌, ℕ, ◌<◌, ◌≤◌, List, get_or, Option, Some, None, IfSome, arith}
use Rattle.std.specs.List.{All}
use Rattle.std.proofs.lemmas.List.Elements.{All-nil}
use Rattle.crash_backoff.specs.declared.moment.Moment.{Moment}
use Rattle.scenario_lines.specs.declared.actor.Actor.{Actor}
use Rattle.scenario_reader.specs.Facts.{AllNumbers, IsBefore, IsLine, IsPhase}
use Rattle.scenario_reader.specs.Steps.{begun_at}
use Rattle.scenario_lines.specs.declared.script.Line.{Line}
use Rattle.scenario_lines.specs.declared.script.Phase.{Phase}
use Rattle.scenario_lines.specs.declared.script.RoundLine.{RoundLine}

-- what is known of the last phase, where the others are these and no line has a greater number
pub record IsLast (actors : List Actor) (closed : List Phase) (upto : ℕ) (phase : Phase) : Type 0 where
  pub own : IsPhase actors phase
  pub behind : All (λ p. IsBefore p phase) closed
  pub below : AllNumbers (λ n. n ≤ upto) phase

some-mapped : {X : Type 0} (P Q : X → Type 0) (o : Option X) → ((x : X) → P x → Q x) → IfSome o P → IfSome o Q
some-mapped P Q None f known = tt
some-mapped P Q (Some x) f known = f x known

-- what follows of each number holds of each
pub numbers-mapped : (P Q : ℕ → Type 0) (phase : Phase) → ((n : ℕ) → P n → Q n) → AllNumbers P phase
    → AllNumbers Q phase
numbers-mapped P Q phase f known = record {
  lines = λ k d h. f (get_or phase.lines k d).line (known.lines k d h);
  round = some-mapped (λ r. P r.line) (λ r. Q r.line) phase.round (λ r p. f r.line p) known.round;
}

some-both : {X : Type 0} (P Q : X → Type 0) (o : Option X) → IfSome o P → IfSome o Q → IfSome o (λ x. P x × Q x)
some-both P Q None p q = tt
some-both P Q (Some x) p q = (p, q)

-- two facts of each number
pub numbers-both : (P Q : ℕ → Type 0) (phase : Phase) → AllNumbers P phase → AllNumbers Q phase
    → AllNumbers (λ n. P n × Q n) phase
numbers-both P Q phase p q = record {
  lines = λ k d h. (p.lines k d h, q.lines k d h);
  round = some-both (λ r. P r.line) (λ r. Q r.line) phase.round p.round q.round;
}

-- a phase without lines
pub begun_at-numbers : (P : ℕ → Type 0) (at : Moment) → AllNumbers P (begun_at at)
begun_at-numbers P at = record { lines = All-nil (λ (l : Line). P l.line); round = tt }

pub begun_at-is : (actors : List Actor) (at : Moment) → IsPhase actors (begun_at at)
begun_at-is actors at = record {
  lines = All-nil (IsLine actors);
  rising = λ i j d low high.
      absurd (omega arith);
  round = tt;
}

pub begun_at-behind : (phase : Phase) (at : Moment) → phase.at.0 ≤ at.0 → IsBefore phase (begun_at at)
begun_at-behind phase at moment = record {
  moment = moment;
  numbers = record {
    lines = λ k d h. begun_at-numbers (λ m. (get_or phase.lines k d).line < m) at;
    round = rounds phase.round;
  };
}
  where
    rounds : (o : Option RoundLine) → IfSome o (λ r. AllNumbers (λ m. r.line < m) (begun_at at))
    rounds None = tt
    rounds (Some r) = begun_at-numbers (λ m. r.line < m) at

-- another phase has the lines of this one, and one with this number
abbrev pub Grows : Phase → Phase → ℕ → Type 1
Grows phase grown n = (P : ℕ → Type 0) → AllNumbers P phase → P n → AllNumbers P grown

-- what stands before a phase stands before it when it has grown
pub grown-behind : (earlier phase grown : Phase) (upto n : ℕ) → Grows phase grown n → grown.at.0 ≡ phase.at.0 → upto < n
    → IsBefore earlier phase → AllNumbers (λ m. m ≤ upto) earlier → IsBefore earlier grown
grown-behind earlier phase grown upto n grows same less before below = record {
  moment = rw same before.moment;
  numbers = numbers-mapped (λ k. AllNumbers (λ m. k < m) phase × (k ≤ upto))
      (λ k. AllNumbers (λ m. k < m) grown) earlier
      (λ k (all, most). grows (λ m. k < m) all (omega arith))
      (numbers-both (λ k. AllNumbers (λ m. k < m) phase) (λ k. k ≤ upto) earlier before.numbers below);
}

-- a grown phase is the last
pub grown-last : (actors actors' : List Actor) (closed : List Phase) (phase grown : Phase) (upto n : ℕ)
    → Grows phase grown n → grown.at.0 ≡ phase.at.0 → upto < n → IsPhase actors' grown → IsLast actors closed upto phase
    → All (AllNumbers (λ m. m ≤ upto)) closed → IsLast actors' closed n grown
grown-last actors actors' closed phase grown upto n grows same less own last below = record {
  own = own;
  behind = λ k d h. grown-behind (get_or closed k d) phase grown upto n grows same less (last.behind k d h)
      (below k d h);
  below = grows (λ m. m ≤ n) (numbers-mapped (λ m. m ≤ upto) (λ m. m ≤ n) phase (λ m most. omega arith) last.below)
      (omega arith);
}
