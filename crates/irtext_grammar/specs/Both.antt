-- Between functions: two sets of actions side by side; and the result of a parse with its state seen by a function.
use Rattle.std.specs.Prelude.{◌≡◌}
use Rattle.irtext_grammar.specs.Reached.{Reached, Advanced, Stopped, Actions}

-- the actions of both, each on its own state
abbrev pub both : {T A S U : Type 0} → Actions T A S → Actions T A U → Actions T A (S × U)
both d e = record {
  uses = λ place id parts s. (d.uses place id parts s.0, e.uses place id parts s.1);
  late = λ place id piece s. (d.late place id piece s.0, e.late place id piece s.1);
  enters = λ iso s. (d.enters iso s.0, e.enters iso s.1);
  leaves = λ iso place s. (d.leaves iso place s.0, e.leaves iso place s.1);
  closes = λ place names id parts s. (d.closes place names id parts s.0, e.closes place names id parts s.1);
  marks = λ mark s. (d.marks mark s.0, e.marks mark s.1);
  heads = λ head s. (d.heads head s.0, e.heads head s.1);
  any_key = d.any_key;
}

-- the result of a parse, with its state seen by `see`
abbrev pub seen_as : {X S U : Type 0} → (S → U) → Reached X S → Reached X U
seen_as see (Advanced x s rest) = Advanced x (see s) rest
seen_as see (Stopped s cause place) = Stopped (see s) cause place

-- One parse ended or is stuck exactly where each of two others did, with the same value and rest, or the same cause and place, and its
-- state is the pair of theirs.
pub record AreBeside {X S U : Type 0} (first : Reached X S) (second : Reached X U) (pair : Reached X (S × U)) : Type 0 where
  pub left : seen_as (λ s. s.0) pair ≡ first
  pub right : seen_as (λ s. s.1) pair ≡ second
