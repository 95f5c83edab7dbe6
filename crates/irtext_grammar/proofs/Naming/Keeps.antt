-- What no item changes stays unchanged through a whole tree; a machine that has failed stays failed at each item.
use Rattle.std.proofs.Common.{◌≡◌, ℕ, Bool, List, [], ◌∷◌, Option, refl}
use Rattle.irtext_base.specs.Format.{Format, Id}
use Rattle.irtext_grammar.specs.Grammar.Tree.{Name, Mark, Piece, Part, Head, views}
use Rattle.irtext_grammar.specs.Names.Script.{Path}
use Rattle.irtext_grammar.specs.Names.Acts.{mark_acts, header_acts}
use Rattle.irtext_grammar.specs.Names.TextScopes.{Act, Failure}
use Rattle.irtext_grammar.specs.Names.History.{failed}
use Rattle.irtext_grammar.specs.Reached.{Actions}
use Rattle.irtext_grammar.specs.Naming.{acted, acts_of_piece, acts_at_end, naming}

-- no item changes the state
pub record Keeps {T A S : Type 0} (does : Actions T A S) (s : S) : Type 0 where
  pub uses : (place : ℕ) (id : Id) (parts : List (Part ℕ T A)) → does.uses place id parts s ≡ s
  pub late : (place : ℕ) (id : Id) (piece : Piece ℕ T A) → does.late place id piece s ≡ s
  pub enters : (iso : Bool) → does.enters iso s ≡ s
  pub leaves : (iso : Bool) (place : ℕ) → does.leaves iso place s ≡ s
  pub closes : (place : ℕ) (names : List (Name ℕ)) (id : Id) (parts : List (Part ℕ T A)) → does.closes place names id parts s ≡ s
  pub marks : (mark : Option (Mark ℕ)) → does.marks mark s ≡ s
  pub heads : (head : Head ℕ T A) → does.heads head s ≡ s

acted_failed : (acts : List Act) (e : Failure) → acted acts (failed e) ≡ failed e
acted_failed [] e = refl
acted_failed (a ∷ acts) e = acted_failed acts e

module _ {T A : Type 0} (formats : Id → Option Format) (path : ℕ → Path) (e : Failure) where
  -- a machine that has failed stays so at each item
  pub failed_keeps : Keeps {T = T} {A = A} (naming formats path) (failed e)
  failed_keeps = record {
    uses = λ place id parts. acted_failed (views (acts_of_piece {T = T} {A = A} formats path place id) parts) e;
    late = λ place id piece. acted_failed (acts_of_piece {T = T} {A = A} formats path place id piece) e;
    enters = λ iso. refl;
    leaves = λ iso place. refl;
    closes = λ place names id parts. acted_failed (acts_at_end {T = T} {A = A} formats path place names id parts) e;
    marks = λ mark. acted_failed (mark_acts mark) e;
    heads = λ head. acted_failed (header_acts (path head.label.place) head) e;
  }
