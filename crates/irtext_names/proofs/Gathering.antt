-- How far the gathering of pieces has come, several words and a piece at a time.
use Rattle.std.proofs.Common.{ℕ, List, [], ◌∷◌, ◌++◌, Option}
use Rattle.irtext_graph.specs.Graph.{GraphView}
use Rattle.irtext_context.specs.declared.base.block.BlockData.{BlockData}
use Rattle.irtext_context.specs.declared.base.operation.OperationData.{OperationData}
use Rattle.irtext_names.specs.Tied.{MatchesGraph}
use Rattle.irtext_grammar.specs.declared.parsed.ReadPiece.{ReadPiece}
use Rattle.irtext_grammar.specs.Found.{only_words}
use Rattle.irtext_names.specs.declared.gathered.Gathered.{Gathered}
use Rattle.irtext_names.specs.declared.operation_parts.NotGathered.{NotGathered}
use Rattle.irtext_names.specs.Items.{Names}
use Rattle.irtext_names.specs.Uses.{KeepsScopes}
use Rattle.irtext_names.specs.Gathering.{CanGather, Gathers, RefusesGathering}
use Rattle.irtext_names.proofs.Steady.{steady_itself, steady_both}
use Rattle.irtext_names.proofs.Gathers.{can_first, can_after, gathers_then, fails_at_then}
use Rattle.irtext_names.proofs.Pieces.{gather_refused_first, gather_refused_from}
use Rattle.irtext_names.proofs.Words.{can_after_words, gathers_words, words_refused, gathers_last}

-- the graph of a context
abbrev pub Objects : (T A : Type 0) → Type 0
Objects T A = GraphView (Option (OperationData A)) (BlockData A) (Option T)

module _ {T A : Type 0} where
  -- the pieces that are left, after those that were gathered
  pub record Gathering (all left : List (ReadPiece T A)) (old : Names) (g : Objects T A) (x : Gathered T A) (now : Names) (h : Objects T A) (y : Gathered T A) : Type 0 where
    pub steady : KeepsScopes old now g h
    pub can : CanGather now y.operands.list.items y.successors.list.items left
    pub gathers : (new : Names) (k : Objects T A) (z : Gathered T A) → Gathers left now h y new k z → Gathers all old g x new k z
    pub fails : (r : NotGathered) → RefusesGathering left now h r → RefusesGathering all old g r

  -- none was gathered
  pub gathering_begins : (all : List (ReadPiece T A)) (old : Names) (g : Objects T A) (x : Gathered T A) → MatchesGraph old.values old.labels g → CanGather old x.operands.list.items x.successors.list.items all → Gathering all all old g x old g x
  gathering_begins all old g x tied can = record { steady = steady_itself old g tied; can = can; gathers = λ new k z s. s; fails = λ r s. s }

  module _ {all : List (ReadPiece T A)} {old now : Names} {g h : Objects T A} {x y : Gathered T A} (n : ℕ) where
    module _ (p : ReadPiece T A) (ps : List (ReadPiece T A)) (s : Gathering all (only_words n ++ p ∷ ps) old g x now h y) where
      can_here : CanGather now y.operands.list.items y.successors.list.items (p ∷ ps)
      can_here = can_after_words now y.operands.list.items y.successors.list.items (p ∷ ps) n s.can

      -- the next piece can be gathered
      pub gathering_can : CanGather now y.operands.list.items y.successors.list.items (p ∷ [])
      gathering_can = can_first now y.operands.list.items y.successors.list.items p ps can_here

      -- it was gathered
      pub gathering_more : {new : Names} {k : Objects T A} {z : Gathered T A} → KeepsScopes now new h k → Gathers (p ∷ []) now h y new k z → Gathering all ps old g x new k z
      gathering_more {new = new} {k = k} {z = z} keeps t = record {
        steady = steady_both s.steady keeps;
        can = can_after now new y.operands.list.items z.operands.list.items y.successors.list.items z.successors.list.items p ps keeps.names t.operands_unlisted t.successors_unlisted can_here;
        gathers = λ names j w r. s.gathers names j w (gathers_words now h y n (p ∷ ps) (gathers_then p ps keeps.names t r));
        fails = λ r f. s.fails r (words_refused now h y n (p ∷ ps) r (gather_refused_from ps (p ∷ ps) now new h k keeps.names (λ is cause e. fails_at_then p ps keeps.names t e) r f));
      }

      -- it is refused
      pub gathering_refused : (r : NotGathered) → RefusesGathering (p ∷ []) now h r → RefusesGathering all old g r
      gathering_refused r f = s.fails r (words_refused now h y n (p ∷ ps) r (gather_refused_first p ps now h r f))

    -- only words are left
    pub gathering_ends : Gathering all (only_words n) old g x now h y → Gathers all old g x now h y
    gathering_ends s = s.gathers now h y (gathers_last now h y n)
