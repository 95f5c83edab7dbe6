-- For callers: graphs whose names, ids and keys are identifiers, as the types of the arenas ensure, and that have fewer than 2 ^ 64
-- marks.
use Rattle.std.specs.Prelude.{◌≡◌, ℕ, ◌+◌, ◌<◌, ◌^◌, Some, None, ⊤}
use Rattle.irtext_base.specs.Text.{Text}
use Rattle.irtext_grammar.specs.Grammar.Forest.{AllRegions}
use Rattle.irtext_grammar.specs.Grammar.Tree.{Attribute}
use Rattle.irtext_grammar.specs.Graphs.Graph.{Graph, GraphOp, GraphBlock, Printing, marks_in_regions, own_marks, op_outlined}
use Rattle.irtext_grammar.specs.Spelling.Spellable.{Each, IsIdentifier, IsSpellableAttribute}

-- the key of an entry and the names in its attribute are identifiers
abbrev pub EntryHasIdentifiers : {A : Type 0} → Text × Attribute A → Type 0
EntryHasIdentifiers e = IsIdentifier e.0 × IsSpellableAttribute e.1

module _ {T A : Type 0} (C : Printing T A) where
  -- the id of an operation and the names in its dictionary are identifiers
  pub record OpHasIdentifiers (o : GraphOp T A) : Type 0 where
    pub dialect : IsIdentifier o.id.dialect
    pub name : IsIdentifier o.id.name
    pub attributes : Each EntryHasIdentifiers o.attributes

  -- the names in a block's dictionary are identifiers
  pub record BlockHasIdentifiers (h : GraphBlock T A) : Type 0 where
    pub attributes : Each EntryHasIdentifiers h.attributes

  -- all names of a root are identifiers, and there are fewer than 2 ^ 64 marks
  pub record HasIdentifiers (g : Graph T A) : Type 0 where
    pub given : (v : ℕ) (n : Text) → C.given v ≡ Some n → IsIdentifier n
    pub label : (b : ℕ × ℕ) (n : Text) → C.label b ≡ Some n → IsIdentifier n
    pub own : OpHasIdentifiers g.own
    pub regions : AllRegions OpHasIdentifiers BlockHasIdentifiers (λ r. ⊤) g.regions
    pub marks : marks_in_regions C None g.regions + own_marks C g.own.location (op_outlined C g.own) < 2 ^ 64
