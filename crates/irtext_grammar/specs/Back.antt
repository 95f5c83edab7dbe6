-- For callers: roots whose printed text is parsed back, and what is promised of each root that is parsed from it. Fillings are the given
-- names, labels and positions that the text adds where the root has none.
use Rattle.std.specs.Prelude.{◌≡◌, ◌<◌, ◌^◌, ℕ, Bool, true, List, [], length, Option, Some, ⊤}
use Rattle.irtext_base.specs.Answers.{Outcome}
use Rattle.irtext_base.specs.Format.{Id}
use Rattle.irtext_base.specs.Locations.{AttrView}
use Rattle.irtext_base.specs.Own.{Texts, language, unplaced}
use Rattle.irtext_base.specs.Paths.{Written}
use Rattle.irtext_base.specs.Text.{Text, after_space}
use Rattle.irtext_grammar.specs.Grammar.Forest.{Root}
use Rattle.irtext_grammar.specs.Grammar.Marked.{reads_root}
use Rattle.irtext_grammar.specs.Grammar.Section.{Entry}
use Rattle.irtext_grammar.specs.Grammar.Tree.{Tree}
use Rattle.irtext_grammar.specs.Graphs.Build.{Built, build}
use Rattle.irtext_grammar.specs.Graphs.Closed.{Closed, Fit}
use Rattle.irtext_grammar.specs.Graphs.Graph.{Graph, Printing, Limit}
use Rattle.irtext_grammar.specs.Graphs.Regained.{UpToPositions}
use Rattle.irtext_grammar.specs.Graphs.Same.{Found, ResolvedOp, ResolvedBlock, UpToFillings, resolved_root}
use Rattle.irtext_grammar.specs.Names.Acts.{failures_of}
use Rattle.irtext_grammar.specs.Spelling.Section.{text}
use Rattle.irtext_grammar.specs.Spelling.Writable.{has_region}
use Rattle.irtext_grammar.specs.RootParts.{HoldsNoLabels, KeptRoot}
use Rattle.irtext_grammar.specs.Promises.PrintedBack.{locations}
use Rattle.irtext_grammar.specs.Promises.Supported.{location_verdict}
use Rattle.irtext_grammar.specs.Uses.{SameUses}

module _ {T A : Type 0} (C : Printing T A) (isolated : Id → Bool) where
  -- A closed root: it has no result, operand or successor, and is isolated or has no region; inside it each operand is a value of the
  -- same isolated scope, and each successor a block of the same region; its operations fit their formats; and no block has a label in its
  -- dictionary.
  pub record ClosedRoot (g : Graph T A) : Type 0 where
    pub closed : Closed C isolated g
    pub fits : Fit C isolated g
    pub unlabelled : HoldsNoLabels g

  -- The same without names: the root has no result, operand or successor; it is isolated, or has no region; each operand inside is a
  -- value that its isolated scope defines, and each successor a block that its region defines; operations fit their formats; and no block
  -- has a label in its dictionary.
  pub record SelfContained (g : Graph T A) : Type 0 where
    pub results : g.own.results ≡ []
    pub operands : g.own.operands ≡ []
    pub successors : g.own.successors ≡ []
    pub alone : has_region g.regions ≡ true → isolated g.own.id ≡ true
    pub found : Found (resolved_root C isolated g)
    pub fits : Fit C isolated g
    pub unlabelled : HoldsNoLabels g

module _ {T A : Type 0} (types : Texts T) (owns : Texts A) (attr : Text → Outcome (AttrView A)) (C : Printing T A) (isolated : Id → Bool) where
  -- The text is that of a root under a limit, with fewer than 2 ^ 64 characters. The root has the properties that the types of its parts
  -- ensure, and its operations fit their formats.
  pub record IsTextOf (g : Graph T A) (width indentation : ℕ) (limit : Limit) (t : Text) : Type 0 where
    pub kept : KeptRoot attr owns.written C isolated g
    pub fits : Fit C isolated g
    pub is : t ≡ text (unplaced types owns C.format_of) C g indentation width limit
    pub few : length t < 2 ^ 64

  -- A text parses as a tree and the entries of its section, with this rest; they resolve; and `held` is what they build.
  pub record ReadsAs (first : ℕ → Written A) (t rest : Text) (held : Option (Built T A (Written A))) : Type 0 where
    pub tree : Tree ℕ T A
    pub entries : List (Entry ℕ A (Written A))
    pub reads : reads_root (language types owns C.format_of) (location_verdict attr) tree entries t rest
    pub resolves : failures_of isolated tree entries ≡ []
    pub builds : held ≡ Some (build isolated first entries tree)

  -- `held` is equal to the root in the sense of `IsSame`, with the same uses inside; and only white space is left of the text.
  pub record HeldAs (IsSame : Root (ResolvedOp T A) (ResolvedBlock T A) ⊤ → Built T A (Written A) → Type 0) (g : Graph T A) (rest : Text) (held : Option (Built T A (Written A))) : Type 0 where
    pub built : Built T A (Written A)
    pub is : held ≡ Some built
    pub same : IsSame (resolved_root C isolated g) built
    pub uses : SameUses (resolved_root C isolated g) built
    pub ends : after_space rest ≡ []

  -- `held` is equal to the root up to fillings, with the same uses inside; and only white space is left of the text.
  abbrev pub HeldBack : Graph T A → Text → Option (Built T A (Written A)) → Type 0
  HeldBack g rest held = HeldAs (UpToFillings (locations owns.written)) g rest held

  -- The same, with nothing filled in but positions.
  abbrev pub HeldWhole : Graph T A → Text → Option (Built T A (Written A)) → Type 0
  HeldWhole g rest held = HeldAs (UpToPositions (locations owns.written)) g rest held
