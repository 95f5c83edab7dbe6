-- For callers: the whole round trip. The printed text of a root, with its section, parses as a tree and entries that resolve, and what
-- they build is equal to the root up to fillings (see Graphs/Same). And what the arenas ensure of locations and dictionaries for that.
use Rattle.std.specs.Prelude.{◌≡◌, ℕ, Bool, true, false, List, [], ◌++◌, map, Option, Some, None, ⊤}
use Rattle.std.specs.Char.{is_whitespace}
use Rattle.irtext_base.specs.Text.{Text, begins, after_space}
use Rattle.irtext_base.specs.Reading.{the}
use Rattle.irtext_base.specs.Format.{same_text, distinct, Id}
use Rattle.irtext_grammar.specs.Grammar.Forest.{AllRegions}
use Rattle.irtext_grammar.specs.Grammar.Tree.{Tree, Attribute}
use Rattle.irtext_base.specs.Own.{Texts, found, language, unplaced, Verdict}
use Rattle.irtext_grammar.specs.Graphs.Graph.{Graph, Printing}
use Rattle.irtext_grammar.specs.Spelling.Section.{text}
use Rattle.irtext_grammar.specs.Grammar.Section.{Entry}
use Rattle.irtext_grammar.specs.Grammar.Marked.{reads_root}
use Rattle.irtext_grammar.specs.Names.Acts.{failures_of}
use Rattle.irtext_grammar.specs.Graphs.Build.{build}
use Rattle.irtext_grammar.specs.Graphs.Same.{resolved_root, Locations, UpToFillings}

-- a location's text does not begin with white space, and before `]` it is parsed back
abbrev pub LocationReads : {X : Type 0} → (Text → Verdict X) → Locations X → Option Text → Type 0
LocationReads location_at K None = ⊤
LocationReads {X} location_at K (Some l) = (begins is_whitespace l ≡ false) × ((rest : Text) → begins (the 93) rest ≡ true → (x : X) × (left : Text) × (location_at (l ++ rest) ≡ found x left) × (K.text x ≡ l) × (after_space left ≡ after_space rest))

-- no key occurs twice in the dictionary
abbrev pub KeysDiffer : {A : Type 0} → List (Text × Attribute A) → Type 0
KeysDiffer es = distinct same_text (map (λ e. e.0) es) ≡ true

-- what the arenas ensure of the location and the dictionary of one operation or block
abbrev pub Held : {A X : Type 0} → (Text → Verdict X) → Locations X → Option Text → List (Text × Attribute A) → Type 0
Held location_at K l es = LocationReads location_at K l × KeysDiffer es

module _ {T A X : Type 0} (location_at : Text → Verdict X) (K : Locations X) where
  -- the arenas ensure it of each operation and each block
  abbrev pub GraphHeld : Graph T A → Type 0
  GraphHeld g = Held location_at K g.own.location g.own.attributes × AllRegions (λ o. Held location_at K o.location o.attributes) (λ h. Held location_at K h.location h.attributes) (λ r. ⊤) g.regions

module _ {T A X : Type 0} (types : Texts T) (owns : Texts A) (location_at : Text → Verdict X) (K : Locations X) (first : ℕ → X) (C : Printing T A) (isolated : Id → Bool) where
  -- The printed text of the root, at this width and indentation, parses as a tree and a section that resolve, with only white space left.
  -- What they build is equal to the root up to fillings.
  abbrev pub ComesBack : Graph T A → ℕ → ℕ → Type 0
  ComesBack g width n = (t : Tree ℕ T A) × (es : List (Entry ℕ A X)) × (u : Text)
      × reads_root (language types owns C.format_of) location_at t es (text (unplaced types owns C.format_of) C g n width None) u × (after_space u ≡ [])
      × (failures_of isolated t es ≡ []) × UpToFillings K (resolved_root C isolated g) (build isolated first es t)

-- no dictionary of the graph has a key twice
abbrev pub GraphKeysDiffer : {T A : Type 0} → Graph T A → Type 0
GraphKeysDiffer g = KeysDiffer g.own.attributes × AllRegions (λ o. KeysDiffer o.attributes) (λ h. KeysDiffer h.attributes) (λ r. ⊤) g.regions
