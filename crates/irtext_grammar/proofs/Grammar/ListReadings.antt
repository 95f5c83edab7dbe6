-- If a list of readings parses a text, each of them parses some text; and the parts of a body have a place for each of its regions.
use Rattle.std.proofs.Common.{ℕ, Bool, List, [], ◌∷◌}
use Rattle.std.specs.Prelude.{⊤}
use Rattle.irtext_base.specs.Text.{Text, after_space}
use Rattle.irtext_base.specs.Reading.{Reading, the, more, separated, repeated}
use Rattle.irtext_base.specs.Own.{Language}
use Rattle.irtext_grammar.specs.Grammar.Forest.{Regions, no_regions, region}
use Rattle.irtext_grammar.specs.Spelling.Spellable.{Enough}
use Rattle.irtext_grammar.specs.Grammar.Tree as tree
use Rattle.irtext_grammar.specs.Grammar.Tree.{Part, Op, Head, Brace}
use Rattle.irtext_grammar.specs.Grammar.Reads as reads

-- each reading of a list is that of some text
abbrev pub AllUsed : List Reading → Type 0
AllUsed [] = ⊤
AllUsed (r ∷ rs) = ((t : Text) × (u : Text) × r t u) × AllUsed rs

-- each further item of a list was parsed from some text
pub more_used : (separator : ℕ) (rs : List Reading) (t u : Text) → more separator rs t u → AllUsed rs
more_used separator [] t u a = tt
more_used separator (r ∷ rs) t u (m, a, (w, b, c)) = ((after_space m, w, b), more_used separator rs (after_space w) u c)

-- each item of a list with a separator was parsed from some text
pub separated_used : (separator : ℕ) (missing : Text → Type 0) (rs : List Reading) (t u : Text) → separated separator missing rs t u → AllUsed rs
separated_used separator missing [] t u a = tt
separated_used separator missing (r ∷ rs) t u (m, a, b) = ((t, m, a), more_used separator rs (after_space m) u b)

-- each item of a repetition was parsed from some text
pub repeated_used : (test : ℕ → Bool) (rs : List Reading) (t u : Text) → repeated test rs t u → AllUsed rs
repeated_used test [] t u a = tt
repeated_used test (r ∷ rs) t u (m, a, b) = ((t, m, a), repeated_used test rs (after_space m) u b)

module _ {P T A : Type 0} (L : Language P T A) where
  -- each region of a body's parts was parsed from some text
  pub parts_used : (ps : List (Part P T A)) (rs : Regions (Op P T A) (Head P T A) (Brace P)) (t u : Text) → reads.parts L ps (reads.region_readings L rs) t u
      → Enough ps rs × AllUsed (reads.region_readings L rs)
  parts_used [] no_regions t u a = (tt, tt)
  parts_used [] (region brace bs rs) t u a = absurd a
  parts_used (tree.piece x ∷ ps) rs t u (m, a, b) = parts_used ps rs m u b
  parts_used (tree.region i ∷ ps) no_regions t u a = absurd a
  parts_used (tree.region i ∷ ps) (region brace bs rs) t u (m, a, b) = let h = parts_used ps rs m u b in (h.0, ((after_space t, m, a), h.1))
  parts_used (tree.regions ∷ ps) rs t u (m, a, b) = ((parts_used ps no_regions m u b).0, repeated_used (the 123) (reads.region_readings L rs) (after_space t) m a)

  -- each operation of a block was parsed from some text
  pub block_used : (h : Head P T A) (rs : List Reading) (t u : Text) → reads.block_read L h rs t u → AllUsed rs
  block_used h rs t u (m, a, (m1, a1, (m2, a2, (m3, a3, (m4, a4, (m5, a5, (m6, a6, a7))))))) = separated_used 59 reads.no_operation rs (after_space m6) u a7
