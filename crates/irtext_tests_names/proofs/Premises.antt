-- What the round trip requires of worked roots: of locations on line 1, and of a module with one block of two operations, from what it
-- requires of the two.
use Rattle.std.specs.Prelude.{◌≡◌, ℕ, ◌+◌, ◌<◌, ◌^◌, true, false, not, ◌==◌, [], ◌∷◌, ◌++◌, codes, refl, Some, None}
use Rattle.std.proofs.Common.{arith, ap, ap₂}
use Rattle.std.specs.Char.{is_whitespace}
use Rattle.std.specs.List.{list_all}
use Rattle.irtext_base.proofs.Characters.{after_all, front_all}
use Rattle.irtext_base.specs.Own.{found}
use Rattle.irtext_base.specs.Reading.{the}
use Rattle.irtext_base.specs.Text.{begins, Text}
use Rattle.irtext_grammar.specs.Grammar.Forest.{no_regions, region, no_blocks, block, no_operations, operation}
use Rattle.irtext_grammar.specs.Graphs.Closed.{Fit, FitsOp}
use Rattle.irtext_grammar.specs.Graphs.Graph.{Graph, GraphOp, marks_in_regions, own_marks, op_outlined}
use Rattle.irtext_grammar.specs.Graphs.Identifiers.{HasIdentifiers, OpHasIdentifiers}
use Rattle.irtext_grammar.specs.Graphs.ReservedKeys.{GraphKeepsKeys, OpKeepsKeys}
use Rattle.irtext_grammar.specs.Graphs.RoundTrip.{LocationReads}
use Rattle.irtext_grammar.specs.Graphs.Same.{SmallGraph, SmallOp}
use Rattle.irtext_tests_names.specs.Demo.{isolated, plain_printing}
use Rattle.irtext_tests_names.specs.Graphs.{first_block, module_m, on_line_one}
use Rattle.irtext_tests_names.specs.Located.{text_locations, up_to_bracket}

stops : (rest : Text) → begins (the 93) rest ≡ true → begins (λ c. not (c == 93)) rest ≡ false
stops [] e = refl
stops (c ∷ rest) e = ap not e

located : (l : Text) → begins is_whitespace l ≡ false → list_all (λ c. not (c == 93)) l ≡ true → LocationReads up_to_bracket text_locations (Some l)
located l w h = (w, (λ rest e. (l, rest, ap₂ found (front_all (λ c. not (c == 93)) l rest h (stops rest e)) (after_all (λ c. not (c == 93)) l rest h (stops rest e)), refl, refl)))

-- a location on line 1 whose column has no bracket is parsed up to the bracket
pub on : (c : Text) → list_all (λ c. not (c == 93)) (codes "<in-memory>: line: 1, column: " ++ c) ≡ true → LocationReads up_to_bracket text_locations (on_line_one c)
on c h = located (codes "<in-memory>: line: 1, column: " ++ c) refl h

-- nothing is something
pub none_some : {X : Type 0} (x : X) → None ≡ Some x → ⊥
none_some x e = cc

module _ (x y : GraphOp Text Text) where
  -- builtin.module @m of two operations
  abbrev pub module_of : Graph Text Text
  module_of = record { own = module_m None; regions = region tt (block first_block (operation x no_regions (operation y no_regions no_operations)) no_blocks) no_regions }

  -- its dictionaries contain only entries that are allowed
  pub keeps : OpKeepsKeys x → OpKeepsKeys y → GraphKeepsKeys module_of
  keeps a b = (refl, (tt, (refl, (a, tt, (b, tt, tt)), tt), tt))

  -- its operations fit their formats
  pub fit : FitsOp plain_printing isolated x no_regions → FitsOp plain_printing isolated y no_regions → Fit plain_printing isolated module_of
  fit a b = ((refl, record { operands = refl; successors = refl; results = refl; regions = refl; keys_there = refl; symbol = refl; others_outlined = refl }), (((a, tt, (b, tt, tt)), tt), tt))

  -- its numbers are those that counters give
  pub small : SmallOp plain_printing isolated x → SmallOp plain_printing isolated y → SmallGraph plain_printing isolated module_of
  small a b = (record { results = tt; operands = tt; successors = tt }, (tt, (record { place = (omega arith, omega arith); arguments = tt }, (a, tt, (b, tt, tt)), tt), tt))

  -- its names are identifiers
  pub wordy : OpHasIdentifiers plain_printing x → OpHasIdentifiers plain_printing y → marks_in_regions plain_printing None module_of.regions + own_marks plain_printing None (op_outlined plain_printing module_of.own) < 2 ^ 64 → HasIdentifiers plain_printing module_of
  wordy a b m = record {
    given = λ v n e. absurd (none_some n e);
    label = λ l n e. absurd (none_some n e);
    own = record { dialect = refl; name = refl; attributes = ((refl, refl), tt) };
    regions = (tt, (record { attributes = tt }, (a, tt, (b, tt, tt)), tt), tt);
    marks = m;
  }
