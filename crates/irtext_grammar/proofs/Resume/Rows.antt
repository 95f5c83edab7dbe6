-- Two worked rows: an operation with a region of two operations, and one of any number of regions with a piece after them. Each is parsed
-- as a whole, and from points at which the loop would be; a log records what was done, with the places.
use Rattle.std.proofs.Common.{◌≡◌, ℕ, true, false, List, [], ◌∷◌, ◌++◌, Option, Some, codes, refl}
use Rattle.irtext_base.specs.Text.{Text}
use Rattle.irtext_base.specs.Format as format
use Rattle.irtext_base.specs.Answers.{Outcome, Missing}
use Rattle.irtext_base.specs.Faults.{Memory}
use Rattle.irtext_base.specs.Locations.{AttrView}
use Rattle.irtext_context.specs.Dialects.{Table}
use Rattle.irtext_tokens.specs.Tokens.{word_at, id_at}
use Rattle.irtext_grammar.specs.Contexts.Formats.{op_id}
use Rattle.irtext_grammar.specs.Grammar.Tree as tree
use Rattle.irtext_grammar.specs.Grammar.Tree.{Part}
use Rattle.irtext_grammar.specs.Readers.RestLengths.{LeavesNoMore}
use Rattle.irtext_grammar.specs.Heads.{Step, flat, all, one}
use Rattle.irtext_grammar.specs.Reached.{Reached, Advanced, Actions, operation_at}
use Rattle.irtext_grammar.specs.Resume.{OpenOperation, Open, to_come, an_operation, a_region, a_block, whole, Goes}
use Rattle.irtext_grammar.proofs.Resume.Frames.{goes_trans}
use Rattle.irtext_grammar.proofs.Resume.Unbounded.{Unbounded, unbounded}
use Rattle.irtext_grammar.proofs.Resume.Turns.{operation_begins, region_begins, block_begins, first_operation}

-- `t.h` has one region, `t.a` any number of regions and a `.` after them, `t.n` none
abbrev known : List (Text × Table)
known = (
  codes "t",
  record {
    name = codes "t";
    entries =
        (op_id (record { dialect = codes "t"; name = codes "h" }), record { format = format.custom (format.region 0 ∷ []); isolated = true })
        ∷ (op_id (record { dialect = codes "t"; name = codes "a" }), record { format = format.custom (format.regions ∷ format.word (codes ".") ∷ []); isolated = false })
        ∷ (op_id (record { dialect = codes "t"; name = codes "n" }), record { format = format.custom []; isolated = false }) ∷ [];
  },
) ∷ []

abbrev no_types : Text → Outcome (Unit {0})
no_types text = Missing Memory

abbrev no_attr : Text → Outcome (AttrView (Unit {0}))
no_attr text = Missing Memory

abbrev log : Actions (Unit {0}) (Unit {0}) (List ℕ)
log = record {
  uses = λ place id parts s. s ++ 1 ∷ place ∷ [];
  late = λ place id p s. s ++ 2 ∷ place ∷ [];
  enters = λ iso s. s ++ 3 ∷ [];
  leaves = λ iso place s. s ++ 4 ∷ place ∷ [];
  closes = λ place names id parts s. s ++ 5 ∷ place ∷ [];
  marks = λ mark s. s ++ 6 ∷ [];
  heads = λ h s. s ++ 7 ∷ [];
  any_key = false;
}

abbrev read_all : Text → Reached (Unit {0}) (List ℕ)
read_all text = operation_at known no_types no_attr log false text []

abbrev from : Option (Open (Unit {0}) (Unit {0})) → List (Open (Unit {0}) (Unit {0})) → List ℕ → Text → Reached (Unit {0}) (List ℕ)
from = whole known no_types no_attr log

abbrev holder : List Step → List (Part ℕ (Unit {0}) (Unit {0})) → OpenOperation (Unit {0}) (Unit {0})
holder ss ps = record { place = 19; names = []; id = record { dialect = codes "t"; name = codes "h" }; steps = ss; parts = ps }

-- t.h {^b(): t.n; a = t.n}
abbrev one_region : Text
one_region = codes "t.h{^b():t.n; t.n }"

row_one : read_all one_region ≡ Advanced tt (1 ∷ 19 ∷ 3 ∷ 7 ∷ 1 ∷ 10 ∷ 5 ∷ 10 ∷ 6 ∷ 1 ∷ 5 ∷ 5 ∷ 5 ∷ 6 ∷ 4 ∷ 16 ∷ 5 ∷ 19 ∷ 6 ∷ []) []
unfolding word_at id_at
row_one = refl

-- after its first operation
row_one_between : read_all one_region ≡ from (Some (a_block false)) (an_operation (holder [] (tree.region 0 ∷ [])) ∷ a_region true 16 ∷ []) (1 ∷ 19 ∷ 3 ∷ 7 ∷ 1 ∷ 10 ∷ 5 ∷ 10 ∷ 6 ∷ []) (codes "; t.n }")
unfolding word_at id_at
row_one_between = refl

abbrev many_regions : Text
many_regions = codes "t.a {} {} ."

abbrev holds_all : List Step → List (Part ℕ (Unit {0}) (Unit {0})) → OpenOperation (Unit {0}) (Unit {0})
holds_all ss ps = record { place = 11; names = []; id = record { dialect = codes "t"; name = codes "a" }; steps = ss; parts = ps }

row_all : read_all many_regions ≡ Advanced tt (1 ∷ 11 ∷ 3 ∷ 4 ∷ 7 ∷ 3 ∷ 4 ∷ 4 ∷ 2 ∷ 11 ∷ 5 ∷ 11 ∷ 6 ∷ []) []
unfolding word_at id_at
row_all = refl

-- in its second region
row_all_between : read_all many_regions ≡ from (Some (a_region false 4)) (an_operation (holds_all (all ∷ flat (format.word (codes ".")) ∷ []) []) ∷ []) (1 ∷ 11 ∷ 3 ∷ 4 ∷ 7 ∷ 3 ∷ []) (codes "} .")
unfolding word_at id_at
row_all_between = refl

-- ---- the same by the turns of a loop
no_more : {X : Type 0} → LeavesNoMore {X = X} (λ text. Missing Memory)
no_more = record { by = λ text. record { by = λ x taken rest e. absurd (cc) } }

unlimited : Unbounded known no_types no_attr log
unlimited = unbounded known no_types no_attr log no_more no_more

-- up to the first operation of its block
row_turns : Goes known no_types no_attr log (Some (to_come false)) [] [] one_region
    (Some (to_come true)) (an_operation (holder [] (tree.region 0 ∷ [])) ∷ a_region true 16 ∷ a_block false ∷ []) (1 ∷ 19 ∷ 3 ∷ 7 ∷ []) (codes "t.n; t.n }")
unfolding word_at id_at
row_turns =
    let o : OpenOperation (Unit {0}) (Unit {0}) = holder (one 0 ∷ []) [] in
    let f : Open (Unit {0}) (Unit {0}) = an_operation (holder [] (tree.region 0 ∷ [])) in
    goes_trans (operation_begins known no_types no_attr log [] false [] one_region [] o.id (codes "t.h") (codes "{^b():t.n; t.n }") refl [] (codes "{^b():t.n; t.n }") refl)
    (goes_trans (region_begins known no_types no_attr log unlimited o [] (1 ∷ 19 ∷ []) (codes "{^b():t.n; t.n }") 0 [] refl tt (codes "{") (codes "^b():t.n; t.n }") refl)
    (goes_trans (block_begins known no_types no_attr log unlimited true 16 (f ∷ []) (1 ∷ 19 ∷ 3 ∷ []) (codes "^b():t.n; t.n }") refl _ (codes "^b():") (codes "t.n; t.n }") refl)
    (first_operation known no_types no_attr log (f ∷ a_region true 16 ∷ []) (1 ∷ 19 ∷ 3 ∷ 7 ∷ []) (codes "t.n; t.n }") refl)))
