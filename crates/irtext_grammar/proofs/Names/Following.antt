-- What is done then follows: the events of a part and of what comes after it are joined.
use Rattle.std.proofs.Common.{◌≡◌, ℕ, suc, Bool, List, [], ◌∷◌, refl, ap, ◌∙◌}
use Rattle.std.specs.Prelude.{⊤}
use Rattle.irtext_base.specs.Text.{Text}
use Rattle.irtext_grammar.specs.Grammar.Forest.{Regions, no_regions, region}
use Rattle.irtext_grammar.specs.Grammar.Tree as tree
use Rattle.irtext_base.specs.Format.{Id}
use Rattle.irtext_grammar.specs.Grammar.Tree.{Part, Op, Head, Brace, shown, elided, parts_of}
use Rattle.irtext_grammar.specs.Names.Script.{Path, Act, Script, does, does_all, follow}
use Rattle.irtext_grammar.specs.Names.Acts.{piece_acts, all_of, parts_script, closing_acts, operation_script, region_script, region_scripts, blocks_script, singles, single_labels}

module _ {P : Type 0} where
  does_follow : (xs : List (Act Text P)) (x y : Script Text P) → does_all xs (follow x y) ≡ follow (does_all xs x) y
  does_follow [] x y = refl
  does_follow (a ∷ xs) x y = ap (does a) (does_follow xs x y)

  -- a script that follows one of these may be moved inside it
  abbrev pub AllFollow : List (Script Text P → Script Text P) → Type 0
  AllFollow [] = ⊤
  AllFollow (r ∷ rs) = ((x y : Script Text P) → r (follow x y) ≡ follow (r x) y) × AllFollow rs

  all_follow : (rs : List (Script Text P → Script Text P)) (x y : Script Text P) → AllFollow rs → all_of rs (follow x y) ≡ follow (all_of rs x) y
  all_follow [] x y h = refl
  all_follow (r ∷ rs) x y h = ap r (all_follow rs x y h.1) ∙ h.0 (all_of rs x) y

  region_follow : (iso : Bool) (b : Brace P) (body x y : Script Text P) → region_script iso b body (follow x y) ≡ follow (region_script iso b body x) y
  region_follow iso (shown p) body x y = refl
  region_follow iso elided body x y = refl

module _ {P T A : Type 0} where
  parts_follow : (p : Path) (k l : ℕ) (ps : List (Part P T A)) (rs : List (Script Text P → Script Text P)) (x y : Script Text P) → AllFollow rs → parts_script p k l ps rs (follow x y) ≡ follow (parts_script p k l ps rs x) y
  parts_follow p k l [] rs x y h = refl
  parts_follow p k l (tree.piece z ∷ ps) rs x y h = ap (does_all (piece_acts p k l z)) (parts_follow p k l ps rs x y h) ∙ does_follow (piece_acts p k l z) (parts_script p k l ps rs x) y
  parts_follow p k l (tree.region i ∷ ps) [] x y h = parts_follow p k l ps [] x y tt
  parts_follow p k l (tree.region i ∷ ps) (r ∷ rs) x y h = ap r (parts_follow p k l ps rs x y h.1) ∙ h.0 (parts_script p k l ps rs x) y
  parts_follow p k l (tree.regions ∷ ps) rs x y h = ap (all_of rs) (parts_follow p k l ps [] x y tt) ∙ all_follow rs (parts_script p k l ps [] x) y h

  -- a script that follows an operation's script may be moved inside it
  pub operation_follow : (p : Path) (o : Op P T A) (rs : List (Script Text P → Script Text P)) (x y : Script Text P) → AllFollow rs → operation_script p o rs (follow x y) ≡ follow (operation_script p o rs x) y
  operation_follow p o rs x y h =
      ap (parts_script p (singles (parts_of o.body)) (single_labels (parts_of o.body)) (parts_of o.body) rs) (does_follow (closing_acts p o) x y)
      ∙ parts_follow p (singles (parts_of o.body)) (single_labels (parts_of o.body)) (parts_of o.body) rs (does_all (closing_acts p o) x) y h

  module _ (isolated : Id → Bool) where
    -- the same for that of each region
    pub regions_follow : (p : Path) (j : ℕ) (iso : Bool) (rs : Regions (Op P T A) (Head P T A) (Brace P)) → AllFollow (region_scripts isolated p j iso rs)
    regions_follow p j iso no_regions = tt
    regions_follow p j iso (region b bs rs) = ((λ x y. region_follow iso b (blocks_script isolated (j ∷ p) 0 bs) x y), regions_follow p (suc j) iso rs)
