-- What the scopes of a tree's script use, computed from the tree, in any order.
use Rattle.std.proofs.Common.{◌≡◌, ℕ, Bool, true, false, List, [], ◌∷◌, ◌++◌, map, refl, sym, ap, ap₂, ◌∙◌, subst, append-nil}
use Rattle.std.specs.Prelude.{⊤, flat_map}
use Rattle.irtext_base.specs.Text.{Text}
use Rattle.irtext_base.specs.Format.{Id, same_text}
use Rattle.irtext_grammar.specs.Spelling.Spellable.{Each}
use Rattle.irtext_grammar.specs.Grammar.Forest.{Regions, no_regions, region, Blocks, no_blocks, block, Operations, no_operations, operation}
use Rattle.irtext_grammar.specs.Grammar.Tree as tree
use Rattle.irtext_grammar.specs.Grammar.Tree.{Name, Piece, Part, Op, Head, Brace, Tree, parts_of, views}
use Rattle.irtext_grammar.specs.Names.Script.{Path, Act, use_value, Script, done, does, within, does_all}
use Rattle.irtext_grammar.specs.Names.Scopes.{facts}
use Rattle.irtext_grammar.specs.Names.Acts.{piece_acts, closing_acts, header_acts, blocks_script, tree_script, marked_as}
use Rattle.irtext_grammar.specs.Names.Resolves.{texts, all_in_regions, all_in_blocks, all_in_operations, shared, kept_inside, used_values, used_labels}
use Rattle.irtext_grammar.proofs.Names.ResolvedScript.{used}
use Rattle.irtext_grammar.proofs.Names.ActsOfTrees.{act_of, values_in, labels_in, piece_gives, closing_gives, header_gives}
use Rattle.irtext_grammar.proofs.Names.InScripts as scripts
use Rattle.irtext_grammar.proofs.Names.InScripts.{Both, both_then, WholeBlocks, WholeOperations}
use Rattle.irtext_grammar.proofs.Names.TreeLists.{flat_one, flat_none, used_both, none, one, acts_add}
use Rattle.irtext_grammar.proofs.Lists.Each.{each_both, each_left, each_right}

texts_both : {P : Type 0} (ms ns : List (Name P)) → texts (ms ++ ns) ≡ texts ms ++ texts ns
texts_both [] ns = refl
texts_both (m ∷ ms) ns = ap (λ z. m.text ∷ z) (texts_both ms ns)

-- where what is inside counts outside, and where it does not
abbrev pub Unless : Bool → Type 0 → Type 0
Unless true Q = ⊤
Unless false Q = Q

-- nothing is required
abbrev pub Never : Bool → Type 0 → Type 0
Never iso Q = ⊤

module _ {P T A : Type 0} (isolated : Id → Bool) (uv ul : Text → List Text) (in_piece : Piece P T A → List (Name P)) (outward : Bool → List Text → List Text) (inside : Bool → Type 0 → Type 0) (L : Script Text P → List Text)
    (ends : L done ≡ []) (step : (a : Act Text P) (k : Script Text P) → L (does a k) ≡ act_of uv ul none none none a ++ L k)
    (piece_is : (x : Piece P T A) → flat_map uv (texts (values_in x)) ++ flat_map ul (texts (labels_in x)) ≡ texts (in_piece x))
    (Q : Text → Type 0)
    (regions : (iso : Bool) (place : P) (body then : Script Text P) (D : Type 0) → Both (Each Q (L body)) D → Both (Each Q (L (within iso place body then))) (inside iso D × Each Q (L then)))
    (out : (iso : Bool) (xs : List Text) (D : Type 0) → Both D (Each Q xs) → Both (inside iso D) (Each Q (outward iso xs))) where
  acts_ask : (acts : List (Act Text P)) (xs : List Text) (then : Script Text P) → flat_map (act_of uv ul none none none) acts ≡ xs → Both (Each Q (L (does_all acts then))) (Each Q xs × Each Q (L then))
  acts_ask acts xs then e =
      let f : L (does_all acts then) ≡ xs ++ L then = acts_add uv ul none none none L step acts then ∙ ap (λ z. z ++ L then) e in
      record { to = λ d. let k = subst (Each Q) f d in (each_left Q xs (L then) k, each_right Q xs (L then) k); from = λ d. subst (Each Q) (sym f) (each_both Q xs (L then) d.0 d.1) }

  pieces_ask : (p : Path) (k l : ℕ) (x : Piece P T A) (then : Script Text P) → Both (Each Q (L (does_all (piece_acts p k l x) then))) (Each Q (texts (in_piece x)) × Each Q (L then))
  pieces_ask p k l x then = acts_ask (piece_acts p k l x) (texts (in_piece x)) then (piece_gives uv ul none none none p k l x ∙ piece_is x)

  closes_ask : (p : Path) (o : Op P T A) (then : Script Text P) → Both (Each Q (L (does_all (closing_acts p o) then))) (⊤ × Each Q (L then))
  closes_ask p o then = acts_ask (closing_acts p o) [] then (closing_gives uv ul none none none p o ∙ ap₂ ◌++◌ (flat_none (texts o.names)) (flat_none (marked_as o.mark)))

  heads_ask : (p : Path) (h : Head P T A) (then : Script Text P) → Both (Each Q (L (does_all (header_acts p h) then))) (⊤ × Each Q (L then))
  heads_ask p h then = acts_ask (header_acts p h) [] then
      (header_gives uv ul none none none p h ∙ ap₂ ◌++◌ (flat_none (texts (map (λ a. a.0) h.arguments))) (ap (λ z. z ++ []) (flat_none (marked_as h.mark))))

  abbrev S : Bool → Blocks (Op P T A) (Head P T A) (Brace P) → Type 0 → Type 0
  S iso bs D = inside iso D

  within_asks : (p : Path) (iso : Bool) (place : P) (bs : Blocks (Op P T A) (Head P T A) (Brace P)) (then : Script Text P) (D : Type 0) → WholeBlocks bs → Both (Each Q (L (blocks_script isolated p 0 bs))) D
      → Both (Each Q (L (within iso place (blocks_script isolated p 0 bs) then))) (inside iso D × Each Q (L then))
  within_asks p iso place bs then D w b = regions iso place (blocks_script isolated p 0 bs) then D b

  abbrev D : Script Text P → Type 0
  D x = Each Q (L x)

  abbrev OfPiece : Piece P T A → Type 0
  OfPiece x = Each Q (texts (in_piece x))

  start : D done
  start = subst (Each Q) (sym ends) tt

  abbrev OfParts : List (Part P T A) → Type 0
  OfParts ps = scripts.OfParts isolated OfPiece (λ o. ⊤) (λ h. ⊤) S D start pieces_ask closes_ask heads_ask within_asks ps

  abbrev OfRegions : Bool → Regions (Op P T A) (Head P T A) (Brace P) → Type 0
  OfRegions iso rs = scripts.OfRegions isolated OfPiece (λ o. ⊤) (λ h. ⊤) S D start pieces_ask closes_ask heads_ask within_asks iso rs

  abbrev OfBlocks : Blocks (Op P T A) (Head P T A) (Brace P) → Type 0
  OfBlocks bs = scripts.OfBlocks isolated OfPiece (λ o. ⊤) (λ h. ⊤) S D start pieces_ask closes_ask heads_ask within_asks bs

  abbrev OfOperations : Operations (Op P T A) (Head P T A) (Brace P) → Type 0
  OfOperations os = scripts.OfOperations isolated OfPiece (λ o. ⊤) (λ h. ⊤) S D start pieces_ask closes_ask heads_ask within_asks os

  abbrev named : Op P T A → List Text
  named o = texts (views in_piece (parts_of o.body))

  each_two : (xs ys : List Text) {C E : Type 0} → Both C (Each Q xs) → Both E (Each Q ys) → Both (C × E) (Each Q (xs ++ ys))
  each_two xs ys c e = record { to = λ d. each_both Q xs ys (c.to d.0) (e.to d.1); from = λ d. (c.from (each_left Q xs ys d), e.from (each_right Q xs ys d)) }

  parts_named : (ps : List (Part P T A)) → Both (OfParts ps) (Each Q (texts (views in_piece ps)))
  parts_named [] = record { to = λ d. tt; from = λ d. tt }
  parts_named (tree.piece x ∷ ps) =
      let r = each_two (texts (in_piece x)) (texts (views in_piece ps)) (record { to = λ d. d; from = λ d. d }) (parts_named ps) in
      record { to = λ d. subst (Each Q) (sym (texts_both (in_piece x) (views in_piece ps))) (r.to d); from = λ d. r.from (subst (Each Q) (texts_both (in_piece x) (views in_piece ps)) d) }
  parts_named (tree.region i ∷ ps) = parts_named ps
  parts_named (tree.regions ∷ ps) = parts_named ps

  mutual
    regions_named : (iso : Bool) (rs : Regions (Op P T A) (Head P T A) (Brace P)) → Both (OfRegions iso rs) (Each Q (all_in_regions isolated named (λ h. []) outward iso rs))
    regions_named iso no_regions = record { to = λ d. tt; from = λ d. tt }
    regions_named iso (region brace bs rs) =
        each_two (outward iso (all_in_blocks isolated named (λ h. []) outward bs)) (all_in_regions isolated named (λ h. []) outward iso rs) (out iso (all_in_blocks isolated named (λ h. []) outward bs) (OfBlocks bs) (blocks_named bs)) (regions_named iso rs)

    blocks_named : (bs : Blocks (Op P T A) (Head P T A) (Brace P)) → Both (OfBlocks bs) (Each Q (all_in_blocks isolated named (λ h. []) outward bs))
    blocks_named no_blocks = record { to = λ d. tt; from = λ d. tt }
    blocks_named (block h os bs) =
        let r = each_two (all_in_operations isolated named (λ h. []) outward os) (all_in_blocks isolated named (λ h. []) outward bs) (operations_named os) (blocks_named bs) in
        record { to = λ d. r.to d.1; from = λ d. (tt, r.from d) }

    operations_named : (os : Operations (Op P T A) (Head P T A) (Brace P)) → Both (OfOperations os) (Each Q (all_in_operations isolated named (λ h. []) outward os))
    operations_named no_operations = record { to = λ d. tt; from = λ d. tt }
    operations_named (operation o rs os) =
        let r = each_two (all_in_regions isolated named (λ h. []) outward (isolated o.id) rs) (named o) (regions_named (isolated o.id) rs) (parts_named (parts_of o.body)) in
        let t = each_two (all_in_regions isolated named (λ h. []) outward (isolated o.id) rs ++ named o) (all_in_operations isolated named (λ h. []) outward os) r (operations_named os) in
        record { to = λ d. t.to ((d.0.1.0, d.0.0), d.1); from = λ d. let u = t.from d in ((u.0.1, (u.0.0, tt)), u.1) }

  -- what holds of each name that the script of blocks uses holds of each that the blocks use
  pub in_blocks : (p : Path) (k : ℕ) (bs : Blocks (Op P T A) (Head P T A) (Brace P)) → WholeBlocks bs → Both (Each Q (L (blocks_script isolated p k bs))) (Each Q (all_in_blocks isolated named (λ h. []) outward bs))
  in_blocks p k bs w = both_then (scripts.blocks_hold isolated OfPiece (λ o. ⊤) (λ h. ⊤) S D start pieces_ask closes_ask heads_ask within_asks p k bs w) (blocks_named bs)

  -- the same of a root
  pub in_root : (t : Tree P T A) → WholeOperations (operation t.own t.regions no_operations) → Both (Each Q (L (tree_script isolated t done))) (Each Q (all_in_regions isolated named (λ h. []) outward (isolated t.own.id) t.regions ++ named t.own))
  in_root t w =
      let h = scripts.operation_holds isolated OfPiece (λ o. ⊤) (λ h. ⊤) S D start pieces_ask closes_ask heads_ask within_asks [] t.own t.regions done w.0.0 (scripts.regions_hold isolated OfPiece (λ o. ⊤) (λ h. ⊤) S D start pieces_ask closes_ask heads_ask within_asks [] 0 (isolated t.own.id) t.regions w.0.1) in
      let r = each_two (all_in_regions isolated named (λ h. []) outward (isolated t.own.id) t.regions) (named t.own) (regions_named (isolated t.own.id) t.regions) (parts_named (parts_of t.own.body)) in
      record { to = λ d. let u = h.to d in r.to (u.0.1.0, u.0.0); from = λ d. let u = r.from d in h.from ((u.1, (u.0, tt)), start) }

-- ---- values and labels
module _ {P : Type 0} where
  abbrev values_used : Script Text P → List Text
  values_used x = used (facts same_text x).values

  abbrev labels_used : Script Text P → List Text
  labels_used x = used (facts same_text x).labels

  values_step : (a : Act Text P) (k : Script Text P) → values_used (does a k) ≡ act_of one none none none none a ++ values_used k
  values_step (use_value w u) k = refl
  values_step _ k = refl

  labels_step : (a : Act Text P) (k : Script Text P) → labels_used (does a k) ≡ act_of none one none none none a ++ labels_used k
  labels_step (use_value w u) k = refl
  labels_step _ k = refl

  module _ (Q : Text → Type 0) where
    values_regions : (iso : Bool) (place : P) (body then : Script Text P) (D : Type 0) → Both (Each Q (values_used body)) D → Both (Each Q (values_used (within iso place body then))) (Unless iso D × Each Q (values_used then))
    values_regions true place body then D b = record { to = λ d. (tt, d); from = λ d. d.1 }
    values_regions false place body then D b =
        let f = used_both (facts same_text body).values (facts same_text then).values in record {
          to = λ d. let k = subst (Each Q) f d in (b.to (each_left Q (values_used body) (values_used then) k), each_right Q (values_used body) (values_used then) k);
          from = λ d. subst (Each Q) (sym f) (each_both Q (values_used body) (values_used then) (b.from d.0) d.1);
        }

    labels_regions : (iso : Bool) (place : P) (body then : Script Text P) (D : Type 0) → Both (Each Q (labels_used body)) D → Both (Each Q (labels_used (within iso place body then))) (Never iso D × Each Q (labels_used then))
    labels_regions true place body then D b = record { to = λ d. (tt, d); from = λ d. d.1 }
    labels_regions false place body then D b = record { to = λ d. (tt, d); from = λ d. d.1 }

module _ (Q : Text → Type 0) where
  values_out : (iso : Bool) (xs : List Text) (D : Type 0) → Both D (Each Q xs) → Both (Unless iso D) (Each Q (shared iso xs))
  values_out true xs D b = record { to = λ d. tt; from = λ d. tt }
  values_out false xs D b = b

  labels_out : (iso : Bool) (xs : List Text) (D : Type 0) → Both D (Each Q xs) → Both (Never iso D) (Each Q (kept_inside iso xs))
  labels_out iso xs D b = record { to = λ d. tt; from = λ d. tt }

values_piece : {P T A : Type 0} (x : Piece P T A) → flat_map one (texts (values_in x)) ++ flat_map none (texts (labels_in x)) ≡ texts (values_in x)
values_piece x = ap₂ ◌++◌ (flat_one (texts (values_in x))) (flat_none (texts (labels_in x))) ∙ append-nil (texts (values_in x))

labels_piece : {P T A : Type 0} (x : Piece P T A) → flat_map none (texts (values_in x)) ++ flat_map one (texts (labels_in x)) ≡ texts (labels_in x)
labels_piece x = ap₂ ◌++◌ (flat_none (texts (values_in x))) (flat_one (texts (labels_in x)))

module _ {P T A : Type 0} (isolated : Id → Bool) (Q : Text → Type 0) where
  -- what holds of each value that the script of blocks uses holds of each that the blocks use
  pub values_in_blocks : (p : Path) (k : ℕ) (bs : Blocks (Op P T A) (Head P T A) (Brace P)) → WholeBlocks bs → Both (Each Q (values_used (blocks_script isolated p k bs))) (Each Q (all_in_blocks isolated used_values (λ h. []) shared bs))
  values_in_blocks = in_blocks isolated one none values_in shared Unless values_used refl values_step values_piece Q (values_regions Q) (values_out Q)

  -- the same of the values of a root
  pub values_in_root : (t : Tree P T A) → WholeOperations (operation t.own t.regions no_operations) → Both (Each Q (values_used (tree_script isolated t done))) (Each Q (all_in_regions isolated used_values (λ h. []) shared (isolated t.own.id) t.regions ++ used_values t.own))
  values_in_root = in_root isolated one none values_in shared Unless values_used refl values_step values_piece Q (values_regions Q) (values_out Q)

  -- what holds of each label that the script of blocks names holds of each that the blocks name
  pub labels_in_blocks : (p : Path) (k : ℕ) (bs : Blocks (Op P T A) (Head P T A) (Brace P)) → WholeBlocks bs → Both (Each Q (labels_used (blocks_script isolated p k bs))) (Each Q (all_in_blocks isolated used_labels (λ h. []) kept_inside bs))
  labels_in_blocks = in_blocks isolated none one labels_in kept_inside Never labels_used refl labels_step labels_piece Q (labels_regions Q) (labels_out Q)

  -- the same of the labels of a root
  pub labels_in_root : (t : Tree P T A) → WholeOperations (operation t.own t.regions no_operations) → Both (Each Q (labels_used (tree_script isolated t done))) (Each Q (all_in_regions isolated used_labels (λ h. []) kept_inside (isolated t.own.id) t.regions ++ used_labels t.own))
  labels_in_root = in_root isolated none one labels_in kept_inside Never labels_used refl labels_step labels_piece Q (labels_regions Q) (labels_out Q)
