-- What the scopes of a tree's script define and use, and which marks it has, computed from the tree.
use Rattle.std.proofs.Common.{◌≡◌, ℕ, Bool, true, false, List, [], ◌∷◌, ◌++◌, map, refl, sym, ap, ap₂, ◌∙◌, append_assoc, append-nil}
use Rattle.std.specs.Prelude.{flat_map}
use Rattle.irtext_base.specs.Text.{Text}
use Rattle.irtext_base.specs.Format.{Id, same_text}
use Rattle.irtext_grammar.specs.Grammar.Forest.{Blocks, no_operations, operation}
use Rattle.irtext_grammar.specs.Grammar.Tree.{Piece, Op, Head, Brace, Tree}
use Rattle.irtext_grammar.specs.Names.Script.{Path, Act, use_value, Script, done, does, within, does_all}
use Rattle.irtext_grammar.specs.Names.Scopes.{Fact, uses, defines, facts}
use Rattle.irtext_grammar.specs.Names.Acts.{piece_acts, closing_acts, header_acts, blocks_script, tree_script, marked_as}
use Rattle.irtext_grammar.specs.Names.Resolves.{texts, all_in_regions, all_in_blocks, shared, kept_inside, everywhere}
use Rattle.irtext_grammar.proofs.Names.ResolvedScript.{defined, used, defined_both}
use Rattle.irtext_grammar.proofs.Names.ActsOfTrees.{act_of, values_in, labels_in, piece_gives, closing_gives, header_gives}
use Rattle.irtext_grammar.proofs.Names.InScripts as scripts
use Rattle.irtext_grammar.proofs.Names.InScripts.{WholeBlocks, WholeOperations}

-- a list gathered item by item
pub flat_one : {X : Type 0} (xs : List X) → flat_map (λ x. x ∷ []) xs ≡ xs
flat_one [] = refl
flat_one (x ∷ xs) = ap (λ z. x ∷ z) (flat_one xs)

-- nothing gathered of each item is nothing
pub flat_none : {X Y : Type 0} (xs : List X) → (let f : X → List Y = λ x. [] in flat_map f xs ≡ [])
flat_none [] = refl
flat_none (x ∷ xs) = flat_none xs

-- the names that two lists of facts joined use
pub used_both : (fs gs : List (Fact Text)) → used (fs ++ gs) ≡ used fs ++ used gs
used_both [] gs = refl
used_both (uses n u ∷ fs) gs = ap (λ z. n ∷ z) (used_both fs gs)
used_both (defines n p ∷ fs) gs = used_both fs gs

-- nothing, whatever the item
abbrev pub none : {X Y : Type 0} → X → List Y
none x = []

-- the item alone
abbrev pub one : {X : Type 0} → X → List X
one x = x ∷ []

-- ---- lists, act by act
module _ {P X : Type 0} (uv ul dv dl : Text → List X) (mk : ℕ → List X) (L : Script Text P → List X) (step : (a : Act Text P) (k : Script Text P) → L (does a k) ≡ act_of uv ul dv dl mk a ++ L k) where
  -- what is gathered of acts, and then of the script after them
  pub acts_add : (acts : List (Act Text P)) (k : Script Text P) → L (does_all acts k) ≡ flat_map (act_of uv ul dv dl mk) acts ++ L k
  acts_add [] k = refl
  acts_add (a ∷ acts) k = step a (does_all acts k) ∙ (ap (λ z. act_of uv ul dv dl mk a ++ z) (acts_add acts k) ∙ sym (append_assoc (act_of uv ul dv dl mk a) (flat_map (act_of uv ul dv dl mk) acts) (L k)))

module _ {P T A X : Type 0} (isolated : Id → Bool) (dv dl : Text → List X) (mk : ℕ → List X) (of_op : Op P T A → List X) (of_head : Head P T A → List X) (outward : Bool → List X → List X) (L : Script Text P → List X)
    (ends : L done ≡ []) (step : (a : Act Text P) (k : Script Text P) → L (does a k) ≡ act_of none none dv dl mk a ++ L k)
    (regions : (iso : Bool) (place : P) (body then : Script Text P) → L (within iso place body then) ≡ outward iso (L body) ++ L then)
    (op_is : (o : Op P T A) → flat_map dv (texts o.names) ++ flat_map mk (marked_as o.mark) ≡ of_op o)
    (head_is : (h : Head P T A) → flat_map dv (texts (map (λ a. a.0) h.arguments)) ++ (flat_map mk (marked_as h.mark) ++ (dl h.label.text ++ [])) ≡ of_head h) where
  pieces_add : (p : Path) (k l : ℕ) (x : Piece P T A) (then : Script Text P) → L (does_all (piece_acts p k l x) then) ≡ L then
  pieces_add p k l x then = acts_add none none dv dl mk L step (piece_acts p k l x) then
      ∙ ap (λ z. z ++ L then) (piece_gives none none dv dl mk p k l x ∙ ap₂ ◌++◌ (flat_none (texts (values_in x))) (flat_none (texts (labels_in x))))

  closes_add : (p : Path) (o : Op P T A) (then : Script Text P) → L (does_all (closing_acts p o) then) ≡ of_op o ++ L then
  closes_add p o then = acts_add none none dv dl mk L step (closing_acts p o) then ∙ ap (λ z. z ++ L then) (closing_gives none none dv dl mk p o ∙ op_is o)

  heads_add : (p : Path) (h : Head P T A) (then : Script Text P) → L (does_all (header_acts p h) then) ≡ of_head h ++ L then
  heads_add p h then = acts_add none none dv dl mk L step (header_acts p h) then ∙ ap (λ z. z ++ L then) (header_gives none none dv dl mk p h ∙ head_is h)

  in_blocks : (p : Path) (k : ℕ) (bs : Blocks (Op P T A) (Head P T A) (Brace P)) → WholeBlocks bs → L (blocks_script isolated p k bs) ≡ all_in_blocks isolated of_op of_head outward bs
  in_blocks p k bs w = scripts.blocks_add isolated of_op of_head outward L ends pieces_add closes_add heads_add regions p k bs w

  in_root : (t : Tree P T A) → WholeOperations (operation t.own t.regions no_operations) → L (tree_script isolated t done) ≡ all_in_regions isolated of_op of_head outward (isolated t.own.id) t.regions ++ of_op t.own
  in_root t w =
      scripts.operation_adds isolated of_op of_head outward L ends pieces_add closes_add heads_add regions [] t.own t.regions done w.0.0
      (scripts.regions_add isolated of_op of_head outward L ends pieces_add closes_add heads_add regions [] 0 (isolated t.own.id) t.regions w.0.1)
      ∙ (ap (λ z. (all_in_regions isolated of_op of_head outward (isolated t.own.id) t.regions ++ of_op t.own) ++ z) ends ∙ append-nil _)

-- ---- the three lists that keep their order
abbrev pub values_defined : {P : Type 0} → Script Text P → List Text
values_defined x = defined (facts same_text x).values

-- the labels that a script defines
abbrev pub labels_defined : {P : Type 0} → Script Text P → List Text
labels_defined x = defined (facts same_text x).labels

-- the marks of a script
abbrev pub marks_in : {P : Type 0} → Script Text P → List ℕ
marks_in x = (facts same_text x).marks

module _ {P : Type 0} where
  values_step : (a : Act Text P) (k : Script Text P) → values_defined (does a k) ≡ act_of none none one none none a ++ values_defined k
  values_step (use_value w u) k = refl
  values_step _ k = refl

  values_regions : (iso : Bool) (place : P) (body then : Script Text P) → values_defined (within iso place body then) ≡ shared iso (values_defined body) ++ values_defined then
  values_regions true place body then = refl
  values_regions false place body then = defined_both (facts same_text body).values (facts same_text then).values

  labels_step : (a : Act Text P) (k : Script Text P) → labels_defined (does a k) ≡ act_of none none none one none a ++ labels_defined k
  labels_step = elim [ use_value w u ↦ λ k. refl | _ ↦ λ k. refl ]

  labels_regions : (iso : Bool) (place : P) (body then : Script Text P) → labels_defined (within iso place body then) ≡ kept_inside iso (labels_defined body) ++ labels_defined then
  labels_regions = elim [ true ↦ λ place body then. refl | false ↦ λ place body then. refl ]

  marks_step : (a : Act Text P) (k : Script Text P) → marks_in (does a k) ≡ act_of none none none none one a ++ marks_in k
  marks_step = elim [ use_value w u ↦ λ k. refl | _ ↦ λ k. refl ]

  marks_regions : (iso : Bool) (place : P) (body then : Script Text P) → marks_in (within iso place body then) ≡ everywhere iso (marks_in body) ++ marks_in then
  marks_regions = elim [ true ↦ λ place body then. refl | false ↦ λ place body then. refl ]

values_op : {P T A : Type 0} (o : Op P T A) → flat_map one (texts o.names) ++ flat_map none (marked_as o.mark) ≡ texts o.names
values_op o = ap₂ ◌++◌ (flat_one (texts o.names)) (flat_none (marked_as o.mark)) ∙ append-nil (texts o.names)

values_head : {P T A : Type 0} (h : Head P T A) → flat_map one (texts (map (λ a. a.0) h.arguments)) ++ (flat_map none (marked_as h.mark) ++ ([] ++ [])) ≡ texts (map (λ a. a.0) h.arguments)
values_head h = ap₂ ◌++◌ (flat_one (texts (map (λ a. a.0) h.arguments))) (ap (λ z. z ++ []) (flat_none (marked_as h.mark))) ∙ append-nil (texts (map (λ a. a.0) h.arguments))

labels_op : {P T A : Type 0} (o : Op P T A) → (let f : Text → List Text = none in let g : ℕ → List Text = none in flat_map f (texts o.names) ++ flat_map g (marked_as o.mark) ≡ [])
labels_op o = ap₂ ◌++◌ (flat_none (texts o.names)) (flat_none (marked_as o.mark))

labels_head : {P T A : Type 0} (h : Head P T A) → flat_map none (texts (map (λ a. a.0) h.arguments)) ++ (flat_map none (marked_as h.mark) ++ (h.label.text ∷ [])) ≡ h.label.text ∷ []
labels_head h = ap₂ ◌++◌ (flat_none (texts (map (λ a. a.0) h.arguments))) (ap (λ z. z ++ (h.label.text ∷ [])) (flat_none (marked_as h.mark)))

marks_op : {P T A : Type 0} (o : Op P T A) → flat_map none (texts o.names) ++ flat_map one (marked_as o.mark) ≡ marked_as o.mark
marks_op o = ap₂ ◌++◌ (flat_none (texts o.names)) (flat_one (marked_as o.mark))

marks_head : {P T A : Type 0} (h : Head P T A) → flat_map none (texts (map (λ a. a.0) h.arguments)) ++ (flat_map one (marked_as h.mark) ++ ([] ++ [])) ≡ marked_as h.mark
marks_head h = ap₂ ◌++◌ (flat_none (texts (map (λ a. a.0) h.arguments))) (append-nil (flat_map one (marked_as h.mark)) ∙ flat_one (marked_as h.mark))

module _ {P T A : Type 0} (isolated : Id → Bool) where
  -- the values that the script of blocks defines are those of the blocks
  pub values_in_blocks : (p : Path) (k : ℕ) (bs : Blocks (Op P T A) (Head P T A) (Brace P)) → WholeBlocks bs
      → values_defined (blocks_script isolated p k bs) ≡ all_in_blocks isolated (λ o. texts o.names) (λ h. texts (map (λ a. a.0) h.arguments)) shared bs
  values_in_blocks = in_blocks isolated one none none _ _ shared values_defined refl values_step values_regions values_op values_head

  -- the values that a root's script defines are those of the root
  pub values_in_root : (t : Tree P T A) → WholeOperations (operation t.own t.regions no_operations)
      → values_defined (tree_script isolated t done) ≡ all_in_regions isolated (λ o. texts o.names) (λ h. texts (map (λ a. a.0) h.arguments)) shared (isolated t.own.id) t.regions ++ texts t.own.names
  values_in_root = in_root isolated one none none _ _ shared values_defined refl values_step values_regions values_op values_head

  -- the labels that the script of blocks defines are those of the blocks
  pub labels_in_blocks : (p : Path) (k : ℕ) (bs : Blocks (Op P T A) (Head P T A) (Brace P)) → WholeBlocks bs
      → labels_defined (blocks_script isolated p k bs) ≡ all_in_blocks isolated (λ o. []) (λ h. h.label.text ∷ []) kept_inside bs
  labels_in_blocks = in_blocks isolated none one none _ _ kept_inside labels_defined refl labels_step labels_regions labels_op labels_head

  -- the labels that a root's script defines are those of the root
  pub labels_in_root : (t : Tree P T A) → WholeOperations (operation t.own t.regions no_operations)
      → labels_defined (tree_script isolated t done) ≡ all_in_regions isolated (λ o. []) (λ h. h.label.text ∷ []) kept_inside (isolated t.own.id) t.regions ++ []
  labels_in_root = in_root isolated none one none _ _ kept_inside labels_defined refl labels_step labels_regions labels_op labels_head

  -- the marks of a root's script are those of the root
  pub marks_in_root : (t : Tree P T A) → WholeOperations (operation t.own t.regions no_operations)
      → marks_in (tree_script isolated t done) ≡ all_in_regions isolated (λ o. marked_as o.mark) (λ h. marked_as h.mark) everywhere (isolated t.own.id) t.regions ++ marked_as t.own.mark
  marks_in_root = in_root isolated none none one _ _ everywhere marks_in refl marks_step marks_regions marks_op marks_head
