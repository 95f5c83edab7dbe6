-- What decides whether a root can be printed: how its operations nest, and of each its id, its attributes, and how many results, operands
-- and successors it has.
use Rattle.std.proofs.Common.{◌≡◌, ◌+◌, ◌⊎◌, inl, inr, ℕ, suc, Bool, true, cond, not, ◌||◌, ◌&&◌, ◌==◌, List, [], ◌∷◌, length, map, Option, None, Some, is_some, refl, sym, ap, ap₂, ◌∙◌, subst}
use Rattle.std.proofs.lemmas.List.{length-map}
use Rattle.std.specs.List.{list_all}
use Rattle.std.specs.Prelude.{⊤}
use Rattle.irtext_base.specs.Text.{Text}
use Rattle.irtext_base.specs.Format as format
use Rattle.irtext_base.specs.Format.{Format, Directive, Id, same_text, has, count, operand_places, successor_places, type_places, region_places, is_operands, is_successors, is_regions, is_dictionary, is_header, keys, sym_name_key}
use Rattle.irtext_grammar.specs.Grammar.Forest.{Regions, no_regions, region, Blocks, no_blocks, block, Operations, no_operations, operation, regions_list}
use Rattle.irtext_grammar.specs.Grammar.Tree.{Attribute, given_names, ident, own}
use Rattle.irtext_grammar.specs.Graphs.Build.{BuiltOp}
use Rattle.irtext_grammar.specs.Graphs.Closed.{FitsCustom, FitsFormat, count_fits, is_ident}
use Rattle.irtext_grammar.specs.Graphs.Graph.{GraphOp, GraphBlock, Printing, lookup, outlined, written_keys}
use Rattle.irtext_grammar.specs.Names.Script.{Place}
use Rattle.irtext_print.specs.declared.printable.refusal.Refusal.{Refusal}
use Rattle.irtext_print.specs.declared.printable.refusal.Refusal.TheVariants.{Memory, Depth, Misfit}
use Rattle.irtext_print_ops.specs.Faults.{OperationFault, RegionsFault, BlocksFault, OperationsFault}
use Rattle.irtext_print_ops.specs.Heads.{no_block}

module _ {T A : Type 0} where
  -- an operation that is seen, without numbers and location
  abbrev pub profile : GraphOp T A → GraphOp T A
  profile o = record {
    id = o.id;
    results = map (λ (r : ℕ × T). (0, r.1)) o.results;
    operands = map (λ (v : ℕ). 0) o.operands;
    successors = map (λ (b : ℕ × ℕ). (0, 0)) o.successors;
    attributes = o.attributes;
    location = None;
  }

  -- one that was built
  abbrev pub built_profile : {X : Type 0} → BuiltOp T A X → GraphOp T A
  built_profile b = record {
    id = b.id;
    results = map (λ (t : T). (0, t)) b.result_types;
    operands = map (λ (p : Option Place). 0) b.operands;
    successors = map (λ (p : Option Place). (0, 0)) b.successors;
    attributes = b.attributes;
    location = None;
  }

  module _ {O B : Type 0} (see : O → GraphOp T A) where
    abbrev mutual
      -- the profiles of the operations in regions
      pub region_profiles : Regions O B ⊤ → Regions (GraphOp T A) (GraphBlock T A) ⊤
      region_profiles no_regions = no_regions
      region_profiles (region r bs rs) = region tt (block_profiles bs) (region_profiles rs)

      -- the same in blocks
      pub block_profiles : Blocks O B ⊤ → Blocks (GraphOp T A) (GraphBlock T A) ⊤
      block_profiles no_blocks = no_blocks
      block_profiles (block b os bs) = block no_block (operation_profiles os) (block_profiles bs)

      -- the same of operations
      pub operation_profiles : Operations O B ⊤ → Operations (GraphOp T A) (GraphBlock T A) ⊤
      operation_profiles no_operations = no_operations
      operation_profiles (operation o rs os) = operation (see o) (region_profiles rs) (operation_profiles os)

    -- there are as many regions
    as_many_regions : (rs : Regions O B ⊤) → length (regions_list (region_profiles rs)) ≡ length (regions_list rs)
    as_many_regions no_regions = refl
    as_many_regions (region r bs rs) = ap suc (as_many_regions rs)

-- what holds of all by one test does by another that gives the same answers
all_same : {X : Type 0} (f g : X → Bool) → ((x : X) → f x ≡ g x) → (xs : List X) → list_all f xs ≡ list_all g xs
all_same f g h [] = refl
all_same f g h (x ∷ xs) = ap₂ ◌&&◌ (h x) (all_same f g h xs)

-- one operation, with so many regions, has as much of everything as another
record AsMuch {T A : Type 0} (o q : GraphOp T A) (n m : ℕ) : Type 0 where
  id : o.id ≡ q.id
  operands : length o.operands ≡ length q.operands
  successors : length o.successors ≡ length q.successors
  results : length o.results ≡ length q.results
  attributes : o.attributes ≡ q.attributes
  regions : n ≡ m

module _ {T A : Type 0} where
  -- an operation and its profile
  profiled : (o : GraphOp T A) (n m : ℕ) → n ≡ m → AsMuch o (profile o) n m
  profiled o n m e = record {
    id = refl;
    operands = sym (length-map o.operands (λ (v : ℕ). 0));
    successors = sym (length-map o.successors (λ (b : ℕ × ℕ). (0, 0)));
    results = sym (length-map o.results (λ (r : ℕ × T). (0, r.1)));
    attributes = refl;
    regions = e;
  }

  -- a profile and its operation
  unprofiled : (o : GraphOp T A) (n m : ℕ) → n ≡ m → AsMuch (profile o) o n m
  unprofiled o n m e = record {
    id = refl;
    operands = length-map o.operands (λ (v : ℕ). 0);
    successors = length-map o.successors (λ (b : ℕ × ℕ). (0, 0));
    results = length-map o.results (λ (r : ℕ × T). (0, r.1));
    attributes = refl;
    regions = e;
  }

  -- ---- what has as much fits the same format
  module _ (C D : Printing T A) (isolated : Id → Bool) (outlines : (a : A) → C.own_outlined a ≡ D.own_outlined a) (formats : (id : Id) → C.format_of id ≡ D.format_of id) where
    outlined_same : (a : Attribute A) → outlined C a ≡ outlined D a
    outlined_same (given_names ns) = refl
    outlined_same (ident n) = refl
    outlined_same (own a) = outlines a

    -- an attribute is printed
    abbrev printed_by : Printing T A → List Directive → Text × Attribute A → Bool
    printed_by E ds e = has same_text e.0 (written_keys E ds) || outlined E e.1

    printed_same : (ds : List Directive) (es : List (Text × Attribute A)) → list_all (printed_by D ds) es ≡ list_all (printed_by C ds) es
    printed_same ds es = all_same (printed_by D ds) (printed_by C ds) (λ e. ap (λ (b : Bool). has same_text e.0 (written_keys C ds) || b) (sym (outlined_same e.1))) es

    custom_fits : (ds : List Directive) (o q : GraphOp T A) (n m : ℕ) → AsMuch o q n m → FitsCustom C isolated ds o n → FitsCustom D isolated ds q m
    custom_fits ds o q n m same h = record {
      operands = subst (λ (k : ℕ). count_fits D isolated (length (operand_places ds)) (count is_operands ds) k ≡ true) same.operands h.operands;
      successors = subst (λ (k : ℕ). count_fits D isolated (length (successor_places ds)) (count is_successors ds) k ≡ true) same.successors h.successors;
      results = subst (λ (k : ℕ). (k == length (type_places ds)) ≡ true) same.results h.results;
      regions = subst (λ (k : ℕ). count_fits D isolated (length (region_places ds)) (count is_regions ds) k ≡ true) same.regions h.regions;
      keys_there = subst (λ (es : List (Text × Attribute A)). list_all (λ k. is_some (lookup k es)) (keys ds) ≡ true) same.attributes h.keys_there;
      symbol = subst (λ (es : List (Text × Attribute A)). ((count is_header ds == 0) || is_ident D isolated (lookup sym_name_key es)) ≡ true) same.attributes h.symbol;
      others_outlined = subst (λ (es : List (Text × Attribute A)). (not (count is_dictionary ds == 0) || list_all (printed_by D ds) es) ≡ true) same.attributes
          (ap (λ (b : Bool). not (count is_dictionary ds == 0) || b) (printed_same ds o.attributes) ∙ h.others_outlined);
    }

    fits : (f : Option Format) (o q : GraphOp T A) (n m : ℕ) → AsMuch o q n m → FitsFormat C isolated f o n → FitsFormat D isolated f q m
    fits None o q n m same h = h
    fits (Some format.canonical) o q n m same h = h
    fits (Some (format.custom ds)) o q n m same h = (h.0, custom_fits ds o q n m same h.1)

    fits_own : (o q : GraphOp T A) (n m : ℕ) → AsMuch o q n m → FitsFormat C isolated (C.format_of o.id) o n → FitsFormat D isolated (D.format_of q.id) q m
    fits_own o q n m same h = subst (λ f. FitsFormat D isolated f q m) (formats o.id ∙ ap D.format_of same.id) (fits (C.format_of o.id) o q n m same h)

  -- ---- what is a reason to fail is one of the profiles, and the other way round
  module _ (C D : Printing T A) (isolated : Id → Bool) (outlines : (a : A) → C.own_outlined a ≡ D.own_outlined a) (formats : (id : Id) → C.format_of id ≡ D.format_of id) (width : ℕ) where
    pub operation_in : (e : Refusal) (o : GraphOp T A) (rs : Regions (GraphOp T A) (GraphBlock T A) ⊤) → OperationFault C isolated width e o rs → OperationFault D isolated width e (profile o) (region_profiles profile rs)
    operation_in (Memory m) o rs h = h
    operation_in Depth o rs h = h
    operation_in Misfit o rs h = λ f. h (fits_own D C isolated (λ a. sym (outlines a)) (λ id. sym (formats id)) (profile o) o (length (regions_list (region_profiles profile rs))) (length (regions_list rs)) (unprofiled o _ _ (as_many_regions profile rs)) f)

    pub operation_out : (e : Refusal) (o : GraphOp T A) (rs : Regions (GraphOp T A) (GraphBlock T A) ⊤) → OperationFault C isolated width e (profile o) (region_profiles profile rs) → OperationFault D isolated width e o rs
    operation_out (Memory m) o rs h = h
    operation_out Depth o rs h = h
    operation_out Misfit o rs h = λ f. h (fits_own D C isolated (λ a. sym (outlines a)) (λ id. sym (formats id)) o (profile o) (length (regions_list rs)) (length (regions_list (region_profiles profile rs))) (profiled o _ _ (sym (as_many_regions profile rs))) f)

    mutual
      pub regions_in : (e : Refusal) (i : ℕ) (rs : Regions (GraphOp T A) (GraphBlock T A) ⊤) → RegionsFault C isolated width e i None rs → RegionsFault D isolated width e i None (region_profiles profile rs)
      regions_in e i no_regions h = h
      regions_in e i (region r bs rs) (inl (shown, inl x)) = inl (refl, inl x)
      regions_in e i (region r bs rs) (inl (shown, inr x)) = inl (refl, inr (blocks_in e (i + width) bs x))
      regions_in e i (region r bs rs) (inr x) = inr (regions_in e i rs x)

      blocks_in : (e : Refusal) (i : ℕ) (bs : Blocks (GraphOp T A) (GraphBlock T A) ⊤) → BlocksFault C isolated width e i None bs → BlocksFault D isolated width e i None (block_profiles profile bs)
      blocks_in e i no_blocks h = h
      blocks_in e i (block b os bs) (inl (inl x)) = inl (inl x)
      blocks_in e i (block b os bs) (inl (inr x)) = inl (inr (operations_in e (i + width) os x))
      blocks_in e i (block b os bs) (inr x) = inr (blocks_in e i bs x)

      operations_in : (e : Refusal) (i : ℕ) (os : Operations (GraphOp T A) (GraphBlock T A) ⊤) → OperationsFault C isolated width e i None os → OperationsFault D isolated width e i None (operation_profiles profile os)
      operations_in e i no_operations h = h
      operations_in e i (operation o rs os) (inl (inl x)) = inl (inl (operation_in e o rs x))
      operations_in e i (operation o rs os) (inl (inr x)) = inl (inr (regions_in e i rs x))
      operations_in e i (operation o rs os) (inr x) = inr (operations_in e i os x)

    mutual
      pub regions_out : (e : Refusal) (i : ℕ) (rs : Regions (GraphOp T A) (GraphBlock T A) ⊤) → RegionsFault C isolated width e i None (region_profiles profile rs) → RegionsFault D isolated width e i None rs
      regions_out e i no_regions h = h
      regions_out e i (region r bs rs) (inl (shown, inl x)) = inl (refl, inl x)
      regions_out e i (region r bs rs) (inl (shown, inr x)) = inl (refl, inr (blocks_out e (i + width) bs x))
      regions_out e i (region r bs rs) (inr x) = inr (regions_out e i rs x)

      blocks_out : (e : Refusal) (i : ℕ) (bs : Blocks (GraphOp T A) (GraphBlock T A) ⊤) → BlocksFault C isolated width e i None (block_profiles profile bs) → BlocksFault D isolated width e i None bs
      blocks_out e i no_blocks h = h
      blocks_out e i (block b os bs) (inl (inl x)) = inl (inl x)
      blocks_out e i (block b os bs) (inl (inr x)) = inl (inr (operations_out e (i + width) os x))
      blocks_out e i (block b os bs) (inr x) = inr (blocks_out e i bs x)

      operations_out : (e : Refusal) (i : ℕ) (os : Operations (GraphOp T A) (GraphBlock T A) ⊤) → OperationsFault C isolated width e i None (operation_profiles profile os) → OperationsFault D isolated width e i None os
      operations_out e i no_operations h = h
      operations_out e i (operation o rs os) (inl (inl x)) = inl (inl (operation_out e o rs x))
      operations_out e i (operation o rs os) (inl (inr x)) = inl (inr (regions_out e i rs x))
      operations_out e i (operation o rs os) (inr x) = inr (operations_out e i os x)
