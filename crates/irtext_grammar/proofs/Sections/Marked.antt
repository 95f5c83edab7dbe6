-- A written tree has a mark exactly where its section has an entry, and a tree has one where it does without its places.
use Rattle.std.proofs.Common.{◌≡◌, ℕ, ◌+◌, Bool, true, false, cond, ◌||◌, List, [], ◌∷◌, ◌++◌, Option, Some, None, option_map, refl, ap, ap₂, ◌∙◌}
use Rattle.std.specs.Prelude.{⊤, is_some}
use Rattle.irtext_base.specs.Text.{Text}
use Rattle.irtext_grammar.specs.Grammar.Forest.{Regions, no_regions, region, Blocks, no_blocks, block, Operations, no_operations, operation}
use Rattle.irtext_grammar.specs.Grammar.Tree.{Mark, Attribute, Op, Head, Brace, Tree}
use Rattle.irtext_grammar.specs.Grammar.Bare.{bare_mark, bare_regions, bare_blocks, bare_operations, bare}
use Rattle.irtext_grammar.specs.Graphs.Graph.{Graph, GraphOp, GraphBlock, Printing, is_marked, mark_at, own_marks, tree_regions, tree_blocks, tree_operations, marks_in_regions, marks_in_blocks, marks_in_operations, written, Entry, own_entry, entries_of_regions, entries_of_blocks, entries_of_operations, entries_of, op_outlined, block_outlined}
use Rattle.irtext_grammar.specs.Spelling.SectionEntries.{mark_of}
use Rattle.irtext_grammar.specs.Grammar.Marked.{regions_marked, blocks_marked, operations_marked, marked}

-- whether a list has a member
abbrev pub is_some_list : {X : Type 0} → List X → Bool
is_some_list [] = false
is_some_list (x ∷ xs) = true

either_list : {X : Type 0} (xs ys : List X) → is_some_list (xs ++ ys) ≡ is_some_list xs || is_some_list ys
either_list [] ys = refl
either_list (x ∷ xs) ys = refl

or_assoc : (a b c : Bool) → a || (b || c) ≡ a || b || c
or_assoc true b c = refl
or_assoc false b c = refl

or_turn : (a b : Bool) → a || b ≡ b || a
or_turn true true = refl
or_turn true false = refl
or_turn false true = refl
or_turn false false = refl

module _ {T A : Type 0} (C : Printing T A) where
  own_marked : (n : ℕ) (l : Option Text) (es : List (Text × Attribute A)) → is_some_list (own_entry C l es) ≡ is_some (mark_at C n l es)
  own_marked n l es = go (is_marked C l es)
    where
      go : (b : Bool) → is_some_list {X = Entry C} (cond b (record { location = l; attributes = es } ∷ []) []) ≡ is_some (cond b (Some (mark_of n)) None)
      go true = refl
      go false = refl

  mutual
    regions_written : (n : ℕ) (rs : Regions (GraphOp T A) (GraphBlock T A) ⊤) → is_some_list (entries_of_regions C None rs) ≡ regions_marked (tree_regions C None n rs)
    regions_written n no_regions = refl
    regions_written n (region r bs rs) = either_list (entries_of_blocks C None bs) (entries_of_regions C None rs) ∙ ap₂ ◌||◌ (blocks_written n bs) (regions_written (n + marks_in_blocks C None bs) rs)

    blocks_written : (n : ℕ) (bs : Blocks (GraphOp T A) (GraphBlock T A) ⊤) → is_some_list (entries_of_blocks C None bs) ≡ blocks_marked (tree_blocks C None n bs)
    blocks_written n no_blocks = refl
    blocks_written n (block h os bs) =
        let q = n + own_marks C h.location (block_outlined C h) in
        let x = own_entry C h.location (block_outlined C h) in
        let y = entries_of_operations C None os in
        let z = entries_of_blocks C None bs in
        either_list x (y ++ z) ∙ (ap₂ ◌||◌ (own_marked n h.location (block_outlined C h)) (either_list y z ∙ ap₂ ◌||◌ (operations_written q os) (blocks_written (q + marks_in_operations C None os) bs))
        ∙ or_assoc (is_some (mark_at C n h.location (block_outlined C h))) (operations_marked (tree_operations C None q os)) (blocks_marked (tree_blocks C None (q + marks_in_operations C None os) bs)))

    operations_written : (n : ℕ) (os : Operations (GraphOp T A) (GraphBlock T A) ⊤) → is_some_list (entries_of_operations C None os) ≡ operations_marked (tree_operations C None n os)
    operations_written n no_operations = refl
    operations_written n (operation o rs os) =
        let q = n + marks_in_regions C None rs in
        let w = q + own_marks C o.location (op_outlined C o) in
        let x = entries_of_regions C None rs in
        let y = own_entry C o.location (op_outlined C o) in
        let z = entries_of_operations C None os in
        either_list x (y ++ z) ∙ (ap₂ ◌||◌ (regions_written n rs) (either_list y z ∙ ap₂ ◌||◌ (own_marked q o.location (op_outlined C o)) (operations_written w os))
        ∙ (or_assoc (regions_marked (tree_regions C None n rs)) (is_some (mark_at C q o.location (op_outlined C o))) (operations_marked (tree_operations C None w os))
        ∙ ap (λ b. b || operations_marked (tree_operations C None w os)) (or_turn (regions_marked (tree_regions C None n rs)) (is_some (mark_at C q o.location (op_outlined C o))))))

  -- a written tree has a mark exactly where the graph has an entry
  pub marked_written : (g : Graph T A) → is_some_list (entries_of C None g) ≡ marked (written C None g)
  marked_written g =
      let q = marks_in_regions C None g.regions in
      either_list (entries_of_regions C None g.regions) (own_entry C g.own.location (op_outlined C g.own))
      ∙ (ap₂ ◌||◌ (regions_written 0 g.regions) (own_marked q g.own.location (op_outlined C g.own))
      ∙ or_turn (regions_marked (tree_regions C None 0 g.regions)) (is_some (mark_at C q g.own.location (op_outlined C g.own))))

bare_is_some : {P : Type 0} (m : Option (Mark P)) → is_some (option_map bare_mark m) ≡ is_some m
bare_is_some None = refl
bare_is_some (Some m) = refl

module _ {P T A : Type 0} where
  mutual
    regions_bare : (rs : Regions (Op P T A) (Head P T A) (Brace P)) → regions_marked (bare_regions rs) ≡ regions_marked rs
    regions_bare no_regions = refl
    regions_bare (region b bs rs) = ap₂ ◌||◌ (blocks_bare bs) (regions_bare rs)

    blocks_bare : (bs : Blocks (Op P T A) (Head P T A) (Brace P)) → blocks_marked (bare_blocks bs) ≡ blocks_marked bs
    blocks_bare no_blocks = refl
    blocks_bare (block h os bs) = ap₂ ◌||◌ (ap₂ ◌||◌ (bare_is_some h.mark) (operations_bare os)) (blocks_bare bs)

    operations_bare : (os : Operations (Op P T A) (Head P T A) (Brace P)) → operations_marked (bare_operations os) ≡ operations_marked os
    operations_bare no_operations = refl
    operations_bare (operation o rs os) = ap₂ ◌||◌ (ap₂ ◌||◌ (bare_is_some o.mark) (regions_bare rs)) (operations_bare os)

  -- a tree has a mark exactly where it has one without its places
  pub marked_bare : (t : Tree P T A) → marked (bare t) ≡ marked t
  marked_bare t = ap₂ ◌||◌ (bare_is_some t.own.mark) (regions_bare t.regions)
