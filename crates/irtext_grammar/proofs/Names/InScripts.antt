-- What is gathered from a tree's script is what is gathered from the tree, and what holds of the one holds of the other.
use Rattle.std.proofs.Common.{◌≡◌, ℕ, suc, Bool, List, [], ◌∷◌, ◌++◌, refl, sym, ap, ◌∙◌, append_assoc}
use Rattle.std.specs.Prelude.{⊤}
use Rattle.irtext_base.specs.Text.{Text}
use Rattle.irtext_base.specs.Format.{Id}
use Rattle.irtext_grammar.specs.Grammar.Forest.{Regions, no_regions, region, Blocks, no_blocks, block, Operations, no_operations, operation}
use Rattle.irtext_grammar.specs.Spelling.Spellable.{Enough}
use Rattle.irtext_grammar.specs.Grammar.Tree as tree
use Rattle.irtext_grammar.specs.Grammar.Tree.{Piece, Part, Op, Head, Brace, shown, elided, parts_of}
use Rattle.irtext_grammar.specs.Names.Script.{Path, Script, done, within, does_all}
use Rattle.irtext_grammar.specs.Names.Acts.{piece_acts, parts_script, closing_acts, header_acts, operation_script, region_script, region_scripts, blocks_script, operations_script, singles, single_labels, all_of}
use Rattle.irtext_grammar.specs.Names.Resolves.{all_in_regions, all_in_blocks, all_in_operations}
use Rattle.irtext_grammar.proofs.Grammar.Nested.{ShownWith, BlocksWith, OperationsWith}

-- the one holds exactly where the other does
pub record Both (A B : Type 0) : Type 0 where
  pub to : A → B
  pub from : B → A

-- what holds both ways, and then both ways again
pub both_then : {A B C : Type 0} → Both A B → Both B C → Both A C
both_then a b = record { to = λ x. b.to (a.to x); from = λ x. a.from (b.from x) }

-- each region is shown, and the parts of each operation have a place for each of its regions
module _ {P T A : Type 0} where
  -- each operation in the regions has a place for each of its regions
  abbrev pub WholeRegions : Regions (Op P T A) (Head P T A) (Brace P) → Type 0
  WholeRegions rs = ShownWith (λ o rs. Enough (parts_of o.body) rs) rs

  -- each operation in the blocks has
  abbrev pub WholeBlocks : Blocks (Op P T A) (Head P T A) (Brace P) → Type 0
  WholeBlocks bs = BlocksWith (λ o rs. Enough (parts_of o.body) rs) bs

  -- each of the operations has
  abbrev pub WholeOperations : Operations (Op P T A) (Head P T A) (Brace P) → Type 0
  WholeOperations os = OperationsWith (λ o rs. Enough (parts_of o.body) rs) os

-- ---- lists
module _ {P T A X : Type 0} (isolated : Id → Bool) (of_op : Op P T A → List X) (of_head : Head P T A → List X) (outward : Bool → List X → List X) (L : Script Text P → List X)
    (ends : L done ≡ [])
    (pieces : (p : Path) (k l : ℕ) (x : Piece P T A) (then : Script Text P) → L (does_all (piece_acts p k l x) then) ≡ L then)
    (closes : (p : Path) (o : Op P T A) (then : Script Text P) → L (does_all (closing_acts p o) then) ≡ of_op o ++ L then)
    (heads : (p : Path) (h : Head P T A) (then : Script Text P) → L (does_all (header_acts p h) then) ≡ of_head h ++ L then)
    (regions : (iso : Bool) (place : P) (body then : Script Text P) → L (within iso place body then) ≡ outward iso (L body) ++ L then) where
  abbrev R : Bool → Regions (Op P T A) (Head P T A) (Brace P) → List X
  R = all_in_regions isolated of_op of_head outward

  abbrev B : Blocks (Op P T A) (Head P T A) (Brace P) → List X
  B = all_in_blocks isolated of_op of_head outward

  abbrev O : Operations (Op P T A) (Head P T A) (Brace P) → List X
  O = all_in_operations isolated of_op of_head outward

  abbrev Adds : Path → ℕ → Bool → Regions (Op P T A) (Head P T A) (Brace P) → Type 0
  Adds p j iso no_regions = ⊤
  Adds p j iso (region brace bs rs) = ((k : Script Text P) → L (region_script iso brace (blocks_script isolated (j ∷ p) 0 bs) k) ≡ outward iso (B bs) ++ L k) × Adds p (suc j) iso rs

  all_add : (p : Path) (j : ℕ) (iso : Bool) (rs : Regions (Op P T A) (Head P T A) (Brace P)) (then : Script Text P) → Adds p j iso rs → L (all_of (region_scripts isolated p j iso rs) then) ≡ R iso rs ++ L then
  all_add p j iso no_regions then a = refl
  all_add p j iso (region brace bs rs) then a =
      a.0 (all_of (region_scripts isolated p (suc j) iso rs) then) ∙ (ap (λ z. outward iso (B bs) ++ z) (all_add p (suc j) iso rs then a.1) ∙ sym (append_assoc (outward iso (B bs)) (R iso rs) (L then)))

  -- what is gathered of a body's parts
  pub parts_add : (p : Path) (k l : ℕ) (ps : List (Part P T A)) (q : Path) (j : ℕ) (iso : Bool) (rs : Regions (Op P T A) (Head P T A) (Brace P)) (then : Script Text P) → Enough ps rs → Adds q j iso rs
      → L (parts_script p k l ps (region_scripts isolated q j iso rs) then) ≡ R iso rs ++ L then
  parts_add p k l [] q j iso no_regions then e a = refl
  parts_add p k l [] q j iso (region brace bs rs) then e a = absurd e
  parts_add p k l (tree.piece x ∷ ps) q j iso rs then e a = pieces p k l x (parts_script p k l ps (region_scripts isolated q j iso rs) then) ∙ parts_add p k l ps q j iso rs then e a
  parts_add p k l (tree.region i ∷ ps) q j iso no_regions then e a = absurd e
  parts_add p k l (tree.region i ∷ ps) q j iso (region brace bs rs) then e a =
      a.0 (parts_script p k l ps (region_scripts isolated q (suc j) iso rs) then)
      ∙ (ap (λ z. outward iso (B bs) ++ z) (parts_add p k l ps q (suc j) iso rs then e a.1) ∙ sym (append_assoc (outward iso (B bs)) (R iso rs) (L then)))
  parts_add p k l (tree.regions ∷ ps) q j iso rs then e a =
      all_add q j iso rs (parts_script p k l ps [] then) a ∙ ap (λ z. R iso rs ++ z) (parts_add p k l ps q j iso no_regions then e tt)

  -- what is gathered of an operation
  pub operation_adds : (p : Path) (o : Op P T A) (rs : Regions (Op P T A) (Head P T A) (Brace P)) (then : Script Text P) → Enough (parts_of o.body) rs → Adds p 0 (isolated o.id) rs
      → L (operation_script p o (region_scripts isolated p 0 (isolated o.id) rs) then) ≡ (R (isolated o.id) rs ++ of_op o) ++ L then
  operation_adds p o rs then e a =
      parts_add p (singles (parts_of o.body)) (single_labels (parts_of o.body)) (parts_of o.body) p 0 (isolated o.id) rs (does_all (closing_acts p o) then) e a
      ∙ (ap (λ z. R (isolated o.id) rs ++ z) (closes p o then) ∙ sym (append_assoc (R (isolated o.id) rs) (of_op o) (L then)))

  mutual
    -- what is gathered of regions
    pub regions_add : (p : Path) (j : ℕ) (iso : Bool) (rs : Regions (Op P T A) (Head P T A) (Brace P)) → WholeRegions rs → Adds p j iso rs
    regions_add p j iso no_regions w = tt
    regions_add p j iso (region (shown place) bs rs) w =
        (λ k. regions iso place (blocks_script isolated (j ∷ p) 0 bs) k ∙ ap (λ z. outward iso z ++ L k) (blocks_add (j ∷ p) 0 bs w.0), regions_add p (suc j) iso rs w.1)
    regions_add p j iso (region elided bs rs) w = absurd w

    -- what is gathered of blocks
    pub blocks_add : (p : Path) (k : ℕ) (bs : Blocks (Op P T A) (Head P T A) (Brace P)) → WholeBlocks bs → L (blocks_script isolated p k bs) ≡ B bs
    blocks_add p k no_blocks w = ends
    blocks_add p k (block h os bs) w =
        heads (k ∷ p) h (operations_script isolated (k ∷ p) 0 os (blocks_script isolated p (suc k) bs))
        ∙ ap (λ z. of_head h ++ z) (operations_add (k ∷ p) 0 os (blocks_script isolated p (suc k) bs) w.0 ∙ ap (λ z. O os ++ z) (blocks_add p (suc k) bs w.1))

    -- what is gathered of a block's operations
    pub operations_add : (p : Path) (i : ℕ) (os : Operations (Op P T A) (Head P T A) (Brace P)) (then : Script Text P) → WholeOperations os → L (operations_script isolated p i os then) ≡ O os ++ L then
    operations_add p i no_operations then w = refl
    operations_add p i (operation o rs os) then w =
        operation_adds (i ∷ p) o rs (operations_script isolated p (suc i) os then) w.0.0 (regions_add (i ∷ p) 0 (isolated o.id) rs w.0.1)
        ∙ (ap (λ z. (R (isolated o.id) rs ++ of_op o) ++ z) (operations_add p (suc i) os then w.1) ∙ sym (append_assoc (R (isolated o.id) rs ++ of_op o) (O os) (L then)))

-- ---- what holds
module _ {P T A : Type 0} (isolated : Id → Bool) (of_piece : Piece P T A → Type 0) (of_op : Op P T A → Type 0) (of_head : Head P T A → Type 0)
    (inside : Bool → Blocks (Op P T A) (Head P T A) (Brace P) → Type 0 → Type 0) (D : Script Text P → Type 0)
    (ends : D done)
    (pieces : (p : Path) (k l : ℕ) (x : Piece P T A) (then : Script Text P) → Both (D (does_all (piece_acts p k l x) then)) (of_piece x × D then))
    (closes : (p : Path) (o : Op P T A) (then : Script Text P) → Both (D (does_all (closing_acts p o) then)) (of_op o × D then))
    (heads : (p : Path) (h : Head P T A) (then : Script Text P) → Both (D (does_all (header_acts p h) then)) (of_head h × D then))
    (regions : (p : Path) (iso : Bool) (place : P) (bs : Blocks (Op P T A) (Head P T A) (Brace P)) (then : Script Text P) (Q : Type 0) → WholeBlocks bs → Both (D (blocks_script isolated p 0 bs)) Q
    → Both (D (within iso place (blocks_script isolated p 0 bs) then)) (inside iso bs Q × D then)) where
  -- what is required of a body's pieces
  abbrev pub OfParts : List (Part P T A) → Type 0
  OfParts [] = ⊤
  OfParts (tree.piece x ∷ ps) = of_piece x × OfParts ps
  OfParts (_ ∷ ps) = OfParts ps

  abbrev mutual
    -- what is required of regions
    pub OfRegions : Bool → Regions (Op P T A) (Head P T A) (Brace P) → Type 0
    OfRegions iso no_regions = ⊤
    OfRegions iso (region brace bs rs) = inside iso bs (OfBlocks bs) × OfRegions iso rs

    -- what is required of blocks
    pub OfBlocks : Blocks (Op P T A) (Head P T A) (Brace P) → Type 0
    OfBlocks no_blocks = ⊤
    OfBlocks (block h os bs) = of_head h × (OfOperations os × OfBlocks bs)

    -- what is required of operations
    pub OfOperations : Operations (Op P T A) (Head P T A) (Brace P) → Type 0
    OfOperations no_operations = ⊤
    OfOperations (operation o rs os) = (OfParts (parts_of o.body) × (OfRegions (isolated o.id) rs × of_op o)) × OfOperations os

  abbrev Hold : Path → ℕ → Bool → Regions (Op P T A) (Head P T A) (Brace P) → Type 0
  Hold p j iso no_regions = ⊤
  Hold p j iso (region brace bs rs) = ((k : Script Text P) → Both (D (region_script iso brace (blocks_script isolated (j ∷ p) 0 bs) k)) (inside iso bs (OfBlocks bs) × D k)) × Hold p (suc j) iso rs

  all_hold : (p : Path) (j : ℕ) (iso : Bool) (rs : Regions (Op P T A) (Head P T A) (Brace P)) (then : Script Text P) → Hold p j iso rs → Both (D (all_of (region_scripts isolated p j iso rs) then)) (OfRegions iso rs × D then)
  all_hold p j iso no_regions then a = record { to = λ d. (tt, d); from = λ d. d.1 }
  all_hold p j iso (region brace bs rs) then a =
      let r = a.0 (all_of (region_scripts isolated p (suc j) iso rs) then) in
      let s = all_hold p (suc j) iso rs then a.1 in
      record { to = λ d. let x = r.to d in let y = s.to x.1 in ((x.0, y.0), y.1); from = λ d. r.from (d.0.0, s.from (d.0.1, d.1)) }

  -- what holds of the script of a body's parts holds of the parts, and conversely
  pub parts_hold : (p : Path) (k l : ℕ) (ps : List (Part P T A)) (q : Path) (j : ℕ) (iso : Bool) (rs : Regions (Op P T A) (Head P T A) (Brace P)) (then : Script Text P) → Enough ps rs → Hold q j iso rs
      → Both (D (parts_script p k l ps (region_scripts isolated q j iso rs) then)) (OfParts ps × (OfRegions iso rs × D then))
  parts_hold p k l [] q j iso no_regions then e a = record { to = λ d. (tt, (tt, d)); from = λ d. d.1.1 }
  parts_hold p k l [] q j iso (region brace bs rs) then e a = absurd e
  parts_hold p k l (tree.piece x ∷ ps) q j iso rs then e a =
      let r = pieces p k l x (parts_script p k l ps (region_scripts isolated q j iso rs) then) in
      let s = parts_hold p k l ps q j iso rs then e a in
      record { to = λ d. let u = r.to d in let v = s.to u.1 in ((u.0, v.0), v.1); from = λ d. r.from (d.0.0, s.from (d.0.1, d.1)) }
  parts_hold p k l (tree.region i ∷ ps) q j iso no_regions then e a = absurd e
  parts_hold p k l (tree.region i ∷ ps) q j iso (region brace bs rs) then e a =
      let r = a.0 (parts_script p k l ps (region_scripts isolated q (suc j) iso rs) then) in
      let s = parts_hold p k l ps q (suc j) iso rs then e a.1 in
      record { to = λ d. let u = r.to d in let v = s.to u.1 in (v.0, ((u.0, v.1.0), v.1.1)); from = λ d. r.from (d.1.0.0, s.from (d.0, (d.1.0.1, d.1.1))) }
  parts_hold p k l (tree.regions ∷ ps) q j iso rs then e a =
      let r = all_hold q j iso rs (parts_script p k l ps [] then) a in
      let s = parts_hold p k l ps q j iso no_regions then e tt in
      record { to = λ d. let u = r.to d in let v = s.to u.1 in (v.0, (u.0, v.1.1)); from = λ d. r.from (d.1.0, s.from (d.0, (tt, d.1.1))) }

  -- the same of an operation
  pub operation_holds : (p : Path) (o : Op P T A) (rs : Regions (Op P T A) (Head P T A) (Brace P)) (then : Script Text P) → Enough (parts_of o.body) rs → Hold p 0 (isolated o.id) rs
      → Both (D (operation_script p o (region_scripts isolated p 0 (isolated o.id) rs) then)) ((OfParts (parts_of o.body) × (OfRegions (isolated o.id) rs × of_op o)) × D then)
  operation_holds p o rs then e a =
      let r = parts_hold p (singles (parts_of o.body)) (single_labels (parts_of o.body)) (parts_of o.body) p 0 (isolated o.id) rs (does_all (closing_acts p o) then) e a in
      let s = closes p o then in
      record { to = λ d. let u = r.to d in let v = s.to u.1.1 in ((u.0, (u.1.0, v.0)), v.1); from = λ d. r.from (d.0.0, (d.0.1.0, s.from (d.0.1.1, d.1))) }

  mutual
    -- the same of regions
    pub regions_hold : (p : Path) (j : ℕ) (iso : Bool) (rs : Regions (Op P T A) (Head P T A) (Brace P)) → WholeRegions rs → Hold p j iso rs
    regions_hold p j iso no_regions w = tt
    regions_hold p j iso (region (shown place) bs rs) w = (λ k. regions (j ∷ p) iso place bs k (OfBlocks bs) w.0 (blocks_hold (j ∷ p) 0 bs w.0), regions_hold p (suc j) iso rs w.1)
    regions_hold p j iso (region elided bs rs) w = absurd w

    -- the same of blocks
    pub blocks_hold : (p : Path) (k : ℕ) (bs : Blocks (Op P T A) (Head P T A) (Brace P)) → WholeBlocks bs → Both (D (blocks_script isolated p k bs)) (OfBlocks bs)
    blocks_hold p k no_blocks w = record { to = λ d. tt; from = λ d. ends }
    blocks_hold p k (block h os bs) w =
        let r = heads (k ∷ p) h (operations_script isolated (k ∷ p) 0 os (blocks_script isolated p (suc k) bs)) in
        let s = operations_hold (k ∷ p) 0 os (blocks_script isolated p (suc k) bs) w.0 in
        let t = blocks_hold p (suc k) bs w.1 in
        record { to = λ d. let u = r.to d in let v = s.to u.1 in (u.0, (v.0, t.to v.1)); from = λ d. r.from (d.0, s.from (d.1.0, t.from d.1.1)) }

    -- the same of a block's operations
    pub operations_hold : (p : Path) (i : ℕ) (os : Operations (Op P T A) (Head P T A) (Brace P)) (then : Script Text P) → WholeOperations os → Both (D (operations_script isolated p i os then)) (OfOperations os × D then)
    operations_hold p i no_operations then w = record { to = λ d. (tt, d); from = λ d. d.1 }
    operations_hold p i (operation o rs os) then w =
        let r = operation_holds (i ∷ p) o rs (operations_script isolated p (suc i) os then) w.0.0 (regions_hold (i ∷ p) 0 (isolated o.id) rs w.0.1) in
        let s = operations_hold p (suc i) os then w.1 in
        record { to = λ d. let u = r.to d in let v = s.to u.1 in ((u.0, v.0), v.1); from = λ d. r.from (d.0.0, s.from (d.0.1, d.1)) }
