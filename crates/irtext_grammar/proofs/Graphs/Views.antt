-- The operands, successors and result types of what is written of an operation that fits are the operation's.
use Rattle.std.proofs.Common.{◌≡◌, ℕ, zero, suc, Bool, true, cond, not, ◌==◌, nat_lt, List, [], ◌∷◌, ◌++◌, map, take, drop, length, filter_map, slice_get, Option, Some, None, is_some, option_map, option_and_then, refl, sym, ap, ap₂, ◌∙◌, subst, true≢false, append-nil, arith}
use Rattle.std.specs.Prelude.{⊤}
use Rattle.std.specs.List.{cons_option}
use Rattle.std.proofs.lemmas.Bool.Decides.{nat_tests}
use Rattle.std.proofs.lemmas.List.{take-append-drop}
use Rattle.irtext_base.specs.Format as format
use Rattle.irtext_base.specs.Format.{Format, Directive, count, operand_places, successor_places, type_places, sym_name_key, are_places, is_operands, is_successors, Id}
use Rattle.irtext_grammar.specs.Grammar.Tree as tree
use Rattle.irtext_grammar.specs.Grammar.Tree.{Name, Attribute, given_names, ident, own, Piece, Part, views, in_order, operand_names, successor_labels}
use Rattle.irtext_grammar.specs.Graphs.Graph.{Printing, GraphOp, value, target, part_of, body_of, tree_op, outlined, lookup}
use Rattle.irtext_grammar.specs.Names.Acts.{result_types}
use Rattle.irtext_grammar.specs.Graphs.Closed.{FitsCustom, FitsFormat}
use Rattle.irtext_grammar.proofs.Graphs.Fits.{Fits}
use Rattle.irtext_grammar.proofs.Graphs.FitsFormat.{Meets, meets, and_left, and_right, asked, custom_asks, no_less}
use Rattle.irtext_grammar.proofs.Lists.InOrder.{AllFrom, firsts, firsts_length, in_order_front}
use Rattle.irtext_grammar.proofs.Lists.SameText.{same_character}

abbrev times : {X : Type 0} → ℕ → List X → List X
times zero xs = []
times (suc n) xs = xs ++ times n xs

got_map : {X Y : Type 0} (F : X → Y) (xs : List X) (i : ℕ) (x : X) → slice_get xs i ≡ Some x → slice_get (map F xs) i ≡ Some (F x)
got_map F [] zero x e = cc
got_map F [] (suc i) x e = cc
got_map F (y ∷ xs) zero x e = cc
got_map F (y ∷ xs) (suc i) x e = got_map F xs i x e

length_mapped : {X Y : Type 0} (F : X → Y) (xs : List X) → length (map F xs) ≡ length xs
length_mapped F [] = refl
length_mapped F (x ∷ xs) = ap suc (length_mapped F xs)

take_mapped : {X Y : Type 0} (F : X → Y) (n : ℕ) (xs : List X) → take n (map F xs) ≡ map F (take n xs)
take_mapped F zero xs = refl
take_mapped F (suc n) [] = refl
take_mapped F (suc n) (x ∷ xs) = ap (λ z. F x ∷ z) (take_mapped F n xs)

take_all : {X : Type 0} (xs : List X) → take (length xs) xs ≡ xs
take_all [] = refl
take_all (x ∷ xs) = ap (λ z. x ∷ z) (take_all xs)

map_joined : {X Y : Type 0} (F : X → Y) (xs ys : List X) → map F xs ++ map F ys ≡ map F (xs ++ ys)
map_joined F [] ys = refl
map_joined F (x ∷ xs) ys = ap (λ z. F x ∷ z) (map_joined F xs ys)

module _ {T A : Type 0} where
  skip : {X Y : Type 0} (view : Piece ⊤ T A → List X) (F : Y → Piece ⊤ T A) → ((y : Y) → view (F y) ≡ []) → (o : Option Y) (qs : List (Part ⊤ T A))
      → views view (cons_option (option_map (λ y. tree.piece (F y)) o) qs) ≡ views view qs
  skip view F h None qs = refl
  skip view F h (Some y) qs = ap (λ z. z ++ views view qs) (h y)

  skip_header : {X : Type 0} (view : Piece ⊤ T A → List X) → ((n : Name ⊤) → view (tree.header n) ≡ []) → (x : Option (Attribute A)) (qs : List (Part ⊤ T A))
      → views view (cons_option (option_and_then (λ a. elim a [ ident n ↦ Some (tree.piece (tree.header (record { place = tt; text = n }))) | _ ↦ None ]) x) qs) ≡ views view qs
  skip_header view h None qs = refl
  skip_header view h (Some (given_names ns)) qs = refl
  skip_header view h (Some (ident n)) qs = ap (λ z. z ++ views view qs) (h (record { place = tt; text = n }))
  skip_header view h (Some (own x)) qs = refl

module _ {T A : Type 0} (C : Printing T A) where
  -- a view sees nothing of the part of a directive
  abbrev Blind : {X : Type 0} → (Piece ⊤ T A → List X) → Directive → Type 0
  Blind view (format.word s) = (x : ⊤) → view (tree.word s) ≡ []
  Blind view (format.operand i) = (n : Name ⊤) → view (tree.operand i n) ≡ []
  Blind view format.operands = (ns : List (Name ⊤)) → view (tree.operands ns) ≡ []
  Blind view (format.successor i) = (n : Name ⊤) → view (tree.successor i n) ≡ []
  Blind view format.successors = (ns : List (Name ⊤)) → view (tree.successors ns) ≡ []
  Blind view (format.attribute k) = (a : Option (Attribute A)) → view (tree.attribute k a) ≡ []
  Blind view format.dictionary = (es : List (Name ⊤ × Attribute A)) → view (tree.dictionary es) ≡ []
  Blind view (format.result_type i) = (x : T) → view (tree.result_type i x) ≡ []
  Blind view format.header = (n : Name ⊤) → view (tree.header n) ≡ []
  Blind view _ = (x : ⊤) → x ≡ x

  -- the part of a directive that the view does not see adds nothing to the view
  unseen : {X : Type 0} (view : Piece ⊤ T A → List X) (ds : List Directive) (o : GraphOp T A) (d : Directive) → Blind view d → (qs : List (Part ⊤ T A)) → views view (cons_option (part_of C ds o d) qs) ≡ views view qs
  unseen view ds o (format.word s) b qs = ap (λ z. z ++ views view qs) (b tt)
  unseen view ds o (format.operand i) b qs = skip view (λ v. tree.operand i (value C v)) (λ v. b (value C v)) (slice_get o.operands i) qs
  unseen view ds o format.operands b qs = ap (λ z. z ++ views view qs) (b _)
  unseen view ds o (format.successor i) b qs = skip view (λ c. tree.successor i (target C c)) (λ c. b (target C c)) (slice_get o.successors i) qs
  unseen view ds o format.successors b qs = ap (λ z. z ++ views view qs) (b _)
  unseen view ds o (format.attribute k) b qs = skip view (λ a. tree.attribute k (cond (outlined C a) None (Some a))) (λ a. b (cond (outlined C a) None (Some a))) (lookup k o.attributes) qs
  unseen view ds o format.dictionary b qs = ap (λ z. z ++ views view qs) (b _)
  unseen view ds o (format.result_type i) b qs = skip view (λ r. tree.result_type i r.1) (λ r. b r.1) (slice_get o.results i) qs
  unseen view ds o format.header b qs = skip_header view b (lookup sym_name_key o.attributes) qs
  unseen view ds o _ b qs = refl

  -- an item that a directive places, before those that other directives place
  placed : {X Y : Type 0} (F : X → Y) (G : Y → Piece ⊤ T A) (view : Piece ⊤ T A → List (ℕ × Y)) (xs : List X) (i : ℕ) → ((x : X) → view (G (F x)) ≡ (i, F x) ∷ []) → (ks : List ℕ) (qs : List (Part ⊤ T A))
      → (let r : Option (Part ⊤ T A) = option_map (λ x. tree.piece (G (F x))) (slice_get xs i) in is_some r) ≡ true → (firsts (views view qs) ≡ ks) × AllFrom (map F xs) (views view qs)
      → (let all = views view (cons_option (option_map (λ x. tree.piece (G (F x))) (slice_get xs i)) qs) in (firsts all ≡ i ∷ ks) × AllFrom (map F xs) all)
  placed F G view xs i sees ks qs s h = go (slice_get xs i) refl s
    where
      go : (x : Option _) → slice_get xs i ≡ x → (let r : Option (Part ⊤ T A) = option_map (λ x. tree.piece (G (F x))) x in is_some r) ≡ true
          → (let all = views view (cons_option (option_map (λ x. tree.piece (G (F x))) x) qs) in (firsts all ≡ i ∷ ks) × AllFrom (map F xs) all)
      go None e s = absurd (true≢false (sym s))
      go (Some x) e s = subst (λ es. (firsts (es ++ views view qs) ≡ i ∷ ks) × AllFrom (map F xs) (es ++ views view qs)) (sym (sees x)) (ap (λ z. i ∷ z) h.0, (got_map F xs i x e, h.1))

  operand_singles : (ds : List Directive) (o : GraphOp T A) (rest : List Directive) → Fits C ds o rest
      → (let es : List (ℕ × Name ⊤) = views (λ p. elim p [ tree.operand i n ↦ (i, n) ∷ [] | _ ↦ [] ]) (filter_map (part_of C ds o) rest) in (firsts es ≡ operand_places rest) × AllFrom (map (value C) o.operands) es)
  operand_singles ds o [] f = (refl, tt)
  operand_singles ds o (format.operand i ∷ rest) f = placed (value C) (tree.operand i) (λ p. elim p [ tree.operand i n ↦ (i, n) ∷ [] | _ ↦ [] ]) o.operands i (λ x. refl) (operand_places rest) (filter_map (part_of C ds o) rest) f.0 (operand_singles ds o rest f.1)
  operand_singles ds o (d ∷ rest) f = subst (λ es. (firsts es ≡ operand_places rest) × AllFrom (map (value C) o.operands) es) (sym (unseen (λ p. elim p [ tree.operand i n ↦ (i, n) ∷ [] | _ ↦ [] ]) ds o d (λ x. refl) (filter_map (part_of C ds o) rest))) (operand_singles ds o rest f.1)

  result_singles : (ds : List Directive) (o : GraphOp T A) (rest : List Directive) → Fits C ds o rest
      → (let es : List (ℕ × T) = views (λ p. elim p [ tree.result_type i x ↦ (i, x) ∷ [] | _ ↦ [] ]) (filter_map (part_of C ds o) rest) in (firsts es ≡ type_places rest) × AllFrom (map (λ (r : ℕ × T). r.1) o.results) es)
  result_singles ds o [] f = (refl, tt)
  result_singles ds o (format.result_type i ∷ rest) f = placed (λ (r : ℕ × T). r.1) (tree.result_type i) (λ p. elim p [ tree.result_type i x ↦ (i, x) ∷ [] | _ ↦ [] ]) o.results i (λ x. refl) (type_places rest) (filter_map (part_of C ds o) rest) f.0 (result_singles ds o rest f.1)
  result_singles ds o (d ∷ rest) f = subst (λ es. (firsts es ≡ type_places rest) × AllFrom (map (λ (r : ℕ × T). r.1) o.results) es) (sym (unseen (λ p. elim p [ tree.result_type i x ↦ (i, x) ∷ [] | _ ↦ [] ]) ds o d (λ x. refl) (filter_map (part_of C ds o) rest))) (result_singles ds o rest f.1)

  successor_singles : (ds : List Directive) (o : GraphOp T A) (rest : List Directive) → Fits C ds o rest
      → (let es : List (ℕ × Name ⊤) = views (λ p. elim p [ tree.successor i n ↦ (i, n) ∷ [] | _ ↦ [] ]) (filter_map (part_of C ds o) rest) in (firsts es ≡ successor_places rest) × AllFrom (map (target C) o.successors) es)
  successor_singles ds o [] f = (refl, tt)
  successor_singles ds o (format.successor i ∷ rest) f = placed (target C) (tree.successor i) (λ p. elim p [ tree.successor i n ↦ (i, n) ∷ [] | _ ↦ [] ]) o.successors i (λ x. refl) (successor_places rest) (filter_map (part_of C ds o) rest) f.0 (successor_singles ds o rest f.1)
  successor_singles ds o (d ∷ rest) f = subst (λ es. (firsts es ≡ successor_places rest) × AllFrom (map (target C) o.successors) es) (sym (unseen (λ p. elim p [ tree.successor i n ↦ (i, n) ∷ [] | _ ↦ [] ]) ds o d (λ x. refl) (filter_map (part_of C ds o) rest))) (successor_singles ds o rest f.1)

  operand_lists : (ds : List Directive) (o : GraphOp T A) (rest : List Directive) → views (λ p. elim p [ tree.operands ns ↦ ns | _ ↦ [] ]) (filter_map (part_of C ds o) rest) ≡ times (count is_operands rest) (map (value C) (drop (length (operand_places ds)) o.operands))
  operand_lists ds o [] = refl
  operand_lists ds o (format.operands ∷ rest) = ap (λ z. map (value C) (drop (length (operand_places ds)) o.operands) ++ z) (operand_lists ds o rest)
  operand_lists ds o (d ∷ rest) = unseen (λ p. elim p [ tree.operands ns ↦ ns | _ ↦ [] ]) ds o d (λ x. refl) (filter_map (part_of C ds o) rest) ∙ operand_lists ds o rest

  successor_lists : (ds : List Directive) (o : GraphOp T A) (rest : List Directive) → views (λ p. elim p [ tree.successors ns ↦ ns | _ ↦ [] ]) (filter_map (part_of C ds o) rest) ≡ times (count is_successors rest) (map (target C) (drop (length (successor_places ds)) o.successors))
  successor_lists ds o [] = refl
  successor_lists ds o (format.successors ∷ rest) = ap (λ z. map (target C) (drop (length (successor_places ds)) o.successors) ++ z) (successor_lists ds o rest)
  successor_lists ds o (d ∷ rest) = unseen (λ p. elim p [ tree.successors ns ↦ ns | _ ↦ [] ]) ds o d (λ x. refl) (filter_map (part_of C ds o) rest) ∙ successor_lists ds o rest

  -- the front of a list and the rest of it, where there is a list directive; else the front is all of it
  front_and_rest : {X Y : Type 0} (F : X → Y) (K lists : ℕ) (xs : List X) → nat_lt lists 2 ≡ true → cond (lists == 0) (length xs == K) (not (nat_lt (length xs) K)) ≡ true
      → take K (map F xs) ++ times lists (map F (drop K xs)) ≡ map F xs
  front_and_rest F K zero xs few e = append-nil (take K (map F xs)) ∙ (take_mapped F K xs ∙ ap (map F) (whole (length xs == K) refl e))
    where
      whole : (b : Bool) → (length xs == K) ≡ b → cond (0 == 0) (length xs == K) (not (nat_lt (length xs) K)) ≡ true → take K xs ≡ xs
      whole b i e = let k : length xs ≡ K = same_character (length xs) K e in subst (λ n. take n xs ≡ xs) k (take_all xs)
  front_and_rest F K (suc zero) xs few e =
      ap₂ ◌++◌ (take_mapped F K xs) (append-nil (map F (drop K xs))) ∙ (map_joined F (take K xs) (drop K xs) ∙ ap (map F) (take-append-drop K xs))
  front_and_rest F K (suc (suc n)) xs few e = absurd (many n few)
    where
      many : (n : ℕ) → nat_lt (suc (suc n)) 2 ≡ true → ⊥
      many n e = grind (arith, nat_tests)

  -- items at the places of single directives, and the rest of them where there is a list directive, are all in order
  singles_and_list : {X Y : Type 0} (F : X → Y) (xs : List X) (places : List ℕ) (lists : ℕ) (es : List (ℕ × Y)) (ls : List Y) → are_places places ≡ true → nat_lt lists 2 ≡ true
      → cond (lists == 0) (length xs == length places) (not (nat_lt (length xs) (length places))) ≡ true → (firsts es ≡ places) × AllFrom (map F xs) es → ls ≡ times lists (map F (drop (length places) xs)) → in_order es ++ ls ≡ map F xs
  singles_and_list F xs places lists es ls p few e s l =
      let k : length es ≡ length places = sym (firsts_length es) ∙ ap length s.0 in
      let low = no_less (length places) 0 (length xs) (lists == 0) e in
      let q = length_mapped F xs in
      ap₂ ◌++◌ (in_order_front (map F xs) es (subst (λ z. are_places z ≡ true) (sym s.0) p) s.1 (omega arith) ∙ ap (λ z. take z (map F xs)) k) l
      ∙ front_and_rest F (length places) lists xs few e

  module _ (isolated : Id → Bool) (ds : List Directive) (o : GraphOp T A) (n : ℕ) (m : Meets ds) (f : FitsCustom C isolated ds o n) where
    -- the operands that are written are the operation's, in order
    pub operands_back : in_order (views (λ p. elim p [ tree.operand i n ↦ (i, n) ∷ [] | _ ↦ [] ]) (filter_map (part_of C ds o) ds)) ++ views (λ p. elim p [ tree.operands ns ↦ ns | _ ↦ [] ]) (filter_map (part_of C ds o) ds) ≡ map (value C) o.operands
    operands_back =
        singles_and_list (value C) o.operands (operand_places ds) (count is_operands ds) _ _ (and_left (are_places (operand_places ds)) (nat_lt (count is_operands ds) 2) m.second) (and_right (are_places (operand_places ds)) (nat_lt (count is_operands ds) 2) m.second)
        f.operands (operand_singles ds o ds (asked C ds o ds (custom_asks C isolated ds o n m f))) (operand_lists ds o ds)

    -- the successors that are written are the operation's, in order
    pub successors_back : in_order (views (λ p. elim p [ tree.successor i n ↦ (i, n) ∷ [] | _ ↦ [] ]) (filter_map (part_of C ds o) ds)) ++ views (λ p. elim p [ tree.successors ns ↦ ns | _ ↦ [] ]) (filter_map (part_of C ds o) ds) ≡ map (target C) o.successors
    successors_back =
        singles_and_list (target C) o.successors (successor_places ds) (count is_successors ds) _ _ (and_left (are_places (successor_places ds)) (nat_lt (count is_successors ds) 2) m.third) (and_right (are_places (successor_places ds)) (nat_lt (count is_successors ds) 2) m.third)
        f.successors (successor_singles ds o ds (asked C ds o ds (custom_asks C isolated ds o n m f))) (successor_lists ds o ds)

    -- the result types that are written are the operation's, in order
    pub results_back : in_order (views (λ p. elim p [ tree.result_type i x ↦ (i, x) ∷ [] | _ ↦ [] ]) (filter_map (part_of C ds o) ds)) ≡ map (λ (r : ℕ × T). r.1) o.results
    results_back =
        let es = views (λ p. elim p [ tree.result_type i x ↦ (i, x) ∷ [] | _ ↦ [] ]) (filter_map (part_of C ds o) ds) in
        let s = result_singles ds o ds (asked C ds o ds (custom_asks C isolated ds o n m f)) in
        let xs = map (λ (r : ℕ × T). r.1) o.results in
        let k : length es ≡ length (type_places ds) = sym (firsts_length es) ∙ ap length s.0 in
        let q : length o.results ≡ length (type_places ds) = same_character (length o.results) (length (type_places ds)) f.results in
        let l : length xs ≡ length o.results = length_mapped (λ (r : ℕ × T). r.1) o.results in
        in_order_front xs es (subst (λ z. are_places z ≡ true) (sym s.0) m.fourth) s.1 (omega arith)
        ∙ (ap (λ z. take z xs) (k ∙ (sym q ∙ sym l)) ∙ take_all xs)

  module _ (isolated : Id → Bool) (o : GraphOp T A) (n : ℕ) where
    -- of an operation in any format that it fits
    pub names_back : (k : ℕ) (f : Option Format) → C.format_of o.id ≡ f → FitsFormat C isolated f o n
        → (operand_names (record (tree_op C k o) { body = body_of C o f }) ≡ map (value C) o.operands)
        × (successor_labels (record (tree_op C k o) { body = body_of C o f }) ≡ map (target C) o.successors)
        × (result_types (body_of C o f) ≡ map (λ (r : ℕ × T). r.1) o.results)
    names_back k None e x = absurd x
    names_back k (Some format.canonical) e x = (append-nil (map (value C) o.operands), append-nil (map (target C) o.successors), refl)
    names_back k (Some (format.custom ds)) e x =
        let m = meets ds x.0 in
        (operands_back isolated ds o n m x.1, successors_back isolated ds o n m x.1, results_back isolated ds o n m x.1)
