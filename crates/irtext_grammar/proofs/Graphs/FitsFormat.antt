-- What follows where an operation fits its format: each directive has its part, and the parts are those of the format.
use Rattle.std.proofs.Common.{◌≡◌, ℕ, suc, ◌<◌, ◌≤◌, Bool, true, false, cond, not, ◌&&◌, ◌||◌, ◌==◌, nat_lt, if◌then◌else◌, List, [], ◌∷◌, map, length, filter_map, slice_get, Option, Some, None, is_some, option_map, option_and_then, refl, sym, ap, ap₂, ◌∙◌, true≢false, arith}
use Rattle.std.specs.Prelude.{⊤}
use Rattle.std.proofs.lemmas.Bool.Decides.{nat_tests}
use Rattle.std.proofs.lemmas.Option.{slice_get-get_or}
use Rattle.std.specs.List.{list_all}
use Rattle.irtext_base.specs.Format as format
use Rattle.irtext_base.specs.Format.{Directive, count, keys, operand_places, successor_places, type_places, is_header, sym_name_key, are_places, distinct, c1, c2, c3, c4, c5, c6, c7, c8, is_operands, is_successors, first_fault, Id}
use Rattle.irtext_grammar.specs.Grammar.Tree as tree
use Rattle.irtext_grammar.specs.Grammar.Tree.{Attribute, given_names, ident, own, Part, directive}
use Rattle.irtext_grammar.specs.Graphs.Graph.{Printing, GraphOp, part_of, lookup}
use Rattle.irtext_grammar.specs.Names.Acts.{singles, single_labels}
use Rattle.irtext_grammar.specs.Graphs.Closed.{FitsCustom}
use Rattle.irtext_grammar.proofs.Graphs.Fits.{Fits, fits}

-- a conjunction's first half holds where it does
pub and_left : (a b : Bool) → (a && b) ≡ true → a ≡ true
and_left true b e = refl
and_left false b e = absurd (true≢false (sym e))

-- a conjunction's second half holds where it does
pub and_right : (a b : Bool) → (a && b) ≡ true → b ≡ true
and_right true b e = e
and_right false b e = absurd (true≢false (sym e))

-- the conditions that an accepted format satisfies
pub record Meets (ds : List Directive) : Type 0 where
  pub first : c1 ds ≡ true
  pub second : c2 ds ≡ true
  pub third : c3 ds ≡ true
  pub fourth : c4 ds ≡ true
  pub fifth : c5 ds ≡ true
  pub sixth : c6 ds ≡ true
  pub seventh : c7 ds ≡ true
  pub eighth : c8 ds ≡ true

abbrev here : Bool → Bool → Bool → Bool → Bool → Bool → Bool → Bool → ℕ
here a b c d e f g h = if a then (if b then (if c then (if d then (if e then (if f then (if g then (if h then 0 else 8) else 7) else 6) else 5) else 4) else 3) else 2) else 1

-- a format without a fault satisfies each condition
pub meets : (ds : List Directive) → first_fault (format.custom ds) ≡ 0 → Meets ds
meets ds = go (c1 ds) refl (c2 ds) refl (c3 ds) refl (c4 ds) refl (c5 ds) refl (c6 ds) refl (c7 ds) refl (c8 ds) refl
  where
    go : (a : Bool) → c1 ds ≡ a → (b : Bool) → c2 ds ≡ b → (c : Bool) → c3 ds ≡ c → (d : Bool) → c4 ds ≡ d → (e : Bool) → c5 ds ≡ e → (f : Bool) → c6 ds ≡ f → (g : Bool) → c7 ds ≡ g → (h : Bool) → c8 ds ≡ h
        → here a b c d e f g h ≡ 0 → Meets ds
    go true a true b true c true d true e true f true g true h z = record { first = a; second = b; third = c; fourth = d; fifth = e; sixth = f; seventh = g; eighth = h }
    go false a _ b _ c _ d _ e _ f _ g _ h z = absurd (omega arith)
    go true a false b _ c _ d _ e _ f _ g _ h z = absurd (omega arith)
    go true a true b false c _ d _ e _ f _ g _ h z = absurd (omega arith)
    go true a true b true c false d _ e _ f _ g _ h z = absurd (omega arith)
    go true a true b true c true d false e _ f _ g _ h z = absurd (omega arith)
    go true a true b true c true d true e false f _ g _ h z = absurd (omega arith)
    go true a true b true c true d true e true f false g _ h z = absurd (omega arith)
    go true a true b true c true d true e true f true g false h z = absurd (omega arith)

wider : (i k n : ℕ) → k ≤ n → nat_lt i k ≡ true → nat_lt i n ≡ true
wider i k n h e = grind (arith, nat_tests)

-- a number that the test calls smaller is smaller
pub below : (i n : ℕ) → nat_lt i n ≡ true → i < n
below i n e = grind (arith, nat_tests)

each_wider : (k n : ℕ) → k ≤ n → (ks : List ℕ) → list_all (λ i. nat_lt i k) ks ≡ true → list_all (λ i. nat_lt i n) ks ≡ true
each_wider k n h [] e = refl
each_wider k n h (i ∷ ks) e = ap₂ ◌&&◌ (wider i k n h (and_left (nat_lt i k) (list_all (λ i. nat_lt i k) ks) e)) (each_wider k n h ks (and_right (nat_lt i k) (list_all (λ i. nat_lt i k) ks) e))

-- where regions fit, there are no fewer than single places
pub no_less : (places lists n : ℕ) (b : Bool) → cond b (n == places) (not (nat_lt n places)) ≡ true → places ≤ n
no_less places lists n true e = grind (arith, nat_tests)
no_less places lists n false e = grind (arith, nat_tests)

-- places of one kind are those of items that are there
pub places_there : (ks : List ℕ) (lists n : ℕ) → are_places ks ≡ true → cond (lists == 0) (n == length ks) (not (nat_lt n (length ks))) ≡ true → list_all (λ i. nat_lt i n) ks ≡ true
places_there ks lists n a e = each_wider (length ks) n (no_less (length ks) lists n (lists == 0) e) ks (and_right (distinct ◌==◌ ks) (list_all (λ k. nat_lt k (length ks)) ks) a)

there : {X : Type 0} (xs : List X) (i : ℕ) (d : X) → nat_lt i (length xs) ≡ true → is_some (slice_get xs i) ≡ true
there xs i d e = ap is_some (slice_get-get_or xs i d (below i (length xs) e))

there_mapped : {X Y : Type 0} (F : X → Y) (o : Option X) → is_some o ≡ true → is_some (option_map F o) ≡ true
there_mapped F None e = e
there_mapped F (Some x) e = refl

first_there : {X : Type 0} (xs : List X) (i : ℕ) → nat_lt i (length xs) ≡ true → is_some (slice_get xs i) ≡ true
first_there [] i e = absurd (no i e)
  where
    no : (i : ℕ) → nat_lt i 0 ≡ true → ⊥
    no i e = let h = below i 0 e in omega arith
first_there (x ∷ xs) i e = there (x ∷ xs) i x e

abbrev Symbolic : Bool → List Directive → Type 0
Symbolic b [] = ⊤
Symbolic b (format.header ∷ rest) = (b ≡ true) × Symbolic b rest
Symbolic b (_ ∷ rest) = Symbolic b rest

symbolic : (b : Bool) (rest : List Directive) → b ≡ true → Symbolic b rest
symbolic b [] e = tt
symbolic b (format.header ∷ rest) e = (e, symbolic b rest e)
symbolic b (_ ∷ rest) e = symbolic b rest e

none_header : (b : Bool) (rest : List Directive) → count is_header rest ≡ 0 → Symbolic b rest
none_header b [] e = tt
none_header b (format.header ∷ rest) e = absurd (omega arith)
none_header b (_ ∷ rest) e = none_header b rest e

zero_count : (n : ℕ) → (n == 0) ≡ true → n ≡ 0
zero_count n e = grind (arith, nat_tests)

has_symbol : (b : Bool) (rest : List Directive) → ((count is_header rest == 0) || b) ≡ true → Symbolic b rest
has_symbol b rest e = go (count is_header rest == 0) refl e
  where
    go : (c : Bool) → (count is_header rest == 0) ≡ c → (c || b) ≡ true → Symbolic b rest
    go true k e = none_header b rest (zero_count (count is_header rest) k)
    go false k e = symbolic b rest e

abbrev total : (Option Directive → Bool) → List (Option Directive) → ℕ
total weigh [] = 0
total weigh (d ∷ ds) = cond (weigh d) (suc (total weigh ds)) (total weigh ds)

abbrev weigh_operand : Option Directive → Bool
weigh_operand None = false
weigh_operand (Some d) = elim d [ format.operand i ↦ true | _ ↦ false ]

abbrev weigh_successor : Option Directive → Bool
weigh_successor None = false
weigh_successor (Some d) = elim d [ format.successor i ↦ true | _ ↦ false ]

operands_weigh : (ds : List Directive) → total weigh_operand (map Some ds) ≡ length (operand_places ds)
operands_weigh [] = refl
operands_weigh (format.operand i ∷ ds) = ap suc (operands_weigh ds)
operands_weigh (_ ∷ ds) = operands_weigh ds

successors_weigh : (ds : List Directive) → total weigh_successor (map Some ds) ≡ length (successor_places ds)
successors_weigh [] = refl
successors_weigh (format.successor i ∷ ds) = ap suc (successors_weigh ds)
successors_weigh (_ ∷ ds) = successors_weigh ds

singles_weigh : {P T A : Type 0} (ps : List (Part P T A)) → singles ps ≡ total weigh_operand (map directive ps)
singles_weigh [] = refl
singles_weigh (tree.piece (tree.operand i n) ∷ ps) = ap suc (singles_weigh ps)
singles_weigh (_ ∷ ps) = singles_weigh ps

labels_weigh : {P T A : Type 0} (ps : List (Part P T A)) → single_labels ps ≡ total weigh_successor (map directive ps)
labels_weigh [] = refl
labels_weigh (tree.piece (tree.successor i n) ∷ ps) = ap suc (labels_weigh ps)
labels_weigh (_ ∷ ps) = labels_weigh ps

module _ {T A : Type 0} (C : Printing T A) where
  abbrev symbol_there : GraphOp T A → Bool
  symbol_there o = elim (lookup sym_name_key o.attributes) [ Some b ↦ elim b [ ident n ↦ true | _ ↦ false ] | None ↦ false ]

  -- what the directives ask of the operation
  pub record Asks (o : GraphOp T A) (rest : List Directive) : Type 0 where
    pub operands : list_all (λ i. nat_lt i (length o.operands)) (operand_places rest) ≡ true
    pub successors : list_all (λ i. nat_lt i (length o.successors)) (successor_places rest) ≡ true
    pub results : list_all (λ i. nat_lt i (length o.results)) (type_places rest) ≡ true
    pub keys_there : list_all (λ k. is_some (lookup k o.attributes)) (keys rest) ≡ true
    pub symbol : Symbolic (symbol_there o) rest

  -- an operation that has what the directives ask fits them
  pub asked : (ds : List Directive) (o : GraphOp T A) (rest : List Directive) → Asks o rest → Fits C ds o rest
  asked ds o [] a = tt
  asked ds o (format.word s ∷ rest) a = (refl, asked ds o rest (record { operands = a.operands; successors = a.successors; results = a.results; keys_there = a.keys_there; symbol = a.symbol }))
  asked ds o (format.operand i ∷ rest) a = (
    there_mapped _ (slice_get o.operands i) (first_there o.operands i (and_left (nat_lt i (length o.operands)) _ a.operands)),
    asked ds o rest (record { operands = and_right (nat_lt i (length o.operands)) _ a.operands; successors = a.successors; results = a.results; keys_there = a.keys_there; symbol = a.symbol }),
  )
  asked ds o (format.operands ∷ rest) a = (refl, asked ds o rest (record { operands = a.operands; successors = a.successors; results = a.results; keys_there = a.keys_there; symbol = a.symbol }))
  asked ds o (format.successor i ∷ rest) a = (
    there_mapped _ (slice_get o.successors i) (first_there o.successors i (and_left (nat_lt i (length o.successors)) _ a.successors)),
    asked ds o rest (record { operands = a.operands; successors = and_right (nat_lt i (length o.successors)) _ a.successors; results = a.results; keys_there = a.keys_there; symbol = a.symbol }),
  )
  asked ds o (format.successors ∷ rest) a = (refl, asked ds o rest (record { operands = a.operands; successors = a.successors; results = a.results; keys_there = a.keys_there; symbol = a.symbol }))
  asked ds o (format.attribute k ∷ rest) a = (
    there_mapped _ (lookup k o.attributes) (and_left (is_some (lookup k o.attributes)) _ a.keys_there),
    asked ds o rest (record { operands = a.operands; successors = a.successors; results = a.results; keys_there = and_right (is_some (lookup k o.attributes)) _ a.keys_there; symbol = a.symbol }),
  )
  asked ds o (format.dictionary ∷ rest) a = (refl, asked ds o rest (record { operands = a.operands; successors = a.successors; results = a.results; keys_there = a.keys_there; symbol = a.symbol }))
  asked ds o (format.result_type i ∷ rest) a = (
    there_mapped _ (slice_get o.results i) (first_there o.results i (and_left (nat_lt i (length o.results)) _ a.results)),
    asked ds o rest (record { operands = a.operands; successors = a.successors; results = and_right (nat_lt i (length o.results)) _ a.results; keys_there = a.keys_there; symbol = a.symbol }),
  )
  asked ds o (format.region i ∷ rest) a = (refl, asked ds o rest (record { operands = a.operands; successors = a.successors; results = a.results; keys_there = a.keys_there; symbol = a.symbol }))
  asked ds o (format.regions ∷ rest) a = (refl, asked ds o rest (record { operands = a.operands; successors = a.successors; results = a.results; keys_there = a.keys_there; symbol = a.symbol }))
  asked ds o (format.header ∷ rest) a = (
    go (lookup sym_name_key o.attributes) a.symbol.0,
    asked ds o rest (record { operands = a.operands; successors = a.successors; results = a.results; keys_there = a.keys_there; symbol = a.symbol.1 }),
  )
    where
      go : (x : Option (Attribute A)) → elim x [ Some b ↦ elim b [ ident n ↦ true | _ ↦ false ] | None ↦ false ] ≡ true
          → (let r : Option (Part ⊤ T A) = option_and_then (λ a. elim a [ ident n ↦ Some (tree.piece (tree.header (record { place = tt; text = n }))) | _ ↦ None ]) x in is_some r) ≡ true
      go None e = e
      go (Some (given_names ns)) e = e
      go (Some (ident n)) e = refl
      go (Some (own x)) e = e

  module _ (isolated : Id → Bool) where
    equal_counts : (m n : ℕ) → (n == m) ≡ true → cond (0 == 0) (n == m) (not (nat_lt n m)) ≡ true
    equal_counts m n e = e

    -- an operation that fits a format has what its directives ask
    pub custom_asks : (ds : List Directive) (o : GraphOp T A) (n : ℕ) → Meets ds → FitsCustom C isolated ds o n → Asks o ds
    custom_asks ds o n m f = record {
      operands = places_there (operand_places ds) (count is_operands ds) (length o.operands) (and_left (are_places (operand_places ds)) _ m.second) f.operands;
      successors = places_there (successor_places ds) (count is_successors ds) (length o.successors) (and_left (are_places (successor_places ds)) _ m.third) f.successors;
      results = places_there (type_places ds) 0 (length o.results) m.fourth (equal_counts (length (type_places ds)) (length o.results) f.results);
      keys_there = f.keys_there;
      symbol = has_symbol (symbol_there o) ds f.symbol;
    }

    -- what is written of an operation that fits has the directives of the format
    pub has_directives : (ds : List Directive) (o : GraphOp T A) (n : ℕ) → Meets ds → FitsCustom C isolated ds o n → map directive (filter_map (part_of C ds o) ds) ≡ map Some ds
    has_directives ds o n m f = fits C ds o ds (asked ds o ds (custom_asks ds o n m f))

    -- as many single operands are written as the format has places for
    pub singles_are : (ds : List Directive) (o : GraphOp T A) (n : ℕ) → Meets ds → FitsCustom C isolated ds o n → singles (filter_map (part_of C ds o) ds) ≡ length (operand_places ds)
    singles_are ds o n m f = singles_weigh (filter_map (part_of C ds o) ds) ∙ (ap (total weigh_operand) (has_directives ds o n m f) ∙ operands_weigh ds)

    -- as many single successors are written as the format has places for
    pub labels_are : (ds : List Directive) (o : GraphOp T A) (n : ℕ) → Meets ds → FitsCustom C isolated ds o n → single_labels (filter_map (part_of C ds o) ds) ≡ length (successor_places ds)
    labels_are ds o n m f = labels_weigh (filter_map (part_of C ds o) ds) ∙ (ap (total weigh_successor) (has_directives ds o n m f) ∙ successors_weigh ds)
