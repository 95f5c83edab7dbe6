-- What is written of a graph can be written: its text is parsed back.
use Rattle.std.proofs.Common.{◌≡◌, ℕ, zero, suc, ◌+◌, ◌<◌, ◌^◌, Bool, true, false, cond, not, ◌&&◌, ◌==◌, nat_lt, List, [], ◌∷◌, ◌++◌, map, length, filter_map, slice_get, Option, Some, None, option_map, option_and_then, codes, decimal, refl, sym, ap, subst, true≢false, arith, inl, inr, ◌∙◌}
use Rattle.std.specs.Prelude.{⊤, ◌⊎◌, ◌≤◌}
use Rattle.std.specs.List.{cons_option, list_all}
use Rattle.std.specs.Char.{is_ascii_digit, is_ascii_graphic}
use Rattle.std.proofs.lemmas.Bool.Decides.{nat_tests}
use Rattle.irtext_base.specs.Text.{Text, begins, begins_word, in_word, is_identifier}
use Rattle.irtext_base.specs.Format as format
use Rattle.irtext_base.specs.Format.{Format, Directive, same_text, word_prints, count, operand_places, successor_places, region_places, is_regions, none_follows, ascend, sym_name_key, Id}
use Rattle.irtext_grammar.specs.Grammar.Forest.{Regions, no_regions, region, Blocks, no_blocks, block, Operations, no_operations, operation, regions_list, AllRegions, AllBlocks, AllOperations}
use Rattle.irtext_grammar.specs.Grammar.Tree as tree
use Rattle.irtext_grammar.specs.Grammar.Tree.{Name, Attribute, given_names, ident, own, Piece, Part, shown, elided}
use Rattle.irtext_grammar.specs.Spelling.PrintedNames.{value_name, block_name}
use Rattle.irtext_grammar.specs.Graphs.Graph.{Graph, Limit, inside, is_elided, GraphOp, GraphBlock, Printing, value, target, inline, entries, is_marked, mark_at, own_marks, part_of, body_of, tree_op, tree_head, tree_regions, tree_blocks, tree_operations, marks_in_regions, marks_in_blocks, marks_in_operations, written, outlined, lookup, op_outlined, block_outlined}
use Rattle.irtext_grammar.specs.Spelling.Spellable.{Each, IsIdentifier, IsName, IsSpellableAttribute, IsSpellableEntry, IsSpellable, AreSpellable, Enough, IsSpellableMark}
use Rattle.irtext_grammar.specs.Graphs.Identifiers.{EntryHasIdentifiers, OpHasIdentifiers, BlockHasIdentifiers, HasIdentifiers}
use Rattle.irtext_grammar.specs.Graphs.Closed.{FitsFormat, FitRegions, FitBlocks, FitOperations, Fit}
use Rattle.irtext_grammar.specs.Graphs.Same.{SmallOp, SmallBlock, SmallGraph}
use Rattle.irtext_base.specs.Own.{Texts, Language, unplaced}
use Rattle.irtext_grammar.specs.Spelling.Writable.{IsSpellableBody, IsSpellableOp, IsSpellableHead, IsSpellableArgument, AreSpellableEntries, WritableRegions, WritableBlocks, WritableOperations, Writable}
use Rattle.irtext_grammar.proofs.Lists.SameText.{same_character}
use Rattle.irtext_base.proofs.Numbers.{digit_in_word}
use Rattle.irtext_grammar.proofs.Names.Injective.{digits_all}
use Rattle.irtext_grammar.proofs.Graphs.FitsFormat.{meets, and_left, and_right, has_directives}
use Rattle.irtext_grammar.proofs.Lists.Each.{each_filter, each_drop, OfOption, each_at}

both : (a b : Bool) → a ≡ true → b ≡ true → (a && b) ≡ true
both true b e f = f
both false b e f = e

every_both : (test : ℕ → Bool) (s t : Text) → list_all test s ≡ true → list_all test t ≡ true → list_all test (s ++ t) ≡ true
every_both test [] t e f = f
every_both test (c ∷ s) t e f = both (test c) (list_all test (s ++ t)) (and_left (test c) (list_all test s) e) (every_both test s t (and_right (test c) (list_all test s) e) f)

digits_in_word : (s : Text) → list_all is_ascii_digit s ≡ true → list_all in_word s ≡ true
digits_in_word [] e = refl
digits_in_word (c ∷ s) e = both (in_word c) (list_all in_word s) (digit_in_word c (and_left (is_ascii_digit c) (list_all is_ascii_digit s) e)) (digits_in_word s (and_right (is_ascii_digit c) (list_all is_ascii_digit s) e))

word_then : (s t : Text) → is_identifier s ≡ true → list_all in_word t ≡ true → is_identifier (s ++ t) ≡ true
word_then [] t e f = absurd (true≢false (sym e))
word_then (c ∷ s) t e f = both (begins_word c) (list_all in_word (s ++ t)) (and_left (begins_word c) (list_all in_word s) e) (every_both in_word s t (and_right (begins_word c) (list_all in_word s) e) f)

number_words : (n : ℕ) → n < 2 ^ 64 → list_all in_word (decimal n) ≡ true
number_words n h = digits_in_word (decimal n) (digits_all n h)

value_word : (g : Option Text) (n : ℕ) → ((x : Text) → g ≡ Some x → IsIdentifier x) → n < 2 ^ 64 → IsIdentifier (value_name g n)
value_word None n w h = number_words n h
value_word (Some x) n w h = word_then x (codes "_" ++ (codes "v" ++ decimal n)) (w x refl) (number_words n h)

block_word : (l : Option Text) (b : ℕ × ℕ) → ((x : Text) → l ≡ Some x → IsIdentifier x) → b.0 < 2 ^ 64 → b.1 < 2 ^ 64 → IsIdentifier (block_name l b)
block_word None b w h k = every_both in_word (decimal b.0) (codes "v" ++ decimal b.1) (number_words b.0 h) (number_words b.1 k)
block_word (Some x) b w h k = word_then x (codes "_" ++ (codes "block" ++ (decimal b.0 ++ (codes "v" ++ decimal b.1)))) (w x refl)
    (every_both in_word (decimal b.0) (codes "v" ++ decimal b.1) (number_words b.0 h) (number_words b.1 k))

each_map : {X Y : Type 0} (Q : X → Type 0) (R : Y → Type 0) (F : X → Y) → ((x : X) → Q x → R (F x)) → (xs : List X) → Each Q xs → Each R (map F xs)
each_map Q R F h [] e = tt
each_map Q R F h (x ∷ xs) e = (h x e.0, each_map Q R F h xs e.1)

looked_fine : {A : Type 0} (key : Text) (es : List (Text × Attribute A)) → Each EntryHasIdentifiers es → OfOption IsSpellableAttribute (lookup key es)
looked_fine key [] e = tt
looked_fine key (d ∷ es) e = go (same_text key d.0) (looked_fine key es e.1)
  where
    go : (b : Bool) → OfOption IsSpellableAttribute (lookup key es) → OfOption IsSpellableAttribute (cond b (Some d.1) (lookup key es))
    go true k = e.0.1
    go false k = k

graphic_first : (s : Text) → (nat_lt 0 (length s) && list_all is_ascii_graphic s) ≡ true → begins is_ascii_graphic s ≡ true
graphic_first [] e = e
graphic_first (c ∷ s) e = and_left (is_ascii_graphic c) (list_all is_ascii_graphic s) (and_right (nat_lt 0 (length (c ∷ s))) _ e)

-- ---- a place for each region
abbrev pub Room : List Directive → ℕ → Type 0
Room [] n = n ≡ 0
Room (format.region i ∷ rest) zero = ⊥
Room (format.region i ∷ rest) (suc n) = Room rest n
Room (format.regions ∷ rest) n = Room rest 0
Room (_ ∷ rest) n = Room rest n

-- whether so many regions fit so many places and lists
abbrev pub Fitted : ℕ → ℕ → ℕ → Bool
Fitted places lists n = cond (lists == 0) (n == places) (not (nat_lt n places))

fitted_less : (p n : ℕ) (b : Bool) → cond b (suc n == suc p) (not (nat_lt (suc n) (suc p))) ≡ true → cond b (n == p) (not (nat_lt n p)) ≡ true
fitted_less p n true e = grind (arith, nat_tests)
fitted_less p n false e = grind (arith, nat_tests)

fitted_none : (p : ℕ) (b : Bool) → cond b (0 == suc p) (not (nat_lt 0 (suc p))) ≡ true → ⊥
fitted_none p true e = grind (arith, nat_tests)
fitted_none p false e = grind (arith, nat_tests)

one_at_most : (n : ℕ) → nat_lt (suc n) 2 ≡ true → n ≡ 0
one_at_most n e = grind (arith, nat_tests)

room_none : (rest : List Directive) → list_all (λ d. not (elim d [ format.region i ↦ true | _ ↦ false ])) rest ≡ true → count is_regions rest ≡ 0 → Room rest 0
room_none [] e c = refl
room_none (format.region i ∷ rest) e c = absurd (true≢false (sym e))
room_none (format.regions ∷ rest) e c = absurd (omega arith)
room_none (_ ∷ rest) e c = room_none rest e c

-- regions that fit have a place or a list each
pub room : (rest : List Directive) (n : ℕ) → Fitted (length (region_places rest)) (count is_regions rest) n ≡ true → nat_lt (count is_regions rest) 2 ≡ true
    → none_follows is_regions (λ d. elim d [ format.region i ↦ true | _ ↦ false ]) rest ≡ true → Room rest n
room [] n e f b = same_character n 0 e
room (format.region i ∷ rest) zero e f b = fitted_none (length (region_places rest)) (count is_regions rest == 0) e
room (format.region i ∷ rest) (suc n) e f b = room rest n (fitted_less (length (region_places rest)) n (count is_regions rest == 0) e) f b
room (format.regions ∷ rest) n e f b = room_none rest (and_left _ _ b) (one_at_most (count is_regions rest) f)
room (_ ∷ rest) n e f b = room rest n e f b

module _ {T A : Type 0} (C : Printing T A) (isolated : Id → Bool) (given : (v : ℕ) (n : Text) → C.given v ≡ Some n → IsIdentifier n) (label : (b : ℕ × ℕ) (n : Text) → C.label b ≡ Some n → IsIdentifier n) where
  abbrev SmallNumber : ℕ → Type 0
  SmallNumber v = v < 2 ^ 64

  abbrev SmallPlace : ℕ × ℕ → Type 0
  SmallPlace b = (b.0 < 2 ^ 64) × (b.1 < 2 ^ 64)

  value_fine : (v : ℕ) → SmallNumber v → IsName (value C v)
  value_fine v h = value_word (C.given v) v (given v) h

  target_fine : (b : ℕ × ℕ) → SmallPlace b → IsName (target C b)
  target_fine b h = block_word (C.label b) b (label b) h.0 h.1

  entries_fine : (es : List (Text × Attribute A)) → Each EntryHasIdentifiers es → Each IsSpellableEntry (entries C es)
  entries_fine es e = each_map EntryHasIdentifiers IsSpellableEntry _ (λ x h. h) es e

  abbrev OptionFine : Option (Part ⊤ T A) → Type 0
  OptionFine None = ⊤
  OptionFine (Some x) = AreSpellable (x ∷ [])

  mapped_fine : {Y : Type 0} (Q : Y → Type 0) (F : Y → Piece ⊤ T A) → ((y : Y) → Q y → IsSpellable (F y)) → (o : Option Y) → OfOption Q o → OptionFine (option_map (λ y. tree.piece (F y)) o)
  mapped_fine Q F h None q = tt
  mapped_fine Q F h (Some y) q = (h y q, tt)

  part_fine : (ds : List Directive) (o : GraphOp T A) → OpHasIdentifiers C o → SmallOp C isolated o → (d : Directive) → word_prints d ≡ true → OptionFine (part_of C ds o d)
  part_fine ds o w s (format.word x) e = (graphic_first x e, tt)
  part_fine ds o w s (format.operand i) e = mapped_fine SmallNumber _ (λ y h. value_fine y h) (slice_get o.operands i) (each_at SmallNumber o.operands i s.operands)
  part_fine ds o w s format.operands e = (each_map SmallNumber IsName (value C) value_fine _ (each_drop SmallNumber (length (operand_places ds)) o.operands s.operands), tt)
  part_fine ds o w s (format.successor i) e = mapped_fine SmallPlace _ (λ y h. target_fine y h) (slice_get o.successors i) (each_at SmallPlace o.successors i s.successors)
  part_fine ds o w s format.successors e = (each_map SmallPlace IsName (target C) target_fine _ (each_drop SmallPlace (length (successor_places ds)) o.successors s.successors), tt)
  part_fine ds o w s (format.attribute k) e = go (lookup k o.attributes) (looked_fine k o.attributes w.attributes)
    where
      fine_if : (b : Bool) (a : Attribute A) → IsSpellableAttribute a → AreSpellable {P = ⊤} {T = T} (tree.piece (tree.attribute k (cond b None (Some a))) ∷ [])
      fine_if true a h = (tt, tt)
      fine_if false a h = (h, tt)

      go : (x : Option (Attribute A)) → OfOption IsSpellableAttribute x → OptionFine (option_map (λ a. tree.piece (tree.attribute k (cond (outlined C a) None (Some a)))) x)
      go None h = tt
      go (Some a) h = fine_if (outlined C a) a h
  part_fine ds o w s format.dictionary e = (entries_fine _ (each_filter EntryHasIdentifiers _ (inline C o.attributes) (each_filter EntryHasIdentifiers _ o.attributes w.attributes)), tt)
  part_fine ds o w s (format.result_type i) e = mapped_fine (λ r. ⊤) _ (λ y h. tt) (slice_get o.results i) (any (slice_get o.results i))
    where
      any : {X : Type 0} (x : Option X) → OfOption (λ r. ⊤) x
      any None = tt
      any (Some x) = tt
  part_fine ds o w s (format.region i) e = tt
  part_fine ds o w s format.regions e = tt
  part_fine ds o w s format.header e = go (lookup sym_name_key o.attributes) (looked_fine sym_name_key o.attributes w.attributes)
    where
      go : (x : Option (Attribute A)) → OfOption IsSpellableAttribute x → OptionFine (option_and_then (λ a. elim a [ ident n ↦ Some (tree.piece (tree.header (record { place = tt; text = n }))) | _ ↦ None ]) x)
      go None h = tt
      go (Some (given_names ns)) h = tt
      go (Some (ident n)) h = (h, tt)
      go (Some (own x)) h = tt

  parts_fine : (ds : List Directive) (o : GraphOp T A) → OpHasIdentifiers C o → SmallOp C isolated o → (rest : List Directive) → list_all word_prints rest ≡ true → AreSpellable (filter_map (part_of C ds o) rest)
  parts_fine ds o w s [] e = tt
  parts_fine ds o w s (d ∷ rest) e = go (part_of C ds o d) (part_fine ds o w s d (and_left (word_prints d) _ e)) (parts_fine ds o w s rest (and_right (word_prints d) _ e))
    where
      go : (x : Option (Part ⊤ T A)) → OptionFine x → AreSpellable (filter_map (part_of C ds o) rest) → AreSpellable (cons_option x (filter_map (part_of C ds o) rest))
      go None k f = f
      go (Some (tree.piece y)) k f = (k.0, f)
      go (Some (tree.region i)) k f = f
      go (Some tree.regions) k f = f

  abbrev Own : Type 0
  Own = Regions (tree.Op ⊤ T A) (tree.Head ⊤ T A) (tree.Brace ⊤)

  skip_enough : {Y : Type 0} (F : Y → Piece ⊤ T A) (o : Option Y) (qs : List (Part ⊤ T A)) (rs : Own) → Enough qs rs → Enough (cons_option (option_map (λ y. tree.piece (F y)) o) qs) rs
  skip_enough F None qs rs e = e
  skip_enough F (Some y) qs rs e = e

  skip_header : (x : Option (Attribute A)) (qs : List (Part ⊤ T A)) (rs : Own) → Enough qs rs
      → Enough (cons_option (option_and_then (λ a. elim a [ ident n ↦ Some (tree.piece (tree.header (record { place = tt; text = n }))) | _ ↦ None ]) x) qs) rs
  skip_header None qs rs e = e
  skip_header (Some (given_names ns)) qs rs e = e
  skip_header (Some (ident n)) qs rs e = e
  skip_header (Some (own x)) qs rs e = e

  -- what is written of an operation that fits has a place for each of its regions
  pub enough : (ds : List Directive) (o : GraphOp T A) (rest : List Directive) (rs : Own) → Room rest (length (regions_list rs)) → Enough (filter_map (part_of C ds o) rest) rs
  enough ds o [] no_regions e = tt
  enough ds o [] (region r bs rs) e = absurd (omega arith)
  enough ds o (format.region i ∷ rest) no_regions e = absurd e
  enough ds o (format.region i ∷ rest) (region r bs rs) e = enough ds o rest rs e
  enough ds o (format.regions ∷ rest) rs e = enough ds o rest no_regions e
  enough ds o (format.word x ∷ rest) rs e = enough ds o rest rs e
  enough ds o (format.operands ∷ rest) rs e = enough ds o rest rs e
  enough ds o (format.successors ∷ rest) rs e = enough ds o rest rs e
  enough ds o (format.dictionary ∷ rest) rs e = enough ds o rest rs e
  enough ds o (format.operand i ∷ rest) rs e = skip_enough _ (slice_get o.operands i) _ rs (enough ds o rest rs e)
  enough ds o (format.successor i ∷ rest) rs e = skip_enough _ (slice_get o.successors i) _ rs (enough ds o rest rs e)
  enough ds o (format.attribute k ∷ rest) rs e = skip_enough _ (lookup k o.attributes) _ rs (enough ds o rest rs e)
  enough ds o (format.result_type i ∷ rest) rs e = skip_enough _ (slice_get o.results i) _ rs (enough ds o rest rs e)
  enough ds o (format.header ∷ rest) rs e = skip_header (lookup sym_name_key o.attributes) _ rs (enough ds o rest rs e)

  -- as many regions are written as there are
  pub same_length : (l : Limit) (n : ℕ) (rs : Regions (GraphOp T A) (GraphBlock T A) ⊤) → length (regions_list (tree_regions C l n rs)) ≡ length (regions_list rs)
  same_length l n no_regions = refl
  same_length l n (region r bs rs) = go (is_elided C l) _ _ _ _ _ _ (same_length l n rs) (same_length l (n + marks_in_blocks C (inside C l) bs) rs)
    where
      go : (b : Bool) (x y : tree.Brace ⊤) (cs ds : Blocks (tree.Op ⊤ T A) (tree.Head ⊤ T A) (tree.Brace ⊤)) (ps qs : Own) → length (regions_list ps) ≡ length (regions_list rs) → length (regions_list qs) ≡ length (regions_list rs)
          → length (regions_list (cond b (region x cs ps) (region y ds qs))) ≡ suc (length (regions_list rs))
      go true x y cs ds ps qs p q = ap suc p
      go false x y cs ds ps qs p q = ap suc q

  mark_fine : (n : ℕ) (l : Option Text) (es : List (Text × Attribute A)) → n + own_marks C l es < 2 ^ 64 → IsSpellableMark (mark_at C n l es)
  mark_fine n l es = go (is_marked C l es)
    where
      go : (b : Bool) → n + cond b 1 0 < 2 ^ 64 → IsSpellableMark {P = ⊤} (cond b (Some (record { place = tt; index = n })) None)
      go true h = omega arith
      go false h = tt

  module _ (L : Language ⊤ T A) (formats : (i : Id) → L.format_of i ≡ C.format_of i) where
    body_fine : (f : Option Format) (l : Limit) (m : ℕ) (o : GraphOp T A) (rs : Regions (GraphOp T A) (GraphBlock T A) ⊤) → OpHasIdentifiers C o → SmallOp C isolated o → FitsFormat C isolated f o (length (regions_list rs))
        → (its : Format) × (f ≡ Some its) × IsSpellableBody L its (body_of C o f) (tree_regions C l m rs)
    body_fine None l m o rs w s f = absurd f
    body_fine (Some format.canonical) l m o rs w s f = (
      format.canonical,
      refl,
      (each_map SmallNumber IsName (value C) value_fine o.operands s.operands, each_map SmallPlace IsName (target C) target_fine o.successors s.successors, entries_fine _ (each_filter EntryHasIdentifiers _ o.attributes w.attributes)),
    )
    body_fine (Some (format.custom ds)) l m o rs w s f =
        let c = meets ds f.0 in
        let five = c.fifth in
        let a = and_left (ascend 0 (region_places ds) && nat_lt (count is_regions ds) 2) _ five in
        let few = and_right (ascend 0 (region_places ds)) (nat_lt (count is_regions ds) 2) a in
        let following = and_right (ascend 0 (region_places ds) && nat_lt (count is_regions ds) 2) _ five in (
          format.custom ds,
          refl,
          (
            c.eighth,
            has_directives C isolated ds o (length (regions_list rs)) c f.1,
            parts_fine ds o w s ds c.first,
            enough ds o ds (tree_regions C l m rs) (subst (Room ds) (sym (same_length l m rs)) (room ds (length (regions_list rs)) f.1.regions few following)),
          ),
        )

    op_fine : (l : Limit) (k m : ℕ) (o : GraphOp T A) (rs : Regions (GraphOp T A) (GraphBlock T A) ⊤) → OpHasIdentifiers C o → SmallOp C isolated o → FitsFormat C isolated (C.format_of o.id) o (length (regions_list rs)) → k + own_marks C o.location (op_outlined C o) < 2 ^ 64
        → IsSpellableOp L (tree_op C k o) (tree_regions C l m rs)
    op_fine l k m o rs w s f h =
        let b = body_fine (C.format_of o.id) l m o rs w s f in
        record {
          names = each_map (λ (r : ℕ × T). r.0 < 2 ^ 64) IsName _ (λ r q. value_fine r.0 q) o.results s.results;
          dialect = w.dialect;
          name = w.name;
          mark = mark_fine k o.location (op_outlined C o) h;
          its_format = b.0;
          is_format = formats o.id ∙ b.1;
          body = b.2;
        }

    attributes_fine : (es : List (Name ⊤ × Attribute A)) → Each IsSpellableEntry es → AreSpellableEntries L (elim es [ [] ↦ None | e ∷ rest ↦ Some (e ∷ rest) ])
    attributes_fine [] h = tt
    attributes_fine (e ∷ es) h = h

    head_fine : (n : ℕ) (b : GraphBlock T A) → BlockHasIdentifiers C b → SmallBlock C isolated b → n + own_marks C b.location (block_outlined C b) < 2 ^ 64 → IsSpellableHead L (tree_head C n b)
    head_fine n b w s h = record {
      label = target_fine b.place s.place;
      arguments = each_map (λ (r : ℕ × T). r.0 < 2 ^ 64) (IsSpellableArgument L) _ (λ r q. value_fine r.0 q) b.arguments s.arguments;
      attributes = attributes_fine (entries C (inline C b.attributes)) (entries_fine _ (each_filter EntryHasIdentifiers _ b.attributes w.attributes));
      mark = mark_fine n b.location (block_outlined C b) h;
    }

    -- where the limit leaves a region out, that is parsed
    abbrev Allowed : Limit → Type 0
    Allowed l = (l ≡ None) ⊎ ((f : Text) → L.left_out (codes "{..}" ++ f) f)

    allowed_inside : (l : Limit) → Allowed l → Allowed (inside C l)
    allowed_inside l (inl e) = inl (ap (inside C) e)
    allowed_inside l (inr h) = inr h

    out_allowed : (l : Limit) → Allowed l → is_elided C l ≡ true → (f : Text) → L.left_out (codes "{..}" ++ f) f
    out_allowed l (inl e) q = absurd (true≢false (sym q ∙ ap (is_elided C) e))
    out_allowed l (inr h) q = h

    mutual
      regions_fine : (l : Limit) (n : ℕ) (rs : Regions (GraphOp T A) (GraphBlock T A) ⊤) → Allowed l → FitRegions C isolated rs → AllRegions (OpHasIdentifiers C) (BlockHasIdentifiers C) (λ r. ⊤) rs → AllRegions (SmallOp C isolated) (SmallBlock C isolated) (λ r. ⊤) rs
          → n + marks_in_regions C l rs < 2 ^ 64 → WritableRegions L (tree_regions C l n rs)
      regions_fine l n no_regions k f w s h = tt
      regions_fine l n (region r bs rs) k f w s h = go (is_elided C l) refl h (λ m e. regions_fine l m rs k f.1 w.2 s.2 e) (λ e. blocks_fine (inside C l) n bs (allowed_inside l k) f.0 w.1 s.1 e)
        where
          go : (b : Bool) → is_elided C l ≡ b → n + (cond b 0 (marks_in_blocks C (inside C l) bs) + marks_in_regions C l rs) < 2 ^ 64
              → ((m : ℕ) → m + marks_in_regions C l rs < 2 ^ 64 → WritableRegions L (tree_regions C l m rs)) → (n + marks_in_blocks C (inside C l) bs < 2 ^ 64 → WritableBlocks L (tree_blocks C (inside C l) n bs))
              → WritableRegions L (cond b (region elided no_blocks (tree_regions C l n rs)) (region (shown tt) (tree_blocks C (inside C l) n bs) (tree_regions C l (n + marks_in_blocks C (inside C l) bs) rs)))
          go true e h more inner = (out_allowed l k e, tt, more n (omega arith))
          go false e h more inner = (tt, inner (omega arith), more (n + marks_in_blocks C (inside C l) bs) (omega arith))

      blocks_fine : (l : Limit) (n : ℕ) (bs : Blocks (GraphOp T A) (GraphBlock T A) ⊤) → Allowed l → FitBlocks C isolated bs → AllBlocks (OpHasIdentifiers C) (BlockHasIdentifiers C) (λ r. ⊤) bs → AllBlocks (SmallOp C isolated) (SmallBlock C isolated) (λ r. ⊤) bs
          → n + marks_in_blocks C l bs < 2 ^ 64 → WritableBlocks L (tree_blocks C l n bs)
      blocks_fine l n no_blocks k f w s h = tt
      blocks_fine l n (block b os bs) k f w s h =
          let q = n + own_marks C b.location (block_outlined C b) in
          (head_fine n b w.0 s.0 (omega arith), operations_fine l q os k f.0 w.1 s.1 (omega arith), blocks_fine l (q + marks_in_operations C l os) bs k f.1 w.2 s.2 (omega arith))

      operations_fine : (l : Limit) (n : ℕ) (os : Operations (GraphOp T A) (GraphBlock T A) ⊤) → Allowed l → FitOperations C isolated os → AllOperations (OpHasIdentifiers C) (BlockHasIdentifiers C) (λ r. ⊤) os → AllOperations (SmallOp C isolated) (SmallBlock C isolated) (λ r. ⊤) os
          → n + marks_in_operations C l os < 2 ^ 64 → WritableOperations L (tree_operations C l n os)
      operations_fine l n no_operations k f w s h = tt
      operations_fine l n (operation o rs os) k f w s h =
          let q = n + marks_in_regions C l rs in
          (op_fine l q n o rs w.0 s.0 f.0 (omega arith), regions_fine l n rs k f.1 w.1 s.1 (omega arith), operations_fine l (q + own_marks C o.location (op_outlined C o)) os k f.2 w.2 s.2 (omega arith))

  -- a limit leaves marks out, and adds none
  mutual
    fewer_in_regions : (l : Limit) (rs : Regions (GraphOp T A) (GraphBlock T A) ⊤) → marks_in_regions C l rs ≤ marks_in_regions C None rs
    fewer_in_regions l no_regions = omega arith
    fewer_in_regions l (region r bs rs) = go (is_elided C l) (fewer_in_blocks (inside C l) bs) (fewer_in_regions l rs)
      where
        go : (b : Bool) {p q x y : ℕ} → p ≤ q → x ≤ y → cond b 0 p + x ≤ q + y
        go true h k = omega arith
        go false h k = omega arith

    fewer_in_blocks : (l : Limit) (bs : Blocks (GraphOp T A) (GraphBlock T A) ⊤) → marks_in_blocks C l bs ≤ marks_in_blocks C None bs
    fewer_in_blocks l no_blocks = omega arith
    fewer_in_blocks l (block h os bs) = let p = fewer_in_operations l os in let q = fewer_in_blocks l bs in omega arith

    fewer_in_operations : (l : Limit) (os : Operations (GraphOp T A) (GraphBlock T A) ⊤) → marks_in_operations C l os ≤ marks_in_operations C None os
    fewer_in_operations l no_operations = omega arith
    fewer_in_operations l (operation o rs os) = let p = fewer_in_regions l rs in let q = fewer_in_operations l os in omega arith

-- what is written of a graph that fits can be written
module _ {T A : Type 0} (C : Printing T A) (isolated : Id → Bool) where
  -- what is written of a graph that fits can be written and parsed back, also where regions are left out: a number counts the marks that
  -- are written
  pub written_fine_at : (L : Language ⊤ T A) → ((i : Id) → L.format_of i ≡ C.format_of i) → (l : Limit) → (l ≡ None) ⊎ ((f : Text) → L.left_out (codes "{..}" ++ f) f) → (g : Graph T A)
      → ((v : ℕ) (n : Text) → C.given v ≡ Some n → IsIdentifier n) → ((b : ℕ × ℕ) (n : Text) → C.label b ≡ Some n → IsIdentifier n) → OpHasIdentifiers C g.own → AllRegions (OpHasIdentifiers C) (BlockHasIdentifiers C) (λ r. ⊤) g.regions
      → marks_in_regions C l g.regions + own_marks C g.own.location (op_outlined C g.own) < 2 ^ 64 → Fit C isolated g → SmallGraph C isolated g → Writable L (written C l g)
  written_fine_at L e l k g given label its inside h f s =
      let q = marks_in_regions C l g.regions in (
        op_fine C isolated given label L e l q 0 g.own g.regions its s.0 f.0 (omega arith),
        regions_fine C isolated given label L e l 0 g.regions k f.1 inside s.1 (omega arith),
      )

  -- the same where a number counts all marks
  pub written_fine_under : (L : Language ⊤ T A) → ((i : Id) → L.format_of i ≡ C.format_of i) → (l : Limit) → (l ≡ None) ⊎ ((f : Text) → L.left_out (codes "{..}" ++ f) f) → (g : Graph T A) → HasIdentifiers C g → Fit C isolated g → SmallGraph C isolated g → Writable L (written C l g)
  written_fine_under L e l k g w f s =
      let fewer = fewer_in_regions C isolated w.given w.label l g.regions in
      let h = w.marks in
      written_fine_at L e l k g w.given w.label w.own w.regions (omega (arith, fewer, h)) f s

  -- what is written of a graph that fits can be written and parsed back
  pub written_fine : (types : Texts T) (owns : Texts A) (g : Graph T A) → HasIdentifiers C g → Fit C isolated g → SmallGraph C isolated g → Writable (unplaced types owns C.format_of) (written C None g)
  written_fine types owns g w f s = written_fine_under (unplaced types owns C.format_of) (λ i. refl) None (inl refl) g w f s
