-- The text that is written of a whole tree parses as that tree, before whatever printed IR follows it.
use Rattle.std.specs.Prelude.{◌≡◌, ℕ, List, [], ◌∷◌, ◌++◌, Option, Some, None, ◌+◌, ◌<◌, ◌^◌, Bool, true, false, ◌||◌, ◌==◌, ◌⊎◌, map, codes, refl, ⊤, decimal}
use Rattle.irtext_base.specs.Text.{Text, begins, after_space, begins_word, in_word}
use Rattle.irtext_grammar.proofs.Grammar.Back as back
use Rattle.irtext_grammar.specs.Grammar.Tree as tree
use Rattle.irtext_base.specs.Format as format
use Rattle.irtext_grammar.specs.Grammar.Reads as reads
use Rattle.irtext_grammar.specs.Spelling.Spell as spell
use Rattle.irtext_base.proofs.Numbers.{number_here}
use Rattle.irtext_grammar.proofs.Grammar.Sequences.{Reaches, reaches_from, reaches_then, reaches_literal, reaches_ends, reaches_white, identifier_stops, identifier_here, back_list}
use Rattle.irtext_grammar.proofs.Grammar.Follows.{none_the, none_word, NoneOf, Disjoint, disjoint_law, disjoint_none, apart_none}
use Rattle.irtext_grammar.proofs.Grammar.Back.{regroup, newline_white, here, back_name, back_type, back_dictionary, unwhite, oneof_right, ends_parts, back_parts}
use Rattle.irtext_grammar.proofs.Grammar.Apart.{Apart, apart_inside, apart_outside}
use Rattle.irtext_grammar.proofs.Grammar.Canonical.{back_canonical}
use Rattle.irtext_grammar.specs.Spelling.Writable.{OneOf, AfterOperation, AfterRoot, Deep, has_region, IsSpellableBody, IsSpellableOp, IsSpellableHead, IsSpellableArgument, AreSpellableEntries, IsRead, WritableRegions, WritableBlocks, WritableOperations, Writable}
use Rattle.irtext_grammar.specs.Spelling.Spellable.{Each, IsIdentifier, IsName, IsSpellableMark}
use Rattle.irtext_grammar.specs.Grammar.Tree.{Name, Mark, Attribute, Body, Op, Head, Brace, shown, elided, Tree, IsOf, parts_of}
use Rattle.irtext_grammar.specs.Spelling.Spell.{joined, joined_from, comma, newline}
use Rattle.irtext_base.specs.Format.{Format, followers, c7, Id}
use Rattle.irtext_base.specs.Own.{Language, Lawful, Unreserved, Ends}
use Rattle.irtext_base.specs.Reading.{Reading, ◌▹◌, ◌▸◌, the, literal, separated, more, repeated}
use Rattle.irtext_grammar.specs.Grammar.Forest.{Regions, no_regions, region, Blocks, no_blocks, block, Operations, no_operations, operation}
use Rattle.irtext_base.proofs.Characters.{after_twice, after_all, identifier_every, identifier_begins, word_tight}
use Rattle.std.proofs.Common.{inl, inr, sym, ◌∙◌, ap, subst, true≢false, append_assoc}
use Rattle.std.specs.Char.{is_whitespace}

module _ {P T A : Type 0} (L : Language P T A) (types : Lawful T L.types) (owns : Lawful A L.owns) (unreserved : Unreserved A L.owns) (anywhere : (p : P) (t : Text) → L.at p t) (width : ℕ) where
  abbrev Inner : Type 0
  Inner = Regions (Op P T A) (Head P T A) (Brace P)

  abbrev BackRegions : ℕ → Inner → Type 0
  BackRegions n rs = back.BackRegions L types owns unreserved anywhere width n rs

  back_mark : (m : Mark P) (f : Text) → m.index < 2 ^ 64 → Ends f → Reaches (reads.mark L m) (32 ∷ 33 ∷ (decimal m.index ++ f)) f
  back_mark m f e h = (here L types owns unreserved anywhere) m.place (record { left = f; reading = (decimal m.index ++ f, refl, number_here m.index f e h); same = refl })

  back_mark_if : (m : Option (Mark P)) (f : Text) → IsSpellableMark m → Ends f → (m ≡ None → begins (the 33) (after_space f) ≡ false) → Reaches (reads.mark_if L m) (spell.mark_if L m ++ f) f
  back_mark_if None f e h o = reaches_ends (the 33) f (o refl)
  back_mark_if (Some m) f e h o = back_mark m f e h

  -- a text that begins with an id does not begin with a list of names and `=`
  no_results : (d x : Text) → IsIdentifier d → (ns : List (Name P)) (left : Text) → reads.results L ns (d ++ (46 ∷ x)) left → ⊥
  no_results d x w [] left (m, a, b) = true≢false (sym (identifier_begins d (46 ∷ x) w) ∙ a.0)
  no_results d x w (n ∷ []) left (m, (m', a, b), c) = true≢false (ap (begins (the 46))
      (sym (ap after_space (b.1 ∙ ap after_space (a.1.2 ∙ after_all in_word d (46 ∷ x) (identifier_every d w) refl))) ∙ c))
  no_results d x w (n ∷ k ∷ ns) left (m, (m', a, (m'', b, b')), c) = true≢false (ap (begins (the 46))
      (sym (ap after_space (a.1.2 ∙ after_all in_word d (46 ∷ x) (identifier_every d w) refl)) ∙ b))

  back_results : (ns : List (Name P)) (d x : Text) → Each IsName ns → IsIdentifier d → Reaches (reads.results_if L ns) (spell.results L ns ++ (d ++ (46 ∷ x))) (d ++ (46 ∷ x))
  back_results [] d x e w = let tight = word_tight (d ++ (46 ∷ x)) (identifier_begins d (46 ∷ x) w) in
      record { left = d ++ (46 ∷ x); reading = subst (λ t. reads.results_if L [] t (d ++ (46 ∷ x))) (sym tight) (inr (refl, refl, no_results d x w)); same = refl }
  back_results (n ∷ ns) d x e w = let f = d ++ (46 ∷ x) in let j = joined comma (map (λ m. m.text) (n ∷ ns)) in
      results_some (n ∷ ns) (reaches_then (reaches_from (ap after_space (append_assoc j (codes " = ") f))
      (back_list (reads.name L) (λ m. m.text) IsName (back_name L types owns unreserved anywhere) reads.no_word (n ∷ ns) (32 ∷ 61 ∷ 32 ∷ f) e (inr refl) refl refl))
      (reaches_to refl (reaches_from refl (reaches_literal 61 [] (32 ∷ f) refl))))
    where
      reaches_to : {R : Reading} {t f g : Text} → after_space f ≡ after_space g → Reaches R t f → Reaches R t g
      reaches_to e r = record { left = r.left; reading = r.reading; same = r.same ∙ e }

      results_some : (ns : List (Name P)) {t f : Text} → Reaches (reads.results L ns) t f → Reaches (reads.results_if L ns) t f
      results_some ns r = record { left = r.left; reading = inl r.reading; same = r.same }

  id_stops : (i : Id) (f : Text) → IsIdentifier i.dialect → IsIdentifier i.name → Ends f → reads.id i (i.dialect ++ (46 ∷ (i.name ++ f))) f
  id_stops i f d n h = (46 ∷ (i.name ++ f), identifier_stops i.dialect (46 ∷ (i.name ++ f)) d refl, (i.name ++ f, refl, identifier_here i.name f n h))

  no_bang : (f : Text) → OneOf (codes ";}^") f → begins (the 33) f ≡ false
  no_bang f o = none_the (codes "!") 33 f refl (disjoint_none (codes "!") (codes ";}^") f refl o)

  mark_ends : (m : Option (Mark P)) (f : Text) → Ends f → Ends (spell.mark_if L m ++ f)
  mark_ends None f b = b
  mark_ends (Some m) f b = inr refl

  mark_one : (m : Option (Mark P)) (f : Text) → AfterOperation m f → OneOf (followers []) (after_space (spell.mark_if L m ++ f))
  mark_one None f b = (oneof_right L types owns unreserved anywhere) (codes "!") (codes ";}^") (after_space f) (b.one refl)
  mark_one (Some m) f b = inr refl

  -- what lets a body be parsed back before what begins with one of `last`
  abbrev Closes : List ℕ → Body P T A → Inner → Type 0
  Closes last (tree.custom ps) rs = Apart last ps rs
  Closes last (tree.canonical names labels entries operand_types result_types) rs = Disjoint (codes "{") last

  back_body : (last : List ℕ) (n : ℕ) (f : Format) (body : Body P T A) (rs : Inner) (m : Text) → IsSpellableBody L f body rs → Closes last body rs → BackRegions n rs → Ends m → OneOf last (after_space m)
      → Reaches (reads.parts L (parts_of body) (reads.region_readings L rs)) (spell.body L body (spell.region_texts L width n rs) ++ m) m
  back_body last n (format.custom ds) (tree.custom ps) rs m fine c b h o = ((back_parts L types owns unreserved anywhere width) last n ps rs m c fine.2 fine.3 b h o).thru
  back_body last n format.canonical (tree.canonical ns ls es xs ys) rs m fine c b h o =
      back_canonical L types owns unreserved anywhere width n ns ls es xs ys rs m fine.0 fine.1 fine.2 b (none_the (codes "{") 123 (after_space m) refl (apart_none (codes "{") last (after_space m) c o))
  back_body last n (format.custom ds) (tree.canonical ns ls es xs ys) rs m fine c b h o = absurd fine
  back_body last n format.canonical (tree.custom ps) rs m fine c b h o = absurd fine

  body_ends : (body : Body P T A) (ss : List Text) (m : Text) → Ends m → Ends (spell.body L body ss ++ m)
  body_ends (tree.custom ps) ss m h = (ends_parts L types owns unreserved anywhere) ps ss m h
  body_ends (tree.canonical ns ls es xs ys) ss m h = inr refl

  is_of : (f : Format) (body : Body P T A) (rs : Inner) → IsSpellableBody L f body rs → IsOf f body
  is_of (format.custom ds) (tree.custom ps) rs fine = fine.1
  is_of format.canonical (tree.canonical ns ls es xs ys) rs fine = tt
  is_of (format.custom ds) (tree.canonical ns ls es xs ys) rs fine = absurd fine
  is_of format.canonical (tree.custom ps) rs fine = absurd fine

  -- what follows an operation: after its mark, or after its text if it has no mark
  record After (last : List ℕ) (mark : Option (Mark P)) (f : Text) : Type 0 where
    ends : Ends f
    one : OneOf last (after_space (spell.mark_if L mark ++ f))
    unmarked : mark ≡ None → begins (the 33) (after_space f) ≡ false

  back_operation : (last : List ℕ) (n : ℕ) (op : Op P T A) (rs : Inner) (f : Text) → IsSpellableOp L op rs → Closes last op.body rs → BackRegions n rs → After last op.mark f
      → Reaches (reads.operation_read L op (reads.region_readings L rs)) (spell.operation_text L op (spell.region_texts L width n rs) ++ f) f
  back_operation last n op rs f fine c b h =
      let ss = spell.region_texts L width n rs in
      let body = spell.body L op.body ss in
      let m = spell.mark_if L op.mark ++ f in
      let me = mark_ends op.mark f h.ends in
      let parts = back_body last n fine.its_format op.body rs m fine.body c b me h.one in
      let v = (unwhite L types owns unreserved anywhere) (parts_of op.body) (reads.region_readings L rs) (body ++ m) parts.left parts.reading in
      let k = back_mark_if op.mark f fine.mark h.ends h.unmarked in
      let id = op.id in
      let x = id.name ++ (body ++ m) in
      let tight = word_tight (id.dialect ++ (46 ∷ x)) (identifier_begins id.dialect (46 ∷ x) fine.dialect) in
      let rest : Reaches (reads.id id ▸ reads.parts L (parts_of op.body) (reads.region_readings L rs) ▹ reads.mark_if L op.mark) (id.dialect ++ (46 ∷ x)) f =
      record {
        left = k.left;
        reading = (
          body ++ m,
          subst (λ t. reads.id id t (body ++ m)) (sym tight) (id_stops id (body ++ m) fine.dialect fine.name (body_ends op.body ss m me)),
          (v.0, v.1, subst (λ t. reads.mark_if L op.mark t k.left) (sym (v.2 ∙ parts.same)) k.reading),
        );
        same = k.same;
      } in
      let all = reaches_white (reaches_then (back_results op.names id.dialect x fine.names fine.dialect) rest) in
      reaches_from {t' = spell.results L op.names ++ (id.dialect ++ (46 ∷ x))} (ap after_space (regroup (spell.results L op.names) id.dialect id.name body (spell.mark_if L op.mark) f))
      (record { left = all.left; reading = (anywhere op.place _, ((fine.its_format, fine.is_format, is_of fine.its_format op.body rs fine.body), all.reading)); same = all.same })

  closes_inside : (f : Format) (body : Body P T A) (rs : Inner) → IsSpellableBody L f body rs → Closes (followers []) body rs
  closes_inside (format.custom ds) (tree.custom ps) rs fine = apart_inside ps ds rs fine.1 fine.0
  closes_inside format.canonical (tree.canonical ns ls es xs ys) rs fine = disjoint_law (codes "{") (followers []) refl
  closes_inside (format.custom ds) (tree.canonical ns ls es xs ys) rs fine = absurd fine
  closes_inside format.canonical (tree.custom ps) rs fine = absurd fine

  -- before what can follow any operation
  back_inside : (n : ℕ) (op : Op P T A) (rs : Inner) (f : Text) → IsSpellableOp L op rs → BackRegions n rs → AfterOperation op.mark f
      → Reaches (reads.operation_read L op (reads.region_readings L rs)) (spell.operation_text L op (spell.region_texts L width n rs) ++ f) f
  back_inside n op rs f fine b h = back_operation (followers []) n op rs f fine (closes_inside fine.its_format op.body rs fine.body) b
      (record { ends = h.ends; one = mark_one op.mark f h; unmarked = λ e. no_bang (after_space f) (h.one e) })

  closes_outside : (f : Format) (body : Body P T A) (brace : Brace P) (bs : Blocks (Op P T A) (Head P T A) (Brace P)) (rs : Inner) → IsSpellableBody L f body (region brace bs rs)
      → ((ds : List format.Directive) → f ≡ format.custom ds → c7 ds ≡ true) → Closes (codes "_") body (region brace bs rs)
  closes_outside (format.custom ds) (tree.custom ps) brace bs rs fine s = apart_outside ps ds brace bs rs fine.1 (s ds refl) fine.0 fine.3
  closes_outside format.canonical (tree.canonical ns ls es xs ys) brace bs rs fine s = disjoint_law (codes "{") (codes "_") refl
  closes_outside (format.custom ds) (tree.canonical ns ls es xs ys) brace bs rs fine s = absurd fine
  closes_outside format.canonical (tree.custom ps) brace bs rs fine s = absurd fine

  -- an operation without a mark, before a section
  back_outside : (n : ℕ) (op : Op P T A) (rs : Inner) (f : Text) → IsSpellableOp L op rs → has_region rs ≡ true → ((ds : List format.Directive) → L.format_of op.id ≡ Some (format.custom ds) → c7 ds ≡ true)
      → BackRegions n rs → op.mark ≡ None → Ends f → OneOf (codes "_") (after_space f)
      → Reaches (reads.operation_read L op (reads.region_readings L rs)) (spell.operation_text L op (spell.region_texts L width n rs) ++ f) f
  back_outside n op no_regions f fine one s b unmarked h o = absurd (true≢false (sym one))
  back_outside n op (region brace bs rs) f fine one s b unmarked h o =
      back_operation (codes "_") n op (region brace bs rs) f fine (closes_outside fine.its_format op.body brace bs rs fine.body (λ ds e. s ds (fine.is_format ∙ ap Some e))) b (record {
        ends = h;
        one = subst (λ m. OneOf (codes "_") (after_space (spell.mark_if L m ++ f))) (sym unmarked) o;
        unmarked = λ e. none_the (codes "!") 33 (after_space f) refl (disjoint_none (codes "!") (codes "_") (after_space f) refl o);
      })

  -- blocks
  abbrev pub Leaves : Type 0
  Leaves = Blocks (Op P T A) (Head P T A) (Brace P)

  -- operations, one after another
  abbrev pub Steps : Type 0
  Steps = Operations (Op P T A) (Head P T A) (Brace P)

  -- the text of each of the operations is parsed back
  abbrev pub BackOperations : ℕ → Steps → Type 0
  BackOperations n no_operations = ⊤
  BackOperations n (operation o rs os) = ((f : Text) → AfterOperation o.mark f → Reaches (reads.operation_read L o (reads.region_readings L rs)) (spell.operation_text L o (spell.region_texts L width n rs) ++ f) f) × BackOperations n os

  -- what may follow a block
  pub record AfterBlock (f : Text) : Type 0 where
    pub ends : Ends f
    pub one : OneOf (codes "}^") (after_space f)

  after_block : (m : Option (Mark P)) (f : Text) → AfterBlock f → AfterOperation m f
  after_block m f h = record { ends = h.ends; one = λ e. (oneof_right L types owns unreserved anywhere) (codes ";") (codes "}^") (after_space f) h.one }

  abbrev apart : ℕ → Text
  apart k = 59 ∷ newline k

  after_semicolon : (m : Option (Mark P)) (k : ℕ) (t f : Text) → AfterOperation m ((apart k ++ t) ++ f)
  after_semicolon m k t f = record { ends = inr refl; one = λ e. inr refl }

  after_further : (n k : ℕ) (m : Option (Mark P)) (os : Steps) (f : Text) → AfterBlock f → AfterOperation m (joined_from (apart k) (spell.operation_texts L width n os) ++ f)
  after_further n k m no_operations f h = after_block m f h
  after_further n k m (operation o rs os) f h = after_semicolon m k (spell.operation_text L o (spell.region_texts L width n rs) ++ joined_from (apart k) (spell.operation_texts L width n os)) f

  back_steps_more : (n k : ℕ) (os : Steps) (f : Text) → BackOperations n os → AfterBlock f
      → Reaches (more 59 (reads.operation_readings L os)) (joined_from (apart k) (spell.operation_texts L width n os) ++ f) f
  back_steps_more n k no_operations f b h = reaches_ends (the 59) f (none_the (codes ";") 59 (after_space f) refl (disjoint_none (codes ";") (codes "}^") (after_space f) refl h.one))
  back_steps_more n k (operation o rs os) f b h =
      let x = spell.operation_text L o (spell.region_texts L width n rs) in
      let j = joined_from (apart k) (spell.operation_texts L width n os) in
      let r = reaches_then (b.0 (j ++ f) (after_further n k o.mark os f h)) (back_steps_more n k os f b.1 h) in
      reaches_then (reaches_literal 59 [] ((newline k ++ (x ++ j)) ++ f) refl)
      (reaches_from (ap after_space (append_assoc (newline k) (x ++ j) f) ∙ newline_white k ((x ++ j) ++ f) ∙ ap after_space (append_assoc x j f)) r)

  none_operation : (t : Text) → NoneOf (codes "_=") t → begins (λ c. begins_word c || c == 61) t ≡ false
  none_operation [] e = refl
  none_operation (c ∷ t) e = both_false (begins_word c) (c == 61) (none_word (codes "_=") (c ∷ t) refl e) (none_the (codes "_=") 61 (c ∷ t) refl e)
    where
      both_false : (a b : Bool) → a ≡ false → b ≡ false → (a || b) ≡ false
      both_false true b e f = e
      both_false false b e f = f

  back_steps : (n k : ℕ) (os : Steps) (f : Text) → BackOperations n os → AfterBlock f
      → Reaches (separated 59 reads.no_operation (reads.operation_readings L os)) (joined (apart k) (spell.operation_texts L width n os) ++ f) f
  back_steps n k no_operations f b h = record {
    left = after_space f;
    reading = (
      ap (begins (λ c. begins_word c || c == 61)) (after_twice is_whitespace f)
          ∙ none_operation (after_space f) (disjoint_none (codes "_=") (codes "}^") (after_space f) refl h.one),
      refl,
    );
    same = after_twice is_whitespace f;
  }
  back_steps n k (operation o rs os) f b h =
      let x = spell.operation_text L o (spell.region_texts L width n rs) in
      let j = joined_from (apart k) (spell.operation_texts L width n os) in
      let r : Reaches (reads.operation_read L o (reads.region_readings L rs) ▹ more 59 (reads.operation_readings L os)) ((x ++ j) ++ f) f =
      reaches_then (reaches_from (ap after_space (append_assoc x j f)) (b.0 (j ++ f) (after_further n k o.mark os f h))) (back_steps_more n k os f b.1 h) in
      record { left = r.left; reading = r.reading; same = r.same }

  back_argument : (a : Name P × T) (f : Text) → IsSpellableArgument L a → Ends f → Reaches (reads.argument L a) (spell.argument L a ++ f) f
  back_argument a f g h = reaches_then (reaches_from (ap after_space (append_assoc a.0.text (58 ∷ 32 ∷ L.types.written a.1) f)) ((back_name L types owns unreserved anywhere) a.0 (58 ∷ 32 ∷ (L.types.written a.1 ++ f)) g (inr refl)))
      (reaches_then (reaches_literal 58 [] (32 ∷ (L.types.written a.1 ++ f)) refl) (reaches_from refl ((back_type L types owns unreserved anywhere) a.1 f h)))

  no_bracket : (m : Option (Mark P)) (x f : Text) → begins (the 91) (after_space (spell.mark_if L m ++ (58 ∷ x))) ≡ false
  no_bracket None x f = refl
  no_bracket (Some m) x f = refl

  back_dictionary_if : (es : Option (List (Name P × Attribute A))) (f : Text) → AreSpellableEntries L es → begins (the 91) (after_space f) ≡ false → Reaches (reads.dictionary_if L es) (spell.dictionary_if L es ++ f) f
  back_dictionary_if None f g h = reaches_ends (the 91) f h
  back_dictionary_if (Some es) f g h = reaches_from refl ((back_dictionary L types owns unreserved anywhere) es f g)

  regroup_block : (l a d m k o f : Text) → ((94 ∷ l) ++ (codes "(" ++ (a ++ (codes ")" ++ (d ++ (m ++ (codes ":" ++ (k ++ o)))))))) ++ f
      ≡ 94 ∷ (l ++ (40 ∷ (a ++ (41 ∷ (d ++ (m ++ (58 ∷ (k ++ (o ++ f)))))))))
  regroup_block l a d m k o f = simp append_assoc

  back_block : (n : ℕ) (h : Head P T A) (os : Steps) (f : Text) → IsSpellableHead L h → BackOperations (n + width) os → AfterBlock f
      → Reaches (reads.block_read L h (reads.operation_readings L os)) (spell.block_text L width n h (spell.operation_texts L width (n + width) os) ++ f) f
  back_block n h os f fine b e =
      let k = n + width in
      let o = joined (apart k) (spell.operation_texts L width k os) in
      let s = spell.mark_if L h.mark in
      let d = spell.dictionary_if L h.attributes in
      let a = joined comma (map (spell.argument L) h.arguments) in
      let t6 = 58 ∷ (newline k ++ (o ++ f)) in
      let r6 : Reaches (literal (codes ":") ▹ separated 59 reads.no_operation (reads.operation_readings L os)) t6 f =
      reaches_then (reaches_literal 58 [] (newline k ++ (o ++ f)) refl) (reaches_from (newline_white k (o ++ f)) (back_steps k k os f b e)) in
      let r5 = reaches_then (back_mark_if h.mark t6 fine.mark (inr refl) (λ e. refl)) r6 in
      let r4 = reaches_then (back_dictionary_if h.attributes (s ++ t6) fine.attributes (no_bracket h.mark (newline k ++ (o ++ f)) f)) r5 in
      let r3 = reaches_then (reaches_literal 41 [] (d ++ (s ++ t6)) refl) r4 in
      let r2 = reaches_then (back_list (reads.argument L) (spell.argument L) (IsSpellableArgument L) back_argument reads.no_word h.arguments (41 ∷ (d ++ (s ++ t6))) fine.arguments (inr refl) refl refl) r3 in
      let r1 = reaches_then (reaches_literal 40 [] (a ++ (41 ∷ (d ++ (s ++ t6)))) refl) r2 in
      let g = 40 ∷ (a ++ (41 ∷ (d ++ (s ++ t6)))) in
      let l : Reaches (reads.label L h.label) (94 ∷ (h.label.text ++ g)) g = (here L types owns unreserved anywhere) h.label.place (record { left = g; reading = (h.label.text ++ g, refl, identifier_stops h.label.text g fine.label refl); same = refl }) in
      reaches_from (ap after_space (regroup_block h.label.text a d s (newline k) o f)) (reaches_then l r1)

  -- regions
  abbrev pub BackBlocks : ℕ → Leaves → Type 0
  BackBlocks n no_blocks = ⊤
  BackBlocks n (block h os bs) = ((f : Text) → AfterBlock f → Reaches (reads.block_read L h (reads.operation_readings L os)) (spell.block_text L width n h (spell.operation_texts L width (n + width) os) ++ f) f) × BackBlocks n bs

  abbrev gap : ℕ → Text
  gap k = 10 ∷ newline k

  abbrev shut : ℕ → Text → Text
  shut n f = newline n ++ (125 ∷ f)

  after_blocks : (n k m : ℕ) (bs : Leaves) (f : Text) → AfterBlock (joined_from (gap k) (spell.block_texts L width m bs) ++ shut n f)
  after_blocks n k m no_blocks f = record { ends = inr refl; one = subst (λ t. OneOf (codes "}^") t) (sym (newline_white n (125 ∷ f))) (inr refl) }
  after_blocks n k m (block h os bs) f =
      let x = spell.block_text L width m h (spell.operation_texts L width (m + width) os) in
      let j = joined_from (gap k) (spell.block_texts L width m bs) in
      record { ends = inr refl; one = subst (λ t. OneOf (codes "}^") t) (sym (ap after_space (append_assoc (newline k) (x ++ j) (shut n f)) ∙ newline_white k ((x ++ j) ++ shut n f))) (inr refl) }

  -- a block before blocks that are parsed back
  back_leaf : (n k m : ℕ) (h : Head P T A) (os : Operations (Op P T A) (Head P T A) (Brace P)) (bs : Leaves) (f : Text) → BackBlocks m (block h os bs)
      → Reaches (repeated (the 94) (reads.block_readings L bs)) (joined_from (gap k) (spell.block_texts L width m bs) ++ shut n f) (shut n f)
      → Reaches (repeated (the 94) (reads.block_readings L (block h os bs))) (joined (gap k) (spell.block_texts L width m (block h os bs)) ++ shut n f) (shut n f)
  back_leaf n k m h os bs f b r =
      let x = spell.block_text L width m h (spell.operation_texts L width (m + width) os) in
      let j = joined_from (gap k) (spell.block_texts L width m bs) in
      let first : Reaches (repeated (the 94) (reads.block_readings L (block h os bs))) (x ++ (j ++ shut n f)) (shut n f) = reaches_then (b.0 (j ++ shut n f) (after_blocks n k m bs f)) r in
      reaches_from (ap after_space (append_assoc x j (shut n f))) first

  back_leaves_more : (n k m : ℕ) (bs : Leaves) (f : Text) → BackBlocks m bs → Reaches (repeated (the 94) (reads.block_readings L bs)) (joined_from (gap k) (spell.block_texts L width m bs) ++ shut n f) (shut n f)
  back_leaves_more n k m no_blocks f b = reaches_ends (the 94) (shut n f) (ap (begins (the 94)) (newline_white n (125 ∷ f)))
  back_leaves_more n k m (block h os bs) f b =
      let all = joined (gap k) (spell.block_texts L width m (block h os bs)) in
      reaches_from (ap after_space (append_assoc (newline k) all (shut n f)) ∙ newline_white k (all ++ shut n f)) (back_leaf n k m h os bs f b (back_leaves_more n k m bs f b.1))

  back_leaves : (n k m : ℕ) (bs : Leaves) (f : Text) → BackBlocks m bs → Reaches (repeated (the 94) (reads.block_readings L bs)) (joined (gap k) (spell.block_texts L width m bs) ++ shut n f) (shut n f)
  back_leaves n k m no_blocks f b = back_leaves_more n k m no_blocks f b
  back_leaves n k m (block h os bs) f b = back_leaf n k m h os bs f b (back_leaves_more n k m bs f b.1)

  regroup_region : (i k j n f : Text) → (i ++ (codes "{" ++ (k ++ (j ++ (n ++ codes "}"))))) ++ f ≡ i ++ (123 ∷ (k ++ (j ++ (n ++ (125 ∷ f)))))
  regroup_region i k j n f = simp append_assoc

  back_region : (n : ℕ) (brace : Brace P) (bs : Leaves) (f : Text) → IsRead L brace bs → BackBlocks (n + width) bs
      → Reaches (reads.region_read L brace (reads.block_readings L bs)) (spell.region_text L width n brace (spell.block_texts L width (n + width) bs) ++ f) f
  back_region n elided no_blocks f s b = record { left = f; reading = s f; same = refl }
  back_region n elided (block h os bs) f s b = absurd s
  back_region n (shown p) bs f s b =
      let k = n + width in
      let j = joined (gap k) (spell.block_texts L width k bs) in
      let r2 : Reaches (literal (codes "}")) (shut n f) f = reaches_from (newline_white n (125 ∷ f)) (reaches_literal 125 [] f refl) in
      let r1 : Reaches (repeated (the 94) (reads.block_readings L bs) ▹ literal (codes "}")) (j ++ shut n f) f = reaches_then (back_leaves n k k bs f b) r2 in
      let r0 : Reaches (reads.region_read L (shown p) (reads.block_readings L bs)) (123 ∷ (newline k ++ (j ++ shut n f))) f =
      (here L types owns unreserved anywhere) p (reaches_then (reaches_literal 123 [] (newline k ++ (j ++ shut n f)) refl) (reaches_from (newline_white k (j ++ shut n f)) r1)) in
      reaches_from (ap after_space (regroup_region (newline n) (newline k) j (newline n) f) ∙ newline_white n (123 ∷ (newline k ++ (j ++ shut n f)))) r0

  mutual
    regions_back : (n : ℕ) (rs : Inner) → WritableRegions L rs → BackRegions n rs
    regions_back n no_regions w = tt
    regions_back n (region brace bs rs) w = (λ f. back_region n brace bs f w.0 (blocks_back (n + width) bs w.1), regions_back n rs w.2)

    blocks_back : (n : ℕ) (bs : Leaves) → WritableBlocks L bs → BackBlocks n bs
    blocks_back n no_blocks w = tt
    blocks_back n (block h os bs) w = (λ f e. back_block n h os f w.0 (operations_back (n + width) os w.1) e, blocks_back n bs w.2)

    operations_back : (n : ℕ) (os : Steps) → WritableOperations L os → BackOperations n os
    operations_back n no_operations w = tt
    operations_back n (operation o rs os) w = (λ f e. back_inside n o rs f w.0 (regions_back n rs w.1) e, operations_back n os w.2)

  reading_of : (n : ℕ) (t : Tree P T A) (f : Text) → Reaches (reads.operation_read L t.own (reads.region_readings L t.regions)) (spell.spelled L width n t ++ f) f
      → (u : Text) × reads.reads L t (spell.spelled L width n t ++ f) u × (after_space u ≡ after_space f)
  reading_of n t f r =
      let text = spell.spelled L width n t ++ f in
      let X : Reading = reads.results_if L t.own.names ▹ reads.id t.own.id ▸ reads.parts L (parts_of t.own.body) (reads.region_readings L t.regions) ▹ reads.mark_if L t.own.mark in
      (r.left, (anywhere t.own.place text, (r.reading.1.0, subst (λ s. X s r.left) (after_twice is_whitespace text) r.reading.1.1)), r.same)

  -- What is written of a tree parses as that tree, up to what follows.
  pub reads_back : (n : ℕ) (t : Tree P T A) (f : Text) → Writable L t → AfterOperation t.own.mark f → (u : Text) × reads.reads L t (spell.spelled L width n t ++ f) u × (after_space u ≡ after_space f)
  reads_back n t f w h = reading_of n t f (back_inside n t.own t.regions f w.0 (regions_back n t.regions w.1) h)

  -- The same of a root, before a section too.
  pub root_reads_back : (n : ℕ) (t : Tree P T A) (f : Text) → Writable L t → AfterRoot L t f → (u : Text) × reads.reads L t (spell.spelled L width n t ++ f) u × (after_space u ≡ after_space f)
  root_reads_back n t f w h = go t.own.mark refl
    where
      go : (m : Option (Mark P)) → t.own.mark ≡ m → (u : Text) × reads.reads L t (spell.spelled L width n t ++ f) u × (after_space u ≡ after_space f)
      go (Some m) e = reads_back n t f w (record { ends = h.ends; one = λ e'. let f : None ≡ Some m = sym e' ∙ e in absurd (cc f) })
      go None e = either (h.one e)
        where
          either : OneOf (codes ";}^") (after_space f) ⊎ Deep L t × OneOf (codes "_") (after_space f) → (u : Text) × reads.reads L t (spell.spelled L width n t ++ f) u × (after_space u ≡ after_space f)
          either (inl o) = reads_back n t f w (record { ends = h.ends; one = λ e. o })
          either (inr (d, o)) = reading_of n t f (back_outside n t.own t.regions f w.0 d.has_one d.regions_last (regions_back n t.regions w.1) e h.ends o)
