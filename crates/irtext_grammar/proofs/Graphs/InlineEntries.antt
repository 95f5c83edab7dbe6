-- What is stored of the written parts of an operation that fits is its inline attributes.
use Rattle.std.proofs.Common.{◌≡◌, ℕ, suc, Bool, true, false, cond, not, ◌&&◌, ◌||◌, ◌==◌, List, [], ◌∷◌, ◌++◌, map, filter, filter_map, slice_get, Option, Some, None, is_some, option_map, option_and_then, refl, sym, ap, ◌∙◌, ◌⊎◌, inl, inr, subst, true≢false, append-nil}
use Rattle.std.specs.Prelude.{⊤}
use Rattle.std.specs.List.{cons_option, list_all}
use Rattle.irtext_base.specs.Text.{Text}
use Rattle.irtext_base.specs.Format as format
use Rattle.irtext_base.specs.Format.{Format, Directive, same_text, has, count, keys, is_header, is_dictionary, sym_name_key, Id}
use Rattle.irtext_grammar.specs.Spelling.Spellable.{Each}
use Rattle.irtext_grammar.specs.Grammar.Tree as tree
use Rattle.irtext_grammar.specs.Grammar.Tree.{Attribute, given_names, ident, own, Piece, Part, views, parts_of}
use Rattle.irtext_grammar.specs.Graphs.Graph.{Printing, GraphOp, value, target, inline, entries, written_keys, part_of, body_of, outlined, lookup}
use Rattle.irtext_grammar.specs.Graphs.Build.{stored, plain_entry}
use Rattle.irtext_grammar.specs.Graphs.Closed.{FitsCustom, FitsFormat}
use Rattle.irtext_grammar.specs.Names.Placeholders.{In}
use Rattle.irtext_grammar.specs.Graphs.RoundTrip.{KeysDiffer}
use Rattle.irtext_grammar.proofs.Lists.Lists.{or_else}
use Rattle.irtext_grammar.proofs.Lists.SameText.{same_text_refl, same_text_true}
use Rattle.irtext_grammar.proofs.Lists.Dictionaries.{last_of, last_both, some_else, some_first, Picks, picks_filter}
use Rattle.irtext_grammar.proofs.Graphs.DictionaryHalves.{inlined}
use Rattle.irtext_grammar.proofs.Lists.Numbering.{some_inside}
use Rattle.irtext_grammar.proofs.Lists.Each.{each_both, each_filter}

-- ---- where something is in a list
has_in : (key : Text) (ks : List Text) → has same_text key ks ≡ true → In key ks
has_in key [] h = absurd (true≢false (sym h))
has_in key (k ∷ ks) h = go (same_text key k) refl h (has_in key ks)
  where
    go : (b : Bool) → same_text key k ≡ b → (b || has same_text key ks) ≡ true → (has same_text key ks ≡ true → In key ks) → In key (k ∷ ks)
    go true e h f = inl (same_text_true key k e)
    go false e h f = inr (f h)

has_either : (key : Text) (ks js : List Text) → has same_text key (ks ++ js) ≡ true → (has same_text key ks ≡ true) ⊎ (has same_text key js ≡ true)
has_either key [] js h = inr h
has_either key (k ∷ ks) js h = go (same_text key k) h (has_either key ks js)
  where
    go : (b : Bool) → (b || has same_text key (ks ++ js)) ≡ true → (has same_text key (ks ++ js) ≡ true → (has same_text key ks ≡ true) ⊎ (has same_text key js ≡ true)) → ((b || has same_text key ks) ≡ true) ⊎ (has same_text key js ≡ true)
    go true h f = inl refl
    go false h f = f h

some_none : {X : Type 0} (x : X) → None ≡ Some x → ⊥
some_none x e = cc

in_filter_map : {X Y : Type 0} (f : X → Option Y) (y : Y) (xs : List X) → In y (filter_map f xs) → (x : X) × In x xs × (f x ≡ Some y)
in_filter_map f y [] h = absurd h
in_filter_map f y (x ∷ xs) h = go (f x) refl h (in_filter_map f y xs)
  where
    go : (o : Option _) → f x ≡ o → In y (cons_option o (filter_map f xs)) → (In y (filter_map f xs) → (z : _) × In z xs × (f z ≡ Some y)) → (z : _) × In z (x ∷ xs) × (f z ≡ Some y)
    go None e h k = let r = k h in (r.0, inr r.1, r.2)
    go (Some w) e (inl p) k = (x, inl refl, e ∙ ap Some (sym p))
    go (Some w) e (inr h) k = let r = k h in (r.0, inr r.1, r.2)

key_of : (d : Directive) (key : Text) → elim d [ format.attribute k ↦ Some k | _ ↦ None ] ≡ Some key → d ≡ format.attribute key
key_of (format.attribute k) key e = ap format.attribute (some_inside k key e)
key_of _ key e = absurd (some_none key e)

key_directive : (key : Text) (ds : List Directive) → has same_text key (keys ds) ≡ true → In (format.attribute key) ds
key_directive key ds h = let r = in_filter_map _ key ds (has_in key (keys ds) h) in subst (λ z. In z ds) (key_of r.0 key r.2) r.1

counted_in : (test : Directive → Bool) (ds : List Directive) → (count test ds == 0) ≡ false → (d : Directive) × In d ds × (test d ≡ true)
counted_in test [] h = absurd (true≢false h)
counted_in test (d ∷ ds) h = go (test d) refl h (counted_in test ds)
  where
    go : (b : Bool) → test d ≡ b → (cond b (suc (count test ds)) (count test ds) == 0) ≡ false → ((count test ds == 0) ≡ false → (d : Directive) × In d ds × (test d ≡ true)) → (e : Directive) × In e (d ∷ ds) × (test e ≡ true)
    go true e h f = (d, inl refl, e)
    go false e h f = let r = f h in (r.0, inr r.1, r.2)

the_header : (d : Directive) → is_header d ≡ true → d ≡ format.header
the_header = elim [ format.header ↦ λ e. refl | _ ↦ λ e. absurd (true≢false (sym e)) ]

the_dictionary : (d : Directive) → is_dictionary d ≡ true → d ≡ format.dictionary
the_dictionary = elim [ format.dictionary ↦ λ e. refl | _ ↦ λ e. absurd (true≢false (sym e)) ]

header_directive : (key : Text) (n : ℕ) → has same_text key (cond (n == 0) [] (sym_name_key ∷ [])) ≡ true → ((n == 0) ≡ false) × (key ≡ sym_name_key)
header_directive key n h = go (n == 0) refl h
  where
    only : (b : Bool) → same_text key sym_name_key ≡ b → (b || false) ≡ true → key ≡ sym_name_key
    only true e h = same_text_true key sym_name_key e
    only false e h = absurd (true≢false (sym h))

    go : (b : Bool) → (n == 0) ≡ b → has same_text key (cond b [] (sym_name_key ∷ [])) ≡ true → ((n == 0) ≡ false) × (key ≡ sym_name_key)
    go true e h = absurd (true≢false (sym h))
    go false e h = (e, only (same_text key sym_name_key) refl h)

-- ---- entries
pub plainly : {T A : Type 0} (C : Printing T A) (es : List (Text × Attribute A)) → map plain_entry (entries C es) ≡ es
plainly C [] = refl
plainly C (e ∷ es) = ap (λ z. e ∷ z) (plainly C es)

-- entries of other keys do not matter
last_kept : {V : Type 0} (key : Text) (test : Text → Bool) (es : List (Text × V)) → test key ≡ true → is_some (last_of key es) ≡ true → is_some (last_of key (filter (λ e. test e.0) es)) ≡ true
last_kept key test [] t h = h
last_kept key test (e ∷ es) t h = go (last_of key es) h (last_kept key test es t) (same_text key e.0) refl (test e.0) refl refl
  where
    later : (c : Bool) → is_some (last_of key (filter (λ e. test e.0) es)) ≡ true → is_some (last_of key (cond c (e ∷ filter (λ e. test e.0) es) (filter (λ e. test e.0) es))) ≡ true
    later true k = some_first (last_of key (filter (λ e. test e.0) es)) _ k
    later false k = k

    go : (o : Option _) → is_some (or_else o (cond (same_text key e.0) (Some e.1) None)) ≡ true → (is_some o ≡ true → is_some (last_of key (filter (λ e. test e.0) es)) ≡ true)
        → (b : Bool) → same_text key e.0 ≡ b → (c : Bool) → test e.0 ≡ c → test e.0 ≡ test e.0 → is_some (last_of key (cond c (e ∷ filter (λ e. test e.0) es) (filter (λ e. test e.0) es))) ≡ true
    go (Some v) h f b k c q r = later c (f refl)
    go None h f true k true q r = some_else (last_of key (filter (λ e. test e.0) es)) _ (ap (λ b. let o : Option _ = cond b (Some e.1) None in is_some o) k)
    go None h f true k false q r = absurd (true≢false (sym t ∙ (ap test (same_text_true key e.0 k) ∙ q)))
    go None h f false k c q r = absurd (true≢false (sym h ∙ ap (λ b. let o : Option _ = cond b (Some e.1) None in is_some o) k))

module _ {T A : Type 0} (C : Printing T A) (isolated : Id → Bool) (o : GraphOp T A) (d : KeysDiffer o.attributes) where
  abbrev Own : Text × Attribute A → Type 0
  Own e = (lookup e.0 o.attributes ≡ Some e.1) × (inlined C e.1 ≡ true)

  abbrev held : Option (Part ⊤ T A) → List (Text × Attribute A)
  held None = []
  held (Some p) = elim p [ tree.piece x ↦ stored x | _ ↦ [] ]

  held_then : (x : Option (Part ⊤ T A)) (ps : List (Part ⊤ T A)) → views stored (cons_option x ps) ≡ held x ++ views stored ps
  held_then None ps = refl
  held_then (Some (tree.piece x)) ps = refl
  held_then (Some (tree.region i)) ps = refl
  held_then (Some tree.regions) ps = refl

  nothing_held : {Y : Type 0} (F : Y → Piece ⊤ T A) → ((y : Y) → stored (F y) ≡ []) → (x : Option Y) → held (option_map (λ y. tree.piece (F y)) x) ≡ []
  nothing_held F h None = refl
  nothing_held F h (Some y) = h y

  inline_own : Each Own (inline C o.attributes)
  inline_own = (picks_filter (inlined C) o.attributes d).each

  module _ (ds : List Directive) where
    part_own : (e : Directive) → Each Own (held (part_of C ds o e))
    part_own (format.operand i) = subst (Each Own) (sym (nothing_held (λ v. tree.operand i (value C v)) (λ y. refl) (slice_get o.operands i))) tt
    part_own (format.successor i) = subst (Each Own) (sym (nothing_held (λ v. tree.successor i (target C v)) (λ y. refl) (slice_get o.successors i))) tt
    part_own (format.attribute key) = go (lookup key o.attributes) refl
      where
        one : (a : Attribute A) → lookup key o.attributes ≡ Some a → (b : Bool) → outlined C a ≡ b → Each Own (stored {P = ⊤} {T = T} (tree.attribute key (cond b None (Some a))))
        one a e true k = tt
        one a e false k = ((e, ap not k), tt)

        go : (x : Option (Attribute A)) → lookup key o.attributes ≡ x → Each Own (held (option_map (λ a. tree.piece (tree.attribute key (cond (outlined C a) None (Some a)))) x))
        go None e = tt
        go (Some a) e = one a e (outlined C a) refl
    part_own format.dictionary =
        subst (Each Own) (sym (plainly C (filter (λ e. not (has same_text e.0 (written_keys C ds))) (inline C o.attributes)))) (each_filter Own (λ e. not (has same_text e.0 (written_keys C ds))) (inline C o.attributes) inline_own)
    part_own (format.result_type i) = subst (Each Own) (sym (nothing_held (λ (r : ℕ × T). tree.result_type i r.1) (λ y. refl) (slice_get o.results i))) tt
    part_own format.header = go (lookup sym_name_key o.attributes) refl
      where
        go : (x : Option (Attribute A)) → lookup sym_name_key o.attributes ≡ x
            → Each Own (held (option_and_then (λ a. elim a [ ident n ↦ Some (tree.piece (tree.header (record { place = tt; text = n }))) | _ ↦ None ]) x))
        go None e = tt
        go (Some (given_names ns)) e = tt
        go (Some (ident n)) e = ((e, refl), tt)
        go (Some (own x)) e = tt
    part_own _ = tt

    parts_own : (rest : List Directive) → Each Own (views stored (filter_map (part_of C ds o) rest))
    parts_own [] = tt
    parts_own (e ∷ rest) = subst (Each Own) (sym (held_then (part_of C ds o e) (filter_map (part_of C ds o) rest))) (each_both Own (held (part_of C ds o e)) _ (part_own e) (parts_own rest))

    -- what one directive writes is among what all write
    among : (key : Text) (e : Directive) (rest : List Directive) → In e rest → is_some (last_of key (held (part_of C ds o e))) ≡ true → is_some (last_of key (views stored (filter_map (part_of C ds o) rest))) ≡ true
    among key e [] i h = absurd i
    among key e (f ∷ rest) (inl p) h =
        let ps = filter_map (part_of C ds o) rest in
        ap is_some (ap (last_of key) (held_then (part_of C ds o f) ps) ∙ last_both key (held (part_of C ds o f)) (views stored ps))
        ∙ some_else (last_of key (views stored ps)) (last_of key (held (part_of C ds o f))) (subst (λ z. is_some (last_of key (held (part_of C ds o z))) ≡ true) p h)
    among key e (f ∷ rest) (inr i) h =
        let ps = filter_map (part_of C ds o) rest in
        ap is_some (ap (last_of key) (held_then (part_of C ds o f) ps) ∙ last_both key (held (part_of C ds o f)) (views stored ps))
        ∙ some_first (last_of key (views stored ps)) (last_of key (held (part_of C ds o f))) (among key e rest i h)

    module _ (n : ℕ) (f : FitsCustom C isolated ds o n) (key : Text) (a : Attribute A) (e : lookup key o.attributes ≡ Some a) (t : inlined C a ≡ true) where
      abbrev Written : Type 0
      Written = is_some (last_of key (views stored (filter_map (part_of C ds o) ds))) ≡ true

      not_outlined : outlined C a ≡ false
      not_outlined = go (outlined C a) refl t
        where
          go : (b : Bool) → outlined C a ≡ b → not b ≡ true → b ≡ false
          go true k h = absurd (true≢false (sym h))
          go false k h = refl

      by_attribute : has same_text key (keys ds) ≡ true → Written
      by_attribute h = among key (format.attribute key) ds (key_directive key ds h) (subst (λ x. is_some (last_of key (held (option_map (λ a. tree.piece (tree.attribute key (cond (outlined C a) None (Some a)))) x))) ≡ true) (sym e) (one (outlined C a) not_outlined))
        where
          one : (b : Bool) → b ≡ false → is_some (last_of key (stored {P = ⊤} {T = T} (tree.attribute key (cond b None (Some a))))) ≡ true
          one true k = absurd (true≢false k)
          one false k = ap (λ b. let o : Option (Attribute A) = cond b (Some a) None in is_some o) (same_text_refl key)

      by_header : (count is_header ds == 0) ≡ false → key ≡ sym_name_key → Written
      by_header h k =
          let r = counted_in is_header ds h in
          among key format.header ds (subst (λ z. In z ds) (the_header r.0 r.2) r.1) (go (lookup sym_name_key o.attributes) (there (count is_header ds == 0) h f.symbol))
        where
          there : (b : Bool) → b ≡ false → (b || elim (lookup sym_name_key o.attributes) [ Some b ↦ elim b [ ident n ↦ true | _ ↦ false ] | None ↦ false ]) ≡ true
              → elim (lookup sym_name_key o.attributes) [ Some b ↦ elim b [ ident n ↦ true | _ ↦ false ] | None ↦ false ] ≡ true
          there true q s = absurd (true≢false q)
          there false q s = s

          go : (x : Option (Attribute A)) → elim x [ Some b ↦ elim b [ ident n ↦ true | _ ↦ false ] | None ↦ false ] ≡ true
              → is_some (last_of key (held (option_and_then (λ a. elim a [ ident n ↦ Some (tree.piece (tree.header (record { place = tt; text = n }))) | _ ↦ None ]) x))) ≡ true
          go None s = absurd (true≢false (sym s))
          go (Some (given_names ns)) s = absurd (true≢false (sym s))
          go (Some (ident n)) s = ap (λ b. let o : Option (Attribute A) = cond b (Some (ident n)) None in is_some o) (ap (same_text key) (sym k) ∙ same_text_refl key)
          go (Some (own x)) s = absurd (true≢false (sym s))

      by_dictionary : (count is_dictionary ds == 0) ≡ false → has same_text key (written_keys C ds) ≡ false → Written
      by_dictionary h k =
          let r = counted_in is_dictionary ds h in
          among key format.dictionary ds (subst (λ z. In z ds) (the_dictionary r.0 r.2) r.1)
          (ap (λ z. is_some (last_of key z)) (plainly C (filter (λ e. not (has same_text e.0 (written_keys C ds))) (inline C o.attributes)))
          ∙ last_kept key (λ k. not (has same_text k (written_keys C ds))) (inline C o.attributes) (ap not k) ((picks_filter (inlined C) o.attributes d).all key a e t))

      by_key : has same_text key (written_keys C ds) ≡ true → Written
      by_key h = go (has_either key (keys ds) _ h)
        where
          go : (has same_text key (keys ds) ≡ true) ⊎ (has same_text key (cond (count is_header ds == 0) [] (sym_name_key ∷ [])) ≡ true) → Written
          go (inl k) = by_attribute k
          go (inr k) = let r = header_directive key (count is_header ds) k in by_header r.0 r.1

      others : (es : List (Text × Attribute A)) → list_all (λ e. has same_text e.0 (written_keys C ds) || outlined C e.1) es ≡ true → lookup key es ≡ Some a → has same_text key (written_keys C ds) ≡ true
      others [] h q = cc
      others (x ∷ es) h q = go (same_text key x.0) refl q h (others es)
        where
          or_first : (b c : Bool) → (b || c) ≡ true → c ≡ false → b ≡ true
          or_first true c h k = refl
          or_first false c h k = absurd (true≢false (sym h ∙ k))

          split : (b c : Bool) → (b && c) ≡ true → (b ≡ true) × (c ≡ true)
          split true c h = (refl, h)
          split false c h = absurd (true≢false (sym h))

          go : (b : Bool) → same_text key x.0 ≡ b → cond b (Some x.1) (lookup key es) ≡ Some a → ((has same_text x.0 (written_keys C ds) || outlined C x.1) && list_all (λ e. has same_text e.0 (written_keys C ds) || outlined C e.1) es) ≡ true
              → (list_all (λ e. has same_text e.0 (written_keys C ds) || outlined C e.1) es ≡ true → lookup key es ≡ Some a → has same_text key (written_keys C ds) ≡ true) → has same_text key (written_keys C ds) ≡ true
          go true k q h r =
              ap (λ z. has same_text z (written_keys C ds)) (same_text_true key x.0 k)
              ∙ or_first (has same_text x.0 (written_keys C ds)) (outlined C x.1) (split (has same_text x.0 (written_keys C ds) || outlined C x.1) _ h).0 (ap (outlined C) (some_inside x.1 a q) ∙ not_outlined)
          go false k q h r = r (split (has same_text x.0 (written_keys C ds) || outlined C x.1) _ h).1 q

      written_there : Written
      written_there = go (has same_text key (written_keys C ds)) refl (count is_dictionary ds == 0) refl
        where
          go : (b : Bool) → has same_text key (written_keys C ds) ≡ b → (c : Bool) → (count is_dictionary ds == 0) ≡ c → Written
          go true k c h = by_key k
          go false k false h = by_dictionary h k
          go false k true h = by_key (others o.attributes (ap (λ z. not z || list_all (λ e. has same_text e.0 (written_keys C ds) || outlined C e.1) o.attributes) (sym h) ∙ f.others_outlined) e)

  -- what is stored of the written parts is the inline attributes
  pub written_picks : (n : ℕ) (f : Option Format) → FitsFormat C isolated f o n → Picks (inlined C) o.attributes (views stored (parts_of (body_of C o f)))
  written_picks n None x = absurd x
  written_picks n (Some format.canonical) x = subst (Picks (inlined C) o.attributes) (sym (append-nil _ ∙ plainly C (inline C o.attributes))) (picks_filter (inlined C) o.attributes d)
  written_picks n (Some (format.custom ds)) x = record { each = parts_own ds ds; all = λ key a e t. written_there ds n x.1 key a e t }
