-- A dictionary whose inline attributes are parsed after an item, and whose outlined ones are parsed in its entry, is the item's own, except
-- that the parsed names are allowed under the reserved key.
use Rattle.std.proofs.Common.{◌≡◌, Bool, true, false, cond, not, ◌||◌, List, [], ◌∷◌, ◌++◌, map, filter, Option, Some, None, refl, sym, ap, ◌∙◌, ◌⊎◌, inl, inr, subst, true≢false, ◌&&◌, ap₂}
use Rattle.irtext_base.specs.Text.{Text}
use Rattle.irtext_base.specs.Format.{same_text, given_names_key, block_label_key}
use Rattle.irtext_grammar.specs.Grammar.Tree.{Attribute, given_names, ident, own}
use Rattle.irtext_grammar.specs.Graphs.Graph.{Printing, outlined, is_marked, lookup, label_entry}
use Rattle.irtext_grammar.specs.Names.Acts.{may_hold, is_given, block_may_hold}
use Rattle.irtext_grammar.specs.Graphs.Build.{put_all, read_names, with_content, labelled, but_label, label_among}
use Rattle.irtext_grammar.specs.Graphs.ReservedKeys.{KeepsKeys, KeepsRule}
use Rattle.irtext_grammar.specs.Graphs.RoundTrip.{KeysDiffer}
use Rattle.irtext_grammar.specs.Graphs.Same.{SameDictionary}
use Rattle.irtext_grammar.proofs.Lists.Lists.{or_else}
use Rattle.irtext_grammar.proofs.Graphs.FitsFormat.{and_left, and_right}
use Rattle.irtext_grammar.proofs.Lists.SameText.{same_text_true}
use Rattle.irtext_grammar.proofs.Lists.Dictionaries.{last_of, last_both, lookup_put_all, passing, Picks, last_passing, picks_filter}
use Rattle.irtext_grammar.proofs.Lists.Numbering.{some_inside}

-- an attribute under a key is one that the key may have
key_kept : {A : Type 0} (es : List (Text × Attribute A)) (key : Text) (a : Attribute A) → KeepsKeys es → lookup key es ≡ Some a → may_hold key a ≡ true
key_kept [] key a h e = cc
key_kept (d ∷ es) key a h e = go (same_text key d.0) refl e (key_kept es key a (and_right (may_hold d.0 d.1) _ h))
  where
    go : (b : Bool) → same_text key d.0 ≡ b → cond b (Some d.1) (lookup key es) ≡ Some a → (lookup key es ≡ Some a → may_hold key a ≡ true) → may_hold key a ≡ true
    go true k e f = subst (λ z. may_hold key z ≡ true) (some_inside d.1 a e) (subst (λ z. may_hold z d.1 ≡ true) (sym (same_text_true key d.0 k)) (and_left (may_hold d.0 d.1) _ h))
    go false k e f = f e

-- ---- a block's dictionary has no label
pub block_keeps : {A : Type 0} (es : List (Text × Attribute A)) → KeepsRule block_may_hold es → KeepsKeys es
block_keeps [] h = refl
block_keeps (e ∷ es) h = ap₂ ◌&&◌ (and_left (may_hold e.0 e.1) _ (and_left (block_may_hold e.0 e.1) _ h)) (block_keeps es (and_right (block_may_hold e.0 e.1) _ h))

no_label : {A : Type 0} (es : List (Text × Attribute A)) → KeepsRule block_may_hold es → filter (λ e. not (same_text e.0 block_label_key)) es ≡ es
no_label [] h = refl
no_label (e ∷ es) h =
    ap (λ b. cond b (e ∷ filter (λ e. not (same_text e.0 block_label_key)) es) (filter (λ e. not (same_text e.0 block_label_key)) es)) (and_right (may_hold e.0 e.1) _ (and_left (block_may_hold e.0 e.1) _ h))
    ∙ ap (λ z. e ∷ z) (no_label es (and_right (block_may_hold e.0 e.1) _ h))

label_stays : {A : Type 0} (l : Text) (es : List (Text × Attribute A)) → KeepsRule block_may_hold es → label_among l es ≡ l
label_stays l [] h = refl
label_stays l (e ∷ es) h = go (same_text e.0 block_label_key) (and_right (may_hold e.0 e.1) _ (and_left (block_may_hold e.0 e.1) _ h)) (label_stays l es (and_right (block_may_hold e.0 e.1) _ h))
  where
    go : (b : Bool) → not b ≡ true → label_among l es ≡ l → label_among (cond b (elim e.1 [ ident n ↦ n | _ ↦ l ]) l) es ≡ l
    go true h f = absurd (true≢false (sym h))
    go false h f = f

module _ {T A : Type 0} (C : Printing T A) where
  -- whether an attribute is printed after its item
  abbrev pub inlined : Attribute A → Bool
  inlined a = not (outlined C a)

  given_outlined : (a : Attribute A) → is_given a ≡ true → outlined C a ≡ true
  given_outlined (given_names ns) h = refl
  given_outlined (ident n) h = absurd (true≢false (sym h))
  given_outlined (own x) h = absurd (true≢false (sym h))

  -- what a mark's entry adds
  pub content_added : {Y : Type 0} (l : Option Text) (es base : List (Text × Attribute A)) (y : Y) → with_content base (cond (is_marked C l es) (Some (y, es)) None) ≡ put_all base es
  content_added (Some t) es base y = refl
  content_added None [] base y = refl
  content_added None (e ∷ es) base y = refl

  -- what it adds to a block's dictionary, and what it makes of its label
  pub content_but_label : {Y : Type 0} (l o : Option Text) (es base : List (Text × Attribute A)) (y : Y) → KeepsRule block_may_hold es
      → with_content base (but_label (cond (is_marked C l (label_entry o ++ es)) (Some (y, label_entry o ++ es)) None)) ≡ put_all base es
  content_but_label None None [] base y h = refl
  content_but_label None None (e ∷ es) base y h = ap (put_all base) (no_label (e ∷ es) h)
  content_but_label None (Some n) es base y h = ap (put_all base) (no_label es h)
  content_but_label (Some t) None es base y h = ap (put_all base) (no_label es h)
  content_but_label (Some t) (Some n) es base y h = ap (put_all base) (no_label es h)

  -- the label of a block with its entry: the one that the entry gives, or else the one that was parsed
  pub content_label : {Y : Type 0} (l o : Option Text) (es : List (Text × Attribute A)) (t : Text) (y : Y) → KeepsRule block_may_hold es
      → labelled t (cond (is_marked C l (label_entry o ++ es)) (Some (y, label_entry o ++ es)) None) ≡ elim o [ Some n ↦ n | None ↦ t ]
  content_label None None [] t y h = refl
  content_label None None (e ∷ es) t y h = label_stays t (e ∷ es) h
  content_label None (Some n) es t y h = label_stays n es h
  content_label (Some s) None es t y h = label_stays t es h
  content_label (Some s) (Some n) es t y h = label_stays n es h

  module _ (names : List Text) (es shown : List (Text × Attribute A)) (d : KeysDiffer es) (keeps : KeepsKeys es) (p : Picks inlined es shown) where
    abbrev base : List (Text × Attribute A)
    base = put_all [] (shown ++ read_names names)

    -- what a key has then
    has_then : (key : Text) → lookup key (put_all base (filter (λ e. outlined C e.1) es))
        ≡ or_else (passing (outlined C) (lookup key es)) (or_else (or_else (last_of key (read_names names)) (passing inlined (lookup key es))) None)
    has_then key =
        lookup_put_all key base (filter (λ e. outlined C e.1) es)
        ∙ (ap (λ o. or_else o (lookup key base)) (last_passing (outlined C) es _ (picks_filter (outlined C) es d) key)
        ∙ ap (or_else (passing (outlined C) (lookup key es))) (lookup_put_all key [] (shown ++ read_names names)
        ∙ ap (λ o. or_else o None) (last_both key shown (read_names names) ∙ ap (or_else (last_of key (read_names names))) (last_passing inlined es shown p key))))

    unnamed : (o : Option (Attribute A)) → or_else (passing (outlined C) o) (or_else (passing inlined o) None) ≡ o
    unnamed None = refl
    unnamed (Some a) = go (outlined C a)
      where
        go : (b : Bool) → or_else (cond b (Some a) None) (or_else (cond (not b) (Some a) None) None) ≡ Some a
        go true = refl
        go false = refl

    other_key : (ns : List Text) (key : Text) → same_text key given_names_key ≡ false → last_of key (read_names {A = A} ns) ≡ None
    other_key [] key h = refl
    other_key (n ∷ ns) key h = ap (λ b. cond b (Some (given_names (map Some (n ∷ ns)))) None) h

    reserved : (ns : List Text) (key : Text) → same_text key given_names_key ≡ true → (o : Option (Attribute A)) → lookup key es ≡ o
        → (or_else (passing (outlined C) o) (or_else (or_else (last_of key (read_names ns)) (passing inlined o)) None) ≡ o)
        ⊎ ((key ≡ given_names_key) × (o ≡ None) × (ns ≡ [] → ⊥) × (or_else (passing (outlined C) o) (or_else (or_else (last_of key (read_names ns)) (passing inlined o)) None) ≡ Some (given_names (map Some ns))))
    reserved ns key h (Some a) e =
        let g : is_given a ≡ true = ap (λ b. not b || is_given a) (sym h) ∙ key_kept es key a keeps e in
        inl (ap (λ b. or_else (cond b (Some a) None) (or_else (or_else (last_of key (read_names ns)) (passing inlined (Some a))) None)) (given_outlined a g))
    reserved [] key h None e = inl refl
    reserved (n ∷ ns) key h None e =
        inr (same_text_true key given_names_key h, refl, (λ q. no n ns q), ap (λ b. or_else (or_else (cond b (Some (given_names (map Some (n ∷ ns)))) None) None) None) h)
      where
        no : {X : Type 0} (x : X) (xs : List X) → x ∷ xs ≡ [] → ⊥
        no x xs q = cc

    -- a dictionary with its outlined attributes put in again is the item's own
    pub same_dictionary : SameDictionary names es (put_all base (filter (λ e. outlined C e.1) es))
    same_dictionary key = go (same_text key given_names_key) refl
      where
        go : (b : Bool) → same_text key given_names_key ≡ b → (lookup key (put_all base (filter (λ e. outlined C e.1) es)) ≡ lookup key es)
            ⊎ ((key ≡ given_names_key) × (lookup key es ≡ None) × (names ≡ [] → ⊥) × (lookup key (put_all base (filter (λ e. outlined C e.1) es)) ≡ Some (given_names (map Some names))))
        go false h = inl (has_then key ∙ (ap (λ z. or_else (passing (outlined C) (lookup key es)) (or_else (or_else z (passing inlined (lookup key es))) None)) (other_key names key h) ∙ unnamed (lookup key es)))
        go true h = pick (reserved names key h (lookup key es) refl)
          where
            pick : (or_else (passing (outlined C) (lookup key es)) (or_else (or_else (last_of key (read_names names)) (passing inlined (lookup key es))) None) ≡ lookup key es)
                ⊎ ((key ≡ given_names_key) × (lookup key es ≡ None) × (names ≡ [] → ⊥) × (or_else (passing (outlined C) (lookup key es)) (or_else (or_else (last_of key (read_names names)) (passing inlined (lookup key es))) None) ≡ Some (given_names (map Some names))))
                → (lookup key (put_all base (filter (λ e. outlined C e.1) es)) ≡ lookup key es)
                ⊎ ((key ≡ given_names_key) × (lookup key es ≡ None) × (names ≡ [] → ⊥) × (lookup key (put_all base (filter (λ e. outlined C e.1) es)) ≡ Some (given_names (map Some names))))
            pick (inl e) = inl (has_then key ∙ e)
            pick (inr (k, n, s, e)) = inr (k, n, s, has_then key ∙ e)
