-- Dictionaries as maps: what a key has after entries were put, and a dictionary that is put together again from its two halves.
use Rattle.std.proofs.Common.{◌≡◌, Bool, true, false, cond, not, ◌||◌, List, [], ◌∷◌, ◌++◌, map, filter, Option, Some, None, is_some, refl, sym, ap, ◌∙◌, subst, true≢false}
use Rattle.std.specs.Prelude.{⊤}
use Rattle.irtext_base.specs.Text.{Text}
use Rattle.irtext_base.specs.Format.{same_text, has, distinct}
use Rattle.irtext_grammar.specs.Spelling.Spellable.{Each}
use Rattle.irtext_grammar.specs.Graphs.Graph.{lookup}
use Rattle.irtext_grammar.specs.Graphs.Build.{put, put_all}
use Rattle.irtext_grammar.proofs.Lists.Lists.{or_else, or_else-none}
use Rattle.irtext_grammar.proofs.Graphs.FitsFormat.{and_left, and_right}
use Rattle.irtext_grammar.proofs.Lists.SameText.{same_text_refl, same_text_true, other_text}
use Rattle.irtext_grammar.proofs.Lists.Numbering.{some_inside}

-- the last value of a key
abbrev pub last_of : {V : Type 0} → Text → List (Text × V) → Option V
last_of key [] = None
last_of key (d ∷ ds) = or_else (last_of key ds) (cond (same_text key d.0) (Some d.1) None)

-- the last value of a key in two lists joined: that in the second, or otherwise that in the first
pub last_both : {V : Type 0} (key : Text) (xs ys : List (Text × V)) → last_of key (xs ++ ys) ≡ or_else (last_of key ys) (last_of key xs)
last_both key [] ys = sym (or_else-none (last_of key ys))
last_both key (x ∷ xs) ys = ap (λ o. or_else o (cond (same_text key x.0) (Some x.1) None)) (last_both key xs ys) ∙ go (last_of key ys)
  where
    go : (o : Option _) → or_else (or_else o (last_of key xs)) (cond (same_text key x.0) (Some x.1) None) ≡ or_else o (or_else (last_of key xs) (cond (same_text key x.0) (Some x.1) None))
    go None = refl
    go (Some v) = refl

lookup_put : {V : Type 0} (key : Text) (e : Text × V) (ds : List (Text × V)) → lookup key (put e ds) ≡ cond (same_text key e.0) (Some e.1) (lookup key ds)
lookup_put key e [] = refl
lookup_put key e (d ∷ ds) = go (same_text e.0 d.0) refl (same_text key e.0) refl (lookup_put key e ds)
  where
    later : (b : Bool) → same_text key d.0 ≡ b → same_text e.0 d.0 ≡ false → same_text key e.0 ≡ true → b ≡ false
    later true k n h = absurd (true≢false (sym (subst (λ z. same_text z d.0 ≡ true) (same_text_true key e.0 h) k) ∙ n))
    later false k n h = refl

    go : (b : Bool) → same_text e.0 d.0 ≡ b → (c : Bool) → same_text key e.0 ≡ c → lookup key (put e ds) ≡ cond (same_text key e.0) (Some e.1) (lookup key ds)
        → lookup key (cond b (e ∷ ds) (d ∷ put e ds)) ≡ cond (same_text key e.0) (Some e.1) (cond (same_text key d.0) (Some d.1) (lookup key ds))
    go true h true k i = ap (λ z. cond z (Some e.1) (lookup key ds)) k ∙ sym (ap (λ z. cond z (Some e.1) (cond (same_text key d.0) (Some d.1) (lookup key ds))) k)
    go true h false k i =
        ap (λ z. cond (same_text key e.0) (Some e.1) (cond z (Some d.1) (lookup key ds))) (sym (ap (same_text key) (sym (same_text_true e.0 d.0 h)) ∙ k))
    go false h true k i =
        ap (λ z. cond z (Some d.1) (lookup key (put e ds))) (later (same_text key d.0) refl h k)
        ∙ (i ∙ (ap (λ z. cond z (Some e.1) (lookup key ds)) k ∙ sym (ap (λ z. cond z (Some e.1) (cond (same_text key d.0) (Some d.1) (lookup key ds))) k)))
    go false h false k i =
        ap (cond (same_text key d.0) (Some d.1)) (i ∙ ap (λ z. cond z (Some e.1) (lookup key ds)) k)
        ∙ sym (ap (λ z. cond z (Some e.1) (cond (same_text key d.0) (Some d.1) (lookup key ds))) k)

-- a key has the last value that was put, else what it had
pub lookup_put_all : {V : Type 0} (key : Text) (es ds : List (Text × V)) → lookup key (put_all es ds) ≡ or_else (last_of key ds) (lookup key es)
lookup_put_all key es [] = refl
lookup_put_all key es (d ∷ ds) = lookup_put_all key (put d es) ds ∙ (ap (or_else (last_of key ds)) (lookup_put key d es) ∙ go (last_of key ds) (same_text key d.0))
  where
    go : (o : Option _) (b : Bool) → or_else o (cond b (Some d.1) (lookup key es)) ≡ or_else (or_else o (cond b (Some d.1) None)) (lookup key es)
    go None true = refl
    go None false = refl
    go (Some v) b = refl

-- ---- the entries of a dictionary whose values pass a test
abbrev pub passing : {V : Type 0} → (V → Bool) → Option V → Option V
passing test None = None
passing test (Some v) = cond (test v) (Some v) None

module _ {V : Type 0} (test : V → Bool) (es : List (Text × V)) where
  -- entries of the dictionary that pass the test, and all of them
  pub record Picks (xs : List (Text × V)) : Type 0 where
    pub each : Each (λ (e : Text × V). (lookup e.0 es ≡ Some e.1) × (test e.1 ≡ true)) xs
    pub all : (key : Text) (v : V) → lookup key es ≡ Some v → test v ≡ true → is_some (last_of key xs) ≡ true

  abbrev IsStored : Text → Option V → Type 0
  IsStored key None = ⊤
  IsStored key (Some v) = (lookup key es ≡ Some v) × (test v ≡ true)

  last_is_stored : (key : Text) (xs : List (Text × V)) → Each (λ (e : Text × V). (lookup e.0 es ≡ Some e.1) × (test e.1 ≡ true)) xs → IsStored key (last_of key xs)
  last_is_stored key [] h = tt
  last_is_stored key (x ∷ xs) h = go (last_of key xs) (last_is_stored key xs h.1) (same_text key x.0) refl
    where
      go : (o : Option V) → IsStored key o → (b : Bool) → same_text key x.0 ≡ b → IsStored key (or_else o (cond b (Some x.1) None))
      go (Some v) s b k = s
      go None s true k = (ap (λ z. lookup z es) (same_text_true key x.0 k) ∙ h.0.0, h.0.1)
      go None s false k = tt

  -- the last value of a key among the entries that are picked: its entry in the dictionary, if that passes
  pub last_passing : (xs : List (Text × V)) → Picks xs → (key : Text) → last_of key xs ≡ passing test (lookup key es)
  last_passing xs p key = go (last_of key xs) (last_is_stored key xs p.each) (lookup key es) refl (p.all key)
    where
      go : (o : Option V) → IsStored key o → (q : Option V) → lookup key es ≡ q → ((v : V) → lookup key es ≡ Some v → test v ≡ true → is_some o ≡ true) → o ≡ passing test q
      go (Some v) s q k a = sym (ap (passing test) (sym k ∙ s.0) ∙ ap (λ b. cond b (Some v) None) s.1)
      go None s None k a = refl
      go None s (Some w) k a = one (test w) refl
        where
          one : (b : Bool) → test w ≡ b → None ≡ cond b (Some w) None
          one true t = absurd (true≢false (sym (a w k t)))
          one false t = refl

-- with distinct keys, each entry is what its key has
differ : (k : Text) (e : Text) → same_text e k ≡ false → same_text k e ≡ false
differ k e h = other_text k e (λ p. true≢false (sym (same_text_refl e) ∙ (ap (same_text e) (sym p) ∙ h)))

or_none : (a b : Bool) → not (a || b) ≡ true → (a ≡ false) × (not b ≡ true)
or_none true b h = absurd (true≢false (sym h))
or_none false b h = (refl, h)

module _ {V : Type 0} where
  following : (e : Text × V) (es fs : List (Text × V)) → not (has same_text e.0 (map (λ f. f.0) fs)) ≡ true → Each (λ (f : Text × V). lookup f.0 es ≡ Some f.1) fs → Each (λ (f : Text × V). lookup f.0 (e ∷ es) ≡ Some f.1) fs
  following e es [] n h = tt
  following e es (f ∷ fs) n h =
      let r = or_none (same_text e.0 f.0) (has same_text e.0 (map (λ f. f.0) fs)) n in
      (ap (λ b. cond b (Some e.1) (lookup f.0 es)) (differ f.0 e.0 r.0) ∙ h.0, following e es fs r.1 h.1)

  -- in a list without a key twice, each key has its own entry
  pub own_lookups : (es : List (Text × V)) → distinct same_text (map (λ e. e.0) es) ≡ true → Each (λ (e : Text × V). lookup e.0 es ≡ Some e.1) es
  own_lookups [] d = tt
  own_lookups (e ∷ es) d =
      let ks = map (λ (f : Text × V). f.0) es in (
        ap (λ b. cond b (Some e.1) (lookup e.0 es)) (same_text_refl e.0),
        following e es es (and_left (not (has same_text e.0 ks)) (distinct same_text ks) d) (own_lookups es (and_right (not (has same_text e.0 ks)) (distinct same_text ks) d)),
      )

  each_passes : (Q : Text × V → Type 0) (test : V → Bool) (es : List (Text × V)) → Each Q es → Each (λ (e : Text × V). Q e × (test e.1 ≡ true)) (filter (λ e. test e.1) es)
  each_passes Q test [] h = tt
  each_passes Q test (e ∷ es) h = go (test e.1) refl (each_passes Q test es h.1)
    where
      go : (b : Bool) → test e.1 ≡ b → Each (λ (e : Text × V). Q e × (test e.1 ≡ true)) (filter (λ e. test e.1) es) → Each (λ (e : Text × V). Q e × (test e.1 ≡ true)) (cond b (e ∷ filter (λ e. test e.1) es) (filter (λ e. test e.1) es))
      go true k r = ((h.0, k), r)
      go false k r = r

  -- an alternative is there where its second half is
  pub some_else : (o q : Option V) → is_some q ≡ true → is_some (or_else o q) ≡ true
  some_else None q h = h
  some_else (Some v) q h = refl

  -- an alternative is there where its first half is
  pub some_first : (o q : Option V) → is_some o ≡ true → is_some (or_else o q) ≡ true
  some_first None q h = absurd (true≢false (sym h))
  some_first (Some v) q h = refl

  passes_all : (test : V → Bool) (es : List (Text × V)) (key : Text) (v : V) → lookup key es ≡ Some v → test v ≡ true → is_some (last_of key (filter (λ e. test e.1) es)) ≡ true
  passes_all test [] key v h t = cc
  passes_all test (e ∷ es) key v h t = go (same_text key e.0) refl h (passes_all test es key v) (test e.1) refl
    where
      later : (b : Bool) → is_some (last_of key (filter (λ e. test e.1) es)) ≡ true → is_some (last_of key (cond b (e ∷ filter (λ e. test e.1) es) (filter (λ e. test e.1) es))) ≡ true
      later true h = some_first (last_of key (filter (λ e. test e.1) es)) _ h
      later false h = h

      go : (b : Bool) → same_text key e.0 ≡ b → cond b (Some e.1) (lookup key es) ≡ Some v → (lookup key es ≡ Some v → test v ≡ true → is_some (last_of key (filter (λ e. test e.1) es)) ≡ true)
          → (c : Bool) → test e.1 ≡ c → is_some (last_of key (cond c (e ∷ filter (λ e. test e.1) es) (filter (λ e. test e.1) es))) ≡ true
      go true k h f true q = some_else (last_of key (filter (λ e. test e.1) es)) _ (ap (λ b. let o : Option V = cond b (Some e.1) None in is_some o) k)
      go true k h f false q = absurd (true≢false (sym t ∙ (ap test (sym (some_inside e.1 v h)) ∙ q)))
      go false k h f c q = later c (f h t)

  -- the entries that pass
  pub picks_filter : (test : V → Bool) (es : List (Text × V)) → distinct same_text (map (λ e. e.0) es) ≡ true → Picks test es (filter (λ e. test e.1) es)
  picks_filter test es d = record { each = each_passes (λ e. lookup e.0 es ≡ Some e.1) test es (own_lookups es d); all = passes_all test es }
