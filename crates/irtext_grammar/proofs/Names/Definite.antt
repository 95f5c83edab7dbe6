-- A script in which each use refers to something, and all that is defined differs, has no failure.
use Rattle.std.proofs.Common.{◌≡◌, ℕ, Bool, true, false, cond, ◌||◌, List, [], ◌∷◌, ◌++◌, Some, None, is_some, refl, sym, ap, ◌∙◌, true≢false}
use Rattle.std.specs.Prelude.{⊤}
use Rattle.irtext_base.specs.Format.{has}
use Rattle.irtext_grammar.specs.Spelling.Spellable.{Each}
use Rattle.irtext_grammar.specs.Names.Script.{UnresolvedReference, MultipleDefinitions, Place, User, Act, use_value, use_label, define_value, define_label, mark, entry, claim, Script, done, does, within}
use Rattle.irtext_grammar.specs.Names.Scopes.{fail, Fact, uses, defines, Scopes, ◌⊳◌, fact_of, inside, lookup, unresolved, outward, facts, act_failures, left_open, failures}
use Rattle.irtext_grammar.specs.Graphs.Represents.{made}
use Rattle.irtext_grammar.proofs.Names.Plainly.{append_empty}
use Rattle.irtext_grammar.proofs.Lists.Fresh.{Fresh, fresh_left, fresh_right, has_both, neither_left, neither_right}
use Rattle.irtext_grammar.proofs.Names.UsesMean.{meant, Means, Known}
use Rattle.irtext_grammar.proofs.Lists.Each.{each_both, each_left, each_right}

-- an act of names alone
abbrev pub Naming : {N P : Type 0} → Act N P → Type 0
Naming (mark i p) = ⊥
Naming (entry i p) = ⊥
Naming (claim b x) = ⊥
Naming _ = ⊤

-- a script of names alone
abbrev pub Names : {N P : Type 0} → Script N P → Type 0
Names done = ⊤
Names (does a k) = Naming a × Names k
Names (within iso p body k) = Names body × Names k

-- no act is outside of regions, and these are isolated
abbrev pub OnlyRegions : {N P : Type 0} → Script N P → Type 0
OnlyRegions done = ⊤
OnlyRegions (does a k) = ⊥
OnlyRegions (within iso p body k) = (iso ≡ true) × OnlyRegions k

module _ {N : Type 0} (eq : N → N → Bool) (symmetric : (x y : N) → eq x y ≡ eq y x) where
  -- a name that is not among these has no definition in the scope
  abbrev Covers : List N → List (Fact N) → Type 0
  Covers ms fs = (n : N) → has eq n ms ≡ false → is_some (lookup eq n fs) ≡ false

  looked_both : (n : N) (fs gs : List (Fact N)) → is_some (lookup eq n fs) ≡ false → is_some (lookup eq n gs) ≡ false → is_some (lookup eq n (fs ++ gs)) ≡ false
  looked_both n [] gs h k = k
  looked_both n (uses m u ∷ fs) gs h k = looked_both n fs gs h k
  looked_both n (defines m p ∷ fs) gs h k = go (eq m n) h (λ q. looked_both n fs gs q k)
    where
      go : (b : Bool) → is_some (cond b (Some p) (lookup eq n fs)) ≡ false → (is_some (lookup eq n fs) ≡ false → is_some (lookup eq n (fs ++ gs)) ≡ false) → is_some (cond b (Some p) (lookup eq n (fs ++ gs))) ≡ false
      go true h f = h
      go false h f = f h

  covers_both : (ms ns : List N) (fs gs : List (Fact N)) → Covers ms fs → Covers ns gs → Covers (ms ++ ns) (fs ++ gs)
  covers_both ms ns fs gs h k n e =
      let q : (has eq n ms || has eq n ns) ≡ false = sym (has_both eq symmetric n ms ns) ∙ e in
      looked_both n fs gs (h n (neither_left (has eq n ms) (has eq n ns) q)) (k n (neither_right (has eq n ms) (has eq n ns) q))

  covers_uses : (ms : List N) (fs : List (Fact N)) (m : N) (u : User) → Covers ms fs → Covers ms (fs ++ (uses m u ∷ []))
  covers_uses ms fs m u h n e = looked_both n fs (uses m u ∷ []) (h n e) refl

  covers_nothing : (ms : List N) (fs : List (Fact N)) → Covers ms fs → Covers ms (fs ++ [])
  covers_nothing ms fs h n e = looked_both n fs [] (h n e) refl

  covers_more : (ms ns : List N) (fs : List (Fact N)) → Covers ms fs → Covers (ms ++ ns) (fs ++ [])
  covers_more ms ns fs h = covers_both ms ns fs [] h (λ n e. refl)

  covers_one : (m : N) (p : Place) → Covers (m ∷ []) (defines m p ∷ [])
  covers_one m p n e = go (eq n m) (symmetric m n) e
    where
      go : (b : Bool) → eq m n ≡ b → (b || false) ≡ false → is_some (cond (eq m n) (Some p) None) ≡ false
      go true q h = absurd (true≢false h)
      go false q h = ap (λ b. is_some (cond b (Some p) None)) q

  abbrev at : List (Fact N) → List (Fact N) → List ℕ → List ℕ → Scopes N
  at a b ms es = record { values = Some a; labels = Some b; marks = ms; entries = es }

  module _ {P : Type 0} where
    made_covers : (x : Script N P) → Names x → Covers (made x) (facts eq x).values × Covers (made x) (facts eq x).labels
    made_covers done h = ((λ n e. refl), (λ n e. refl))
    made_covers (does (use_value w u) k) h = let r = made_covers k h.1 in ((λ n e. looked_both n (uses w.name u ∷ []) (facts eq k).values refl (r.0 n e)), r.1)
    made_covers (does (use_label w u) k) h = let r = made_covers k h.1 in (r.0, (λ n e. looked_both n (uses w.name u ∷ []) (facts eq k).labels refl (r.1 n e)))
    made_covers (does (define_value w p) k) h =
        let r = made_covers k h.1 in
        (covers_both (w.name ∷ []) (made k) (defines w.name p ∷ []) (facts eq k).values (covers_one w.name p) r.0, covers_both (w.name ∷ []) (made k) [] (facts eq k).labels (λ n e. refl) r.1)
    made_covers (does (define_label w p) k) h =
        let r = made_covers k h.1 in
        (covers_both (w.name ∷ []) (made k) [] (facts eq k).values (λ n e. refl) r.0, covers_both (w.name ∷ []) (made k) (defines w.name p ∷ []) (facts eq k).labels (covers_one w.name p) r.1)
    made_covers (does (mark i p) k) h = absurd h.0
    made_covers (does (entry i p) k) h = absurd h.0
    made_covers (does (claim b x) k) h = absurd h.0
    made_covers (within true p body k) h =
        let r = made_covers k h.1 in
        (covers_both (made body) (made k) [] (facts eq k).values (λ n e. refl) r.0, covers_both (made body) (made k) [] (facts eq k).labels (λ n e. refl) r.1)
    made_covers (within false p body k) h =
        let r = made_covers k h.1 in
        (covers_both (made body) (made k) (facts eq body).values (facts eq k).values (made_covers body h.0).0 r.0, covers_both (made body) (made k) [] (facts eq k).labels (λ n e. refl) r.1)

    -- what is used in a scope is known there
    known : (v l : List (Fact N)) (x : Script N P) → Names x → Each (Means eq) (meant eq v l x) → Each (Known eq v) (facts eq x).values × Each (Known eq l) (facts eq x).labels
    known v l done h m = (tt, tt)
    known v l (does (use_value w u) k) h m = let r = known v l k h.1 m.1 in ((m.0, r.0), r.1)
    known v l (does (use_label w u) k) h m = let r = known v l k h.1 m.1 in (r.0, (m.0, r.1))
    known v l (does (define_value w p) k) h m = let r = known v l k h.1 m in ((tt, r.0), r.1)
    known v l (does (define_label w p) k) h m = let r = known v l k h.1 m in (r.0, (tt, r.1))
    known v l (does (mark i p) k) h m = absurd h.0
    known v l (does (entry i p) k) h m = absurd h.0
    known v l (does (claim b x) k) h m = absurd h.0
    known v l (within true p body k) h m = known v l k h.1 (each_right (Means eq) (meant eq (facts eq body).values (facts eq body).labels body) (meant eq v l k) m)
    known v l (within false p body k) h m =
        let r = known v l k h.1 (each_right (Means eq) (meant eq v (facts eq body).labels body) (meant eq v l k) m) in
        let b = known v (facts eq body).labels body h.0 (each_left (Means eq) (meant eq v (facts eq body).labels body) (meant eq v l k) m) in
        (each_both (Known eq v) (facts eq body).values (facts eq k).values b.0 r.0, r.1)

    known_resolved : (a : P) (v fs : List (Fact N)) → Each (Known eq v) fs → unresolved eq a v fs ≡ []
    known_resolved a v [] h = refl
    known_resolved a v (uses n u ∷ fs) h = append_empty (cond (is_some (lookup eq n v)) [] (fail (UnresolvedReference n) a)) (unresolved eq a v fs) (ap (λ b. cond b [] (fail (UnresolvedReference n) a)) h.0) (known_resolved a v fs h.1)
    known_resolved a v (defines n p ∷ fs) h = known_resolved a v fs h.1

    -- an isolated region is clean where its script is, since it knows all that it uses
    region_clean : (s : Scopes N) (p : P) (body k : Script N P) → Names body → Each (Means eq) (meant eq (facts eq body).values (facts eq body).labels body) → failures eq (inside true s) body ≡ [] → failures eq (s ⊳ outward eq true (facts eq body)) k ≡ []
        → failures eq s (within true p body k) ≡ []
    region_clean s p body k h m first rest =
        let F = facts eq body in
        let q = known F.values F.labels body h m in
        append_empty (failures eq (inside true s) body ++ left_open eq p true F) (failures eq (s ⊳ outward eq true F) k)
        (append_empty (failures eq (inside true s) body) (left_open eq p true F) first
        (append_empty (unresolved eq p F.values F.values) (unresolved eq p F.labels F.labels) (known_resolved p F.values F.values q.0) (known_resolved p F.labels F.labels q.1)))
        rest

    -- in open scopes
    clean : (ns : List N) (a b : List (Fact N)) (ms es : List ℕ) (v l : List (Fact N)) (x : Script N P) → Names x → Each (Means eq) (meant eq v l x) → Covers ns a → Covers ns b → Fresh eq ns (made x) → failures eq (at a b ms es) x ≡ []
    clean ns a b ms es v l done h m ca cb f = refl
    clean ns a b ms es v l (does (use_value w u) k) h m ca cb f = clean ns (a ++ (uses w.name u ∷ [])) (b ++ []) (ms ++ []) (es ++ []) v l k h.1 m.1 (covers_uses ns a w.name u ca) (covers_nothing ns b cb) f
    clean ns a b ms es v l (does (use_label w u) k) h m ca cb f = clean ns (a ++ []) (b ++ (uses w.name u ∷ [])) (ms ++ []) (es ++ []) v l k h.1 m.1 (covers_nothing ns a ca) (covers_uses ns b w.name u cb) f
    clean ns a b ms es v l (does (define_value w p) k) h m ca cb f =
        append_empty (act_failures eq (at a b ms es) (define_value w p)) (failures eq (at a b ms es ⊳ fact_of (define_value w p)) k) (ap (λ c. cond c (fail (MultipleDefinitions w.name) w.at) []) (ca w.name f.0))
        (clean (ns ++ (w.name ∷ [])) (a ++ (defines w.name p ∷ [])) (b ++ []) (ms ++ []) (es ++ []) v l k h.1 m
        (covers_both ns (w.name ∷ []) a (defines w.name p ∷ []) ca (covers_one w.name p)) (covers_more ns (w.name ∷ []) b cb) f.1)
    clean ns a b ms es v l (does (define_label w p) k) h m ca cb f =
        append_empty (act_failures eq (at a b ms es) (define_label w p)) (failures eq (at a b ms es ⊳ fact_of (define_label w p)) k) (ap (λ c. cond c (fail (MultipleDefinitions w.name) w.at) []) (cb w.name f.0))
        (clean (ns ++ (w.name ∷ [])) (a ++ []) (b ++ (defines w.name p ∷ [])) (ms ++ []) (es ++ []) v l k h.1 m
        (covers_more ns (w.name ∷ []) a ca) (covers_both ns (w.name ∷ []) b (defines w.name p ∷ []) cb (covers_one w.name p)) f.1)
    clean ns a b ms es v l (does (mark i p) k) h m ca cb f = absurd h.0
    clean ns a b ms es v l (does (entry i p) k) h m ca cb f = absurd h.0
    clean ns a b ms es v l (does (claim c x) k) h m ca cb f = absurd h.0
    clean ns a b ms es v l (within true p body k) h m ca cb f =
        let F = facts eq body in
        let inner = each_left (Means eq) (meant eq F.values F.labels body) (meant eq v l k) m in
        region_clean (at a b ms es) p body k h.0 inner (clean ns [] [] ms es F.values F.labels body h.0 inner (λ n e. refl) (λ n e. refl) (fresh_left eq ns (made body) (made k) f))
        (clean (ns ++ made body) (a ++ []) (b ++ []) (ms ++ F.marks) (es ++ F.entries) v l k h.1 (each_right (Means eq) (meant eq F.values F.labels body) (meant eq v l k) m)
        (covers_more ns (made body) a ca) (covers_more ns (made body) b cb) (fresh_right eq ns (made body) (made k) f))
    clean ns a b ms es v l (within false p body k) h m ca cb f =
        let s = at a b ms es in
        let F = facts eq body in
        let inner = each_left (Means eq) (meant eq v F.labels body) (meant eq v l k) m in
        let q = known v F.labels body h.0 inner in
        append_empty (failures eq (inside false s) body ++ left_open eq p false F) (failures eq (s ⊳ outward eq false F) k)
        (append_empty (failures eq (inside false s) body) (left_open eq p false F) (clean ns a [] ms es v F.labels body h.0 inner ca (λ n e. refl) (fresh_left eq ns (made body) (made k) f)) (known_resolved p F.labels F.labels q.1))
        (clean (ns ++ made body) (a ++ F.values) (b ++ []) (ms ++ F.marks) (es ++ F.entries) v l k h.1 (each_right (Means eq) (meant eq v F.labels body) (meant eq v l k) m)
        (covers_both ns (made body) a F.values ca (made_covers body h.0).0) (covers_more ns (made body) b cb) (fresh_right eq ns (made body) (made k) f))

    -- outside of every region
    pub outer_clean : (ns : List N) (ms es : List ℕ) (v l : List (Fact N)) (x : Script N P) → OnlyRegions x → Names x → Each (Means eq) (meant eq v l x) → Fresh eq ns (made x)
        → failures eq (record { values = None; labels = None; marks = ms; entries = es }) x ≡ []
    outer_clean ns ms es v l done o h m f = refl
    outer_clean ns ms es v l (does a k) o h m f = absurd o
    outer_clean ns ms es v l (within false p body k) o h m f = absurd (true≢false (sym o.0))
    outer_clean ns ms es v l (within true p body k) o h m f =
        let F = facts eq body in
        let inner = each_left (Means eq) (meant eq F.values F.labels body) (meant eq v l k) m in
        region_clean (record { values = None; labels = None; marks = ms; entries = es }) p body k h.0 inner
        (clean ns [] [] ms es F.values F.labels body h.0 inner (λ n e. refl) (λ n e. refl) (fresh_left eq ns (made body) (made k) f))
        (outer_clean (ns ++ made body) (ms ++ F.marks) (es ++ F.entries) v l k o.1 h.1 (each_right (Means eq) (meant eq F.values F.labels body) (meant eq v l k) m) (fresh_right eq ns (made body) (made k) f))
