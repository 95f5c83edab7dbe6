-- The names that facts mention, in order of first mention, and the first of them that has no definition.
use Rattle.std.proofs.Common.{◌≡◌, ℕ, Bool, true, false, cond, List, [], ◌∷◌, ◌++◌, Option, Some, None, is_some, option_map, refl, sym, ap, ◌∙◌, subst, inl, inr, ⊎_elim, true≢false, append_assoc}
use Rattle.irtext_base.specs.Text.{Text}
use Rattle.irtext_base.specs.Format.{same_text}
use Rattle.irtext_graph.specs.Chained.{Among}
use Rattle.irtext_grammar.specs.Names.Script.{Place, User, UnresolvedReference}
use Rattle.irtext_grammar.specs.Names.Scopes.{uses, defines, fail, link}
use Rattle.irtext_grammar.specs.Names.TextScopes.{Fact, lookup, bound_in, unresolved}
use Rattle.irtext_grammar.proofs.Lists.Lists.{among, or_else, or_else-none, add, name_of, names_from, among-new, among-added, among-names}
use Rattle.irtext_grammar.proofs.Lists.SameText.{same_text_refl, same_text_true}
use Rattle.irtext_grammar.proofs.Names.PlaceholderMap.{head, unresolved_name, defined_there}
use Rattle.irtext_names.specs.Linked as linked
use Rattle.irtext_names.specs.Linked.{is_listed, with_mention, mentioned_from}

-- ---- the same names, by the lists of the theory
listed_among : (t : Text) (ns : List Text) → is_listed t ns ≡ among t ns
listed_among t [] = refl
listed_among t (n ∷ ns) = ap (cond (same_text n t) true) (listed_among t ns)

same_name : (f : Fact) → linked.name_of f ≡ name_of f
same_name (uses n u) = refl
same_name (defines n p) = refl

added_mention : (ns : List Text) (f : Fact) → with_mention ns (linked.name_of f) ≡ add ns (name_of f)
added_mention ns f = ap (with_mention ns) (same_name f) ∙ ap (λ b. cond b ns (ns ++ name_of f ∷ [])) (listed_among (name_of f) ns)

-- the names of facts after others
pub names_mentioned : (ns : List Text) (fs : List Fact) → mentioned_from ns fs ≡ names_from ns fs
names_mentioned ns [] = refl
names_mentioned ns (f ∷ fs) = ap (λ z. mentioned_from z fs) (added_mention ns f) ∙ names_mentioned (add ns (name_of f)) fs

-- ---- no name is mentioned twice
abbrev pub Once : List Text → Type 0
Once [] = Unit {0}
Once (t ∷ ts) = (among t ts ≡ false) × Once ts

once_last : (ns : List Text) (t : Text) → Once ns → among t ns ≡ false → Once (ns ++ t ∷ [])
once_last [] t o h = (refl, tt)
once_last (n ∷ ns) t o h = (go (among n (ns ++ t ∷ [])) refl, once_last ns t o.1 (later (same_text n t) (among t ns) h))
  where
    later : (b c : Bool) → cond b true c ≡ false → c ≡ false
    later true c e = absurd (true≢false e)
    later false c e = e

    first : (b c : Bool) → cond b true c ≡ false → b ≡ false
    first true c e = absurd (true≢false e)
    first false c e = refl

    go : (b : Bool) → among n (ns ++ t ∷ []) ≡ b → b ≡ false
    go false e = refl
    go true e = absurd (⊎_elim (λ k. true≢false (sym k ∙ o.0)) (λ k. true≢false (sym (same_text_refl n) ∙ ap (same_text n) (sym k) ∙ first (same_text n t) (among t ns) h)) (among-new t n ns e))

once_add : (ns : List Text) (t : Text) → Once ns → Once (add ns t)
once_add ns t o = go (among t ns) refl
  where
    go : (b : Bool) → among t ns ≡ b → Once (cond b ns (ns ++ t ∷ []))
    go true e = o
    go false e = once_last ns t o e

-- the names of facts occur once
pub once_names : (ns : List Text) (fs : List Fact) → Once ns → Once (names_from ns fs)
once_names ns [] o = o
once_names ns (f ∷ fs) o = once_names (add ns (name_of f)) fs (once_add ns (name_of f) o)

-- ---- uses
-- a name that is used is mentioned
pub used_among : (n : Text) (u : User) (ns : List Text) (fs : List Fact) → Among (uses n u) fs → among n (names_from ns fs) ≡ true
used_among n u ns [] h = absurd h
used_among n u ns (x ∷ fs) (inl e) = among-names n (add ns (name_of x)) fs (subst (λ y. among n (add ns (name_of y)) ≡ true) e (among-added n ns))
used_among n u ns (x ∷ fs) (inr h) = used_among n u (add ns (name_of x)) fs h

-- what a scope binds as it ends comes from its uses and look-ups
pub bound_from : (all fs : List Fact) (u : User) (p : Place) → Among (u, p) (bound_in all fs) → (n : Text) × Among (uses n u) fs × (lookup n all ≡ Some p)
bound_from all [] u p h = absurd h
bound_from all (uses n v ∷ fs) u p h = go (lookup n all) refl h (bound_from all fs u p)
  where
    go : (o : Option Place) → lookup n all ≡ o → Among (u, p) (link v o ++ bound_in all fs) → (Among (u, p) (bound_in all fs) → (n : Text) × Among (uses n u) fs × (lookup n all ≡ Some p))
        → (m : Text) × Among (uses m u) (uses n v ∷ fs) × (lookup m all ≡ Some p)
    go None e i k = let r = k i in (r.0, inr r.1, r.2)
    go (Some q) e (inl i) k = (n, inl (ap (λ z. uses n z.0) i), e ∙ ap (λ z. Some z.1) (sym i))
    go (Some q) e (inr i) k = let r = k i in (r.0, inr r.1, r.2)
bound_from all (defines n q ∷ fs) u p h = let r = bound_from all fs u p h in (r.0, inr r.1, r.2)

-- ---- the first name that has no definition
abbrev pub undefined_of : Option Place → Text → Option Text
undefined_of None t = Some t
undefined_of (Some p) t = None

-- the first of these names that the facts do not define
abbrev pub first_undefined : List Fact → List Text → Option Text
first_undefined all [] = None
first_undefined all (t ∷ ts) = or_else (undefined_of (lookup t all) t) (first_undefined all ts)

-- the first name of these facts that all do not define
abbrev first_of : List Fact → List Fact → Option Text
first_of all [] = None
first_of all (f ∷ fs) = or_else (undefined_of (lookup (name_of f) all) (name_of f)) (first_of all fs)

or_else_assoc : {A : Type 0} (o p q : Option A) → or_else (or_else o p) q ≡ or_else o (or_else p q)
or_else_assoc None p q = refl
or_else_assoc (Some x) p q = refl

undefined_last : (all : List Fact) (ns : List Text) (t : Text) → first_undefined all (ns ++ t ∷ []) ≡ or_else (first_undefined all ns) (undefined_of (lookup t all) t)
undefined_last all [] t = or_else-none (undefined_of (lookup t all) t)
undefined_last all (n ∷ ns) t =
    ap (or_else (undefined_of (lookup n all) n)) (undefined_last all ns t)
    ∙ sym (or_else_assoc (undefined_of (lookup n all) n) (first_undefined all ns) (undefined_of (lookup t all) t))

-- a name that is among these already changes nothing
absorbed : (all : List Fact) (t : Text) (ns : List Text) → among t ns ≡ true → or_else (first_undefined all ns) (undefined_of (lookup t all) t) ≡ first_undefined all ns
absorbed all t [] h = absurd (true≢false (sym h))
absorbed all t (n ∷ ns) h = go (lookup n all) refl (same_text n t) refl (absorbed all t ns)
  where
    go : (o : Option Place) → lookup n all ≡ o → (c : Bool) → same_text n t ≡ c
        → (among t ns ≡ true → or_else (first_undefined all ns) (undefined_of (lookup t all) t) ≡ first_undefined all ns)
        → or_else (or_else (undefined_of o n) (first_undefined all ns)) (undefined_of (lookup t all) t) ≡ or_else (undefined_of o n) (first_undefined all ns)
    go None d c e ih = refl
    go (Some q) d true e ih = ap (λ o. or_else (first_undefined all ns) (undefined_of o t)) (ap (λ m. lookup m all) (sym (same_text_true n t e)) ∙ d) ∙ or_else-none (first_undefined all ns)
    go (Some q) d false e ih = ih (ap (λ c. cond c true (among t ns)) (sym e) ∙ h)

undefined_add : (all : List Fact) (ns : List Text) (t : Text) → first_undefined all (add ns t) ≡ or_else (first_undefined all ns) (undefined_of (lookup t all) t)
undefined_add all ns t = go (among t ns) refl
  where
    go : (c : Bool) → among t ns ≡ c → first_undefined all (cond c ns (ns ++ t ∷ [])) ≡ or_else (first_undefined all ns) (undefined_of (lookup t all) t)
    go true e = sym (absorbed all t ns e)
    go false e = undefined_last all ns t

undefined_names : (all : List Fact) (ns : List Text) (fs : List Fact) → first_undefined all (names_from ns fs) ≡ or_else (first_undefined all ns) (first_of all fs)
undefined_names all ns [] = sym (or_else-none (first_undefined all ns))
undefined_names all ns (f ∷ fs) =
    undefined_names all (add ns (name_of f)) fs
    ∙ (ap (λ o. or_else o (first_of all fs)) (undefined_add all ns (name_of f))
    ∙ or_else_assoc (first_undefined all ns) (undefined_of (lookup (name_of f) all) (name_of f)) (first_of all fs))

-- the first use without definition, among the facts after others
first_unresolved : (a : ℕ) (all pre fs : List Fact) → all ≡ pre ++ fs → head (unresolved a all fs) ≡ option_map (unresolved_name a) (first_of all fs)
first_unresolved a all pre [] e = refl
first_unresolved a all pre (uses n u ∷ fs) e = go (lookup n all) (first_unresolved a all (pre ++ uses n u ∷ []) fs (e ∙ sym (append_assoc pre (uses n u ∷ []) fs)))
  where
    go : (o : Option Place) → head (unresolved a all fs) ≡ option_map (unresolved_name a) (first_of all fs)
        → head (cond (is_some o) [] (fail (UnresolvedReference n) a) ++ unresolved a all fs) ≡ option_map (unresolved_name a) (or_else (undefined_of o n) (first_of all fs))
    go (Some q) h = h
    go None h = refl
first_unresolved a all pre (defines n p ∷ fs) e =
    first_unresolved a all (pre ++ defines n p ∷ []) fs (e ∙ sym (append_assoc pre (defines n p ∷ []) fs))
    ∙ ap (λ o. option_map (unresolved_name a) (or_else (undefined_of o n) (first_of all fs))) (sym (ap (lookup n) e ∙ (defined_there n p pre fs).1))

-- the first failure as a scope ends is that of the first name that has no definition
pub unresolved_first : (a : ℕ) (fs : List Fact) → head (unresolved a fs fs) ≡ option_map (unresolved_name a) (first_undefined fs (names_from [] fs))
unresolved_first a fs = first_unresolved a fs [] fs refl ∙ ap (option_map (unresolved_name a)) (sym (undefined_names fs [] fs))
