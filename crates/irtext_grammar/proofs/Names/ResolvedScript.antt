-- A script without entries has no failure exactly if its claims hold, what it gives the scopes around it is new there, and the scopes that
-- end in it resolve.
use Rattle.std.proofs.Common.{◌≡◌, ℕ, Bool, true, false, cond, ◌||◌, ◌==◌, List, [], ◌∷◌, ◌++◌, Option, Some, None, refl, sym, ap, ◌∙◌, subst, true≢false, arith}
use Rattle.std.specs.Prelude.{⊤, is_some, nat_eq}
use Rattle.std.proofs.lemmas.Bool.Decides.{nat_tests}
use Rattle.irtext_base.specs.Text.{Text}
use Rattle.irtext_base.specs.Format.{same_text, has, distinct}
use Rattle.irtext_grammar.specs.Spelling.Spellable.{Each}
use Rattle.irtext_grammar.specs.Names.Script.{UnresolvedReference, Place, User, Word, Act, use_value, use_label, define_value, define_label, mark, entry, claim, Script, done, does, within}
use Rattle.irtext_grammar.specs.Names.Scopes.{fail, Fact, uses, defines, Facts, Scopes, and_then, ◌⊳◌, fact_of, is_among, outside, not_isolated, inside, lookup, unresolved, outward, facts, defined_before, act_failures, left_open, failures}
use Rattle.irtext_grammar.proofs.Lists.SameText.{same_text_true, same_text_eq, other_text}
use Rattle.irtext_grammar.proofs.Names.Plainly.{both_empty, append_empty}
use Rattle.irtext_grammar.proofs.Lists.Fresh.{Fresh, fresh_join, fresh_left, fresh_right, fresh_distinct, distinct_fresh}
use Rattle.irtext_grammar.proofs.Lists.Each.{each_both, each_left, each_right}

-- ---- names in scopes
-- the names that a scope defines, in the order of the text
abbrev pub defined : List (Fact Text) → List Text
defined [] = []
defined (uses n u ∷ fs) = defined fs
defined (defines n p ∷ fs) = n ∷ defined fs

-- the names that are used in it
abbrev pub used : List (Fact Text) → List Text
used [] = []
used (uses n u ∷ fs) = n ∷ used fs
used (defines n p ∷ fs) = used fs

-- no name is defined twice in the scope
abbrev pub DefinesOnce : List (Fact Text) → Type 0
DefinesOnce fs = distinct same_text (defined fs) ≡ true

-- each name that is used in the scope is defined there
abbrev pub DefinesUsed : List (Fact Text) → Type 0
DefinesUsed fs = Each (λ n. has same_text n (defined fs) ≡ true) (used fs)

module _ {P : Type 0} where
  -- the scopes that end in a script: of each region that of its labels, and that of its values where its operation is isolated
  abbrev pub scopes : Script Text P → List (List (Fact Text))
  scopes done = []
  scopes (does a k) = scopes k
  scopes (within isolated place body k) = scopes body ++ (cond isolated ((facts same_text body).values ∷ []) [] ++ ((facts same_text body).labels ∷ scopes k))

-- the test of texts goes both ways
pub same_text_symmetric : (s t : Text) → same_text s t ≡ same_text t s
same_text_symmetric s t = go (same_text s t) refl
  where
    go : (b : Bool) → same_text s t ≡ b → b ≡ same_text t s
    go true e = sym (same_text_eq t s (sym (same_text_true s t e)))
    go false e = sym (other_text t s (λ q. true≢false (sym (same_text_eq s t (sym q)) ∙ e)))

-- the names that two lists of facts joined define
pub defined_both : (fs gs : List (Fact Text)) → defined (fs ++ gs) ≡ defined fs ++ defined gs
defined_both [] gs = refl
defined_both (uses n u ∷ fs) gs = defined_both fs gs
defined_both (defines n p ∷ fs) gs = ap (λ z. n ∷ z) (defined_both fs gs)

lookup_defined : (n : Text) (fs : List (Fact Text)) → is_some (lookup same_text n fs) ≡ has same_text n (defined fs)
lookup_defined n [] = refl
lookup_defined n (uses m u ∷ fs) = lookup_defined n fs
lookup_defined n (defines m p ∷ fs) = ap (λ b. is_some (cond b (Some p) (lookup same_text n fs))) (same_text_symmetric m n) ∙ go (same_text n m) (lookup_defined n fs)
  where
    go : (b : Bool) → is_some (lookup same_text n fs) ≡ has same_text n (defined fs) → is_some (cond b (Some p) (lookup same_text n fs)) ≡ (b || has same_text n (defined fs))
    go true e = refl
    go false e = e

unequal : {X : Type 0} (x : X) (xs : List X) → x ∷ xs ≡ [] → ⊥
unequal x xs e = cc

-- a choice between nothing and something, where it is nothing
pub if_nothing : {X : Type 0} (b : Bool) (x : X) → cond b [] (x ∷ []) ≡ [] → b ≡ true
if_nothing true x e = refl
if_nothing false x e = absurd (unequal x [] e)

then_nothing : {X : Type 0} (b : Bool) (x : X) → cond b (x ∷ []) [] ≡ [] → b ≡ false
then_nothing true x e = absurd (unequal x [] e)
then_nothing false x e = refl

-- the converse
pub nothing_if : {X : Type 0} (b : Bool) (x : X) → b ≡ true → cond b [] (x ∷ []) ≡ []
nothing_if true x e = refl
nothing_if false x e = absurd (true≢false (sym e))

nothing_then : {X : Type 0} (b : Bool) (x : X) → b ≡ false → cond b (x ∷ []) [] ≡ []
nothing_then true x e = absurd (true≢false e)
nothing_then false x e = refl

module _ {P : Type 0} where
  resolved_of : (p : P) (all fs : List (Fact Text)) → unresolved same_text p all fs ≡ [] → Each (λ n. has same_text n (defined all) ≡ true) (used fs)
  resolved_of p all [] e = tt
  resolved_of p all (uses n u ∷ fs) e = let b = both_empty (cond (is_some (lookup same_text n all)) [] _) (unresolved same_text p all fs) e in
      (sym (lookup_defined n all) ∙ if_nothing (is_some (lookup same_text n all)) _ b.0, resolved_of p all fs b.1)
  resolved_of p all (defines n q ∷ fs) e = resolved_of p all fs e

  of_resolved : (p : P) (all fs : List (Fact Text)) → Each (λ n. has same_text n (defined all) ≡ true) (used fs) → unresolved same_text p all fs ≡ []
  of_resolved p all [] h = refl
  of_resolved p all (uses n u ∷ fs) h = append_empty (cond (is_some (lookup same_text n all)) [] (fail (UnresolvedReference n) p)) (unresolved same_text p all fs) (nothing_if (is_some (lookup same_text n all)) _ (lookup_defined n all ∙ h.0)) (of_resolved p all fs h.1)
  of_resolved p all (defines n q ∷ fs) h = of_resolved p all fs h

-- ---- what a scope may be given, if there is one
abbrev pub New : Option (List (Fact Text)) → List (Fact Text) → Type 0
New None fs = fs ≡ []
New (Some before) fs = Fresh same_text (defined before) (defined fs)

new_join : (o : Option (List (Fact Text))) (fs gs : List (Fact Text)) → New o fs → New (and_then o fs) gs → New o (fs ++ gs)
new_join None fs gs h k = append_empty fs gs h k
new_join (Some before) fs gs h k = subst (Fresh same_text (defined before)) (sym (defined_both fs gs))
    (fresh_join same_text (defined before) (defined fs) (defined gs) h (subst (λ b. Fresh same_text b (defined gs)) (defined_both before fs) k))

new_left : (o : Option (List (Fact Text))) (fs gs : List (Fact Text)) → New o (fs ++ gs) → New o fs
new_left None fs gs h = (both_empty fs gs h).0
new_left (Some before) fs gs h = fresh_left same_text (defined before) (defined fs) (defined gs) (subst (Fresh same_text (defined before)) (defined_both fs gs) h)

new_right : (o : Option (List (Fact Text))) (fs gs : List (Fact Text)) → New o (fs ++ gs) → New (and_then o fs) gs
new_right None fs gs h = (both_empty fs gs h).1
new_right (Some before) fs gs h = subst (λ b. Fresh same_text b (defined gs)) (sym (defined_both before fs))
    (fresh_right same_text (defined before) (defined fs) (defined gs) (subst (Fresh same_text (defined before)) (defined_both fs gs) h))

new_nothing : (o : Option (List (Fact Text))) → New o []
new_nothing None = refl
new_nothing (Some before) = tt

-- two ways to ask whether a number is in a list
pub among_has : (n : ℕ) (ms : List ℕ) → is_among n ms ≡ has ◌==◌ n ms
among_has n [] = refl
among_has n (m ∷ ms) = go (nat_eq m n) (n == m) (turned m n) (among_has n ms)
  where
    turned : (m n : ℕ) → nat_eq m n ≡ (n == m)
    turned m n = grind (arith, nat_tests)

    go : (a b : Bool) → a ≡ b → is_among n ms ≡ has ◌==◌ n ms → cond a true (is_among n ms) ≡ (b || has ◌==◌ n ms)
    go true b e h = ap (λ b. b || has ◌==◌ n ms) e
    go false b e h = h ∙ ap (λ b. b || has ◌==◌ n ms) e

none_before : (o : Option (List (Fact Text))) (fs : List (Fact Text)) → and_then o fs ≡ None → o ≡ None
none_before None fs e = refl
none_before (Some before) fs e = absurd (cc e)

once_new : (fs : List (Fact Text)) → DefinesOnce fs → Fresh same_text [] (defined fs)
once_new fs d = distinct_fresh same_text same_text_symmetric (defined fs) d

new_once : (fs : List (Fact Text)) → Fresh same_text [] (defined fs) → DefinesOnce fs
new_once fs f = fresh_distinct same_text same_text_symmetric (defined fs) f

some_none : {X : Type 0} (x : X) → Some x ≡ None → ⊥
some_none x e = cc

-- ---- scripts
-- the scope resolves
abbrev pub Scope : List (Fact Text) → Type 0
Scope fs = DefinesOnce fs × DefinesUsed fs

module _ {P : Type 0} where
  -- the claims hold
  abbrev pub Claims : Script Text P → Type 0
  Claims done = ⊤
  Claims (does (claim b x) k) = (b ≡ true) × Claims k
  Claims (does _ k) = Claims k
  Claims (within iso p body k) = Claims body × Claims k

  -- there is no entry
  abbrev pub Entryless : Script Text P → Type 0
  Entryless done = ⊤
  Entryless (does (entry i p) k) = ⊥
  Entryless (does _ k) = Entryless k
  Entryless (within iso p body k) = Entryless body × Entryless k

  -- the regions that are in no other region are isolated
  abbrev pub OuterIsolated : Script Text P → Type 0
  OuterIsolated done = ⊤
  OuterIsolated (does a k) = OuterIsolated k
  OuterIsolated (within iso p body k) = (iso ≡ true) × OuterIsolated k

  -- the conditions under which a script without entries has no failure
  pub record Good (s : Scopes Text) (x : Script Text P) : Type 0 where
    pub claims : Claims x
    pub values : New s.values (facts same_text x).values
    pub labels : New s.labels (facts same_text x).labels
    pub marks : Fresh ◌==◌ s.marks (facts same_text x).marks
    pub outer : s.values ≡ None → OuterIsolated x
    pub scopes : Each Scope (scopes x)

  -- what is required of one act
  abbrev Claim : Act Text P → Type 0
  Claim (claim b x) = b ≡ true
  Claim _ = ⊤

  abbrev NoEntry : Act Text P → Type 0
  NoEntry (entry i p) = ⊥
  NoEntry _ = ⊤

  record GoodAct (s : Scopes Text) (a : Act Text P) : Type 0 where
    claim : Claim a
    values : New s.values (fact_of a).values
    labels : New s.labels (fact_of a).labels
    marks : Fresh ◌==◌ s.marks (fact_of a).marks

  used_new : (o : Option (List (Fact Text))) (w : Word Text P) (u : User) → outside o w ≡ [] → New o (uses w.name u ∷ [])
  used_new None w u e = absurd (unequal _ [] e)
  used_new (Some fs) w u e = tt

  new_used : (o : Option (List (Fact Text))) (w : Word Text P) (u : User) → New o (uses w.name u ∷ []) → outside o w ≡ []
  new_used None w u e = absurd (unequal _ [] e)
  new_used (Some fs) w u e = refl

  defined_new : (o : Option (List (Fact Text))) (w : Word Text P) (p : Place) → defined_before same_text o w ≡ [] → New o (defines w.name p ∷ [])
  defined_new None w p e = absurd (unequal _ [] e)
  defined_new (Some fs) w p e = (sym (lookup_defined w.name fs) ∙ then_nothing (is_some (lookup same_text w.name fs)) _ e, tt)

  new_defined : (o : Option (List (Fact Text))) (w : Word Text P) (p : Place) → New o (defines w.name p ∷ []) → defined_before same_text o w ≡ []
  new_defined None w p e = absurd (unequal _ [] e)
  new_defined (Some fs) w p e = nothing_then (is_some (lookup same_text w.name fs)) _ (lookup_defined w.name fs ∙ e.0)

  act_good : (s : Scopes Text) (a : Act Text P) → NoEntry a → act_failures same_text s a ≡ [] → GoodAct s a
  act_good s (use_value w u) n e = record { claim = tt; values = used_new s.values w u e; labels = new_nothing s.labels; marks = tt }
  act_good s (use_label w u) n e = record { claim = tt; values = new_nothing s.values; labels = used_new s.labels w u e; marks = tt }
  act_good s (define_value w p) n e = record { claim = tt; values = defined_new s.values w p e; labels = new_nothing s.labels; marks = tt }
  act_good s (define_label w p) n e = record { claim = tt; values = new_nothing s.values; labels = defined_new s.labels w p e; marks = tt }
  act_good s (mark i p) n e = record { claim = tt; values = new_nothing s.values; labels = new_nothing s.labels; marks = (sym (among_has i s.marks) ∙ then_nothing (is_among i s.marks) _ e, tt) }
  act_good s (entry i p) n e = absurd n
  act_good s (claim b x) n e = record { claim = if_nothing b x e; values = new_nothing s.values; labels = new_nothing s.labels; marks = tt }

  good_act : (s : Scopes Text) (a : Act Text P) → NoEntry a → GoodAct s a → act_failures same_text s a ≡ []
  good_act s (use_value w u) n g = new_used s.values w u g.values
  good_act s (use_label w u) n g = new_used s.labels w u g.labels
  good_act s (define_value w p) n g = new_defined s.values w p g.values
  good_act s (define_label w p) n g = new_defined s.labels w p g.labels
  good_act s (mark i p) n g = nothing_then (is_among i s.marks) _ (among_has i s.marks ∙ g.marks.0)
  good_act s (entry i p) n g = absurd n
  good_act s (claim b x) n g = nothing_if b x g.claim

  claims_join : (a : Act Text P) (k : Script Text P) → Claim a → Claims k → Claims (does a k)
  claims_join (claim b x) k c d = (c, d)
  claims_join _ k c d = d

  claims_split : (a : Act Text P) (k : Script Text P) → Claims (does a k) → Claim a × Claims k
  claims_split (claim b x) k c = c
  claims_split _ k c = (tt, c)

  entryless_split : (a : Act Text P) (k : Script Text P) → Entryless (does a k) → NoEntry a × Entryless k
  entryless_split (entry i p) k n = absurd n
  entryless_split _ k n = (tt, n)

  good_does : (s : Scopes Text) (a : Act Text P) (k : Script Text P) → GoodAct s a → Good (s ⊳ fact_of a) k → Good s (does a k)
  good_does s a k g h = record {
    claims = claims_join a k g.claim h.claims;
    values = new_join s.values (fact_of a).values (facts same_text k).values g.values h.values;
    labels = new_join s.labels (fact_of a).labels (facts same_text k).labels g.labels h.labels;
    marks = fresh_join ◌==◌ s.marks (fact_of a).marks (facts same_text k).marks g.marks h.marks;
    outer = λ e. h.outer (ap (λ o. and_then o (fact_of a).values) e);
    scopes = h.scopes;
  }

  does_good : (s : Scopes Text) (a : Act Text P) (k : Script Text P) → Good s (does a k) → GoodAct s a × Good (s ⊳ fact_of a) k
  does_good s a k g =
      let c = claims_split a k g.claims in (
        record {
          claim = c.0;
          values = new_left s.values (fact_of a).values (facts same_text k).values g.values;
          labels = new_left s.labels (fact_of a).labels (facts same_text k).labels g.labels;
          marks = fresh_left ◌==◌ s.marks (fact_of a).marks (facts same_text k).marks g.marks;
        },
        record {
          claims = c.1;
          values = new_right s.values (fact_of a).values (facts same_text k).values g.values;
          labels = new_right s.labels (fact_of a).labels (facts same_text k).labels g.labels;
          marks = fresh_right ◌==◌ s.marks (fact_of a).marks (facts same_text k).marks g.marks;
          outer = λ e. g.outer (none_before s.values (fact_of a).values e);
          scopes = g.scopes;
        },
      )

  abbrev F : Script Text P → Facts Text
  F body = facts same_text body

  good_shared : (s : Scopes Text) (p : P) (body k : Script Text P) → not_isolated {P = P} false s.values ≡ [] → Good (inside false s) body → left_open same_text p false (F body) ≡ [] → Good (s ⊳ outward same_text false (F body)) k
      → Good s (within false p body k)
  good_shared s p body k a b c d = record {
    claims = (b.claims, d.claims);
    values = new_join s.values (F body).values (F k).values b.values d.values;
    labels = new_join s.labels [] (F k).labels (new_nothing s.labels) d.labels;
    marks = fresh_join ◌==◌ s.marks (F body).marks (F k).marks b.marks d.marks;
    outer = λ e. absurd (unequal _ [] (subst (λ o. not_isolated {P = P} false o ≡ []) e a));
    scopes = each_both Scope (scopes body) ((F body).labels ∷ scopes k) b.scopes ((new_once (F body).labels b.labels, resolved_of p (F body).labels (F body).labels c), d.scopes);
  }

  good_isolated : (s : Scopes Text) (p : P) (body k : Script Text P) → Good (inside true s) body → left_open same_text p true (F body) ≡ [] → Good (s ⊳ outward same_text true (F body)) k
      → Good s (within true p body k)
  good_isolated s p body k b c d =
      let e = both_empty (unresolved same_text p (F body).values (F body).values) (unresolved same_text p (F body).labels (F body).labels) c in
      record {
        claims = (b.claims, d.claims);
        values = new_join s.values [] (F k).values (new_nothing s.values) d.values;
        labels = new_join s.labels [] (F k).labels (new_nothing s.labels) d.labels;
        marks = fresh_join ◌==◌ s.marks (F body).marks (F k).marks b.marks d.marks;
        outer = λ h. (refl, d.outer (ap (λ o. and_then o []) h));
        scopes = each_both Scope (scopes body) ((F body).values ∷ (F body).labels ∷ scopes k) b.scopes
            ((new_once (F body).values b.values, resolved_of p (F body).values (F body).values e.0), ((new_once (F body).labels b.labels, resolved_of p (F body).labels (F body).labels e.1), d.scopes));
      }

  -- a script without failures satisfies the conditions
  pub good_of : (s : Scopes Text) (x : Script Text P) → Entryless x → failures same_text s x ≡ [] → Good s x
  good_of s done n e = record { claims = tt; values = new_nothing s.values; labels = new_nothing s.labels; marks = tt; outer = λ h. tt; scopes = tt }
  good_of s (does a k) n e =
      let b = both_empty (act_failures same_text s a) (failures same_text (s ⊳ fact_of a) k) e in
      let m = entryless_split a k n in
      good_does s a k (act_good s a m.0 b.0) (good_of (s ⊳ fact_of a) k m.1 b.1)
  good_of s (within true p body k) n e =
      let a = both_empty (failures same_text (inside true s) body ++ left_open same_text p true (F body)) (failures same_text (s ⊳ outward same_text true (F body)) k) e in
      let c = both_empty (failures same_text (inside true s) body) (left_open same_text p true (F body)) a.0 in
      good_isolated s p body k (good_of (inside true s) body n.0 c.0) c.1 (good_of (s ⊳ outward same_text true (F body)) k n.1 a.1)
  good_of s (within false p body k) n e =
      let a = both_empty (not_isolated false s.values ++ (failures same_text (inside false s) body ++ left_open same_text p false (F body))) (failures same_text (s ⊳ outward same_text false (F body)) k) e in
      let b = both_empty (not_isolated {P = P} false s.values) (failures same_text (inside false s) body ++ left_open same_text p false (F body)) a.0 in
      let c = both_empty (failures same_text (inside false s) body) (left_open same_text p false (F body)) b.1 in
      good_shared s p body k b.0 (good_of (inside false s) body n.0 c.0) c.1 (good_of (s ⊳ outward same_text false (F body)) k n.1 a.1)

  open_shared : (o : Option (List (Fact Text))) → (o ≡ None → false ≡ true) → not_isolated {P = P} false o ≡ []
  open_shared None h = absurd (true≢false (sym (h refl)))
  open_shared (Some fs) h = refl

  -- a script that satisfies the conditions has no failures
  pub of_good : (s : Scopes Text) (x : Script Text P) → Entryless x → Good s x → failures same_text s x ≡ []
  of_good s done n g = refl
  of_good s (does a k) n g =
      let b = does_good s a k g in
      let m = entryless_split a k n in
      append_empty (act_failures same_text s a) (failures same_text (s ⊳ fact_of a) k) (good_act s a m.0 b.0) (of_good (s ⊳ fact_of a) k m.1 b.1)
  of_good s (within true p body k) n g =
      let t = each_right Scope (scopes body) ((F body).values ∷ (F body).labels ∷ scopes k) g.scopes in
      let inner : Good (inside true s) body = record {
        claims = g.claims.0;
        values = once_new (F body).values t.0.0;
        labels = once_new (F body).labels t.1.0.0;
        marks = fresh_left ◌==◌ s.marks (F body).marks (F k).marks g.marks;
        outer = λ e. absurd (some_none [] e);
        scopes = each_left Scope (scopes body) ((F body).values ∷ (F body).labels ∷ scopes k) g.scopes;
      } in
      let rest : Good (s ⊳ outward same_text true (F body)) k = record {
        claims = g.claims.1;
        values = new_right s.values [] (F k).values g.values;
        labels = new_right s.labels [] (F k).labels g.labels;
        marks = fresh_right ◌==◌ s.marks (F body).marks (F k).marks g.marks;
        outer = λ e. (g.outer (none_before s.values [] e)).1;
        scopes = t.1.1;
      } in
      append_empty (failures same_text (inside true s) body ++ left_open same_text p true (F body)) (failures same_text (s ⊳ outward same_text true (F body)) k)
      (append_empty (failures same_text (inside true s) body) (left_open same_text p true (F body)) (of_good (inside true s) body n.0 inner)
      (append_empty (unresolved same_text p (F body).values (F body).values) (unresolved same_text p (F body).labels (F body).labels) (of_resolved p (F body).values (F body).values t.0.1) (of_resolved p (F body).labels (F body).labels t.1.0.1)))
      (of_good (s ⊳ outward same_text true (F body)) k n.1 rest)
  of_good s (within false p body k) n g =
      let t = each_right Scope (scopes body) ((F body).labels ∷ scopes k) g.scopes in
      let inner : Good (inside false s) body = record {
        claims = g.claims.0;
        values = new_left s.values (F body).values (F k).values g.values;
        labels = once_new (F body).labels t.0.0;
        marks = fresh_left ◌==◌ s.marks (F body).marks (F k).marks g.marks;
        outer = λ e. absurd (true≢false (sym (g.outer e).0));
        scopes = each_left Scope (scopes body) ((F body).labels ∷ scopes k) g.scopes;
      } in
      let rest : Good (s ⊳ outward same_text false (F body)) k = record {
        claims = g.claims.1;
        values = new_right s.values (F body).values (F k).values g.values;
        labels = new_right s.labels [] (F k).labels g.labels;
        marks = fresh_right ◌==◌ s.marks (F body).marks (F k).marks g.marks;
        outer = λ e. (g.outer (none_before s.values (F body).values e)).1;
        scopes = t.1;
      } in
      append_empty (not_isolated false s.values ++ (failures same_text (inside false s) body ++ left_open same_text p false (F body))) (failures same_text (s ⊳ outward same_text false (F body)) k)
      (append_empty (not_isolated false s.values) (failures same_text (inside false s) body ++ left_open same_text p false (F body)) (open_shared s.values (λ e. (g.outer e).0))
      (append_empty (failures same_text (inside false s) body) (left_open same_text p false (F body)) (of_good (inside false s) body n.0 inner) (of_resolved p (F body).labels (F body).labels t.0.1)))
      (of_good (s ⊳ outward same_text false (F body)) k n.1 rest)
