-- Facts on lookups in lists, and on the names that a list of facts mentions.
use Rattle.std.proofs.Common.{◌≡◌, Bool, true, false, cond, List, [], ◌∷◌, ◌++◌, Option, Some, None, refl, sym, ap, ◌∙◌, ◌⊎◌, inl, inr, true≢false}
use Rattle.irtext_base.specs.Text.{Text}
use Rattle.irtext_base.specs.Format.{same_text}
use Rattle.irtext_grammar.specs.Names.Script.{Place, User}
use Rattle.irtext_grammar.specs.Names.Scopes.{uses, defines}
use Rattle.irtext_grammar.specs.Names.TextScopes.{Fact, lookup}
use Rattle.irtext_grammar.specs.Names.Placeholders.{Held, find}
use Rattle.irtext_grammar.proofs.Lists.SameText.{same_text_refl, same_text_true, other_text}

-- whether a name is in a list
abbrev pub among : Text → List Text → Bool
among n [] = false
among n (m ∷ ms) = cond (same_text m n) true (among n ms)

-- ---- lookups
abbrev pub or_else : {A : Type 0} → Option A → Option A → Option A
or_else None o = o
or_else (Some x) o = Some x

-- an alternative after a choice
pub or_else-cond : {A : Type 0} (b : Bool) (x : A) (o q : Option A) → or_else (cond b (Some x) o) q ≡ cond b (Some x) (or_else o q)
or_else-cond true x o q = refl
or_else-cond false x o q = refl

-- what a name has in two lists of facts joined: what it has in the first, or else in the second
pub lookup-append : (n : Text) (f g : List Fact) → lookup n (f ++ g) ≡ or_else (lookup n f) (lookup n g)
lookup-append n [] g = refl
lookup-append n (uses m u ∷ f) g = lookup-append n f g
lookup-append n (defines m p ∷ f) g = ap (cond (same_text m n) (Some p)) (lookup-append n f g) ∙ sym (or_else-cond (same_text m n) p (lookup n f) (lookup n g))

-- nothing is no alternative
pub or_else-none : {A : Type 0} (o : Option A) → or_else o None ≡ o
or_else-none None = refl
or_else-none (Some x) = refl

-- a use changes no lookup
pub lookup-use : (n m : Text) (u : User) (f : List Fact) → lookup n (f ++ uses m u ∷ []) ≡ lookup n f
lookup-use n m u f = lookup-append n f (uses m u ∷ []) ∙ or_else-none (lookup n f)

-- what a name has once one more name is defined
pub lookup-define : (n m : Text) (p : Place) (f : List Fact) → lookup n (f ++ defines m p ∷ []) ≡ or_else (lookup n f) (cond (same_text m n) (Some p) None)
lookup-define n m p f = lookup-append n f (defines m p ∷ [])

-- ---- the names that facts mention, in order of first mention
abbrev pub add : List Text → Text → List Text
add ns n = cond (among n ns) ns (ns ++ n ∷ [])

-- the name that a fact is about
abbrev pub name_of : Fact → Text
name_of (uses n u) = n
name_of (defines n p) = n

-- a list of names, with the names of facts added that are not in it
abbrev pub names_from : List Text → List Fact → List Text
names_from ns [] = ns
names_from ns (x ∷ fs) = names_from (add ns (name_of x)) fs

-- one more fact adds its name
pub names-append : (ns : List Text) (f : List Fact) (x : Fact) → names_from ns (f ++ x ∷ []) ≡ add (names_from ns f) (name_of x)
names-append ns [] x = refl
names-append ns (y ∷ f) x = names-append (add ns (name_of y)) f x

cond-or : (b : Bool) (x y : Bool) → cond b true (cond x true y) ≡ cond (cond b true x) true y
cond-or true x y = refl
cond-or false x y = refl

-- whether a name is in two lists joined
pub among-append : (n : Text) (ns ms : List Text) → among n (ns ++ ms) ≡ cond (among n ns) true (among n ms)
among-append n [] ms = refl
among-append n (m ∷ ns) ms = ap (cond (same_text m n) true) (among-append n ns ms) ∙ cond-or (same_text m n) (among n ns) (among n ms)

-- a name of the first list is in both joined
pub among-kept : (n : Text) (ns ms : List Text) → among n ns ≡ true → among n (ns ++ ms) ≡ true
among-kept n ns ms h = among-append n ns ms ∙ ap (λ b. cond b true (among n ms)) h

-- a name that is appended is in the list
pub among-last : (n : Text) (ns : List Text) → among n (ns ++ n ∷ []) ≡ true
among-last n ns = among-append n ns (n ∷ []) ∙ (ap (λ b. cond (among n ns) true (cond b true false)) (same_text_refl n) ∙ cond_same (among n ns))
  where
    cond_same : (b : Bool) → cond b true true ≡ true
    cond_same true = refl
    cond_same false = refl

-- if it was not there before, it is the last
pub among-new : (n m : Text) (ns : List Text) → among m (ns ++ n ∷ []) ≡ true → (among m ns ≡ true) ⊎ (n ≡ m)
among-new n m ns h = go (among m ns) (same_text n m) refl refl
  where
    go : (b c : Bool) → among m ns ≡ b → same_text n m ≡ c → (among m ns ≡ true) ⊎ (n ≡ m)
    go true c e d = inl e
    go false true e d = inr (same_text_true n m d)
    go false false e d = absurd (true≢false (sym h ∙ (among-append m ns (n ∷ []) ∙ (ap (λ b. cond b true (cond (same_text n m) true false)) e ∙ ap (λ b. cond b true false) d))))

-- a name in a list differs from one that is not in it
pub among-differs : (n m : Text) (ns : List Text) → among m ns ≡ true → among n ns ≡ false → same_text n m ≡ false
among-differs n m ns h k = other_text n m (λ e. true≢false (sym h ∙ (ap (λ x. among x ns) (sym e) ∙ k)))

among-add : (n m : Text) (ns : List Text) → among m ns ≡ true → among m (add ns n) ≡ true
among-add n m ns h = go (among n ns)
  where
    go : (b : Bool) → among m (cond b ns (ns ++ n ∷ [])) ≡ true
    go true = h
    go false = among-kept m ns (n ∷ []) h

-- a name that was added is in the list
pub among-added : (n : Text) (ns : List Text) → among n (add ns n) ≡ true
among-added n ns = go (among n ns) refl
  where
    go : (b : Bool) → among n ns ≡ b → among n (cond b ns (ns ++ n ∷ [])) ≡ true
    go true e = e
    go false e = among-last n ns

-- a name stays in the list while those of facts are added
pub among-names : (n : Text) (ns : List Text) (f : List Fact) → among n ns ≡ true → among n (names_from ns f) ≡ true
among-names n ns [] h = h
among-names n ns (x ∷ f) h = among-names n (add ns (name_of x)) f (among-add (name_of x) n ns h)

-- ---- the entries that a scope shows for its names and its operands, given what each name refers to
abbrev pub entries : (Text → Held) → List Text → List (Text × Held)
entries F [] = []
entries F (n ∷ ns) = (n, F n) ∷ entries F ns

-- what each use among the facts holds
abbrev pub shown : (Text → Held) → List Fact → List (User × Held)
shown F [] = []
shown F (uses n u ∷ fs) = (u, F n) ∷ shown F fs
shown F (defines n p ∷ fs) = shown F fs

-- the entries of two lists of names joined
pub entries-append : (F : Text → Held) (ns ms : List Text) → entries F (ns ++ ms) ≡ entries F ns ++ entries F ms
entries-append F [] ms = refl
entries-append F (n ∷ ns) ms = ap (λ es. (n, F n) ∷ es) (entries-append F ns ms)

-- what the uses among facts hold, of two lists joined
pub shown-append : (F : Text → Held) (f g : List Fact) → shown F (f ++ g) ≡ shown F f ++ shown F g
shown-append F [] g = refl
shown-append F (uses n u ∷ f) g = ap (λ es. (u, F n) ∷ es) (shown-append F f g)
shown-append F (defines n p ∷ f) g = shown-append F f g

-- a name has its entry exactly where it is in the list
pub find-entries : (F : Text → Held) (n : Text) (ns : List Text) → find n (entries F ns) ≡ cond (among n ns) (Some (F n)) None
find-entries F n [] = refl
find-entries F n (m ∷ ns) = go (same_text m n) refl (find-entries F n ns)
  where
    go : (b : Bool) → same_text m n ≡ b → find n (entries F ns) ≡ cond (among n ns) (Some (F n)) None → cond b (Some (F m)) (find n (entries F ns)) ≡ cond (cond b true (among n ns)) (Some (F n)) None
    go true e h = ap (λ k. Some (F k)) (same_text_true m n e)
    go false e h = h

-- G in place of F, where they agree on the names
pub same_entries : (F G : Text → Held) (ns : List Text) → ((n : Text) → among n ns ≡ true → F n ≡ G n) → entries F ns ≡ entries G ns
same_entries F G [] h = refl
same_entries F G (n ∷ ns) h = λ i. (n, h n (ap (λ b. cond b true (among n ns)) (same_text_refl n)) i) ∷ same_entries F G ns (λ m k. h m (weaker (same_text n m) (among m ns) k)) i
  where
    weaker : (b c : Bool) → c ≡ true → cond b true c ≡ true
    weaker true c e = refl
    weaker false c e = e

-- uses hold the same where their names do
pub same_shown : (F G : Text → Held) (ns : List Text) (f : List Fact) → ((n : Text) → among n (names_from ns f) ≡ true → F n ≡ G n) → shown F f ≡ shown G f
same_shown F G ns [] h = refl
same_shown F G ns (uses n u ∷ f) h = λ i. (u, h n (among-names n (add ns n) f (among-added n ns)) i) ∷ same_shown F G (add ns n) f h i
same_shown F G ns (defines n p ∷ f) h = same_shown F G (add ns n) f h
