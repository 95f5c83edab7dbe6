-- Where names may be used, and where an attribute is not allowed under its key: acts leave as many scopes open as there were, and the
-- machine of names fails at the first such key of an operation.
use Rattle.std.proofs.Common.{◌≡◌, ◌∙◌, ℕ, suc, Bool, true, false, cond, List, [], ◌∷◌, ◌++◌, map, length, Option, Some, refl, sym, ap, subst, append_assoc}
use Rattle.std.specs.Prelude.{⊤, flat_map}
use Rattle.irtext_base.specs.Format.{Format, Id}
use Rattle.irtext_grammar.specs.Grammar.Tree as tree
use Rattle.irtext_grammar.specs.Grammar.Tree.{Name, Attribute, Piece, Part, views}
use Rattle.irtext_grammar.specs.Names.Acts.{may_hold, key_act, value_uses, label_uses, piece_acts}
use Rattle.irtext_grammar.specs.Names.History as history
use Rattle.irtext_grammar.specs.Names.History.{State, Outcome, going, failed, outcome, next, after, onto, scopes_of, entered, act}
use Rattle.irtext_grammar.specs.Names.Scopes.{fact_of, not_isolated}
use Rattle.irtext_grammar.specs.Names.Script as script
use Rattle.irtext_grammar.specs.Names.Script.{Path, use_value, use_label, claim}
use Rattle.irtext_grammar.specs.Names.TextScopes.{Act, Fact, Failure, act_failures, left_open}
use Rattle.irtext_grammar.specs.Naming.{acted, acts_of_piece, naming}
use Rattle.irtext_grammar.specs.Reached.{freely}
use Rattle.irtext_grammar.proofs.Exact.Outside.{fails_outside, key_failures}
use Rattle.irtext_grammar.proofs.Naming.Keeps.{Keeps, failed_keeps}

-- ---- as many scopes are open
-- The machine has failed, or as many scopes are open as in the first state; what had failed before is unchanged.
abbrev pub Follows : Outcome → Outcome → Type 0
Follows (going a) (going b) = (length b.values ≡ length a.values) × (length b.labels ≡ length a.labels)
Follows (going a) (failed g) = ⊤
Follows (failed f) t = t ≡ failed f

pub follows_same : (s : Outcome) → Follows s s
follows_same (going a) = (refl, refl)
follows_same (failed f) = refl

pub follows_both : (s t u : Outcome) → Follows s t → Follows t u → Follows s u
follows_both (going a) (going b) (going c) h k = (k.0 ∙ h.0, k.1 ∙ h.1)
follows_both (going a) (going b) (failed g) h k = tt
follows_both (going a) (failed f) (going c) h k = absurd (cc k)
follows_both (going a) (failed f) (failed g) h k = tt
follows_both (failed f) t u h k = subst (λ z. Follows z u) h k

-- some scope is open
abbrev IsOpen : List (List Fact) → Type 0
IsOpen [] = ⊥
IsOpen (f ∷ fs) = ⊤

-- a name may be used: a scope of values and one of labels are open, or the machine has failed
abbrev pub Ready : Outcome → Type 0
Ready (going st) = IsOpen st.values × IsOpen st.labels
Ready (failed f) = ⊤

open_as : (xs ys : List (List Fact)) → length ys ≡ length xs → IsOpen xs → IsOpen ys
open_as [] ys e h = absurd h
open_as (x ∷ xs) [] e h = absurd (cc e)
open_as (x ∷ xs) (y ∷ ys) e h = tt

pub ready_follows : (s t : Outcome) → Ready s → Follows s t → Ready t
ready_follows (going a) (going b) h k = (open_as a.values b.values k.0 h.0, open_as a.labels b.labels k.1 h.1)
ready_follows s (failed g) h k = tt
ready_follows (failed f) (going b) h k = absurd (cc k)

-- ---- acts
onto_length : (xs : List (List Fact)) (gs : List Fact) → length (onto xs gs) ≡ length xs
onto_length [] gs = refl
onto_length (x ∷ xs) gs = refl

follows_outcome : (fs : List Failure) (a b : State) → Follows (going a) (going b) → Follows (going a) (outcome fs b)
follows_outcome [] a b h = h
follows_outcome (f ∷ fs) a b h = tt

follows_act : (s : Outcome) (x : Act) → Follows s (next s (act x))
follows_act (going a) x =
    follows_outcome (act_failures (scopes_of a) x) a (after a (fact_of x))
    (onto_length a.values (let f = fact_of x in f.values), onto_length a.labels (let f = fact_of x in f.labels))
follows_act (failed f) x = refl

pub follows_acted : (acts : List Act) (s : Outcome) → Follows s (acted acts s)
follows_acted [] s = follows_same s
follows_acted (x ∷ acts) s = follows_both s (next s (act x)) (acted acts (next s (act x))) (follows_act s x) (follows_acted acts (next s (act x)))

-- ---- regions
pub enters_ready : (iso : Bool) (s : Outcome) → Ready (next s (history.enter iso))
enters_ready true (going a) = (tt, tt)
enters_ready false (going a) = open_values a.values
  where
    open_values : (vs : List (List Fact)) → Ready (outcome (not_isolated false (history.top vs)) (record { values = vs; labels = [] ∷ a.labels; marks = a.marks; entries = a.entries; bound = a.bound }))
    open_values [] = tt
    open_values (v ∷ vs) = (tt, tt)
enters_ready iso (failed f) = tt

outer_length : (x : List Fact) (xs ys : List (List Fact)) → length ys ≡ length (x ∷ xs) → length (history.outer_scopes ys) ≡ length xs
outer_length x xs [] e = absurd (cc e)
outer_length x xs (y ∷ ys) e = cc e

left_follows : (iso : Bool) (place : ℕ) (a b : State) → Follows (going (entered iso a)) (going b) → Follows (going a) (next (going b) (history.leave iso place))
left_follows true place a b h =
    follows_outcome (left_open place true (history.ending b)) a (history.left true b) (outer_length [] a.values b.values h.0, outer_length [] a.labels b.labels h.1)
left_follows false place a b h =
    follows_outcome (left_open place false (history.ending b)) a (history.left false b) (h.0, outer_length [] a.labels b.labels h.1)

-- after a region as many scopes are open as before it
pub leaves_follows : (iso : Bool) (place : ℕ) (s u : Outcome) → Follows (next s (history.enter iso)) u → Follows s (next u (history.leave iso place))
leaves_follows iso place (going a) (failed g) h = tt
leaves_follows iso place (going a) (going b) h = go (not_isolated iso (history.top a.values)) h
  where
    go : (fs : List Failure) → Follows (outcome fs (entered iso a)) (going b) → Follows (going a) (next (going b) (history.leave iso place))
    go [] h = left_follows iso place a b h
    go (f ∷ fs) h = absurd (cc h)
leaves_follows iso place (failed f) u h = ap (λ z. next z (history.leave iso place)) h

-- ---- the first key under which an attribute is not allowed
-- what the machine has failed with, if it fails with this now
abbrev pub broke : Outcome → Failure → Failure
broke (going st) k = k
broke (failed g) k = g

-- the act uses a name, or is a test
abbrev IsUse : Act → Type 0
IsUse (use_value w u) = ⊤
IsUse (use_label w u) = ⊤
IsUse (claim b x) = ⊤
IsUse _ = ⊥

abbrev AllUse : List Act → Type 0
AllUse [] = ⊤
AllUse (a ∷ acts) = IsUse a × AllUse acts

-- the failures of an act where each scope is open
abbrev own_failures : Act → List Failure
own_failures (claim b x) = cond b [] (x ∷ [])
own_failures _ = []

use_next : (a : Act) (st : State) → IsUse a → Ready (going st) → next (going st) (act a) ≡ outcome (own_failures a) (after st (fact_of a))
use_next (claim b x) st i h = refl
use_next (use_value w u) st i h = go st.values h.0
  where
    go : (vs : List (List Fact)) → IsOpen vs → outcome (act_failures (record { values = history.top vs; labels = history.top st.labels; marks = st.marks; entries = st.entries }) (use_value w u)) (after st (fact_of (use_value w u))) ≡ going (after st (fact_of (use_value w u)))
    go [] k = absurd k
    go (v ∷ vs) k = refl
use_next (use_label w u) st i h = go st.labels h.1
  where
    go : (ls : List (List Fact)) → IsOpen ls → outcome (act_failures (record { values = history.top st.values; labels = history.top ls; marks = st.marks; entries = st.entries }) (use_label w u)) (after st (fact_of (use_label w u))) ≡ going (after st (fact_of (use_label w u)))
    go [] k = absurd k
    go (v ∷ vs) k = refl
use_next (script.define_value w p) st i h = absurd i
use_next (script.define_label w p) st i h = absurd i
use_next (script.mark m p) st i h = absurd i
use_next (script.entry m p) st i h = absurd i

acted_failed : (acts : List Act) (e : Failure) → acted acts (failed e) ≡ failed e
acted_failed [] e = refl
acted_failed (a ∷ acts) e = acted_failed acts e

-- uses and tests fail at the first test that does
uses_stop : (acts : List Act) (s : Outcome) (k : Failure) (others : List Failure) → AllUse acts → Ready s → flat_map own_failures acts ≡ k ∷ others → acted acts s ≡ failed (broke s k)
uses_stop [] s k others u h e = absurd (cc e)
uses_stop (a ∷ acts) (failed f) k others u h e = acted_failed acts f
uses_stop (a ∷ acts) (going st) k others u h e =
    let st' = after st (fact_of a) in
    let ready : Ready (going st') = ready_follows (going st) (going st') h (onto_length st.values (let f = fact_of a in f.values), onto_length st.labels (let f = fact_of a in f.labels)) in
    ap (acted acts) (use_next a st u.0 h) ∙ go (λ e. uses_stop acts (going st') k others u.1 ready e) (own_failures a) refl
  where
    go : (flat_map own_failures acts ≡ k ∷ others → acted acts (going (after st (fact_of a))) ≡ failed k) → (fs : List Failure) → own_failures a ≡ fs → acted acts (outcome fs (after st (fact_of a))) ≡ failed k
    go again [] f = again (sym (ap (λ z. z ++ flat_map own_failures acts) f) ∙ e)
    go again (g ∷ gs) f = let same : g ≡ k = cc (sym (ap (λ z. z ++ flat_map own_failures acts) f) ∙ e) in acted_failed acts g ∙ ap failed same

-- so do tests of keys, in any state
keys_stop : {A : Type 0} (es : List (Name ℕ × Attribute A)) (s : Outcome) (k : Failure) (others : List Failure) → fails_outside (map (key_act may_hold) es) ≡ k ∷ others → acted (map (key_act may_hold) es) s ≡ failed (broke s k)
keys_stop [] s k others e = absurd (cc e)
keys_stop (x ∷ es) (failed f) k others e = acted_failed (map (key_act may_hold) es) f
keys_stop (x ∷ es) (going st) k others e = go (λ e. keys_stop es (going (after st (fact_of (key_act may_hold x)))) k others e) (may_hold x.0.text x.1) refl
  where
    refused : Failure
    refused = record { cause = script.ReservedKey x.0.text; at = Some x.0.place }

    go : (fails_outside (map (key_act may_hold) es) ≡ k ∷ others → acted (map (key_act may_hold) es) (going (after st (fact_of (key_act may_hold x)))) ≡ failed k) → (b : Bool) → may_hold x.0.text x.1 ≡ b → acted (map (key_act may_hold) es) (next (going st) (act (key_act may_hold x))) ≡ failed k
    go again true f =
        ap (λ b. acted (map (key_act may_hold) es) (outcome (cond b [] (refused ∷ [])) (after st (fact_of (key_act may_hold x))))) f
        ∙ again (sym (ap (λ b. cond b [] (refused ∷ []) ++ fails_outside (map (key_act may_hold) es)) f) ∙ e)
    go again false f =
        let same : refused ≡ k = cc (sym (ap (λ b. cond b [] (refused ∷ []) ++ fails_outside (map (key_act may_hold) es)) f) ∙ e) in
        ap (λ b. acted (map (key_act may_hold) es) (outcome (cond b [] (refused ∷ [])) (after st (fact_of (key_act may_hold x))))) f
        ∙ (acted_failed (map (key_act may_hold) es) refused ∙ ap failed same)

-- ---- the acts of pieces
all_both : (xs ys : List Act) → AllUse xs → AllUse ys → AllUse (xs ++ ys)
all_both [] ys h k = k
all_both (x ∷ xs) ys h k = (h.0, all_both xs ys h.1 k)

values_use : (p : Path) (j : ℕ) (ns : List (Name ℕ)) → AllUse (value_uses p j ns) × (flat_map own_failures (value_uses p j ns) ≡ [])
values_use p j [] = (tt, refl)
values_use p j (n ∷ ns) = let k = values_use p (suc j) ns in ((tt, k.0), k.1)

labels_use : (p : Path) (j : ℕ) (ns : List (Name ℕ)) → AllUse (label_uses p j ns) × (flat_map own_failures (label_uses p j ns) ≡ [])
labels_use p j [] = (tt, refl)
labels_use p j (n ∷ ns) = let k = labels_use p (suc j) ns in ((tt, k.0), k.1)

keys_use : {A : Type 0} (es : List (Name ℕ × Attribute A)) → AllUse (map (key_act may_hold) es) × (flat_map own_failures (map (key_act may_hold) es) ≡ fails_outside (map (key_act may_hold) es))
keys_use [] = (tt, refl)
keys_use (e ∷ es) = let k = keys_use es in ((tt, k.0), ap (λ z. cond (may_hold e.0.text e.1) [] (record { cause = script.ReservedKey e.0.text; at = Some e.0.place } ∷ []) ++ z) k.1)

piece_use : {T A : Type 0} (p : Path) (j k : ℕ) (q : Piece ℕ T A) → AllUse (piece_acts p j k q) × (flat_map own_failures (piece_acts p j k q) ≡ key_failures q)
piece_use p j k (tree.word s) = (tt, refl)
piece_use p j k (tree.operand i n) = ((tt, tt), refl)
piece_use p j k (tree.operands ns) = values_use p j ns
piece_use p j k (tree.successor i n) = ((tt, tt), refl)
piece_use p j k (tree.successors ns) = labels_use p k ns
piece_use p j k (tree.attribute t a) = (tt, refl)
piece_use p j k (tree.dictionary es) = keys_use es
piece_use p j k (tree.result_type i t) = (tt, refl)
piece_use p j k (tree.header n) = (tt, refl)
piece_use p j k (tree.types ts) = (tt, refl)

flat_both : {X Y : Type 0} (f : X → List Y) (xs ys : List X) → flat_map f (xs ++ ys) ≡ flat_map f xs ++ flat_map f ys
flat_both f [] ys = refl
flat_both f (x ∷ xs) ys = ap (λ z. f x ++ z) (flat_both f xs ys) ∙ sym (append_assoc (f x) (flat_map f xs) (flat_map f ys))

parts_use : {T A : Type 0} (p : Path) (j k : ℕ) (ps : List (Part ℕ T A)) → AllUse (views (piece_acts p j k) ps) × (flat_map own_failures (views (piece_acts p j k) ps) ≡ views key_failures ps)
parts_use p j k [] = (tt, refl)
parts_use p j k (tree.piece q ∷ ps) =
    let first = piece_use p j k q in
    let more = parts_use p j k ps in (
      all_both (piece_acts p j k q) (views (piece_acts p j k) ps) first.0 more.0,
      flat_both own_failures (piece_acts p j k q) (views (piece_acts p j k) ps) ∙ (ap (λ z. z ++ flat_map own_failures (views (piece_acts p j k) ps)) first.1 ∙ ap (λ z. key_failures q ++ z) more.1),
    )
parts_use p j k (tree.region i ∷ ps) = parts_use p j k ps
parts_use p j k (tree.regions ∷ ps) = parts_use p j k ps

-- ---- the actions on names, where any attribute is accepted under a reserved key
module _ {T A : Type 0} (formats : Id → Option Format) (path : ℕ → Path) where
  -- what had failed stays failed
  pub freely_keeps : (e : Failure) → Keeps {T = T} {A = A} (freely (naming formats path)) (failed e)
  freely_keeps e =
      let k = failed_keeps {T = T} {A = A} formats path e in
      record { uses = k.uses; late = k.late; enters = k.enters; leaves = k.leaves; closes = k.closes; marks = k.marks; heads = k.heads }

  -- the parts before the first region fail at the first such key
  pub uses_broke : (place : ℕ) (id : Id) (parts : List (Part ℕ T A)) (s : Outcome) (k : Failure) (others : List Failure) → Ready s → views key_failures parts ≡ k ∷ others
      → acted (views (acts_of_piece {T = T} {A = A} formats path place id) parts) s ≡ failed (broke s k)
  uses_broke place id parts s k others h e =
      let u = parts_use {T = T} {A = A} (path place) _ _ parts in
      uses_stop (views (acts_of_piece {T = T} {A = A} formats path place id) parts) s k others u.0 h (u.1 ∙ e)

  -- and so does a piece after it, in any state
  pub late_broke : (place : ℕ) (id : Id) (p : Piece ℕ T A) (s : Outcome) (k : Failure) (others : List Failure) → key_failures p ≡ k ∷ others
      → acted (acts_of_piece {T = T} {A = A} formats path place id p) s ≡ failed (broke s k)
  late_broke place id (tree.dictionary es) s k others e = keys_stop es s k others e
  late_broke place id p s k others e = absurd (cc e)
