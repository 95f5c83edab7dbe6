-- One more name is used after those of a list.
use Rattle.std.proofs.Common.{◌≡◌, ◌+◌, ◌∙◌, ◌⊎◌, inl, inr, ℕ, suc, List, [], ◌∷◌, ◌++◌, length, map, Option, Some, None, refl, sym, ap, subst, arith, true, append_assoc, append-nil, slice_get}
use Rattle.irtext_base.specs.Text.{Text}
use Rattle.irtext_graph.specs.declared.arena.Ptr.{Ptr}
use Rattle.irtext_graph.specs.declared.object.BasicBlock.{BasicBlock}
use Rattle.irtext_graph.specs.declared.object.Value.{Value}
use Rattle.irtext_graph.specs.declared.object.Defined.{Defined}
use Rattle.irtext_graph.specs.Chained.{Among}
use Rattle.irtext_graph.specs.Graph.{GraphView}
use Rattle.irtext_graph.specs.Used.{IsDefined}
use Rattle.irtext_scopes.specs.declared.scopes.Entry.{Entry}
use Rattle.irtext_scopes.specs.declared.tracker.NameTracker.{NameTracker}
use Rattle.irtext_scopes.specs.Scopes.{Scope, find, innermost, in_innermost, is_open}
use Rattle.irtext_grammar.specs.Grammar.Tree.{Name}
use Rattle.irtext_grammar.specs.Names.Acts.{word_of}
use Rattle.irtext_grammar.specs.Names.Script.{User}
use Rattle.irtext_grammar.specs.Names.TextScopes.{Act, Word, Failure}
use Rattle.irtext_grammar.specs.Names.History.{act, Event, Outcome, going, failed, next, run, after}
use Rattle.irtext_grammar.specs.Names.Scopes.{fact_of}
use Rattle.irtext_names.specs.Linked.{NamesAgree, TakesUse}
use Rattle.irtext_names.specs.Placeholders.{Uses}
use Rattle.irtext_names.specs.Rows.{AreNamed, uses_from, in_hand_from, TakesUses, UsesRow}

-- ---- lists
-- the events before one, that one, and those after it
pub run_through : (o : Outcome) (es : List Event) (e : Event) (fs : List Event) → run o (es ++ e ∷ fs) ≡ run (next (run o es) e) fs
run_through o [] e fs = refl
run_through o (f ∷ es) e fs = run_through (next o f) es e fs

pub map-through : {X Y : Type 0} (f : X → Y) (xs : List X) (x : X) (ys : List X) → map f (xs ++ x ∷ ys) ≡ map f xs ++ f x ∷ map f ys
map-through f [] x ys = refl
map-through f (y ∷ xs) x ys = ap (λ zs. f y ∷ zs) (map-through f xs x ys)

-- what has failed stays so
pub rest_fails : (f : Failure) (es : List Event) → run (failed f) es ≡ failed f
rest_fails f [] = refl
rest_fails f (e ∷ es) = rest_fails f es

uses_more : (uses : Word → User → Act) (user : ℕ → User) (i : ℕ) (ws : List (Name ℕ)) (w : Name ℕ) → uses_from uses user i (ws ++ w ∷ []) ≡ uses_from uses user i ws ++ uses (word_of w) (user (i + length ws)) ∷ []
uses_more uses user i [] w = ap (λ j. uses (word_of w) (user j) ∷ []) (omega arith)
uses_more uses user i (x ∷ ws) w = ap (λ acts. uses (word_of x) (user i) ∷ acts) (uses_more uses user (suc i) ws w
    ∙ ap (λ j. uses_from uses user (suc i) ws ++ uses (word_of w) (user j) ∷ []) (omega arith))

in_hand_more : {X : Type 0} (of : X → Defined) (user : ℕ → User) (i : ℕ) (xs : List X) (x : X) → in_hand_from of user i (xs ++ x ∷ []) ≡ in_hand_from of user i xs ++ (user (i + length xs), of x) ∷ []
in_hand_more of user i [] x = ap (λ j. (user j, of x) ∷ []) (omega arith)
in_hand_more of user i (y ∷ xs) x = ap (λ acts. (user i, of y) ∷ acts) (in_hand_more of user (suc i) xs x
    ∙ ap (λ j. in_hand_from of user (suc i) xs ++ (user j, of x) ∷ []) (omega arith))

-- the names of a list, one of them, and those after it
pub record Split (table : List Text) (ns : List ℕ) (n : ℕ) (ws : List (Name ℕ)) : Type 0 where
  pub front : List (Name ℕ)
  pub here : Name ℕ
  pub following : List (Name ℕ)
  pub whole : ws ≡ front ++ here ∷ following
  pub are : AreNamed table ns front
  pub is : slice_get table n ≡ Some here.text
  pub count : length front ≡ length ns

pub split : (table : List Text) (ns : List ℕ) (n : ℕ) (ms : List ℕ) (ws : List (Name ℕ)) → AreNamed table (ns ++ n ∷ ms) ws → Split table ns n ws
split table [] n ms [] a = absurd a
split table [] n ms (w ∷ ws) a = record { front = []; here = w; following = ws; whole = refl; are = tt; is = a.0; count = refl }
split table (m ∷ ns) n ms [] a = absurd a
split table (m ∷ ns) n ms (w ∷ ws) a =
    let s = split table ns n ms ws a.1 in
    record { front = w ∷ s.front; here = s.here; following = s.following; whole = ap (λ xs. w ∷ xs) s.whole; are = (a.0, s.are); is = s.is; count = ap suc s.count }

-- after the last name of a list there is none
pub none_follows : (table : List Text) (ns : List ℕ) (n : ℕ) (ws : List (Name ℕ)) (a : AreNamed table (ns ++ n ∷ []) ws) → (split table ns n [] ws a).following ≡ []
unfolding split
none_follows table [] n [] a = absurd a
none_follows table [] n (w ∷ []) a = refl
none_follows table [] n (w ∷ x ∷ ws) a = absurd a.1
none_follows table (m ∷ ns) n [] a = absurd a
none_follows table (m ∷ ns) n (w ∷ ws) a = none_follows table ns n ws a.1

among_last : {X : Type 0} (x y : X) (xs : List X) → Among x (xs ++ y ∷ []) → Among x xs ⊎ (x ≡ y)
among_last x y [] (inl e) = inr e
among_last x y [] (inr a) = absurd a
among_last x y (z ∷ xs) (inl e) = inl (inl e)
among_last x y (z ∷ xs) (inr a) = elim (among_last x y xs a) [ inl b ↦ inl (inr b) | inr e ↦ inr e ]

length-more : {X : Type 0} (xs : List X) (x : X) → length (xs ++ x ∷ []) ≡ suc (length xs)
length-more [] x = refl
length-more (y ∷ xs) x = ap suc (length-more xs x)

-- ---- one act more
module _ {O B T : Type 0} where
  one_more : (acts : List Act) (a : Act) (old mid new : NameTracker Value (Ptr BasicBlock)) (g h k : GraphView (Option O) B T) (more : List (User × Defined)) (u : User) (d : Defined)
      → TakesUses acts old mid g h more → TakesUse a mid new h k u d → TakesUses (acts ++ a ∷ []) old new g k (more ++ (u, d) ∷ [])
  one_more acts a old mid new g h k more u d s t = record {
    so = λ known held st agreed.
        let r = s.so known held st agreed in
        let q = t.so known (held ++ more) r.0 r.2 in (
          after r.0 (fact_of a),
          ap (run (going st)) (map-through act acts a []) ∙ (run_through (going st) (map act acts) (act a) [] ∙ (ap (λ o. next o (act a)) r.1 ∙ q.0)),
          subst (λ xs. NamesAgree new k known xs (after r.0 (fact_of a))) (append_assoc held more ((u, d) ∷ [])) q.1,
        );
  }

  module _ {V : Type 0} (Makes : GraphView (Option O) B T → GraphView (Option O) B T → V → Type 0) (old new : List (Scope V)) (g k : GraphView (Option O) B T) (n : ℕ) (v : V) (u : Uses Makes old new g k n v) where
    -- what was made, or was known, leaves all there
    pub use_there : ((d : Defined) → Makes g k v → IsDefined g d → IsDefined k d) → (d : Defined) → IsDefined g d → IsDefined k d
    use_there makes d = go (find n (innermost old)) refl
      where
        go : (o : Option (Entry V)) → find n (innermost old) ≡ o → IsDefined g d → IsDefined k d
        go (Some e) f there = rw ((u.known e f).2) there
        go None f there = makes d (u.unknown f).1 there

    -- a scope stays open
    pub use_open : is_open old ≡ true → is_open new ≡ true
    use_open o = go (find n (innermost old)) refl
      where
        opens : (f : Scope V → Scope V) (ss : List (Scope V)) → is_open ss ≡ true → is_open (in_innermost f ss) ≡ true
        opens f [] e = e
        opens f (s ∷ ss) e = refl

        go : (x : Option (Entry V)) → find n (innermost old) ≡ x → is_open new ≡ true
        go (Some e) f = rw ((u.known e f).1) o
        go None f = rw ((u.unknown f).0) (opens _ old o)

  module _ {X : Type 0} (of : X → Defined) (uses : Word → User → Act) where
    pub no_uses : (names : NameTracker Value (Ptr BasicBlock)) (g : GraphView (Option O) B T) → UsesRow of uses [] names names g g []
    no_uses names g = record { count = refl; there = record { still = λ d e. e; each = λ x a. absurd a }; follows = none }
      where
        none : (ws : List (Name ℕ)) → AreNamed names.names [] ws → (user : ℕ → User) (i : ℕ) → TakesUses (uses_from uses user i ws) names names g g []
        none [] a user i = record { so = λ known held st s. (st, refl, subst (λ xs. NamesAgree names g known xs st) (sym (append-nil held)) s) }
        none (w ∷ ws) a user i = absurd a

    -- one more, which is used after those of a list
    pub use_more : (ns : List ℕ) (n : ℕ) (old mid new : NameTracker Value (Ptr BasicBlock)) (g h k : GraphView (Option O) B T) (xs : List X) (x : X) → mid.names ≡ old.names
        → UsesRow of uses ns old mid g h xs → ((d : Defined) → IsDefined h d → IsDefined k d) → IsDefined k (of x)
        → ((w : Word) (u : User) → slice_get mid.names n ≡ Some w.name → TakesUse (uses w u) mid new h k u (of x))
        → UsesRow of uses (ns ++ n ∷ []) old new g k (xs ++ x ∷ [])
    use_more ns n old mid new g h k xs x same s still there takes = record {
      count = length-more xs x ∙ (ap suc s.count ∙ sym (length-more ns n));
      there = record {
        still = λ d e. still d (s.there.still d e);
        each = λ y a. elim (among_last y x xs a) [ inl b ↦ still (of y) (s.there.each y b) | inr e ↦ subst (λ z. IsDefined k (of z)) (sym e) there ];
      };
      follows = follows;
    }
      where
        follows : (ws : List (Name ℕ)) → AreNamed old.names (ns ++ n ∷ []) ws → (user : ℕ → User) (i : ℕ) → TakesUses (uses_from uses user i ws) old new g k (in_hand_from of user i (xs ++ x ∷ []))
        follows ws a user i =
            let t = split old.names ns n [] ws a in
            let w = word_of t.here in
            let last : ws ≡ t.front ++ t.here ∷ [] = t.whole ∙ ap (λ ys. t.front ++ t.here ∷ ys) (none_follows old.names ns n ws a) in
            let u = user (i + length t.front) in
            let place : i + length xs ≡ i + length t.front = ap (λ j. i + j) (s.count ∙ sym t.count) in
            let one = one_more (uses_from uses user i t.front) (uses w u) old mid new g h k (in_hand_from of user i xs) u (of x) (s.follows t.front t.are user i) (takes w u (ap (λ names. slice_get names n) same ∙ t.is)) in
            subst (λ acts. TakesUses acts old new g k (in_hand_from of user i (xs ++ x ∷ []))) (sym (uses_more uses user i t.front t.here) ∙ ap (uses_from uses user i) (sym last))
            (subst (λ hs. TakesUses (uses_from uses user i t.front ++ uses w u ∷ []) old new g k hs) (ap (λ j. in_hand_from of user i xs ++ (user j, of x) ∷ []) (sym place) ∙ sym (in_hand_more of user i xs x)) one)
