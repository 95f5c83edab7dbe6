-- The map with placeholders follows the list of facts, for the names of one kind.
use Rattle.std.proofs.Common.{◌≡◌, ℕ, suc, ◌<◌, ◌≤◌, Bool, true, false, cond, List, [], ◌∷◌, ◌++◌, map, Option, Some, None, is_some, Result, Ok, Err, option_map, refl, sym, ap, ◌∙◌, subst, ◌⊎◌, inl, ⊎_elim, append_assoc, append-nil, arith, eq-eqb, ne_eqb, true≢false, le_refl}
use Rattle.irtext_base.specs.Text.{Text}
use Rattle.irtext_base.specs.Format.{same_text}
use Rattle.irtext_grammar.specs.Names.Script as script
use Rattle.irtext_grammar.specs.Names.Script.{Place, User, NoActiveScope, UnresolvedReference, MultipleDefinitions}
use Rattle.irtext_grammar.specs.Names.Scopes.{uses, defines, fail, link, outside}
use Rattle.irtext_grammar.specs.Names.TextScopes.{Word, Fact, Failure, lookup, bound_in, unresolved, defined_before}
use Rattle.irtext_grammar.specs.Names.History.{top, top_facts, onto}
use Rattle.irtext_grammar.specs.Names.Placeholders.{Held, bound, hole, Names, fill, fill_second, used, use_in, use_name, defined, define_in, define_name, enter_scope, pending, left_at, leave_in, leave_scope}
use Rattle.irtext_grammar.proofs.Lists.SameText.{same_text_refl, same_text_true, same_text_eq}
use Rattle.irtext_grammar.proofs.Lists.Lists.{among, or_else, or_else-none, lookup-append, lookup-use, lookup-define, add, name_of, names_from, names-append, among-new, among-differs, among-added, among-names, entries, shown, entries-append, shown-append, find-entries, same_entries, same_shown}
use Rattle.irtext_grammar.proofs.Lists.Sets.{Same, same_refl, same_path, same_then, same_both, same_map, same_swap}

-- what a name refers to: its definition, or else a placeholder of this number
abbrev pub held_of : Option Place → ℕ → Held
held_of (Some p) k = bound p
held_of None k = hole k

-- what a name has among facts: its definition, or else its placeholder
abbrev pub held : (Text → ℕ) → List Fact → Text → Held
held v f n = held_of (lookup n f) (v n)

-- An open scope: its facts, the placeholder of each name, and a bound below all of them.
pub record Scope : Type 0 where
  pub facts : List Fact
  pub number : Text → ℕ
  pub base : ℕ

-- what a name refers to in a scope
abbrev pub means : Scope → Text → Held
means g = held g.number g.facts

-- the names that facts mention
abbrev pub names : List Fact → List Text
names f = names_from [] f

-- a scope's map
abbrev pub map_of : Scope → List (Text × Held)
map_of g = entries (means g) (names g.facts)

-- the maps of scopes
abbrev pub maps_of : List Scope → List (List (Text × Held))
maps_of [] = []
maps_of (g ∷ gs) = map_of g ∷ maps_of gs

-- the facts of scopes
abbrev pub facts_in : List Scope → List (List Fact)
facts_in [] = []
facts_in (g ∷ gs) = g.facts ∷ facts_in gs

-- what the uses in the open scopes hold
abbrev pub operands : List Scope → List (User × Held)
operands [] = []
operands (g ∷ gs) = shown (means g) g.facts ++ operands gs

-- what is bound for good, as it is stored
abbrev pub final : List (User × Place) → List (User × Held)
final [] = []
final ((u, p) ∷ b) = (u, bound p) ∷ final b

-- the name is among the facts, and has no definition
pub record Pending (f : List Fact) (n : Text) : Type 0 where
  pub there : among n (names f) ≡ true
  pub open_yet : lookup n f ≡ None

-- the placeholders of a scope differ, and are between two bounds
pub record Apart (g : Scope) (high : ℕ) : Type 0 where
  pub low : g.base ≤ high
  pub within : (n : Text) → Pending g.facts n → (g.base ≤ g.number n) × (g.number n < high)
  pub apart : (m n : Text) → Pending g.facts m → Pending g.facts n → g.number m ≡ g.number n → m ≡ n

-- the placeholders of each open scope have higher numbers than those of the scope outside of it
abbrev pub Stacked : ℕ → List Scope → Type 0
Stacked high [] = Unit {0}
Stacked high (g ∷ gs) = Apart g high × Stacked g.base gs

-- the parser's state is what the open scopes and what is bound say
pub record Linked (gs : List Scope) (b : List (User × Place)) (s : Names) : Type 0 where
  pub scopes_are : s.scopes ≡ maps_of gs
  pub stacked : Stacked s.fresh gs
  pub slots_are : Same s.slots (operands gs ++ final b)

-- ---- a scope with one more fact
abbrev pub more : Scope → Fact → (Text → ℕ) → Scope
more g x v = record { facts = g.facts ++ x ∷ []; number = v; base = g.base }

names_known : (f : List Fact) (x : Fact) → among (name_of x) (names f) ≡ true → names (f ++ x ∷ []) ≡ names f
names_known f x h = names-append [] f x ∙ ap (λ b. cond b (names f) (names f ++ name_of x ∷ [])) h

names_new : (f : List Fact) (x : Fact) → among (name_of x) (names f) ≡ false → names (f ++ x ∷ []) ≡ names f ++ name_of x ∷ []
names_new f x h = names-append [] f x ∙ ap (λ b. cond b (names f) (names f ++ name_of x ∷ [])) h

-- what was in scope means the same: so are the entries and the operands
shown_more : (g : Scope) (x : Fact) (v : Text → ℕ) → ((n : Text) → among n (names g.facts) ≡ true → means g n ≡ means (more g x v) n) → shown (means (more g x v)) (g.facts ++ x ∷ []) ≡ shown (means g) g.facts ++ shown (means (more g x v)) (x ∷ [])
shown_more g x v h = shown-append (means (more g x v)) g.facts (x ∷ []) ∙ ap (λ xs. xs ++ shown (means (more g x v)) (x ∷ [])) (sym (same_shown (means g) (means (more g x v)) [] g.facts h))

map_known : (g : Scope) (x : Fact) (v : Text → ℕ) → among (name_of x) (names g.facts) ≡ true → ((n : Text) → among n (names g.facts) ≡ true → means g n ≡ means (more g x v) n) → map_of (more g x v) ≡ map_of g
map_known g x v k h = ap (entries (means (more g x v))) (names_known g.facts x k) ∙ sym (same_entries (means g) (means (more g x v)) (names g.facts) h)

map_new : (g : Scope) (x : Fact) (v : Text → ℕ) → among (name_of x) (names g.facts) ≡ false → ((n : Text) → among n (names g.facts) ≡ true → means g n ≡ means (more g x v) n) → map_of (more g x v) ≡ map_of g ++ (name_of x, means (more g x v) (name_of x)) ∷ []
map_new g x v k h =
    ap (entries (means (more g x v))) (names_new g.facts x k)
    ∙ (entries-append (means (more g x v)) (names g.facts) (name_of x ∷ [])
    ∙ ap (λ xs. xs ++ (name_of x, means (more g x v) (name_of x)) ∷ []) (sym (same_entries (means g) (means (more g x v)) (names g.facts) h)))

-- a name that facts do not mention has no definition there
pub not_mentioned : (n : Text) (ns : List Text) (f : List Fact) → among n (names_from ns f) ≡ false → lookup n f ≡ None
not_mentioned n ns [] h = refl
not_mentioned n ns (uses m u ∷ f) h = not_mentioned n (add ns m) f h
not_mentioned n ns (defines m p ∷ f) h = go (same_text m n) refl (not_mentioned n (add ns m) f h)
  where
    go : (b : Bool) → same_text m n ≡ b → lookup n f ≡ None → cond b (Some p) (lookup n f) ≡ None
    go true e k = absurd (true≢false (sym (subst (λ z. among z (names_from (add ns m) f) ≡ true) (same_text_true m n e) (among-names m (add ns m) f (among-added m ns))) ∙ h))
    go false e k = k

-- ---- what the calls return
abbrev pub Agrees : List Failure → List Scope → List (User × Place) → Result Names Failure → Type 0
Agrees [] gs b (Ok s) = Linked gs b s
Agrees [] gs b (Err f) = ⊥
Agrees (x ∷ xs) gs b (Ok s) = ⊥
Agrees (x ∷ xs) gs b (Err f) = f ≡ x

-- a parser's result agrees with these failures, or else has open scopes of these facts
pub record Follows (F : List Failure) (fs : List (List Fact)) (b : List (User × Place)) (r : Result Names Failure) : Type 0 where
  pub scopes : List Scope
  pub facts_are : facts_in scopes ≡ fs
  pub agrees : Agrees F scopes b r

-- one more operand of the innermost scope
reordered : {A : Type 0} (S F R B X : List A) → Same S ((F ++ R) ++ B) → Same (S ++ X) (((F ++ X) ++ R) ++ B)
reordered S F R B X p =
    same_then (same_both p (same_refl X))
    (same_then (same_path (((F ++ R) ++ B) ++ X) (F ++ ((R ++ B) ++ X)) (ap (λ z. z ++ X) (append_assoc F R B) ∙ append_assoc F (R ++ B) X))
    (same_then (same_both (same_refl F) (same_swap (R ++ B) X))
    (same_path (F ++ (X ++ (R ++ B))) (((F ++ X) ++ R) ++ B) (sym (append_assoc F X (R ++ B)) ∙ sym (append_assoc (F ++ X) R B)))))

named : (f : List Fact) (x : Fact) (m : Text) → among m (names (f ++ x ∷ [])) ≡ true → (among m (names f) ≡ true) ⊎ (name_of x ≡ m)
named f x m h = go (among (name_of x) (names f)) (sym (ap (among m) (names-append [] f x)) ∙ h)
  where
    go : (b : Bool) → among m (cond b (names f) (names f ++ name_of x ∷ [])) ≡ true → (among m (names f) ≡ true) ⊎ (name_of x ≡ m)
    go true k = inl k
    go false k = among-new (name_of x) m (names f) k

-- ---- a use
module _ (g : Scope) (gs : List Scope) (b : List (User × Place)) (s : Names) (w : Word) (u : User) (l : Linked (g ∷ gs) b s) where
  found_linked : among w.name (names g.facts) ≡ true → Linked (more g (uses w.name u) g.number ∷ gs) b (record s { slots = s.slots ++ (u, means g w.name) ∷ [] })
  found_linked e =
      let x : Fact = uses w.name u in
      let same : (n : Text) → among n (names g.facts) ≡ true → means g n ≡ means (more g x g.number) n = λ n h. ap (λ o. held_of o (g.number n)) (sym (lookup-use n w.name u g.facts)) in
      let old : (m : Text) → Pending (g.facts ++ x ∷ []) m → Pending g.facts m = λ m p. record {
        there = ⊎_elim (λ k. k) (λ k. subst (λ z. among z (names g.facts) ≡ true) k e) (named g.facts x m p.there);
        open_yet = sym (lookup-use m w.name u g.facts) ∙ p.open_yet;
      } in
      let a = l.stacked.0 in
      record {
        scopes_are = l.scopes_are ∙ ap (λ m. m ∷ maps_of gs) (sym (map_known g x g.number e same));
        stacked = (record { low = a.low; within = λ m p. a.within m (old m p); apart = λ m n p q. a.apart m n (old m p) (old n q) }, l.stacked.1);
        slots_are = same_then (reordered s.slots (shown (means g) g.facts) (operands gs) (final b) ((u, means g w.name) ∷ []) l.slots_are)
            (same_path _ _ (ap (λ z. (z ++ operands gs) ++ final b) (ap (λ h. shown (means g) g.facts ++ (u, h) ∷ []) (same w.name e) ∙ sym (shown_more g x g.number same))));
      }

  numbered : Text → ℕ
  numbered m = cond (same_text w.name m) s.fresh (g.number m)

  new_linked : among w.name (names g.facts) ≡ false → Linked (more g (uses w.name u) numbered ∷ gs) b (record { scopes = (map_of g ++ (w.name, hole s.fresh) ∷ []) ∷ maps_of gs; slots = s.slots ++ (u, hole s.fresh) ∷ []; fresh = suc s.fresh })
  unfolding numbered
  new_linked e =
      let x : Fact = uses w.name u in
      let g' = more g x numbered in
      let differs : (n : Text) → among n (names g.facts) ≡ true → numbered n ≡ g.number n = λ n h. ap (λ c. cond c s.fresh (g.number n)) (among-differs w.name n (names g.facts) h e) in
      let same : (n : Text) → among n (names g.facts) ≡ true → means g n ≡ means g' n = λ n h. ap (λ o. held_of o (g.number n)) (sym (lookup-use n w.name u g.facts)) ∙ ap (held_of (lookup n g'.facts)) (sym (differs n h)) in
      let itself : means g' w.name ≡ hole s.fresh = ap (λ o. held_of o (numbered w.name)) (lookup-use w.name w.name u g.facts ∙ not_mentioned w.name [] g.facts e) ∙ ap (λ c. hole (cond c s.fresh (g.number w.name))) (same_text_refl w.name) in
      let old : (m : Text) → among m (names g.facts) ≡ true → Pending g'.facts m → Pending g.facts m = λ m k p. record { there = k; open_yet = sym (lookup-use m w.name u g.facts) ∙ p.open_yet } in
      let last : (m : Text) → w.name ≡ m → numbered m ≡ s.fresh = λ m k. ap (λ c. cond c s.fresh (g.number m)) (same_text_eq w.name m k) in
      let a = l.stacked.0 in
      record {
        scopes_are = ap (λ m. m ∷ maps_of gs) (sym (map_new g x numbered e same ∙ ap (λ h. map_of g ++ (w.name, h) ∷ []) itself));
        stacked = (
          record {
            low = let k = a.low in omega arith;
            within = λ m p. ⊎_elim (λ k. let h = a.within m (old m k p) in let d = differs m k in let h0 = h.0 in let h1 = h.1 in (omega arith, omega arith)) (λ k. let d = last m k in let k = a.low in (omega arith, omega arith)) (named g.facts x m p.there);
            apart = λ m n p q d. ⊎_elim
                (λ i. ⊎_elim (λ j. a.apart m n (old m i p) (old n j q) (sym (differs m i) ∙ (d ∙ differs n j))) (λ j. let h = (a.within m (old m i p)).1 in let d0 = differs m i in let d1 = last n j in absurd (omega arith)) (named g.facts x n q.there))
                (λ i. ⊎_elim (λ j. let h = (a.within n (old n j q)).1 in let d0 = differs n j in let d1 = last m i in absurd (omega arith)) (λ j. sym i ∙ j) (named g.facts x n q.there))
                (named g.facts x m p.there);
          },
          l.stacked.1,
        );
        slots_are = same_then (reordered s.slots (shown (means g) g.facts) (operands gs) (final b) ((u, hole s.fresh) ∷ []) l.slots_are)
            (same_path _ _ (ap (λ z. (z ++ operands gs) ++ final b) (ap (λ h. shown (means g) g.facts ++ (u, h) ∷ []) (sym itself) ∙ sym (shown_more g x numbered same))));
      }

-- the machine's step at a use says what the facts with that use say
pub use_follows : (gs : List Scope) (b : List (User × Place)) (s : Names) (w : Word) (u : User) → Linked gs b s → Follows (outside (top (facts_in gs)) w) (onto (facts_in gs) (uses w.name u ∷ [])) b (use_name s w u)
use_follows [] b s w u l = record { scopes = []; facts_are = refl; agrees = subst (λ z. Agrees (fail (NoActiveScope w.name) w.at) [] b (use_in s w u z)) (sym l.scopes_are) refl }
use_follows (g ∷ gs) b s w u l = go (among w.name (names g.facts)) refl
  where
    answer : (c : Bool) → among w.name (names g.facts) ≡ c → use_name s w u ≡ used s w u (map_of g) (maps_of gs) (cond c (Some (means g w.name)) None)
    answer c e = ap (use_in s w u) l.scopes_are ∙ ap (used s w u (map_of g) (maps_of gs)) (find-entries (means g) w.name (names g.facts) ∙ ap (λ c. cond c (Some (means g w.name)) None) e)

    go : (c : Bool) → among w.name (names g.facts) ≡ c → Follows [] ((g.facts ++ uses w.name u ∷ []) ∷ facts_in gs) b (use_name s w u)
    go true e = record { scopes = more g (uses w.name u) g.number ∷ gs; facts_are = refl; agrees = subst (Agrees [] (more g (uses w.name u) g.number ∷ gs) b) (sym (answer true e)) (found_linked g gs b s w u l e) }
    go false e = record { scopes = more g (uses w.name u) (numbered g gs b s w u l) ∷ gs; facts_are = refl; agrees = subst (Agrees [] (more g (uses w.name u) (numbered g gs b s w u l) ∷ gs) b) (sym (answer false e)) (new_linked g gs b s w u l e) }

-- ---- a definition
filled_final : (h : ℕ) (p : Place) (b : List (User × Place)) → map (fill_second h p) (final b) ≡ final b
filled_final h p [] = refl
filled_final h p ((u, q) ∷ b) = ap (λ z. (u, bound q) ∷ z) (filled_final h p b)

shown_filled : (h : ℕ) (p : Place) (F : Text → Held) (f : List Fact) → map (fill_second h p) (shown F f) ≡ shown (λ n. fill h p (F n)) f
shown_filled h p F [] = refl
shown_filled h p F (uses n u ∷ f) = ap (λ z. (u, fill h p (F n)) ∷ z) (shown_filled h p F f)
shown_filled h p F (defines n q ∷ f) = shown_filled h p F f

entries_filled : (h : ℕ) (p : Place) (F : Text → Held) (ns : List Text) → map (fill_second h p) (entries F ns) ≡ entries (λ n. fill h p (F n)) ns
entries_filled h p F [] = refl
entries_filled h p F (n ∷ ns) = ap (λ z. (n, fill h p (F n)) ∷ z) (entries_filled h p F ns)

map_append : {A B : Type 0} (F : A → B) (xs ys : List A) → map F (xs ++ ys) ≡ map F xs ++ map F ys
map_append F [] ys = refl
map_append F (x ∷ xs) ys = ap (λ z. F x ∷ z) (map_append F xs ys)

-- placeholders below h are not h
untouched : (h : ℕ) (p : Place) (g : Scope) (high : ℕ) → Apart g high → high ≤ h → (n : Text) → among n (names g.facts) ≡ true → fill h p (means g n) ≡ means g n
untouched h p g high a below n k = go (lookup n g.facts) refl
  where
    go : (o : Option Place) → lookup n g.facts ≡ o → fill h p (held_of o (g.number n)) ≡ held_of o (g.number n)
    go (Some q) e = refl
    go None e = let i = (a.within n (record { there = k; open_yet = e })).1 in ap (λ c. cond c (bound p) (hole (g.number n))) (ne_eqb (g.number n) h (λ d. omega arith))

untouched_all : (h : ℕ) (p : Place) (gs : List Scope) (high : ℕ) → Stacked high gs → high ≤ h → map (fill_second h p) (operands gs) ≡ operands gs
untouched_all h p [] high st k = refl
untouched_all h p (g ∷ gs) high st k =
    let low = st.0.low in
    map_append (fill_second h p) (shown (means g) g.facts) (operands gs)
    ∙ (ap (λ z. z ++ map (fill_second h p) (operands gs)) (shown_filled h p (means g) g.facts ∙ same_shown (λ n. fill h p (means g n)) (means g) [] g.facts (λ n i. untouched h p g high st.0 k n i))
    ∙ ap (λ z. shown (means g) g.facts ++ z) (untouched_all h p gs g.base st.1 (omega arith)))

none_left : {A : Type 0} (o q : Option A) → or_else o q ≡ None → o ≡ None
none_left None q e = refl
none_left (Some x) q e = e

module _ (g : Scope) (gs : List Scope) (b : List (User × Place)) (s : Names) (w : Word) (p : Place) (l : Linked (g ∷ gs) b s) (undefined : lookup w.name g.facts ≡ None) where
  still_open : (m : Text) → lookup m (g.facts ++ defines w.name p ∷ []) ≡ None → lookup m g.facts ≡ None
  still_open m e = none_left (lookup m g.facts) _ (sym (lookup-define m w.name p g.facts) ∙ e)

  now_bound : lookup w.name (g.facts ++ defines w.name p ∷ []) ≡ Some p
  now_bound = lookup-define w.name w.name p g.facts ∙ (ap (λ o. or_else o (cond (same_text w.name w.name) (Some p) None)) undefined ∙ ap (λ c. cond c (Some p) None) (same_text_refl w.name))

  other_name : (m : Text) → same_text w.name m ≡ false → lookup m (g.facts ++ defines w.name p ∷ []) ≡ lookup m g.facts
  other_name m e = lookup-define m w.name p g.facts ∙ (ap (λ c. or_else (lookup m g.facts) (cond c (Some p) None)) e ∙ or_else-none (lookup m g.facts))

  defined_first : among w.name (names g.facts) ≡ false → Linked (more g (defines w.name p) g.number ∷ gs) b (record s { scopes = (map_of g ++ (w.name, bound p) ∷ []) ∷ maps_of gs })
  defined_first e =
      let x : Fact = defines w.name p in
      let g' = more g x g.number in
      let same : (n : Text) → among n (names g.facts) ≡ true → means g n ≡ means g' n = λ n h. ap (λ o. held_of o (g.number n)) (sym (other_name n (among-differs w.name n (names g.facts) h e))) in
      let itself : means g' w.name ≡ bound p = ap (λ o. held_of o (g.number w.name)) now_bound in
      let old : (m : Text) → Pending g'.facts m → Pending g.facts m = λ m i. record {
        there = ⊎_elim (λ k. k) (λ k. absurd (no_some (sym now_bound ∙ (ap (λ z. lookup z g'.facts) k ∙ i.open_yet)))) (named g.facts x m i.there);
        open_yet = still_open m i.open_yet;
      } in
      let a = l.stacked.0 in
      record {
        scopes_are = ap (λ m. m ∷ maps_of gs) (sym (map_new g x g.number e same ∙ ap (λ h. map_of g ++ (w.name, h) ∷ []) itself));
        stacked = (record { low = a.low; within = λ m i. a.within m (old m i); apart = λ m n i j. a.apart m n (old m i) (old n j) }, l.stacked.1);
        slots_are = same_then l.slots_are (same_path _ _ (ap (λ z. (z ++ operands gs) ++ final b) (sym (append-nil (shown (means g) g.facts)) ∙ sym (shown_more g x g.number same))));
      }
    where
      no_some : Some p ≡ None → ⊥
      no_some e = cc

  defined_late : among w.name (names g.facts) ≡ true → Linked (more g (defines w.name p) g.number ∷ gs) b (record s { scopes = map (fill_second (g.number w.name) p) (map_of g) ∷ maps_of gs; slots = map (fill_second (g.number w.name) p) s.slots })
  defined_late e =
      let x : Fact = defines w.name p in
      let g' = more g x g.number in
      let h = g.number w.name in
      let a = l.stacked.0 in
      let here : Pending g.facts w.name = record { there = e; open_yet = undefined } in
      let old : (m : Text) → Pending g'.facts m → Pending g.facts m = λ m i. record {
        there = ⊎_elim (λ k. k) (λ k. subst (λ z. among z (names g.facts) ≡ true) k e) (named g.facts x m i.there);
        open_yet = still_open m i.open_yet;
      } in
      let same : (n : Text) → among n (names g.facts) ≡ true → fill h p (means g n) ≡ means g' n = λ n k. filled a here n k (lookup n g.facts) refl (same_text w.name n) refl in
      let low = (a.within w.name here).0 in
      record {
        scopes_are = ap (λ m. m ∷ maps_of gs) (entries_filled h p (means g) (names g.facts) ∙ (same_entries (λ n. fill h p (means g n)) (means g') (names g.facts) same ∙ sym (ap (entries (means g')) (names_known g.facts x e))));
        stacked = (record { low = a.low; within = λ m i. a.within m (old m i); apart = λ m n i j. a.apart m n (old m i) (old n j) }, l.stacked.1);
        slots_are = same_then (same_map (fill_second h p) l.slots_are) (same_path _ _ (
            map_append (fill_second h p) (shown (means g) g.facts ++ operands gs) (final b)
            ∙ (ap (λ z. z ++ map (fill_second h p) (final b)) (map_append (fill_second h p) (shown (means g) g.facts) (operands gs))
            ∙ (ap (λ z. (map (fill_second h p) (shown (means g) g.facts) ++ map (fill_second h p) (operands gs)) ++ z) (filled_final h p b)
            ∙ (ap (λ z. (map (fill_second h p) (shown (means g) g.facts) ++ z) ++ final b) (untouched_all h p gs g.base l.stacked.1 low)
            ∙ ap (λ z. (z ++ operands gs) ++ final b) (shown_filled h p (means g) g.facts ∙ (same_shown (λ n. fill h p (means g n)) (means g') [] g.facts same ∙ (sym (append-nil (shown (means g') g.facts)) ∙ sym (shown-append (means g') g.facts (x ∷ []))))))))));
      }
    where
      filled : Apart g s.fresh → Pending g.facts w.name → (n : Text) → among n (names g.facts) ≡ true → (o : Option Place) → lookup n g.facts ≡ o → (c : Bool) → same_text w.name n ≡ c → fill (g.number w.name) p (held_of o (g.number n)) ≡ held_of (lookup n (g.facts ++ defines w.name p ∷ [])) (g.number n)
      filled a here n k (Some q) d c i = sym (ap (λ o. held_of o (g.number n)) (lookup-define n w.name p g.facts ∙ ap (λ o. or_else o (cond (same_text w.name n) (Some p) None)) d))
      filled a here n k None d true i =
          ap (λ c. cond c (bound p) (hole (g.number n))) (eq-eqb (g.number n) (g.number w.name) (ap g.number (sym (same_text_true w.name n i))))
          ∙ sym (ap (λ o. held_of o (g.number n)) (ap (λ z. lookup z (g.facts ++ defines w.name p ∷ [])) (sym (same_text_true w.name n i)) ∙ now_bound))
      filled a here n k None d false i =
          ap (λ c. cond c (bound p) (hole (g.number n))) (ne_eqb (g.number n) (g.number w.name) (λ j. true≢false (sym (same_text_eq w.name n (sym (a.apart n w.name (record { there = k; open_yet = d }) here j))) ∙ i)))
          ∙ sym (ap (λ o. held_of o (g.number n)) (other_name n i ∙ d))

-- its step at a definition says what the facts with that definition say
pub define_follows : (gs : List Scope) (b : List (User × Place)) (s : Names) (w : Word) (p : Place) → Linked gs b s → Follows (defined_before (top (facts_in gs)) w) (onto (facts_in gs) (defines w.name p ∷ [])) b (define_name s w p)
define_follows [] b s w p l = record { scopes = []; facts_are = refl; agrees = subst (λ z. Agrees (fail (NoActiveScope w.name) w.at) [] b (define_in s w p z)) (sym l.scopes_are) refl }
define_follows (g ∷ gs) b s w p l = go (lookup w.name g.facts) refl (among w.name (names g.facts)) refl
  where
    answer : (o : Option Place) (c : Bool) → lookup w.name g.facts ≡ o → among w.name (names g.facts) ≡ c → define_name s w p ≡ defined s w p (map_of g) (maps_of gs) (cond c (Some (held_of o (g.number w.name))) None)
    answer o c d e =
        ap (define_in s w p) l.scopes_are
        ∙ ap (defined s w p (map_of g) (maps_of gs)) (find-entries (means g) w.name (names g.facts) ∙ (ap (λ c. cond c (Some (means g w.name)) None) e ∙ ap (λ o. cond c (Some (held_of o (g.number w.name))) None) d))

    go : (o : Option Place) → lookup w.name g.facts ≡ o → (c : Bool) → among w.name (names g.facts) ≡ c → Follows (cond (is_some o) (fail (MultipleDefinitions w.name) w.at) []) ((g.facts ++ defines w.name p ∷ []) ∷ facts_in gs) b (define_name s w p)
    go (Some q) d true e = record { scopes = more g (defines w.name p) g.number ∷ gs; facts_are = refl; agrees = subst (Agrees (fail (MultipleDefinitions w.name) w.at) (more g (defines w.name p) g.number ∷ gs) b) (sym (answer (Some q) true d e)) refl }
    go (Some q) d false e = absurd (no_none (sym (not_mentioned w.name [] g.facts e) ∙ d))
      where
        no_none : None ≡ Some q → ⊥
        no_none k = cc
    go None d true e = record { scopes = more g (defines w.name p) g.number ∷ gs; facts_are = refl; agrees = subst (Agrees [] (more g (defines w.name p) g.number ∷ gs) b) (sym (answer None true d e)) (defined_late g gs b s w p l d e) }
    go None d false e = record { scopes = more g (defines w.name p) g.number ∷ gs; facts_are = refl; agrees = subst (Agrees [] (more g (defines w.name p) g.number ∷ gs) b) (sym (answer None false d e)) (defined_first g gs b s w p l d e) }

-- ---- the beginning and the end of a scope
pub empty_scope : ℕ → Scope
empty_scope n = record { facts = []; number = λ m. 0; base = n }

-- its step into a scope puts an empty one over the others
pub enter_follows : (gs : List Scope) (b : List (User × Place)) (s : Names) → Linked gs b s → Linked (empty_scope s.fresh ∷ gs) b (enter_scope s)
unfolding empty_scope
enter_follows gs b s l = record {
  scopes_are = ap (λ z. [] ∷ z) l.scopes_are;
  stacked = (
    record {
      low = le_refl s.fresh;
      within = λ m i. absurd (true≢false (sym i.there));
      apart = λ m n i j. absurd (true≢false (sym i.there));
    },
    l.stacked,
  );
  slots_are = l.slots_are;
}

-- a scope that is opened has no facts
pub empty-facts : (n : ℕ) → (empty_scope n).facts ≡ []
unfolding empty_scope
empty-facts n = refl

stacked_higher : (low high : ℕ) (gs : List Scope) → low ≤ high → Stacked low gs → Stacked high gs
stacked_higher low high [] k st = tt
stacked_higher low high (g ∷ gs) k st =
    let a = st.0 in
    let h = a.low in
    (record { low = omega arith; within = λ m i. let j = a.within m i in let j0 = j.0 in let j1 = j.1 in (j0, omega arith); apart = a.apart }, st.1)

-- what a held value leaves pending
abbrev pub pend_of : Held → Text → Option Text
pend_of (bound p) n = None
pend_of (hole h) n = Some n

pending-cons : (n : Text) (x : Held) (es : List (Text × Held)) → pending ((n, x) ∷ es) ≡ or_else (pend_of x n) (pending es)
pending-cons n (bound p) es = refl
pending-cons n (hole h) es = refl

or_else-assoc : {A : Type 0} (o p q : Option A) → or_else (or_else o p) q ≡ or_else o (or_else p q)
or_else-assoc None p q = refl
or_else-assoc (Some x) p q = refl

pending-last : (F : Text → Held) (ns : List Text) (n : Text) → pending (entries F (ns ++ n ∷ [])) ≡ or_else (pending (entries F ns)) (pend_of (F n) n)
pending-last F [] n = pending-cons n (F n) [] ∙ or_else-none (pend_of (F n) n)
pending-last F (m ∷ ns) n =
    pending-cons m (F m) (entries F (ns ++ n ∷ []))
    ∙ (ap (or_else (pend_of (F m) m)) (pending-last F ns n)
    ∙ (sym (or_else-assoc (pend_of (F m) m) (pending (entries F ns)) (pend_of (F n) n))
    ∙ ap (λ o. or_else o (pend_of (F n) n)) (sym (pending-cons m (F m) (entries F ns)))))

absorbed : (F : Text → Held) (n : Text) (ns : List Text) → among n ns ≡ true → or_else (pending (entries F ns)) (pend_of (F n) n) ≡ pending (entries F ns)
absorbed F n [] h = absurd (true≢false (sym h))
absorbed F n (m ∷ ns) h =
    ap (λ o. or_else o (pend_of (F n) n)) (pending-cons m (F m) (entries F ns))
    ∙ (go (F m) refl (same_text m n) refl (absorbed F n ns) ∙ sym (pending-cons m (F m) (entries F ns)))
  where
    go : (x : Held) → F m ≡ x → (c : Bool) → same_text m n ≡ c → (among n ns ≡ true → or_else (pending (entries F ns)) (pend_of (F n) n) ≡ pending (entries F ns)) → or_else (or_else (pend_of x m) (pending (entries F ns))) (pend_of (F n) n) ≡ or_else (pend_of x m) (pending (entries F ns))
    go (hole k) d c e i = refl
    go (bound q) d true e i = ap (λ x. or_else (pending (entries F ns)) (pend_of x n)) (ap F (sym (same_text_true m n e)) ∙ d) ∙ or_else-none (pending (entries F ns))
    go (bound q) d false e i = i (ap (λ c. cond c true (among n ns)) (sym e) ∙ h)

pending-add : (F : Text → Held) (ns : List Text) (n : Text) → pending (entries F (add ns n)) ≡ or_else (pending (entries F ns)) (pend_of (F n) n)
pending-add F ns n = go (among n ns) refl
  where
    go : (c : Bool) → among n ns ≡ c → pending (entries F (cond c ns (ns ++ n ∷ []))) ≡ or_else (pending (entries F ns)) (pend_of (F n) n)
    go true e = sym (absorbed F n ns e)
    go false e = pending-last F ns n

-- the first name among the facts that is left pending
abbrev pub first : (Text → Held) → List Fact → Option Text
first F [] = None
first F (x ∷ fs) = or_else (pend_of (F (name_of x)) (name_of x)) (first F fs)

pending-names : (F : Text → Held) (ns : List Text) (fs : List Fact) → pending (entries F (names_from ns fs)) ≡ or_else (pending (entries F ns)) (first F fs)
pending-names F ns [] = sym (or_else-none (pending (entries F ns)))
pending-names F ns (x ∷ fs) =
    pending-names F (add ns (name_of x)) fs
    ∙ (ap (λ o. or_else o (first F fs)) (pending-add F ns (name_of x))
    ∙ or_else-assoc (pending (entries F ns)) (pend_of (F (name_of x)) (name_of x)) (first F fs))

-- the first failure, if there is one
abbrev pub head : List Failure → Option Failure
head [] = None
head (x ∷ xs) = Some x

-- the failure of a name without a definition
abbrev pub unresolved_name : ℕ → Text → Failure
unresolved_name a n = record { cause = script.UnresolvedReference n; at = Some a }

-- a name that is defined after some facts is found among all
pub defined_there : (n : Text) (p : Place) (pre fs : List Fact) → (q : Place) × (lookup n (pre ++ defines n p ∷ fs) ≡ Some q)
defined_there n p pre fs = go (lookup n pre) refl
  where
    last : lookup n (defines n p ∷ fs) ≡ Some p
    last = ap (λ c. cond c (Some p) (lookup n fs)) (same_text_refl n)

    go : (o : Option Place) → lookup n pre ≡ o → (q : Place) × (lookup n (pre ++ defines n p ∷ fs) ≡ Some q)
    go None e = (p, lookup-append n pre (defines n p ∷ fs) ∙ (ap (λ o. or_else o (lookup n (defines n p ∷ fs))) e ∙ last))
    go (Some r) e = (r, lookup-append n pre (defines n p ∷ fs) ∙ ap (λ o. or_else o (lookup n (defines n p ∷ fs))) e)

-- the first use without definition is the first name left pending
first-unresolved : (a : ℕ) (v : Text → ℕ) (all pre fs : List Fact) → all ≡ pre ++ fs → head (unresolved a all fs) ≡ option_map (unresolved_name a) (first (held v all) fs)
first-unresolved a v all pre [] e = refl
first-unresolved a v all pre (uses n u ∷ fs) e = go (lookup n all) (first-unresolved a v all (pre ++ uses n u ∷ []) fs (e ∙ sym (append_assoc pre (uses n u ∷ []) fs)))
  where
    go : (o : Option Place) → head (unresolved a all fs) ≡ option_map (unresolved_name a) (first (held v all) fs) → head (cond (is_some o) [] (fail (UnresolvedReference n) a) ++ unresolved a all fs) ≡ option_map (unresolved_name a) (or_else (pend_of (held_of o (v n)) n) (first (held v all) fs))
    go (Some q) h = h
    go None h = refl
first-unresolved a v all pre (defines n p ∷ fs) e =
    first-unresolved a v all (pre ++ defines n p ∷ []) fs (e ∙ sym (append_assoc pre (defines n p ∷ []) fs))
    ∙ ap (λ o. option_map (unresolved_name a) (or_else (pend_of (held_of o (v n)) n) (first (held v all) fs))) (sym (ap (lookup n) e ∙ (defined_there n p pre fs).1))

all_bound : (a : ℕ) (v : Text → ℕ) (all fs : List Fact) → unresolved a all fs ≡ [] → shown (held v all) fs ≡ final (bound_in all fs)
all_bound a v all [] e = refl
all_bound a v all (uses n u ∷ fs) e = go (lookup n all) refl e (all_bound a v all fs)
  where
    go : (o : Option Place) → lookup n all ≡ o → cond (is_some o) [] (fail (UnresolvedReference n) a) ++ unresolved a all fs ≡ [] → (unresolved a all fs ≡ [] → shown (held v all) fs ≡ final (bound_in all fs)) → (u, held_of o (v n)) ∷ shown (held v all) fs ≡ final (link u o ++ bound_in all fs)
    go (Some q) d k h = ap (λ z. (u, bound q) ∷ z) (h k)
    go None d k h = absurd (no_nil k)
      where
        no_nil : fail (UnresolvedReference n) a ++ unresolved a all fs ≡ [] → ⊥
        no_nil j = cc
all_bound a v all (defines n p ∷ fs) e = all_bound a v all fs e

final-append : (b c : List (User × Place)) → final (b ++ c) ≡ final b ++ final c
final-append [] c = refl
final-append ((u, p) ∷ b) c = ap (λ z. (u, bound p) ∷ z) (final-append b c)

left_linked : (g : Scope) (gs : List Scope) (b : List (User × Place)) (s : Names) (a : ℕ) → Linked (g ∷ gs) b s → unresolved a g.facts g.facts ≡ [] → Linked gs (b ++ bound_in g.facts g.facts) (record s { scopes = maps_of gs })
left_linked g gs b s a l e =
    let X = final (bound_in g.facts g.facts) in
    record {
      scopes_are = refl;
      stacked = let k = l.stacked.0.low in stacked_higher g.base s.fresh gs k l.stacked.1;
      slots_are =
          same_then l.slots_are
          (same_then (same_path _ _ (ap (λ z. (z ++ operands gs) ++ final b) (all_bound a g.number g.facts g.facts e) ∙ append_assoc X (operands gs) (final b)))
          (same_then (same_swap X (operands gs ++ final b))
          (same_path _ _ (append_assoc (operands gs) (final b) X ∙ ap (λ z. operands gs ++ z) (sym (final-append b (bound_in g.facts g.facts)))))));
    }

-- the scopes around the innermost one
abbrev pub under_scopes : List Scope → List Scope
under_scopes [] = []
under_scopes (g ∷ gs) = gs

-- its step out of a scope fails at a name without a definition, and else binds what the scope's facts bind
pub leave_follows : (gs : List Scope) (b : List (User × Place)) (s : Names) (a : ℕ) → Linked gs b s
    → Agrees (unresolved a (top_facts (facts_in gs)) (top_facts (facts_in gs))) (under_scopes gs) (b ++ bound_in (top_facts (facts_in gs)) (top_facts (facts_in gs))) (leave_scope s a)
leave_follows [] b s a l = subst (λ z. Agrees [] [] (b ++ []) (leave_in s a z)) (sym l.scopes_are) (subst (λ z. Linked [] z s) (sym (append-nil b)) l)
leave_follows (g ∷ gs) b s a l =
    subst (Agrees (unresolved a g.facts g.facts) gs (b ++ bound_in g.facts g.facts)) (sym (ap (leave_in s a) l.scopes_are))
    (go (unresolved a g.facts g.facts) refl (pending (map_of g)) (first-unresolved a g.number g.facts [] g.facts refl ∙ ap (option_map (unresolved_name a)) (sym (pending-names (means g) [] g.facts))))
  where
    go : (U : List Failure) → unresolved a g.facts g.facts ≡ U → (o : Option Text) → head U ≡ option_map (unresolved_name a) o → Agrees U gs (b ++ bound_in g.facts g.facts) (left_at s a (maps_of gs) o)
    go [] e None k = left_linked g gs b s a l e
    go [] e (Some n) k = absurd (no_some k)
      where
        no_some : None ≡ Some (unresolved_name a n) → ⊥
        no_some j = cc
    go (x ∷ xs) e None k = absurd (no_none k)
      where
        no_none : Some x ≡ None → ⊥
        no_none j = cc
    go (x ∷ xs) e (Some n) k = some_path x (unresolved_name a n) k
      where
        some_path : (y z : Failure) → Some y ≡ Some z → z ≡ y
        some_path y z j = cc
