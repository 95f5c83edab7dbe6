-- The effect of a mark that was parsed, and acts one after another.
use Rattle.std.proofs.Common.{◌≡◌, ◌==◌, ◌∙◌, ℕ, Bool, true, false, cond, List, [], ◌∷◌, ◌++◌, map, Option, Some, None, is_some, Result, Ok, Err, IfOk, OnOk, OnErr, refl, sym, ap, subst, append-nil, nat_eq, eqb-true, eq-eqb}
use Rattle.std.specs.Map.{lookup}
use Rattle.irtext_base.specs.Text.{Text}
use Rattle.irtext_base.specs.Faults as causes
use Rattle.irtext_base.specs.declared.parsable.fault.ParseFault.{ParseFault}
use Rattle.irtext_graph.specs.declared.arena.Ptr.{Ptr}
use Rattle.irtext_graph.specs.declared.object.BasicBlock.{BasicBlock}
use Rattle.irtext_graph.specs.declared.object.Defined.{Defined}
use Rattle.irtext_graph.specs.declared.object.Value.{Value}
use Rattle.irtext_graph.specs.Chained.{Among}
use Rattle.irtext_graph.specs.Graph.{GraphView}
use Rattle.irtext_scopes.specs.declared.tracker.NameTracker.{NameTracker}
use Rattle.irtext_parse_state.specs.States.{marks_of, same_index}
use Rattle.irtext_parse_state.specs.declared.parsable.state.State as code
use Rattle.irtext_grammar.specs.Grammar.Tree.{Mark}
use Rattle.irtext_grammar.specs.Names.Acts.{mark_acts}
use Rattle.irtext_grammar.specs.Names.History.{act, State, Outcome, next, run, after, outcome}
use Rattle.irtext_grammar.specs.Names.Scopes.{fact_of, is_among}
use Rattle.irtext_grammar.specs.Names.Script as script
use Rattle.irtext_grammar.specs.Names.Script.{Path, User, mark}
use Rattle.irtext_grammar.specs.Names.TextScopes.{Failure}
use Rattle.irtext_names.specs.Linked.{Known, NamesAgree}
use Rattle.irtext_names.proofs.Linked.Moving.{onto_nothing}
use Rattle.irtext_grammar.specs.Promises.Section.{indices_of}
use Rattle.irtext_names.proofs.NamesInRow.{map-through}
use Rattle.irtext_grammar.specs.declared.parsed.ReadMark.{ReadMark}
use Rattle.irtext_grammar.specs.Parsed.{IsMarkIf}
use Rattle.irtext_parse_nested.specs.Ends.{NotesMark, GainsMarks, RefusesMark}
use Rattle.irtext_names.specs.Items.{Made, Names, Pledge, MachineAgrees, Acts, ActFails}
use Rattle.irtext_parse_nested.proofs.Faults.{place_is_there}

-- ---- results
-- what holds if a result is a value, and so on
pub always_ok : {X E Q : Type 0} (r : Result X E) → Q → OnOk r Q
always_ok (Ok x) q = q
always_ok (Err e) q = tt

pub on_both : {X E P Q R : Type 0} (r : Result X E) → (P → Q → R) → OnOk r P → OnOk r Q → OnOk r R
on_both (Ok x) f p q = f p q
on_both (Err e) f p q = p

pub on_err : {X E P Q : Type 0} (r : Result X E) → (P → Q) → OnErr r P → OnErr r Q
on_err (Ok x) f p = p
on_err (Err e) f p = f p

pub always_err : {X E Q : Type 0} (r : Result X E) → Q → OnErr r Q
always_err (Ok x) q = tt
always_err (Err e) q = q

pub if_ok_two : {X E : Type 0} {P Q R : X → Type 0} (r : Result X E) → ((x : X) → P x → Q x → R x) → IfOk r P → IfOk r Q → IfOk r R
if_ok_two (Ok x) f p q = f x p q
if_ok_two (Err e) f p q = p

-- what holds of a value holds where the value is handed on
pub if_ok_handed : {X E F : Type 0} (P : X → Type 0) (r : Result X E) (s : Result X F) → IfOk s (λ x. r ≡ Ok x) → IfOk r P → IfOk s P
if_ok_handed P r (Ok y) e p = subst (λ r. IfOk r P) e p
if_ok_handed P r (Err f) e p = tt

pub on_ok_handed : {X E F : Type 0} (P : Type 0) (r : Result X E) (s : Result X F) → IfOk s (λ x. r ≡ Ok x) → OnOk r P → OnOk s P
on_ok_handed P r (Ok y) e p = subst (λ r. OnOk r P) e p
on_ok_handed P r (Err f) e p = tt

-- ---- acts
module _ {T A U : Type 0} {f h : (ℕ → Path) → Outcome → Outcome} {old mid new : Names} {s z y : code.State T A U} {ps qs rs : List Pledge} where
  -- one after another
  pub acts_then : Acts f old s ps mid z qs → Acts h mid z qs new y rs → Acts (λ path x. h path (f path x)) old s ps new y rs
  acts_then a b = record { so = λ path items more o k. b.so path items more (f path o) (a.so path items more o k) }

module _ {T A U : Type 0} {f h : (ℕ → Path) → Outcome → Outcome} {old mid : Names} {s z : code.State T A U} {ps qs : List Pledge} where
  -- the second fails
  pub fails_then : {text : Text} {fault : ParseFault A} → Acts f old s ps mid z qs → ActFails text h mid z qs fault → ActFails text (λ path x. h path (f path x)) old s ps fault
  fails_then a b = record { failure = b.failure; is = b.is; so = λ path items more o k. b.so path items more (f path o) (a.so path items more o k) }

-- ---- marks
-- the same test, with the arguments exchanged
turned : (i j : ℕ) → nat_eq j i ≡ (i == j)
turned i j = go (nat_eq j i) (i == j) refl refl
  where
    go : (b c : Bool) → nat_eq j i ≡ b → (i == j) ≡ c → b ≡ c
    go true true e f = refl
    go false false e f = refl
    go true false e f = let k = eq-eqb i j (sym (eqb-true j i e)) in absurd (cc)
    go false true e f = let k = eq-eqb j i (sym (eqb-true i j f)) in absurd (cc)

-- an index is among those of marks where one of them has it
noted_among : {X : Type 0} (i : ℕ) (ms : List (ℕ × X)) → is_among i (indices_of ms) ≡ is_some (lookup (same_index i) ms)
noted_among i [] = refl
noted_among i (m ∷ ms) = ap (λ b. cond b true (is_among i (indices_of ms))) (turned i m.0) ∙ go (i == m.0) (noted_among i ms)
  where
    go : (b : Bool) → is_among i (indices_of ms) ≡ is_some (lookup (same_index i) ms) → cond b true (is_among i (indices_of ms)) ≡ is_some (cond b (Some m.1) (lookup (same_index i) ms))
    go true h = refl
    go false h = h

pub not_noted : {X : Type 0} (i : ℕ) (ms : List (ℕ × X)) → lookup (same_index i) ms ≡ None → is_among i (indices_of ms) ≡ false
not_noted i ms e = noted_among i ms ∙ ap is_some e

pub noted_before : {X : Type 0} (i : ℕ) (ms : List (ℕ × X)) → (lookup (same_index i) ms ≡ None → ⊥) → is_among i (indices_of ms) ≡ true
noted_before {X} i ms ne = noted_among i ms ∙ go (lookup (same_index i) ms) refl
  where
    go : (o : Option X) → lookup (same_index i) ms ≡ o → is_some o ≡ true
    go None e = absurd (ne e)
    go (Some x) e = refl

-- no mark was added
pub gains_nothing : {X : Type 0} {old new : List (ℕ × X)} → new ≡ old → GainsMarks old new
gains_nothing {old = old} e = ([], e ∙ sym (append-nil old))

-- a mark was added if one was parsed
pub gains_mark : {X : Type 0} (read : Option ReadMark) (x : X) {old b c new : List (ℕ × X)} → b ≡ old → NotesMark read x b c → new ≡ c → GainsMarks old new
gains_mark None x e n f = gains_nothing (f ∙ (n ∙ e))
gains_mark (Some r) x e n f = ((r.index, x) ∷ [], f ∙ (n.1 ∙ ap (λ ms. ms ++ (r.index, x) ∷ []) e))

module _ {O B T : Type 0} where
  -- a mark leaves the scopes unchanged
  pub mark_agrees : (names : NameTracker Value (Ptr BasicBlock)) (g : GraphView (Option O) B T) (known : Known) (held : List (User × Defined)) (st : State) (i p : ℕ) → NamesAgree names g known held st → NamesAgree names g known held (after st (fact_of (mark i p)))
  mark_agrees names g known held st i p s = record {
    distinct = s.distinct;
    tied = s.tied;
    value_links = rw (onto_nothing st.values) s.value_links;
    label_links = rw (onto_nothing st.labels) s.label_links;
    values_made = s.values_made;
    blocks_made = s.blocks_made;
    bound = λ u q a. s.bound u q (subst (λ xs. Among (u, q) xs) (append-nil st.bound) a);
  }

module _ {T A U : Type 0} (names : Names) (text : Text) (s z : code.State T A U) where
  -- what a mark does
  abbrev pub marking : Option (Mark ℕ) → (ℕ → Path) → Outcome → Outcome
  marking m path o = run o (map act (mark_acts m))

  one_mark : (i p : ℕ) {X : Type 0} (item : X) (old new : List (ℕ × X)) → lookup (same_index i) old ≡ None → new ≡ old ++ (i, item) ∷ [] → indices_of (marks_of s) ≡ indices_of old → indices_of (marks_of z) ≡ indices_of new
      → z.ctx.now.graph ≡ s.ctx.now.graph → (path : ℕ → Path) (items : Made) (pledges : List Pledge) (o : Outcome) → MachineAgrees path items pledges names s o → MachineAgrees path items pledges names z (next o (act (mark i p)))
  one_mark i p item old new free is was are same path items pledges o h =
      let fresh : is_among i h.state.marks ≡ false = ap (is_among i) (h.marks ∙ was) ∙ not_noted i old free in
      let x : Failure = record { cause = script.DuplicateIndex i; at = Some p } in
      record {
        known = h.known;
        of_items = h.of_items;
        state = after h.state (fact_of (mark i p));
        going = ap (λ o. next o (act (mark i p))) h.going ∙ ap (λ b. outcome (cond b (x ∷ []) []) (after h.state (fact_of (mark i p)))) fresh;
        agreed = subst (λ g. NamesAgree names g h.known [] (after h.state (fact_of (mark i p)))) (sym same) (mark_agrees names s.ctx.now.graph h.known [] h.state i p h.agreed);
        marks = ap (λ ms. ms ++ i ∷ []) (h.marks ∙ was) ∙ (sym (map-through (λ m. m.0) old (i, item) []) ∙ (sym (ap indices_of is) ∙ sym are));
        results = h.results;
      }

  -- the mark was recorded, where one was parsed
  pub note_acts : {X : Type 0} (item : X) (read : Option ReadMark) (m : Option (Mark ℕ)) (old new : List (ℕ × X)) → IsMarkIf text read m → NotesMark read item old new → indices_of (marks_of s) ≡ indices_of old → indices_of (marks_of z) ≡ indices_of new
      → z.ctx.now ≡ s.ctx.now → Acts (marking m) names s [] names z []
  note_acts item None None old new i n was are same = record {
    so = λ path items more o h. record {
      known = h.known;
      of_items = h.of_items;
      state = h.state;
      going = h.going;
      agreed = subst (λ c. NamesAgree names c.graph h.known [] h.state) (sym same) h.agreed;
      marks = h.marks ∙ (was ∙ (sym (ap indices_of n) ∙ sym are));
      results = h.results;
    };
  }
  note_acts item None (Some m) old new i n was are same = absurd i
  note_acts item (Some r) None old new i n was are same = absurd i
  note_acts {X} item (Some r) (Some m) old new i n was are same =
      let k : (lookup (same_index m.index) old ≡ None) × (new ≡ old ++ (m.index, item) ∷ []) = subst (λ j. (lookup (same_index j) old ≡ None) × (new ≡ old ++ (j, item) ∷ [])) i.indexed n in
      record { so = λ path items more o h. one_mark m.index m.place item old new k.0 k.1 was are (ap (λ c. c.graph) same) path items (more ++ []) o h }

  -- its index is recorded already
  pub mark_fails : {X : Type 0} (fault : ParseFault A) (read : Option ReadMark) (m : Option (Mark ℕ)) (old : List (ℕ × X)) → IsMarkIf text read m → RefusesMark text read old fault → indices_of (marks_of s) ≡ indices_of old
      → ActFails text (marking m) names s [] fault
  mark_fails fault read m old i r was = go m (subst (λ q. IsMarkIf text q m) r.is i)
    where
      go : (m : Option (Mark ℕ)) → IsMarkIf text (Some r.read) m → ActFails text (marking m) names s [] fault
      go None k = absurd k
      go (Some m) k =
          let x : Failure = record { cause = script.DuplicateIndex m.index; at = Some m.place } in
          record {
            failure = x;
            is = record { cause = r.because ∙ ap causes.DuplicateIndex k.indexed; place = place_is_there k.place r.place; committed = r.flag };
            so = λ path items more o h. ap (λ o. next o (act (mark m.index m.place))) h.going
                ∙ ap (λ b. outcome (cond b (x ∷ []) []) (after h.state (fact_of (mark m.index m.place)))) (ap (is_among m.index) (h.marks ∙ was) ∙ noted_before m.index old (λ e. r.noted (subst (λ j. lookup (same_index j) old ≡ None) (sym k.indexed) e)));
          }
