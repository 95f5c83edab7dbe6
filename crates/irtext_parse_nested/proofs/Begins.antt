-- What is in hand when all pieces are gathered, and an operation that uses it and is appended to its block.
use Rattle.std.proofs.Common.{◌≡◌, ◌≢◌, ◌+◌, ◌∙◌, inl, inr, ℕ, zero, suc, true, List, [], ◌∷◌, ◌++◌, length, map, flat_map, slice_get, true≢false, Option, Some, None, IsSome, refl, sym, ap, subst, arith, append-nil}
use Rattle.std.specs.Prelude.{⊤}
use Rattle.std.specs.Option.{option_map}
use Rattle.irtext_base.specs.Format.{are_places}
use Rattle.irtext_graph.specs.declared.arena.Ptr.{Ptr}
use Rattle.irtext_graph.specs.declared.object.BasicBlock.{BasicBlock}
use Rattle.irtext_graph.specs.declared.object.Operation.{Operation}
use Rattle.irtext_graph.specs.declared.object.Object.{Object}
use Rattle.irtext_graph.specs.declared.object.Object.TheVariants.{TheOperation, TheBlock}
use Rattle.irtext_graph.specs.declared.object.Value.{Value}
use Rattle.irtext_graph.specs.declared.object.Value.TheVariants.{Result, Argument}
use Rattle.irtext_graph.specs.declared.object.Defined.{Defined}
use Rattle.irtext_graph.specs.declared.object.Defined.TheVariants.{OfValue, OfBlock}
use Rattle.irtext_graph.specs.Chained.{Among}
use Rattle.irtext_graph.specs.Erasing.{owner, without_uses}
use Rattle.irtext_graph.specs.Graph.{GraphView, Appends, content, parent}
use Rattle.irtext_graph.specs.Objects.{is_older}
use Rattle.irtext_graph.specs.Parts.{operation_at}
use Rattle.irtext_graph.specs.Used.{IsDefined}
use Rattle.irtext_scopes.specs.Scopes.{Scope}
use Rattle.irtext_grammar.specs.Grammar.Tree as tree
use Rattle.irtext_grammar.specs.Grammar.Tree.{Name, Piece, Part, views, in_order}
use Rattle.irtext_grammar.specs.Names.Acts.{piece_acts, value_uses, label_uses, key_act, may_hold}
use Rattle.irtext_grammar.specs.Names.History.{State, act, going, failed, run, after, outcome, scopes_of}
use Rattle.irtext_grammar.specs.Names.Placeholders.{In}
use Rattle.irtext_grammar.specs.Names.Scopes.{fact_of}
use Rattle.irtext_grammar.specs.Names.Script.{Path, User, operand, successor}
use Rattle.irtext_grammar.specs.Names.TextScopes.{Act, Failure, act_failures}
use Rattle.irtext_grammar.proofs.Lists.InOrder.{firsts}
use Rattle.irtext_grammar.proofs.Lists.Numbering.{own, numbered_in, own_numbered, in_order_length}
use Rattle.irtext_names.specs.Linked.{Known, NamesAgree}
use Rattle.irtext_names.specs.Placeholders.{IsBlank, IsPlaceholder}
use Rattle.irtext_names.specs.Tied.{MatchesGraph, ArePending}
use Rattle.irtext_names.proofs.SameBut.{same_defined, data_in, data_is}
use Rattle.irtext_names.proofs.Linked.Placed.{appended_ties, appended_agrees}
use Rattle.irtext_names.specs.Rows.{AreHeldBy}
use Rattle.irtext_names.proofs.NamesInRow.{rest_fails}
use Rattle.irtext_names.specs.declared.gathered.Placed.{Placed}
use Rattle.irtext_names.specs.Items.{Names}
use Rattle.irtext_names.specs.Gathering.{IsInHand, AreInHand}

-- ---- lists
got_front : {X : Type 0} (xs ys : List X) (i : ℕ) (x : X) → slice_get xs i ≡ Some x → slice_get (xs ++ ys) i ≡ Some x
got_front [] ys zero x e = absurd (cc)
got_front [] ys (suc i) x e = absurd (cc)
got_front (y ∷ xs) ys zero x e = e
got_front (y ∷ xs) ys (suc i) x e = got_front xs ys i x e

got_after : {X : Type 0} (xs ys : List X) (n j : ℕ) → n ≡ length xs → slice_get (xs ++ ys) (n + j) ≡ slice_get ys j
got_after [] ys n j e = let m : n + j ≡ j = omega (arith, e) in ap (slice_get ys) m
got_after (x ∷ xs) ys zero j e = absurd (omega (arith, e))
got_after (x ∷ xs) ys (suc n) j e = let m : suc n + j ≡ suc (n + j) = omega arith in ap (slice_get (x ∷ (xs ++ ys))) m ∙ got_after xs ys n j (omega (arith, e))

-- ---- each use in hand is at its place in the lists
module _ {X : Type 0} (of : X → Defined) (user : ℕ → User) (single : List (ℕ × X)) (list : List X) (places : are_places (firsts single) ≡ true) where
  among_owned : (es : List (ℕ × X)) (i : ℕ) (x : X) → Among {U = ℕ × X} (i, x) es → In (user i, of x) (flat_map (own of user) es)
  among_owned [] i x a = absurd a
  among_owned (e ∷ es) i x (inl f) = inl (ap (λ z. (user z.0, of z.1)) f)
  among_owned (e ∷ es) i x (inr a) = inr (among_owned es i x a)

  pub hand_place : (k : ℕ) → k ≡ length single → (u : User) (d : Defined) → IsInHand of user k single list u d
      → (i : ℕ) × (x : X) × (u ≡ user i) × (d ≡ of x) × (slice_get (in_order single ++ list) i ≡ Some x)
  hand_place k e u d (inl (i, x, eu, ed, a)) =
      let r = numbered_in of user 0 (in_order single) (user i) (of x) ((own_numbered single places of user).into (user i, of x) (among_owned single i x a)) in
      let m : 0 + r.0 ≡ r.0 = omega arith in
      (r.0, r.1, eu ∙ (r.3 ∙ ap user m), ed ∙ r.4, got_front (in_order single) list r.0 r.1 r.2)
  hand_place k e u d (inr (j, x, eu, ed, f)) = (k + j, x, eu, ed, got_after (in_order single) list k j (e ∙ sym (in_order_length single places)) ∙ f)

-- all uses in hand are those of the operation with these operands and successors
pub hands_held : (p : Path) (k l : ℕ) (vs : Placed Value) (bs : Placed (Ptr BasicBlock)) (held : List (User × Defined)) → k ≡ length vs.single.items → l ≡ length bs.single.items
    → are_places (firsts vs.single.items) ≡ true → are_places (firsts bs.single.items) ≡ true → AreInHand p k l vs bs held
    → AreHeldBy p (in_order vs.single.items ++ vs.list.items) (in_order bs.single.items ++ bs.list.items) held
hands_held p k l vs bs held ek el pv pb are = record {
  so = λ u d a. elim (are.so u d a) [
    | inl h ↦ let r = hand_place OfValue (operand p) vs.single.items vs.list.items pv k ek u d h in inl (r.0, r.1, r.2, r.3, r.4)
    | inr h ↦ let r = hand_place OfBlock (successor p) bs.single.items bs.list.items pb l el u d h in inr (r.0, r.1, r.2, r.3, r.4)
  ];
}

-- ---- the acts of pieces note no mark
abbrev pub NoteNone : List Act → Type 0
NoteNone [] = ⊤
NoteNone (a ∷ acts) = ((fact_of a).marks ≡ []) × NoteNone acts

note_both : (xs ys : List Act) → NoteNone xs → NoteNone ys → NoteNone (xs ++ ys)
note_both [] ys h k = k
note_both (x ∷ xs) ys h k = (h.0, note_both xs ys h.1 k)

note_values : (p : Path) (k : ℕ) (ns : List (Name ℕ)) → NoteNone (value_uses p k ns)
note_values p k [] = tt
note_values p k (n ∷ ns) = (refl, note_values p (suc k) ns)

note_labels : (p : Path) (k : ℕ) (ns : List (Name ℕ)) → NoteNone (label_uses p k ns)
note_labels p k [] = tt
note_labels p k (n ∷ ns) = (refl, note_labels p (suc k) ns)

note_keys : {A : Type 0} (es : List (Name ℕ × tree.Attribute A)) → NoteNone (map (key_act may_hold) es)
note_keys [] = tt
note_keys (e ∷ es) = (refl, note_keys es)

module _ {T A : Type 0} (p : Path) (k l : ℕ) where
  pub note_piece : (q : Piece ℕ T A) → NoteNone (piece_acts p k l q)
  note_piece (tree.word s) = tt
  note_piece (tree.operand i n) = (refl, tt)
  note_piece (tree.operands ns) = note_values p k ns
  note_piece (tree.successor i n) = (refl, tt)
  note_piece (tree.successors ns) = note_labels p l ns
  note_piece (tree.attribute t a) = tt
  note_piece (tree.dictionary es) = note_keys es
  note_piece (tree.result_type i t) = tt
  note_piece (tree.header n) = tt
  note_piece (tree.types ts) = tt

  pub note_parts : (parts : List (Part ℕ T A)) → NoteNone (views (piece_acts p k l) parts)
  note_parts [] = tt
  note_parts (tree.piece q ∷ parts) = note_both (piece_acts p k l q) (views (piece_acts p k l) parts) (note_piece q) (note_parts parts)
  note_parts (tree.region i ∷ parts) = note_parts parts
  note_parts (tree.regions ∷ parts) = note_parts parts

-- the marks are those that there were
pub marks_stay : (acts : List Act) (st next : State) → NoteNone acts → run (going st) (map act acts) ≡ going next → next.marks ≡ st.marks
marks_stay [] st next h e = let f : st ≡ next = cc in ap (λ z. z.marks) (sym f)
marks_stay (a ∷ acts) st next h e = go (act_failures (scopes_of st) a) e (marks_stay acts (after st (fact_of a)) next h.1)
  where
    go : (fs : List Failure) → run (outcome fs (after st (fact_of a))) (map act acts) ≡ going next → (run (going (after st (fact_of a))) (map act acts) ≡ going next → next.marks ≡ (after st (fact_of a)).marks) → next.marks ≡ st.marks
    go [] f ih = ih f ∙ (ap (λ z. st.marks ++ z) h.0 ∙ append-nil st.marks)
    go (x ∷ xs) f ih = absurd (let none : failed x ≡ going next = sym (rest_fails x (map act acts)) ∙ f in cc)

-- ---- an operation was appended to a block
module _ {O B T : Type 0} {g h : GraphView (Option O) B T} (b : Ptr BasicBlock) (op : Ptr Operation) (a : Appends g h (TheBlock b) (TheOperation op)) (x : O)
    (has : option_map (λ c. c.data_of) (operation_at g op) ≡ Some (Some x)) (inside : IsSome (parent g (TheBlock b))) where
  value_apart : (v : Value) → IsPlaceholder g (OfValue v) → (owner (OfValue v) ≢ TheBlock b) × (owner (OfValue v) ≢ TheOperation op)
  value_apart (Result p i) w = (
    λ e. cc,
    λ e.
        let same : p ≡ op = cc in
        let none : option_map (λ c. c.data_of) (operation_at g op) ≡ Some None = subst (λ q. option_map (λ c. c.data_of) (operation_at g q) ≡ Some None) same w.blank in
        let bad = sym has ∙ none in cc,
  )
  value_apart (Argument c i) w = absurd w.blank

  block_apart : (c : Ptr BasicBlock) → IsPlaceholder g (OfBlock c) → (TheBlock c ≢ TheBlock b) × (TheBlock c ≢ TheOperation op)
  block_apart c w = (λ e. let same : c ≡ b = cc in let none : parent g (TheBlock b) ≡ None = subst (λ q. parent g (TheBlock q) ≡ None) same w.blank in absurd (true≢false (sym (subst IsSome none inside))), λ e. cc)

  pub operation_placed_ties : (vs : List (Scope Value)) (ls : List (Scope (Ptr BasicBlock))) → MatchesGraph vs ls g → MatchesGraph vs ls h
  operation_placed_ties vs ls t = appended_ties a vs ls (λ i n v f. value_apart v (t.value_ties.held i n v f)) (λ i n c f. block_apart c (t.label_ties.held i n c f)) t

  pub operation_placed : (names : Names) (known : Known) (held : List (User × Defined)) (st : State) → NamesAgree names g known held st → NamesAgree names h known held st
  operation_placed names known held st s = appended_agrees a names known held st (operation_placed_ties names.values names.labels s.tied) s

  was_there : (d : Defined) → IsDefined h d → IsDefined g d
  was_there d e = same_defined h g d (sym (ap (option_map without_uses) (a.objects.contents (owner d)))) e

  same_new : (m : ℕ) (q : Object) → is_older m (content h q) ≡ is_older m (content g q)
  same_new m q = ap (is_older m) (a.objects.contents q)

  pub operation_placed_waits : (m : ℕ) (own : List (Ptr BasicBlock)) (vs : List (Scope Value)) (ls : List (Scope (Ptr BasicBlock))) → ArePending m own vs ls g → ArePending m own vs ls h
  operation_placed_waits m own vs ls w = record {
    value_waits = record {
      late = λ i n v f. same_new m (owner (OfValue v)) ∙ w.value_waits.late i n v f;
      known = λ v d blank new not. w.value_waits.known v (was_there (OfValue v) d) (blank_value v blank) (sym (same_new m (owner (OfValue v))) ∙ new) not;
    };
    label_waits = record {
      late = λ i n c f. same_new m (TheBlock c) ∙ w.label_waits.late i n c f;
      known = λ c d blank new not. w.label_waits.known c (was_there (OfBlock c) d) (sym (a.parents (TheBlock c) (λ e. cc)) ∙ blank) (sym (same_new m (TheBlock c)) ∙ new) not;
    };
  }
    where
      blank_value : (v : Value) → IsBlank h (OfValue v) → IsBlank g (OfValue v)
      blank_value (Result p i) e = data_is g p ∙ (ap (λ c. data_in (option_map without_uses c)) (sym (a.objects.contents (TheOperation p))) ∙ (sym (data_is h p) ∙ e))
      blank_value (Argument c i) e = e
