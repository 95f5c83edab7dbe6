-- What ties names to placeholders is kept while other operations and blocks are made, and it begins with no names.
use Rattle.std.proofs.Common.{◌≡◌, ◌∙◌, inl, inr, ℕ, refl, sym, ap, subst, Option, Some, None, Result as Tried, Ok, Err, IfOk, OnErr, List, [], ◌∷◌}
use Rattle.std.specs.Option.{option_map}
use Rattle.irtext_graph.specs.declared.arena.Ptr.{Ptr}
use Rattle.irtext_graph.specs.declared.object.BasicBlock.{BasicBlock}
use Rattle.irtext_graph.specs.declared.object.Operation.{Operation}
use Rattle.irtext_graph.specs.declared.object.Object.{Object}
use Rattle.irtext_graph.specs.declared.object.Object.TheVariants.{TheOperation, TheBlock}
use Rattle.irtext_graph.specs.declared.object.Value.{Value}
use Rattle.irtext_graph.specs.declared.object.Value.TheVariants.{Result, Argument}
use Rattle.irtext_graph.specs.declared.object.Defined.{Defined}
use Rattle.irtext_graph.specs.declared.object.Defined.TheVariants.{OfValue, OfBlock}
use Rattle.irtext_graph.specs.Back.{AllOlder}
use Rattle.irtext_graph.specs.Content.{Content.{AnOperation, ABlock}}
use Rattle.irtext_graph.specs.Chained.{Among}
use Rattle.irtext_graph.specs.Erasing.{owner}
use Rattle.irtext_graph.specs.Graph.{GraphView, content_of, IsNew, MakesOperation, MakesBlock}
use Rattle.irtext_graph.specs.Store.{get}
use Rattle.irtext_graph.specs.Used.{IsDefined}
use Rattle.irtext_graph.proofs.Frames.{new_operation, new_block}
use Rattle.irtext_graph.proofs.Nests.{same_or_other, some_eq}
use Rattle.irtext_graph.proofs.Same.{object_tells}
use Rattle.irtext_scopes.specs.Scopes.{Scope, value_of}
use Rattle.irtext_names.specs.Placeholders.{IsBlank}
use Rattle.irtext_names.specs.Tied.{Tied, Waiting, MatchesGraph, ArePending, IsNoPlaceholder}
use Rattle.irtext_names.proofs.Gained.{operation_added, block_added}
use Rattle.irtext_names.proofs.SameBut.{SameBut, same_age, none_defined, still_defined, was_defined, still_blank, was_placeholder}

module _ {O B T : Type 0} where
  -- ---- no names
  all_old : (g : GraphView (Option O) B T) → AllOlder g.made g → (x : Defined) → IsDefined g x → IsNew g.made g (owner x) → ⊥
  all_old g a (OfValue (Result p i)) d n = none_defined g (OfValue (Result p i)) (ap (λ o. option_map (λ d. AnOperation d.0 d.1) (content_of o)) (sym (a.operations p) ∙ new_operation g.made g p n)) d
  all_old g a (OfValue (Argument b i)) d n = none_defined g (OfValue (Argument b i)) (ap (λ o. option_map (λ d. ABlock d.0 d.1) (content_of o)) (sym (a.blocks b) ∙ new_block g.made g b n)) d
  all_old g a (OfBlock b) d n = none_defined g (OfBlock b) (ap (λ o. option_map (λ d. ABlock d.0 d.1) (content_of o)) (sym (a.blocks b) ∙ new_block g.made g b n)) d

  none_tied : {V : Type 0} (of : V → Defined) (g : GraphView (Option O) B T) → Tied of [] g
  none_tied of g = record { there = λ k n e f. absurd (cc); held = λ k n h f. absurd (cc); alone = λ k n j m e h f f' s. absurd (cc) }

  none_waiting : {V : Type 0} (of : V → Defined) (g : GraphView (Option O) B T) → AllOlder g.made g → Waiting g.made [] of [] g
  none_waiting of g a = record { late = λ k n h f. absurd (cc); known = λ v d b new not. absurd (all_old g a (of v) d new) }

  pub no_ties : (g : GraphView (Option O) B T) → MatchesGraph [] [] g
  no_ties g = record { value_ties = none_tied OfValue g; label_ties = none_tied OfBlock g }

  pub no_waits : (g : GraphView (Option O) B T) → AllOlder g.made g → ArePending g.made [] [] [] g
  no_waits g a = record { value_waits = none_waiting OfValue g a; label_waits = none_waiting OfBlock g a }

  -- ---- an object was made
  module _ {g k : GraphView (Option O) B T} {o : Object} (s : SameBut k g (Some o)) where
    tied_added : {V : Type 0} (of : V → Defined) (ss : List (Scope V)) → Tied of ss g → Tied of ss k
    tied_added of ss t = record {
      there = λ i n e f. was_defined s (of (value_of e)) (t.there i n e f);
      held = λ i n h f. was_placeholder s (of h) (t.held i n h f);
      alone = t.alone;
    }

    waiting_added : {V : Type 0} (of : V → Defined) (m : ℕ) (own own' : List V) (ss : List (Scope V)) → Tied of ss g → ((v : V) → Among v own → Among v own') → ((v : V) → IsBlank k (of v) → (Among v own' → ⊥) → o ≡ owner (of v) → ⊥) → Waiting m own of ss g → Waiting m own' of ss k
    waiting_added of m own own' ss t more apart w = record {
      late = λ i n h f. let d = (t.held i n h f).alive in sym (same_age m k g (owner (of h)) (s.contents (owner (of h)) (not_new (of h) d))) ∙ w.late i n h f;
      known = λ v d b new not. elim (same_or_other object_tells o (owner (of v))) [
        | inl e ↦ absurd (apart v b not e)
        | inr ne ↦
            let n = λ (e : Some o ≡ Some (owner (of v))). ne (some_eq e) in
            w.known v (still_defined s (of v) n d) (still_blank s (of v) n b) (same_age m k g (owner (of v)) (s.contents (owner (of v)) n) ∙ new) (λ a. not (more v a))
      ];
    }
      where
        not_new : (x : Defined) → IsDefined g x → Some o ≡ Some (owner x) → ⊥
        not_new x d e = none_defined g x (s.gone (owner x) e) d

    pub added_ties : (vs : List (Scope Value)) (ls : List (Scope (Ptr BasicBlock))) → MatchesGraph vs ls g → MatchesGraph vs ls k
    added_ties vs ls t = record { value_ties = tied_added OfValue vs t.value_ties; label_ties = tied_added OfBlock ls t.label_ties }

  -- what was made just now is no placeholder of a name
  pub made_none : {V : Type 0} (of : V → Defined) {g k : GraphView (Option O) B T} (ss : List (Scope V)) (v : V) → Tied of ss g → SameBut k g (Some (owner (of v))) → IsNoPlaceholder ss v
  made_none of {g} ss v t s i n f = none_defined g (of v) (s.gone (owner (of v)) refl) (t.held i n v f).alive

  -- an operation was made, or making it was an error
  pub operation_tried : {E : Type 0} {g k : GraphView (Option O) B T} (vs : List (Scope Value)) (ls : List (Scope (Ptr BasicBlock))) (v : Option O) (ts : List T) (os : List Value) (bs : List (Ptr BasicBlock)) (r : Tried (Ptr Operation) E)
      → IfOk r (λ p. MakesOperation g k p v ts os bs) → OnErr r (k ≡ g) → MatchesGraph vs ls g → MatchesGraph vs ls k
  operation_tried vs ls v ts os bs (Ok p) m e t = added_ties (operation_added p m) vs ls t
  operation_tried vs ls v ts os bs (Err x) m e t = rw e t

  -- an operation that has its data waits for no name
  pub operation_waits : {g k : GraphView (Option O) B T} (p : Ptr Operation) (x : O) (ts : List T) (os : List Value) (bs : List (Ptr BasicBlock)) → MakesOperation g k p (Some x) ts os bs
      → (m : ℕ) (own : List (Ptr BasicBlock)) (vs : List (Scope Value)) (ls : List (Scope (Ptr BasicBlock))) → MatchesGraph vs ls g → ArePending m own vs ls g → ArePending m own vs ls k
  operation_waits {g} {k} p x ts os bs make m own vs ls t w = record {
    value_waits = waiting_added (operation_added p make) OfValue m [] [] vs t.value_ties (λ v a. a) (λ v b not e. values v b e) w.value_waits;
    label_waits = waiting_added (operation_added p make) OfBlock m own own ls t.label_ties (λ v a. a) (λ v b not e. cc) w.label_waits;
  }
    where
      values : (v : Value) → IsBlank k (OfValue v) → TheOperation p ≡ owner (OfValue v) → ⊥
      values (Result q i) b e =
          let s : q ≡ p = cc in
          let none = subst (λ o. option_map (λ c. c.data_of) (option_map (λ e. e.content.content) o) ≡ Some None) (ap (λ r. get k.operations r) s ∙ make.operations.updates.changed) b in
          cc
      values (Argument c i) b e = b

  -- a block that was made is one of the blocks in `own` until it has a parent
  pub block_waits : {g k : GraphView (Option O) B T} (b : Ptr BasicBlock) (x : B) (ts : List T) → MakesBlock g k b x ts
      → (m : ℕ) (own : List (Ptr BasicBlock)) (vs : List (Scope Value)) (ls : List (Scope (Ptr BasicBlock))) → MatchesGraph vs ls g → ArePending m own vs ls g → ArePending m (b ∷ own) vs ls k
  block_waits {g} {k} b x ts make m own vs ls t w = record {
    value_waits = waiting_added (block_added b make) OfValue m [] [] vs t.value_ties (λ v a. a) (λ v blank not e. values v blank e) w.value_waits;
    label_waits = waiting_added (block_added b make) OfBlock m own (b ∷ own) ls t.label_ties (λ v a. inr a) (λ v blank not e. labels v not e) w.label_waits;
  }
    where
      values : (v : Value) → IsBlank k (OfValue v) → TheBlock b ≡ owner (OfValue v) → ⊥
      values (Result q i) blank e = cc
      values (Argument c i) blank e = blank

      labels : (c : Ptr BasicBlock) → (Among c (b ∷ own) → ⊥) → TheBlock b ≡ TheBlock c → ⊥
      labels c not e = let s : c ≡ b = cc in not (inl s)
