-- A use of a name takes the machine on.
use Rattle.std.proofs.Common.{◌≡◌, ℕ, refl, sym, subst, true, List, [], ◌∷◌, ◌++◌, Option, Some, None, slice_get}
use Rattle.irtext_graph.specs.declared.arena.Ptr.{Ptr}
use Rattle.irtext_graph.specs.declared.object.BasicBlock.{BasicBlock}
use Rattle.irtext_graph.specs.declared.object.Value.{Value}
use Rattle.irtext_graph.specs.declared.object.Defined.{Defined}
use Rattle.irtext_graph.specs.Chained.{Among}
use Rattle.irtext_graph.specs.Graph.{GraphView}
use Rattle.irtext_graph.proofs.Preorders.{among_left}
use Rattle.irtext_scopes.specs.declared.scopes.Entry.{Entry}
use Rattle.irtext_scopes.specs.declared.tracker.NameTracker.{NameTracker}
use Rattle.irtext_scopes.specs.Scopes.{find, innermost, is_open}
use Rattle.irtext_grammar.specs.Names.Script.{User}
use Rattle.irtext_grammar.specs.Names.Scopes.{uses, fact_of}
use Rattle.irtext_grammar.specs.Names.TextScopes.{Word}
use Rattle.irtext_grammar.specs.Names.History.{State, act, after, going, step}
use Rattle.irtext_names.specs.Kinds.{NamesOf, other, defined_as, scopes_of, use_of, BlankOf, Makes}
use Rattle.irtext_names.specs.Linked.{Known, NamesAgree, TakesUse}
use Rattle.irtext_names.specs.Placeholders.{Uses}
use Rattle.irtext_names.specs.Tied.{MatchesGraph}
use Rattle.irtext_names.proofs.ByKind.{made_placeholder, made_same, made_in_place}
use Rattle.irtext_names.proofs.Loses.{Loses, loses_one}
use Rattle.irtext_names.proofs.Linked.Halves.{facts_of, made_of, one_fact, fact_of_use, use_step, links_of, all_made_of, agrees_after}
use Rattle.irtext_names.proofs.Linked.InPlace.{Moves, moves_all}
use Rattle.irtext_names.proofs.Linked.Kept.{top_open, others_stay, bound_stays, made_stays, made_mentioned}
use Rattle.irtext_names.proofs.Linked.Moving.{links_known_use, links_new_use}
use Rattle.irtext_names.proofs.Linked.Scopes.{means_known_use, means_new_use}

one_more : (held : List (User × Defined)) (y x : User × Defined) → Among x held → Among x (held ++ y ∷ [])
one_more held y x h = among_left x held (y ∷ []) h

module _ {O B T V : Type 0} (kind : NamesOf V) (blank : BlankOf B kind) (old new : NameTracker Value (Ptr BasicBlock)) {g k : GraphView (Option O) B (Option T)} (n : ℕ) (w : Word) (u : User) (is : slice_get old.names n ≡ Some w.name)
    (names : new.names ≡ old.names) (tied : MatchesGraph new.values new.labels k) where
  takes : (known : Known) (held : List (User × Defined)) (st : State) → is_open (scopes_of kind old) ≡ true → NamesAgree old g known held st → step st (act (use_of kind w u)) ≡ going (after st (fact_of (use_of kind w u)))
  takes known held st scope s =
      let r = top_open (defined_as kind) old.names (made_of kind known) known.sites held g (facts_of kind st) (scopes_of kind old) scope (links_of kind old g known held st s) in
      use_step kind st w u r.0 r.1

  pub takes_use : (v : V) → is_open (scopes_of kind old) ≡ true → scopes_of (other kind) new ≡ scopes_of (other kind) old → Uses (Makes kind blank) (scopes_of kind old) (scopes_of kind new) g k n v
      → TakesUse (use_of kind w u) old new g k u (defined_as kind v)
  takes_use v scope rest call = record {
    so = λ known held st s. (
      takes known held st scope s,
      subst (λ f. NamesAgree new k known (held ++ (u, d) ∷ []) (after st f)) (sym (fact_of_use kind w u)) (go known held st s (find n (innermost (scopes_of kind old))) refl),
    );
  }
    where
      d : Defined
      d = defined_as kind v

      go : (known : Known) (held : List (User × Defined)) (st : State) → NamesAgree old g known held st → (o : Option (Entry V)) → find n (innermost (scopes_of kind old)) ≡ o → NamesAgree new k known (held ++ (u, d) ∷ []) (after st (one_fact kind (uses w.name u)))
      go known held st s (Some e) f =
          let r = call.known e f in
          let m : Moves g k None d = moves_all d (λ x y i. rw r.2 i) in
          agrees_after kind new k known (held ++ (u, d) ∷ []) st (uses w.name u) old.names (scopes_of kind old) (scopes_of (other kind) old) names r.1 rest s.distinct tied
          (rw r.0 (links_known_use (defined_as kind) old.names s.distinct known.sites n w.name is m held u (made_of kind known) (facts_of kind st) (scopes_of kind old) e f (λ fs means. means_known_use means n w.name u e f is) (links_of kind old g known held st s)))
          (others_stay m held (held ++ (u, d) ∷ []) (one_more held (u, d)) (defined_as (other kind)) old.names (made_of (other kind) known) known.sites (facts_of (other kind) st) (scopes_of (other kind) old) (λ z i. cc) (links_of (other kind) old g known held st s))
          (rw r.2 (all_made_of kind old g known held st s)) (rw r.2 (all_made_of (other kind) old g known held st s))
          (bound_stays m held (held ++ (u, d) ∷ []) (one_more held (u, d)) known st.bound (λ p x b i. cc) s.bound)
      go known held st s None f =
          let r = call.unknown f in
          let m : Moves g k None d = moves_all d (made_in_place g k kind blank v r.1) in
          let l : Loses k g (Some d) = loses_one d (made_placeholder g k kind blank v r.1) (made_same g k kind blank v r.1) in
          agrees_after kind new k known (held ++ (u, d) ∷ []) st (uses w.name u) old.names _ (scopes_of (other kind) old) names r.0 rest s.distinct tied
          (links_new_use (defined_as kind) old.names s.distinct known.sites n w.name is m held u (made_of kind known) (facts_of kind st) (scopes_of kind old) v f (λ fs means. means_new_use means s.distinct n w.name u v f is) (links_of kind old g known held st s))
          (others_stay m held (held ++ (u, d) ∷ []) (one_more held (u, d)) (defined_as (other kind)) old.names (made_of (other kind) known) known.sites (facts_of (other kind) st) (scopes_of (other kind) old) (λ z i. cc) (links_of (other kind) old g known held st s))
          (made_mentioned (defined_as kind) (made_of kind known) g k n v (scopes_of kind old) l (all_made_of kind old g known held st s))
          (made_stays (defined_as (other kind)) (made_of (other kind) known) g k (scopes_of (other kind) old) (λ x y. l.were (defined_as (other kind) x) y) (all_made_of (other kind) old g known held st s))
          (bound_stays m held (held ++ (u, d) ∷ []) (one_more held (u, d)) known st.bound (λ p x b i. cc) s.bound)
