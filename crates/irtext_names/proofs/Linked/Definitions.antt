-- A definition of a name takes the machine on, and a second one fails.
use Rattle.std.proofs.Common.{◌≡◌, ◌∙◌, inl, inr, ℕ, refl, sym, ap, subst, Bool, true, false, cond, List, [], Option, Some, slice_get, option_map}
use Rattle.irtext_graph.specs.declared.arena.Ptr.{Ptr}
use Rattle.irtext_graph.specs.declared.object.BasicBlock.{BasicBlock}
use Rattle.irtext_graph.specs.declared.object.Value.{Value}
use Rattle.irtext_graph.specs.declared.object.Defined.{Defined}
use Rattle.irtext_graph.specs.Graph.{GraphView}
use Rattle.irtext_scopes.specs.declared.tracker.NameTracker.{NameTracker}
use Rattle.irtext_scopes.specs.Scopes.{find, innermost, is_open, is_defined, placeholder_of}
use Rattle.irtext_grammar.specs.Names.Script.{Place, MultipleDefinitions}
use Rattle.irtext_grammar.specs.Names.Scopes.{defines, fact_of, fail}
use Rattle.irtext_grammar.specs.Names.TextScopes.{Word}
use Rattle.irtext_grammar.specs.Names.History.{State, act, after, outcome, step}
use Rattle.irtext_names.specs.Kinds.{NamesOf, Other, other, defined_as, scopes_of, definition_of}
use Rattle.irtext_names.specs.Linked.{Known, Became, NamesAgree, TakesDefinition, FailsBy}
use Rattle.irtext_names.specs.Placeholders.{Defines}
use Rattle.irtext_names.specs.Tied.{MatchesGraph}
use Rattle.irtext_names.proofs.ByKind.{one_of, apart_of, of_either, ties}
use Rattle.irtext_names.proofs.Loses.{Loses}
use Rattle.irtext_names.proofs.Pairs.{lost, other as lost_other, held_if}
use Rattle.irtext_names.proofs.Ties.{waited, not_lost}
use Rattle.irtext_names.proofs.Linked.Halves.{facts_of, made_of, one_fact, fact_of_definition, definition_step, became_of, links_of, all_made_of, agrees_after}
use Rattle.irtext_names.proofs.Linked.InPlace.{Moves, moves_settled_if}
use Rattle.irtext_names.proofs.Linked.Kept.{top_open, others_stay, bound_stays, made_stays, made_defined}
use Rattle.irtext_names.proofs.Linked.Moving.{links_defined}
use Rattle.irtext_names.proofs.Linked.Scopes.{is_defined_means, means_definition}

module _ {O B T V : Type 0} (kind : NamesOf V) (old : NameTracker Value (Ptr BasicBlock)) (g : GraphView (Option O) B T) (n : ℕ) (w : Word) (p : Place) (is : slice_get old.names n ≡ Some w.name) where
  -- a name has a definition where it has one in the innermost scope
  before : (known : Known) (held : List _) (st : State) → is_open (scopes_of kind old) ≡ true → NamesAgree old g known held st → (b : Bool) → is_defined (find n (innermost (scopes_of kind old))) ≡ b
      → step st (act (definition_of kind w p)) ≡ outcome (cond b (fail (MultipleDefinitions w.name) w.at) []) (after st (fact_of (definition_of kind w p)))
  before known held st scope s b e =
      let r = top_open (defined_as kind) old.names (made_of kind known) known.sites held g (facts_of kind st) (scopes_of kind old) scope (links_of kind old g known held st s) in
      definition_step kind st w p r.0 r.1
      ∙ ap (λ d. outcome (cond d (fail (MultipleDefinitions w.name) w.at) []) (after st (fact_of (definition_of kind w p)))) (sym (is_defined_means r.2 n w.name is) ∙ e)

  pub fails_twice : is_open (scopes_of kind old) ≡ true → is_defined (find n (innermost (scopes_of kind old))) ≡ true → FailsBy (act (definition_of kind w p)) old g (record { cause = MultipleDefinitions w.name; at = Some w.at })
  fails_twice scope e = record { so = λ known held st s. before known held st scope s true e }

  pub takes_definition : (new : NameTracker Value (Ptr BasicBlock)) {k : GraphView (Option O) B T} (v : V) → new.names ≡ old.names → scopes_of (other kind) new ≡ scopes_of (other kind) old → MatchesGraph new.values new.labels k → is_open (scopes_of kind old) ≡ true → is_defined (find n (innermost (scopes_of kind old))) ≡ false
      → Defines (defined_as kind) (scopes_of kind old) (scopes_of kind new) g k n v → TakesDefinition (definition_of kind w p) old new g k p (defined_as kind v)
  takes_definition new {k} v names rest tied scope free call = record {
    so = λ known st became s. (
      before known [] st scope s false free,
      subst (λ f. NamesAgree new k known [] (after st f)) (sym (fact_of_definition kind w p)) (go known st became s),
    );
  }
    where
      o : Option Defined
      o = option_map (defined_as kind) (placeholder_of (find n (innermost (scopes_of kind old))))

      loss : MatchesGraph old.values old.labels g → Loses g k o
      loss t = lost (defined_as kind) (defined_as (other kind)) (one_of kind) (apart_of kind) (scopes_of kind old) (scopes_of (other kind) old) (ties kind old g t) (ties (other kind) old g t) (scopes_of kind new) n v call

      none : MatchesGraph old.values old.labels g → (x : Other kind) → o ≡ Some (defined_as (other kind) x) → ⊥
      none t = lost_other (defined_as kind) (defined_as (other kind)) (one_of kind) (apart_of kind) (scopes_of kind old) (scopes_of (other kind) old) (ties kind old g t) (ties (other kind) old g t) (scopes_of kind new) n v call

      apart : (known : Known) (st : State) → NamesAgree old g known [] st → (q : Place) (d : Defined) → Became known q d → o ≡ Some d → ⊥
      apart known st s q d b e = elim (of_either kind d) [
        | inl (x, same) ↦ ((all_made_of kind old g known [] st s) q x (became_of kind known q x (subst (Became known q) same b))).1 0 n (waited (defined_as kind) (one_of kind) n v (scopes_of kind old) o refl (loss s.tied) x (e ∙ ap Some same))
        | inr (x, same) ↦ none s.tied x (e ∙ ap Some same)
      ]

      go : (known : Known) (st : State) → Became known p (defined_as kind v) → NamesAgree old g known [] st → NamesAgree new k known [] (after st (one_fact kind (defines w.name p)))
      go known st became s =
          let l = loss s.tied in
          let m : Moves g k o (defined_as kind v) = moves_settled_if o (defined_as kind v) (held_if (defined_as kind) n (scopes_of kind old) (ties kind old g s.tied)) call.settles in
          let own = links_defined (defined_as kind) old.names s.distinct known.sites n w.name is v p m (made_of kind known) (facts_of kind st) (scopes_of kind old) free refl (λ i j e f ne. not_lost (defined_as kind) (one_of kind) n v (scopes_of kind old) o refl l (ties kind old g s.tied) i j e f ne)
          (λ fs means. means_definition means s.distinct n w.name p v free (became_of kind known p v became) is) (links_of kind old g known [] st s) in
          let others = others_stay m [] [] (λ x z. z) (defined_as (other kind)) old.names (made_of (other kind) known) known.sites (facts_of (other kind) st) (scopes_of (other kind) old) (none s.tied) (links_of (other kind) old g known [] st s) in
          let own_made = made_defined (defined_as kind) (made_of kind known) g k n v (scopes_of kind old) l (λ x e. (0, n, waited (defined_as kind) (one_of kind) n v (scopes_of kind old) o refl l x e)) (all_made_of kind old g known [] st s) in
          let others_made = made_stays (defined_as (other kind)) (made_of (other kind) known) g k (scopes_of (other kind) old) (λ x d. l.there (defined_as (other kind) x) d (none s.tied x)) (all_made_of (other kind) old g known [] st s) in
          agrees_after kind new k known [] st (defines w.name p) old.names _ (scopes_of (other kind) old) names call.scopes_are rest s.distinct tied own others own_made others_made
          (bound_stays m [] [] (λ x z. z) known st.bound (apart known st s) s.bound)
