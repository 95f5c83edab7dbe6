-- After a tree was parsed no scope is open, so no placeholder is left; and a location that is a place of the text is printed the same over
-- any paths.
use Rattle.std.proofs.Common.{◌≡◌, ◌∙◌, ◌-◌, ℕ, zero, suc, List, [], ◌∷◌, length, take, Option, Some, refl, ap, subst}
use Rattle.irtext_base.specs.Text.{Text}
use Rattle.irtext_base.specs.Paths.{written_with}
use Rattle.irtext_base.specs.declared.location.Location.{Location, SrcPos}
use Rattle.irtext_base.specs.declared.location.Source.{Source}
use Rattle.irtext_base.proofs.LocationViews.{seen-src_pos}
use Rattle.irtext_graph.specs.declared.arena.Ptr.{Ptr}
use Rattle.irtext_graph.specs.declared.object.BasicBlock.{BasicBlock}
use Rattle.irtext_graph.specs.declared.object.Defined.{Defined}
use Rattle.irtext_graph.specs.declared.object.Defined.TheVariants.{OfValue, OfBlock}
use Rattle.irtext_graph.specs.declared.object.Value.{Value}
use Rattle.irtext_graph.specs.Graph.{GraphView}
use Rattle.irtext_grammar.specs.Contexts.Held.{location_over}
use Rattle.irtext_grammar.specs.Names.History.{State}
use Rattle.irtext_grammar.specs.Names.Script.{Place, User}
use Rattle.irtext_grammar.specs.Names.TextScopes.{Fact}
use Rattle.irtext_grammar.specs.Promises.Root.{position_after, location_of}
use Rattle.irtext_scopes.specs.Scopes.{Scope}
use Rattle.irtext_scopes.specs.declared.tracker.NameTracker.{NameTracker}
use Rattle.irtext_scopes.specs.declared.scopes.Entry.TheVariants.{Pending}
use Rattle.irtext_names.specs.Linked.{Known, AreLinked, NamesAgree}
use Rattle.irtext_names.specs.Tied.{entry_at, Waiting, ArePending, NoneIsLeft}

-- no scope binds nothing
nothing_there : {V : Type 0} (k n : ℕ) (v : V) → entry_at k n [] ≡ Some (Pending v) → ⊥
nothing_there zero n v e = cc
nothing_there (suc k) n v e = cc

module _ {O B T : Type 0} where
  -- where the machine has no scope open, neither have the names
  none_linked : {V : Type 0} (names : List Text) (of : V → Defined) (made : List (Place × V)) (sites : List _) (held : List (User × Defined)) (g : GraphView (Option O) B T) (facts : List (List Fact)) (scopes : List (Scope V))
      → facts ≡ [] → AreLinked names of made sites held g facts scopes → scopes ≡ []
  none_linked names of made sites held g [] [] e h = refl
  none_linked names of made sites held g [] (s ∷ ss) e h = absurd h
  none_linked names of made sites held g (f ∷ fs) scopes e h = absurd (cc)

  pub values_shut : (names : NameTracker Value (Ptr BasicBlock)) (g : GraphView (Option O) B T) (known : Known) (held : List (User × Defined)) (st : State) → NamesAgree names g known held st → st.values ≡ [] → names.values ≡ []
  values_shut names g known held st s e = none_linked names.names OfValue known.values known.sites held g st.values names.values e s.value_links

  pub labels_shut : (names : NameTracker Value (Ptr BasicBlock)) (g : GraphView (Option O) B T) (known : Known) (held : List (User × Defined)) (st : State) → NamesAgree names g known held st → st.labels ≡ [] → names.labels ≡ []
  labels_shut names g known held st s e = none_linked names.names OfBlock known.blocks known.sites held g st.labels names.labels e s.label_links

  -- where no scope is open, none of what is blank is left
  none_waits : {V : Type 0} (m : ℕ) (own : List V) (of : V → Defined) (scopes : List (Scope V)) (g : GraphView (Option O) B T) → scopes ≡ [] → Waiting m own of scopes g → Waiting m own of [] g
  none_waits m own of scopes g e w = subst (λ z. Waiting m own of z g) e w

  pub none_left : (m : ℕ) (values : List (Scope Value)) (labels : List (Scope (Ptr BasicBlock))) (g : GraphView (Option O) B T) → values ≡ [] → labels ≡ [] → ArePending m [] values labels g → NoneIsLeft m [] g
  none_left m values labels g a b w = record {
    values = λ v d blank n. let x = (none_waits m [] OfValue values g a w.value_waits).known v d blank n (λ i. i) in nothing_there x.0 x.1 v x.2;
    labels = λ k d blank n own. let x = (none_waits m [] OfBlock labels g b w.label_waits).known k d blank n own in nothing_there x.0 x.1 k x.2;
  }

-- a location that is a place of the text is printed the same over any paths
pub place_written : {A : Type 0} (paths : List (List ℕ)) (source : Source) (text : Text) (n : ℕ) (loc : Location A) → loc ≡ SrcPos source (position_after (take (length text - n) text)) → location_over paths loc ≡ location_of paths source text n
place_written paths source text n loc e = ap (location_over paths) e ∙ ap (written_with paths) (seen-src_pos source (position_after (take (length text - n) text)))
