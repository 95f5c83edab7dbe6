-- A name that is interned leaves the state of the machine unchanged: names that are added agree with the same state.
use Rattle.std.proofs.Common.{◌≡◌, sym, subst, Option, List, [], ◌∷◌}
use Rattle.irtext_base.specs.Text.{Text}
use Rattle.irtext_graph.specs.declared.arena.Ptr.{Ptr}
use Rattle.irtext_graph.specs.declared.object.BasicBlock.{BasicBlock}
use Rattle.irtext_graph.specs.declared.object.Value.{Value}
use Rattle.irtext_graph.specs.declared.object.Defined.{Defined}
use Rattle.irtext_graph.specs.declared.object.Defined.TheVariants.{OfValue, OfBlock}
use Rattle.irtext_graph.specs.declared.object.Site.{Site}
use Rattle.irtext_graph.specs.Graph.{GraphView}
use Rattle.irtext_grammar.specs.Names.Script.{Place, User}
use Rattle.irtext_grammar.specs.Names.TextScopes.{Fact}
use Rattle.irtext_grammar.specs.Names.History.{State}
use Rattle.irtext_scopes.specs.declared.tracker.NameTracker.{NameTracker}
use Rattle.irtext_scopes.specs.Names.{KeepsNames, AreDistinct}
use Rattle.irtext_scopes.specs.Scopes.{Scope}
use Rattle.irtext_names.specs.Linked.{Known, AreLinked, NamesAgree}
use Rattle.irtext_names.proofs.Linked.Scopes.{means_named, used_before}

module _ {O B T V : Type 0} (names more : List Text) (keeps : KeepsNames names more) (distinct : AreDistinct more) (of : V → Defined) (made : List (Place × V)) (sites : List (User × Site)) (held : List (User × Defined)) (g : GraphView (Option O) B T) where
  links_named : (fss : List (List Fact)) (ss : List (Scope V)) → AreLinked names of made sites held g fss ss → AreLinked more of made sites held g fss ss
  links_named [] [] l = l
  links_named [] (s ∷ ss) l = absurd l
  links_named (fs ∷ fss) [] l = absurd l
  links_named (fs ∷ fss) (s ∷ ss) l = (means_named l.0 more keeps distinct, λ n t u k a. l.1 n t u (used_before l.0 more keeps distinct n t u k a) a, links_named fss ss l.2)

-- what a call leaves that keeps a name, by what it ensures
pub interned : {O B T : Type 0} (g : GraphView (Option O) B T) (old new : NameTracker Value (Ptr BasicBlock)) → KeepsNames old.names new.names → AreDistinct new.names
    → (new.values ≡ old.values) × (new.labels ≡ old.labels)
    → (known : Known) (held : List (User × Defined)) (st : State) → NamesAgree old g known held st → NamesAgree new g known held st
interned g old new keeps distinct same known held st s = record {
  distinct = distinct;
  tied = rw (same.0, same.1) s.tied;
  value_links = subst (AreLinked new.names OfValue known.values known.sites held g st.values) (sym same.0) (links_named old.names new.names keeps distinct OfValue known.values known.sites held g st.values old.values s.value_links);
  label_links = subst (AreLinked new.names OfBlock known.blocks known.sites held g st.labels) (sym same.1) (links_named old.names new.names keeps distinct OfBlock known.blocks known.sites held g st.labels old.labels s.label_links);
  values_made = rw same.0 s.values_made;
  blocks_made = rw same.1 s.blocks_made;
  bound = s.bound;
}
