-- Names and graph that agree with the state of the machine, by the kind of the names.
use Rattle.std.proofs.Common.{◌≡◌, refl, ap, List, [], ◌∷◌, ◌++◌, Option, Some}
use Rattle.irtext_base.specs.Text.{Text}
use Rattle.irtext_graph.specs.declared.arena.Ptr.{Ptr}
use Rattle.irtext_graph.specs.declared.object.BasicBlock.{BasicBlock}
use Rattle.irtext_graph.specs.declared.object.Value.{Value}
use Rattle.irtext_graph.specs.declared.object.Defined.{Defined}
use Rattle.irtext_graph.specs.Chained.{Among}
use Rattle.irtext_graph.specs.Graph.{GraphView}
use Rattle.irtext_scopes.specs.Names.{AreDistinct}
use Rattle.irtext_scopes.specs.declared.tracker.NameTracker.{NameTracker}
use Rattle.irtext_scopes.specs.Scopes.{Scope}
use Rattle.irtext_grammar.specs.Names.Script.{Place, User}
use Rattle.irtext_grammar.specs.Names.Scopes.{uses, defines, fact_of, outside, nothing}
use Rattle.irtext_grammar.specs.Names.TextScopes.{Fact, Facts, Word, defined_before}
use Rattle.irtext_grammar.specs.Names.History.{State, act, after, onto, outcome, step, top}
use Rattle.irtext_names.specs.Kinds.{NamesOf, NamesOf.{values, labels}, Other, other, defined_as, scopes_of, use_of, definition_of}
use Rattle.irtext_names.specs.Linked.{Known, Became, Holds, AreLinked, AreMade, NamesAgree}
use Rattle.irtext_names.specs.Tied.{MatchesGraph}
use Rattle.irtext_names.proofs.Linked.Kept.{agrees_by}

-- the facts of the open scopes of a kind
abbrev pub facts_of : {V : Type 0} → NamesOf V → State → List (List Fact)
facts_of values st = st.values
facts_of labels st = st.labels

-- what was created for places of the text that names of a kind refer to
abbrev pub made_of : {V : Type 0} → NamesOf V → Known → List (Place × V)
made_of values known = known.values
made_of labels known = known.blocks

-- one fact about a name of a kind
abbrev pub one_fact : {V : Type 0} → NamesOf V → Fact → Facts
one_fact values f = record nothing { values = f ∷ [] }
one_fact labels f = record nothing { labels = f ∷ [] }

pub fact_of_use : {V : Type 0} (kind : NamesOf V) (w : Word) (u : User) → fact_of (use_of kind w u) ≡ one_fact kind (uses w.name u)
fact_of_use values w u = refl
fact_of_use labels w u = refl

pub fact_of_definition : {V : Type 0} (kind : NamesOf V) (w : Word) (p : Place) → fact_of (definition_of kind w p) ≡ one_fact kind (defines w.name p)
fact_of_definition values w p = refl
fact_of_definition labels w p = refl

-- ---- an act, where a scope of its kind is open
pub use_step : {V : Type 0} (kind : NamesOf V) (st : State) (w : Word) (u : User) (fs : List Fact) → top (facts_of kind st) ≡ Some fs
    → step st (act (use_of kind w u)) ≡ outcome (outside (Some fs) w) (after st (fact_of (use_of kind w u)))
use_step values st w u fs e = ap (λ o. outcome (outside o w) (after st (fact_of (use_of values w u)))) e
use_step labels st w u fs e = ap (λ o. outcome (outside o w) (after st (fact_of (use_of labels w u)))) e

pub definition_step : {V : Type 0} (kind : NamesOf V) (st : State) (w : Word) (p : Place) (fs : List Fact) → top (facts_of kind st) ≡ Some fs
    → step st (act (definition_of kind w p)) ≡ outcome (defined_before (Some fs) w) (after st (fact_of (definition_of kind w p)))
definition_step values st w p fs e = ap (λ o. outcome (defined_before o w) (after st (fact_of (definition_of values w p)))) e
definition_step labels st w p fs e = ap (λ o. outcome (defined_before o w) (after st (fact_of (definition_of labels w p)))) e

-- ---- the agreement, by kinds
pub became_of : {V : Type 0} (kind : NamesOf V) (known : Known) (p : Place) (v : V) → Became known p (defined_as kind v) → Among (p, v) (made_of kind known)
became_of values known p v b = b
became_of labels known p v b = b

module _ {O B T : Type 0} where
  pub links_of : {V : Type 0} (kind : NamesOf V) (names : NameTracker Value (Ptr BasicBlock)) (g : GraphView (Option O) B T) (known : Known) (held : List (User × Defined)) (st : State) → NamesAgree names g known held st
      → AreLinked names.names (defined_as kind) (made_of kind known) known.sites held g (facts_of kind st) (scopes_of kind names)
  links_of values names g known held st s = s.value_links
  links_of labels names g known held st s = s.label_links

  pub all_made_of : {V : Type 0} (kind : NamesOf V) (names : NameTracker Value (Ptr BasicBlock)) (g : GraphView (Option O) B T) (known : Known) (held : List (User × Defined)) (st : State) → NamesAgree names g known held st
      → AreMade (defined_as kind) (made_of kind known) (scopes_of kind names) g
  all_made_of values names g known held st s = s.values_made
  all_made_of labels names g known held st s = s.blocks_made

  -- the agreement after one fact more about a name of a kind, from what it says of each kind
  pub agrees_after : {V : Type 0} (kind : NamesOf V) (names : NameTracker Value (Ptr BasicBlock)) (g : GraphView (Option O) B T) (known : Known) (held : List (User × Defined)) (st : State) (f : Fact) (ns : List Text) (ss : List (Scope V)) (others : List (Scope (Other kind)))
      → names.names ≡ ns → scopes_of kind names ≡ ss → scopes_of (other kind) names ≡ others → AreDistinct ns → MatchesGraph names.values names.labels g
      → AreLinked ns (defined_as kind) (made_of kind known) known.sites held g (onto (facts_of kind st) (f ∷ [])) ss
      → AreLinked ns (defined_as (other kind)) (made_of (other kind) known) known.sites held g (onto (facts_of (other kind) st) []) others
      → AreMade (defined_as kind) (made_of kind known) ss g → AreMade (defined_as (other kind)) (made_of (other kind) known) others g
      → ((u : User) (p : Place) → Among (u, p) (st.bound ++ []) → (d : Defined) × Became known p d × Holds known.sites held g u d) → NamesAgree names g known held (after st (one_fact kind f))
  agrees_after values names g known held st f ns ss others e same rest distinct tied own links made others_made bound = agrees_by names g known held (after st (one_fact values f)) ns ss others e same rest distinct tied own links made others_made bound
  agrees_after labels names g known held st f ns ss others e same rest distinct tied own links made others_made bound = agrees_by names g known held (after st (one_fact labels f)) ns others ss e rest same distinct tied links own others_made made bound
