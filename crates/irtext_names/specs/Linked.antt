-- How the state of a parse agrees with the machine that processes acts one by one. The state is the names, and the graph in which
-- operations use what the names refer to. A use is in hand if it is parsed but its operation is not created yet.
use Rattle.std.specs.Prelude.{◌≡◌, ◌⊎◌, ℕ, Bool, true, false, cond, List, [], ◌∷◌, ◌++◌, Option, Some, None, map, slice_get}
use Rattle.std.specs.Option.{option_map}
use Rattle.irtext_base.specs.Text.{Text}
use Rattle.irtext_base.specs.Format.{same_text}
use Rattle.irtext_graph.specs.declared.arena.Ptr.{Ptr}
use Rattle.irtext_graph.specs.declared.object.BasicBlock.{BasicBlock}
use Rattle.irtext_graph.specs.declared.object.Value.{Value}
use Rattle.irtext_graph.specs.declared.object.Defined.{Defined}
use Rattle.irtext_graph.specs.declared.object.Defined.TheVariants.{OfValue, OfBlock}
use Rattle.irtext_graph.specs.declared.object.Site.{Site}
use Rattle.irtext_graph.specs.Chained.{Among}
use Rattle.irtext_graph.specs.Graph.{GraphView}
use Rattle.irtext_graph.specs.Parts.{operation_at}
use Rattle.irtext_graph.specs.Used.{IsDefined, IsUse, user}
use Rattle.irtext_scopes.specs.declared.scopes.Entry.{Entry}
use Rattle.irtext_scopes.specs.declared.scopes.Entry.TheVariants as entries
use Rattle.irtext_scopes.specs.Names.{AreDistinct}
use Rattle.irtext_scopes.specs.Scopes.{Scope, find, value_of}
use Rattle.irtext_scopes.specs.declared.tracker.NameTracker.{NameTracker}
use Rattle.irtext_grammar.specs.Names.Script.{Place, User}
use Rattle.irtext_grammar.specs.Names.Scopes.{uses, defines, fact_of}
use Rattle.irtext_grammar.specs.Names.TextScopes.{Fact, Act, Failure, lookup}
use Rattle.irtext_grammar.specs.Names.History.{Event, act, State, after, going, failed, step}
use Rattle.irtext_names.specs.Tied.{MatchesGraph, IsNoPlaceholder}

-- the name in a fact
abbrev pub name_of : Fact → Text
name_of (uses n u) = n
name_of (defines n p) = n

-- the text is one of these
abbrev pub is_listed : Text → List Text → Bool
is_listed t [] = false
is_listed t (n ∷ ns) = cond (same_text n t) true (is_listed t ns)

-- the names, with one more at the end unless it is among them
abbrev pub with_mention : List Text → Text → List Text
with_mention ns t = cond (is_listed t ns) ns (ns ++ t ∷ [])

-- the names, and after them those that facts mention, in order of first mention
abbrev pub mentioned_from : List Text → List Fact → List Text
mentioned_from ns [] = ns
mentioned_from ns (f ∷ fs) = mentioned_from (with_mention ns (name_of f)) fs

-- the names that facts mention, in order of first mention
abbrev pub mentioned_in : List Fact → List Text
mentioned_in fs = mentioned_from [] fs

-- what the parser has created so far: the value and the block of each place of the text, and the operand or successor of each user whose
-- operation is created
pub record Known : Type 0 where
  pub values : List (Place × Value)
  pub blocks : List (Place × Ptr BasicBlock)
  pub sites : List (User × Site)

-- nothing is created yet
abbrev pub nothing_made : Known
nothing_made = record { values = []; blocks = []; sites = [] }

-- d was created for this place of the text
abbrev pub Became : Known → Place → Defined → Type 0
Became known p (OfValue v) = Among (p, v) known.values
Became known p (OfBlock b) = Among (p, b) known.blocks

module _ {V : Type 0} where
  -- what a name refers to in a scope, given the definition that the facts have of it: the value of that definition; if they have none, a
  -- placeholder or nothing
  abbrev pub IsMeant : List (Place × V) → Option Place → Option (Entry V) → Type 0
  IsMeant made (Some p) (Some (entries.Defined v)) = Among (p, v) made
  IsMeant made (Some p) _ = ⊥
  IsMeant made None (Some (entries.Defined v)) = ⊥
  IsMeant made None _ = Unit {0}

  -- the texts of the names of a scope, in order
  abbrev pub texts_of : List Text → Scope V → List (Option Text)
  texts_of names scope = map (λ e. slice_get names e.0) scope

  -- a scope has the names of its facts, in order of first mention, and each refers to what the facts say of it
  pub record Means (names : List Text) (made : List (Place × V)) (facts : List Fact) (scope : Scope V) : Type 0 where
    pub order : texts_of names scope ≡ map Some (mentioned_in facts)
    pub each : (n : ℕ) (t : Text) → slice_get names n ≡ Some t → IsMeant made (lookup t facts) (find n scope)

module _ {O B T : Type 0} where
  -- d is used at this site of an operation that has its data
  abbrev pub IsInPlace : GraphView (Option O) B T → Defined → Site → Type 0
  IsInPlace g d s = IsUse g d s × (x : O) × (option_map (λ c. c.data_of) (operation_at g (user s)) ≡ Some (Some x))

  -- the user refers to d: at its site in the graph, or in hand
  abbrev pub Holds : List (User × Site) → List (User × Defined) → GraphView (Option O) B T → User → Defined → Type 0
  Holds sites held g u d = ((s : Site) × Among (u, s) sites × IsInPlace g d s) ⊎ Among (u, d) held

  module _ {V : Type 0} where
    -- each user of a name in a scope refers to what the name refers to there
    abbrev pub AreUsed : List Text → (V → Defined) → List (User × Site) → List (User × Defined) → GraphView (Option O) B T → List Fact → Scope V → Type 0
    AreUsed names of sites held g facts scope = (n : ℕ) (t : Text) (u : User) → slice_get names n ≡ Some t → Among (uses t u) facts
        → (e : Entry V) × (find n scope ≡ Some e) × Holds sites held g u (of (value_of e))

    -- each open scope has the names of its facts, and their users refer to what the names refer to
    abbrev pub AreLinked : List Text → (V → Defined) → List (Place × V) → List (User × Site) → List (User × Defined) → GraphView (Option O) B T
        → List (List Fact) → List (Scope V) → Type 0
    AreLinked names of made sites held g [] [] = Unit {0}
    AreLinked names of made sites held g (fs ∷ rest) (s ∷ ss) = Means names made fs s × AreUsed names of sites held g fs s
        × AreLinked names of made sites held g rest ss
    AreLinked names of made sites held g _ _ = ⊥

    -- what was created for places of the text is live, and no name waits with it as its placeholder
    abbrev pub AreMade : (V → Defined) → List (Place × V) → List (Scope V) → GraphView (Option O) B T → Type 0
    AreMade of made scopes g = (p : Place) (v : V) → Among (p, v) made → IsDefined g (of v) × IsNoPlaceholder scopes v

  -- the names, the graph and the uses in hand agree with these facts of values and of labels: no name has two numbers, each open scope has
  -- the names of its facts so far, what they define is live, each use refers to what its name refers to, and each use that is bound for
  -- good refers to its definition
  pub record FactsAgree (names : NameTracker Value (Ptr BasicBlock)) (g : GraphView (Option O) B T) (known : Known) (held : List (User × Defined))
      (values labels : List (List Fact)) (for_good : List (User × Place)) : Type 0 where
    pub distinct : AreDistinct names.names
    pub tied : MatchesGraph names.values names.labels g
    pub value_links : AreLinked names.names OfValue known.values known.sites held g values names.values
    pub label_links : AreLinked names.names OfBlock known.blocks known.sites held g labels names.labels
    pub values_made : AreMade OfValue known.values names.values g
    pub blocks_made : AreMade OfBlock known.blocks names.labels g
    pub bound : (u : User) (p : Place) → Among (u, p) for_good → (d : Defined) × Became known p d × Holds known.sites held g u d

  -- they agree with the state of the machine, whatever its marks and entries are
  abbrev pub NamesAgree : NameTracker Value (Ptr BasicBlock) → GraphView (Option O) B T → Known → List (User × Defined) → State → Type 0
  NamesAgree names g known held st = FactsAgree names g known held st.values st.labels st.bound

  -- if the old names and graph agree with a state of the machine, the act takes it to a state that the new ones agree with, with a use of
  -- d more in hand
  pub record TakesUse (a : Act) (old new : NameTracker Value (Ptr BasicBlock)) (g k : GraphView (Option O) B T) (u : User) (d : Defined) : Type 0 where
    pub so : (known : Known) (held : List (User × Defined)) (st : State) → NamesAgree old g known held st
        → (step st (act a) ≡ going (after st (fact_of a))) × NamesAgree new k known (held ++ (u, d) ∷ []) (after st (fact_of a))

  -- if the old names and graph agree with a state of the machine, nothing is in hand, and d was created for the place, the act takes the
  -- machine to a state that the new ones agree with
  pub record TakesDefinition (a : Act) (old new : NameTracker Value (Ptr BasicBlock)) (g k : GraphView (Option O) B T) (p : Place) (d : Defined) : Type 0 where
    pub so : (known : Known) (st : State) → Became known p d → NamesAgree old g known [] st
        → (step st (act a) ≡ going (after st (fact_of a))) × NamesAgree new k known [] (after st (fact_of a))

  -- if the old names and the graph agree with a state of the machine, and nothing is in hand, the event takes it to a state that the new
  -- ones agree with
  pub record Takes (event : Event) (next : State → State) (old new : NameTracker Value (Ptr BasicBlock)) (g : GraphView (Option O) B T) : Type 0 where
    pub so : (known : Known) (st : State) → NamesAgree old g known [] st → (step st event ≡ going (next st)) × NamesAgree new g known [] (next st)

  -- if these names and this graph agree with a state of the machine, whatever is in hand, the event fails there with this failure
  pub record FailsBy (event : Event) (names : NameTracker Value (Ptr BasicBlock)) (g : GraphView (Option O) B T) (failure : Failure) : Type 0 where
    pub so : (known : Known) (held : List (User × Defined)) (st : State) → NamesAgree names g known held st → step st event ≡ failed failure
