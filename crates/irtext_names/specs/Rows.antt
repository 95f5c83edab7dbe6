-- Between functions: what using or defining a list of names does to the names and the graph of a parse.
use Rattle.std.specs.Prelude.{◌≡◌, ◌<◌, ◌⊎◌, ℕ, suc, List, [], ◌∷◌, ◌++◌, length, map, Option, Some, slice_get}
use Rattle.irtext_base.specs.Text.{Text}
use Rattle.irtext_graph.specs.declared.arena.Ptr.{Ptr}
use Rattle.irtext_graph.specs.declared.object.BasicBlock.{BasicBlock}
use Rattle.irtext_graph.specs.declared.object.Operation.{Operation}
use Rattle.irtext_graph.specs.declared.object.Value.{Value}
use Rattle.irtext_graph.specs.declared.object.Value.TheVariants.{Result}
use Rattle.irtext_graph.specs.declared.object.Defined.{Defined}
use Rattle.irtext_graph.specs.declared.object.Defined.TheVariants.{OfValue, OfBlock}
use Rattle.irtext_graph.specs.declared.object.Site.{Site}
use Rattle.irtext_graph.specs.declared.object.Site.TheVariants.{AtOperand, AtSuccessor}
use Rattle.irtext_graph.specs.Chained.{Among}
use Rattle.irtext_graph.specs.Graph.{GraphView}
use Rattle.irtext_graph.specs.Used.{IsDefined}
use Rattle.irtext_scopes.specs.declared.tracker.NameTracker.{NameTracker}
use Rattle.irtext_scopes.specs.Scopes.{Scope}
use Rattle.irtext_grammar.specs.Grammar.Tree.{Name}
use Rattle.irtext_grammar.specs.Names.Acts.{word_of}
use Rattle.irtext_grammar.specs.Names.Script.{Path, Place, result, User, operand, successor, define_value, MultipleDefinitions}
use Rattle.irtext_grammar.specs.Names.TextScopes.{Act, Word}
use Rattle.irtext_grammar.specs.Names.History.{act, State, going, failed, run}
use Rattle.irtext_names.specs.Linked.{Known, NamesAgree}
use Rattle.irtext_names.specs.Tied.{IsNoPlaceholder}

-- the names of a text have these numbers in the parser's table
abbrev pub AreNamed : List Text → List ℕ → List (Name ℕ) → Type 0
AreNamed table [] [] = Unit {0}
AreNamed table [] (w ∷ ws) = ⊥
AreNamed table (n ∷ ns) [] = ⊥
AreNamed table (n ∷ ns) (w ∷ ws) = (slice_get table n ≡ Some w.text) × AreNamed table ns ws

-- each of these is a number of a table with this many names
abbrev pub AreKnown : ℕ → List ℕ → Type 0
AreKnown count [] = Unit {0}
AreKnown count (n ∷ ns) = (n < count) × AreKnown count ns

-- uses of the names, by the users from index i on
abbrev pub uses_from : (Word → User → Act) → (ℕ → User) → ℕ → List (Name ℕ) → List Act
uses_from uses user i [] = []
uses_from uses user i (w ∷ ws) = uses (word_of w) (user i) ∷ uses_from uses user (suc i) ws

-- uses in hand: the users from index i on refer to these
abbrev pub in_hand_from : {X : Type 0} → (X → Defined) → (ℕ → User) → ℕ → List X → List (User × Defined)
in_hand_from of user i [] = []
in_hand_from of user i (x ∷ xs) = (user i, of x) ∷ in_hand_from of user (suc i) xs

module _ {O B T : Type 0} where
  -- if the old names and graph agree with a state of the machine, these acts take it to a state that the new ones agree with, with these
  -- uses more in hand
  pub record TakesUses (acts : List Act) (old new : NameTracker Value (Ptr BasicBlock)) (g k : GraphView (Option O) B T) (more : List (User × Defined)) : Type 0 where
    pub so : (known : Known) (held : List (User × Defined)) (st : State) → NamesAgree old g known held st
        → (next : State) × (run (going st) (map act acts) ≡ going next) × NamesAgree new k known (held ++ more) next

  -- what was live is live, and so are these
  pub record AreThere {X : Type 0} (of : X → Defined) (g k : GraphView (Option O) B T) (more : List X) : Type 0 where
    pub still : (d : Defined) → IsDefined g d → IsDefined k d
    pub each : (x : X) → Among x more → IsDefined k (of x)

  -- names with these numbers were used one after another, by any users in a row, and refer to these
  pub record UsesRow {X : Type 0} (of : X → Defined) (uses : Word → User → Act) (numbers : List ℕ) (old new : NameTracker Value (Ptr BasicBlock)) (g k : GraphView (Option O) B T) (more : List X) : Type 0 where
    pub count : length more ≡ length numbers
    pub there : AreThere of g k more
    pub follows : (ws : List (Name ℕ)) → AreNamed old.names numbers ws → (user : ℕ → User) (i : ℕ) → TakesUses (uses_from uses user i ws) old new g k (in_hand_from of user i more)

-- ---- definitions
-- the places from index i on, one for each element, with the values that were created for them
abbrev pub made_values : {X : Type 0} → (ℕ → Place) → (ℕ → Value) → ℕ → List X → List (Place × Value)
made_values place value i [] = []
made_values place value i (x ∷ xs) = (place i, value i) ∷ made_values place value (suc i) xs

-- the results of the operation at a path, with the values that were created for them
abbrev pub made_results : {X : Type 0} → Path → Ptr Operation → ℕ → List X → List (Place × Value)
made_results p op = made_values (result p) (Result op)

-- the definitions of the names as the places from index i on
abbrev pub definitions_from : (ℕ → Place) → ℕ → List (Name ℕ) → List Act
definitions_from place i [] = []
definitions_from place i (w ∷ ws) = define_value (word_of w) (place i) ∷ definitions_from place (suc i) ws

-- the first values were created for the first places, as many as the list has elements
abbrev pub AreMadeAs : {X : Type 0} → (ℕ → Place) → (ℕ → Value) → List X → Known → Type 0
AreMadeAs place value xs known = (i : ℕ) → i < length xs → Among (place i, value i) known.values

module _ {O B T : Type 0} where
  -- the first values, this many, are live, and no name waits with one of them as its placeholder
  abbrev pub ValuesReady : (ℕ → Value) → ℕ → List (Scope Value) → GraphView (Option O) B T → Type 0
  ValuesReady value count scopes g = (i : ℕ) → i < count → IsDefined g (OfValue (value i)) × IsNoPlaceholder scopes (value i)

  -- if the old names and graph agree with a state of the machine, nothing is in hand, and these values were created for the places, the
  -- definitions of names with these numbers take the machine to a state that the new ones agree with
  pub record DefinesRow (value : ℕ → Value) (numbers : List ℕ) (old new : NameTracker Value (Ptr BasicBlock)) (g k : GraphView (Option O) B T) : Type 0 where
    pub so : (ws : List (Name ℕ)) → AreNamed old.names numbers ws → (place : ℕ → Place) (known : Known) (st : State) → AreMadeAs place value numbers known → NamesAgree old g known [] st
        → (next : State) × (run (going st) (map act (definitions_from place 0 ws)) ≡ going next) × NamesAgree new k known [] next

  -- in such a state, the definitions of names with these numbers fail at the name with this index, which its scope defines already
  pub record FailsRow (value : ℕ → Value) (numbers : List ℕ) (index : ℕ) (names : NameTracker Value (Ptr BasicBlock)) (g : GraphView (Option O) B T) : Type 0 where
    pub so : (ws : List (Name ℕ)) → AreNamed names.names numbers ws → (place : ℕ → Place) (known : Known) (st : State) → AreMadeAs place value numbers known → NamesAgree names g known [] st
        → (w : Name ℕ) × (slice_get ws index ≡ Some w) × (run (going st) (map act (definitions_from place 0 ws)) ≡ failed (record { cause = MultipleDefinitions w.text; at = Some w.place }))

-- ---- an operation that is created

-- users in a row, each with its site at an operation
abbrev pub sites_from : {X : Type 0} → (ℕ → User) → (ℕ → Site) → ℕ → List X → List (User × Site)
sites_from user site i [] = []
sites_from user site i (x ∷ xs) = (user i, site i) ∷ sites_from user site (suc i) xs

-- what was created so far, and in addition the operation at a path with its operands, successors and results
abbrev pub with_operation : {X : Type 0} → Path → Ptr Operation → List Value → List (Ptr BasicBlock) → List X → Known → Known
with_operation p op operands successors results known = record {
  values = known.values ++ made_results p op 0 results;
  blocks = known.blocks;
  sites = known.sites ++ (sites_from (operand p) (AtOperand op) 0 operands ++ sites_from (successor p) (AtSuccessor op) 0 successors);
}

-- each use in hand is that of an operand or a successor of the operation at this path
pub record AreHeldBy (p : Path) (operands : List Value) (successors : List (Ptr BasicBlock)) (held : List (User × Defined)) : Type 0 where
  pub so : (u : User) (d : Defined) → Among (u, d) held → ((i : ℕ) × (v : Value) × (u ≡ operand p i) × (d ≡ OfValue v) × (slice_get operands i ≡ Some v))
      ⊎ ((i : ℕ) × (b : Ptr BasicBlock) × (u ≡ successor p i) × (d ≡ OfBlock b) × (slice_get successors i ≡ Some b))
