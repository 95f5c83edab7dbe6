-- Between functions: names that are defined one after another, as the results of an operation or as the arguments of a block.
use Rattle.std.specs.Prelude.{◌≡◌, ℕ, true, List, Some, slice_get, map}
use Rattle.irtext_base.specs.Text.{Text}
use Rattle.irtext_base.specs.Faults.{Fault, fault_of}
use Rattle.irtext_base.specs.Stream.{IsAt}
use Rattle.irtext_base.specs.declared.parsable.fault.ParseFault.{ParseFault}
use Rattle.irtext_stream.specs.Places.{AtOffset}
use Rattle.irtext_graph.specs.declared.object.Value.{Value}
use Rattle.irtext_graph.specs.declared.object.Value.TheVariants.{Result, Argument}
use Rattle.irtext_grammar.specs.declared.parsed.ReadName.{ReadName}
use Rattle.irtext_names.specs.declared.defining.Definer.{Definer}
use Rattle.irtext_names.specs.declared.defining.Definer.TheVariants.{Results, Arguments}
use Rattle.irtext_base.specs.Faults as causes
use Rattle.irtext_scopes.specs.declared.scopes.DefineFault.{DefineFault}
use Rattle.irtext_names.specs.declared.definitions.UndefinedName.{UndefinedName}

-- the value of this index
abbrev pub defined_value : Definer → ℕ → Value
defined_value (Results op) i = Result op i
defined_value (Arguments b) i = Argument b i

-- the fault is committed, has this cause with the text of the name, and is at the name's place
pub record IsFaultOf {A : Type 0} (names : List Text) (text : Text) (cause : Text → Fault) (read : ReadName) (fault : ParseFault A) : Type 0 where
  pub name : Text
  pub named : slice_get names read.name ≡ Some name
  pub because : fault_of fault.cause ≡ cause name
  pub flag : fault.committed ≡ true
  pub place : AtOffset read.at.offset text (λ passed rest. IsAt fault.pos.line fault.pos.column passed)

-- the numbers of the parsed names
abbrev pub numbers_of : List ReadName → List ℕ
numbers_of ns = map (λ n. n.name) ns

-- the name of this index is already defined in its scope, and the fault is for it, at the name
pub record RefusesTwice {A : Type 0} (names : List Text) (text : Text) (defined : List ReadName) (undefined : UndefinedName) (fault : ParseFault A) : Type 0 where
  pub twice : undefined.fault ≡ DefineFault.MultipleDefinitions
  pub read : ReadName
  pub is : slice_get defined undefined.index ≡ Some read
  pub says : IsFaultOf names text causes.MultipleDefinitions read fault
