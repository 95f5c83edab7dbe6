-- What may be erased, and what erasing removes: the uses in an object, and everything nested in it.
use Rattle.std.specs.Prelude.{◌≡◌, ◌≢◌, ℕ, slice_get, Option, Some, None}
use Rattle.std.specs.Option.{option_map}
use Rattle.std.specs.List.{remove}
use Rattle.irtext_graph.specs.declared.object.Object.{Object}
use Rattle.irtext_graph.specs.declared.object.Object.TheVariants.{TheOperation, TheBlock}
use Rattle.irtext_graph.specs.declared.object.Value.{Value}
use Rattle.irtext_graph.specs.declared.object.Value.TheVariants.{Result, Argument}
use Rattle.irtext_graph.specs.declared.object.Defined.{Defined}
use Rattle.irtext_graph.specs.declared.object.Defined.TheVariants.{OfValue, OfBlock}
use Rattle.irtext_graph.specs.declared.object.Site.{Site}
use Rattle.irtext_graph.specs.declared.object.Site.TheVariants.{AtOperand, AtSuccessor}
use Rattle.irtext_graph.specs.declared.objects.Objects.{Objects}
use Rattle.irtext_graph.specs.Nested.{Within}
use Rattle.irtext_graph.specs.Objects.{up}
use Rattle.irtext_graph.specs.Used.{without_operands}
use Rattle.irtext_graph.specs.Uses.{val}
use Rattle.irtext_graph.specs.Content.{Content, Content.{AnOperation, ABlock, ARegion}}
use Rattle.irtext_graph.specs.Store.{generation_at}
use Rattle.irtext_graph.specs.Graph.{GraphView, KeepsRest, parent, children, content, IsInside}

-- the content of an object without operands and successors
abbrev pub without_uses : {O B T : Type 0} → Content O B T → Content O B T
without_uses (AnOperation b c) = AnOperation b (without_operands c)
without_uses (ABlock b c) = ABlock b c
without_uses (ARegion b c) = ARegion b c

-- the operation that defines a result, or the block that defines an argument or is the block
abbrev pub owner : Defined → Object
owner (OfValue (Result p i)) = TheOperation p
owner (OfValue (Argument b i)) = TheBlock b
owner (OfBlock b) = TheBlock b

-- the result of the same operation, or the argument of the same block, at an index
abbrev pub sibling : Value → ℕ → Value
sibling (Result p _) i = Result p i
sibling (Argument b _) i = Argument b i

-- the operation of a use
abbrev pub user : Site → Object
user (AtOperand p i) = TheOperation p
user (AtSuccessor p i) = TheOperation p

-- what the operand or successor of an object at a site refers to
abbrev pub named_at : {O B T : Type 0} → Option (Content O B T) → Site → Option Defined
named_at (Some (AnOperation b c)) (AtOperand p i) = option_map OfValue (slice_get c.operands i)
named_at (Some (AnOperation b c)) (AtSuccessor p i) = option_map OfBlock (slice_get c.successors i)
named_at (Some (ABlock b c)) u = None
named_at (Some (ARegion b c)) u = None
named_at None u = None

module _ {O B T : Type 0} where
  -- each use of a value or a block that is defined in o is in an operation that is o or nested in o
  abbrev pub CanErase : GraphView O B T → Object → Type 0
  CanErase g o = (u : Site) (d : Defined) → named_at (content g (user u)) u ≡ Some d → IsInside g o (owner d) → IsInside g o (user u)

  -- o and the operations nested in it have no operands and successors, and all else is unchanged
  pub record DropsUses (old new : GraphView O B T) (o : Object) : Type 0 where
    pub inside : (q : Object) → IsInside old o q → content new q ≡ option_map without_uses (content old q)
    pub others : (q : Object) → (IsInside old o q → ⊥) → content new q ≡ content old q
    pub parents : (q : Object) → parent new q ≡ parent old q
    pub lists : (q : Object) → children new q ≡ children old q
    pub rest : KeepsRest old new

  -- o and everything nested in it is gone, o is removed from its parent's children, and all else is unchanged
  pub record Erases (old new : GraphView O B T) (o : Object) : Type 0 where
    pub gone : (q : Object) → IsInside old o q → content new q ≡ None
    pub contents : (q : Object) → (IsInside old o q → ⊥) → content new q ≡ content old q
    pub parents : (q : Object) → (IsInside old o q → ⊥) → parent new q ≡ parent old q
    pub left : (k : Object) (i : ℕ) → parent old o ≡ Some k → slice_get (children old k) i ≡ Some o → children new k ≡ remove (children old k) i
    pub others : (q : Object) → (IsInside old o q → ⊥) → parent old o ≢ Some q → children new q ≡ children old q
    pub operation_generations : (i : ℕ) → generation_at new.operations i ≡ generation_at old.operations i
    pub block_generations : (i : ℕ) → generation_at new.blocks i ≡ generation_at old.blocks i
    pub region_generations : (i : ℕ) → generation_at new.regions i ≡ generation_at old.regions i
    pub made : new.made ≡ old.made
    pub values : new.values ≡ old.values
    pub first_place : new.first_place ≡ old.first_place

module _ {O B T : Type 0} where
  -- each use of d that is in a use list is in an operation that is o or nested in o
  pub record IsUsedInside (x : Objects O B T) (o : Object) (d : Defined) : Type 0 where
    pub uses : (u : Site) → val x u ≡ Some d → Within (up x) o (user u)

  -- each use of what q defines is in an operation that is o or nested in o
  pub record IsAllUsedInside (x : Objects O B T) (o q : Object) : Type 0 where
    pub all : (d : Defined) → owner d ≡ q → IsUsedInside x o d
