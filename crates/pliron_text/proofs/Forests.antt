-- The parts of forests of pointers.
use Rattle.irtext_graph.specs.declared.arena.Ptr.{Ptr}
use Rattle.irtext_graph.specs.declared.object.BasicBlock.{BasicBlock}
use Rattle.irtext_graph.specs.declared.object.Operation.{Operation}
use Rattle.irtext_graph.specs.declared.object.Region.{Region}
use Rattle.irtext_grammar.specs.Grammar.Forest as forest
use Rattle.irtext_grammar.specs.Grammar.Forest.{Regions, no_regions, region, Blocks, no_blocks, Operations, no_operations}

abbrev pub PtrRegions : Type 0
PtrRegions = Regions (Ptr Operation) (Ptr BasicBlock) (Ptr Region)

abbrev pub PtrBlocks : Type 0
PtrBlocks = Blocks (Ptr Operation) (Ptr BasicBlock) (Ptr Region)

abbrev pub PtrOperations : Type 0
PtrOperations = Operations (Ptr Operation) (Ptr BasicBlock) (Ptr Region)

abbrev pub first_blocks : PtrRegions → PtrBlocks
first_blocks no_regions = no_blocks
first_blocks (region r bs more) = bs

abbrev pub more_regions : PtrRegions → PtrRegions
more_regions no_regions = no_regions
more_regions (region r bs more) = more

abbrev pub first_block : Ptr BasicBlock → PtrBlocks → Ptr BasicBlock
first_block other no_blocks = other
first_block other (forest.block b os more) = b

abbrev pub first_operations : PtrBlocks → PtrOperations
first_operations no_blocks = no_operations
first_operations (forest.block b os more) = os

abbrev pub more_blocks : PtrBlocks → PtrBlocks
more_blocks no_blocks = no_blocks
more_blocks (forest.block b os more) = more

abbrev pub first_operation : Ptr Operation → PtrOperations → Ptr Operation
first_operation other no_operations = other
first_operation other (forest.operation p rs more) = p

abbrev pub first_regions : PtrOperations → PtrRegions
first_regions no_operations = no_regions
first_regions (forest.operation p rs more) = rs

abbrev pub more_operations : PtrOperations → PtrOperations
more_operations no_operations = no_operations
more_operations (forest.operation p rs more) = more
