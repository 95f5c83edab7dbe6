-- The context after the attributes of an operation or a block were borrowed as `&mut`.
use Rattle.std.specs.Prelude.{List, Option}
use Rattle.std.specs.Option.{option_map}
use Rattle.std.specs.contracts.option.Option as option
use Rattle.std.specs.Borrow.{Lends, Fml, RattleType, MutBor}
use Rattle.irtext_base.specs.Text.{Text}
use Rattle.irtext_base.specs.declared.base.attributes.AttrObj.{AttrObj}
use Rattle.irtext_context.specs.contracts.base.attributes.AttributeDict as dictionary
use Rattle.irtext_graph.specs.declared.arena.Ptr.{Ptr}
use Rattle.irtext_graph.specs.declared.object.BasicBlock.{BasicBlock}
use Rattle.irtext_graph.specs.declared.object.Operation.{Operation}
use Rattle.irtext_context.specs.Context.{ContextView, with_attributes, with_block_attributes, with_changed_operation, with_changed_block}
use Rattle.irtext_context.specs.contracts.base.context.Context as context
use Rattle.irtext_context.specs.contracts.base.operation.OperationData as held
use Rattle.irtext_context.specs.declared.base.operation.OperationData.{OperationData}

-- when the borrow ends, the attributes in an operation's data are the reference's last value
abbrev pub LendsHeld : (A : RattleType) → MutBor (Option (OperationData A.Denot)) → MutBor (List (Text × AttrObj A.Denot)) → Fml
LendsHeld A h r = Lends (option.the_row (held.the_row A)) (dictionary.the_row A) h r (λ w. option_map (with_attributes w) h.now)

module _ (T A : RattleType) (c : MutBor (ContextView T.Denot A.Denot)) where
  -- when the borrow ends, the attributes of the operation are the reference's last value; all else in the context is unchanged
  abbrev pub LendsAttributes : Ptr Operation → MutBor (List (Text × AttrObj A.Denot)) → Fml
  LendsAttributes p r = Lends (context.the_row T A) (dictionary.the_row A) c r (λ w. with_changed_operation c.now p (with_attributes w))

  -- when the borrow ends, the attributes of the block are the reference's last value; all else in the context is unchanged
  abbrev pub LendsBlockAttributes : Ptr BasicBlock → MutBor (List (Text × AttrObj A.Denot)) → Fml
  LendsBlockAttributes p r = Lends (context.the_row T A) (dictionary.the_row A) c r (λ w. with_changed_block c.now p (with_block_attributes w))
