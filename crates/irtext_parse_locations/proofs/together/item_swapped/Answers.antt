use Rattle.std.proofs.Common.{◌∙◌, Some, sym, ap, subst}
use Rattle.irtext_context.specs.Context.{EditsOperation, EditsBlock, with_changed_operation, with_changed_block, with_attributes, with_block_attributes}
use Rattle.irtext_parse_locations.proofs.together.item_swapped.Goals as goal

pub operation_attributes_mut-requires : goal.operation_attributes_mut-requires
operation_attributes_mut-requires g c = rw c.in-Operation.is at c.requires

pub block_attributes_mut-requires : goal.block_attributes_mut-requires
block_attributes_mut-requires g c = rw c.in-Block.is at c.requires

pub returns-in-Operation : goal.returns-in-Operation
returns-in-Operation g c = rw c.in-Operation.is (record {
  had = c.operation_attributes_mut.ensures.value ∙ ap (λ w. Some w) (sym c.replace.ensures.value);
  puts = subst (λ w. EditsOperation c.args.ctx.now (with_changed_operation c.args.ctx.now c.in-Operation.op (with_attributes c.replace.new.dest)) c.in-Operation.op (with_attributes w)) c.replace.ensures.after
      (c.operation_attributes_mut.ensures.edits c.replace.new.dest);
})

pub returns-in-Block : goal.returns-in-Block
returns-in-Block g c = rw c.in-Block.is (record {
  had = c.block_attributes_mut.ensures.value ∙ ap (λ w. Some w) (sym c.replace-in-Block.ensures.value);
  puts = subst (λ w. EditsBlock c.args.ctx.now (with_changed_block c.args.ctx.now c.in-Block.at (with_block_attributes c.replace-in-Block.new.dest)) c.in-Block.at (with_block_attributes w)) c.replace-in-Block.ensures.after
      (c.block_attributes_mut.ensures.edits c.replace-in-Block.new.dest);
})
