use Rattle.std.proofs.Common.{[], ◌∷◌, sym, ◌∙◌, arith}
use Rattle.std.specs.Vec.{vec_len}
use Rattle.irtext_parse_locations.proofs.AllOrNone.{none_left, gives_kept, gives_closed}
use Rattle.irtext_parse_locations.proofs.ApplySteps.{no_length}
use Rattle.irtext_parse_section.proofs.OnlyEntry.{only_gives}
use Rattle.irtext_parse_section.proofs.whole.only_given.Goals as goal

pub returns-then-is_empty-clause-gives : goal.returns-then-is_empty-clause-gives
returns-then-is_empty-clause-gives g c =
    let pairs = c.args.entry.pairs in
    let none = no_length (vec_len pairs) (sym c.is_empty.ensures ∙ c.if-is_empty.true) in
    only_gives c.args.entry c.args.ctx.now c.item_located.new.ctx (none_left pairs.items (omega (arith, none, pairs.ok.0))) c.item_located.ensures

pub returns-then-is_empty-clause-kept : goal.returns-then-is_empty-clause-kept
returns-then-is_empty-clause-kept g c = λ mark n.
    let pairs = c.args.entry.pairs in
    let none = no_length (vec_len pairs) (sym c.is_empty.ensures ∙ c.if-is_empty.true) in
    gives_kept [] mark (c.args.entry ∷ []) c.args.ctx.now c.item_located.new.ctx (only_gives c.args.entry c.args.ctx.now c.item_located.new.ctx (none_left pairs.items (omega (arith, none, pairs.ok.0))) c.item_located.ensures) n

pub returns-then-is_empty-clause-closed : goal.returns-then-is_empty-clause-closed
returns-then-is_empty-clause-closed g c = λ mark h.
    let pairs = c.args.entry.pairs in
    let none = no_length (vec_len pairs) (sym c.is_empty.ensures ∙ c.if-is_empty.true) in
    gives_closed [] mark (c.args.entry ∷ []) c.args.ctx.now c.item_located.new.ctx (only_gives c.args.entry c.args.ctx.now c.item_located.new.ctx (none_left pairs.items (omega (arith, none, pairs.ok.0))) c.item_located.ensures) h
