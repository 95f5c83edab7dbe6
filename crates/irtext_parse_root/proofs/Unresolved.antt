-- The first failure of a text that does not resolve says that it does not.
use Rattle.std.proofs.Common.{◌≡◌, ◌⊎◌, ℕ, Bool, true, false, cond, List, [], Some, None, sym, subst, inl, inr, ◌∙◌}
use Rattle.irtext_base.specs.Text.{Text}
use Rattle.irtext_base.specs.declared.parsable.fault.ParseFault.{ParseFault}
use Rattle.irtext_base.specs.declared.text.IrText as ir_text
use Rattle.irtext_graph.specs.declared.arena.Ptr.{Ptr}
use Rattle.irtext_graph.specs.declared.object.Operation.{Operation}
use Rattle.irtext_parse_state.specs.declared.parsable.state.StateStream.{StateStream}
use Rattle.irtext_grammar.specs.Contexts.Held.{whole}
use Rattle.irtext_grammar.specs.Names.Script.{Failure}
use Rattle.irtext_names.specs.Alone as alone
use Rattle.irtext_names.specs.Alone.{RefusesRegion}
use Rattle.irtext_names.specs.Promises.{IsFirst, RefusesTree, RefusesRoot, RefusesWith}
use Rattle.irtext_parse_root.specs.Parses.{texts, attr, NoRoot, NoTree, NoWhole, NoRegion}
use Rattle.irtext_parse_root.specs.Region.{unisolated}
use Rattle.irtext_parse_root.specs.Whole.{RefusesWhole}

-- where there is no failure, there is no first one
none_first : {A : Type 0} (text : Text) (fs : List (Failure Text ℕ)) (fault : ParseFault A) → IsFirst text fs fault → fs ≡ [] → ⊥
none_first text fs fault h e = subst (λ z. IsFirst text z fault) e h

module _ {T A U : Type 0} (types : ir_text.Ghosts T A) (owns : ir_text.Ghosts A A) (old : StateStream T A U) (fault : ParseFault A) where
  no_root : RefusesRoot (texts types) (texts owns) types.reading (attr owns) old.state.ctx.now.dialects old.stream fault → NoRoot types owns old fault
  no_root h tree entries rest reads clean = none_first (whole old.stream) _ fault (h.first tree entries rest reads) clean

  no_tree : RefusesTree (texts types) (texts owns) types.reading (attr owns) old.state.ctx.now.dialects old.stream fault → NoTree types owns old fault
  no_tree h tree rest reads clean = none_first (whole old.stream) _ fault (h.first tree rest reads).first clean

  pub no_operation : (look : Bool) → RefusesWith (texts types) (texts owns) types.reading (attr owns) old.state.ctx.now.dialects look old.stream fault → cond look (NoRoot types owns old fault) (NoTree types owns old fault)
  no_operation true h = no_root h
  no_operation false h = no_tree h

  pub no_whole : RefusesWhole (texts types) (texts owns) types.reading (attr owns) old fault → NoWhole types owns old fault
  no_whole (inl h) = inl (no_root h)
  no_whole (inr more) = inr more

  pub no_region : (op : Ptr Operation) → RefusesRegion (texts types) (texts owns) old.state.ctx.now.dialects (unisolated old.state.ctx.now op) old.stream fault → NoRegion types owns op old fault
  no_region op (alone.not_isolated u) none bs rest reads clean = absurd (let e : Some u.loc ≡ None = sym u.is ∙ none in cc)
  no_region op (alone.first is h) none bs rest reads clean = none_first (whole old.stream) _ fault (h bs rest reads).first clean
