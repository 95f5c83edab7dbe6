-- An operation that is closed: its results are defined, and their names are stored as given names.
use Rattle.std.proofs.Common.{◌≡◌, ◌∙◌, ℕ, List, [], ◌∷◌, map, Option, Some, None, IsSome, refl, sym, ap, subst, append-nil, ◌++◌}
use Rattle.std.specs.Map.{lookup}
use Rattle.irtext_base.specs.Text.{Text}
use Rattle.irtext_base.specs.declared.location.Location.{Location}
use Rattle.irtext_context.specs.Context.{ContextView, OperationView, operation, KeepsOlder, with_attributes}
use Rattle.irtext_context.proofs.Contexts.{edits-keeps}
use Rattle.irtext_context.proofs.Kept.{kept_trans}
use Rattle.irtext_graph.specs.declared.arena.Ptr.{Ptr}
use Rattle.irtext_graph.specs.declared.object.Operation.{Operation}
use Rattle.irtext_graph.specs.declared.object.Object.TheVariants.{TheOperation}
use Rattle.irtext_graph.specs.Graph.{IsNew}
use Rattle.irtext_graph.proofs.Frames.{new_operation}
use Rattle.irtext_parse_state.specs.States.{marks_of, same_index}
use Rattle.irtext_parse_state.specs.declared.parsable.state.State as code
use Rattle.irtext_grammar.specs.Grammar.Tree.{Name, Mark}
use Rattle.irtext_grammar.specs.Graphs.Build.{put_all, read_names}
use Rattle.irtext_grammar.specs.Grows.{OwnBecame}
use Rattle.irtext_grammar.specs.Unchanged.{OwnSoFar, HasOwn, HasUses, ModifiesOnly}
use Rattle.irtext_grammar.proofs.Edits.{spares_then, spares_fewer, attributes_written, attributes_written_spares}
use Rattle.irtext_grammar.proofs.Kept.{uses_kept}
use Rattle.irtext_names.specs.Tied.{MatchesGraph}
use Rattle.irtext_grammar.specs.Resume.{OpenOperation}
use Rattle.irtext_grammar.specs.declared.parsed.ReadMark.{ReadMark}
use Rattle.irtext_grammar.specs.declared.parsed.ReadName.{ReadName}
use Rattle.irtext_grammar.specs.Parsed.{IsMarkIf, Represents, Each}
use Rattle.irtext_parse_nested.specs.declared.frame.BegunOperation.{BegunOperation}
use Rattle.irtext_parse_nested.specs.OpenOperation.{pledge_of}
use Rattle.irtext_names.specs.Carriers.{noted_as}
use Rattle.irtext_parse_nested.specs.Ends.{closes_at, NotesMark, WritesAttributes, GivesNames, BecomesNamed}
use Rattle.irtext_names.specs.Items.{Names, Acts, KeepsLive, IsSound}
use Rattle.irtext_parse_nested.proofs.Edited.{edited_lasts, edited_sound, edited_agrees}
use Rattle.irtext_parse_nested.proofs.Faults.{named_each}
use Rattle.irtext_names.proofs.Lasting.{lasts_then}

module _ {T A : Type 0} where
  module _ (old mid new : ContextView T A) (op : Ptr Operation) (spares : ModifiesOnly [] old mid) where
    -- all else is unchanged
    pub close_spares : WritesAttributes mid new op → ModifiesOnly (TheOperation op ∷ []) old new
    close_spares w = spares_then old mid new (TheOperation op ∷ []) (spares_fewer old mid (TheOperation op ∷ []) spares) (attributes_written_spares (λ n l. Unit {0}) mid new op w.left w.edits)

    -- what is older stays
    pub close_keeps : (m : ℕ) → KeepsOlder m old mid → WritesAttributes mid new op → IsNew m mid.graph (TheOperation op) → KeepsOlder m old new
    close_keeps m k w n = kept_trans k (edits-keeps m mid new op (with_attributes w.left) (new_operation m mid.graph op n) w.edits)

    -- whatever own it had, it has the names besides
    pub close_own : (IsLocation : ℕ → Location A → Type 0) (names : List Text) (text : Text) (read : List ReadName) → GivesNames names read mid new op → BecomesNamed IsLocation names text read old new op
    close_own IsLocation names text read gives = record { so = so }
      where
        stays : (was : OperationView T A) → operation old op ≡ Some was → operation mid op ≡ Some was
        stays was e = (spares.spared (TheOperation op) (subst IsSome (sym e) refl) (λ i. i)).0 ∙ e

        so : (own : OwnSoFar T A) (view : OperationView T A) → operation old op ≡ Some view → HasOwn IsLocation view own → HasUses old op own → (ns : List (Name ℕ)) → Each (Represents names text) read ns
            → OwnBecame old new IsLocation op (record own { entries = put_all own.entries (read_names (map (λ n. n.text) ns)) })
        so own view is has uses ns each =
            let many = (spares.spared (TheOperation op) (subst IsSome (sym is) refl) (λ i. i)).1 in
            let became = attributes_written IsLocation mid new op gives.left gives.edits own view (stays view is) has (uses_kept old mid op own many uses) in
            let entries = gives.stored view (stays view is) ns (named_each names text read ns each) ∙ ap (λ es. put_all es (read_names (map (λ n. n.text) ns))) has.entries in
            record {
              view = became.view;
              is = became.is;
              has = subst (λ es. HasOwn IsLocation became.view (record own { entries = es })) entries became.has;
              uses = record { operands_are = became.uses.operands_are; successors_are = became.uses.successors_are };
              regions = λ was e. became.regions was (stays was e);
            }

-- after the results are defined and the attributes written, names, graph and marks agree with the state of the machine after the
-- operation's end
pub close_acts : {T A U : Type 0} (names new : Names) (s m z : code.State T A U) (b : BegunOperation) (o : OpenOperation T A) → Acts (closes_at o s) names s (pledge_of b o.place ∷ []) new m []
    → WritesAttributes m.ctx.now z.ctx.now b.op → marks_of z ≡ marks_of m → MatchesGraph new.values new.labels m.ctx.now.graph → Acts (closes_at o s) names s (pledge_of b o.place ∷ []) new z []
close_acts names new s m z b o acts w same tied = record {
  so = λ path items more x h. edited_agrees m.ctx.now z.ctx.now b.op (with_attributes w.left) w.edits new m z refl refl same tied (acts.so path items more x h);
}

pub close_sound : {T A U : Type 0} (names : Names) (m z : code.State T A U) (op : Ptr Operation) → WritesAttributes m.ctx.now z.ctx.now op → (n : ℕ) → IsSound n names m → IsSound n names z
close_sound names m z op w n h = edited_sound m.ctx.now z.ctx.now op (with_attributes w.left) w.edits names m z refl refl n h

pub close_lasts : {T A : Type 0} (old mid new : ContextView T A) (op : Ptr Operation) → KeepsLive old mid → WritesAttributes mid new op → KeepsLive old new
close_lasts old mid new op l w = lasts_then _ _ _ l (edited_lasts mid new op (with_attributes w.left) w.edits)

-- the mark that was recorded is that of the text
pub noted_is : {X : Type 0} (text : Text) (x : X) (read : Option ReadMark) (m : Option (Mark ℕ)) (old new : List (ℕ × X)) → IsMarkIf text read m → NotesMark read x old new → new ≡ old ++ noted_as m x
noted_is text x None None old new i n = n ∙ sym (append-nil old)
noted_is text x None (Some m) old new i n = absurd i
noted_is text x (Some r) None old new i n = absurd i
noted_is text x (Some r) (Some m) old new i n =
    let k : (lookup (same_index m.index) old ≡ None) × (new ≡ old ++ (m.index, x) ∷ []) = subst (λ j. (lookup (same_index j) old ≡ None) × (new ≡ old ++ (j, x) ∷ [])) i.indexed n in
    k.1
