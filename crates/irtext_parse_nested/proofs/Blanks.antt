-- Operations without data have results still, in a context.
use Rattle.std.proofs.Common.{◌≡◌, ℕ, [], Option, Some, None, IsSome, refl}
use Rattle.std.specs.Prelude.{option_and_then}
use Rattle.std.specs.Option.{option_map}
use Rattle.irtext_context.specs.Context.{ContextView, operation, operation_of, view_of, OperationView}
use Rattle.irtext_context.specs.declared.base.operation.OperationData.{OperationData}
use Rattle.irtext_graph.specs.Content.{Node, OperationContent}
use Rattle.irtext_graph.specs.declared.arena.Entry.{Entry}
use Rattle.irtext_graph.specs.declared.arena.Ptr.{Ptr}
use Rattle.irtext_graph.specs.declared.object.BasicBlock.{BasicBlock}
use Rattle.irtext_graph.specs.declared.object.Operation.{Operation}
use Rattle.irtext_graph.specs.declared.object.Region.{Region}
use Rattle.irtext_graph.specs.Parts.{operation_at}
use Rattle.irtext_graph.specs.Store.{get}
use Rattle.irtext_names.specs.Tied.{MatchesGraph, ArePending}
use Rattle.irtext_parse_state.specs.declared.parsable.state.State as code
use Rattle.irtext_names.specs.LosesPlaceholders.{BlanksHaveResults, LosesPlaceholders}
use Rattle.irtext_names.specs.Items.{BlanksDefine, IsSound, Names}

-- an operation, as a context keeps it
abbrev Stored : (T A : Type 0) → Type 0
Stored T A = Option (Entry (Node BasicBlock Region (OperationContent (Option (OperationData A)) (Option T))))

module _ {T A : Type 0} where
  -- an operation without data is there, and nothing is seen of it
  blank_there : (c : ContextView T A) (p : Ptr Operation) → option_map (λ c. c.data_of) (operation_at c.graph p) ≡ Some None → IsSome (get c.graph.operations p) × (operation c p ≡ None)
  blank_there c p h = go (get c.graph.operations p) h
    where
      unseen : (f : OperationData A → OperationView T A) (d : Option (OperationData A)) → Some d ≡ Some None → option_map f d ≡ None
      unseen f None e = refl
      unseen f (Some x) e = absurd (cc)

      go : (e : Stored T A) → option_map (λ c. c.data_of) (option_map (λ e. e.content.content) e) ≡ Some None → IsSome e × (option_and_then operation_of e ≡ None)
      go None e = absurd (cc)
      go (Some e) f = (refl, unseen (view_of e.content.content.results e.content.children) e.content.content.data_of f)

  -- a live operation without a view has no data
  unseen_blank : (c : ContextView T A) (p : Ptr Operation) → IsSome (get c.graph.operations p) → operation c p ≡ None → option_map (λ c. c.data_of) (operation_at c.graph p) ≡ Some None
  unseen_blank c p i h = go (get c.graph.operations p) i h
    where
      none : (f : OperationData A → OperationView T A) (d : Option (OperationData A)) → option_map f d ≡ None → Some d ≡ Some None
      none f None e = refl
      none f (Some x) e = absurd (cc)

      go : (e : Stored T A) → IsSome e → option_and_then operation_of e ≡ None → option_map (λ c. c.data_of) (option_map (λ e. e.content.content) e) ≡ Some None
      go None i e = absurd (cc)
      go (Some e) i f = none (view_of e.content.content.results e.content.children) e.content.content.data_of f

  -- what holds of a graph holds of a context
  pub blanks_on : (old new : ContextView T A) → ((m : ℕ) → BlanksHaveResults m old.graph → BlanksHaveResults m new.graph) → (m : ℕ) → BlanksDefine m old → BlanksDefine m new
  blanks_on old new keeps m h p i e n = keeps m (λ q b new. let u = blank_there old q b in h q u.0 u.1 new) p (unseen_blank new p i e) n

-- what is sound is still sound if only placeholders are lost
pub loses_sound : {T A U : Type 0} (names new : Names) (s z : code.State T A U) → LosesPlaceholders s.ctx.now.graph z.ctx.now.graph → MatchesGraph new.values new.labels z.ctx.now.graph → (m : ℕ)
    → (ArePending m [] names.values names.labels s.ctx.now.graph → ArePending m [] new.values new.labels z.ctx.now.graph) → IsSound m names s → IsSound m new z
loses_sound names new s z loses tied m waits h = record { tied = tied; waiting = waits h.waiting; blanks = blanks_on s.ctx.now z.ctx.now loses.blanks m h.blanks }
