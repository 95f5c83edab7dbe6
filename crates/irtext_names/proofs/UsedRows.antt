-- Names of one kind that are used one after another: what holds after so many of them.
use Rattle.std.proofs.Common.{◌≡◌, ◌∙◌, ℕ, Option, Some, List, [], ◌∷◌, ◌++◌, true, refl, sym, ap, subst, arith, slice_get, append-nil, append_assoc}
use Rattle.irtext_graph.specs.declared.arena.Ptr.{Ptr}
use Rattle.irtext_graph.specs.declared.object.BasicBlock.{BasicBlock}
use Rattle.irtext_graph.specs.declared.object.Value.{Value}
use Rattle.irtext_graph.specs.Graph.{GraphView}
use Rattle.irtext_graph.specs.Used.{IsDefined}
use Rattle.irtext_graph.proofs.Closed.{older_on}
use Rattle.irtext_scopes.specs.declared.tracker.NameTracker.{NameTracker}
use Rattle.irtext_scopes.specs.Scopes.{is_open}
use Rattle.irtext_grammar.specs.Names.Script.{User}
use Rattle.irtext_grammar.specs.Names.TextScopes.{Word}
use Rattle.irtext_names.specs.Kinds.{NamesOf, other, defined_as, scopes_of, use_of, BlankOf, Makes}
use Rattle.irtext_names.specs.Linked.{TakesUse}
use Rattle.irtext_names.specs.Placeholders.{Uses}
use Rattle.irtext_names.specs.Rows.{UsesRow}
use Rattle.irtext_names.specs.Tied.{MatchesGraph, KeepsTies}
use Rattle.irtext_names.proofs.ByKind.{made_there}
use Rattle.irtext_names.proofs.Lists.{older_itself}
use Rattle.irtext_names.proofs.NamesInRow.{no_uses, use_more, use_there, use_open}

module _ {O B T : Type 0} where
  -- nothing was used
  pub ties_stay : (names : NameTracker Value (Ptr BasicBlock)) (g : GraphView (Option O) B T) → MatchesGraph names.values names.labels g → KeepsTies names names g g
  ties_stay names g tied = record { tied = tied; waiting = λ m own le w. w; kept = λ m le. older_itself m g }

  -- one call and then another
  pub ties_both : {old mid new : NameTracker Value (Ptr BasicBlock)} {g h k : GraphView (Option O) B T} → KeepsTies old mid g h → KeepsTies mid new h k → KeepsTies old new g k
  ties_both {g} {h} {k} s t = record {
    tied = t.tied;
    waiting = λ m own le w. let up = (s.kept m le).made in t.waiting m own (omega (arith, le, up)) (s.waiting m own le w);
    kept = λ m le. let up = (s.kept m le).made in older_on m g h k (s.kept m le) (t.kept m (omega (arith, le, up)));
  }

module _ {O B T V : Type 0} (kind : NamesOf V) where
  -- names with these numbers were used: what they refer to was appended, the scopes of their kind are open, and those of the other kind
  -- are unchanged
  pub record UsedSoFar (numbers : List ℕ) (old new : NameTracker Value (Ptr BasicBlock)) (g k : GraphView (Option O) B (Option T)) (before after : List V) : Type 0 where
    pub uses : (more : List V) × (after ≡ before ++ more) × UsesRow (defined_as kind) (use_of kind) numbers old new g k more
    pub scope : is_open (scopes_of kind new) ≡ true
    pub rest : (new.names ≡ old.names) × (scopes_of (other kind) new ≡ scopes_of (other kind) old)
    pub ties : KeepsTies old new g k

  -- none so far
  pub used_none : (names : NameTracker Value (Ptr BasicBlock)) (g : GraphView (Option O) B (Option T)) (before : List V) → is_open (scopes_of kind names) ≡ true → MatchesGraph names.values names.labels g → UsedSoFar [] names names g g before before
  used_none names g before scope tied = record {
    uses = ([], sym (append-nil before), no_uses (defined_as kind) (use_of kind) names g);
    scope = scope;
    rest = (refl, refl);
    ties = ties_stay names g tied;
  }

  -- one more
  pub used_more : (blank : BlankOf B kind) (numbers numbers' : List ℕ) (n : ℕ) (old mid new : NameTracker Value (Ptr BasicBlock)) (g h k : GraphView (Option O) B (Option T)) (before after after' : List V) (v : V)
      → numbers' ≡ numbers ++ n ∷ [] → after' ≡ after ++ v ∷ [] → UsedSoFar numbers old mid g h before after
      → Uses (Makes kind blank) (scopes_of kind mid) (scopes_of kind new) h k n v → IsDefined k (defined_as kind v) → ((w : Word) (u : User) → slice_get mid.names n ≡ Some w.name → TakesUse (use_of kind w u) mid new h k u (defined_as kind v))
      → (new.names ≡ mid.names) × (scopes_of (other kind) new ≡ scopes_of (other kind) mid) → KeepsTies mid new h k
      → UsedSoFar numbers' old new g k before after'
  used_more blank numbers numbers' n old mid new g h k before after after' v next pushed i uses there follows rest ties =
      let still = use_there (Makes kind blank) (scopes_of kind mid) (scopes_of kind new) h k n v uses (λ d m e. made_there h k kind blank v m d e) in
      record {
        uses = (
          i.uses.0 ++ v ∷ [],
          pushed ∙ (ap (λ xs. xs ++ v ∷ []) i.uses.1 ∙ append_assoc before i.uses.0 (v ∷ [])),
          subst (λ ns. UsesRow (defined_as kind) (use_of kind) ns old new g k (i.uses.0 ++ v ∷ [])) (sym next) (use_more (defined_as kind) (use_of kind) numbers n old mid new g h k i.uses.0 v i.rest.0 i.uses.2 still there follows),
        );
        scope = use_open (Makes kind blank) (scopes_of kind mid) (scopes_of kind new) h k n v uses i.scope;
        rest = (rest.0 ∙ i.rest.0, rest.1 ∙ i.rest.1);
        ties = ties_both i.ties ties;
      }
