-- After an object was appended to another, names and graph still agree with the state of the machine.
use Rattle.std.proofs.Common.{◌≡◌, ◌≢◌, ◌⊎◌, ◌∙◌, inl, inr, ℕ, sym, ap, subst, List, Option, Some, None}
use Rattle.std.specs.Option.{option_map}
use Rattle.irtext_graph.specs.declared.arena.Ptr.{Ptr}
use Rattle.irtext_graph.specs.declared.object.BasicBlock.{BasicBlock}
use Rattle.irtext_graph.specs.declared.object.Region.{Region}
use Rattle.irtext_graph.specs.declared.object.Object.{Object}
use Rattle.irtext_graph.specs.declared.object.Object.TheVariants.{TheOperation, TheBlock, TheRegion}
use Rattle.irtext_graph.specs.declared.object.Value.{Value}
use Rattle.irtext_graph.specs.declared.object.Value.TheVariants.{Result, Argument}
use Rattle.irtext_graph.specs.declared.object.Defined.{Defined}
use Rattle.irtext_graph.specs.declared.object.Defined.TheVariants.{OfValue, OfBlock}
use Rattle.irtext_graph.specs.Chained.{Among}
use Rattle.irtext_graph.specs.Erasing.{owner, without_uses}
use Rattle.irtext_graph.specs.Graph.{GraphView, Appends, content, parent}
use Rattle.irtext_graph.specs.Objects.{is_older}
use Rattle.irtext_graph.specs.Used.{IsDefined, user}
use Rattle.irtext_scopes.specs.declared.scopes.Entry.TheVariants.{Pending}
use Rattle.irtext_scopes.specs.declared.tracker.NameTracker.{NameTracker}
use Rattle.irtext_scopes.specs.Scopes.{Scope, value_of}
use Rattle.irtext_grammar.specs.Names.Script.{User}
use Rattle.irtext_grammar.specs.Names.History.{State}
use Rattle.irtext_names.specs.Linked.{Known, NamesAgree}
use Rattle.irtext_names.specs.Placeholders.{IsBlank, IsPlaceholder}
use Rattle.irtext_names.specs.Tied.{entry_at, Tied, MatchesGraph, ArePending, IsNoPlaceholder}
use Rattle.irtext_names.proofs.SameBut.{same_defined, same_blank}
use Rattle.irtext_names.proofs.Linked.InPlace.{in_place_same}
use Rattle.irtext_names.proofs.Linked.Steps.{agrees_kept}

module _ {O B T : Type 0} {g k : GraphView (Option O) B T} {h c : Object} (a : Appends g k h c) where
  -- ---- what is unchanged, whatever was appended to what
  still_there : (d : Defined) → IsDefined g d → IsDefined k d
  still_there d e = same_defined g k d (ap (option_map without_uses) (a.objects.contents (owner d))) e

  was_there : (d : Defined) → IsDefined k d → IsDefined g d
  was_there d e = same_defined k g d (sym (ap (option_map without_uses) (a.objects.contents (owner d)))) e

  still_waits : (d : Defined) → owner d ≢ h → owner d ≢ c → IsPlaceholder g d → IsPlaceholder k d
  still_waits d ne ne' p = record {
    alive = still_there d p.alive;
    blank = same_blank g k d (ap (option_map without_uses) (a.objects.contents (owner d))) (a.parents (owner d) ne') p.blank;
    free = a.parents (owner d) ne' ∙ p.free;
    empty = a.others (owner d) ne ∙ p.empty;
    alone = λ x e f. p.alone x (was_there x e) f;
  }

  tied_appended : {V : Type 0} (of : V → Defined) (ss : List (Scope V)) → ((i n : ℕ) (x : V) → entry_at i n ss ≡ Some (Pending x) → (owner (of x) ≢ h) × (owner (of x) ≢ c)) → Tied of ss g → Tied of ss k
  tied_appended of ss apart t = record {
    there = λ i n e f. still_there (of (value_of e)) (t.there i n e f);
    held = λ i n x f. let p = apart i n x f in still_waits (of x) p.0 p.1 (t.held i n x f);
    alone = t.alone;
  }

  -- names still match the graph, if none waits with the appended object, or with its parent
  pub appended_ties : (vs : List (Scope Value)) (ls : List (Scope (Ptr BasicBlock)))
      → ((i n : ℕ) (x : Value) → entry_at i n vs ≡ Some (Pending x) → (owner (OfValue x) ≢ h) × (owner (OfValue x) ≢ c))
      → ((i n : ℕ) (x : Ptr BasicBlock) → entry_at i n ls ≡ Some (Pending x) → (TheBlock x ≢ h) × (TheBlock x ≢ c)) → MatchesGraph vs ls g → MatchesGraph vs ls k
  appended_ties vs ls values labels t = record { value_ties = tied_appended OfValue vs values t.value_ties; label_ties = tied_appended OfBlock ls labels t.label_ties }

  -- names and graph agree with the state of the machine, if names match the graph
  pub appended_agrees : (names : NameTracker Value (Ptr BasicBlock)) (known : Known) (held : List (User × Defined)) (st : State) → MatchesGraph names.values names.labels k → NamesAgree names g known held st → NamesAgree names k known held st
  appended_agrees names known held st tied s = agrees_kept g k names known held st still_there (λ s d i. in_place_same g k s d (a.objects.contents (TheOperation (user s))) i) tied s

-- ---- a block was appended to a region
module _ {O B T : Type 0} {g k : GraphView (Option O) B T} (r : Ptr Region) (b : Ptr BasicBlock) (a : Appends g k (TheRegion r) (TheBlock b)) where
  -- the placeholder of a value is no block's
  value_apart : (x : Value) → IsPlaceholder g (OfValue x) → (owner (OfValue x) ≢ TheRegion r) × (owner (OfValue x) ≢ TheBlock b)
  value_apart (Result p i) w = (λ e. cc, λ e. cc)
  value_apart (Argument d i) w = absurd w.blank

  block_apart : (ls : List (Scope (Ptr BasicBlock))) → IsNoPlaceholder ls b → (i n : ℕ) (x : Ptr BasicBlock) → entry_at i n ls ≡ Some (Pending x) → (TheBlock x ≢ TheRegion r) × (TheBlock x ≢ TheBlock b)
  block_apart ls none i n x f = (λ e. cc, λ e. let same : x ≡ b = cc in none i n (subst (λ z. entry_at i n ls ≡ Some (Pending z)) same f))

  -- names still match the graph, if no label waits with the block
  pub block_placed_ties : (vs : List (Scope Value)) (ls : List (Scope (Ptr BasicBlock))) → IsNoPlaceholder ls b → MatchesGraph vs ls g → MatchesGraph vs ls k
  block_placed_ties vs ls none t = appended_ties a vs ls (λ i n x f. value_apart x (t.value_ties.held i n x f)) (block_apart ls none) t

  -- names and graph agree with the state of the machine
  pub block_placed : (names : NameTracker Value (Ptr BasicBlock)) (known : Known) (held : List (User × Defined)) (st : State) → IsNoPlaceholder names.labels b → NamesAgree names g known held st → NamesAgree names k known held st
  block_placed names known held st none s = appended_agrees a names known held st (block_placed_ties names.values names.labels none s.tied) s

  -- what was new is as new
  same_new : (m : ℕ) (q : Object) → is_older m (content k q) ≡ is_older m (content g q)
  same_new m q = ap (is_older m) (a.objects.contents q)

  -- the block is one's own no more
  pub block_placed_waits : (m : ℕ) (own own' : List (Ptr BasicBlock)) (vs : List (Scope Value)) (ls : List (Scope (Ptr BasicBlock))) → ((x : Ptr BasicBlock) → Among x own → (x ≡ b) ⊎ Among x own') → ArePending m own vs ls g → ArePending m own' vs ls k
  block_placed_waits m own own' vs ls taken w = record {
    value_waits = record {
      late = λ i n x f. same_new m (owner (OfValue x)) ∙ w.value_waits.late i n x f;
      known = λ v d blank new not. w.value_waits.known v (was_there a (OfValue v) d) (blank_value v blank) (sym (same_new m (owner (OfValue v))) ∙ new) (λ e. e);
    };
    label_waits = record {
      late = λ i n x f. same_new m (TheBlock x) ∙ w.label_waits.late i n x f;
      known = λ x d blank new not. w.label_waits.known x (was_there a (OfBlock x) d) (sym (a.parents (TheBlock x) (other x blank)) ∙ blank) (sym (same_new m (TheBlock x)) ∙ new)
          (λ mine. elim (taken x mine) [ inl e ↦ other x blank (ap TheBlock e) | inr still ↦ not still ]);
    };
  }
    where
      blank_value : (v : Value) → IsBlank k (OfValue v) → IsBlank g (OfValue v)
      blank_value (Result p i) e = same_blank k g (OfValue (Result p i)) (sym (ap (option_map without_uses) (a.objects.contents (TheOperation p)))) (sym (a.parents (TheOperation p) (λ z. cc))) e
      blank_value (Argument d i) e = e

      other : (x : Ptr BasicBlock) → parent k (TheBlock x) ≡ None → TheBlock x ≢ TheBlock b
      other x blank e = let here = a.parent_here in let none : parent k (TheBlock b) ≡ None = ap (parent k) (sym e) ∙ blank in cc
