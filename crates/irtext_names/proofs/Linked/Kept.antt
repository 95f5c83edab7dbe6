-- Names and graph that agree with the state of the machine, part by part: what a call leaves of it.
use Rattle.std.proofs.Common.{◌≡◌, inl, inr, ℕ, refl, sym, ap, subst, true, false, List, [], ◌∷◌, ◌++◌, Option, Some, None}
use Rattle.irtext_base.specs.Text.{Text}
use Rattle.irtext_graph.specs.declared.arena.Ptr.{Ptr}
use Rattle.irtext_graph.specs.declared.object.BasicBlock.{BasicBlock}
use Rattle.irtext_graph.specs.declared.object.Value.{Value}
use Rattle.irtext_graph.specs.declared.object.Defined.{Defined}
use Rattle.irtext_graph.specs.declared.object.Defined.TheVariants.{OfValue, OfBlock}
use Rattle.irtext_graph.specs.declared.object.Site.{Site}
use Rattle.irtext_graph.specs.Chained.{Among}
use Rattle.irtext_graph.specs.Graph.{GraphView}
use Rattle.irtext_graph.specs.Used.{IsDefined}
use Rattle.irtext_scopes.specs.declared.scopes.Entry.TheVariants.{Pending}
use Rattle.irtext_scopes.specs.declared.tracker.NameTracker.{NameTracker}
use Rattle.irtext_scopes.specs.Names.{AreDistinct}
use Rattle.irtext_scopes.specs.Scopes.{Scope, innermost, in_innermost, is_open, mentioned, defined}
use Rattle.irtext_grammar.specs.Names.Script.{Place, User}
use Rattle.irtext_grammar.specs.Names.TextScopes.{Fact}
use Rattle.irtext_grammar.specs.Names.History.{State, onto, top}
use Rattle.irtext_names.specs.Linked.{Known, Became, Holds, Means, AreLinked, AreMade, NamesAgree}
use Rattle.irtext_names.specs.Tied.{entry_at, MatchesGraph}
use Rattle.irtext_names.proofs.Entries.{entry_mentioned, entry_defined}
use Rattle.irtext_names.proofs.Loses.{Loses}
use Rattle.irtext_names.proofs.Linked.InPlace.{Moves}
use Rattle.irtext_names.proofs.Linked.Moving.{among_split, holds_moves, links_move, onto_nothing}

module _ {O B T : Type 0} where
  -- the agreement, from its parts
  pub agrees_by : (names : NameTracker Value (Ptr BasicBlock)) (g : GraphView (Option O) B T) (known : Known) (held : List (User × Defined)) (st : State) (ns : List Text) (vs : List (Scope Value)) (ls : List (Scope (Ptr BasicBlock)))
      → names.names ≡ ns → names.values ≡ vs → names.labels ≡ ls → AreDistinct ns → MatchesGraph names.values names.labels g
      → AreLinked ns OfValue known.values known.sites held g st.values vs → AreLinked ns OfBlock known.blocks known.sites held g st.labels ls
      → AreMade OfValue known.values vs g → AreMade OfBlock known.blocks ls g
      → ((u : User) (p : Place) → Among (u, p) st.bound → (d : Defined) × Became known p d × Holds known.sites held g u d) → NamesAgree names g known held st
  agrees_by names g known held st ns vs ls e f h distinct tied values labels values_made blocks_made bound = record {
    distinct = rw e distinct;
    tied = tied;
    value_links = rw (e, f) values;
    label_links = rw (e, h) labels;
    values_made = rw f values_made;
    blocks_made = rw h blocks_made;
    bound = bound;
  }

  -- the scope that is open has its facts
  pub top_open : {V : Type 0} (of : V → Defined) (names : List Text) (made : List (Place × V)) (sites : List _) (held : List (User × Defined)) (g : GraphView (Option O) B T) (fss : List (List Fact)) (ss : List (Scope V)) → is_open ss ≡ true
      → AreLinked names of made sites held g fss ss → (fs : List Fact) × (top fss ≡ Some fs) × Means names made fs (innermost ss)
  top_open of names made sites held g [] [] o l = absurd (cc)
  top_open of names made sites held g [] (s ∷ ss) o l = absurd l
  top_open of names made sites held g (fs ∷ rest) [] o l = absurd (cc)
  top_open of names made sites held g (fs ∷ rest) (s ∷ ss) o l = (fs, refl, l.0)

  -- no scope is open
  pub none_open : {V : Type 0} (of : V → Defined) (names : List Text) (made : List (Place × V)) (sites : List _) (held : List (User × Defined)) (g : GraphView (Option O) B T) (fss : List (List Fact)) (ss : List (Scope V)) → is_open ss ≡ false
      → AreLinked names of made sites held g fss ss → top fss ≡ None
  none_open of names made sites held g [] ss o l = refl
  none_open of names made sites held g (fs ∷ rest) [] o l = absurd l
  none_open of names made sites held g (fs ∷ rest) (s ∷ ss) o l = absurd (cc)

  module _ {g k : GraphView (Option O) B T} {o : Option Defined} {y : Defined} (m : Moves g k o y) (held held' : List (User × Defined)) (grown : (x : User × Defined) → Among x held → Among x held') where
    -- scopes of which the act says nothing
    pub others_stay : {V : Type 0} (of : V → Defined) (names : List Text) (made : List (Place × V)) (sites : List (User × Site)) (fss : List (List Fact)) (ss : List (Scope V))
        → ((v : V) → o ≡ Some (of v) → ⊥) → AreLinked names of made sites held g fss ss → AreLinked names of made sites held' k (onto fss []) ss
    others_stay of names made sites fss ss apart l = subst (λ f. AreLinked names of made sites held' k f ss) (sym (onto_nothing fss)) (links_move of names sites m held held' grown made fss ss (λ i n e f. apart _) l)

    -- what is bound stays so
    pub bound_stays : (known : Known) (bound : List (User × Place)) → ((p : Place) (d : Defined) → Became known p d → o ≡ Some d → ⊥)
        → ((u : User) (p : Place) → Among (u, p) bound → (d : Defined) × Became known p d × Holds known.sites held g u d)
        → (u : User) (p : Place) → Among (u, p) (bound ++ []) → (d : Defined) × Became known p d × Holds known.sites held' k u d
    bound_stays known bound apart b u p among = elim (among_split (u, p) bound [] among) [
      | inl old ↦ let r = b u p old in (r.0, r.1, holds_moves (λ (z : Defined). z) [] known.sites m held held' grown u r.0 (apart p r.0 r.1) r.2)
      | inr none ↦ absurd none
    ]

  -- ---- what the places of the text were made into
  module _ {V : Type 0} (of : V → Defined) (made : List (Place × V)) (g k : GraphView (Option O) B T) where
    -- nothing is lost
    pub made_stays : (ss : List (Scope V)) → ((v : V) → IsDefined g (of v) → IsDefined k (of v)) → AreMade of made ss g → AreMade of made ss k
    made_stays ss kept a = λ p v among. let r = a p v among in (kept v r.0, r.1)

    -- a placeholder was made for a name
    pub made_mentioned : (n : ℕ) (h : V) (ss : List (Scope V)) → Loses k g (Some (of h)) → AreMade of made ss g → AreMade of made (in_innermost (mentioned n (Pending h)) ss) k
    made_mentioned n h ss l a = λ p v among. let r = a p v among in (
      l.were (of v) r.0,
      λ i j f. elim (entry_mentioned i j n (Pending h) (Pending v) ss f) [
        | inl old ↦ r.1 i j old
        | inr w ↦ let w2 = w.2 in let same : v ≡ h = cc in l.lost (of v) r.0 (ap (λ z. Some (of z)) (sym same))
      ],
    )

    -- a name was defined
    pub made_defined : {o : Option Defined} (n : ℕ) (v : V) (ss : List (Scope V)) → Loses g k o → ((x : V) → o ≡ Some (of x) → (i : ℕ) × (j : ℕ) × (entry_at i j ss ≡ Some (Pending x)))
        → AreMade of made ss g → AreMade of made (in_innermost (defined n v) ss) k
    made_defined n v ss l waits a = λ p x among. let r = a p x among in (
      l.there (of x) r.0 (λ lost. let w = waits x lost in r.1 w.0 w.1 w.2),
      λ i j f. elim (entry_defined i j n v (Pending x) ss f) [ inl w ↦ let w2 = w.2 in absurd (cc) | inr old ↦ r.1 i j old.0 ],
    )
