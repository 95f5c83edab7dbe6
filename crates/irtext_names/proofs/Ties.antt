-- What ties names to placeholders is kept, whatever is made, lost or defined.
use Rattle.std.proofs.Common.{◌≡◌, ◌∙◌, inl, inr, ℕ, refl, sym, ap, true, Option, Some, None, List}
use Rattle.std.specs.Option.{option_map}
use Rattle.irtext_graph.specs.declared.object.Defined.{Defined}
use Rattle.irtext_graph.specs.Erasing.{owner}
use Rattle.irtext_graph.specs.Graph.{GraphView, IsNew}
use Rattle.irtext_graph.specs.Used.{IsDefined}
use Rattle.irtext_graph.proofs.Linked.{defined_tells}
use Rattle.irtext_graph.proofs.Nests.{same_or_other, some_eq}
use Rattle.irtext_scopes.specs.declared.scopes.Entry.{Entry}
use Rattle.irtext_scopes.specs.declared.scopes.Entry.TheVariants.{Pending}
use Rattle.irtext_scopes.specs.Scopes.{Scope, find, innermost, in_innermost, is_open, mentioned, defined, placeholder_of, value_of}
use Rattle.irtext_names.specs.Placeholders.{IsPlaceholder}
use Rattle.irtext_names.specs.Tied.{entry_at, Tied, Waiting, IsNoPlaceholder}
use Rattle.irtext_names.proofs.Entries.{entry_mentioned, entry_stays_mentioned, entry_here, entry_defined, entry_stays_defined, entry_innermost, waits_with}
use Rattle.irtext_names.proofs.Loses.{Loses}

module _ {O B T V : Type 0} (of : V → Defined) where
  -- names still match the graph if nothing that one of them refers to is lost
  pub tied_kept : {g k : GraphView (Option O) B T} {o : Option Defined} (ss : List (Scope V)) → Tied of ss g → Loses g k o → ((v : V) → IsDefined g (of v) → o ≡ Some (of v) → ⊥) → Tied of ss k
  tied_kept ss t l apart = record {
    there = λ i n e f. let d = t.there i n e f in l.there (of (value_of e)) d (apart (value_of e) d);
    held = λ i n h f. let p = t.held i n h f in l.placeholders (of h) p (apart h p.alive);
    alone = t.alone;
  }

  pub waiting_kept : {g k : GraphView (Option O) B T} {o : Option Defined} (m : ℕ) (own : List V) (ss : List (Scope V)) → Tied of ss g → Waiting m own of ss g → Loses g k o → ((v : V) → IsDefined g (of v) → o ≡ Some (of v) → ⊥) → Waiting m own of ss k
  waiting_kept m own ss t w l apart = record {
    late = λ i n h f. let p = t.held i n h f in l.ages m (of h) (l.there (of h) p.alive (apart h p.alive)) ∙ w.late i n h f;
    known = λ v d b new not. w.known v (l.were (of v) d) (l.were_blank (of v) d b) (sym (l.ages m (of v) d) ∙ new) not;
  }

  -- ---- something else was made
  pub tied_gained : {g k : GraphView (Option O) B T} {d : Defined} (ss : List (Scope V)) → Tied of ss g → Loses k g (Some d) → Tied of ss k
  tied_gained ss t l = record {
    there = λ i n e f. l.were (of (value_of e)) (t.there i n e f);
    held = λ i n h f. l.were_placeholders (of h) (t.held i n h f);
    alone = t.alone;
  }

  pub waiting_gained : {g k : GraphView (Option O) B T} {d : Defined} (m : ℕ) (own : List V) (ss : List (Scope V)) → Tied of ss g → Waiting m own of ss g → Loses k g (Some d) → ((v : V) → Some d ≡ Some (of v) → ⊥) → Waiting m own of ss k
  waiting_gained m own ss t w l apart = record {
    late = λ i n h f. let p = t.held i n h f in sym (l.ages m (of h) p.alive) ∙ w.late i n h f;
    known = λ v d b new not. let was = l.there (of v) d (apart v) in w.known v was (l.blanks (of v) was b) (l.ages m (of v) was ∙ new) not;
  }

  -- ---- a placeholder was made for a name that is new
  module _ (same : (a b : V) → of a ≡ of b → a ≡ b) {g k : GraphView (Option O) B T} (n : ℕ) (h : V) (ss : List (Scope V)) (l : Loses k g (Some (of h))) (scope : is_open ss ≡ true) (new : find n (innermost ss) ≡ None) where
    not_there : (v : V) → v ≡ h → IsDefined g (of v) → ⊥
    not_there v e d = l.lost (of v) d (ap (λ w. Some (of w)) (sym e))

    pub tied_made : Tied of ss g → IsPlaceholder k (of h) → Tied of (in_innermost (mentioned n (Pending h)) ss) k
    tied_made t p = record {
      there = λ i m e f. elim (entry_mentioned i m n (Pending h) e ss f) [
        | inl old ↦ l.were (of (value_of e)) (t.there i m e old)
        | inr (a, b, c) ↦ rw c p.alive
      ];
      held = λ i m w f. elim (entry_mentioned i m n (Pending h) (Pending w) ss f) [
        | inl old ↦ l.were_placeholders (of w) (t.held i m w old)
        | inr (a, b, c) ↦ let s : w ≡ h = cc in rw s p
      ];
      alone = λ i m j q e w f f' s. elim (entry_mentioned i m n (Pending h) e ss f) [
        | inl old ↦ elim (entry_mentioned j q n (Pending h) (Pending w) ss f') [
          | inl old' ↦ t.alone i m j q e w old old' s
          | inr (a, b, c) ↦ let same : w ≡ h = cc in absurd (not_there (value_of e) (s ∙ same) (t.there i m e old))
        ]
        | inr (a, b, c) ↦ elim (entry_mentioned j q n (Pending h) (Pending w) ss f') [
          | inl old' ↦ absurd (not_there w (sym s ∙ ap value_of c) (t.held j q w old').alive)
          | inr (a', b', c') ↦ (a ∙ sym a', b ∙ sym b')
        ]
      ];
    }

    pub waiting_made : (m : ℕ) (own : List V) → Tied of ss g → Waiting m own of ss g → IsPlaceholder k (of h) → IsNew m k (owner (of h)) → Waiting m own of (in_innermost (mentioned n (Pending h)) ss) k
    waiting_made m own t w p late = record {
      late = λ i q x f. elim (entry_mentioned i q n (Pending h) (Pending x) ss f) [
        | inl old ↦ let s = t.held i q x old in sym (l.ages m (of x) s.alive) ∙ w.late i q x old
        | inr (a, b, c) ↦ let s : x ≡ h = cc in rw s late
      ];
      known = λ v d b is not. elim (same_or_other defined_tells (of v) (of h)) [
        | inl e ↦ (0, n, rw (same v h e) (entry_here n (Pending h) ss scope new))
        | inr ne ↦
            let was = l.there (of v) d (λ e. ne (sym (some_eq e))) in
            let r = w.known v was (l.blanks (of v) was b) (l.ages m (of v) was ∙ is) not in
            (r.0, r.1, entry_stays_mentioned r.0 r.1 n (Pending h) (Pending v) ss r.2)
      ];
    }

  -- ---- a name got its definition, and the placeholder that it had is lost
  module _ (same : (a b : V) → of a ≡ of b → a ≡ b) {g k : GraphView (Option O) B T} (n : ℕ) (v : V) (ss : List (Scope V)) (o : Option Defined) (is : o ≡ option_map of (placeholder_of (find n (innermost ss)))) (l : Loses g k o) where
    placeholder_at : (q : Option V) (x : V) → option_map of q ≡ Some (of x) → q ≡ Some x
    placeholder_at None x e = absurd (cc)
    placeholder_at (Some y) x e = ap (λ z. Some z) (same y x (some_eq e))

    -- what is lost waited for the definition
    pub waited : (x : V) → o ≡ Some (of x) → entry_at 0 n ss ≡ Some (Pending x)
    waited x e = entry_innermost n ss ∙ waits_with (find n (innermost ss)) x (placeholder_at (placeholder_of (find n (innermost ss))) x (sym is ∙ e))

    pub not_lost : Tied of ss g → (i m : ℕ) (e : Entry V) → entry_at i m ss ≡ Some e → (i ≡ 0 → m ≡ n → ⊥) → o ≡ Some (of (value_of e)) → ⊥
    not_lost t i m e f ne lost = let a = t.alone i m 0 n e (value_of e) f (waited (value_of e) lost) refl in ne a.0 a.1

    pub tied_defined : Tied of ss g → IsDefined g (of v) → IsNoPlaceholder ss v → Tied of (in_innermost (defined n v) ss) k
    tied_defined t d none = record {
      there = λ i m e f. elim (entry_defined i m n v e ss f) [
        | inl (a, b, c) ↦ rw c (l.there (of v) d (λ lost. none 0 n (waited v lost)))
        | inr (old, ne) ↦ l.there (of (value_of e)) (t.there i m e old) (not_lost t i m e old ne)
      ];
      held = λ i m h f. elim (entry_defined i m n v (Pending h) ss f) [
        | inl (a, b, c) ↦ absurd (cc)
        | inr (old, ne) ↦ l.placeholders (of h) (t.held i m h old) (not_lost t i m (Pending h) old ne)
      ];
      alone = λ i m j q e h f f' s. elim (entry_defined j q n v (Pending h) ss f') [
        | inl (a, b, c) ↦ absurd (cc)
        | inr (old', ne') ↦ elim (entry_defined i m n v e ss f) [
          | inl (a, b, c) ↦ let here : v ≡ h = sym (ap value_of c) ∙ s in absurd (none j q (rw here old'))
          | inr (old, ne) ↦ t.alone i m j q e h old old' s
        ]
      ];
    }

    pub waiting_defined : (m : ℕ) (own : List V) → Tied of ss g → Waiting m own of ss g → Waiting m own of (in_innermost (defined n v) ss) k
    waiting_defined m own t w = record {
      late = λ i q h f. elim (entry_defined i q n v (Pending h) ss f) [
        | inl (a, b, c) ↦ absurd (cc)
        | inr (old, ne) ↦ let p = t.held i q h old in l.ages m (of h) (l.there (of h) p.alive (not_lost t i q (Pending h) old ne)) ∙ w.late i q h old
      ];
      known = λ x d b new not.
          let r = w.known x (l.were (of x) d) (l.were_blank (of x) d b) (sym (l.ages m (of x) d) ∙ new) not in
          (r.0, r.1, entry_stays_defined r.0 r.1 n v (Pending x) ss r.2 (λ a c. l.lost (of x) d (lost x (here r.0 r.1 x a c r.2))));
    }
      where
        here : (i q : ℕ) (x : V) → i ≡ 0 → q ≡ n → entry_at i q ss ≡ Some (Pending x) → find n (innermost ss) ≡ Some (Pending x)
        here i q x a c f = sym (entry_innermost n ss) ∙ ap (λ z. entry_at z n ss) (sym a) ∙ ap (λ z. entry_at i z ss) (sym c) ∙ f

        lost : (x : V) → find n (innermost ss) ≡ Some (Pending x) → o ≡ Some (of x)
        lost x f = is ∙ ap (λ e. option_map of (placeholder_of e)) f
