-- The acts of a printed section do not fail: each entry's index is a mark and new, and each reference is found.
use Rattle.std.proofs.Common.{◌≡◌, ℕ, suc, ◌+◌, ◌<◌, Bool, true, false, cond, not, ◌&&◌, List, [], ◌∷◌, ◌++◌, map, length, Some, refl, sym, ap, ap₂, ◌∙◌, subst, append-nil, arith}
use Rattle.std.specs.Prelude.{⊤, flat_map, is_some}
use Rattle.irtext_base.specs.Text.{Text}
use Rattle.irtext_base.specs.Format.{same_text, has}
use Rattle.irtext_grammar.specs.Grammar.Tree.{Name, Attribute, given_names, ident, own}
use Rattle.irtext_grammar.specs.Spelling.Spellable.{Each}
use Rattle.irtext_grammar.specs.Graphs.Graph as graph
use Rattle.irtext_grammar.specs.Graphs.Graph.{Printing, shared, place_in}
use Rattle.irtext_grammar.specs.Grammar.Section.{Item, Entry, direct, reference}
use Rattle.irtext_grammar.specs.Names.Script.{Failure, Act, Script, done, does, does_all, claim, entry, UnknownIndex, UnknownPrintOnce, ReservedKey}
use Rattle.irtext_grammar.specs.Names.Scopes.{Scopes, is_among, failures}
use Rattle.irtext_grammar.specs.Names.Acts.{keeps_if, item_acts, shared_attribute, entry_acts, reference_acts, late_acts, section_acts, Rule}
use Rattle.irtext_grammar.specs.Spelling.SectionEntries.{numbers, mark_of, written_pair, written_items, written_once, written_section}
use Rattle.irtext_grammar.proofs.Lists.Numbers.{numbers_both, among_numbers, beyond_numbers}
use Rattle.irtext_grammar.proofs.Sections.Once.{Mention, Mentions, once_written, each_shared}
use Rattle.irtext_grammar.proofs.Graphs.WrittenScript.{does_both}

-- the marks are 0 to below m, and the entries so far those to below n
pub record Entered (m n : ℕ) (s : Scopes Text) : Type 0 where
  pub marks : s.marks ≡ numbers 0 m
  pub entries : s.entries ≡ numbers 0 n

-- a script that does not fail there
pub record Clean (m n : ℕ) (k : Script Text ⊤) : Type 0 where
  pub nothing : (s : Scopes Text) → Entered m n s → failures same_text s k ≡ []

clean_claim : {m n : ℕ} (b : Bool) (x : Failure Text ⊤) (k : Script Text ⊤) → b ≡ true → Clean m n k → Clean m n (does (claim b x) k)
clean_claim b x k e c = record { nothing = λ s h. ap₂ ◌++◌ (ap (λ b. cond b [] (x ∷ [])) e) (c.nothing _ (record { marks = append-nil s.marks ∙ h.marks; entries = append-nil s.entries ∙ h.entries })) }

clean_entry : {m n : ℕ} (k : Script Text ⊤) → n < m → Clean m (suc n) k → Clean m n (does (entry n tt) k)
clean_entry {m} {n} k l c = record {
  nothing = λ s h.
      let there : is_among n s.marks ≡ true = ap (is_among n) h.marks ∙ among_numbers n 0 m (omega arith) (omega arith) in
      let new : is_among n s.entries ≡ false = ap (is_among n) h.entries ∙ beyond_numbers n 0 n (omega arith) in
      let unit : ⊤ = tt in
      let e : 0 + n ≡ n = omega arith in
      let f : n + 1 ≡ suc n = omega arith in
      ap₂ ◌++◌ (ap₂ (λ a b. cond (a && not b) [] (record { cause = UnknownIndex n; at = Some unit } ∷ [])) there new)
      (c.nothing _ (record { marks = append-nil s.marks ∙ h.marks; entries = ap (λ z. z ++ (n ∷ [])) h.entries ∙ (ap (λ z. numbers 0 n ++ numbers z 1) (sym e) ∙ (numbers_both 0 n 1 ∙ ap (numbers 0) f)) }));
}

-- the attribute is allowed under its key
abbrev pub Keeps : {A : Type 0} → Rule A → Text × Attribute A → Type 0
Keeps rule e = rule e.0 e.1 ≡ true

module _ {T A : Type 0} (C : Printing T A) (rules : ℕ → Rule A) where
  -- what the entries give, numbered from n on, is allowed there
  abbrev pub Ruled : ℕ → List (graph.Entry C) → Type 0
  Ruled n [] = ⊤
  Ruled n (e ∷ es) = Each (Keeps (rules n)) e.attributes × Ruled (suc n) es

module _ {T A : Type 0} (C : Printing T A) (sound : (a b : A) → C.same_own a b ≡ true → a ≡ b) (reflexive : (a : A) → C.same_own a a ≡ true) (rules : ℕ → Rule A) (all : List (graph.Entry C)) where
  abbrev W : List (Entry ⊤ A Text)
  W = written_section C all

  abbrev pair : Text × Attribute A → Name ⊤ × Item ⊤ A
  pair = written_pair C (length all) (shared C all)

  clean_item : {m n : ℕ} (rule : Rule A) (k : Text) (a : Attribute A) (x : Script Text ⊤) → rule k a ≡ true → Clean m n x → Clean m n (does_all (item_acts rule (pair (k, a))) x)
  clean_item rule k (given_names ns) x e c = clean_claim _ _ x e c
  clean_item rule k (ident n) x e c = clean_claim _ _ x e c
  clean_item {m} {n} rule k (own a) x e c = go (C.own_once a)
    where
      go : (b : Bool) → Clean m n (does_all (item_acts rule (record { place = tt; text = k }, cond b (reference (mark_of (length all + place_in C (shared C all) a))) (direct (own a)))) x)
      go true = c
      go false = clean_claim _ _ x e c

  clean_items : {m n : ℕ} (rule : Rule A) (es : List (Text × Attribute A)) (x : Script Text ⊤) → Each (Keeps rule) es → Clean m n x → Clean m n (does_all (flat_map (item_acts rule) (map pair es)) x)
  clean_items rule [] x h c = c
  clean_items {m} {n} rule (e ∷ es) x h c = subst (Clean m n) (sym (does_both C (item_acts rule (pair e)) (flat_map (item_acts rule) (map pair es)) x)) (clean_item rule e.0 e.1 _ h.0 (clean_items rule es x h.1 c))

  clean_reference : {m n : ℕ} (rule : Rule A) (k : Text) (a : Attribute A) (x : Script Text ⊤) → rule k a ≡ true → Mention C sound (shared C all) a → Clean m n x → Clean m n (does_all (reference_acts rule W (pair (k, a))) x)
  clean_reference rule k (given_names ns) x e h c = c
  clean_reference rule k (ident n) x e h c = c
  clean_reference {m} {n} rule k (own a) x e h c = go (C.own_once a) h
    where
      go : (b : Bool) → (b ≡ true → has C.same_own a (shared C all) ≡ true) → Clean m n (does_all (reference_acts rule W (record { place = tt; text = k }, cond b (reference (mark_of (length all + place_in C (shared C all) a))) (direct (own a)))) x)
      go false h = c
      go true h =
          let i = length all + place_in C (shared C all) a in
          let unit : ⊤ = tt in
          let q = once_written C sound all a (h refl) in
          let late : Act Text ⊤ = claim (keeps_if rule k (shared_attribute i W)) (record { cause = ReservedKey k; at = Some unit }) in
          clean_claim (is_some (shared_attribute i W)) (record { cause = UnknownPrintOnce i; at = Some unit }) (does late x) (ap is_some q) (clean_claim (keeps_if rule k (shared_attribute i W)) (record { cause = ReservedKey k; at = Some unit }) x (ap (keeps_if rule k) q ∙ e) c)

  clean_references : {m n : ℕ} (rule : Rule A) (es : List (Text × Attribute A)) (x : Script Text ⊤) → Each (Keeps rule) es → Each (λ e. Mention C sound (shared C all) e.1) es → Clean m n x → Clean m n (does_all (flat_map (reference_acts rule W) (map pair es)) x)
  clean_references rule [] x h q c = c
  clean_references {m} {n} rule (e ∷ es) x h q c = subst (Clean m n) (sym (does_both C (reference_acts rule W (pair e)) (flat_map (reference_acts rule W) (map pair es)) x)) (clean_reference rule e.0 e.1 _ h.0 q.0 (clean_references rule es x h.1 q.1 c))

  clean_onces : {m n : ℕ} (i : ℕ) (rest : List A) (x : Script Text ⊤) → Clean m n x → Clean m n (does_all (flat_map (entry_acts rules) (written_once i rest)) x)
  clean_onces i [] x c = c
  clean_onces i (a ∷ rest) x c = clean_onces (suc i) rest x c

  clean_late_onces : {m n : ℕ} (i : ℕ) (rest : List A) (x : Script Text ⊤) → Clean m n x → Clean m n (does_all (flat_map (late_acts rules W) (written_once i rest)) x)
  clean_late_onces i [] x c = c
  clean_late_onces i (a ∷ rest) x c = clean_late_onces (suc i) rest x c

  clean_entries : (m n : ℕ) (es : List (graph.Entry C)) (last : List (Entry ⊤ A Text)) (x : Script Text ⊤) → n + length es ≡ m → Ruled C rules n es → Clean m m (does_all (flat_map (entry_acts rules) last) x)
      → Clean m n (does_all (flat_map (entry_acts rules) (written_items C (length all) (shared C all) n es ++ last)) x)
  clean_entries m n [] last x l h c = let e : n ≡ m = omega arith in subst (λ z. Clean m z (does_all (flat_map (entry_acts rules) last) x)) (sym e) c
  clean_entries m n (e ∷ es) last x l h c =
      let rest = flat_map (entry_acts rules) (written_items C (length all) (shared C all) (suc n) es ++ last) in
      clean_entry _ (omega arith) (subst (Clean m (suc n)) (sym (does_both C (flat_map (item_acts (rules n)) (map pair e.attributes)) rest x)) (clean_items (rules n) e.attributes _ h.0 (clean_entries m (suc n) es last x (omega arith) h.1 c)))

  clean_lates : {m k : ℕ} (n : ℕ) (es : List (graph.Entry C)) (last : List (Entry ⊤ A Text)) (x : Script Text ⊤) → Ruled C rules n es → Each (Mentions C sound (shared C all)) es → Clean m k (does_all (flat_map (late_acts rules W) last) x)
      → Clean m k (does_all (flat_map (late_acts rules W) (written_items C (length all) (shared C all) n es ++ last)) x)
  clean_lates n [] last x h q c = c
  clean_lates {m} {k} n (e ∷ es) last x h q c =
      let rest = flat_map (late_acts rules W) (written_items C (length all) (shared C all) (suc n) es ++ last) in
      subst (Clean m k) (sym (does_both C (flat_map (reference_acts (rules n) W) (map pair e.attributes)) rest x)) (clean_references (rules n) e.attributes _ h.0 q.0 (clean_lates (suc n) es last x h.1 q.1 c))

  -- the whole section's acts, after as many marks as it has items
  pub section_clean : Ruled C rules 0 all → Clean (length all) 0 (does_all (section_acts rules W) done)
  section_clean h =
      let once = shared C all in
      let m = length all in
      let lates = clean_lates {m = m} {k = m} 0 all (written_once m once) done h (each_shared C sound reflexive all) (clean_late_onces m once done (record { nothing = λ s e. refl })) in
      subst (Clean m 0) (sym (does_both C (flat_map (entry_acts rules) W) (flat_map (late_acts rules W) W) done))
      (clean_entries m 0 all (written_once m once) _ (omega arith) h (clean_onces m once _ lates))
