-- What is wrong with a section, entry by entry, and then reference by reference.
use Rattle.std.proofs.Common.{◌≡◌, ◌∙◌, ℕ, cond, not, ◌&&◌, Option, Some, None, List, [], ◌∷◌, ◌++◌, refl, sym, ap, append_assoc, append-nil}
use Rattle.std.specs.Prelude.{flat_map, ⊤}
use Rattle.irtext_base.specs.Text.{Text}
use Rattle.irtext_base.specs.Format.{same_text}
use Rattle.irtext_grammar.specs.Grammar.Tree.{Name, Mark}
use Rattle.irtext_grammar.specs.Grammar.Section.{Item, direct, reference, Entry, of_item, of_once}
use Rattle.irtext_grammar.specs.Names.Script.{Act, use_value, use_label, define_value, define_label, mark, entry, claim, Script, does_all, done, Failure, UnknownIndex}
use Rattle.irtext_grammar.specs.Names.Scopes.{Fact, Scopes, ◌⊳◌, nothing, and_then, is_among, no_scope, failures}
use Rattle.irtext_grammar.specs.Names.Acts.{Rule, item_acts, entry_acts, reference_acts, late_acts}
use Rattle.irtext_grammar.specs.Names.Resolves.{indices}
use Rattle.irtext_grammar.specs.Spelling.Spellable.{Each}
use Rattle.irtext_grammar.specs.Entries.{wrong_references}
use Rattle.irtext_grammar.specs.Agrees.{after_root, refused}

-- ---- claims
-- the act is a claim
abbrev pub IsClaim : Act Text ℕ → Type 0
IsClaim (claim b x) = ⊤
IsClaim _ = ⊥

-- what an act claims wrongly
abbrev pub wrong : Act Text ℕ → List (Failure Text ℕ)
wrong (claim b x) = cond b [] (x ∷ [])
wrong _ = []

-- what acts claim wrongly, one after another
abbrev pub wrongs : List (Act Text ℕ) → List (Failure Text ℕ)
wrongs acts = flat_map wrong acts

and_nothing : (o : Option (List (Fact Text))) → and_then o [] ≡ o
and_nothing None = refl
and_nothing (Some fs) = ap Some (append-nil fs)

-- scopes without new facts
unsaid : (s : Scopes Text) → s ⊳ nothing ≡ s
unsaid s = λ i. record { values = and_nothing s.values i; labels = and_nothing s.labels i; marks = append-nil s.marks i; entries = append-nil s.entries i }

-- the failures of claims are the same in all scopes
pub claims_fail : (s : Scopes Text) (acts : List (Act Text ℕ)) (k : Script Text ℕ) → Each IsClaim acts → failures same_text s (does_all acts k) ≡ wrongs acts ++ failures same_text s k
claims_fail s [] k h = refl
claims_fail s (claim b x ∷ acts) k h =
    ap (λ z. cond b [] (x ∷ []) ++ z) (ap (λ z. failures same_text z (does_all acts k)) (unsaid s) ∙ claims_fail s acts k h.1)
    ∙ sym (append_assoc (cond b [] (x ∷ [])) (wrongs acts) (failures same_text s k))
claims_fail s (use_value w u ∷ acts) k h = absurd h.0
claims_fail s (use_label w u ∷ acts) k h = absurd h.0
claims_fail s (define_value w p ∷ acts) k h = absurd h.0
claims_fail s (define_label w p ∷ acts) k h = absurd h.0
claims_fail s (mark i p ∷ acts) k h = absurd h.0
claims_fail s (entry i p ∷ acts) k h = absurd h.0

-- acts, and others after them
does_both : (xs ys : List (Act Text ℕ)) (k : Script Text ℕ) → does_all (xs ++ ys) k ≡ does_all xs (does_all ys k)
does_both [] ys k = refl
does_both (x ∷ xs) ys k = ap (λ z. does_all (x ∷ []) z) (does_both xs ys k)

each_claims : (xs ys : List (Act Text ℕ)) → Each IsClaim xs → Each IsClaim ys → Each IsClaim (xs ++ ys)
each_claims [] ys h k = k
each_claims (x ∷ xs) ys h k = (h.0, each_claims xs ys h.1 k)

-- what is wrong with an index
abbrev pub wrong_index : List ℕ → List ℕ → Mark ℕ → List (Failure Text ℕ)
wrong_index marks before m = cond (is_among m.index marks && not (is_among m.index before)) [] (record { cause = UnknownIndex m.index; at = Some m.place } ∷ [])

module _ {A : Type 0} where
  -- ---- an item's entry
  item_claims : (rule : Rule A) (ps : List (Name ℕ × Item ℕ A)) → Each IsClaim (flat_map (item_acts rule) ps)
  item_claims rule [] = tt
  item_claims rule ((n, direct a) ∷ ps) = (tt, item_claims rule ps)
  item_claims rule ((n, reference m) ∷ ps) = item_claims rule ps

  -- the failures of pairs alone, without those of their references
  abbrev pub wrong_pairs : Rule A → List (Name ℕ × Item ℕ A) → List (Failure Text ℕ)
  wrong_pairs rule ps = wrongs (flat_map (item_acts rule) ps)

module _ {A X : Type 0} where
  module _ (marks : List ℕ) (rules : ℕ → Rule A) where
    -- the failures of entries alone, without those of their references, after entries with these indices
    abbrev pub wrong_entries : List ℕ → List (Entry ℕ A X) → List (Failure Text ℕ)
    wrong_entries before [] = []
    wrong_entries before (of_item m x ps ∷ es) = wrong_index marks before m ++ (wrong_pairs (rules m.index) ps ++ wrong_entries (before ++ m.index ∷ []) es)
    wrong_entries before (of_once m a ∷ es) = wrong_entries before es

    entries_fail : (before : List ℕ) (es : List (Entry ℕ A X)) (k : Script Text ℕ)
        → failures same_text (after_root marks before) (does_all (flat_map (entry_acts rules) es) k) ≡ wrong_entries before es ++ failures same_text (after_root marks (before ++ indices es)) k
    entries_fail before [] k = ap (λ z. failures same_text (after_root marks z) k) (sym (append-nil before))
    entries_fail before (of_once m a ∷ es) k = entries_fail before es k
    entries_fail before (of_item m x ps ∷ es) k =
        let acts = flat_map (item_acts (rules m.index)) ps in
        let more = flat_map (entry_acts rules) es in
        let next = before ++ m.index ∷ [] in
        let last = failures same_text (after_root marks (before ++ (m.index ∷ indices es))) k in
        let scopes : (after_root marks before ⊳ record nothing { entries = m.index ∷ [] }) ≡ after_root marks next = ap (λ z. after_root z next) (append-nil marks) in
        let inner : failures same_text (after_root marks next) (does_all (acts ++ more) k) ≡ wrong_pairs (rules m.index) ps ++ (wrong_entries next es ++ last) =
        ap (failures same_text (after_root marks next)) (does_both acts more k)
        ∙ (claims_fail (after_root marks next) acts (does_all more k) (item_claims (rules m.index) ps)
        ∙ ap (λ z. wrong_pairs (rules m.index) ps ++ z) (entries_fail next es k ∙ ap (λ z. wrong_entries next es ++ failures same_text (after_root marks z) k) (append_assoc before (m.index ∷ []) (indices es)))) in
        ap (λ z. wrong_index marks before m ++ z) (ap (λ s. failures same_text s (does_all (acts ++ more) k)) scopes ∙ (inner ∙ sym (append_assoc (wrong_pairs (rules m.index) ps) (wrong_entries next es) last)))
        ∙ sym (append_assoc (wrong_index marks before m) (wrong_pairs (rules m.index) ps ++ wrong_entries next es) last)

  -- ---- references
  late_item_claims : (rule : Rule A) (all : List (Entry ℕ A X)) (ps : List (Name ℕ × Item ℕ A)) → Each IsClaim (flat_map (reference_acts rule all) ps)
  late_item_claims rule all [] = tt
  late_item_claims rule all ((n, direct a) ∷ ps) = late_item_claims rule all ps
  late_item_claims rule all ((n, reference m) ∷ ps) = (tt, (tt, late_item_claims rule all ps))

  pub late_claims : (rules : ℕ → Rule A) (all es : List (Entry ℕ A X)) → Each IsClaim (flat_map (late_acts rules all) es)
  late_claims rules all [] = tt
  late_claims rules all (of_once m a ∷ es) = late_claims rules all es
  late_claims rules all (of_item m x ps ∷ es) = each_claims (flat_map (reference_acts (rules m.index) all) ps) (flat_map (late_acts rules all) es) (late_item_claims (rules m.index) all ps) (late_claims rules all es)

  -- what is wrong with references is what they claim wrongly
  pub references_fail : (rules : ℕ → Rule A) (es : List (Entry ℕ A X)) → wrong_references rules es ≡ wrongs (flat_map (late_acts rules es) es)
  references_fail rules es = claims_fail no_scope (flat_map (late_acts rules es) es) done (late_claims rules es es) ∙ append-nil (wrongs (flat_map (late_acts rules es) es))

  -- The failures of a section: those of its entries alone, and then those of their references.
  pub refused_parts : (marks : List ℕ) (rules : ℕ → Rule A) (es : List (Entry ℕ A X)) → refused marks rules es ≡ wrong_entries marks rules [] es ++ wrong_references rules es
  refused_parts marks rules es =
      let late = flat_map (late_acts rules es) es in
      ap (failures same_text (after_root marks [])) (does_both (flat_map (entry_acts rules) es) late done)
      ∙ (entries_fail marks rules [] es (does_all late done)
      ∙ ap (λ z. wrong_entries marks rules [] es ++ z) (claims_fail (after_root marks (indices es)) late done (late_claims rules es es) ∙ (append-nil (wrongs late) ∙ sym (references_fail rules es))))
