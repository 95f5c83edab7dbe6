-- A text parses as one root with its section, and one rest.
use Rattle.std.specs.Prelude.{◌≡◌, Bool, true, false, List, [], ◌∷◌, ◌++◌, map, codes, refl, Option, Some, None}
use Rattle.std.proofs.Common.{sym, ◌∙◌, ap, ap₂, subst, true≢false}
use Rattle.irtext_base.specs.Text.{Text, begins, after_space, begins_word}
use Rattle.irtext_base.specs.Reading.{◌▹◌, the, literal, separated, repeated}
use Rattle.irtext_base.specs.Own.{Language, Lawful, Verdict}
use Rattle.irtext_base.proofs.Characters.{word_tight}
use Rattle.irtext_grammar.specs.Grammar.Tree.{Name, Mark, Attribute, Tree}
use Rattle.irtext_grammar.specs.Grammar.Reads as reads
use Rattle.irtext_grammar.specs.Grammar.Section as read
use Rattle.irtext_grammar.specs.Grammar.Section.{Item, direct, reference, Entry, of_item, of_once}
use Rattle.irtext_grammar.specs.Grammar.Marked.{marked, section_if, reads_root}
use Rattle.irtext_grammar.proofs.Grammar.Unique.{Sure, agree_map, agree_then, one_literal, clash, sure_separated, agree_ends, attribute_begins, sure_name, sure_mark, same_found, name_begins, sure_attribute, agree_white, one_tree}

module _ {P T A X : Type 0} (L : Language P T A) (types : Lawful T L.types) (owns : Lawful A L.owns) (one_place : (p q : P) (t : Text) → L.at p t → L.at q t → p ≡ q) (only : (t u : Text) → L.left_out t u → literal (codes "{..}") t u)
    (location_at : Text → Verdict X) where
  sure_location : Sure (read.location L location_at)
  sure_location x y t u v a b = same_found L types owns one_place only x y u v (sym a ∙ b)

  sure_located : Sure (read.located L location_at)
  sure_located None None = agree_map (λ _. refl) (agree_ends (the 64))
  sure_located None (Some y) = λ t u v a b. clash (the 64) 64 t (codes "[" ++ b.0) a.0 b.1 refl
  sure_located (Some x) None = λ t u v b a. clash (the 64) 64 t (codes "[" ++ b.0) a.0 b.1 refl
  sure_located (Some x) (Some y) = agree_map (λ p. ap Some p.1.0) (agree_then (one_literal (codes "@[")) λ _. agree_then (sure_location x y) λ _. agree_then (one_literal (codes "]")) λ _. one_literal (codes ","))

  -- an attribute begins with no `!`
  not_both : (a : Attribute A) (m : Mark P) (t u v : Text) → reads.attribute L a t u → reads.mark L m t v → ⊥
  not_both a m t u v r s = attribute_begins L owns a t u r (ap (begins begins_word) s.1.1)

  sure_item : Sure (read.item L location_at)
  sure_item (direct a) (direct b) = agree_map (ap direct) (sure_attribute L types owns one_place only a b)
  sure_item (direct a) (reference m) = λ t u v r s. absurd (not_both a m t u v r s)
  sure_item (reference m) (direct a) = λ t u v s r. absurd (not_both a m t v u r s)
  sure_item (reference m) (reference n) = agree_map (ap reference) (sure_mark L types owns one_place only m n)

  sure_pair : Sure (read.pair L location_at)
  sure_pair e f = agree_map (λ p. λ i. (p.0 i, p.1.1 i)) (agree_then (sure_name L types owns one_place only e.0 f.0) λ _. agree_then (one_literal (codes "=")) λ _. sure_item e.1 f.1)

  pair_begins : (e : Name P × Item P A) (t u : Text) → read.pair L location_at e t u → reads.no_word t → ⊥
  pair_begins e t u (m, a, b) = name_begins L types owns one_place only e.0 t m a

  abbrev pairs : List (Name P × Item P A) → Text → Text → Type 0
  pairs es = separated 44 reads.no_word (map (read.pair L location_at) es)

  -- what follows `=` in the entry of an item does not begin as an attribute does
  no_attribute : (x : Option X) (es : List (Name P × Item P A)) (a : Attribute A) (t u v : Text) → (read.located L location_at x ▹ literal (codes "[") ▹ pairs es ▹ literal (codes "]")) t u → reads.attribute L a t v → ⊥
  no_attribute (Some x) es a t u v (m, r, s) k = attribute_begins L owns a t v k (ap (begins begins_word) r.1)
  no_attribute None es a t u v (m, r, (n, e, s)) k = go (begins begins_word t) refl
    where
      go : (b : Bool) → begins begins_word t ≡ b → ⊥
      go true h = true≢false (sym h ∙ ap (begins begins_word) (sym (word_tight t h) ∙ (ap after_space (sym r.1) ∙ e)))
      go false h = attribute_begins L owns a t v k h

  sure_entry : Sure (read.entry L location_at)
  sure_entry (of_item m x es) (of_item n y fs) = agree_map (λ p. λ i. of_item (p.0 i) (p.1.1.0 i) (p.1.1.1.1.0 i))
      (agree_then (sure_mark L types owns one_place only m n) λ _. agree_then (one_literal (codes "=")) λ _. agree_then (sure_located x y) λ _. agree_then (one_literal (codes "[")) λ _.
      agree_then (sure_separated (read.pair L location_at) sure_pair 44 refl reads.no_word pair_begins es fs) λ _. one_literal (codes "]"))
  sure_entry (of_item m x es) (of_once n a) = agree_map (λ p. absurd p.1.1) (agree_then (sure_mark L types owns one_place only m n) λ _. agree_then (one_literal (codes "=")) λ _. (λ t u v r k. absurd (no_attribute x es a t u v r k)))
  sure_entry (of_once n a) (of_item m x es) = agree_map (λ p. absurd p.1.1) (agree_then (sure_mark L types owns one_place only n m) λ _. agree_then (one_literal (codes "=")) λ _. (λ t u v k r. absurd (no_attribute x es a t v u r k)))
  sure_entry (of_once m a) (of_once n b) = agree_map (λ p. λ i. of_once (p.0 i) (p.1.1 i)) (agree_then (sure_mark L types owns one_place only m n) λ _. agree_then (one_literal (codes "=")) λ _. sure_attribute L types owns one_place only a b)

  entry_begins : (e : Entry P A X) (t u : Text) → read.entry L location_at e t u → begins (the 33) t ≡ false → ⊥
  entry_begins (of_item m x es) t u (n, a, b) e = clash (the 33) 33 t a.1.0 e a.1.1 refl
  entry_begins (of_once m x) t u (n, a, b) e = clash (the 33) 33 t a.1.0 e a.1.1 refl

  sure_entries : Sure (λ es. repeated (the 33) (map (read.entry L location_at) es))
  sure_entries [] [] t u v a b = (refl, a.1 ∙ sym b.1)
  sure_entries [] (f ∷ fs) t u v a (m, b, c) = absurd (entry_begins f t m b a.0)
  sure_entries (e ∷ es) [] t u v (m, b, c) a = absurd (entry_begins e t m b a.0)
  sure_entries (e ∷ es) (f ∷ fs) t u v a b = agree_map (λ p. ap₂ ◌∷◌ p.0 p.1) (agree_then (sure_entry e f) λ _. sure_entries es fs) t u v a b

  sure_section : Sure (read.section L location_at)
  sure_section es fs = agree_white L types owns one_place only (agree_map (λ p. p.1) (agree_then (one_literal (codes "outlined_attributes:")) λ _. sure_entries es fs))

  sure_section_if : (b : Bool) → Sure (section_if L location_at b)
  sure_section_if true es fs t u v a b = sure_section es fs t u v a b
  sure_section_if false [] [] t u v a b = (refl, a ∙ sym b)
  sure_section_if false [] (f ∷ fs) t u v a b = absurd b
  sure_section_if false (e ∷ es) [] t u v a b = absurd a
  sure_section_if false (e ∷ es) (f ∷ fs) t u v a b = absurd a

  -- a text parses as one root with one section, and leaves one rest
  pub one_root : (x y : Tree P T A) (es fs : List (Entry P A X)) (t u v : Text) → reads_root L location_at x es t u → reads_root L location_at y fs t v → (x ≡ y) × (es ≡ fs) × (u ≡ v)
  one_root x y es fs t u v (m, a, b) (n, c, d) =
      let r = one_tree L types owns one_place only x y t m n a c in
      let s = sure_section_if (marked x) es fs m u v b (subst (λ z. section_if L location_at z fs m v) (ap marked (sym r.0)) (subst (λ z. section_if L location_at (marked y) fs z v) (sym r.1) d)) in
      (r.0, s.0, s.1)
