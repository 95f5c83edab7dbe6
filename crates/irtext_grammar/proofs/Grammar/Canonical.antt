-- The canonical text is parsed back.
use Rattle.std.specs.Prelude.{◌≡◌, ℕ, false, List, [], ◌∷◌, ◌++◌, map, codes, refl, ⊤}
use Rattle.std.proofs.Common.{inr, ap, append_assoc}
use Rattle.std.specs.Char.{is_whitespace}
use Rattle.irtext_base.specs.Text.{Text, begins, after_space}
use Rattle.irtext_base.specs.Reading.{the}
use Rattle.irtext_grammar.specs.Grammar.Tree.{Name, Attribute, piece, word, operands, successors, dictionary, types, regions, parts_of, canonical}
use Rattle.irtext_base.specs.Own.{Language, Lawful, Unreserved}
use Rattle.irtext_grammar.specs.Spelling.Spellable.{Each, IsName, IsSpellableEntry}
use Rattle.irtext_grammar.specs.Grammar.Reads as reads
use Rattle.irtext_grammar.specs.Spelling.Spell as spell
use Rattle.irtext_grammar.specs.Spelling.Spell.{joined, comma}
use Rattle.irtext_base.proofs.Characters.{after_twice}
use Rattle.irtext_grammar.proofs.Grammar.Sequences.{Reaches, reaches_from, reaches_literal, back_list}
use Rattle.irtext_grammar.proofs.Grammar.Back.{reaches_part, back_name, back_target, back_type, back_dictionary, back_regions, Inner, BackRegions}

regroup : (n l d o r g f : Text) → (codes " (" ++ (n ++ (codes ") [" ++ (l ++ (codes "] " ++ (d ++ (codes ": <(" ++ (o ++ (codes ") -> (" ++ (r ++ (codes ")>" ++ g))))))))))) ++ f
    ≡ 32 ∷ 40 ∷ (n ++ (41 ∷ 32 ∷ 91 ∷ (l ++ (93 ∷ 32 ∷ (d ++ (58 ∷ 32 ∷ 60 ∷ 40 ∷ (o ++ (41 ∷ 32 ∷ 45 ∷ 62 ∷ 32 ∷ 40 ∷ (r ++ (41 ∷ 62 ∷ (g ++ f)))))))))))
regroup n l d o r g f = simp append_assoc

every : {X : Type 0} (xs : List X) → Each (λ x. ⊤) xs
every [] = tt
every (x ∷ xs) = (tt, every xs)

module _ {P T A : Type 0} (L : Language P T A) (types_law : Lawful T L.types) (owns : Lawful A L.owns) (unreserved : Unreserved A L.owns) (anywhere : (p : P) (t : Text) → L.at p t) (width : ℕ) where
  -- the canonical text of an operation is parsed back
  pub back_canonical : (n : ℕ) (ns ls : List (Name P)) (es : List (Name P × Attribute A)) (os rs : List T) (gs : Inner L types_law owns unreserved anywhere width) (f : Text)
      → Each IsName ns → Each IsName ls → Each IsSpellableEntry es → BackRegions L types_law owns unreserved anywhere width n gs → begins (the 123) (after_space f) ≡ false
      → Reaches (reads.parts L (parts_of (canonical ns ls es os rs)) (reads.region_readings L gs)) (spell.body L (canonical ns ls es os rs) (spell.region_texts L width n gs) ++ f) f
  back_canonical n ns ls es os rs gs f fn fl fe b stop =
      let R = reads.region_readings L gs in
      let N = joined comma (map (λ n. n.text) ns) in
      let S = joined comma (map (spell.label L) ls) in
      let D = spell.dictionary L es in
      let O = joined comma (map L.types.written os) in
      let V = joined comma (map L.types.written rs) in
      let G = joined [] (spell.region_texts L width n gs) in
      let e0 : Reaches (reads.parts L [] []) f f = record { left = after_space f; reading = refl; same = after_twice is_whitespace f } in
      let t1 : Text = G ++ f in
      let e1 : Reaches (reads.parts L (regions ∷ []) R) t1 f = reaches_part L types_law owns unreserved anywhere [] [] (back_regions L types_law owns unreserved anywhere width n gs f b stop) e0 in
      let t2 : Text = 62 ∷ t1 in
      let e2 : Reaches (reads.parts L (piece (word (codes ">")) ∷ regions ∷ []) R) t2 f = reaches_part L types_law owns unreserved anywhere (regions ∷ []) R (reaches_literal 62 [] t1 refl) e1 in
      let t3 : Text = 41 ∷ t2 in
      let e3 : Reaches (reads.parts L (piece (word (codes ")")) ∷ piece (word (codes ">")) ∷ regions ∷ []) R) t3 f = reaches_part L types_law owns unreserved anywhere (piece (word (codes ">")) ∷ regions ∷ []) R (reaches_literal 41 [] t2 refl) e2 in
      let t4 : Text = V ++ t3 in
      let e4 : Reaches (reads.parts L (piece (types rs) ∷ piece (word (codes ")")) ∷ piece (word (codes ">")) ∷ regions ∷ []) R) t4 f = reaches_part L types_law owns unreserved anywhere (piece (word (codes ")")) ∷ piece (word (codes ">")) ∷ regions ∷ []) R (back_list (reads.type L) L.types.written (λ x. ⊤) (λ x f g h. back_type L types_law owns unreserved anywhere x f h) (reads.no_type L) rs t3 (every rs) (inr refl) refl (types_law.misses (after_space t3) refl)) e3 in
      let t5 : Text = 40 ∷ t4 in
      let e5 : Reaches (reads.parts L (piece (word (codes "(")) ∷ piece (types rs) ∷ piece (word (codes ")")) ∷ piece (word (codes ">")) ∷ regions ∷ []) R) t5 f = reaches_part L types_law owns unreserved anywhere (piece (types rs) ∷ piece (word (codes ")")) ∷ piece (word (codes ">")) ∷ regions ∷ []) R (reaches_literal 40 [] t4 refl) e4 in
      let t6 : Text = 45 ∷ 62 ∷ 32 ∷ t5 in
      let e6 : Reaches (reads.parts L (piece (word (codes "->")) ∷ piece (word (codes "(")) ∷ piece (types rs) ∷ piece (word (codes ")")) ∷ piece (word (codes ">")) ∷ regions ∷ []) R) t6 f = reaches_part L types_law owns unreserved anywhere (piece (word (codes "(")) ∷ piece (types rs) ∷ piece (word (codes ")")) ∷ piece (word (codes ">")) ∷ regions ∷ []) R (reaches_literal 45 (62 ∷ []) (32 ∷ t5) refl) (reaches_from {t' = t5} refl e5) in
      let t7 : Text = 41 ∷ 32 ∷ t6 in
      let e7 : Reaches (reads.parts L (piece (word (codes ")")) ∷ piece (word (codes "->")) ∷ piece (word (codes "(")) ∷ piece (types rs) ∷ piece (word (codes ")")) ∷ piece (word (codes ">")) ∷ regions ∷ []) R) t7 f = reaches_part L types_law owns unreserved anywhere (piece (word (codes "->")) ∷ piece (word (codes "(")) ∷ piece (types rs) ∷ piece (word (codes ")")) ∷ piece (word (codes ">")) ∷ regions ∷ []) R (reaches_literal 41 [] (32 ∷ t6) refl) (reaches_from {t' = t6} refl e6) in
      let t8 : Text = O ++ t7 in
      let e8 : Reaches (reads.parts L (piece (types os) ∷ piece (word (codes ")")) ∷ piece (word (codes "->")) ∷ piece (word (codes "(")) ∷ piece (types rs) ∷ piece (word (codes ")")) ∷ piece (word (codes ">")) ∷ regions ∷ []) R) t8 f = reaches_part L types_law owns unreserved anywhere (piece (word (codes ")")) ∷ piece (word (codes "->")) ∷ piece (word (codes "(")) ∷ piece (types rs) ∷ piece (word (codes ")")) ∷ piece (word (codes ">")) ∷ regions ∷ []) R (back_list (reads.type L) L.types.written (λ x. ⊤) (λ x f g h. back_type L types_law owns unreserved anywhere x f h) (reads.no_type L) os t7 (every os) (inr refl) refl (types_law.misses (after_space t7) refl)) e7 in
      let t9 : Text = 40 ∷ t8 in
      let e9 : Reaches (reads.parts L (piece (word (codes "(")) ∷ piece (types os) ∷ piece (word (codes ")")) ∷ piece (word (codes "->")) ∷ piece (word (codes "(")) ∷ piece (types rs) ∷ piece (word (codes ")")) ∷ piece (word (codes ">")) ∷ regions ∷ []) R) t9 f = reaches_part L types_law owns unreserved anywhere (piece (types os) ∷ piece (word (codes ")")) ∷ piece (word (codes "->")) ∷ piece (word (codes "(")) ∷ piece (types rs) ∷ piece (word (codes ")")) ∷ piece (word (codes ">")) ∷ regions ∷ []) R (reaches_literal 40 [] t8 refl) e8 in
      let t10 : Text = 60 ∷ t9 in
      let e10 : Reaches (reads.parts L (piece (word (codes "<")) ∷ piece (word (codes "(")) ∷ piece (types os) ∷ piece (word (codes ")")) ∷ piece (word (codes "->")) ∷ piece (word (codes "(")) ∷ piece (types rs) ∷ piece (word (codes ")")) ∷ piece (word (codes ">")) ∷ regions ∷ []) R) t10 f = reaches_part L types_law owns unreserved anywhere (piece (word (codes "(")) ∷ piece (types os) ∷ piece (word (codes ")")) ∷ piece (word (codes "->")) ∷ piece (word (codes "(")) ∷ piece (types rs) ∷ piece (word (codes ")")) ∷ piece (word (codes ">")) ∷ regions ∷ []) R (reaches_literal 60 [] t9 refl) e9 in
      let t11 : Text = 58 ∷ 32 ∷ t10 in
      let e11 : Reaches (reads.parts L (piece (word (codes ":")) ∷ piece (word (codes "<")) ∷ piece (word (codes "(")) ∷ piece (types os) ∷ piece (word (codes ")")) ∷ piece (word (codes "->")) ∷ piece (word (codes "(")) ∷ piece (types rs) ∷ piece (word (codes ")")) ∷ piece (word (codes ">")) ∷ regions ∷ []) R) t11 f = reaches_part L types_law owns unreserved anywhere (piece (word (codes "<")) ∷ piece (word (codes "(")) ∷ piece (types os) ∷ piece (word (codes ")")) ∷ piece (word (codes "->")) ∷ piece (word (codes "(")) ∷ piece (types rs) ∷ piece (word (codes ")")) ∷ piece (word (codes ">")) ∷ regions ∷ []) R (reaches_literal 58 [] (32 ∷ t10) refl) (reaches_from {t' = t10} refl e10) in
      let t12 : Text = D ++ t11 in
      let e12 : Reaches (reads.parts L (piece (dictionary es) ∷ piece (word (codes ":")) ∷ piece (word (codes "<")) ∷ piece (word (codes "(")) ∷ piece (types os) ∷ piece (word (codes ")")) ∷ piece (word (codes "->")) ∷ piece (word (codes "(")) ∷ piece (types rs) ∷ piece (word (codes ")")) ∷ piece (word (codes ">")) ∷ regions ∷ []) R) t12 f = reaches_part L types_law owns unreserved anywhere (piece (word (codes ":")) ∷ piece (word (codes "<")) ∷ piece (word (codes "(")) ∷ piece (types os) ∷ piece (word (codes ")")) ∷ piece (word (codes "->")) ∷ piece (word (codes "(")) ∷ piece (types rs) ∷ piece (word (codes ")")) ∷ piece (word (codes ">")) ∷ regions ∷ []) R (back_dictionary L types_law owns unreserved anywhere es t11 fe) e11 in
      let t13 : Text = 93 ∷ 32 ∷ t12 in
      let e13 : Reaches (reads.parts L (piece (word (codes "]")) ∷ piece (dictionary es) ∷ piece (word (codes ":")) ∷ piece (word (codes "<")) ∷ piece (word (codes "(")) ∷ piece (types os) ∷ piece (word (codes ")")) ∷ piece (word (codes "->")) ∷ piece (word (codes "(")) ∷ piece (types rs) ∷ piece (word (codes ")")) ∷ piece (word (codes ">")) ∷ regions ∷ []) R) t13 f = reaches_part L types_law owns unreserved anywhere (piece (dictionary es) ∷ piece (word (codes ":")) ∷ piece (word (codes "<")) ∷ piece (word (codes "(")) ∷ piece (types os) ∷ piece (word (codes ")")) ∷ piece (word (codes "->")) ∷ piece (word (codes "(")) ∷ piece (types rs) ∷ piece (word (codes ")")) ∷ piece (word (codes ">")) ∷ regions ∷ []) R (reaches_literal 93 [] (32 ∷ t12) refl) (reaches_from {t' = t12} refl e12) in
      let t14 : Text = S ++ t13 in
      let e14 : Reaches (reads.parts L (piece (successors ls) ∷ piece (word (codes "]")) ∷ piece (dictionary es) ∷ piece (word (codes ":")) ∷ piece (word (codes "<")) ∷ piece (word (codes "(")) ∷ piece (types os) ∷ piece (word (codes ")")) ∷ piece (word (codes "->")) ∷ piece (word (codes "(")) ∷ piece (types rs) ∷ piece (word (codes ")")) ∷ piece (word (codes ">")) ∷ regions ∷ []) R) t14 f = reaches_part L types_law owns unreserved anywhere (piece (word (codes "]")) ∷ piece (dictionary es) ∷ piece (word (codes ":")) ∷ piece (word (codes "<")) ∷ piece (word (codes "(")) ∷ piece (types os) ∷ piece (word (codes ")")) ∷ piece (word (codes "->")) ∷ piece (word (codes "(")) ∷ piece (types rs) ∷ piece (word (codes ")")) ∷ piece (word (codes ">")) ∷ regions ∷ []) R (back_list (reads.target L) (spell.label L) IsName (back_target L types_law owns unreserved anywhere) reads.no_label ls t13 fl (inr refl) refl refl) e13 in
      let t15 : Text = 91 ∷ t14 in
      let e15 : Reaches (reads.parts L (piece (word (codes "[")) ∷ piece (successors ls) ∷ piece (word (codes "]")) ∷ piece (dictionary es) ∷ piece (word (codes ":")) ∷ piece (word (codes "<")) ∷ piece (word (codes "(")) ∷ piece (types os) ∷ piece (word (codes ")")) ∷ piece (word (codes "->")) ∷ piece (word (codes "(")) ∷ piece (types rs) ∷ piece (word (codes ")")) ∷ piece (word (codes ">")) ∷ regions ∷ []) R) t15 f = reaches_part L types_law owns unreserved anywhere (piece (successors ls) ∷ piece (word (codes "]")) ∷ piece (dictionary es) ∷ piece (word (codes ":")) ∷ piece (word (codes "<")) ∷ piece (word (codes "(")) ∷ piece (types os) ∷ piece (word (codes ")")) ∷ piece (word (codes "->")) ∷ piece (word (codes "(")) ∷ piece (types rs) ∷ piece (word (codes ")")) ∷ piece (word (codes ">")) ∷ regions ∷ []) R (reaches_literal 91 [] t14 refl) e14 in
      let t16 : Text = 41 ∷ 32 ∷ t15 in
      let e16 : Reaches (reads.parts L (piece (word (codes ")")) ∷ piece (word (codes "[")) ∷ piece (successors ls) ∷ piece (word (codes "]")) ∷ piece (dictionary es) ∷ piece (word (codes ":")) ∷ piece (word (codes "<")) ∷ piece (word (codes "(")) ∷ piece (types os) ∷ piece (word (codes ")")) ∷ piece (word (codes "->")) ∷ piece (word (codes "(")) ∷ piece (types rs) ∷ piece (word (codes ")")) ∷ piece (word (codes ">")) ∷ regions ∷ []) R) t16 f = reaches_part L types_law owns unreserved anywhere (piece (word (codes "[")) ∷ piece (successors ls) ∷ piece (word (codes "]")) ∷ piece (dictionary es) ∷ piece (word (codes ":")) ∷ piece (word (codes "<")) ∷ piece (word (codes "(")) ∷ piece (types os) ∷ piece (word (codes ")")) ∷ piece (word (codes "->")) ∷ piece (word (codes "(")) ∷ piece (types rs) ∷ piece (word (codes ")")) ∷ piece (word (codes ">")) ∷ regions ∷ []) R (reaches_literal 41 [] (32 ∷ t15) refl) (reaches_from {t' = t15} refl e15) in
      let t17 : Text = N ++ t16 in
      let e17 : Reaches (reads.parts L (piece (operands ns) ∷ piece (word (codes ")")) ∷ piece (word (codes "[")) ∷ piece (successors ls) ∷ piece (word (codes "]")) ∷ piece (dictionary es) ∷ piece (word (codes ":")) ∷ piece (word (codes "<")) ∷ piece (word (codes "(")) ∷ piece (types os) ∷ piece (word (codes ")")) ∷ piece (word (codes "->")) ∷ piece (word (codes "(")) ∷ piece (types rs) ∷ piece (word (codes ")")) ∷ piece (word (codes ">")) ∷ regions ∷ []) R) t17 f = reaches_part L types_law owns unreserved anywhere (piece (word (codes ")")) ∷ piece (word (codes "[")) ∷ piece (successors ls) ∷ piece (word (codes "]")) ∷ piece (dictionary es) ∷ piece (word (codes ":")) ∷ piece (word (codes "<")) ∷ piece (word (codes "(")) ∷ piece (types os) ∷ piece (word (codes ")")) ∷ piece (word (codes "->")) ∷ piece (word (codes "(")) ∷ piece (types rs) ∷ piece (word (codes ")")) ∷ piece (word (codes ">")) ∷ regions ∷ []) R (back_list (reads.name L) (λ n. n.text) IsName (back_name L types_law owns unreserved anywhere) reads.no_word ns t16 fn (inr refl) refl refl) e16 in
      let t18 : Text = 40 ∷ t17 in
      let e18 : Reaches (reads.parts L (piece (word (codes "(")) ∷ piece (operands ns) ∷ piece (word (codes ")")) ∷ piece (word (codes "[")) ∷ piece (successors ls) ∷ piece (word (codes "]")) ∷ piece (dictionary es) ∷ piece (word (codes ":")) ∷ piece (word (codes "<")) ∷ piece (word (codes "(")) ∷ piece (types os) ∷ piece (word (codes ")")) ∷ piece (word (codes "->")) ∷ piece (word (codes "(")) ∷ piece (types rs) ∷ piece (word (codes ")")) ∷ piece (word (codes ">")) ∷ regions ∷ []) R) t18 f = reaches_part L types_law owns unreserved anywhere (piece (operands ns) ∷ piece (word (codes ")")) ∷ piece (word (codes "[")) ∷ piece (successors ls) ∷ piece (word (codes "]")) ∷ piece (dictionary es) ∷ piece (word (codes ":")) ∷ piece (word (codes "<")) ∷ piece (word (codes "(")) ∷ piece (types os) ∷ piece (word (codes ")")) ∷ piece (word (codes "->")) ∷ piece (word (codes "(")) ∷ piece (types rs) ∷ piece (word (codes ")")) ∷ piece (word (codes ">")) ∷ regions ∷ []) R (reaches_literal 40 [] t17 refl) e17 in
      reaches_from {t' = t18} (ap after_space (regroup N S D O V G f)) e18
