-- A section has as many characters at least as indices, so a number that counts those of a text counts the marks of its root.
use Rattle.std.proofs.Common.{◌≡◌, ◌≤◌, ◌<◌, ◌+◌, ◌^◌, ℕ, suc, arith, List, [], ◌∷◌, ◌++◌, length, None}
use Rattle.std.specs.Prelude.{⊤, codes, decimal}
use Rattle.irtext_base.specs.Own.{Language}
use Rattle.irtext_base.specs.Text.{Text}
use Rattle.irtext_grammar.specs.Graphs.Graph as graph
use Rattle.irtext_grammar.specs.Graphs.Graph.{Graph, Printing, Limit, written, entries_of, shared, marks_in_regions, own_marks, op_outlined}
use Rattle.irtext_grammar.specs.Spelling.Section.{entry_text, entry_texts, once_texts, section, text}
use Rattle.irtext_grammar.specs.Spelling.SectionEntries.{SmallSection}
use Rattle.irtext_grammar.specs.Spelling.Spell.{spelled}
use Rattle.irtext_grammar.proofs.Sections.Content.{length_entries}

pub length_both : (xs ys : Text) → length (xs ++ ys) ≡ length xs + length ys
length_both [] ys = omega arith
length_both (x ∷ xs) ys = let r = length_both xs ys in omega (arith, r)

longer : (xs ys : Text) → length ys ≤ length (xs ++ ys)
longer xs ys = let e = length_both xs ys in omega (arith, e)

module _ {T A : Type 0} (L : Language ⊤ T A) (C : Printing T A) where
  entries_long : (items : ℕ) (once : List A) (n : ℕ) (es : List (graph.Entry C)) → length es ≤ length (entry_texts L C items once n es)
  entries_long items once n [] = omega arith
  entries_long items once n (e ∷ es) =
      let r = entries_long items once (suc n) es in
      let q = longer (entry_text L C items once n e) (entry_texts L C items once (suc n) es) in
      let s = length_both (entry_text L C items once n e) (entry_texts L C items once (suc n) es) in
      let k : 1 ≤ length (entry_text L C items once n e) = omega arith in
      omega (arith, r, s, k)

  once_long : (n : ℕ) (xs : List A) → length xs ≤ length (once_texts L C n xs)
  once_long n [] = omega arith
  once_long n (a ∷ xs) =
      let r = once_long (suc n) xs in
      let rest = once_texts L C (suc n) xs in
      let k : suc (length rest) ≤ length (L.owns.written a ++ (10 ∷ rest)) = longer (L.owns.written a) (10 ∷ rest) in
      let p = longer (codes " = ") (L.owns.written a ++ (10 ∷ rest)) in
      let q = longer (decimal n) (codes " = " ++ (L.owns.written a ++ (10 ∷ rest))) in
      let s = longer (codes "!") (decimal n ++ (codes " = " ++ (L.owns.written a ++ (10 ∷ rest)))) in
      omega (arith, r, k, p, q, s)

  section_long : (es : List (graph.Entry C)) → length es + length (shared C es) ≤ length (section L C es)
  section_long [] = omega arith
  section_long (e ∷ es) =
      let all = e ∷ es in
      let once = shared C all in
      let a = entries_long (length all) once 0 all in
      let b = once_long (length all) once in
      let s = length_both (entry_texts L C (length all) once 0 all) (once_texts L C (length all) once) in
      let q = longer (codes "\n\noutlined_attributes:\n") (entry_texts L C (length all) once 0 all ++ once_texts L C (length all) once) in
      omega (arith, a, b, s, q)

  text_long : (l : Limit) (g : Graph T A) (width indentation : ℕ) → length (entries_of C l g) + length (shared C (entries_of C l g)) ≤ length (text L C g indentation width l)
  text_long l g width indentation =
      let a = section_long (entries_of C l g) in
      let b = longer (spelled L width indentation (written C l g)) (section L C (entries_of C l g)) in
      omega (arith, a, b)

  -- a number counts the indices of the section
  pub small_section : (g : Graph T A) (width indentation : ℕ) → length (text L C g indentation width None) < 2 ^ 64 → SmallSection C g
  small_section g width indentation h = let a = text_long None g width indentation in omega (arith, a, h)

  -- and the marks
  pub small_marks : (l : Limit) (g : Graph T A) (width indentation : ℕ) → length (text L C g indentation width l) < 2 ^ 64 → marks_in_regions C l g.regions + own_marks C g.own.location (op_outlined C g.own) < 2 ^ 64
  small_marks l g width indentation h = let a = text_long l g width indentation in let e = length_entries C l g in omega (arith, a, h, e)
