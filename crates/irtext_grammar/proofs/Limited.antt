-- The text of a root that was printed under a limit parses as nothing where a region was left out.
use Rattle.std.specs.Prelude.{◌++◌, ◌<◌, ◌^◌, ℕ, Bool, List, [], length, refl}
use Rattle.std.proofs.Common.{inr, inl, ap, sym, subst, ◌∙◌, append-nil}
use Rattle.irtext_base.specs.Answers.{Outcome}
use Rattle.irtext_base.specs.Format.{Id}
use Rattle.irtext_base.specs.Locations.{AttrView}
use Rattle.irtext_base.specs.Own.{Texts, Lawful, Unreserved, language, unplaced}
use Rattle.irtext_base.specs.Paths.{Written}
use Rattle.irtext_base.specs.Text.{Text}
use Rattle.irtext_grammar.specs.Spelling.Spell.{spelled}
use Rattle.irtext_grammar.specs.Graphs.Graph.{Graph, Limit, Printing, written, entries_of}
use Rattle.irtext_grammar.specs.Spelling.Section.{section}
use Rattle.irtext_grammar.specs.Grammar.Reads.{reads}
use Rattle.irtext_grammar.specs.Grammar.Bare.{bare}
use Rattle.irtext_grammar.specs.Grammar.Marked.{AllShown, reads_root}
use Rattle.irtext_grammar.specs.Grammar.Section.{Entry}
use Rattle.irtext_grammar.specs.Grammar.Tree.{Tree}
use Rattle.irtext_grammar.proofs.Grammar.BackTree as back
use Rattle.irtext_grammar.proofs.Grammar.Placed as placed
use Rattle.irtext_grammar.proofs.Grammar.Unique as unique
use Rattle.irtext_grammar.proofs.Grammar.Lenient.{lenient, lenient_reads, bare_all_shown}
use Rattle.irtext_grammar.proofs.Graphs.WrittenSpellable.{written_fine_at}
use Rattle.irtext_grammar.proofs.Sections.AfterRoot.{section_after}
use Rattle.irtext_grammar.specs.Promises.Supported.{location_verdict}
use Rattle.irtext_grammar.specs.Back.{IsTextOf}
use Rattle.irtext_grammar.proofs.Lengths.{small_marks}

pub limited_refused : {T A : Type 0} (types : Texts T) (owns : Texts A) → Lawful T types → Lawful A owns → Unreserved A owns → (attr : Text → Outcome (AttrView A)) (C : Printing T A) (isolated : Id → Bool) (g : Graph T A) (width n : ℕ) (limit : Limit) (t rest : Text) (tree : Tree ℕ T A) (entries : List (Entry ℕ A (Written A)))
    → IsTextOf types owns attr C isolated g width n limit t → (AllShown (written C limit g) → ⊥) → reads_root (language types owns C.format_of) (location_verdict attr) tree entries t rest → ⊥
limited_refused types owns types_law owns_law unreserved attr C isolated x width n limit t u tree entries printed left a =
    let strict = language types owns C.format_of in
    let l = unplaced types owns C.format_of in
    let y = written C limit x in
    let e = section l C (entries_of C limit x) in
    let z = spelled l width n y ++ (e ++ []) in
    let few = subst (λ (z : List ℕ). length z < 2 ^ 64) printed.is printed.few in
    let fine = written_fine_at C isolated (lenient l) (λ i. refl) limit (inr (λ f. refl)) x printed.kept.given printed.kept.label printed.kept.own printed.kept.inside (small_marks l C limit x width n few) printed.fits printed.kept.small in
    let r = back.root_reads_back (lenient l) types_law owns_law unreserved (λ p t. tt) width n y (e ++ []) fine (section_after C isolated (lenient l) (λ i. refl) limit x [] printed.fits (record { ends = inl refl; one = λ e. inl refl })) in
    let q = placed.placed (lenient strict) length (λ t. refl) y z r.0 r.1 in
    let whole = printed.is ∙ ap (λ s. spelled l width n y ++ s) (sym (append-nil e)) in
    let b = lenient_reads strict (λ t u k. k) tree z a.0 (subst (λ v. reads strict tree v a.0) whole a.1) in
    let same = unique.one_tree (lenient strict) types_law owns_law (λ p q t e f. e ∙ sym f) (λ t u k. k) tree q.0 z a.0 r.0 b.0 q.1 in
    left (subst AllShown (ap bare same.0 ∙ q.2) (bare_all_shown tree b.1))
